use Rattle.std.proofs.Common.{refl, ◌∙◌}
use Rattle.tlsf_syntax.proofs.Seen.{big_seen}
use Rattle.tlsf_reader.proofs.node.big.Goals as goal

pub returns : goal.returns
returns c = big_seen _ c.args.op c.args.ranges c.in_ok-part.part ∙ (rw (c.in_ok-part.ensures, c.span-end.ensures) refl)
