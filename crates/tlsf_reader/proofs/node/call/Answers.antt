use Rattle.std.proofs.Common.{refl, ◌∙◌}
use Rattle.tlsf_syntax.proofs.Seen.{call_seen}
use Rattle.tlsf_reader.proofs.node.call.Goals as goal

pub returns : goal.returns
returns c = call_seen _ c.in_ok-word.word c.args.arguments ∙ (rw (c.in_ok-word.ensures, c.from_to.ensures) refl)
