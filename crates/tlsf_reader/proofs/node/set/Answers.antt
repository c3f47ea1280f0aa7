use Rattle.std.proofs.Common.{refl, ◌∙◌}
use Rattle.tlsf_syntax.proofs.Seen.{set_seen}
use Rattle.tlsf_reader.proofs.node.set.Goals as goal

pub returns : goal.returns
returns c = set_seen _ c.args.members ∙ (rw c.from_to.ensures refl)
