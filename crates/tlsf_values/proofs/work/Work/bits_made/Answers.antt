use Rattle.std.proofs.Common.{arith, rules}
use Rattle.std.proofs.lemmas.Grind.{common_steps}
use Rattle.tlsf_values.proofs.GrowLemmas.{nodes_grow}
use Rattle.tlsf_values.proofs.work.Work.bits_made.Goals as goal
use Rattle.tlsf_values.proofs.work.Work.bits_made.Goals.{in-Some+in_ok-id+in_ok-joined_to, in_default}

pub loop-i-preserved : goal.loop-i-preserved
loop-i-preserved c = elim c.match-bit.branch [
  | in-Some+in_ok-id+in_ok-joined_to w ↦ rw (w.self-is, w.so_far-is) (grind (arith, common_steps), search (rules, nodes_grow))
  | in_default w ↦ rw (w.self-is, w.so_far-is) (grind (arith, common_steps), search (rules, nodes_grow))
]
