use Rattle.aiger_text.specs.Groups.{Closes}
use Rattle.aiger_text.proofs.groups.close_from.Given as goal

abbrev pub invariant-loop-place : goal.invariant-loop-place
invariant-loop-place l = Closes l.fn.stages l.stages l.opened l.from l.place l.on_cycle
