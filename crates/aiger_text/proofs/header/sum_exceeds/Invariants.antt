use Rattle.aiger_text.proofs.Columns.{AddsUp}
use Rattle.aiger_text.proofs.header.sum_exceeds.Given as goal

abbrev pub invariant-loop-place : goal.invariant-loop-place
invariant-loop-place l = AddsUp l.first l.second l.third l.most l.place l.carry l.above
