use Rattle.std.proofs.Common.{◌≡◌, max, drop}
use Rattle.conflict_learn.specs.Learnt.{clause_level}
use Rattle.conflict_learn.proofs.analysis.highest_level.Given as goal

abbrev pub invariant-loop-lit : goal.invariant-loop-lit
invariant-loop-lit l = max l.top (clause_level l.trail.marks (drop l.lit-index l.lits)) ≡ clause_level l.trail.marks l.lits
