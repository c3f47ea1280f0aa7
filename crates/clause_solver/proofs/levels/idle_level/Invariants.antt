use Rattle.std.proofs.Common.{take}
use Rattle.clause_solver.proofs.IdleLemmas.{AreOpen, IsTrueFrom}
use Rattle.clause_solver.proofs.levels.idle_level.Given as goal

abbrev pub invariant-loop-lit : goal.invariant-loop-lit
invariant-loop-lit l = AreOpen l.trail.marks (take l.lit-index l.lit-items) l.highest l.second × IsTrueFrom l.trail.marks (take l.lit-index l.lit-items) l.truth
