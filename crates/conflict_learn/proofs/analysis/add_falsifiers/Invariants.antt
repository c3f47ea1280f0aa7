use Rattle.std.proofs.Common.{ℕ, ◌⊎◌, Contains, take}
use Rattle.propositional_logic.specs.Literal.{Literal, negated}
use Rattle.unit_propagate.specs.Trail.{literals_of}
use Rattle.conflict_learn.specs.Analysis.{HasFalsifier, FalsifiesOne}
use Rattle.conflict_learn.proofs.analysis.add_falsifiers.Given as goal

abbrev pub invariant-loop-lit : goal.invariant-loop-lit
invariant-loop-lit l = ((q : ℕ) → Contains l.initial.places q → Contains l.places q)
    × ((x : Literal) → Contains (take l.lit-index l.lits) x → Contains (literals_of l.trail.marks) (negated x) → HasFalsifier l.trail.marks l.places x)
    × ((q : ℕ) → Contains l.places q → Contains l.initial.places q ⊎ FalsifiesOne l.trail.marks l.lits q)
