use Rattle.std.proofs.Common.{All, Contains, take}
use Rattle.propositional_logic.specs.Literal.{negated}
use Rattle.unit_propagate.specs.Trail.{literals_of}
use Rattle.unit_propagate.proofs.propagator.unfalsified.Given as goal

abbrev pub invariant-loop-lit : goal.invariant-loop-lit
invariant-loop-lit l = All (λ x. Contains (literals_of l.marks.marks) (negated x)) (take l.lit-index l.lits)
