use Rattle.std.proofs.Common.{◌≡◌, All, take}
use Rattle.std.specs.Prelude.{MatchOption}
use Rattle.unit_propagate.specs.Watches.{IsFalsifier}
use Rattle.unit_propagate.proofs.propagator.last_falsified.Given as goal

abbrev pub invariant-loop-lit : goal.invariant-loop-lit
invariant-loop-lit l = MatchOption l.last (All (λ x. x ≡ l.except) (take l.lit-index l.lits)) (IsFalsifier l.marks.marks l.lits l.except)
