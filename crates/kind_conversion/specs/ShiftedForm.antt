use Rattle.std.specs.Prelude.{ℕ, if◌then◌else◌}
use Rattle.ltl_formula.specs.Tree.{Tree}
use Rattle.ltl_formula.specs.Tree.Tree.{truth, falsity, signal, negation, next_time, finally, globally, conjunction, disjunction, implication, equivalence, until, release, weak_until}
use Rattle.kind_conversion.specs.declared.shifts.Shift.{Shift}
use Rattle.kind_conversion.specs.Shifts.{is_shifted}

-- the formula with X before each shifted signal (TLSF 1.1)
abbrev pub shifted_form : Shift → ℕ → Tree → Tree
shifted_form shift inputs truth = truth
shifted_form shift inputs falsity = falsity
shifted_form shift inputs (signal s) = if is_shifted shift inputs s then next_time (signal s) else signal s
shifted_form shift inputs (negation a) = negation (shifted_form shift inputs a)
shifted_form shift inputs (next_time a) = next_time (shifted_form shift inputs a)
shifted_form shift inputs (finally a) = finally (shifted_form shift inputs a)
shifted_form shift inputs (globally a) = globally (shifted_form shift inputs a)
shifted_form shift inputs (conjunction a b) = conjunction (shifted_form shift inputs a) (shifted_form shift inputs b)
shifted_form shift inputs (disjunction a b) = disjunction (shifted_form shift inputs a) (shifted_form shift inputs b)
shifted_form shift inputs (implication a b) = implication (shifted_form shift inputs a) (shifted_form shift inputs b)
shifted_form shift inputs (equivalence a b) = equivalence (shifted_form shift inputs a) (shifted_form shift inputs b)
shifted_form shift inputs (until a b) = until (shifted_form shift inputs a) (shifted_form shift inputs b)
shifted_form shift inputs (release a b) = release (shifted_form shift inputs a) (shifted_form shift inputs b)
shifted_form shift inputs (weak_until a b) = weak_until (shifted_form shift inputs a) (shifted_form shift inputs b)
