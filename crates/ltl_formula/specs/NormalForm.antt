use Rattle.ltl_formula.specs.Tree.{Tree}
use Rattle.ltl_formula.specs.Tree.Tree.{truth, falsity, signal, negation, next_time, finally, globally, conjunction, disjunction, implication, equivalence, until, release, weak_until}

-- the formula is a signal
abbrev pub IsSignal : Tree → Type 0
IsSignal (signal s) = Unit {0}
IsSignal truth = ⊥
IsSignal falsity = ⊥
IsSignal (negation a) = ⊥
IsSignal (next_time a) = ⊥
IsSignal (finally a) = ⊥
IsSignal (globally a) = ⊥
IsSignal (conjunction a b) = ⊥
IsSignal (disjunction a b) = ⊥
IsSignal (implication a b) = ⊥
IsSignal (equivalence a b) = ⊥
IsSignal (until a b) = ⊥
IsSignal (release a b) = ⊥
IsSignal (weak_until a b) = ⊥

-- the formula is in normal form: made of true, false, signals and their negations by and, or, next, until and release
-- (linear temporal logic)
abbrev pub IsNormal : Tree → Type 0
IsNormal truth = Unit {0}
IsNormal falsity = Unit {0}
IsNormal (signal s) = Unit {0}
IsNormal (negation a) = IsSignal a
IsNormal (next_time a) = IsNormal a
IsNormal (finally a) = ⊥
IsNormal (globally a) = ⊥
IsNormal (conjunction a b) = IsNormal a × IsNormal b
IsNormal (disjunction a b) = IsNormal a × IsNormal b
IsNormal (implication a b) = ⊥
IsNormal (equivalence a b) = ⊥
IsNormal (until a b) = IsNormal a × IsNormal b
IsNormal (release a b) = IsNormal a × IsNormal b
IsNormal (weak_until a b) = ⊥
