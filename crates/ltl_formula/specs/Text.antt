use Rattle.std.specs.Prelude.{ℕ, List, [], ◌++◌, codes, slice_index_or}
use Rattle.ltl_formula.specs.Tree.{Tree}
use Rattle.ltl_formula.specs.Tree.Tree.{truth, falsity, signal, negation, next_time, finally, globally, conjunction, disjunction, implication, equivalence, until, release, weak_until}

-- an operator before its part
abbrev pub prefixed : List ℕ → List ℕ → List ℕ
prefixed word part = codes "(" ++ word ++ codes " " ++ part ++ codes ")"

-- an operator between its parts
abbrev pub infix_text : List ℕ → List ℕ → List ℕ → List ℕ
infix_text left word right = codes "(" ++ left ++ codes " " ++ word ++ codes " " ++ right ++ codes ")"

-- the text of a formula, with the names of the signals: every operator but `!` has its brackets (this project's own)
abbrev pub formula_text : List (List ℕ) → Tree → List ℕ
formula_text names truth = codes "true"
formula_text names falsity = codes "false"
formula_text names (signal s) = slice_index_or names s []
formula_text names (negation a) = codes "!" ++ formula_text names a
formula_text names (next_time a) = prefixed (codes "X") (formula_text names a)
formula_text names (finally a) = prefixed (codes "F") (formula_text names a)
formula_text names (globally a) = prefixed (codes "G") (formula_text names a)
formula_text names (conjunction a b) = infix_text (formula_text names a) (codes "&&") (formula_text names b)
formula_text names (disjunction a b) = infix_text (formula_text names a) (codes "||") (formula_text names b)
formula_text names (implication a b) = infix_text (formula_text names a) (codes "->") (formula_text names b)
formula_text names (equivalence a b) = infix_text (formula_text names a) (codes "<->") (formula_text names b)
formula_text names (until a b) = infix_text (formula_text names a) (codes "U") (formula_text names b)
formula_text names (release a b) = infix_text (formula_text names a) (codes "R") (formula_text names b)
formula_text names (weak_until a b) = infix_text (formula_text names a) (codes "W") (formula_text names b)
