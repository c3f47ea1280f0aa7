-- Clauses that are given by AIGER's literals, and the base clauses that are made of them.
use Rattle.std.specs.Prelude.{◌==◌, ℕ, zero, suc, ◌+◌, ◌-◌, ◌/◌, ◌%◌, ◌||◌, Bool, List, [], ◌∷◌, map, nat_eq, nat_lt, if◌then◌else◌}
use Rattle.std.specs.List.{flat_map, list_any}
use Rattle.propositional_logic.specs.Literal.{Literal}

-- the literal of the same variable whose value is the opposite (AIGER 1.9)
abbrev pub opposite : ℕ → ℕ
opposite l = if l % 2 == 0 then (l + 1) else (l - 1)

-- x has the value of y, as two clauses (propositional logic)
abbrev pub equal : ℕ → ℕ → List (List ℕ)
equal x y = (opposite x ∷ y ∷ []) ∷ (x ∷ opposite y ∷ []) ∷ []

-- x has the value of the conjunction of a and b, as three clauses (propositional logic)
abbrev pub conjoined : ℕ → ℕ → ℕ → List (List ℕ)
conjoined x a b = (opposite x ∷ a ∷ []) ∷ (opposite x ∷ b ∷ []) ∷ (x ∷ opposite a ∷ opposite b ∷ []) ∷ []

-- these literals are a clause that is true whatever the values are: 1 is among them, or a literal and its opposite
-- (propositional logic)
abbrev pub is_valid : List ℕ → Bool
is_valid lits = list_any (λ l. nat_eq l 1 || list_any (nat_eq (opposite l)) lits) lits

-- a literal put into a rising list, where it stands once
abbrev pub placed : ℕ → List ℕ → List ℕ
placed l [] = l ∷ []
placed l (m ∷ ms) = if nat_eq l m then (m ∷ ms) else if nat_lt l m then (l ∷ m ∷ ms) else (m ∷ placed l ms)

-- the literals but 0, rising, each once
abbrev pub rising : List ℕ → List ℕ
rising [] = []
rising (zero ∷ lits) = rising lits
rising (suc l ∷ lits) = placed (suc l) (rising lits)

-- the literal of a clause that AIGER's literal is, where it is no constant: an even one is the variable itself
abbrev pub literal_of : ℕ → Literal
literal_of l = record { var = l / 2; positive = nat_eq (l % 2) 0 }

-- the base clause that is made of these literals, and none where they are true whatever the values are (this project's own)
abbrev pub made : List ℕ → List (List Literal)
made lits = if is_valid lits then [] else (map literal_of (rising lits) ∷ [])

-- the base clauses that are made of many clauses, in their order (this project's own)
abbrev pub base_clauses : List (List ℕ) → List (List Literal)
base_clauses clauses = flat_map made clauses
