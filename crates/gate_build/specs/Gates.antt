-- Gates as they are made: each pair of operands once (this project's own).
use Rattle.std.specs.Prelude.{ℕ, ◌+◌, ◌-◌, ◌*◌, ◌%◌, ◌==◌, ◌&&◌, ◌||◌, Bool, List, [], ◌∷◌, ◌++◌, min, max, if◌then◌else◌}
use Rattle.std.specs.List.{list_any, position_or_len}
use Rattle.gate_build.specs.declared.gates.Operands.{Operands}

-- the literal of the opposite value
abbrev pub opposite : ℕ → ℕ
opposite x = if x % 2 == 0 then x + 1 else x - 1

abbrev pub same_operands : Operands → Operands → Bool
same_operands a b = (a.greater == b.greater) && (a.lesser == b.lesser)

-- what was built: the operands of the gates made so far, in order, and a literal
pub record Built : Type 0 where
  pub gates : List Operands
  pub literal : ℕ

-- the opposite of what was built
abbrev pub negated : Built → Built
negated b = record { gates = b.gates; literal = opposite b.literal }

-- the gate of these operands, made once; the first gate has the variable `first`, and those behind it the ones that follow
unfoldable pub gate_of : ℕ → List Operands → Operands → Built
gate_of first gates pair = record {
  gates = if list_any (same_operands pair) gates then gates else (gates ++ pair ∷ []);
  literal = 2 * (first + position_or_len (same_operands pair) gates);
}

-- one of the literals is 0, or they are opposite
abbrev pub exclude : ℕ → ℕ → Bool
exclude x y = (x == 0) || (y == 0) || (x == opposite y)

-- both: 0 where one is 0 or they are opposite, the other where one is 1, x where they are equal; else their gate,
-- with the greater literal first
unfoldable pub and_of : ℕ → List Operands → ℕ → ℕ → Built
and_of first gates x y =
    if exclude x y then record { gates = gates; literal = 0 }
    else if x == 1 then record { gates = gates; literal = y }
    else if y == 1 then record { gates = gates; literal = x }
    else if x == y then record { gates = gates; literal = x }
    else gate_of first gates (record { greater = max x y; lesser = min x y })

-- p where x is set, else q: by the first case that applies
unfoldable pub ite_of : ℕ → List Operands → ℕ → ℕ → ℕ → Built
ite_of first gates x p q =
    if p == q then record { gates = gates; literal = p }
    else if (p == 1) && (q == 0) then record { gates = gates; literal = x }
    else if (p == 0) && (q == 1) then record { gates = gates; literal = opposite x }
    else if p == 0 then and_of first gates (opposite x) q
    else if q == 0 then and_of first gates x p
    else if p == 1 then negated (and_of first gates (opposite x) (opposite q))
    else if q == 1 then negated (and_of first gates x (opposite p))
    else both (and_of first gates x p)
  where
    last : ℕ → Built → Built
    last one other = negated (and_of first other.gates (opposite one) (opposite other.literal))

    both : Built → Built
    both one = last one.literal (and_of first one.gates (opposite x) q)

-- A test of a number by its bits, the lowest one being that of the first literal: split on the literals in turn, the part
-- for 1 first, then the part for 0. The bits that were chosen already make `value`; the next one counts `weight`.
unfoldable pub split_of : ℕ → (ℕ → Bool) → List ℕ → ℕ → ℕ → List Operands → Built
split_of first test [] value weight gates = record { gates = gates; literal = if test value then 1 else 0 }
split_of first test (x ∷ xs) value weight gates = joined (split_of first test xs (value + weight) (2 * weight) gates) (λ made. split_of first test xs value (2 * weight) made)
  where
    joined : Built → (List Operands → Built) → Built
    joined one rest = chosen one.literal (rest one.gates)
      where
        chosen : ℕ → Built → Built
        chosen p other = ite_of first other.gates x p other.literal
