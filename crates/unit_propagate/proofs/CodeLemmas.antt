-- The numbers of literals.
use Rattle.std.proofs.Common.{◌≡◌, ℕ, ◌+◌, ◌*◌, ◌^◌, ◌<◌, ◌≤◌, Bool, true, false, cond, arith}
use Rattle.propositional_logic.specs.Literal.{Literal}
use Rattle.propositional_logic.specs.Codes.{code_of}
use Rattle.unit_propagate.specs.Marks.{room_of}

-- two literals have different numbers
pub code_same : (a b : Literal) → code_of a ≡ code_of b → a ≡ b
code_same a b = by a.var a.positive b.var b.positive
  where
    by : (v : ℕ) (p : Bool) (w : ℕ) (q : Bool) → 2 * v + cond p 1 0 ≡ 2 * w + cond q 1 0 → ◌≡◌ {A = Literal} (record { var = v; positive = p }) (record { var = w; positive = q })
    by v true w true e = let s : v ≡ w = omega arith in λ i. record { var = s i; positive = true }
    by v true w false e = absurd (omega arith)
    by v false w true e = absurd (omega arith)
    by v false w false e = let s : v ≡ w = omega arith in λ i. record { var = s i; positive = false }

pub code_fits : (vars rows : ℕ) (l : Literal) → rows ≡ 2 * room_of vars → l.var ≤ vars → code_of l ≤ 2 * 2 ^ 30 + 1 → code_of l < rows
code_fits vars rows l e h c = by l.var l.positive h c
  where
    by : (v : ℕ) (p : Bool) → v ≤ vars → 2 * v + cond p 1 0 ≤ 2 * 2 ^ 30 + 1 → 2 * v + cond p 1 0 < rows
    by v true a b = omega arith
    by v false a b = omega arith

-- a variable in the table of values has both literals in that of twice its size
pub code_below : (room : ℕ) (l : Literal) → l.var < room → code_of l < 2 * room
code_below room l h = by l.var l.positive h
  where
    by : (v : ℕ) (p : Bool) → v < room → 2 * v + cond p 1 0 < 2 * room
    by v true a = omega arith
    by v false a = omega arith
