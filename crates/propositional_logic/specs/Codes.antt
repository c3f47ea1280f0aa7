-- The number by which a literal is kept.
use Rattle.std.proofs.Common.{◌≡◌, ℕ, suc, zero, ◌+◌, ◌*◌, ◌/◌, ◌%◌, ◌<◌, cond, nat_eq, refl, ap, ◌∙◌, arith}
use Rattle.std.proofs.Math.Nat.{div-add-mod, mod-lt}
use Rattle.propositional_logic.specs.Literal.{Literal}

-- Twice its variable, and one more where it is positive (this project's own).
abbrev pub code_of : Literal → ℕ
code_of l = 2 * l.var + cond l.positive 1 0

-- The literal of a number (this project's own).
abbrev pub decoded : ℕ → Literal
decoded n = record { var = n / 2; positive = nat_eq (n % 2) 1 }

bit : (r : ℕ) → r < 2 → cond (nat_eq r 1) 1 0 ≡ r
bit zero lt = refl
bit (suc zero) lt = refl
bit (suc (suc r)) lt = absurd (omega arith)

pub code_of-decoded : (n : ℕ) → code_of (decoded n) ≡ n
code_of-decoded n = ap (λ r. 2 * (n / 2) + r) (bit (n % 2) (mod-lt n (omega arith))) ∙ div-add-mod n 2
