use Rattle.std.proofs.Common.{◌≡◌, Bool, true, false, not, ◌&&◌, refl, sym, true≢false}
use mathlib.Core.Bool.{beq}

-- no bit is its own opposite
pub not_same : (b : Bool) → not b ≡ b → ⊥
not_same true e = true≢false (sym e)
not_same false e = true≢false e

-- what `beq` calls the same is the same
pub beq-true : (a b : Bool) → beq a b ≡ true → a ≡ b
beq-true true true e = refl
beq-true true false e = sym e
beq-true false true e = e
beq-true false false e = refl

pub and_true : (b : Bool) → b ≡ (b && true)
and_true true = refl
and_true false = refl

pub and_false : (b : Bool) → (b && false) ≡ false
and_false true = refl
and_false false = refl
