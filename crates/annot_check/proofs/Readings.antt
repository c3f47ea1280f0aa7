-- What an annotation's text states is one thing.
use Rattle.std.proofs.Common.{◌≡◌, ℕ}
use Rattle.std.specs.Prelude.{Result, Ok, Err}
use Rattle.annot_check.specs.Stated.{ReadingsAreApart}

pub same_ok : {X : Type 0} (r : Result X ℕ) (x y : X) → r ≡ Ok x → r ≡ Ok y → x ≡ y
same_ok r x y p q = cc

pub same_err : {X : Type 0} (r : Result X ℕ) (m n : ℕ) → r ≡ Err m → r ≡ Err n → m ≡ n
same_err r m n p q = cc

pub never_both : {X : Type 0} (r : Result X ℕ) (x : X) (n : ℕ) → r ≡ Ok x → r ≡ Err n → ⊥
never_both r x n p q = cc

pub readings_are_apart : ReadingsAreApart
readings_are_apart = record {
  one_list = λ bytes latches states p q of_p of_q. same_ok _ p q of_p of_q;
  one_line = λ bytes latches states m n of_m of_n. same_err _ m n of_m of_n;
  apart = λ bytes latches states p n of_p of_n. never_both _ p n of_p of_n;
}
