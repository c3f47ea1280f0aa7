use Rattle.std.proofs.Common.{◌≡◌, ℕ, ◌+◌, ◌-◌, ◌/◌, ◌%◌, ◌^◌, ◌<◌, Bool, false, eqb, List, length, get_or, sym, ap, ◌∙◌, arith}
use Rattle.std.specs.Prelude.{map}
use Rattle.std.specs.List.{range_with_len}
use Rattle.std.proofs.Math.Nat.{mod-lt, div-div-eq-div-mul}
use Rattle.std.proofs.Math.Pow.{mod-mod-pow}
use Rattle.std.proofs.lemmas.Nat.{pow-add, mod-pow-add, div-mul-add, pow_pos}
use Rattle.std.proofs.lemmas.List.FromFn.{length-map-range_with_len, get_or-map-range_with_len}
use Rattle.letters_and_lassos.specs.Signals.{has}

-- the first n bits of a number
abbrev pub bits_of : ℕ → ℕ → List Bool
bits_of n a = map (has a) (range_with_len 0 n)

pub length-bits_of : (n a : ℕ) → length (bits_of n a) ≡ n
length-bits_of n a = length-map-range_with_len (has a) 0 n

pub get_or-bits_of : (n a k : ℕ) → k < n → get_or (bits_of n a) k false ≡ has a k
get_or-bits_of n a k h = get_or-map-range_with_len (has a) 0 n k k false h (omega arith)

-- the bits of the upper and of the lower part of a number
pub has-div : (a w k : ℕ) → has (a / 2 ^ w) k ≡ has a (w + k)
has-div a w k = ap (λ n. eqb (n % 2) 1) (div-div-eq-div-mul a (2 ^ w) (2 ^ k) ∙ ap (λ n. a / n) (sym (pow-add 2 w k)))

pub has-mod : (a n k : ℕ) → k < n → has (a % 2 ^ n) k ≡ has a k
has-mod a n k h =
    let j : ℕ = n - k - 1 in
    let sum : n ≡ (j + 1) + k = omega arith in
    let small : a % 2 ^ k < 2 ^ k = mod-lt a (pow_pos k) in
    let front : a % 2 ^ n / 2 ^ k ≡ a / 2 ^ k % 2 ^ (j + 1) =
    ap (λ (m : ℕ). a % 2 ^ m / 2 ^ k) sum ∙ ap (λ m. m / 2 ^ k) (mod-pow-add a (j + 1) k)
    ∙ div-mul-add (a / 2 ^ k % 2 ^ (j + 1)) (2 ^ k) (a % 2 ^ k) small in
    ap (λ m. eqb (m % 2) 1) front ∙ ap (λ m. eqb m 1) (mod-mod-pow (a / 2 ^ k) j 1)
