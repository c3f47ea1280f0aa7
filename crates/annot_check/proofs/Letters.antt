-- What is read and what is written, in one letter.
use Rattle.std.proofs.Common.{◌≡◌, ℕ, ◌+◌, ◌-◌, ◌*◌, ◌/◌, ◌%◌, ◌^◌, ◌<◌, ◌≤◌, Bool, false, List, length, get_or, sym, ap, subst, ◌∙◌, arith, inl, inr}
use Rattle.std.proofs.Math.Nat.{div-lt_iff_lt-mul, mod-lt, mul-le-mul_right}
use Rattle.std.proofs.lemmas.Bool.{cases_lt}
use Rattle.std.proofs.lemmas.Nat.{div-mul-add, mod-mul-add, pow-add, pow_pos}
use Rattle.letters_and_lassos.specs.declared.kinds.Side.{Side}
use Rattle.letters_and_lassos.specs.declared.kinds.Side.TheVariants.{System, Environment}
use Rattle.letters_and_lassos.specs.Bits.{binary_value}
use Rattle.letters_and_lassos.specs.Signals.{has}
use Rattle.letters_and_lassos.proofs.Bits.{has-number_of, number_of-lt}
use Rattle.aiger_text.specs.Circuit.{Circuit, first_read, first_written}
use Rattle.aiger_text.proofs.Bits.{has-div, has-mod}
use Rattle.annot_check.specs.Steps.{read_of, whole_of}

-- a number of lower and one of upper signals, in one
module _ (n m low high : ℕ) (small : low < 2 ^ n) (few : high < 2 ^ m) where
  abbrev both : ℕ
  both = high * 2 ^ n + low

  has-low : (k : ℕ) → k < n → has both k ≡ has low k
  has-low k h = sym (has-mod both n k h) ∙ ap (λ x. has x k) (mod-mul-add high (2 ^ n) low small)

  has-high : (k : ℕ) → has both (n + k) ≡ has high k
  has-high k = sym (has-div both n k) ∙ ap (λ x. has x k) (div-mul-add high (2 ^ n) low small)

  both-lt : both < 2 ^ (n + m)
  both-lt =
      let more : (high + 1) * 2 ^ n ≤ 2 ^ m * 2 ^ n = mul-le-mul_right (2 ^ n) (let le : high + 1 ≤ 2 ^ m = omega (arith, few) in le) in
      let e : 2 ^ (n + m) ≡ 2 ^ n * 2 ^ m = pow-add 2 n m in
      rw e (omega (arith, more, small))

-- the first of them stands at 0
from_none : (letter k : ℕ) → has letter (0 + k) ≡ has letter k
from_none letter k = (let e : 0 + k ≡ k = omega arith in ap (has letter) e)

-- the letter has these signals where the circuit reads and writes
pub record HasParts (side : Side) (c : Circuit) (letter read : ℕ) (written : List Bool) : Type 0 where
  pub reads : (k : ℕ) → k < length c.inputs → has letter (first_read side c + k) ≡ has read k
  pub writes : (k : ℕ) → k < length c.outputs → has letter (first_written side c + k) ≡ get_or written k false
  pub within : letter < 2 ^ (length c.inputs + length c.outputs)

pub whole_parts : (side : Side) (c : Circuit) (read : ℕ) (written : List Bool) → read < 2 ^ length c.inputs → length written ≡ length c.outputs
    → HasParts side c (whole_of side c read (binary_value written)) read written
whole_parts System c read written small count =
    let few : binary_value written < 2 ^ length c.outputs = subst (λ n. binary_value written < 2 ^ n) count (number_of-lt written) in
    record {
      reads = λ k h. from_none (whole_of System c read (binary_value written)) k ∙ has-low (length c.inputs) (length c.outputs) read (binary_value written) small few k h;
      writes = λ k h. has-high (length c.inputs) (length c.outputs) read (binary_value written) small few k ∙ has-number_of written k (rw count h);
      within = both-lt (length c.inputs) (length c.outputs) read (binary_value written) small few;
    }
whole_parts Environment c read written small count =
    let few : binary_value written < 2 ^ length c.outputs = subst (λ n. binary_value written < 2 ^ n) count (number_of-lt written) in
    let turned : length c.outputs + length c.inputs ≡ length c.inputs + length c.outputs = omega arith in
    record {
      reads = λ k h. has-high (length c.outputs) (length c.inputs) (binary_value written) read few small k;
      writes = λ k h.
          from_none (whole_of Environment c read (binary_value written)) k
          ∙ has-low (length c.outputs) (length c.inputs) (binary_value written) read few small k h ∙ has-number_of written k (rw count h);
      within = subst (λ n. whole_of Environment c read (binary_value written) < 2 ^ n) turned (both-lt (length c.outputs) (length c.inputs) (binary_value written) read few small);
    }

-- what is read of a letter has the letter's signals
pub read_signals : (side : Side) (c : Circuit) (letter k : ℕ) → k < length c.inputs → has (read_of side c letter) k ≡ has letter (first_read side c + k)
read_signals System c letter k h = has-mod letter (length c.inputs) k h ∙ sym (from_none letter k)
read_signals Environment c letter k h = has-div letter (length c.outputs) k

pub read_below : (side : Side) (c : Circuit) (letter : ℕ) → letter < 2 ^ (length c.inputs + length c.outputs) → read_of side c letter < 2 ^ length c.inputs
read_below System c letter within = mod-lt letter (pow_pos (length c.inputs))
read_below Environment c letter within =
    (div-lt_iff_lt-mul (pow_pos (length c.outputs))).1 (subst (λ n. letter < n) (pow-add 2 (length c.inputs) (length c.outputs)) within)

-- each signal is one that is read or one that is written
pub each_signal : (side : Side) (c : Circuit) (P : ℕ → Type 0) → ((k : ℕ) → k < length c.inputs → P (first_read side c + k))
    → ((k : ℕ) → k < length c.outputs → P (first_written side c + k)) → (k : ℕ) → k < length c.inputs + length c.outputs → P k
each_signal System c P reads writes k h = elim (cases_lt k (length c.inputs)) [
  | inl less ↦ subst P (let e : 0 + k ≡ k = omega arith in e) (reads k less)
  | inr more ↦ subst P (let e : length c.inputs + (k - length c.inputs) ≡ k = omega (arith, more) in e) (writes (k - length c.inputs) (omega (arith, h, more)))
]
each_signal Environment c P reads writes k h = elim (cases_lt k (length c.outputs)) [
  | inl less ↦ subst P (let e : 0 + k ≡ k = omega arith in e) (writes k less)
  | inr more ↦ subst P (let e : length c.outputs + (k - length c.outputs) ≡ k = omega (arith, more) in e) (reads (k - length c.outputs) (omega (arith, h, more)))
]
