-- A machine's whole letter fits a cube where what it reads and what it writes do.
use Rattle.std.proofs.Common.{◌≡◌, ℕ, ◌+◌, ◌-◌, ◌*◌, ◌^◌, ◌<◌, ◌⊎◌, inl, inr, Bool, true, false, not, refl, sym, ap, ◌∙◌, subst, arith}
use Rattle.std.specs.Prelude.{◌==◌}
use Rattle.std.proofs.lemmas.Bool.{cases_lt}
use Rattle.std.proofs.lemmas.Nat.Bits.{bit_at_cat_high, bit_at_cat_low}
use Rattle.letters_and_lassos.specs.Cube.{Fits}
use Rattle.letters_and_lassos.specs.Signals.{has}
use Rattle.letters_and_lassos.specs.declared.cubes.Cube.{Cube}
use Rattle.letters_and_lassos.specs.declared.kinds.Side.{Side}
use Rattle.letters_and_lassos.specs.declared.kinds.Side.TheVariants.{Environment, System}
use Rattle.letters_and_lassos.proofs.Sets.{has-past}
use Rattle.annotation_encode.specs.BaseClauses.{read_signal_of, signal_fits, written_signal_of}

-- the letter of what is read and what is written, by the numbers of signals
abbrev pub joined_at : Side → ℕ → ℕ → ℕ → ℕ → ℕ
joined_at System inputs outputs read written = written * 2 ^ inputs + read
joined_at Environment inputs outputs read written = read * 2 ^ inputs + written

abbrev pub reads_at : Side → ℕ → ℕ → ℕ
reads_at System inputs outputs = inputs
reads_at Environment inputs outputs = outputs

abbrev pub writes_at : Side → ℕ → ℕ → ℕ
writes_at System inputs outputs = outputs
writes_at Environment inputs outputs = inputs

high_signal : (a k b s : ℕ) → b < 2 ^ k → has (a * 2 ^ k + b) (k + s) ≡ has a s
high_signal a k b s small =
    let e : (k + s) - k ≡ s = omega arith in
    ap (λ n. n == 1) (bit_at_cat_high a k b (k + s) small (omega arith)) ∙ ap (has a) e

pub low_signal : (a k b s : ℕ) → s < k → has (a * 2 ^ k + b) s ≡ has b s
low_signal a k b s h = ap (λ n. n == 1) (bit_at_cat_low a k b s h)

has_read : (side : Side) (inputs outputs read written s : ℕ) → read < 2 ^ reads_at side inputs outputs → written < 2 ^ writes_at side inputs outputs
    → s < reads_at side inputs outputs → has (joined_at side inputs outputs read written) (read_signal_of side inputs s) ≡ has read s
has_read System inputs outputs read written s hr hw hs = low_signal written inputs read s hs
has_read Environment inputs outputs read written s hr hw hs = high_signal read inputs written s hw

has_written : (side : Side) (inputs outputs read written s : ℕ) → read < 2 ^ reads_at side inputs outputs → written < 2 ^ writes_at side inputs outputs
    → s < writes_at side inputs outputs → has (joined_at side inputs outputs read written) (written_signal_of side inputs s) ≡ has written s
has_written System inputs outputs read written s hr hw hs = high_signal written inputs read s hr
has_written Environment inputs outputs read written s hr hw hs = low_signal read inputs written s hs

-- a signal is one that is read, or one that is written
record IsRead (side : Side) (inputs outputs k : ℕ) : Type 0 where
  signal : ℕ
  within : signal < reads_at side inputs outputs
  same : k ≡ read_signal_of side inputs signal

record IsWritten (side : Side) (inputs outputs k : ℕ) : Type 0 where
  signal : ℕ
  within : signal < writes_at side inputs outputs
  same : k ≡ written_signal_of side inputs signal

sort_of : (side : Side) (inputs outputs k : ℕ) → k < inputs + outputs → IsRead side inputs outputs k ⊎ IsWritten side inputs outputs k
sort_of System inputs outputs k h =
    elim (cases_lt k inputs) [
      | inl low ↦ inl (record { signal = k; within = low; same = refl })
      | inr high ↦ inr (record { signal = k - inputs; within = omega arith; same = omega arith })
    ]
sort_of Environment inputs outputs k h =
    elim (cases_lt k inputs) [
      | inl low ↦ inr (record { signal = k; within = low; same = refl })
      | inr high ↦ inl (record { signal = k - inputs; within = omega arith; same = omega arith })
    ]

wanted : (cube : Cube) (k : ℕ) (b : Bool) → signal_fits cube k b ≡ true → has cube.must k ≡ true → b ≡ true
wanted cube k true fits h = refl
wanted cube k false fits h = let no : false ≡ true = ap not (sym h) ∙ fits in absurd (let e : false ≡ true = no in cc)

unwanted : (cube : Cube) (k : ℕ) (b : Bool) → signal_fits cube k b ≡ true → has cube.not k ≡ true → b ≡ true → ⊥
unwanted cube k true fits h e = let no : false ≡ true = ap not (sym h) ∙ fits in cc
unwanted cube k false fits h e = let no : false ≡ true = e in cc

-- where the whole letter fits, each signal is as the cube wants it
fits_signal : (cube : Cube) (letter k : ℕ) (b : Bool) → has letter k ≡ b → Fits cube (record { 0 = letter }) → signal_fits cube k b ≡ true
fits_signal cube letter k true e fits = go (has cube.not k) refl
  where
    go : (x : Bool) → has cube.not k ≡ x → not x ≡ true
    go true forbidden = absurd (fits.none_of k forbidden e)
    go false free = refl
fits_signal cube letter k false e fits = go (has cube.must k) refl
  where
    go : (x : Bool) → has cube.must k ≡ x → not x ≡ true
    go true wants = let no : false ≡ true = sym e ∙ fits.must k wants in absurd (let x : false ≡ true = no in cc)
    go false free = refl

pub read_kept : (side : Side) (inputs outputs read written s : ℕ) (cube : Cube) → read < 2 ^ reads_at side inputs outputs → written < 2 ^ writes_at side inputs outputs
    → s < reads_at side inputs outputs → Fits cube (record { 0 = joined_at side inputs outputs read written }) → signal_fits cube (read_signal_of side inputs s) (has read s) ≡ true
read_kept side inputs outputs read written s cube hr hw hs fits =
    fits_signal cube (joined_at side inputs outputs read written) (read_signal_of side inputs s) (has read s) (has_read side inputs outputs read written s hr hw hs) fits

pub written_kept : (side : Side) (inputs outputs read written s : ℕ) (cube : Cube) → read < 2 ^ reads_at side inputs outputs → written < 2 ^ writes_at side inputs outputs
    → s < writes_at side inputs outputs → Fits cube (record { 0 = joined_at side inputs outputs read written }) → signal_fits cube (written_signal_of side inputs s) (has written s) ≡ true
written_kept side inputs outputs read written s cube hr hw hs fits =
    fits_signal cube (joined_at side inputs outputs read written) (written_signal_of side inputs s) (has written s) (has_written side inputs outputs read written s hr hw hs) fits

-- where each read and each written signal is as the cube wants it, and it wants no others, the letter fits
module _ (side : Side) (inputs outputs read written : ℕ) (cube : Cube) (hr : read < 2 ^ reads_at side inputs outputs) (hw : written < 2 ^ writes_at side inputs outputs)
    (must : cube.must < 2 ^ (inputs + outputs)) (none_of : cube.not < 2 ^ (inputs + outputs))
    (reads : (s : ℕ) → s < reads_at side inputs outputs → signal_fits cube (read_signal_of side inputs s) (has read s) ≡ true)
    (writes : (s : ℕ) → s < writes_at side inputs outputs → signal_fits cube (written_signal_of side inputs s) (has written s) ≡ true) where
  kept : (k : ℕ) → k < inputs + outputs → signal_fits cube k (has (joined_at side inputs outputs read written) k) ≡ true
  kept k h =
      elim (sort_of side inputs outputs k h) [
        | inl r ↦
            subst (λ j. signal_fits cube j (has (joined_at side inputs outputs read written) j) ≡ true) (sym r.same)
            (ap (signal_fits cube (read_signal_of side inputs r.signal)) (has_read side inputs outputs read written r.signal hr hw r.within) ∙ reads r.signal r.within)
        | inr w ↦
            subst (λ j. signal_fits cube j (has (joined_at side inputs outputs read written) j) ≡ true) (sym w.same)
            (ap (signal_fits cube (written_signal_of side inputs w.signal)) (has_written side inputs outputs read written w.signal hr hw w.within) ∙ writes w.signal w.within)
      ]

  named : (set k : ℕ) → set < 2 ^ (inputs + outputs) → has set k ≡ true → k < inputs + outputs
  named set k small h = elim (cases_lt k (inputs + outputs)) [
    | inl less ↦ less
    | inr past ↦ absurd (has-past set k (inputs + outputs) small past h)
  ]

  pub fits_joined : Fits cube (record { 0 = joined_at side inputs outputs read written })
  fits_joined = record {
    must = λ k h. wanted cube k (has (joined_at side inputs outputs read written) k) (kept k (named cube.must k must h)) h;
    none_of = λ k h there. unwanted cube k (has (joined_at side inputs outputs read written) k) (kept k (named cube.not k none_of h)) h there;
  }
