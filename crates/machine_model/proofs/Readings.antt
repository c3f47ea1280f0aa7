use Rattle.std.proofs.Common.{◌≡◌, ℕ, zero, suc, ◌+◌, ◌^◌, ◌<◌, List, ◌++◌, length, get_or, refl, sym, ap, ◌∙◌, arith, eqb, cond}
use Rattle.std.specs.Prelude.{map}
use Rattle.std.proofs.lemmas.List.{length-map, map-append, length-append, get_or-map}
use Rattle.std.proofs.lemmas.Nat.{mod-mul-add, div-mul-add, div-add-mod'}
use Rattle.letters_and_lassos.specs.declared.letters.Letter.{Letter}
use Rattle.letters_and_lassos.specs.declared.kinds.Side.{Side}
use Rattle.letters_and_lassos.specs.declared.kinds.Side.TheVariants.{System, Environment}
use Rattle.letters_and_lassos.specs.Word.{Word, HasRing, lasso_len, next, after, letter_at, nth_letter, no_signals}
use Rattle.letters_and_lassos.proofs.Positions.{after_within}
use Rattle.machine_model.specs.Machine.{MachineModel}
use Rattle.machine_model.specs.Run.{joined_letter, read_part, written_part, read_lasso}

-- the parts of a joined_letter letter
pub read_part-joined : (side : Side) (m : MachineModel) (read written : ℕ) → read < 2 ^ m.reads → written < 2 ^ m.writes
    → read_part side m (record { 0 = joined_letter side m read written }) ≡ read
read_part-joined System m read written r w = mod-mul-add written (2 ^ m.reads) read r
read_part-joined Environment m read written r w = div-mul-add read (2 ^ m.writes) written w

pub written_part-joined : (side : Side) (m : MachineModel) (read written : ℕ) → read < 2 ^ m.reads → written < 2 ^ m.writes
    → written_part side m (record { 0 = joined_letter side m read written }) ≡ written
written_part-joined System m read written r w = div-mul-add written (2 ^ m.reads) read r
written_part-joined Environment m read written r w = mod-mul-add read (2 ^ m.writes) written w

-- a whole letter is its parts joined_letter
pub joined-parts : (side : Side) (m : MachineModel) (letter : Letter) → joined_letter side m (read_part side m letter) (written_part side m letter) ≡ letter.0
joined-parts System m letter = div-add-mod' letter.0 (2 ^ m.reads)
joined-parts Environment m letter = div-add-mod' letter.0 (2 ^ m.writes)

module _ (side : Side) (m : MachineModel) (w : Word) where
  -- what is read of a lasso has the lasso's positions
  pub len-read : lasso_len (read_lasso side m w) ≡ lasso_len w
  len-read =
      let f : Letter → Letter = λ letter. record { 0 = read_part side m letter } in
      let a : length (map f w.stem) ≡ length w.stem = length-map w.stem f in
      let b : length (map f w.ring) ≡ length w.ring = length-map w.ring f in
      omega (arith, a, b)

  pub next-read : (i : ℕ) → next (read_lasso side m w) i ≡ next w i
  next-read i =
      let f : Letter → Letter = λ letter. record { 0 = read_part side m letter } in
      let a : length (map f w.stem) ≡ length w.stem = length-map w.stem f in
      ap (λ n. cond (eqb (i + 1) n) (length (map f w.stem)) (i + 1)) len-read ∙ ap (λ n. cond (eqb (i + 1) (lasso_len w)) n (i + 1)) a

  pub after-read : (i j : ℕ) → after (read_lasso side m w) i j ≡ after w i j
  after-read i zero = refl
  after-read i (suc j) = ap (λ n. after (read_lasso side m w) n j) (next-read i) ∙ after-read (next w i) j

  pub letter_at-read : (i : ℕ) → i < lasso_len w → letter_at (read_lasso side m w) i ≡ record { 0 = read_part side m (letter_at w i) }
  letter_at-read i h =
      let f : Letter → Letter = λ letter. record { 0 = read_part side m letter } in
      let within : i < length (w.stem ++ w.ring) = rw length-append h in
      ap (λ (xs : List Letter). get_or xs i no_signals) (sym (map-append f w.stem w.ring)) ∙ get_or-map f (w.stem ++ w.ring) i no_signals no_signals within

  -- the letter of any number
  pub nth_letter-read : HasRing w → (j : ℕ) → nth_letter (read_lasso side m w) j ≡ record { 0 = read_part side m (nth_letter w j) }
  nth_letter-read ring j =
      ap (letter_at (read_lasso side m w)) (after-read 0 j) ∙ letter_at-read (after w 0 j) (after_within w 0 j ring (omega arith))
