-- Words of two words.
use Rattle.std.proofs.Common.{◌≡◌, ◌==◌, ℕ, suc, ◌<◌, true, false, List, length, Some, None, ap, arith}
use Rattle.std.proofs.lemmas.Bool.{eq-eqb, eqb-true, false_from_ne_true}
use Rattle.std.proofs.lemmas.List.Splits.{length-slice_split}
use Rattle.aiger_text.specs.Words.{cut_at}
use Rattle.aiger_text.proofs.Scanning.{cuts, no_cut}
use Rattle.named_annotation.specs.NamedText.{words_of}
use Rattle.circuit_check.specs.Forms.{has_two_words}

pub one_word : (line : List ℕ) → cut_at 32 line ≡ None → has_two_words line ≡ false
one_word line none = ap (λ (ws : List (List ℕ)). length ws == 2) (no_cut 32 line none)

module _ (line word rest : List ℕ) (cut : cut_at 32 line ≡ Some (word, rest)) where
  count : length (words_of line) ≡ suc (length (words_of rest))
  count = ap length (cuts 32 line word rest cut).pieces

  pub two_words : cut_at 32 rest ≡ None → has_two_words line ≡ true
  two_words none =
      let one : length (words_of rest) ≡ 1 = ap length (no_cut 32 rest none) in
      eq-eqb (length (words_of line)) 2 (omega (arith, count, one))

  pub more_words : (next more : List ℕ) → cut_at 32 rest ≡ Some (next, more) → has_two_words line ≡ false
  more_words next more further =
      let behind : length (words_of rest) ≡ suc (length (words_of more)) = ap length (cuts 32 rest next more further).pieces in
      let some : 0 < length (words_of more) = omega (arith, length-slice_split (λ b. b == 32) more) in
      false_from_ne_true (has_two_words line)
      (λ two. let same : length (words_of line) ≡ 2 = eqb-true (length (words_of line)) 2 two in absurd (omega (arith, same, count, behind, some)))
