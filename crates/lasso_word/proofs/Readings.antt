-- One line more of a text of a word.
use Rattle.std.proofs.Common.{◌≡◌, ◌==◌, ℕ, ◌+◌, ◌<◌, List, [], ◌∷◌, length, Some, None, arith, sym, ap, ◌∙◌, refl}
use Rattle.std.specs.Option.{option_map_or}
use Rattle.std.proofs.lemmas.List.Splits.{length-slice_split}
use Rattle.lasso_word.specs.Lines.{parts_at, IsCut}
use Rattle.lasso_word.specs.WordText.{SoFar, WordReading, bad_line, continued, read_from}

-- there is always a last part
pub some_part : (mark : ℕ) (bytes : List ℕ) → 0 < length (parts_at mark bytes)
some_part mark bytes = omega (arith, length-slice_split (λ b. b == mark) bytes)

-- where more parts follow, the first one is a line
pub read_line : (names parts : List (List ℕ)) (line : List ℕ) (so_far : SoFar) (n : ℕ) → 0 < length parts →
    read_from names (line ∷ parts) so_far n ≡ option_map_or (λ longer. read_from names parts longer (n + 1)) (continued names so_far line) (bad_line n)
read_line names [] line so_far n some = absurd (omega arith)
read_line names (next ∷ more) line so_far n some = refl

module _ (names : List (List ℕ)) (bytes text behind : List ℕ) (so_far : SoFar) (n : ℕ) (whole : WordReading)
    (cut : IsCut 10 bytes text behind) (reading : read_from names (parts_at 10 bytes) so_far n ≡ whole) where
  by_line : option_map_or (λ longer. read_from names (parts_at 10 behind) longer (n + 1)) (continued names so_far text) (bad_line n) ≡ whole
  by_line = sym (read_line names (parts_at 10 behind) text so_far n (some_part 10 behind)) ∙ ap (λ parts. read_from names parts so_far n) (sym cut) ∙ reading

  pub refused_line : continued names so_far text ≡ None → whole ≡ bad_line n
  refused_line none = sym by_line ∙ ap (λ o. option_map_or (λ longer. read_from names (parts_at 10 behind) longer (n + 1)) o (bad_line n)) none

  pub longer_line : (longer : SoFar) → continued names so_far text ≡ Some longer → read_from names (parts_at 10 behind) longer (n + 1) ≡ whole
  longer_line longer some = ap (λ o. option_map_or (λ longer. read_from names (parts_at 10 behind) longer (n + 1)) o (bad_line n)) (sym some) ∙ by_line
