-- The lines of a circuit that has a fault.
use Rattle.std.proofs.Common.{◌≡◌, ℕ, ◌+◌, true, false, cond, Option, Some, None, List, [], ◌∷◌, length, refl, ap, ◌∙◌, arith}
use Rattle.std.specs.Prelude.{codes}
use Rattle.std.specs.Str.{bytes_eq}
use Rattle.aiger_text.specs.Words.{cut_at}
use Rattle.aiger_text.specs.CircuitFile.{lines_of}
use Rattle.aiger_text.proofs.Scanning.{HasPiece, has_piece, cuts, no_cut}
use Rattle.circuit_names.specs.Names.{Names}
use Rattle.circuit_names.specs.Lines.{foreign_from, foreign_line, is_foreign}

more_by : (names : Names) (n : ℕ) (line : List ℕ) (pieces : List (List ℕ)) → HasPiece pieces
    → foreign_line names n (line ∷ pieces) ≡ cond (bytes_eq line (codes "c")) None (cond (is_foreign names line) (Some n) (foreign_line names (n + 1) pieces))
more_by names n line [] has = let never : ◌≡◌ {A = List (List ℕ)} [] (has.first ∷ has.others) = has.are in absurd (cc)
more_by names n line (piece ∷ pieces) has = refl

-- a line that is ended, and the lines behind it
pub line_more : (names : Names) (n : ℕ) (rest line behind : List ℕ) → cut_at 10 rest ≡ Some (line, behind)
    → foreign_line names n (lines_of rest) ≡ cond (bytes_eq line (codes "c")) None (cond (is_foreign names line) (Some n) (foreign_line names (n + 1) (lines_of behind)))
line_more names n rest line behind is =
    ap (foreign_line names n) (cuts 10 rest line behind is).pieces ∙ more_by names n line (lines_of behind) (has_piece behind)

pub no_line_more : (names : Names) (n : ℕ) (rest : List ℕ) → cut_at 10 rest ≡ None → foreign_line names n (lines_of rest) ≡ None
no_line_more names n rest is = ap (foreign_line names n) (no_cut 10 rest is)

module _ (names : Names) (n : ℕ) (rest line behind : List ℕ) (is : cut_at 10 rest ≡ Some (line, behind)) where
  pub at_comment : bytes_eq line (codes "c") ≡ true → foreign_line names n (lines_of rest) ≡ None
  at_comment t = line_more names n rest line behind is ∙ ap (λ b. cond b None (cond (is_foreign names line) (Some n) (foreign_line names (n + 1) (lines_of behind)))) t

  pub at_foreign : bytes_eq line (codes "c") ≡ false → is_foreign names line ≡ true → foreign_line names n (lines_of rest) ≡ Some n
  at_foreign t f =
      line_more names n rest line behind is ∙ ap (λ b. cond b None (cond (is_foreign names line) (Some n) (foreign_line names (n + 1) (lines_of behind)))) t
      ∙ ap (λ b. cond b (Some n) (foreign_line names (n + 1) (lines_of behind))) f

  pub at_other : bytes_eq line (codes "c") ≡ false → is_foreign names line ≡ false → foreign_line names n (lines_of rest) ≡ foreign_line names (n + 1) (lines_of behind)
  at_other t f =
      line_more names n rest line behind is ∙ ap (λ b. cond b None (cond (is_foreign names line) (Some n) (foreign_line names (n + 1) (lines_of behind)))) t
      ∙ ap (λ b. cond b (Some n) (foreign_line names (n + 1) (lines_of behind))) f

pub none_wanted : (place : ℕ) (names : List (Option (List ℕ))) (wanted : List (List ℕ)) (lines : List ℕ) → length wanted ≡ 0 → None ≡ foreign_from place names wanted lines
none_wanted place [] wanted lines empty = refl
none_wanted place (x ∷ xs) [] lines empty = refl
none_wanted place (x ∷ xs) (w ∷ ws) lines empty = absurd (omega arith)
