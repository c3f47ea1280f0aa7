-- What stands behind an annotation's line `end`.
use Rattle.std.proofs.Common.{◌≡◌, ℕ, ◌+◌, Bool, true, false, cond, Option, Some, None, List, [], ◌∷◌, refl, sym, ap, subst, ◌∙◌}
use Rattle.std.specs.Prelude.{codes}
use Rattle.std.specs.List.{join_with_byte}
use Rattle.std.specs.Str.{bytes_eq}
use Rattle.std.proofs.lemmas.List.Splits.{join_with_byte-slice_split}
use Rattle.aiger_text.specs.Words.{cut_at}
use Rattle.aiger_text.proofs.Scanning.{cuts, no_cut, has_piece, HasPiece}
use Rattle.document_text.specs.Logs.{bad_behind}
use Rattle.solved_text.specs.Annotation.{bad_behind_end, pieces_of}

-- a line with more pieces behind it
more_pieces : (n : ℕ) (line : List ℕ) (pieces : List (List ℕ)) (b : Bool) → HasPiece pieces → bytes_eq line (codes "end") ≡ b
    → bad_behind_end n (line ∷ pieces) ≡ cond b (bad_behind n (join_with_byte 10 pieces)) (bad_behind_end (n + 1) pieces)
more_pieces n line pieces b has e =
    subst (λ (ps : List (List ℕ)). bad_behind_end n (line ∷ ps) ≡ cond b (bad_behind n (join_with_byte 10 ps)) (bad_behind_end (n + 1) ps)) (sym has.are)
    (ap (λ b. cond b (bad_behind n (join_with_byte 10 (has.first ∷ has.others))) (bad_behind_end (n + 1) (has.first ∷ has.others))) e)

module _ (n : ℕ) (rest : List ℕ) where
  module _ (line behind : List ℕ) (cut : cut_at 10 rest ≡ Some (line, behind)) where
    pub end_here : bytes_eq line (codes "end") ≡ true → bad_behind_end n (pieces_of rest) ≡ bad_behind n behind
    end_here is =
        ap (bad_behind_end n) (cuts 10 rest line behind cut).pieces ∙ more_pieces n line (pieces_of behind) true (has_piece behind) is
        ∙ ap (bad_behind n) (join_with_byte-slice_split 10 behind)

    pub end_later : bytes_eq line (codes "end") ≡ false → bad_behind_end n (pieces_of rest) ≡ bad_behind_end (n + 1) (pieces_of behind)
    end_later is = ap (bad_behind_end n) (cuts 10 rest line behind cut).pieces ∙ more_pieces n line (pieces_of behind) false (has_piece behind) is

  pub no_end : cut_at 10 rest ≡ None → bad_behind_end n (pieces_of rest) ≡ None
  no_end none = ap (bad_behind_end n) (no_cut 10 rest none)

-- ---- whether a line is bad doesn't depend on where the first line stands

none_behind : (n m : ℕ) (bytes : List ℕ) → bad_behind n bytes ≡ None → bad_behind m bytes ≡ None
none_behind n m [] is = refl
none_behind n m (b ∷ bytes) is = absurd (cc)

none_by : (n m : ℕ) (bytes : List ℕ) (here there : Option ℕ) (b : Bool) → (here ≡ None → there ≡ None) → cond b (bad_behind n bytes) here ≡ None → cond b (bad_behind m bytes) there ≡ None
none_by n m bytes here there true later is = none_behind n m bytes is
none_by n m bytes here there false later is = later is

pub none_anywhere : (n m : ℕ) (pieces : List (List ℕ)) → bad_behind_end n pieces ≡ None → bad_behind_end m pieces ≡ None
none_anywhere n m [] is = refl
none_anywhere n m (last ∷ []) is = refl
none_anywhere n m (line ∷ next ∷ more) is =
    none_by n m (join_with_byte 10 (next ∷ more)) (bad_behind_end (n + 1) (next ∷ more)) (bad_behind_end (m + 1) (next ∷ more)) (bytes_eq line (codes "end"))
    (none_anywhere (n + 1) (m + 1) (next ∷ more)) is
