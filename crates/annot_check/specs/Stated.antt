-- Laws of the texts of annotations (this project's own).
use Rattle.std.specs.Prelude.{◌≡◌, ℕ, List}
use Rattle.annot_check.specs.Pairs.{Listed}
use Rattle.annot_check.specs.AnnotationText.{StatesPairs, IsFirstBadAnnotationLine}

-- a text states at most one list, has at most one first bad line, and not both
pub record ReadingsAreApart : Type 0 where
  pub one_list : (bytes : List ℕ) (latches states : ℕ) (p q : Listed) → StatesPairs bytes latches states p → StatesPairs bytes latches states q → p ≡ q
  pub one_line : (bytes : List ℕ) (latches states m n : ℕ) → IsFirstBadAnnotationLine bytes latches states m → IsFirstBadAnnotationLine bytes latches states n → m ≡ n
  pub apart : (bytes : List ℕ) (latches states : ℕ) (p : Listed) (n : ℕ) → StatesPairs bytes latches states p → IsFirstBadAnnotationLine bytes latches states n → ⊥
