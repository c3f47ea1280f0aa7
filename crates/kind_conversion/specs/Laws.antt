use Rattle.std.specs.Prelude.{◌≡◌, ℕ, ◌<◌, ◌≤◌, List, Some, length}
use Rattle.letters_and_lassos.specs.Word.{Word, HasRing, IsLassoOver, SameWord, lasso_len}
use Rattle.ltl_formula.specs.declared.nodes.FormulaId.{FormulaId}
use Rattle.ltl_formula.specs.declared.nodes.Node.{Node}
use Rattle.ltl_formula.specs.ListSignals.{KeepsSignals}
use Rattle.ltl_formula.specs.Nodes.{IsNodeList, IsNodeIn, tree_at}
use Rattle.ltl_formula.specs.Tree.{Tree}
use Rattle.ltl_formula.specs.Truth.{holds}
use Rattle.kind_conversion.specs.declared.conversion.ConvertedList.{ConvertedList}
use Rattle.kind_conversion.specs.declared.shifts.Shift.{Shift}
use Rattle.kind_conversion.specs.ShiftedForm.{shifted_form}
use Rattle.kind_conversion.specs.ShiftedList.{converted_of}
use Rattle.kind_conversion.specs.ShiftedWord.{IsShiftedWord, shifted_word}

-- the shifted lasso has as many letters as the lasso, over as many signals, and is the one infinite word that is shifted so;
-- which word that is, goes by the infinite word alone
pub record ShiftedWordsAreWords : Type 0 where
  pub stem : (shift : Shift) (inputs : ℕ) (w : Word) → length (shifted_word shift inputs w).stem ≡ length w.stem
  pub ring : (shift : Shift) (inputs : ℕ) (w : Word) → length (shifted_word shift inputs w).ring ≡ length w.ring
  pub over : (shift : Shift) (inputs n : ℕ) (w : Word) → inputs ≤ n → IsLassoOver n w → IsLassoOver n (shifted_word shift inputs w)
  pub shifted : (shift : Shift) (inputs : ℕ) (w : Word) → HasRing w → IsShiftedWord shift inputs w (shifted_word shift inputs w)
  pub only : (shift : Shift) (inputs : ℕ) (w v : Word) → HasRing w → IsShiftedWord shift inputs w v → SameWord v (shifted_word shift inputs w)
  pub same : (shift : Shift) (inputs : ℕ) (v w : Word) → HasRing v → HasRing w → SameWord v w → SameWord (shifted_word shift inputs v) (shifted_word shift inputs w)

-- g is true of a word exactly where f is true of the shifted word: at each position of a lasso, and of each lasso that is the
-- shifted word
pub record SaysOfShifted (shift : Shift) (inputs : ℕ) (f g : Tree) : Type 0 where
  pub at_each : (w : Word) (i : ℕ) → HasRing w → i < lasso_len w → holds w g i ≡ holds (shifted_word shift inputs w) f i
  pub of_word : (w v : Word) → HasRing w → HasRing v → IsShiftedWord shift inputs w v → holds w g 0 ≡ holds v f 0

-- the shifted form says of a word what the formula says of the shifted word
abbrev pub ShiftedFormsSay : Type 0
ShiftedFormsSay = (shift : Shift) (inputs : ℕ) (f : Tree) → SaysOfShifted shift inputs f (shifted_form shift inputs f)

-- what a converted list is: one of formulas, without further signals, whose whole is the shifted form of the whole
pub record IsConversion (shift : Shift) (inputs : ℕ) (nodes : List Node) (whole : FormulaId) (c : ConvertedList) : Type 0 where
  pub list : IsNodeList c.formulas
  pub stands : IsNodeIn c.formulas c.whole
  pub tree : tree_at c.formulas c.whole ≡ shifted_form shift inputs (tree_at nodes whole)
  pub truth : SaysOfShifted shift inputs (tree_at nodes whole) (tree_at c.formulas c.whole)
  pub signals : KeepsSignals nodes c.formulas

-- the list that is made anew is one such
abbrev pub ConvertedListsSay : Type 0
ConvertedListsSay = (most : ℕ) (shift : Shift) (inputs : ℕ) (nodes : List Node) (whole : FormulaId) (c : ConvertedList)
    → IsNodeList nodes → IsNodeIn nodes whole → converted_of most shift inputs nodes whole ≡ Some c → IsConversion shift inputs nodes whole c
