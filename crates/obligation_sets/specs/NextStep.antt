use Rattle.std.specs.Prelude.{◌≡◌, ◌<◌, ℕ, false, List, All, Contains, IsTrue, length}
use Rattle.letters_and_lassos.specs.Cube.{Fits}
use Rattle.letters_and_lassos.specs.Word.{Word, HasRing, lasso_len, letter_at, next}
use Rattle.ltl_formula.specs.declared.nodes.FormulaId.{FormulaId}
use Rattle.ltl_formula.specs.declared.nodes.Node.{Node}
use Rattle.ltl_formula.specs.Nodes.{IsNodeList, IsNodeIn, tree_at}
use Rattle.ltl_formula.specs.Tree.{Tree}
use Rattle.ltl_formula.specs.Tree.Tree.{truth, falsity, signal, negation, next_time, finally, globally, conjunction, disjunction, implication, equivalence, until, release, weak_until}
use Rattle.ltl_formula.specs.Truth.{holds}
use Rattle.obligation_sets.specs.declared.sets.Covering.{Covering}
use Rattle.obligation_sets.specs.declared.sets.Cover.{Cover}
use Rattle.obligation_sets.specs.Branch.{Branch}
use Rattle.obligation_sets.specs.Steps.{HasPlaces, step}
use Rattle.obligation_sets.specs.Covers.{leaves_below, leaves_of}
use Rattle.obligation_sets.specs.Reduced.{covers_by}
use Rattle.ltl_formula.specs.NormalForm.{IsNormal}

-- each formula of a set holds at a position of a lasso (linear temporal logic)
abbrev pub SetHolds : List Node → Word → ℕ → List FormulaId → Type 0
SetHolds ns w i set = All (λ f. IsTrue (holds w (tree_at ns f) i)) set

-- the formulas stand in the list and are in normal form
abbrev pub AreNormal : List Node → List FormulaId → Type 0
AreNormal ns set = All (λ f. IsNodeIn ns f × IsNormal (tree_at ns f)) set

-- the cover is one way to meet a set at this position: its cube fits there, and what it leaves holds at the next
pub record MeetsAt (ns : List Node) (w : Word) (i : ℕ) (c : Cover) : Type 0 where
  pub fits : Fits c.cube (letter_at w i)
  pub next_holds : SetHolds ns w (next w i) c.next

-- the formula is an until whose second part is false at the position
abbrev pub SecondPartFails : Word → ℕ → Tree → Type 0
SecondPartFails w i (until a b) = holds w b i ≡ false
SecondPartFails w i truth = ⊥
SecondPartFails w i falsity = ⊥
SecondPartFails w i (signal s) = ⊥
SecondPartFails w i (negation a) = ⊥
SecondPartFails w i (next_time a) = ⊥
SecondPartFails w i (finally a) = ⊥
SecondPartFails w i (globally a) = ⊥
SecondPartFails w i (conjunction a b) = ⊥
SecondPartFails w i (disjunction a b) = ⊥
SecondPartFails w i (implication a b) = ⊥
SecondPartFails w i (equivalence a b) = ⊥
SecondPartFails w i (release a b) = ⊥
SecondPartFails w i (weak_until a b) = ⊥

-- one of the set's covers, plain or reduced, is met at the position, and it puts off only untils whose second part is false there and
-- that hold at the next position
pub record HasFittingCover (covering : Covering) (ns : List Node) (w : Word) (i : ℕ) (set : List FormulaId) : Type 0 where
  pub cover : Cover
  pub is_cover : Contains (covers_by covering ns set) cover
  pub met : MeetsAt ns w i cover
  pub postponed : All (λ f. SecondPartFails w i (tree_at ns f)) cover.postponed
  pub put_off_hold : SetHolds ns w (next w i) cover.postponed

-- covers, plain or reduced, are the next step of a set in normal form: the set holds at a position exactly where one of its covers is
-- met there, and then one that puts off only untils whose second part is false and that hold at the next position
pub record CoversAreTheNextStep : Type 0 where
  pub holds_where_met : (covering : Covering) (ns : List Node) (w : Word) (i : ℕ) (set : List FormulaId) (c : Cover) → IsNodeList ns → AreNormal ns set → HasRing w → i < lasso_len w → Contains (covers_by covering ns set) c → MeetsAt ns w i c → SetHolds ns w i set
  pub met_where_holds : (covering : Covering) (ns : List Node) (w : Word) (i : ℕ) (set : List FormulaId) → IsNodeList ns → AreNormal ns set → HasRing w → i < lasso_len w → SetHolds ns w i set → HasFittingCover covering ns w i set

-- what a cover of a set in normal form leaves to the next position is in normal form
abbrev pub CoversStayNormal : Type 0
CoversStayNormal = (covering : Covering) (ns : List Node) (set : List FormulaId) (c : Cover) → IsNodeList ns → AreNormal ns set → Contains (covers_by covering ns set) c → AreNormal ns c.next

-- the leaves of a branch are its first step's and then those of what comes of it: the number of steps is always enough
abbrev pub LeavesGoOn : Type 0
LeavesGoOn = (ns : List Node) (b : Branch) → IsNodeList ns → HasPlaces (length ns) b → leaves_of ns b ≡ leaves_below (leaves_of ns) (step ns b)
