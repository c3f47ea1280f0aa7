-- A text with some of its guarantees: what it wants, the formula that says it, and its first fault (this project's own).
-- Guarantees are the formulas of the flat section; a list of truth values tells which are kept.
use Rattle.std.specs.Prelude.{◌≡◌, ℕ, Bool, true, false, List, Option, Some}
use Rattle.std.specs.List.{list_all}
use Rattle.text_limits.specs.declared.TheConstants.{SMALL_LIMITS}
use Rattle.letters_and_lassos.specs.declared.kinds.Kind.{Kind}
use Rattle.letters_and_lassos.specs.Word.{Word}
use Rattle.ltl_formula.specs.declared.nodes.FormulaId.{FormulaId}
use Rattle.spec_faults.specs.declared.code.SpecCode.{SpecCode}
use Rattle.spec_faults.specs.declared.code.SpecCode.TheVariants.{TooManyNodes}
use Rattle.tlsf_syntax.specs.Text.{Text}
use Rattle.tlsf_reader.specs.Reads.{Reads}
use Rattle.tlsf_values.specs.Outcomes.{Outcome, fails}
use Rattle.tlsf_expand.specs.Meaning.{means}
use Rattle.tlsf_expand.specs.FlatText.{FlatText}
use Rattle.flat_text.specs.FlatOf.{IsFlatOf}
use Rattle.spec_problems.specs.OfFormula.{IsFormFault}
use Rattle.spec_problems.specs.OfText.{IsFirstFault}
use Rattle.satisfaction.specs.Wanted.{Wanted}
use Rattle.text_ground.specs.Ground.{Ground, IsGroundOf, formula_on}
use Rattle.unrealizable_core.specs.Cut.{cut}
use Rattle.unrealizable_core.specs.Reduced.{kept_sections, reduced, reduced_in}

abbrev pub are_all : List Bool → Bool
are_all keep = list_all (λ k. k) keep

-- What a text wants with these guarantees: all is as in the text but what is true, which the written tree says with its section of
-- guarantees cut to them.
pub record IsWantedWith (text : List ℕ) (keep : List Bool) (kind : Option Kind) (x : Wanted) : Type 0 where
  pub flat : FlatText
  pub is_flat : IsFlatOf SMALL_LIMITS text kind flat
  pub inputs : x.inputs ≡ flat.expanded.inputs
  pub outputs : x.outputs ≡ flat.expanded.outputs
  pub kind_is : x.kind ≡ flat.expanded.kind
  pub tree : Text
  pub read : Reads text tree
  pub meaning : (w : Word) → x.means w ≡ means SMALL_LIMITS w (cut keep tree)

-- the formula of the whole in the list of its own
abbrev pub whole_with : List Bool → FlatText → Outcome FormulaId
whole_with keep flat = reduced flat.expanded.strict (kept_sections flat.formulas keep flat.expanded.sections)

pub record IsCutGround (text : List ℕ) (keep : List Bool) (kind : Option Kind) (g : Ground) : Type 0 where
  pub is_wanted : IsWantedWith text keep kind g.wanted
  pub list : reduced_in (whole_with keep is_wanted.flat) ≡ Some (record { formulas = g.formulas; whole = g.whole })

-- with all of its guarantees a text is as it is; with fewer its formulas stand in the list of their own
pub data IsGroundOver (text : List ℕ) (keep : List Bool) (kind : Option Kind) (g : Ground) : Type 0 where
  over_all : are_all keep ≡ true → IsGroundOf text kind g → IsGroundOver text keep kind g
  over_some : are_all keep ≡ false → IsCutGround text keep kind g → IsGroundOver text keep kind g

-- Its first fault: with fewer guarantees, that the list or the normal forms find no room, or that the system's automaton passes a limit,
-- at byte 0.
pub data IsFaultOver (text : List ℕ) (keep : List Bool) (kind : Option Kind) : SpecCode → ℕ → Type 0 where
  of_all : (code : SpecCode) (place : ℕ) → are_all keep ≡ true → IsFirstFault text kind code place → IsFaultOver text keep kind code place
  of_list : (flat : FlatText) → are_all keep ≡ false → IsFlatOf SMALL_LIMITS text kind flat → whole_with keep flat ≡ fails TooManyNodes 0
      → IsFaultOver text keep kind TooManyNodes 0
  of_problems : (g : Ground) (code : SpecCode) (place : ℕ) → are_all keep ≡ false → IsCutGround text keep kind g
      → IsFormFault (formula_on g) g.formulas code place → IsFaultOver text keep kind code place
