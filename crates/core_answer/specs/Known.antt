-- What is known of a text while its guarantees are left out one at a time (this project's own).
use Rattle.std.specs.Prelude.{◌≡◌, ℕ, ◌+◌, true, List, [], ◌∷◌, Option, Some}
use Rattle.text_limits.specs.declared.TheConstants.{SMALL_LIMITS}
use Rattle.letters_and_lassos.specs.declared.kinds.Kind.{Kind}
use Rattle.ltl_formula.specs.Nodes.{Grows}
use Rattle.tlsf_expand.specs.FlatText.{FlatText}
use Rattle.flat_text.specs.FlatOf.{IsFlatOf}
use Rattle.synth_engine.specs.declared.settings.Settings.{Settings}
use Rattle.unrealizable_core.specs.declared.shrink.Standing.{Standing}
use Rattle.unrealizable_core.specs.declared.shrink.Standing.TheVariants.{Open, Needed, Dropped}
use Rattle.unrealizable_core.specs.Laws.{kept_in}
use Rattle.tlsf_expand.specs.Standing.{SectionsStand}
use Rattle.core_answer.specs.Core.{AreSpared, Tells}

-- a text, in whose list the normal forms stand too; it is the same where it is taken with the kind that it has
pub record IsTextIn (text : List ℕ) (kind : Option Kind) (spec : FlatText) : Type 0 where
  pub flat : FlatText
  pub is_flat : IsFlatOf SMALL_LIMITS text kind flat
  pub by_its_kind : IsFlatOf SMALL_LIMITS text (Some spec.expanded.kind) flat
  pub same : spec.expanded ≡ flat.expanded
  pub grows : Grows flat.formulas spec.formulas
  pub stand : SectionsStand flat.formulas flat.expanded.sections

-- the numbers that were found needed since the last drop; the first of the list has this one
abbrev pub needed_from : ℕ → List Standing → List ℕ
needed_from n [] = []
needed_from n (Open ∷ s) = needed_from (n + 1) s
needed_from n (Needed ∷ s) = n ∷ needed_from (n + 1) s
needed_from n (Dropped ∷ s) = needed_from (n + 1) s

-- over the guarantees that are kept the document defeats, and of each that was found needed there is what comes without it
pub record IsShrunk (text : List ℕ) (kind : Option Kind) (settings : Settings) (s : List Standing) (document : List ℕ) (others : List (List ℕ)) : Type 0 where
  pub defeated : Tells text (kept_in s) kind settings true document
  pub spared : AreSpared text (kept_in s) kind settings (needed_from 1 s) others
