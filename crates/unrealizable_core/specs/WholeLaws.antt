-- Laws of the whole over some guarantees.
use Rattle.std.specs.Prelude.{◌≡◌, true, length, replicate, Option, Some}
use Rattle.text_limits.specs.declared.TheConstants.{SMALL_LIMITS}
use Rattle.letters_and_lassos.specs.declared.kinds.Kind.{Kind}
use Rattle.ltl_formula.specs.Nodes.{tree_at}
use Rattle.tlsf_expand.specs.Expansion.{expanded}
use Rattle.tlsf_syntax.specs.Text.{Text}
use Rattle.tlsf_expand.specs.FlatText.{FlatText, flat_in}
use Rattle.unrealizable_core.specs.declared.whole.Reduced.{Reduced}
use Rattle.tlsf_expand.specs.Standing.{SectionsStand}
use Rattle.unrealizable_core.specs.Reduced.{kept_sections, reduced, reduced_in}

-- the formulas of the sections of a text that is expanded stand in its list
abbrev pub SectionsOfTextsStand : Type 0
SectionsOfTextsStand = (text : Text) (kind : Option Kind) (flat : FlatText) → flat_in (expanded SMALL_LIMITS text kind) ≡ Some flat → SectionsStand flat.formulas flat.expanded.sections

-- with each guarantee kept the formula of the whole is the text's own
abbrev pub AllKeptIsTheWhole : Type 0
AllKeptIsTheWhole =
    (text : Text) (kind : Option Kind) (flat : FlatText) (r : Reduced) → flat_in (expanded SMALL_LIMITS text kind) ≡ Some flat
    → reduced_in (reduced flat.expanded.strict (kept_sections flat.formulas (replicate (length flat.expanded.sections.guarantee) true) flat.expanded.sections)) ≡ Some r
    → tree_at r.formulas r.whole ≡ tree_at flat.formulas flat.expanded.whole
