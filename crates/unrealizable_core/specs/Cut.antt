-- A written text whose section of guarantees is cut to some of them (this project's own).
use Rattle.std.specs.Prelude.{◌≡◌, Bool, List, Option, Some}
use Rattle.text_limits.specs.declared.TheConstants.{SMALL_LIMITS}
use Rattle.letters_and_lassos.specs.declared.kinds.Kind.{Kind}
use Rattle.letters_and_lassos.specs.Word.{Word}
use Rattle.tlsf_expand.specs.Expansion.{expanded}
use Rattle.tlsf_expand.specs.Meaning.{by_semantics, means}
use Rattle.tlsf_expand.specs.Standing.{truths_of}
use Rattle.tlsf_syntax.specs.Text.{Text}
use Rattle.tlsf_expand.specs.FlatText.{FlatText, flat_in}
use Rattle.unrealizable_core.specs.Reduced.{kept, kept_sections}

-- all but its guarantees is as it was
abbrev pub cut : List Bool → Text → Text
cut keep text = record text { sections = record text.sections { guarantee = kept keep text.sections.guarantee } }

-- where a text is expanded, its flat sections with the guarantees that are kept are true on the lassos on which the text that is cut means
-- so: the formulas of the flat section are those of the written one, in order
abbrev pub CutTextsMean : Type 0
CutTextsMean =
    (text : Text) (kind : Option Kind) (flat : FlatText) (keep : List Bool) (w : Word) → flat_in (expanded SMALL_LIMITS text kind) ≡ Some flat
    → by_semantics flat.expanded.strict w (truths_of w (kept_sections flat.formulas keep flat.expanded.sections)) ≡ means SMALL_LIMITS w (cut keep text)
