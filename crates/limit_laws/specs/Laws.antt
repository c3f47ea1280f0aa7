-- Laws of limits: wider ones take no text away, and mean the same (this project's own).
use Rattle.std.specs.Prelude.{◌≡◌, Option, None}
use Rattle.text_limits.specs.declared.Limits.{Limits}
use Rattle.letters_and_lassos.specs.declared.kinds.Kind.{Kind}
use Rattle.letters_and_lassos.specs.Word.{Word}
use Rattle.tlsf_syntax.specs.Text.{Text}
use Rattle.tlsf_expand.specs.Expansion.{expanded, flat_fault}
use Rattle.tlsf_expand.specs.FlatText.{flat_in}
use Rattle.tlsf_expand.specs.Meaning.{means}
use Rattle.limit_laws.specs.Wider.{AreWider}

-- within the large limits a text has no fault of expansion, the flat form that it has within the small ones, and the same truth on each lasso
pub record IsSameText (small large : Limits) (text : Text) (kind : Option Kind) : Type 0 where
  pub no_fault : flat_fault large text kind ≡ None
  pub flat : flat_in (expanded large text kind) ≡ flat_in (expanded small text kind)
  pub meaning : (w : Word) → means large w text ≡ means small w text

-- wider limits take no text away
abbrev pub WiderLimitsKeepTexts : Type 0
WiderLimitsKeepTexts = (small large : Limits) → AreWider small large → (text : Text) (kind : Option Kind) → flat_fault small text kind ≡ None → IsSameText small large text kind
