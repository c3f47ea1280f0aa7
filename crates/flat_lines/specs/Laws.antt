-- Laws of written flat texts.
use Rattle.std.specs.Prelude.{◌≡◌, Option, Some}
use Rattle.text_limits.specs.declared.Limits.{Limits}
use Rattle.letters_and_lassos.specs.declared.kinds.Kind.{Kind}
use Rattle.tlsf_syntax.specs.Text.{Text}
use Rattle.tlsf_expand.specs.Expansion.{expanded}
use Rattle.tlsf_expand.specs.FlatText.{FlatText, flat_in}
use Rattle.flat_lines.specs.FlatLines.{CanBeWritten}

-- what comes of a text can be written
abbrev pub ExpandedCanBeWritten : Type 0
ExpandedCanBeWritten = (limits : Limits) (text : Text) (kind : Option Kind) (flat : FlatText) → flat_in (expanded limits text kind) ≡ Some flat → CanBeWritten flat
