-- How `solve` takes a text: of which kind the machines are, and of which word the written text speaks (TLSF 1.1; that a given kind
-- stands for SEMANTICS and TARGET both is this project's own).
use Rattle.std.specs.Prelude.{◌≡◌, ℕ, List, Option, Some, None, length, option_map}
use Rattle.letters_and_lassos.specs.declared.kinds.Kind.{Kind}
use Rattle.letters_and_lassos.specs.Word.{Word, HasRing}
use Rattle.tlsf_syntax.specs.Text.{Text}
use Rattle.tlsf_reader.specs.Reads.{Reads}
use Rattle.tlsf_expand.specs.Meaning.{means}
use Rattle.tlsf_expand.specs.FlatText.{FlatText}
use Rattle.flat_text.specs.FlatOf.{IsFlatOf}
use Rattle.text_limits.specs.declared.Limits.{Limits}
use Rattle.text_limits.specs.declared.TheConstants.{LARGE_LIMITS}
use Rattle.kind_conversion.specs.declared.shifts.Shift.{Shift}
use Rattle.kind_conversion.specs.Shifts.{shift_of}
use Rattle.kind_conversion.specs.ShiftedWord.{shifted_word}
use Rattle.satisfaction.specs.Wanted.{Wanted}

-- the kind of the system's machines: the given one, else the text's TARGET
abbrev pub taken_kind : Option Kind → Text → Kind
taken_kind (Some kind) tree = kind
taken_kind None tree = tree.info.target

-- which signals the text speaks of one letter later, where its SEMANTICS and TARGET differ; under a given kind none
abbrev pub taken_shift : Option Kind → Text → Option Shift
taken_shift (Some kind) tree = None
taken_shift None tree = shift_of tree.info.semantics tree.info.target

-- the SEMANTICS of a text that is converted
abbrev pub converted_from : Option Kind → Text → Option Kind
converted_from given tree = option_map (λ shift. tree.info.semantics) (taken_shift given tree)

-- the word of which the written text speaks where a converted one speaks of this word
abbrev pub spoken_word : Option Shift → ℕ → Word → Word
spoken_word None inputs w = w
spoken_word (Some shift) inputs w = shifted_word shift inputs w

-- What a text wants of machines as `solve` takes it within limits: the names of its flat form, and on a lasso the written tree says what is true.
pub record IsTakenWithin (limits : Limits) (text : List ℕ) (given : Option Kind) (flat : FlatText) (x : Wanted) : Type 0 where
  pub tree : Text
  pub read : Reads text tree
  pub is_flat : IsFlatOf limits text (Some (taken_kind given tree)) flat
  pub inputs : x.inputs ≡ flat.expanded.inputs
  pub outputs : x.outputs ≡ flat.expanded.outputs
  pub kind_is : x.kind ≡ taken_kind given tree
  pub meaning : (w : Word) → HasRing w → x.means w ≡ means limits (spoken_word (taken_shift given tree) (length x.inputs) w) tree

-- the same within the limits of `solve`
abbrev pub IsTakenAs : List ℕ → Option Kind → FlatText → Wanted → Type 0
IsTakenAs = IsTakenWithin LARGE_LIMITS
