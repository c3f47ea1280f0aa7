-- The names of signals in a flat text: TLSF 1.1, with the rule for the bits of a bus.
use Rattle.std.specs.Prelude.{◌≡◌, ◌≢◌, ◌<◌, ◌^◌, ◌==◌, not, ℕ, List, [], IsTrue, All, Option, Some}
use Rattle.std.specs.List.{list_all}
use Rattle.text_limits.specs.declared.Limits.{Limits}
use Rattle.letters_and_lassos.specs.declared.kinds.Kind.{Kind}
use Rattle.tlsf_tokens.specs.Words.{is_blank}
use Rattle.tlsf_syntax.specs.Text.{Text}
use Rattle.tlsf_reader.specs.Reads.{Reads}
use Rattle.tlsf_expand.specs.Expansion.{Expanded, expanded}
use Rattle.tlsf_expand.specs.FlatText.{FlatText, flat_in}

-- a name that stands in one word of one line: it isn't empty, and no byte of it is a blank or ends a line
pub record IsOneWord (name : List ℕ) : Type 0 where
  pub nonempty : name ≢ []
  pub one_line : IsTrue (list_all (λ b. not (b == 10)) name)
  pub no_blank : IsTrue (list_all (λ b. not (is_blank b)) name)

-- the flat names of all signals are such
pub record HasPlainNames (x : Expanded) : Type 0 where
  pub inputs_plain : All IsOneWord x.inputs
  pub outputs_plain : All IsOneWord x.outputs

-- a text that is read and expanded has such names
abbrev pub FlatNamesAreWords : Type 0
FlatNamesAreWords = (limits : Limits) (text : List ℕ) (kind : Option Kind) (tree : Text) (flat : FlatText) → limits.signals < 2 ^ 64 → Reads text tree → flat_in (expanded limits tree kind) ≡ Some flat → HasPlainNames flat.expanded
