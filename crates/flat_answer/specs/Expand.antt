-- The answer of `expand` to a text (this project's own). No kind is given, so those that the text names count.
use Rattle.std.specs.Prelude.{◌≡◌, ℕ, List, None}
use Rattle.text_limits.specs.declared.TheConstants.{SMALL_LIMITS}
use Rattle.spec_faults.specs.declared.code.SpecCode.{SpecCode}
use Rattle.tlsf_expand.specs.FlatText.{FlatText}
use Rattle.flat_text.specs.FlatOf.{IsFlatFault, IsFlatOf}
use Rattle.flat_lines.specs.FlatLines.{flat_bytes}
use Rattle.program_replies.specs.Lines.{refusal_line}

-- The bytes and the status: the line of the text's first fault of those before normal forms, or the text written out flat.
pub data ExpandAnswers (text bytes : List ℕ) (status : ℕ) : Type 0 where
  refused : (code : SpecCode) (place : ℕ) → status ≡ 1 → IsFlatFault SMALL_LIMITS text None code place → bytes ≡ refusal_line code place
      → ExpandAnswers text bytes status
  written : (flat : FlatText) → status ≡ 0 → IsFlatOf SMALL_LIMITS text None flat → bytes ≡ flat_bytes flat
      → ExpandAnswers text bytes status
