-- How a document of version 6 asks for its text to be taken (this project's own).
use Rattle.std.specs.Prelude.{◌≡◌, ℕ, true, false, List, Option, Some, None, unwrap_or}
use Rattle.letters_and_lassos.specs.declared.kinds.Kind.{Kind}
use Rattle.letters_and_lassos.specs.declared.kinds.Kind.TheVariants.{Mealy}
use Rattle.spec_faults.specs.declared.code.SpecCode.{SpecCode}
use Rattle.solve_ground.specs.declared.texts.SolveText.{SolveText}
use Rattle.solve_ground.specs.SolveText.{IsSolveFault, IsSolveText}
use Rattle.solved_text.specs.declared.header.Header.{Header}
use Rattle.solve_check.specs.Given.{is_taken_so}

-- the kind that a document says; where none can be read its lines fail in any case, and so does one of a kind
abbrev pub kind_said : Header → Kind
kind_said header = unwrap_or header.kind Mealy

-- The text can't be taken by its own kinds for machines of this one: it has a fault so taken, as where the converted list has no room, or
-- it isn't converted for them.
pub data CannotBeConverted (text : List ℕ) (kind : Kind) : Type 0 where
  faulty : (code : SpecCode) (place : ℕ) → IsSolveFault text None code place → CannotBeConverted text kind
  otherwise : (t : SolveText) → IsSolveText text None t → is_taken_so t kind true ≡ false → CannotBeConverted text kind

-- The text as it is asked for, and the kind that is given for that: the document's, as by `--kind`, or, where the document says that the
-- text is converted, none. Where the text can't be taken so it is taken with the kind, and then the line that says so fails.
pub data IsAsked (text : List ℕ) (header : Header) : Option Kind → SolveText → Type 0 where
  as_given : (t : SolveText) → header.converted ≡ false → IsSolveText text (Some (kind_said header)) t
      → IsAsked text header (Some (kind_said header)) t
  converted : (t : SolveText) → header.converted ≡ true → IsSolveText text None t → is_taken_so t (kind_said header) true ≡ true
      → IsAsked text header None t
  in_vain : (t : SolveText) → header.converted ≡ true → CannotBeConverted text (kind_said header) → IsSolveText text (Some (kind_said header)) t
      → IsAsked text header (Some (kind_said header)) t

-- the same with the text alone
pub record IsAskedText (text : List ℕ) (header : Header) (t : SolveText) : Type 0 where
  pub given : Option Kind
  pub asked : IsAsked text header given t
