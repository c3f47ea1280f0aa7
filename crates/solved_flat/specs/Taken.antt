-- What holds of what came of a text that was taken as `solve` takes it.
use Rattle.std.specs.Prelude.{◌≡◌, ◌≤◌, ◌+◌, ℕ, Bool, List, Option, None, Some, length}
use Rattle.text_limits.specs.declared.TheConstants.{LARGE_LIMITS}
use Rattle.letters_and_lassos.specs.declared.kinds.Kind.{Kind}
use Rattle.ltl_formula.specs.Nodes.{IsNodeIn}
use Rattle.kind_conversion.specs.declared.shifts.Shift.{Shift}
use Rattle.kind_conversion.specs.Shifts.{shift_of}
use Rattle.tlsf_expand.specs.FlatText.{spec_seen}
use Rattle.flat_lines.specs.FlatLines.{CanBeWritten, flat_bytes_by}
use Rattle.program_replies.specs.declared.replies.Reply.{Reply}
use Rattle.solve_ground.specs.SolveText.{IsSolveText}
use Rattle.solve_ground.specs.Taken.{taken_shift}
use Rattle.solved_flat.specs.declared.texts.TakenText.{TakenText}
use Rattle.solved_flat.specs.declared.texts.Taking.{Taking}
use Rattle.solved_flat.specs.declared.texts.Taking.TheVariants.{Taken, Refused}
use Rattle.solved_flat.specs.Shown.{shown_names}
use Rattle.solved_flat.specs.Expand.{expansion_bytes, listed}

-- what is shifted of a text of these machines, where it was converted from this kind
abbrev pub shift_from : Option Kind → Kind → Option Shift
shift_from None kind = None
shift_from (Some semantics) kind = shift_of semantics kind

abbrev pub shift_seen : TakenText → Option Shift
shift_seen t = shift_from t.known.semantics t.known.kind

-- the text is this one, and is flat what stands beside what `solve` knows of it
pub record IsTaken (text : List ℕ) (given : Option Kind) (t : TakenText) : Type 0 where
  pub known : IsSolveText text given t.known
  pub flat : spec_seen t.spec ≡ known.flat
  pub shift : shift_seen t ≡ taken_shift given known.taken.tree

-- its flat text can be written, and it can be asked about words: there are few signals, and the whole stands in its list
pub record CanBeAnswered (t : TakenText) : Type 0 where
  pub writable : CanBeWritten (spec_seen t.spec)
  pub few : length t.spec.inputs.items + length t.spec.outputs.items ≤ LARGE_LIMITS.all_signals
  pub stands : IsNodeIn t.known.formulas t.known.normal

-- its flat sections, with X before each signal that is shifted
abbrev pub sections_of : TakenText → List ℕ
sections_of t = flat_bytes_by (shown_names (shift_seen t) (spec_seen t.spec).expanded) (spec_seen t.spec)

-- its list of formulas, where it is asked for
abbrev pub list_of : Bool → TakenText → List ℕ
list_of with_nodes t = listed with_nodes (spec_seen t.spec) t.known.formulas

-- the bytes with which such a text answers `expand --solve`
abbrev pub bytes_of_taken : Bool → TakenText → List ℕ
bytes_of_taken with_nodes t = expansion_bytes with_nodes (shift_seen t) (spec_seen t.spec) t.known.formulas

-- if it is a text, this holds of it
abbrev pub IfTaken : (TakenText → Type 0) → Taking → Type 0
IfTaken P (Taken text) = P text
IfTaken P (Refused reply) = Unit {0}

-- if it is the reply to a fault, this holds of it
abbrev pub IfRefused : (Reply → Type 0) → Taking → Type 0
IfRefused P (Taken text) = Unit {0}
IfRefused P (Refused reply) = P reply

-- it is this text, and can be answered, and no refusal
abbrev pub IsWholly : List ℕ → Option Kind → Taking → Type 0
IsWholly text given (Taken t) = IsTaken text given t × CanBeAnswered t
IsWholly text given (Refused reply) = ⊥
