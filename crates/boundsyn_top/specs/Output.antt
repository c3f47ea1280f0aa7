-- What a run writes, with its status (this project's own).
use Rattle.std.specs.Prelude.{◌≡◌, ℕ, Bool, List, Option, Result, Ok, Err}
use Rattle.tlsf_expand.specs.FlatText.{spec_seen}
use Rattle.flat_lines.specs.FlatLines.{CanBeWritten, flat_bytes}
use Rattle.flat_answer.specs.Expand.{ExpandAnswers}
use Rattle.letters_and_lassos.specs.declared.kinds.Kind.{Kind}
use Rattle.solved_flat.specs.Expand.{ExpandSolveAnswers}
use Rattle.solved_flat.specs.Taken.{CanBeAnswered, bytes_of_taken}
use Rattle.program_replies.specs.declared.replies.Reply.{Reply}
use Rattle.program_replies.specs.Statuses.{status_number}
use Rattle.boundsyn_top.specs.declared.output.Output.{Output}
use Rattle.boundsyn_top.specs.declared.output.Output.TheVariants.{Whole, Flat, Solved}

abbrev pub bytes_of : Output → List ℕ
bytes_of (Whole reply) = reply.bytes.items
bytes_of (Flat spec) = flat_bytes (spec_seen spec)
bytes_of (Solved text nodes) = bytes_of_taken nodes text

abbrev pub status_of : Output → ℕ
status_of (Whole reply) = status_number reply.status
status_of (Flat spec) = 0
status_of (Solved text nodes) = 0

-- a flat text has names and formulas that can be written
abbrev pub IsWritable : Output → Type 0
IsWritable (Whole reply) = Unit {0}
IsWritable (Flat spec) = CanBeWritten (spec_seen spec)
IsWritable (Solved text nodes) = CanBeAnswered text

-- the output of a reply, if there is one
abbrev pub IsWholeOf : {E : Type 0} → Result Reply E → Result Output E → Type 0
IsWholeOf (Ok reply) (Ok output) = output ≡ Whole reply
IsWholeOf (Ok reply) (Err error) = ⊥
IsWholeOf (Err error) (Ok output) = ⊥
IsWholeOf (Err error) (Err other) = Unit {0}

-- what is written answers the text of `expand`
pub record IsExpansion (text : List ℕ) (output : Output) : Type 0 where
  pub answers : ExpandAnswers text (bytes_of output) (status_of output)
  pub writable : IsWritable output

-- or that of `expand --solve`
pub record IsSolveExpansion (text : List ℕ) (given : Option Kind) (nodes : Bool) (output : Output) : Type 0 where
  pub answers : ExpandSolveAnswers text given nodes (bytes_of output) (status_of output)
  pub writable : IsWritable output
