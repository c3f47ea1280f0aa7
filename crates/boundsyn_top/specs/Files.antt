-- Files that a command takes (this project's own).
use Rattle.std.specs.Prelude.{◌≡◌, ⊤, ℕ, ◌<◌, Option, List, IfSome, codes, length}
use Rattle.input_output.specs.Faults.{Rose}
use Rattle.input_output.specs.Files.{Files, bytes_under}
use Rattle.spec_faults.specs.declared.code.SpecCode.TheVariants.{TooLong}
use Rattle.tlsf_reader.specs.Faults.{most_bytes}
use Rattle.program_replies.specs.Lines.{refusal_line}
use Rattle.program_replies.specs.Statuses.{status_number}
use Rattle.boundsyn_top.specs.Steps.{IsUnchanged, ShelfStep}
use Rattle.boundsyn_top.specs.declared.files.Taken.{Taken}
use Rattle.boundsyn_top.specs.declared.files.Taken.TheVariants.{Whole, Refused}

-- the bytes are those of the file, where the shelf tells its files
abbrev pub AreOfFile : Option Files → List ℕ → List ℕ → Type 0
AreOfFile told name bytes = IfSome told (λ files. bytes ≡ bytes_under files name)

-- Something holds of the bytes of a file.
pub record HoldsOfFile (told : Option Files) (name : List ℕ) (P : List ℕ → Type 0) : Type 0 where
  pub bytes : List ℕ
  pub are_told : AreOfFile told name bytes
  pub holds : P bytes

-- the reply where a text isn't taken: it has more bytes than a text may have, or its count of faults rose
pub data IsUntaken (step : ShelfStep) (name bytes : List ℕ) (status : ℕ) : Type 0 where
  too_long : IfSome step.files (λ files. most_bytes < length (bytes_under files name)) → IsUnchanged step → status ≡ 1 → bytes ≡ refusal_line TooLong most_bytes
      → IsUntaken step name bytes status
  unread : Rose (step.before name) (step.after name) → status ≡ 3 → bytes ≡ codes "cannot read\n"
      → IsUntaken step name bytes status

-- what taking a text gives: its bytes, or the reply where it isn't taken
abbrev pub IsTakenText : ShelfStep → List ℕ → Taken → Type 0
IsTakenText step name (Whole bytes) = AreOfFile step.files name bytes.items
IsTakenText step name (Refused reply) = IsUntaken step name reply.bytes.items (status_number reply.status)

-- where a text is taken, no count rose
abbrev pub IsTakenUnchanged : ShelfStep → Taken → Type 0
IsTakenUnchanged step (Whole bytes) = IsUnchanged step
IsTakenUnchanged step (Refused reply) = ⊤
