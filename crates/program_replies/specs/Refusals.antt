-- The reply to a text with a fault (this project's own).
use Rattle.std.specs.Prelude.{◌≡◌, ℕ, List}
use Rattle.spec_faults.specs.declared.code.SpecCode.{SpecCode}
use Rattle.spec_faults.specs.declared.code.SpecFault.{SpecFault}
use Rattle.spec_faults.specs.declared.code.SpecFault.TheVariants.{At, NoMemory}
use Rattle.program_replies.specs.declared.replies.Status.{Status}
use Rattle.program_replies.specs.declared.replies.Status.TheVariants.{Refused}
use Rattle.program_replies.specs.Lines.{refusal_line}

-- the bytes and the status for a fault of a text; for want of memory there are none
abbrev pub IsRefusal : SpecFault → List ℕ → Status → Type 0
IsRefusal (At code place) bytes ended = (bytes ≡ refusal_line code place) × (ended ≡ Refused)
IsRefusal NoMemory bytes ended = ⊥

-- the line and the status of a fault of which something holds, such as that it is a text's first one
pub record RefusedBy (IsFault : SpecCode → ℕ → Type 0) (bytes : List ℕ) (status : ℕ) : Type 0 where
  pub code : SpecCode
  pub place : ℕ
  pub status_is : status ≡ 1
  pub fault : IsFault code place
  pub line : bytes ≡ refusal_line code place
