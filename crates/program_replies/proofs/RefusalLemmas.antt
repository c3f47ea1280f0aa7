-- The line of a fault, and what it refuses by.
use Rattle.std.proofs.Common.{◌≡◌, ℕ, List, refl, ap, ◌∙◌}
use Rattle.spec_faults.specs.declared.code.SpecCode.{SpecCode}
use Rattle.spec_faults.specs.declared.code.SpecFault.{SpecFault}
use Rattle.spec_faults.specs.declared.code.SpecFault.TheVariants.{At, NoMemory}
use Rattle.program_replies.specs.declared.replies.Status.{Status}
use Rattle.program_replies.specs.Lines.{refusal_line}
use Rattle.program_replies.specs.Statuses.{status_number}
use Rattle.program_replies.specs.Refusals.{IsRefusal, RefusedBy}

-- the line of one fault at one place
pub one_refusal : (code other : SpecCode) (place at : ℕ) → code ≡ other → place ≡ at → refusal_line code place ≡ refusal_line other at
one_refusal code other place at same here = ap (λ c. refusal_line c place) same ∙ ap (refusal_line other) here

-- the reply to a fault refuses by whatever holds of the fault
pub refused_by : (IsFault : SpecCode → ℕ → Type 0) (fault : SpecFault) (bytes : List ℕ) (ended : Status)
    → ((code : SpecCode) (place : ℕ) → fault ≡ At code place → IsFault code place) → IsRefusal fault bytes ended → RefusedBy IsFault bytes (status_number ended)
refused_by IsFault (At code place) bytes ended holds is =
    record { code = code; place = place; status_is = ap status_number is.1; fault = holds code place refl; line = is.0 }
refused_by IsFault NoMemory bytes ended holds is = absurd is
