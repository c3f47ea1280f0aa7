-- Evaluations that follow each other, and tests that fail.
use Rattle.std.proofs.Common.{◌≡◌, Err, refl, ap}
use Rattle.text_limits.specs.declared.Limits.{Limits}
use Rattle.spec_faults.specs.declared.code.SpecFault.{SpecFault}
use Rattle.spec_faults.specs.declared.code.SpecFault.TheVariants.{NoMemory, At}
use Rattle.tlsf_values.specs.declared.work.Work.{Work}
use Rattle.tlsf_values.specs.EnvSeen.{metered}
use Rattle.tlsf_values.specs.Outcomes.{Outcome, fails, gives, go_on, Checked, checked}
use Rattle.tlsf_values.specs.Results.{IsFault, IsChecked}

pub go_on_assoc : {A B C : Type 0} (o : Outcome A) (f : A → Work → Outcome B) (g : B → Work → Outcome C) → go_on (go_on o f) g ≡ go_on o (λ a w. go_on (f a w) g)
go_on_assoc (gives a w) f g = refl
go_on_assoc (fails code place) f g = refl

-- a fault stays the first one, whatever would follow
pub fault_goes_on : {A B : Type 0} (o : Outcome A) (f : A → Work → Outcome B) (e : SpecFault) → IsFault o e → IsFault (go_on o f) e
fault_goes_on o f NoMemory h = tt
fault_goes_on o f (At code place) h = ap (λ o. go_on o f) h

-- a fault is told as it is
pub fault_metered : {A : Type 0} (limits : Limits) (o : Outcome A) (e : SpecFault) → IsFault o e → IsFault (metered limits o) e
fault_metered limits o NoMemory h = tt
fault_metered limits o (At code place) h = ap (metered limits) h

-- what a test of a sort refuses is refused after it
pub checked_fault : {A B : Type 0} (e : SpecFault) (o : Checked A) (f : A → Work → Outcome B) (w : Work) → IsChecked {A = A} (Err e) o → IsFault (checked o f w) e
checked_fault NoMemory o f w h = tt
checked_fault (At code place) o f w h = ap (λ o. checked o f w) h
