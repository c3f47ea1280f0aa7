-- What the code answers, against what comes of an evaluation.
use Rattle.std.specs.Prelude.{◌≡◌, Result, Ok, Err}
use Rattle.spec_faults.specs.declared.code.SpecFault.{SpecFault}
use Rattle.spec_faults.specs.declared.code.SpecFault.TheVariants.{NoMemory, At}
use Rattle.tlsf_values.specs.declared.work.Work.{Work}
use Rattle.tlsf_values.specs.Outcomes.{Outcome, gives, fails, Checked, fine, faulty}

-- the fault is the outcome's, unless memory was wanted
abbrev pub IsFault : {A : Type 0} → Outcome A → SpecFault → Type 0
IsFault o NoMemory = Unit {0}
IsFault o (At code place) = o ≡ fails code place

-- the answer and the work after it are the outcome, unless memory was wanted
abbrev pub IsOutcome : {A : Type 0} → Result A SpecFault → Work → Outcome A → Type 0
IsOutcome (Ok a) w o = o ≡ gives a w
IsOutcome (Err e) w o = IsFault o e

-- the same, where the answer is seen as a plain value
abbrev pub IsOutcomeAs : {A B : Type 0} → (A → B) → Result A SpecFault → Work → Outcome B → Type 0
IsOutcomeAs f (Ok a) w o = o ≡ gives (f a) w
IsOutcomeAs f (Err e) w o = IsFault o e

-- the same of what needs no work, unless memory was wanted
abbrev pub IsCheckedAs : {A B : Type 0} → (A → B) → Result A SpecFault → Checked B → Type 0
IsCheckedAs f (Ok a) o = o ≡ fine (f a)
IsCheckedAs f (Err NoMemory) o = Unit {0}
IsCheckedAs f (Err (At code place)) o = o ≡ faulty code place

-- the same of what needs no work and takes no memory
abbrev pub IsChecked : {A : Type 0} → Result A SpecFault → Checked A → Type 0
IsChecked (Ok a) o = o ≡ fine a
IsChecked (Err NoMemory) o = ⊥
IsChecked (Err (At code place)) o = o ≡ faulty code place

-- the same, where the answer is seen as a plain value
abbrev pub IsCheckedSeen : {A B : Type 0} → (A → B) → Result A SpecFault → Checked B → Type 0
IsCheckedSeen f (Ok a) o = o ≡ fine (f a)
IsCheckedSeen f (Err NoMemory) o = ⊥
IsCheckedSeen f (Err (At code place)) o = o ≡ faulty code place
