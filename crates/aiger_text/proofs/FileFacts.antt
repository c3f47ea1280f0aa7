use Rattle.std.proofs.Common.{◌≡◌, ◌≢◌, ℕ, ◌<◌, Option, Some, None, List, length, sym, ap, ◌∙◌, arith, inl, inr}
use Rattle.std.specs.Prelude.{Result, Ok, Err}
use Rattle.std.specs.Result.{result_unwrap_or}
use Rattle.std.specs.Option.{option_map_or}
use Rattle.std.proofs.lemmas.Bool.{cases_eq, cases_lt}
use Rattle.aiger_text.specs.declared.circuits.Gate.{Gate}
use Rattle.aiger_text.specs.declared.faults.CircuitFault.{CircuitFault}
use Rattle.aiger_text.specs.declared.faults.CircuitFault.TheVariants.{NoMemory, Undefined, Cycle}
use Rattle.aiger_text.specs.Walks.{IsFirstCycle}
use Rattle.aiger_text.specs.CircuitFile.{Parts, circuit_parts, file_of, undefined_line, gate_line_number}
use Rattle.aiger_text.specs.CircuitFile.IsFirstFault.{of_line, of_use, of_cycle}
use Rattle.aiger_text.specs.FileLaws.{FilesStateOneThing, FilesHaveOneFault, FaultsStateNothing}

-- one reading, and one fault
same_parts : (r : Result Parts CircuitFault) (p q : Parts) → r ≡ Ok p → r ≡ Ok q → p ≡ q
same_parts r p q a b = ap (λ (r : Result Parts CircuitFault). result_unwrap_or r p) (sym a ∙ b)

fault_in : Result Parts CircuitFault → CircuitFault
fault_in (Ok p) = NoMemory
fault_in (Err fault) = fault

same_fault : (r : Result Parts CircuitFault) (f g : CircuitFault) → r ≡ Err f → r ≡ Err g → f ≡ g
unfolding fault_in
same_fault r f g a b = ap fault_in (sym a ∙ b)

never : {X : Type 0} (r : Result Parts CircuitFault) (p : Parts) (f : CircuitFault) → r ≡ Ok p → r ≡ Err f → X
never r p f a b = let e : ◌≡◌ {A = Result Parts CircuitFault} (Ok p) (Err f) = sym a ∙ b in absurd (cc)

never_used : {X : Type 0} (o : Option ℕ) (n : ℕ) → o ≡ Some n → o ≡ None → X
never_used o n a b = let e : ◌≡◌ {A = Option ℕ} (Some n) None = sym a ∙ b in absurd (cc)

same_line : (o : Option ℕ) (m n : ℕ) → o ≡ Some m → o ≡ Some n → m ≡ n
same_line o m n a b = ap (λ (o : Option ℕ). option_map_or (λ k. k) o 0) (sym a ∙ b)

same_place : (gates : List Gate) (i k : ℕ) → IsFirstCycle gates i → IsFirstCycle gates k → i ≡ k
same_place gates i k a b = elim (cases_lt i k) [
  | inl less ↦ absurd (b.first i less a.itself)
  | inr more ↦ elim (cases_eq i k) [
    | inl e ↦ e
    | inr ne ↦ let apart : i ≢ k = ne in let less : k < i = omega arith in absurd (a.first k less b.itself)
  ]
]

pub files_state_one_thing : FilesStateOneThing
files_state_one_thing bytes f g a b =
    a.file_is ∙ ap (file_of (length bytes)) (same_parts (circuit_parts bytes) a.parts b.parts a.lines b.lines) ∙ sym b.file_is

pub faults_state_nothing : FaultsStateNothing
faults_state_nothing bytes f fault a (of_line e) = never (circuit_parts bytes) a.parts fault a.lines e
faults_state_nothing bytes f fault a (of_use {n = n} parts e used) =
    never_used (undefined_line parts.draft) n used (ap (λ (p : Parts). undefined_line p.draft) (same_parts (circuit_parts bytes) parts a.parts e a.lines) ∙ a.uses)
faults_state_nothing bytes f fault a (of_cycle parts k e unused cycle) =
    let same : a.parts ≡ parts = same_parts (circuit_parts bytes) a.parts parts a.lines e in
    (rw same at a.no_cycle) k cycle.within cycle.itself

pub files_have_one_fault : FilesHaveOneFault
files_have_one_fault bytes f g (of_line a) (of_line b) = same_fault (circuit_parts bytes) f g a b
files_have_one_fault bytes f g (of_line a) (of_use p b used) = never (circuit_parts bytes) p f b a
files_have_one_fault bytes f g (of_line a) (of_cycle p k b unused cycle) = never (circuit_parts bytes) p f b a
files_have_one_fault bytes f g (of_use p a used) (of_line b) = never (circuit_parts bytes) p g a b
files_have_one_fault bytes f g (of_use {n = m} p a used) (of_use {n = n} q b used') =
    ap Undefined (same_line (undefined_line p.draft) m n used (ap (λ (x : Parts). undefined_line x.draft) (same_parts (circuit_parts bytes) p q a b) ∙ used'))
files_have_one_fault bytes f g (of_use {n = n} p a used) (of_cycle q k b unused cycle) =
    never_used (undefined_line p.draft) n used (ap (λ (x : Parts). undefined_line x.draft) (same_parts (circuit_parts bytes) p q a b) ∙ unused)
files_have_one_fault bytes f g (of_cycle p k a unused cycle) (of_line b) = never (circuit_parts bytes) p g a b
files_have_one_fault bytes f g (of_cycle p k a unused cycle) (of_use {n = n} q b used) =
    never_used (undefined_line q.draft) n used (ap (λ (x : Parts). undefined_line x.draft) (same_parts (circuit_parts bytes) q p b a) ∙ unused)
files_have_one_fault bytes f g (of_cycle p k a unused cycle) (of_cycle q i b unused' cycle') =
    let same : p ≡ q = same_parts (circuit_parts bytes) p q a b in
    ap Cycle (ap (λ (x : Parts). gate_line_number x.draft k) same
    ∙ ap (gate_line_number q.draft) (same_place q.draft.gates k i (rw same at cycle) cycle'))
