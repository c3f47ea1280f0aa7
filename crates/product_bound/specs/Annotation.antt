use Rattle.std.specs.Prelude.{◌≡◌, ℕ, ◌+◌, ◌*◌, ◌^◌, ◌<◌, ◌≤◌, Bool, not, ◌&&◌, List, Option, Some, None, count_by, slice_index_or, if◌then◌else◌}
use Rattle.machine_model.specs.Automaton.{AutomatonModel, HasEdge, rejects, states_of}
use Rattle.machine_model.specs.Components.{are_joined, local_count}
use Rattle.machine_model.specs.Course.{letter_of}
use Rattle.machine_model.specs.Machine.{MachineModel, next_of}
use Rattle.machine_model.specs.Problem.{automaton_of, counts_locally}
use Rattle.machine_model.specs.declared.problems.Problem.{Problem}

-- how much a number rises at an edge into a state: 1 where the state is rejecting, else 0 (bounded synthesis of
-- Finkbeiner and Schewe)
abbrev pub rise_at : AutomatonModel → ℕ → ℕ
rise_at a q = if rejects a q then 1 else 0

-- the number of rejecting states
abbrev pub rejecting_count : AutomatonModel → ℕ
rejecting_count a = count_by (λ is_rejecting. is_rejecting) a.rejecting

-- the greatest number where all rejecting states are counted: the number of pairs of a machine's state and a rejecting state
-- (the same source)
abbrev pub bound_of : Problem → ℕ
bound_of p = p.size * rejecting_count (automaton_of p)

-- how many rejecting states an annotation counts in state q: all of them, or where it counts by component those that a run that stays in
-- its component can meet (the same source; counting inside a component is usual where bounded synthesis is implemented)
abbrev pub rejecting_at : Problem → ℕ → ℕ
rejecting_at p q = if counts_locally p then local_count (automaton_of p) q else rejecting_count (automaton_of p)

-- the greatest number that a pair of the automaton's state q may have: the number of pairs of a machine's state and a
-- rejecting state that is counted in q (the same source)
abbrev pub bound_at : Problem → ℕ → ℕ
bound_at p q = p.size * rejecting_at p q

-- whether numbers are counted anew at an edge from state q to state r: where they count by component and it leaves q's
abbrev pub leaves : Problem → ℕ → ℕ → Bool
leaves p q r = counts_locally p && not (are_joined (automaton_of p) q r)

-- the least number of the first pair, which counts a rejecting start where all are counted
abbrev pub start_number : Problem → ℕ
start_number p = if counts_locally p then 0 else rise_at (automaton_of p) 0

-- the least number of a pair of state r behind a pair of state q with this number
abbrev pub number_after : Problem → ℕ → ℕ → ℕ → ℕ
number_after p q r number = if leaves p q r then 0 else (number + rise_at (automaton_of p) r)

-- an annotation has a place for each pair of a machine's state and an automaton's state
abbrev pub places_of : Problem → ℕ
places_of p = p.size * states_of (automaton_of p)

-- the number of the pair (t, q), if it has one
abbrev pub number_at : Problem → List (Option ℕ) → ℕ → ℕ → Option ℕ
number_at p numbers t q = slice_index_or numbers (t * states_of (automaton_of p) + q) None

-- the pair (t, q) has a number of at least `least`
pub record HasNumber (p : Problem) (numbers : List (Option ℕ)) (t q least : ℕ) : Type 0 where
  pub number : ℕ
  pub stands : number_at p numbers t q ≡ Some number
  pub enough : least ≤ number

-- a valid annotation: no number passes the bound of its state, the first pair has a number that counts a rejecting start,
-- and along each edge that fits what the machine reads and writes numbers don't fall, and rise into a rejecting state; where
-- they count by component they do so along edges within one, and behind another edge there is some number (bounded synthesis
-- of Finkbeiner and Schewe)
pub record IsValidAnnotation (p : Problem) (m : MachineModel) (numbers : List (Option ℕ)) : Type 0 where
  pub bounded : (t q c : ℕ) → t < p.size → q < states_of (automaton_of p) → number_at p numbers t q ≡ Some c → c ≤ bound_at p q
  pub start : HasNumber p numbers 0 0 (start_number p)
  pub edges : (t q c i r : ℕ) → t < p.size → q < states_of (automaton_of p) → number_at p numbers t q ≡ Some c → i < 2 ^ m.reads
      → HasEdge (automaton_of p) (letter_of p.side m t i) q r
      → HasNumber p numbers (next_of m t i) r (number_after p q r c)
