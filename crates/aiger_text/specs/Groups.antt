-- A walk along the gates that gates use which finds groups of gates that depend on each other (the path-based algorithm
-- for strongly connected components, Gabow 2000).
use Rattle.std.specs.Prelude.{◌≡◌, ◌≢◌, ℕ, ◌+◌, ◌/◌, ◌<◌, ◌≤◌, ◌⊎◌, ◌↔◌, Bool, true, false, List, length, Contains, slice_index, slice_index_or}
use Rattle.std.specs.List.{sum_by}
use Rattle.aiger_text.specs.declared.circuits.Gate.{Gate}
use Rattle.aiger_text.specs.declared.groups.Stage.{Stage}
use Rattle.aiger_text.specs.declared.groups.Stage.TheVariants.{New, Open, Done}
use Rattle.aiger_text.specs.declared.groups.Wish.{Wish}
use Rattle.aiger_text.specs.declared.groups.Wish.TheVariants.{Nothing, Enter, Join}
use Rattle.aiger_text.specs.CircuitType.{DependsOn, gate_at}
use Rattle.aiger_text.specs.Walks.{IsOnCycle, Uses}

abbrev pub stage_at : List Stage → ℕ → Stage
stage_at stages k = slice_index_or stages k (Done false)

abbrev pub is_done : Stage → Bool
is_done New = false
is_done (Open i) = false
is_done (Done on) = true

abbrev pub IsDone : List Stage → ℕ → Type 0
IsDone stages k = is_done (stage_at stages k) ≡ true

-- gate g depends on gate h
abbrev pub Leads : List Gate → ℕ → ℕ → Type 0
Leads gates g h = DependsOn gates ((gate_at gates g).literal / 2) ((gate_at gates h).literal / 2)

-- each number is greater than those before it
abbrev pub Rises : List ℕ → Type 0
Rises xs = (i k : ℕ) → i < k → k < length xs → slice_index xs i < slice_index xs k

-- the greatest number of a list
pub record IsGreatest (xs : List ℕ) (x : ℕ) : Type 0 where
  pub there : Contains xs x
  pub most : (y : ℕ) → Contains xs y → y ≤ x

-- the start of the group that has the open gate at place i
pub record IsStart (starts : List ℕ) (start i : ℕ) : Type 0 where
  pub there : Contains starts start
  pub before : start ≤ i
  pub most : (y : ℕ) → Contains starts y → y ≤ i → y ≤ start

-- gate h is done, or open in no group before that of place i
abbrev pub Stays : List Stage → List ℕ → ℕ → ℕ → Type 0
Stays stages starts i h =
    IsDone stages h ⊎ ((p : ℕ) × ((stage_at stages h ≡ Open p) × ((start : ℕ) → Contains starts start → start ≤ i → start ≤ p)))

-- What is known of a tour: the open gates stand where their stages say, each leads to those behind it, and within its
-- group back to the group's start; what a gate that isn't followed any more uses is done, or not in an earlier group;
-- what a done gate uses is done, and it is known whether it is on a cycle.
pub record IsTour (gates : List Gate) (stages : List Stage) (opened path starts : List ℕ) : Type 0 where
  pub places : length stages ≡ length gates
  pub within : (i : ℕ) → i < length opened → slice_index opened i < length gates
  pub stands : (i : ℕ) → i < length opened → stage_at stages (slice_index opened i) ≡ Open i
  pub listed : (k i : ℕ) → stage_at stages k ≡ Open i → (i < length opened) × (slice_index opened i ≡ k)
  pub onward : (i k : ℕ) → i < k → k < length opened → Leads gates (slice_index opened i) (slice_index opened k)
  pub back : (i start : ℕ) → IsStart starts start i → start < i → i < length opened → Leads gates (slice_index opened i) (slice_index opened start)
  pub closed : (k h : ℕ) → k < length gates → IsDone stages k → h < length gates → Uses gates k h → IsDone stages h
  pub finished : (i h : ℕ) → i < length opened → (Contains path i → ⊥) → h < length gates → Uses gates (slice_index opened i) h → Stays stages starts i h
  pub roots : (start : ℕ) → Contains starts start → Contains path start
  pub path_rises : Rises path
  pub path_within : (i : ℕ) → Contains path i → i < length opened
  pub starts_rise : Rises starts
  pub first : 0 < length opened → Contains starts 0
  pub known : (k : ℕ) (on : Bool) → k < length gates → stage_at stages k ≡ Done on → (on ≡ true ↔ IsOnCycle gates k)

-- what an operand wishes for: nothing where it is done or in the last group, which begins at `start`
abbrev pub AtOperand : List Gate → List Stage → ℕ → ℕ → Wish → Type 0
AtOperand gates stages start literal Nothing =
    (h : ℕ) → h < length gates → literal / 2 ≡ (gate_at gates h).literal / 2 → IsDone stages h ⊎ ((p : ℕ) × ((stage_at stages h ≡ Open p) × (start ≤ p)))
AtOperand gates stages start literal (Enter h) = (h < length gates) × ((literal / 2 ≡ (gate_at gates h).literal / 2) × (stage_at stages h ≡ New))
AtOperand gates stages start literal (Join p) =
    (h : ℕ) × ((h < length gates) × ((literal / 2 ≡ (gate_at gates h).literal / 2) × ((stage_at stages h ≡ Open p) × (p < start))))

-- what a gate wishes for by its operands
abbrev pub AtGate : List Gate → List Stage → ℕ → ℕ → Wish → Type 0
AtGate gates stages start g Nothing =
    (h : ℕ) → h < length gates → Uses gates g h → IsDone stages h ⊎ ((p : ℕ) × ((stage_at stages h ≡ Open p) × (start ≤ p)))
AtGate gates stages start g (Enter h) = (h < length gates) × (Uses gates g h × (stage_at stages h ≡ New))
AtGate gates stages start g (Join p) = (h : ℕ) × ((h < length gates) × (Uses gates g h × ((stage_at stages h ≡ Open p) × (p < start))))

-- how much there is to do
abbrev pub weight : Stage → ℕ
weight New = 3
weight (Open i) = 0
weight (Done on) = 0

-- the gates of these places, from the first one up to another, are done, and the other ones as before
pub record Closes (old new : List Stage) (opened : List ℕ) (from to : ℕ) (on : Bool) : Type 0 where
  pub places : length new ≡ length old
  pub done : (i : ℕ) → from ≤ i → i < to → stage_at new (slice_index opened i) ≡ Done on
  pub kept : (k : ℕ) → ((i : ℕ) → from ≤ i → i < to → slice_index opened i ≢ k) → stage_at new k ≡ stage_at old k
  pub sum : sum_by weight new ≤ sum_by weight old

abbrev pub left_to_do : List Stage → List ℕ → List ℕ → ℕ
left_to_do stages path starts = sum_by weight stages + (length path + length starts)

-- a step: done gates stay done, and none becomes new
pub record Goes (old new : List Stage) : Type 0 where
  pub keeps_done : (k : ℕ) → IsDone old k → IsDone new k
  pub no_new : (k : ℕ) → stage_at new k ≡ New → stage_at old k ≡ New

-- those of the starts that are at most this one
pub record CutsGroup (old new : List ℕ) (most : ℕ) : Type 0 where
  pub from_old : (x : ℕ) → Contains new x → Contains old x
  pub stay : (x : ℕ) → Contains old x → x ≤ most → Contains new x
  pub at_most : (x : ℕ) → Contains new x → x ≤ most
  pub rises : Rises new
  pub fewer : (x : ℕ) → Contains old x → most < x → length new < length old

-- the first gate that is done and on a cycle
pub record IsFirstDone (stages : List Stage) (k : ℕ) : Type 0 where
  pub within : k < length stages
  pub here : stage_at stages k ≡ Done true
  pub before : (i : ℕ) → i < k → stage_at stages i ≡ Done true → ⊥
