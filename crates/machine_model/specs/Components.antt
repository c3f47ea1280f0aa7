use Rattle.std.specs.Prelude.{◌≡◌, ◌↔◌, ◌==◌, ℕ, zero, suc, ◌+◌, ◌<◌, ◌≤◌, Bool, true, ◌&&◌, ◌||◌, List, Contains, length, map, nat_lt, slice_index_or, if◌then◌else◌}
use Rattle.std.specs.List.{list_any, range_with_len}
use Rattle.machine_model.specs.Automaton.{AutomatonModel, IsAutomaton, rejects, states_of}
use Rattle.machine_model.specs.declared.automata.Edge.{Edge}

-- The strongly connected components of an automaton, and how many rejecting states a run that stays in one can meet
-- (graph theory; counting inside a component is usual where bounded synthesis is implemented).

-- whether a path of at most n edges leads from state q to state r, whatever the letters
unfoldable pub is_reached : AutomatonModel → ℕ → ℕ → ℕ → Bool
is_reached a zero q r = q == r
is_reached a (suc n) q r = is_reached a n q r || list_any (λ e. is_reached a n q e.from && (e.to == r)) a.edges

-- whether two states are in one component: each can be reached from the other (a path needs no more edges than there are
-- states)
unfoldable pub are_joined : AutomatonModel → ℕ → ℕ → Bool
are_joined a q r = is_reached a (states_of a) q r && is_reached a (states_of a) r q

-- whether the component of state q turns: an edge leads from it into itself
unfoldable pub turns : AutomatonModel → ℕ → Bool
turns a q = list_any (λ e. are_joined a q e.from && are_joined a q e.to) a.edges

-- how many of the first n states are rejecting and in the component of state q
unfoldable pub rejecting_below : AutomatonModel → ℕ → ℕ → ℕ
rejecting_below a q zero = 0
rejecting_below a q (suc n) = rejecting_below a q n + (if rejects a n && are_joined a q n then 1 else 0)

-- how many rejecting states a run that stays in the component of state q can meet
unfoldable pub local_count : AutomatonModel → ℕ → ℕ
local_count a q = if turns a q then rejecting_below a q (states_of a) else 0

-- the sum of these numbers over the first q states
unfoldable pub local_before : AutomatonModel → ℕ → ℕ
local_before a zero = 0
local_before a (suc q) = local_before a q + local_count a q

-- what is kept of them: for each state a name of its component and its number, and for each number of states, from 0 on,
-- the sum over so many
pub record ComponentsModel : Type 0 where
  pub names : List ℕ
  pub counts : List ℕ
  pub before : List ℕ

-- whether two states have components of one name
abbrev pub have_one_name : ComponentsModel → ℕ → ℕ → Bool
have_one_name c q r = slice_index_or c.names q 0 == slice_index_or c.names r 0

-- these are the components of the automaton; the name of one is its least state
pub record AreComponentsOf (a : AutomatonModel) (c : ComponentsModel) : Type 0 where
  pub name_places : length c.names ≡ states_of a
  pub count_places : length c.counts ≡ states_of a
  pub sum_places : length c.before ≡ states_of a + 1
  pub names : (q r : ℕ) → q < states_of a → r < states_of a → have_one_name c q r ≡ are_joined a q r
  pub least : (q : ℕ) → q < states_of a → slice_index_or c.names q 0 ≤ q
  pub inside : (q : ℕ) → q < states_of a → are_joined a q (slice_index_or c.names q 0) ≡ true
  pub counts : (q : ℕ) → q < states_of a → slice_index_or c.counts q 0 ≡ local_count a q
  pub before : (q : ℕ) → q ≤ states_of a → slice_index_or c.before q 0 ≡ local_before a q

-- the least number below n that passes a test, or n
unfoldable pub least_below : (ℕ → Bool) → ℕ → ℕ
least_below test zero = zero
least_below test (suc n) = if nat_lt (least_below test n) n then least_below test n else (if test n then n else suc n)

-- the components of the automaton, computed
abbrev pub components_of : AutomatonModel → ComponentsModel
components_of a = record {
  names = map (λ q. least_below (are_joined a q) q) (range_with_len 0 (states_of a));
  counts = map (local_count a) (range_with_len 0 (states_of a));
  before = map (local_before a) (range_with_len 0 (states_of a + 1));
}

-- a path of n edges from state q to state r, whatever the letters
abbrev pub EdgePath : AutomatonModel → ℕ → ℕ → ℕ → Type 0
EdgePath a zero q r = q ≡ r
EdgePath a (suc n) q r = (e : Edge) × Contains a.edges e × (e.from ≡ q) × EdgePath a n e.to r

-- some path leads from state q to state r
pub record Reaches (a : AutomatonModel) (q r : ℕ) : Type 0 where
  pub steps : ℕ
  pub path : EdgePath a steps q r

-- two states are in one component exactly where paths of any length lead both ways (graph theory)
abbrev pub JoinedIsReached : Type 0
JoinedIsReached =
    (a : AutomatonModel) (q r : ℕ) → IsAutomaton a → q < states_of a → r < states_of a
    → (are_joined a q r ≡ true) ↔ (Reaches a q r × Reaches a r q)

-- being in one component is an equivalence, and joined states have the same number
pub record ComponentsAreClasses (a : AutomatonModel) : Type 0 where
  pub self : (q : ℕ) → q < states_of a → are_joined a q q ≡ true
  pub back : (q r : ℕ) → are_joined a q r ≡ are_joined a r q
  pub on : (q r s : ℕ) → q < states_of a → r < states_of a → s < states_of a → are_joined a q r ≡ true → are_joined a r s ≡ true → are_joined a q s ≡ true
  pub same_count : (q r : ℕ) → q < states_of a → r < states_of a → are_joined a q r ≡ true → local_count a q ≡ local_count a r
  pub few : (q : ℕ) → local_count a q ≤ states_of a
  pub turning : (e : Edge) → Contains a.edges e → are_joined a e.from e.to ≡ true → turns a e.from ≡ true

abbrev pub ComponentsClass : Type 0
ComponentsClass = (a : AutomatonModel) → IsAutomaton a → ComponentsAreClasses a

-- an automaton has these components alone
abbrev pub ComponentsAreDetermined : Type 0
ComponentsAreDetermined = (a : AutomatonModel) (c d : ComponentsModel) → AreComponentsOf a c → AreComponentsOf a d → c ≡ d

-- what an automaton's components are is computed, and each automaton has them
pub record ComponentsAreComputed (a : AutomatonModel) : Type 0 where
  pub are : IsAutomaton a → AreComponentsOf a (components_of a)
  pub alone : (c : ComponentsModel) → AreComponentsOf a c → c ≡ components_of a

abbrev pub ComponentsCompute : Type 0
ComponentsCompute = (a : AutomatonModel) → ComponentsAreComputed a
