-- Components are classes of states.
use Rattle.std.proofs.Common.{◌≡◌, ℕ, zero, suc, ◌+◌, ◌<◌, ◌≤◌, inl, inr, Bool, true, false, refl, sym, ◌∙◌, subst, List, arith}
use Rattle.std.specs.Prelude.{◌&&◌, Contains, if◌then◌else◌}
use Rattle.std.specs.List.{list_any}
use Rattle.std.proofs.lemmas.Bool.{and_from, and_parts}
use Rattle.std.proofs.lemmas.Bool.Decides.{same_from_decides}
use Rattle.std.proofs.lemmas.List.Elements.{All-contains}
use Rattle.machine_model.specs.Automaton.{AutomatonModel, IsAutomaton, JoinsStates, rejects, states_of}
use Rattle.machine_model.specs.Components.{ComponentsAreClasses, EdgePath, Reaches, are_joined, is_reached, local_count, rejecting_below, turns}
use Rattle.machine_model.specs.declared.automata.Edge.{Edge}
use Rattle.machine_model.proofs.Reachability.{HasEdgeOf, at_once, from_edge, goes_on, last_edge, no_edge, reached_le, reached_on, reached_within, some_edge}

-- joined states, each way
pub record AreJoined (a : AutomatonModel) (q r : ℕ) : Type 0 where
  pub there : is_reached a (states_of a) q r ≡ true
  pub back : is_reached a (states_of a) r q ≡ true

pub joined_ways : (a : AutomatonModel) (q r : ℕ) → are_joined a q r ≡ true → AreJoined a q r
unfolding are_joined
joined_ways a q r h =
    let parts : (is_reached a (states_of a) q r ≡ true) × (is_reached a (states_of a) r q ≡ true) =
    and_parts (is_reached a (states_of a) q r) (is_reached a (states_of a) r q) h in
    record { there = parts.0; back = parts.1 }

pub ways_join : (a : AutomatonModel) (q r : ℕ) → AreJoined a q r → are_joined a q r ≡ true
unfolding are_joined
ways_join a q r ways = and_from (is_reached a (states_of a) q r) (is_reached a (states_of a) r q) ways.there ways.back

pub joined_self : (a : AutomatonModel) (q : ℕ) → are_joined a q q ≡ true
joined_self a q =
    let here : is_reached a (states_of a) q q ≡ true = reached_le a 0 (states_of a) q q (omega arith) (at_once a q q refl) in
    ways_join a q q (record { there = here; back = here })

pub joined_back : (a : AutomatonModel) (q r : ℕ) → are_joined a q r ≡ true → are_joined a r q ≡ true
joined_back a q r h =
    let ways : AreJoined a q r = joined_ways a q r h in
    ways_join a r q (record { there = ways.back; back = ways.there })

pub same_back : (a : AutomatonModel) (q r : ℕ) → are_joined a q r ≡ are_joined a r q
same_back a q r =
    same_from_decides {P = are_joined a r q ≡ true} (are_joined a q r) (are_joined a r q) (joined_back a q r, joined_back a r q) (λ h. h, λ h. h)

pub joined_on : (a : AutomatonModel) (q r s : ℕ) → IsAutomaton a → q < states_of a → s < states_of a
    → are_joined a q r ≡ true → are_joined a r s ≡ true → are_joined a q s ≡ true
joined_on a q r s whole hq hs first second =
    let one : AreJoined a q r = joined_ways a q r first in
    let two : AreJoined a r s = joined_ways a r s second in
    let n = states_of a in
    ways_join a q s (record {
      there = reached_within a q (n + n) s whole hq hs (reached_on a n n q r s one.there two.there);
      back = reached_within a s (n + n) q whole hs hq (reached_on a n n s r q two.back one.back);
    })

-- joined states are joined with the same ones
pub joined_alike : (a : AutomatonModel) (q r s : ℕ) → IsAutomaton a → q < states_of a → r < states_of a → s < states_of a
    → are_joined a q r ≡ true → are_joined a q s ≡ are_joined a r s
joined_alike a q r s whole hq hr hs joined =
    same_from_decides {P = are_joined a r s ≡ true} (are_joined a q s) (are_joined a r s)
    (joined_on a r q s whole hr hs (joined_back a q r joined), joined_on a q r s whole hq hs joined) (λ h. h, λ h. h)

-- two tests that agree at each edge
pub tests_alike : (f g : Edge → Bool) (edges : List Edge) → ((e : Edge) → Contains edges e → f e ≡ g e) → list_any f edges ≡ list_any g edges
tests_alike f g edges same =
    same_from_decides {P = list_any g edges ≡ true} (list_any f edges) (list_any g edges) (
      λ h. let found : HasEdgeOf edges f = some_edge f edges h in
          from_edge g edges found.edge found.stands (sym (same found.edge found.stands) ∙ found.passes),
      λ h. let found : HasEdgeOf edges g = some_edge g edges h in
          from_edge f edges found.edge found.stands (same found.edge found.stands ∙ found.passes),
    )
    (λ h. h, λ h. h)

-- whether an edge leads from the component of state q into itself
abbrev pub stays_in : AutomatonModel → ℕ → Edge → Bool
stays_in a q e = are_joined a q e.from && are_joined a q e.to

pub turns_is : (a : AutomatonModel) (q : ℕ) → turns a q ≡ list_any (stays_in a q) a.edges
unfolding turns
turns_is a q = refl

module _ (a : AutomatonModel) (q r : ℕ) (whole : IsAutomaton a) (hq : q < states_of a) (hr : r < states_of a) (joined : are_joined a q r ≡ true) where
  turn_alike : turns a q ≡ turns a r
  turn_alike =
      turns_is a q
      ∙ tests_alike (stays_in a q) (stays_in a r) a.edges (λ e there.
      let ends : JoinsStates (states_of a) e = All-contains (JoinsStates (states_of a)) a.edges e whole.edges there in
      let from : are_joined a q e.from ≡ are_joined a r e.from = joined_alike a q r e.from whole hq hr ends.from joined in
      let to : are_joined a q e.to ≡ are_joined a r e.to = joined_alike a q r e.to whole hq hr ends.to joined in
      λ i. from i && to i)
      ∙ sym (turns_is a r)

  reject_alike : (n : ℕ) → n ≤ states_of a → rejecting_below a q n ≡ rejecting_below a r n
  unfolding rejecting_below
  reject_alike zero few = refl
  reject_alike (suc n) few =
      let below : rejecting_below a q n ≡ rejecting_below a r n = reject_alike n (omega arith) in
      let here : are_joined a q n ≡ are_joined a r n = joined_alike a q r n whole hq hr (omega arith) joined in
      λ i. below i + (if rejects a n && here i then 1 else 0)

  count_alike : local_count a q ≡ local_count a r
  unfolding local_count
  count_alike =
      let below : rejecting_below a q (states_of a) ≡ rejecting_below a r (states_of a) = reject_alike (states_of a) (omega arith) in
      λ i. if turn_alike i then below i else 0

one_at_most : (b : Bool) → (if b then 1 else 0) ≤ 1
one_at_most true = omega arith
one_at_most false = omega arith

pub rejecting_few : (a : AutomatonModel) (q n : ℕ) → rejecting_below a q n ≤ n
unfolding rejecting_below
rejecting_few a q zero = omega arith
rejecting_few a q (suc n) = omega (arith, rejecting_few a q n, one_at_most (rejects a n && are_joined a q n))

pub count_few : (a : AutomatonModel) (q : ℕ) → local_count a q ≤ states_of a
unfolding local_count
count_few a q = at_most (turns a q) (rejecting_few a q (states_of a))
  where
    at_most : {k n : ℕ} (b : Bool) → k ≤ n → (if b then k else 0) ≤ n
    at_most true few = few
    at_most false few = omega arith

edge_turns : (a : AutomatonModel) (e : Edge) → Contains a.edges e → are_joined a e.from e.to ≡ true → turns a e.from ≡ true
edge_turns a e there joined =
    turns_is a e.from
    ∙ from_edge (stays_in a e.from) a.edges e there (and_from (are_joined a e.from e.from) (are_joined a e.from e.to) (joined_self a e.from) joined)

pub classes : (a : AutomatonModel) → IsAutomaton a → ComponentsAreClasses a
classes a whole = record {
  self = λ q h. joined_self a q;
  back = same_back a;
  on = λ q r s hq hr hs. joined_on a q r s whole hq hs;
  same_count = λ q r hq hr joined. count_alike a q r whole hq hr joined;
  few = count_few a;
  turning = edge_turns a;
}

-- a path and one more edge behind it
path_push : (a : AutomatonModel) (n q : ℕ) (e : Edge) → Contains a.edges e → EdgePath a n q e.from → EdgePath a (suc n) q e.to
path_push a zero q e there path = (e, there, sym path, refl)
path_push a (suc n) q e there path = (path.0, path.1, path.2, path_push a n path.0.to e there path.3)

reached_path : (a : AutomatonModel) (n q r : ℕ) → is_reached a n q r ≡ true → Reaches a q r
reached_path a zero q r h = record { steps = 0; path = no_edge a q r h }
reached_path a (suc n) q r h = elim (last_edge a n q r h) [
  | inl before ↦ reached_path a n q r before
  | inr last ↦
      let before : Reaches a q last.edge.from = reached_path a n q last.edge.from last.before in
      record { steps = suc before.steps; path = subst (EdgePath a (suc before.steps) q) last.ends (path_push a before.steps q last.edge last.stands before.path) }
]

path_reached : (a : AutomatonModel) (n q r : ℕ) → EdgePath a n q r → is_reached a n q r ≡ true
path_reached a zero q r path = at_once a q r path
path_reached a (suc n) q r path =
    let first : is_reached a 1 q path.0.to ≡ true = goes_on a 0 q path.0.to path.0 path.1 (at_once a q path.0.from (sym path.2)) refl in
    let e : 1 + n ≡ suc n = omega arith in
    subst (λ k. is_reached a k q r ≡ true) e (reached_on a 1 n q path.0.to r first (path_reached a n path.0.to r path.3))

pub joined_paths : (a : AutomatonModel) (q r : ℕ) → are_joined a q r ≡ true → Reaches a q r × Reaches a r q
joined_paths a q r h =
    let ways : AreJoined a q r = joined_ways a q r h in
    (reached_path a (states_of a) q r ways.there, reached_path a (states_of a) r q ways.back)

pub paths_joined : (a : AutomatonModel) (q r : ℕ) → IsAutomaton a → q < states_of a → r < states_of a → Reaches a q r × Reaches a r q → are_joined a q r ≡ true
paths_joined a q r whole hq hr paths =
    ways_join a q r (record {
      there = reached_within a q paths.0.steps r whole hq hr (path_reached a paths.0.steps q r paths.0.path);
      back = reached_within a r paths.1.steps q whole hr hq (path_reached a paths.1.steps r q paths.1.path);
    })
