-- Names of components, and what is counted by them.
use Rattle.std.proofs.Common.{◌≡◌, ◌==◌, ℕ, zero, suc, ◌+◌, ◌<◌, ◌≤◌, inl, inr, Bool, true, false, refl, sym, ◌∙◌, ap, subst, List, length, get_or, take, arith}
use Rattle.std.specs.Prelude.{◌&&◌, sum, if◌then◌else◌}
use Rattle.std.specs.List.{list_any}
use Rattle.std.proofs.lemmas.Bool.{both_ways, cases_lt, cond-false, cond-true, eq-eqb, eqb-true}
use Rattle.std.proofs.lemmas.Bool.Decides.{same_from_decides}
use Rattle.std.proofs.lemmas.Grind.{same_number_lists}
use Rattle.std.proofs.lemmas.List.{get_or_default}
use Rattle.std.proofs.lemmas.List.Sums.{sum_by_more}
use Rattle.text_limits.specs.declared.TheConstants.{LARGE_LIMITS}
use Rattle.machine_model.specs.Automaton.{AutomatonModel, IsAutomaton, JoinsStates, rejects, states_of}
use Rattle.machine_model.specs.Components.{AreComponentsOf, ComponentsModel, are_joined, is_reached, local_before, local_count, rejecting_below, turns}
use Rattle.machine_model.specs.Named.{AreCounted, AreNamed, AreSums, AreTurning, IsLeastBelow, lead_both_ways}
use Rattle.machine_model.specs.Reached.{AreReached, leads}
use Rattle.machine_model.specs.declared.automata.Edge.{Edge}
use Rattle.machine_model.specs.declared.reached.StateSet.{StateSet}
use Rattle.machine_model.proofs.Classes.{count_few, joined_back, joined_on, joined_self, same_back, stays_in, tests_alike, turns_is}
use Rattle.std.proofs.lemmas.List.Elements.{All-contains}

-- what the sets say is what is joined
joined_is : (a : AutomatonModel) (q r : ℕ) → are_joined a q r ≡ (is_reached a (states_of a) q r && is_reached a (states_of a) r q)
unfolding are_joined
joined_is a q r = refl

lead_joined : (a : AutomatonModel) (sets : List StateSet) → AreReached a sets → (q r : ℕ) → q < states_of a → r < states_of a → lead_both_ways sets q r ≡ are_joined a q r
lead_joined a sets reached q r hq hr =
    ap (λ b. b && leads sets r q) (reached.at q r hq hr)
    ∙ ap (λ b. is_reached a (states_of a) q r && b) (reached.at r q hr hq)
    ∙ sym (joined_is a q r)

pub named_all : (a : AutomatonModel) (sets : List StateSet) (names : List ℕ) → IsAutomaton a → AreReached a sets → length names ≡ states_of a
    → ((p : ℕ) → p < states_of a → IsLeastBelow (lead_both_ways sets p) p (get_or names p 0)) → AreNamed a names
named_all a sets names whole reached places at = record {
  whole = whole;
  places = places;
  at = λ q h.
      let least : IsLeastBelow (lead_both_ways sets q) q (get_or names q 0) = at q h in
      let within : get_or names q 0 ≤ q = least.within in
      record {
        within = within;
        passes = λ less. sym (lead_joined a sets reached q (get_or names q 0) h (omega arith)) ∙ least.passes less;
        others = λ r less. sym (lead_joined a sets reached q r h (omega arith)) ∙ least.others r less;
      };
}

abbrev name_in : List ℕ → ℕ → ℕ
name_in names q = get_or names q 0

module _ (a : AutomatonModel) (names : List ℕ) (named : AreNamed a names) where
  pub name_within : (q : ℕ) → q < states_of a → name_in names q < states_of a
  name_within q h =
      let within : name_in names q ≤ q = (named.at q h).within in
      omega arith

  pub name_joined : (q : ℕ) → q < states_of a → are_joined a q (name_in names q) ≡ true
  name_joined q h = elim (cases_lt (name_in names q) q) [
    | inl less ↦ (named.at q h).passes less
    | inr more ↦
        let within : name_in names q ≤ q = (named.at q h).within in
        let same : q ≡ name_in names q = omega arith in
        subst (λ r. are_joined a q r ≡ true) same (joined_self a q)
  ]

  never_less : (q r : ℕ) → q < states_of a → r < states_of a → are_joined a q r ≡ true → name_in names r < name_in names q → ⊥
  never_less q r hq hr joined less =
      both_ways (are_joined a q (name_in names r)) ((named.at q hq).others (name_in names r) less)
      (joined_on a q r (name_in names r) named.whole hq (name_within r hr) joined (name_joined r hr))

  one_name : (q r : ℕ) → q < states_of a → r < states_of a → are_joined a q r ≡ true → name_in names q ≡ name_in names r
  one_name q r hq hr joined = elim (cases_lt (name_in names r) (name_in names q)) [
    | inl less ↦ absurd (never_less q r hq hr joined less)
    | inr few ↦ elim (cases_lt (name_in names q) (name_in names r)) [
      | inl more ↦ absurd (never_less r q hr hq (joined_back a q r joined) more)
      | inr many ↦ omega (arith, few, many)
    ]
  ]

  pub names_right : (q r : ℕ) → q < states_of a → r < states_of a → (name_in names q == name_in names r) ≡ are_joined a q r
  names_right q r hq hr =
      same_from_decides {P = are_joined a q r ≡ true} (name_in names q == name_in names r) (are_joined a q r) (
        λ h. let same : name_in names q ≡ name_in names r = eqb-true (name_in names q) (name_in names r) h in
            joined_on a q (name_in names q) r named.whole hq hr (name_joined q hq)
            (joined_back a r (name_in names q) (subst (λ s. are_joined a r s ≡ true) (sym same) (name_joined r hr))),
        λ joined. eq-eqb (name_in names q) (name_in names r) (one_name q r hq hr joined),
      )
      (λ h. h, λ h. h)

-- whether both ends of the edge have this name
abbrev names_both : List ℕ → ℕ → Edge → Bool
names_both names m e = (name_in names e.from == m) && (name_in names e.to == m)

-- a name is marked where one of the edges has it at both ends
pub record AreMarked (names : List ℕ) (edges : List Edge) (marks : List Bool) : Type 0 where
  pub places : length marks ≡ length names
  pub at : (m : ℕ) → m < length marks → get_or marks m false ≡ list_any (names_both names m) edges

pub turning_all : (a : AutomatonModel) (names : List ℕ) (marks : List Bool) → AreNamed a names → AreMarked names a.edges marks → AreTurning a names marks
turning_all a names marks named marked = record {
  places = marked.places ∙ named.places;
  at = λ q h.
      marked.at (name_in names q) (omega (arith, marked.places, named.places, name_within a names named q h))
      ∙ tests_alike (names_both names (name_in names q)) (stays_in a q) a.edges (λ e there.
      let ends : JoinsStates (states_of a) e = All-contains (JoinsStates (states_of a)) a.edges e named.whole.edges there in
      let from : (name_in names e.from == name_in names q) ≡ are_joined a q e.from = names_right a names named e.from q ends.from h ∙ same_back a e.from q in
      let to : (name_in names e.to == name_in names q) ≡ are_joined a q e.to = names_right a names named e.to q ends.to h ∙ same_back a e.to q in
      λ i. from i && to i)
      ∙ sym (turns_is a q);
}

-- what is counted
pub rejecting_more : (a : AutomatonModel) (q n : ℕ) → rejecting_below a q (n + 1) ≡ rejecting_below a q n + (if rejects a n && are_joined a q n then 1 else 0)
unfolding rejecting_below
rejecting_more a q n =
    let e : n + 1 ≡ suc n = omega arith in
    ap (rejecting_below a q) e

pub rejecting_none : (a : AutomatonModel) (q : ℕ) → rejecting_below a q 0 ≡ 0
unfolding rejecting_below
rejecting_none a q = refl

pub local_is : (a : AutomatonModel) (q : ℕ) → local_count a q ≡ (if turns a q then rejecting_below a q (states_of a) else 0)
unfolding local_count
local_is a q = refl

before_is : (a : AutomatonModel) (q : ℕ) → local_before a (suc q) ≡ local_before a q + local_count a q
unfolding local_before
before_is a q = refl

before_none : (a : AutomatonModel) → local_before a 0 ≡ 0
unfolding local_before
before_none a = refl

pub counts_small : (a : AutomatonModel) (counts : List ℕ) → AreCounted a counts → states_of a ≤ LARGE_LIMITS.automaton.states → (k d : ℕ) → k < length counts → get_or counts k d ≤ LARGE_LIMITS.automaton.states
counts_small a counts counted few k d h =
    let same : get_or counts k d ≡ get_or counts k 0 = get_or_default counts k d 0 h in
    let is : get_or counts k 0 ≡ local_count a k = counted.at k (omega (arith, counted.places)) in
    omega (arith, count_few a k)

before_sum : (a : AutomatonModel) (counts : List ℕ) → AreCounted a counts → (k : ℕ) → k ≤ states_of a → sum (take k counts) ≡ local_before a k
before_sum a counts counted zero h = sym (before_none a)
before_sum a counts counted (suc k) h =
    let below : sum (take k counts) ≡ local_before a k = before_sum a counts counted k (omega arith) in
    let here : get_or counts k 0 ≡ local_count a k = counted.at k (omega arith) in
    let more : sum (take (k + 1) counts) ≡ sum (take k counts) + get_or counts k 0 = sum_by_more (λ n. n) counts k 0 (omega (arith, counted.places)) in
    let next : k + 1 ≡ suc k = omega arith in
    sym (ap (λ n. sum (take n counts)) next) ∙ more ∙ (λ i. below i + here i) ∙ sym (before_is a k)

pub components_all : (a : AutomatonModel) (names counts sums : List ℕ) → AreNamed a names → AreCounted a counts → AreSums counts sums
    → AreComponentsOf a (record { names = names; counts = counts; before = sums })
components_all a names counts sums named counted summed = record {
  name_places = named.places;
  count_places = counted.places;
  sum_places = summed.places ∙ ap (λ n. n + 1) counted.places;
  names = names_right a names named;
  least = λ q h. (named.at q h).within;
  inside = name_joined a names named;
  counts = counted.at;
  before = λ q h. summed.at q (omega (arith, counted.places)) ∙ before_sum a counts counted q h;
}

-- one number more
pub count_on : (a : AutomatonModel) (q r count next : ℕ) → count ≡ rejecting_below a q r → next ≡ count + (if rejects a r && are_joined a q r then 1 else 0)
    → next ≡ rejecting_below a q (r + 1)
count_on a q r count next so_far is = is ∙ ap (λ n. n + (if rejects a r && are_joined a q r then 1 else 0)) so_far ∙ sym (rejecting_more a q r)

pub local_turning : (a : AutomatonModel) (q : ℕ) → turns a q ≡ true → rejecting_below a q (states_of a) ≡ local_count a q
local_turning a q is = sym (local_is a q ∙ cond-true (turns a q) (rejecting_below a q (states_of a)) 0 is)

pub local_still : (a : AutomatonModel) (q : ℕ) → turns a q ≡ false → 0 ≡ local_count a q
local_still a q isnt = sym (local_is a q ∙ cond-false (turns a q) (rejecting_below a q (states_of a)) 0 isnt)

-- components are determined: each name is the least state of its component
name_most : (a : AutomatonModel) (c d : ComponentsModel) → AreComponentsOf a c → AreComponentsOf a d → (q : ℕ) → q < states_of a → get_or c.names q 0 ≤ get_or d.names q 0
name_most a c d first second q h =
    let least : get_or d.names q 0 ≤ q = second.least q h in
    let within : get_or d.names q 0 < states_of a = omega arith in
    let same : get_or c.names q 0 ≡ get_or c.names (get_or d.names q 0) 0 =
    eqb-true (get_or c.names q 0) (get_or c.names (get_or d.names q 0) 0) (first.names q (get_or d.names q 0) h within ∙ second.inside q h) in
    let few : get_or c.names (get_or d.names q 0) 0 ≤ get_or d.names q 0 = first.least (get_or d.names q 0) within in
    omega arith

pub one_components : (a : AutomatonModel) (c d : ComponentsModel) → AreComponentsOf a c → AreComponentsOf a d → c ≡ d
one_components a c d first second =
    let names : c.names ≡ d.names = same_number_lists c.names d.names (first.name_places ∙ sym second.name_places) (λ k h.
    let within : k < states_of a = omega (arith, first.name_places) in
    let most : get_or c.names k 0 ≤ get_or d.names k 0 = name_most a c d first second k within in
    let least : get_or d.names k 0 ≤ get_or c.names k 0 = name_most a d c second first k within in
    omega arith) in
    let counts : c.counts ≡ d.counts = same_number_lists c.counts d.counts (first.count_places ∙ sym second.count_places) (λ k h.
    let within : k < states_of a = omega (arith, first.count_places) in
    first.counts k within ∙ sym (second.counts k within)) in
    let before : c.before ≡ d.before = same_number_lists c.before d.before (first.sum_places ∙ sym second.sum_places) (λ k h.
    let within : k ≤ states_of a = omega (arith, first.sum_places) in
    first.before k within ∙ sym (second.before k within)) in
    λ i. record { names = names i; counts = counts i; before = before i }
