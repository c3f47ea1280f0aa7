-- Which states are reached from which: a path may be cut short to as many edges as there are states.
use Rattle.std.proofs.Common.{◌≡◌, ◌==◌, ℕ, zero, suc, ◌+◌, ◌<◌, ◌≤◌, ◌⊎◌, inl, inr, Bool, true, false, refl, sym, ◌∙◌, ap, subst, List, arith}
use Rattle.std.specs.Prelude.{◌&&◌, ◌||◌, Any, Contains}
use Rattle.std.specs.List.{list_any}
use Rattle.std.proofs.lemmas.Bool.{and_from, and_parts, cases_Bool, eq-eqb, eqb-true, or_cases, or_left, or_right}
use Rattle.std.proofs.lemmas.List.Elements.{All-contains}
use Rattle.std.proofs.lemmas.List.Folds.{Any-from_list_any, list_any-from_Any}
use Rattle.machine_model.specs.Automaton.{AutomatonModel, IsAutomaton, JoinsStates, states_of}
use Rattle.machine_model.specs.Components.{is_reached}
use Rattle.machine_model.specs.declared.automata.Edge.{Edge}

-- an edge that passes a test
pub record HasEdgeOf (edges : List Edge) (test : Edge → Bool) : Type 0 where
  pub edge : Edge
  pub stands : Contains edges edge
  pub passes : test edge ≡ true

pub some_edge : (test : Edge → Bool) (edges : List Edge) → list_any test edges ≡ true → HasEdgeOf edges test
some_edge test edges h =
    let found : Any (λ e. test e ≡ true) edges = Any-from_list_any test edges h in
    record { edge = found.1; stands = (found.0, found.2, found.3); passes = found.4 }

pub from_edge : (test : Edge → Bool) (edges : List Edge) (e : Edge) → Contains edges e → test e ≡ true → list_any test edges ≡ true
from_edge test edges e there passes = list_any-from_Any test edges (there.0, e, there.1, there.2, passes)

-- whether an edge leads on from what is reached in n edges to state r
abbrev leads_on : AutomatonModel → ℕ → ℕ → ℕ → Edge → Bool
leads_on a n q r e = is_reached a n q e.from && (e.to == r)

reached_zero : (a : AutomatonModel) (q r : ℕ) → is_reached a 0 q r ≡ (q == r)
unfolding is_reached
reached_zero a q r = refl

reached_suc : (a : AutomatonModel) (n q r : ℕ) → is_reached a (suc n) q r ≡ (is_reached a n q r || list_any (leads_on a n q r) a.edges)
unfolding is_reached
reached_suc a n q r = refl

pub at_once : (a : AutomatonModel) (q r : ℕ) → q ≡ r → is_reached a 0 q r ≡ true
at_once a q r e = reached_zero a q r ∙ eq-eqb q r e

pub no_edge : (a : AutomatonModel) (q r : ℕ) → is_reached a 0 q r ≡ true → q ≡ r
no_edge a q r h = eqb-true q r (sym (reached_zero a q r) ∙ h)

pub stays_reached : (a : AutomatonModel) (n q r : ℕ) → is_reached a n q r ≡ true → is_reached a (suc n) q r ≡ true
stays_reached a n q r h = reached_suc a n q r ∙ or_left (is_reached a n q r) (list_any (leads_on a n q r) a.edges) h

pub goes_on : (a : AutomatonModel) (n q r : ℕ) (e : Edge) → Contains a.edges e → is_reached a n q e.from ≡ true → e.to ≡ r → is_reached a (suc n) q r ≡ true
goes_on a n q r e there h ends =
    reached_suc a n q r
    ∙ or_right (is_reached a n q r) (list_any (leads_on a n q r) a.edges)
    (from_edge (leads_on a n q r) a.edges e there (and_from (is_reached a n q e.from) (e.to == r) h (eq-eqb e.to r ends)))

-- the last edge of a path
pub record HasLast (a : AutomatonModel) (n q r : ℕ) : Type 0 where
  pub edge : Edge
  pub stands : Contains a.edges edge
  pub before : is_reached a n q edge.from ≡ true
  pub ends : edge.to ≡ r

pub last_edge : (a : AutomatonModel) (n q r : ℕ) → is_reached a (suc n) q r ≡ true → (is_reached a n q r ≡ true) ⊎ HasLast a n q r
last_edge a n q r h =
    elim (or_cases (is_reached a n q r) (list_any (leads_on a n q r) a.edges) (sym (reached_suc a n q r) ∙ h)) [
      | inl before ↦ inl before
      | inr on ↦
          let found : HasEdgeOf a.edges (leads_on a n q r) = some_edge (leads_on a n q r) a.edges on in
          let parts : (is_reached a n q found.edge.from ≡ true) × ((found.edge.to == r) ≡ true) =
          and_parts (is_reached a n q found.edge.from) (found.edge.to == r) found.passes in
          inr (record { edge = found.edge; stands = found.stands; before = parts.0; ends = eqb-true found.edge.to r parts.1 })
    ]

-- a number below n + 1 is n or less
pub last_or_less : (k n : ℕ) → k < suc n → (k ≡ n) ⊎ (k < n)
last_or_less k n within = grind arith

pub reached_le : (a : AutomatonModel) (m n q r : ℕ) → m ≤ n → is_reached a m q r ≡ true → is_reached a n q r ≡ true
reached_le a m zero q r few h =
    let e : m ≡ 0 = omega arith in
    subst (λ k. is_reached a k q r ≡ true) e h
reached_le a m (suc n) q r few h = elim (last_or_less m (suc n) (omega arith)) [
  | inl e ↦ subst (λ k. is_reached a k q r ≡ true) e h
  | inr less ↦ stays_reached a n q r (reached_le a m n q r (omega (arith, less)) h)
]

-- a path goes on where another one begins
pub reached_on : (a : AutomatonModel) (m l q r s : ℕ) → is_reached a m q r ≡ true → is_reached a l r s ≡ true → is_reached a (m + l) q s ≡ true
reached_on a m zero q r s h g =
    let same : r ≡ s = no_edge a r s g in
    let e : m ≡ m + 0 = omega arith in
    subst (λ k. is_reached a k q s ≡ true) e (subst (λ x. is_reached a m q x ≡ true) same h)
reached_on a m (suc l) q r s h g =
    let e : suc (m + l) ≡ m + suc l = omega arith in
    subst (λ k. is_reached a k q s ≡ true) e
    (elim (last_edge a l r s g) [
      | inl before ↦ stays_reached a (m + l) q s (reached_on a m l q r s h before)
      | inr last ↦ goes_on a (m + l) q s last.edge last.stands (reached_on a m l q r last.edge.from h last.before) last.ends
    ])

-- how many of the first n numbers pass a test
abbrev weight : Bool → ℕ
weight true = 1
weight false = 0

abbrev count_to : (ℕ → Bool) → ℕ → ℕ
count_to f zero = 0
count_to f (suc n) = count_to f n + weight (f n)

one_at_most : (b : Bool) → weight b ≤ 1
one_at_most true = omega arith
one_at_most false = omega arith

weight_one : (b : Bool) → b ≡ true → weight b ≡ 1
weight_one b e = ap weight e

weight_none : (b : Bool) → b ≡ false → weight b ≡ 0
weight_none b e = ap weight e

count_few : (f : ℕ → Bool) (n : ℕ) → count_to f n ≤ n
count_few f zero = omega arith
count_few f (suc n) = omega (arith, count_few f n, one_at_most (f n))

one_grows : (b c : Bool) → (b ≡ true → c ≡ true) → weight b ≤ weight c
one_grows true c on = omega (arith, weight_one c (on refl))
one_grows false c on = omega arith

count_grows : (f g : ℕ → Bool) (n : ℕ) → ((k : ℕ) → k < n → f k ≡ true → g k ≡ true) → count_to f n ≤ count_to g n
count_grows f g zero on = omega arith
count_grows f g (suc n) on =
    let below : count_to f n ≤ count_to g n = count_grows f g n (λ k h. on k (omega arith)) in
    let here : weight (f n) ≤ weight (g n) = one_grows (f n) (g n) (on n (omega arith)) in
    omega arith

count_rises : (f g : ℕ → Bool) (n j : ℕ) → ((k : ℕ) → k < n → f k ≡ true → g k ≡ true) → j < n → f j ≡ false → g j ≡ true
    → suc (count_to f n) ≤ count_to g n
count_rises f g zero j on within out in_it = absurd (omega arith)
count_rises f g (suc n) j on within out in_it = elim (last_or_less j n within) [
  | inl e ↦
      let below : count_to f n ≤ count_to g n = count_grows f g n (λ k h. on k (omega arith)) in
      omega (arith, below, weight_none (f n) (ap f (sym e) ∙ out), weight_one (g n) (ap g (sym e) ∙ in_it))
  | inr less ↦
      let below : suc (count_to f n) ≤ count_to g n = count_rises f g n j (λ k h. on k (omega arith)) less out in_it in
      let here : weight (f n) ≤ weight (g n) = one_grows (f n) (g n) (on n (omega arith)) in
      omega arith
]

-- one test passes wherever the other does, or there is a number at which it doesn't
record IsApart (f g : ℕ → Bool) (n : ℕ) : Type 0 where
  place : ℕ
  within : place < n
  in_it : g place ≡ true
  out : f place ≡ false

with_last : (f g : ℕ → Bool) (n : ℕ) → ((k : ℕ) → k < n → g k ≡ true → f k ≡ true) → (g n ≡ true → f n ≡ true)
    → (k : ℕ) → k < suc n → g k ≡ true → f k ≡ true
with_last f g n all last k h is = elim (last_or_less k n h) [
  | inl e ↦ ap f e ∙ last (ap g (sym e) ∙ is)
  | inr less ↦ all k less is
]

compare : (f g : ℕ → Bool) (n : ℕ) → ((k : ℕ) → k < n → g k ≡ true → f k ≡ true) ⊎ IsApart f g n
compare f g zero = inl (λ k h. absurd (omega arith))
compare f g (suc n) = elim (compare f g n) [
  | inr apart ↦
      let within : apart.place < n = apart.within in
      inr (record { place = apart.place; within = omega arith; in_it = apart.in_it; out = apart.out })
  | inl all ↦ elim (cases_Bool (f n)) [
    | inl passes ↦ inl (with_last f g n all (λ is. passes))
    | inr out ↦ elim (cases_Bool (g n)) [
      | inl is ↦ inr (record { place = n; within = omega arith; in_it = is; out = out })
      | inr none ↦ inl (with_last f g n all (λ is. cc))
    ]
  ]
]

-- one more edge leads nowhere new
record IsSettled (a : AutomatonModel) (q m : ℕ) : Type 0 where
  at : (r : ℕ) → r < states_of a → is_reached a (suc m) q r ≡ true → is_reached a m q r ≡ true

settled_stays : (a : AutomatonModel) (q m : ℕ) → IsAutomaton a → IsSettled a q m → (l r : ℕ) → r < states_of a → is_reached a l q r ≡ true → is_reached a m q r ≡ true
settled_stays a q m whole settled zero r within h = reached_le a 0 m q r (omega arith) h
settled_stays a q m whole settled (suc l) r within h = elim (last_edge a l q r h) [
  | inl before ↦ settled_stays a q m whole settled l r within before
  | inr last ↦
      let ends : JoinsStates (states_of a) last.edge = All-contains (JoinsStates (states_of a)) a.edges last.edge whole.edges last.stands in
      settled.at r within (goes_on a m q r last.edge last.stands (settled_stays a q m whole settled l last.edge.from ends.from last.before) last.ends)
]

-- after m edges nothing new is reached, or more than m states are
settles : (a : AutomatonModel) (q : ℕ) → q < states_of a → (m : ℕ)
    → ((k : ℕ) × ((k ≤ m) × IsSettled a q k)) ⊎ (suc m ≤ count_to (is_reached a m q) (states_of a))
settles a q within zero =
    let one : suc (count_to (λ _. false) (states_of a)) ≤ count_to (is_reached a 0 q) (states_of a) =
    count_rises (λ _. false) (is_reached a 0 q) (states_of a) q (λ k h never. cc) within refl (at_once a q q refl) in
    inr (omega arith)
settles a q within (suc m) = elim (settles a q within m) [
  | inl settled ↦ let few : settled.0 ≤ m = settled.1.0 in inl (settled.0, (omega arith, settled.1.1))
  | inr more ↦ elim (compare (is_reached a m q) (is_reached a (suc m) q) (states_of a)) [
    | inl all ↦ inl (m, (omega arith, record { at = all }))
    | inr apart ↦
        let rises : suc (count_to (is_reached a m q) (states_of a)) ≤ count_to (is_reached a (suc m) q) (states_of a) =
        count_rises (is_reached a m q) (is_reached a (suc m) q) (states_of a) apart.place (λ k h is. stays_reached a m q k is) apart.within apart.out apart.in_it in
        inr (omega arith)
  ]
]

-- what a path of any length leads to is reached within as many edges as there are states
pub reached_within : (a : AutomatonModel) (q l r : ℕ) → IsAutomaton a → q < states_of a → r < states_of a → is_reached a l q r ≡ true → is_reached a (states_of a) q r ≡ true
reached_within a q l r whole from to h = elim (settles a q from (states_of a)) [
  | inl settled ↦ reached_le a settled.0 (states_of a) q r settled.1.0 (settled_stays a q settled.0 whole settled.1.1 l r to h)
  | inr more ↦ absurd (omega (arith, count_few (is_reached a (states_of a) q) (states_of a)))
]
