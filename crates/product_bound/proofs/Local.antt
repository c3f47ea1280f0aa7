-- From levels that count all rejecting states to levels that count those of a component alone. A pair that had a level gets
-- the number of pairs with a rejecting state of its component whose level is at most its own: an edge within a component
-- keeps what was counted, and into a rejecting state counts that state's pair, which was not counted before.
use Rattle.std.proofs.Common.{◌≡◌, ℕ, zero, suc, ◌+◌, ◌*◌, ◌%◌, ◌^◌, ◌<◌, ◌≤◌, inl, inr, refl, sym, ap, ◌∙◌, subst, arith, Bool, true, false, cond}
use Rattle.std.specs.Prelude.{Contains, ◌&&◌, nat_le, nat_lt}
use Rattle.std.proofs.Math.Nat.{mod-lt}
use Rattle.std.proofs.lemmas.Bool.{and_from, and_parts, and_right, cases_Bool, cond-true, cond-false, le-leb, lt-leb, lt-ltb, le-ltb, leb-true, cases_lt}
use Rattle.std.proofs.lemmas.List.Folds.{list_any_at}
use Rattle.std.proofs.lemmas.Nat.{mod-mul-add}
use Rattle.machine_model.specs.Automaton.{AutomatonModel, HasEdge, IsAutomaton, rejects, states_of}
use Rattle.machine_model.specs.Components.{ComponentsAreClasses, are_joined, local_count, rejecting_below, turns}
use Rattle.machine_model.specs.Course.{letter_of}
use Rattle.machine_model.specs.Machine.{MachineModel, IsMachine, next_of}
use Rattle.machine_model.specs.Problem.{IsMachineOf, automaton_of, counts_locally}
use Rattle.machine_model.specs.declared.automata.Edge.{Edge}
use Rattle.machine_model.specs.declared.problems.Problem.{Problem}
use Rattle.product_bound.specs.Annotation.{number_after, places_of, rise_at, start_number}
use Rattle.product_bound.proofs.Counted.{after_leaves, after_stays, leaves_apart, local_bound, local_start, stays_joined}
use Rattle.product_bound.proofs.Numbers.{AreLevels}
use Rattle.product_bound.proofs.Sums.{sum_below, sum_below-blocks, sum_below-le, sum_below-more}
use Rattle.product_bound.proofs.Trails.{place, place_within}

-- what passes a test that implies another weighs no more
weight_le : (x y : Bool) → (x ≡ true → y ≡ true) → cond x 1 0 ≤ cond y 1 0
weight_le true y on = let one : ◌≡◌ {A = ℕ} (cond y 1 0) 1 = cond-true y 1 0 (on refl) in omega (arith, one)
weight_le false y on = omega arith

-- a state of a component that turns
turns_too : (a : AutomatonModel) (q r : ℕ) (e : Edge) → ComponentsAreClasses a → q < states_of a → r < states_of a → Contains a.edges e → e.from ≡ q → e.to ≡ r
    → are_joined a q r ≡ true → turns a r ≡ true
unfolding turns
turns_too a q r e classes hq hr (k, h, is) from to joined =
    let test : Edge → Bool = λ x. are_joined a r x.from && are_joined a r x.to in
    let here : test e ≡ true = and_from (are_joined a r e.from) (are_joined a r e.to) (ap (are_joined a r) from ∙ classes.back r q ∙ joined) (ap (are_joined a r) to ∙ classes.self r hr) in
    list_any_at test a.edges k e h (ap test is ∙ here)

-- how many rejecting states a component has, as a sum over all states
rejecting_sum : (a : AutomatonModel) (q n : ℕ) → rejecting_below a q n ≡ sum_below n (λ s. cond (rejects a s && are_joined a q s) 1 0)
unfolding rejecting_below
rejecting_sum a q zero = refl
rejecting_sum a q (suc n) = ap (λ k. k + cond (rejects a n && are_joined a q n) 1 0) (rejecting_sum a q n)

-- what levels that count all rejecting states keep along an edge
abbrev pub Rises : Problem → MachineModel → (ℕ → ℕ) → Type 0
Rises p m level =
    (t q read r : ℕ) → t < p.size → q < states_of (automaton_of p) → r < states_of (automaton_of p) → read < 2 ^ m.reads → HasEdge (automaton_of p) (letter_of p.side m t read) q r
    → 0 < level (place p t q) → level (place p t q) + rise_at (automaton_of p) r ≤ level (place p (next_of m t read) r)

module _ (p : Problem) (classes : ComponentsAreClasses (automaton_of p)) (made : IsAutomaton (automaton_of p)) (level : ℕ → ℕ) where
  -- whether the pair at place w is counted in a pair of state q and a level
  abbrev is_counted : ℕ → ℕ → ℕ → Bool
  is_counted q most w = (rejects (automaton_of p) (w % states_of (automaton_of p)) && are_joined (automaton_of p) q (w % states_of (automaton_of p))) && (nat_lt 0 (level w) && nat_le (level w) most)

  abbrev weight : ℕ → ℕ → ℕ → ℕ
  weight q most w = cond (is_counted q most w) 1 0

  abbrev counted : ℕ → ℕ → ℕ
  counted q most = sum_below (places_of p) (weight q most)

  abbrev local_number : ℕ → ℕ → ℕ
  local_number q most = cond (turns (automaton_of p) q) (counted q most) 0

  -- the level at a place
  abbrev pub local_level : ℕ → ℕ
  local_level v = cond (nat_lt 0 (level v)) (suc (local_number (v % states_of (automaton_of p)) (level v))) 0

  level_none : (v : ℕ) → level v ≤ 0 → local_level v ≡ 0
  level_none v h = cond-false (nat_lt 0 (level v)) (suc (local_number (v % states_of (automaton_of p)) (level v))) 0 (le-ltb 0 (level v) h)

  level_some : (t q : ℕ) → q < states_of (automaton_of p) → 0 < level (place p t q) → local_level (place p t q) ≡ suc (local_number q (level (place p t q)))
  level_some t q hq h =
      cond-true (nat_lt 0 (level (place p t q))) (suc (local_number (place p t q % states_of (automaton_of p)) (level (place p t q)))) 0 (lt-ltb 0 (level (place p t q)) h)
      ∙ ap (λ s. suc (local_number s (level (place p t q)))) (mod-mul-add t (states_of (automaton_of p)) q hq)

  -- so a pair with a local level has a level, and its number is what is counted
  number_is : (t q c : ℕ) → q < states_of (automaton_of p) → local_level (place p t q) ≡ suc c → (0 < level (place p t q)) × (c ≡ local_number q (level (place p t q)))
  number_is t q c hq e =
      elim (cases_lt 0 (level (place p t q))) [
        | inl h ↦ (h, (let both : suc c ≡ suc (local_number q (level (place p t q))) = sym e ∙ level_some t q hq h in cc))
        | inr none ↦ absurd (let both : suc c ≡ 0 = sym e ∙ level_none (place p t q) none in omega (arith, both))
      ]

  counted_few : (q most : ℕ) → counted q most ≤ p.size * rejecting_below (automaton_of p) q (states_of (automaton_of p))
  counted_few q most =
      let in_component : ℕ → ℕ = λ s. cond (rejects (automaton_of p) s && are_joined (automaton_of p) q s) 1 0 in
      let fewer : counted q most ≤ sum_below (places_of p) (λ w. in_component (w % states_of (automaton_of p)))
      = sum_below-le (places_of p) (weight q most) (λ w. in_component (w % states_of (automaton_of p)))
      (λ w _. weight_le (is_counted q most w) _ (λ is. (and_parts (rejects (automaton_of p) (w % states_of (automaton_of p)) && are_joined (automaton_of p) q (w % states_of (automaton_of p))) (nat_lt 0 (level w) && nat_le (level w) most) is).0)) in
      let blocks : sum_below (places_of p) (λ w. in_component (w % states_of (automaton_of p))) ≡ p.size * sum_below (states_of (automaton_of p)) in_component
      = sum_below-blocks p.size (states_of (automaton_of p)) in_component in
      let sum : p.size * rejecting_below (automaton_of p) q (states_of (automaton_of p)) ≡ p.size * sum_below (states_of (automaton_of p)) in_component
      = ap (λ n. p.size * n) (rejecting_sum (automaton_of p) q (states_of (automaton_of p))) in
      subst (λ n. counted q most ≤ n) (blocks ∙ sym sum) fewer

  number_few : (q most : ℕ) → local_number q most ≤ p.size * local_count (automaton_of p) q
  unfolding local_count
  number_few q most = by_turns (turns (automaton_of p) q)
    where
      by_turns : (b : Bool) → cond b (counted q most) 0 ≤ p.size * cond b (rejecting_below (automaton_of p) q (states_of (automaton_of p))) 0
      by_turns true = counted_few q most
      by_turns false = omega arith

  -- along an edge within a component what was counted is still counted
  still_counted : (q r most more w : ℕ) → q < states_of (automaton_of p) → r < states_of (automaton_of p) → are_joined (automaton_of p) q r ≡ true → most ≤ more → is_counted q most w ≡ true
      → is_counted r more w ≡ true
  still_counted q r most more w hq hr joined h is =
      let s : ℕ = w % states_of (automaton_of p) in
      let hs : w % states_of (automaton_of p) < states_of (automaton_of p) = mod-lt w made.some in
      let halves : ((rejects (automaton_of p) s && are_joined (automaton_of p) q s) ≡ true) × ((nat_lt 0 (level w) && nat_le (level w) most) ≡ true)
      = and_parts (rejects (automaton_of p) s && are_joined (automaton_of p) q s) (nat_lt 0 (level w) && nat_le (level w) most) is in
      let state : (rejects (automaton_of p) s ≡ true) × (are_joined (automaton_of p) q s ≡ true) = and_parts (rejects (automaton_of p) s) (are_joined (automaton_of p) q s) halves.0 in
      let low : (nat_lt 0 (level w) ≡ true) × (nat_le (level w) most ≡ true) = and_parts (nat_lt 0 (level w)) (nat_le (level w) most) halves.1 in
      let below : level w ≤ most = leb-true (level w) most low.1 in
      let joined' : are_joined (automaton_of p) r s ≡ true = classes.on r q s hr hq hs (classes.back r q ∙ joined) state.1 in
      and_from (rejects (automaton_of p) s && are_joined (automaton_of p) r s) (nat_lt 0 (level w) && nat_le (level w) more)
      (and_from (rejects (automaton_of p) s) (are_joined (automaton_of p) r s) state.0 joined')
      (and_from (nat_lt 0 (level w)) (nat_le (level w) more) low.0 (le-leb (level w) more (omega (arith, below, h))))

  -- and a rejecting state's pair is counted anew
  module _ (q r most t : ℕ) (hq : q < states_of (automaton_of p)) (hr : r < states_of (automaton_of p)) (joined : are_joined (automaton_of p) q r ≡ true) (rises : most + rise_at (automaton_of p) r ≤ level (place p t r)) (some : 0 < level (place p t r)) where
    x : ℕ
    x = place p t r

    state_is : place p t r % states_of (automaton_of p) ≡ r
    state_is = mod-mul-add t (states_of (automaton_of p)) r hr

    counted_here : (b : Bool) → rejects (automaton_of p) r ≡ b → weight q most (place p t r) + cond b 1 0 ≤ weight r (level (place p t r)) (place p t r)
    counted_here false e =
        let le : weight q most (place p t r) ≤ weight r (level (place p t r)) (place p t r)
        = weight_le (is_counted q most (place p t r)) (is_counted r (level (place p t r)) (place p t r)) (still_counted q r most (level (place p t r)) (place p t r) hq hr joined (omega (arith, rises))) in
        omega (arith, le)
    counted_here true e =
        let one : rise_at (automaton_of p) r ≡ 1 = cond-true (rejects (automaton_of p) r) 1 0 e in
        let above : nat_le (level (place p t r)) most ≡ false = lt-leb (level (place p t r)) most (omega (arith, one, rises)) in
        let was : is_counted q most (place p t r) ≡ false = and_right _ (nat_lt 0 (level (place p t r)) && nat_le (level (place p t r)) most) (and_right (nat_lt 0 (level (place p t r))) (nat_le (level (place p t r)) most) above) in
        let is : is_counted r (level (place p t r)) (place p t r) ≡ true
        = and_from (rejects (automaton_of p) (place p t r % states_of (automaton_of p)) && are_joined (automaton_of p) r (place p t r % states_of (automaton_of p))) (nat_lt 0 (level (place p t r)) && nat_le (level (place p t r)) (level (place p t r)))
        (and_from (rejects (automaton_of p) (place p t r % states_of (automaton_of p))) (are_joined (automaton_of p) r (place p t r % states_of (automaton_of p))) (ap (rejects (automaton_of p)) state_is ∙ e) (ap (are_joined (automaton_of p) r) state_is ∙ classes.self r hr))
        (and_from (nat_lt 0 (level (place p t r))) (nat_le (level (place p t r)) (level (place p t r))) (lt-ltb 0 (level (place p t r)) some) (le-leb (level (place p t r)) (level (place p t r)) (omega arith))) in
        let none : weight q most (place p t r) ≡ 0 = cond-false (is_counted q most (place p t r)) 1 0 was in
        let full : weight r (level (place p t r)) (place p t r) ≡ 1 = cond-true (is_counted r (level (place p t r)) (place p t r)) 1 0 is in
        omega (arith, none, full)

    counted_more : t < p.size → counted q most + rise_at (automaton_of p) r ≤ counted r (level (place p t r))
    counted_more ht = sum_below-more (places_of p) (weight q most) (weight r (level (place p t r))) (place p t r) (rise_at (automaton_of p) r) (place_within p t r ht hr)
        (λ w _. weight_le (is_counted q most w) (is_counted r (level (place p t r)) w) (still_counted q r most (level (place p t r)) w hq hr joined (omega (arith, rises))))
        (counted_here (rejects (automaton_of p) r) refl)

  module _ (m : MachineModel) (machine : IsMachine m) (fits : IsMachineOf p m) (local : counts_locally p ≡ true) (start : 0 < level (place p 0 0)) (rises : Rises p m level) where
    -- along an edge within a component
    within : (t q read r : ℕ) → t < p.size → q < states_of (automaton_of p) → r < states_of (automaton_of p) → read < 2 ^ m.reads → HasEdge (automaton_of p) (letter_of p.side m t read) q r
        → 0 < level (place p t q) → are_joined (automaton_of p) q r ≡ true
        → local_number q (level (place p t q)) + rise_at (automaton_of p) r ≤ local_number r (level (place p (next_of m t read) r))
    within t q read r ht hq hr hi edge has joined =
        let e : Edge = record { from = q; cube = edge.cube; to = r } in
        let most : ℕ = level (place p t q) in
        let next : ℕ = next_of m t read in
        let up : level (place p t q) + rise_at (automaton_of p) r ≤ level (place p next r) = rises t q read r ht hq hr hi edge has in
        let turns_q : turns (automaton_of p) q ≡ true = classes.turning e edge.stands joined in
        let turns_r : turns (automaton_of p) r ≡ true = turns_too (automaton_of p) q r e classes hq hr edge.stands refl refl joined in
        let next_small : next < p.size = rw (sym fits.size) (machine.nexts t read (rw fits.size ht) hi) in
        let more : counted q most + rise_at (automaton_of p) r ≤ counted r (level (place p next r)) = counted_more q r most next hq hr joined up (omega (arith, has, up)) next_small in
        let before : local_number q most ≡ counted q most = cond-true (turns (automaton_of p) q) (counted q most) 0 turns_q in
        let after : local_number r (level (place p next r)) ≡ counted r (level (place p next r)) = cond-true (turns (automaton_of p) r) (counted r (level (place p next r))) 0 turns_r in
        omega (arith, more, before, after)

    after : (t q c read r : ℕ) → t < p.size → q < states_of (automaton_of p) → r < states_of (automaton_of p) → read < 2 ^ m.reads → HasEdge (automaton_of p) (letter_of p.side m t read) q r
        → local_level (place p t q) ≡ suc c → suc (number_after p q r c) ≤ local_level (place p (next_of m t read) r)
    after t q c read r ht hq hr hi edge e =
        let is : (0 < level (place p t q)) × (c ≡ local_number q (level (place p t q))) = number_is t q c hq e in
        let has : 0 < level (place p t q) = is.0 in
        let number : c ≡ local_number q (level (place p t q)) = is.1 in
        let up : level (place p t q) + rise_at (automaton_of p) r ≤ level (place p (next_of m t read) r) = rises t q read r ht hq hr hi edge has in
        let to : local_level (place p (next_of m t read) r) ≡ suc (local_number r (level (place p (next_of m t read) r))) = level_some (next_of m t read) r hr (omega (arith, has, up)) in
        elim (cases_Bool (are_joined (automaton_of p) q r)) [
          | inl joined ↦
              let same : number_after p q r c ≡ c + rise_at (automaton_of p) r = after_stays p q r c (stays_joined p q r joined) in
              let kept : local_number q (level (place p t q)) + rise_at (automaton_of p) r ≤ local_number r (level (place p (next_of m t read) r)) = within t q read r ht hq hr hi edge has joined in
              omega (arith, to, same, kept, number)
          | inr apart ↦
              let same : number_after p q r c ≡ 0 = after_leaves p q r c (leaves_apart p q r local apart) in
              omega (arith, to, same)
        ]

    pub are_local_levels : AreLevels p m local_level
    are_local_levels = record {
      bounded = λ t q c ht hq e.
          let is : (0 < level (place p t q)) × (c ≡ local_number q (level (place p t q))) = number_is t q c hq e in
          let few : local_number q (level (place p t q)) ≤ p.size * local_count (automaton_of p) q = number_few q (level (place p t q)) in
          rw (local_bound p q local, is.1) few;
      start =
          let to : local_level (place p 0 0) ≡ suc (local_number 0 (level (place p 0 0))) = level_some 0 0 made.some start in
          let zero_start : start_number p ≡ 0 = local_start p local in
          omega (arith, to, zero_start);
      edges = after;
    }
