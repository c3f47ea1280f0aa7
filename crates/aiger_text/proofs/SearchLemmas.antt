use Rattle.std.proofs.Common.{◌≡◌, ℕ, ◌/◌, ◌<◌, Bool, Option, Some, None, List, length, get_or, refl, sym, ap, subst, ◌∙◌, arith, inl, inr}
use Rattle.std.specs.Prelude.{Contains}
use Rattle.std.proofs.lemmas.Bool.{cases_lt}
use Rattle.std.proofs.lemmas.List.{get_or_default}
use Rattle.aiger_text.specs.declared.circuits.Gate.{Gate}
use Rattle.aiger_text.specs.CircuitType.{DependsOn, IsOrder, gate_at}
use Rattle.aiger_text.specs.CircuitType.DependsOn.{left, right, through}
use Rattle.aiger_text.specs.Walks.{Finds, IsReached, IsVisited, IsOnCycle}

module _ (gates : List Gate) (places : List (Option ℕ)) (finds : Finds gates places) where
  -- gates of one variable are one
  one_gate : (i k : ℕ) → i < length gates → k < length gates → (gate_at gates i).literal / 2 ≡ (gate_at gates k).literal / 2 → i ≡ k
  one_gate i k hi hk e =
      let both : Some i ≡ Some k = sym (finds.all i hi) ∙ ap (λ (v : ℕ). get_or places v None) e ∙ finds.all k hk in
      cc

  -- what depends on something is a gate's variable
  pub record IsGate (v : ℕ) : Type 0 where
    pub place : ℕ
    pub within : place < length gates
    pub variable : (gate_at gates place).literal / 2 ≡ v

  of_gate : (gate : Gate) → Contains gates gate → (i : ℕ) × ((i < length gates) × (gate_at gates i ≡ gate))
  of_gate gate there = (there.0, (there.1, get_or_default gates there.0 (record { literal = 0; left = 0; right = 0 }) gate there.1 ∙ there.2))

  source : (a b : ℕ) → DependsOn gates a b → IsGate a
  source a b (left gate there) =
      let i = of_gate gate there in
      record { place = i.0; within = i.1.0; variable = ap (λ (x : Gate). x.literal / 2) i.1.1 }
  source a b (right gate there) =
      let i = of_gate gate there in
      record { place = i.0; within = i.1.0; variable = ap (λ (x : Gate). x.literal / 2) i.1.1 }
  source a b (through _ m _ p q) = source a m p

  module _ (g : ℕ) (reached : List Bool) (start : IsVisited gates reached g) (closed : (k : ℕ) → IsReached reached k → IsVisited gates reached k) (g_within : g < length gates) where
    -- the gates of these variables are visited
    abbrev IsSource : ℕ → Type 0
    IsSource a = (k : ℕ) → k < length gates → (gate_at gates k).literal / 2 ≡ a → IsVisited gates reached k

    arrives : (a b : ℕ) → DependsOn gates a b → IsSource a → (h : ℕ) → h < length gates → (gate_at gates h).literal / 2 ≡ b → IsReached reached h
    arrives a b (left gate there) visited h within e =
        let i = of_gate gate there in
        visited i.0 i.1.0 (ap (λ (x : Gate). x.literal / 2) i.1.1) h within (inl (ap (λ (x : Gate). x.left / 2) i.1.1 ∙ sym e))
    arrives a b (right gate there) visited h within e =
        let i = of_gate gate there in
        visited i.0 i.1.0 (ap (λ (x : Gate). x.literal / 2) i.1.1) h within (inr (ap (λ (x : Gate). x.right / 2) i.1.1 ∙ sym e))
    arrives a b (through _ m _ p q) visited h within e =
        arrives m b q (λ k hk is. closed k (arrives a m p visited k hk is)) h within e

    pub complete : IsOnCycle gates g → IsReached reached g
    complete on =
        arrives ((gate_at gates g).literal / 2) ((gate_at gates g).literal / 2) on
        (λ k hk is. subst (IsVisited gates reached) (sym (one_gate k g hk g_within is)) start) g g_within refl

-- an order leaves no cycle: a gate depends on gates before it alone
module _ (gates : List Gate) (places : List (Option ℕ)) (finds : Finds gates places) (order : List ℕ) (sorted : IsOrder gates order) where
  abbrev variable_of : ℕ → ℕ
  variable_of i = (gate_at gates (get_or order i 0)).literal / 2

  named_by : (i : ℕ) → i < length order → (gate : Gate) → Contains gates gate → variable_of i ≡ gate.literal / 2 → gate_at gates (get_or order i 0) ≡ gate
  named_by i hi gate there e =
      let p = of_gate gates places finds gate there in
      let same : get_or order i 0 ≡ p.0 =
      one_gate gates places finds (get_or order i 0) p.0 (sorted.places i 0 hi) p.1.0 (e ∙ sym (ap (λ (x : Gate). x.literal / 2) p.1.1)) in
      ap (gate_at gates) same ∙ p.1.1

  -- an earlier place of the order for what is depended on
  falls : (a b : ℕ) → DependsOn gates a b → (i k : ℕ) → i < length order → k < length order → variable_of i ≡ a → variable_of k ≡ b → k < i
  falls a b (left gate there) i k hi hk ei ek = elim (cases_lt k i) [
    | inl less ↦ less
    | inr more ↦ absurd ((sorted.behind i k more hk).left (ap (λ (x : Gate). x.left / 2) (named_by i hi gate there ei) ∙ sym ek))
  ]
  falls a b (right gate there) i k hi hk ei ek = elim (cases_lt k i) [
    | inl less ↦ less
    | inr more ↦ absurd ((sorted.behind i k more hk).right (ap (λ (x : Gate). x.right / 2) (named_by i hi gate there ei) ∙ sym ek))
  ]
  falls a b (through _ m _ p q) i k hi hk ei ek =
      let g = source gates places finds m b q in
      let on : Contains order g.place = sorted.all g.place g.within in
      let named : get_or order on.0 0 ≡ g.place = get_or_default order on.0 0 g.place on.1 ∙ on.2 in
      let here : variable_of on.0 ≡ m = ap (λ (x : ℕ). (gate_at gates x).literal / 2) named ∙ g.variable in
      let first : on.0 < i = falls a m p i on.0 hi on.1 ei here in
      let second : k < on.0 = falls m b q on.0 k on.1 hk here ek in
      omega arith

  pub no_cycle : (v : ℕ) → DependsOn gates v v → ⊥
  no_cycle v d =
      let g = source gates places finds v v d in
      let on : Contains order g.place = sorted.all g.place g.within in
      let named : get_or order on.0 0 ≡ g.place = get_or_default order on.0 0 g.place on.1 ∙ on.2 in
      let here : variable_of on.0 ≡ v = ap (λ (x : ℕ). (gate_at gates x).literal / 2) named ∙ g.variable in
      let never : on.0 < on.0 = falls v v d on.0 on.0 on.1 on.1 here here in
      omega arith
