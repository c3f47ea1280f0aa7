-- The gates of a circuit have an order.
use Rattle.std.proofs.Common.{◌≡◌, ◌≢◌, ℕ, zero, suc, ◌+◌, ◌-◌, ◌/◌, ◌<◌, ◌≤◌, ◌⊎◌, List, [], ◌∷◌, ◌++◌, length, get_or, refl, sym, subst, ◌∙◌, arith, below_more, inl, inr}
use Rattle.std.specs.Prelude.{Contains}
use Rattle.std.proofs.lemmas.Bool.{cases_eq, cases_lt}
use Rattle.std.proofs.lemmas.List.{get_or_append_left, get_or_default, get_or_push, length_push}
use Rattle.std.proofs.lemmas.List.Elements.{Contains-append_left}
use Rattle.std_lemmas.proofs.Naturals.{either_below}
use Rattle.machine_model.proofs.Pigeonhole.{IsRepeated, pigeonhole}
use Rattle.aiger_text.specs.declared.circuits.Gate.{Gate}
use Rattle.aiger_text.specs.CircuitType.{DependsOn, IsOrder, gate_at}
use Rattle.aiger_text.specs.CircuitType.DependsOn.{left, right, through}
use Rattle.aiger_text.specs.Walks.{Uses}
use Rattle.gate_build.proofs.Listing.{is_in}

-- a number isn't in a list
abbrev IsOut : List ℕ → ℕ → Type 0
IsOut xs x = (k : ℕ) → k < length xs → get_or xs k 0 ≢ x

not_both : (xs : List ℕ) (x : ℕ) → IsOut xs x → Contains xs x → ⊥
not_both xs x out there = out there.0 there.1 (get_or_default xs there.0 0 x there.1 ∙ there.2)

module _ (gates : List Gate) (no_cycle : (v : ℕ) → DependsOn gates v v → ⊥) where
  -- the beginning of an order: what its gates use stands in it, before them
  record IsBegun (order : List ℕ) : Type 0 where
    places : (i : ℕ) → i < length order → get_or order i 0 < length gates
    once : (i k : ℕ) → i < k → k < length order → get_or order i 0 ≢ get_or order k 0
    closed : (i h : ℕ) → i < length order → h < length gates → Uses gates (get_or order i 0) h → Contains order h
    behind : (i k : ℕ) → i ≤ k → k < length order → Uses gates (get_or order i 0) (get_or order k 0) → ⊥

  begun_empty : IsBegun []
  begun_empty = record {
    places = λ i h. absurd (omega arith);
    once = λ i k less h. absurd (omega arith);
    closed = λ i h within _ _. absurd (omega arith);
    behind = λ i k le h. absurd (omega arith);
  }

  -- a gate that may come next
  record IsNext (order : List ℕ) (g : ℕ) : Type 0 where
    out : IsOut order g
    used : (h : ℕ) → h < length gates → Uses gates g h → Contains order h

  -- a gate that isn't in the order yet
  record IsLeft (order : List ℕ) : Type 0 where
    place : ℕ
    within : place < length gates
    out : IsOut order place

  -- and one that it uses
  record Waits (order : List ℕ) (g : ℕ) : Type 0 where
    for : IsLeft order
    uses : Uses gates g for.place

  begun_more : (order : List ℕ) (g : ℕ) → IsBegun order → g < length gates → IsNext order g → IsBegun (order ++ g ∷ [])
  begun_more order g begun within ready = record {
    places = rw length_push (below_more (λ i. get_or (order ++ g ∷ []) i 0 < length gates) (length order)
        (λ i h. rw (old i h) (begun.places i h)) (rw last within));
    once = λ i k less h same.
        let low : i < length order = omega (arith, less, h, len) in
        elim (cases_lt k (length order)) [
          | inl inside ↦ begun.once i k less inside (sym (old i low) ∙ same ∙ old k inside)
          | inr past ↦ ready.out i low (sym (old i low) ∙ same ∙ at_end k h past)
        ];
    closed = λ i h inside small uses. elim (cases_lt i (length order)) [
      | inl low ↦ Contains-append_left order (g ∷ []) h (begun.closed i h low small (subst (λ (x : ℕ). Uses gates x h) (old i low) uses))
      | inr past ↦ Contains-append_left order (g ∷ []) h (ready.used h small (subst (λ (x : ℕ). Uses gates x h) (at_end i inside past) uses))
    ];
    behind = λ i k le h uses. elim (cases_lt k (length order)) [
      | inl inside ↦
          let low : i < length order = omega (arith, le, inside) in
          begun.behind i k le inside (subst (λ (x : ℕ). Uses gates x (get_or order k 0)) (old i low) (subst (λ (x : ℕ). Uses gates (get_or (order ++ g ∷ []) i 0) x) (old k inside) uses))
      | inr past ↦
          let of_last : Uses gates (get_or (order ++ g ∷ []) i 0) g = subst (λ (x : ℕ). Uses gates (get_or (order ++ g ∷ []) i 0) x) (at_end k h past) uses in
          elim (cases_lt i (length order)) [
            | inl low ↦ not_both order g ready.out (begun.closed i g low within (subst (λ (x : ℕ). Uses gates x g) (old i low) of_last))
            | inr late ↦ not_both order g ready.out (ready.used g within (subst (λ (x : ℕ). Uses gates x g) (at_end i (omega (arith, le, h)) late) of_last))
          ]
    ];
  }
    where
      len : length (order ++ g ∷ []) ≡ length order + 1
      len = length_push order g

      old : (i : ℕ) → i < length order → get_or (order ++ g ∷ []) i 0 ≡ get_or order i 0
      old i h = get_or_append_left order (g ∷ []) 0 i h

      last : get_or (order ++ g ∷ []) (length order) 0 ≡ g
      last = get_or_push order g 0 (length order) refl

      at_end : (k : ℕ) → k < length (order ++ g ∷ []) → length order ≤ k → get_or (order ++ g ∷ []) k 0 ≡ g
      at_end k h past = let e : length order ≡ k = omega (arith, len, h, past) in get_or_push order g 0 k e

  -- whether one gate uses the other
  uses_or_not : (g h : ℕ) → (Uses gates g h → ⊥) ⊎ Uses gates g h
  uses_or_not g h = elim (cases_eq ((gate_at gates g).left / 2) ((gate_at gates h).literal / 2)) [
    | inl one ↦ inr (inl one)
    | inr not_one ↦ elim (cases_eq ((gate_at gates g).right / 2) ((gate_at gates h).literal / 2)) [
      | inl other ↦ inr (inr other)
      | inr not_other ↦ inl (λ uses. elim uses [ inl e ↦ not_one e | inr e ↦ not_other e ])
    ]
  ]

  -- a gate is in the order or waits for one that isn't, or it may come next
  look_at : (order : List ℕ) (g : ℕ) → (Contains order g ⊎ Waits order g) ⊎ IsNext order g
  look_at order g = elim (is_in order g) [
    | inr there ↦ inl (inl there)
    | inl out ↦ elim (either_below (λ h. Uses gates g h → Contains order h) (λ h. IsOut order h × Uses gates g h) (length gates)
        (λ h within. elim (uses_or_not g h) [
          | inl never ↦ inl (λ uses. absurd (never uses))
          | inr uses ↦ elim (is_in order h) [ inr there ↦ inl (λ _. there) | inl missing ↦ inr (missing, uses) ]
        ])) [
          | inl all ↦ inr (record { out = out; used = all })
          | inr found ↦ inl (inr (record { for = record { place = found.0; within = found.1; out = found.2.0 }; uses = found.2.1 }))
        ]
  ]

  variable_of : ℕ → ℕ
  variable_of g = (gate_at gates g).literal / 2

  depends : (g h : ℕ) → g < length gates → Uses gates g h → DependsOn gates (variable_of g) (variable_of h)
  unfolding variable_of
  depends g h within uses =
      let there : Contains gates (gate_at gates g) = (g, within, get_or_default gates g (gate_at gates g) (record { literal = 0; left = 0; right = 0 }) within) in
      elim uses [
        | inl e ↦ subst (λ (v : ℕ). DependsOn gates ((gate_at gates g).literal / 2) v) e (left (gate_at gates g) there)
        | inr e ↦ subst (λ (v : ℕ). DependsOn gates ((gate_at gates g).literal / 2) v) e (right (gate_at gates g) there)
      ]

  -- where each gate that is left waits for one that is left, some gate depends on itself
  module _ (order : List ℕ) (waits : (g : IsLeft order) → Waits order g.place) (first : IsLeft order) where
    chain : ℕ → IsLeft order
    chain zero = first
    chain (suc j) = (waits (chain j)).for

    link : (j : ℕ) → DependsOn gates (variable_of (chain j).place) (variable_of (chain (suc j)).place)
    unfolding chain
    link j = depends (chain j).place (waits (chain j)).for.place (chain j).within (waits (chain j)).uses

    along : (j d : ℕ) → DependsOn gates (variable_of (chain j).place) (variable_of (chain (suc j + d)).place)
    along j zero = let e : suc j ≡ suc j + 0 = omega arith in subst (λ (n : ℕ). DependsOn gates (variable_of (chain j).place) (variable_of (chain n).place)) e (link j)
    along j (suc d) =
        let e : suc (suc j + d) ≡ suc j + suc d = omega arith in
        subst (λ (n : ℕ). DependsOn gates (variable_of (chain j).place) (variable_of (chain n).place)) e
        (through (variable_of (chain j).place) (variable_of (chain (suc j + d)).place) (variable_of (chain (suc (suc j + d))).place) (along j d) (link (suc j + d)))

    never : ⊥
    never =
        let twice : IsRepeated (λ j. (chain j).place) (length gates) = pigeonhole (length gates) (λ j. (chain j).place) (λ j _. (chain j).within) in
        let before : twice.first < twice.second = twice.before in
        let sum : suc twice.first + (twice.second - suc twice.first) ≡ twice.second = omega (arith, before) in
        let round : DependsOn gates (variable_of (chain twice.first).place) (variable_of (chain twice.second).place) =
        subst (λ (n : ℕ). DependsOn gates (variable_of (chain twice.first).place) (variable_of (chain n).place)) sum (along twice.first (twice.second - suc twice.first)) in
        no_cycle (variable_of (chain twice.first).place)
        (subst (λ (g : ℕ). DependsOn gates (variable_of (chain twice.first).place) (variable_of g)) (sym twice.same) round)

  -- all gates are in the order, or one may come next
  step : (order : List ℕ) → ((g : ℕ) → g < length gates → Contains order g) ⊎ ((g : ℕ) × (g < length gates) × IsNext order g)
  step order = elim (either_below (λ g. Contains order g ⊎ Waits order g) (λ g. IsNext order g) (length gates) (λ g _. look_at order g)) [
    | inr found ↦ inr found
    | inl each ↦ elim (either_below (λ g. Contains order g) (λ g. IsOut order g) (length gates)
        (λ g _. elim (is_in order g) [ inr there ↦ inl there | inl out ↦ inr out ])) [
          | inl all ↦ inl all
          | inr missing ↦ absurd (never order (waiting each) (record { place = missing.0; within = missing.1; out = missing.2 }))
        ]
  ]
    where
      waiting : ((g : ℕ) → g < length gates → Contains order g ⊎ Waits order g) → (g : IsLeft order) → Waits order g.place
      waiting each g = elim (each g.place g.within) [
        | inl there ↦ absurd (not_both order g.place g.out there)
        | inr waits ↦ waits
      ]

  few : (order : List ℕ) → IsBegun order → length order ≤ length gates
  few order begun = elim (cases_lt (length gates) (length order)) [
    | inr small ↦ small
    | inl many ↦
        let too_many : length gates < length order = many in
        let twice : IsRepeated (λ k. get_or order k 0) (length gates) = pigeonhole (length gates) (λ k. get_or order k 0) (λ k h. begun.places k (omega (arith, h, too_many))) in
        let within : twice.second ≤ length gates = twice.within in
        absurd (begun.once twice.first twice.second twice.before (omega (arith, within, too_many)) twice.same)
  ]

  is_order : (order : List ℕ) → IsBegun order → ((g : ℕ) → g < length gates → Contains order g) → IsOrder gates order
  is_order order begun all = record {
    all = all;
    places = λ k d h. subst (λ (g : ℕ). g < length gates) (get_or_default order k 0 d h) (begun.places k h);
    once = begun.once;
    behind = λ i k le h. record { left = λ e. begun.behind i k le h (inl e); right = λ e. begun.behind i k le h (inr e) };
  }

  ordered : (fuel : ℕ) (order : List ℕ) → IsBegun order → length gates ≤ length order + fuel → (all : List ℕ) × IsOrder gates all
  ordered zero order begun room = elim (step order) [
    | inl all ↦ (order, is_order order begun all)
    | inr more ↦
        let longer : IsBegun (order ++ more.0 ∷ []) = begun_more order more.0 begun more.1 more.2 in
        let len : length (order ++ more.0 ∷ []) ≡ length order + 1 = length_push order more.0 in
        let small : length (order ++ more.0 ∷ []) ≤ length gates = few (order ++ more.0 ∷ []) longer in
        absurd (omega (arith, room, len, small))
  ]
  ordered (suc fuel) order begun room = elim (step order) [
    | inl all ↦ (order, is_order order begun all)
    | inr more ↦
        let len : length (order ++ more.0 ∷ []) ≡ length order + 1 = length_push order more.0 in
        ordered fuel (order ++ more.0 ∷ []) (begun_more order more.0 begun more.1 more.2) (omega (arith, room, len))
  ]

  pub has_order : (order : List ℕ) × IsOrder gates order
  has_order = ordered (length gates) [] begun_empty (omega arith)
