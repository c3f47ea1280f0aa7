-- Variables that are marked as leading to an input.
use Rattle.std.proofs.Common.{◌≡◌, ℕ, zero, suc, ◌+◌, ◌/◌, ◌<◌, ◌≤◌, Bool, true, false, not, ◌&&◌, ◌||◌, cond, List, [], ◌∷◌, length, get_or, set, replicate, refl, sym, ap, subst, ◌∙◌, arith, inl, inr, below_more}
use Rattle.std.specs.Prelude.{Contains, if◌then◌else◌}
use Rattle.std.proofs.lemmas.Bool.{cases_eq, and_parts, not-true, or_left, or_right}
use Rattle.std.proofs.lemmas.List.{get_or-set_other, get_or-set_same, get_or_default, length-set, length-replicate}
use Rattle.aiger_text.specs.declared.circuits.Gate.{Gate}
use Rattle.aiger_text.specs.Circuit.{Circuit}
use Rattle.aiger_text.specs.CircuitType.{IsCircuit}
use Rattle.aiger_text.proofs.Gates.{no_gate, operand_room}
use Rattle.aiger_text.proofs.Stepping.{gate_variables, input_variables, left_room, output_room, right_room}
use Rattle.annot_check.specs.Causes.{IsFirstByInput}
use Rattle.annot_check.specs.Marks.{AreClosed, AreSound, IsClosedAt, marked, unmarked}
use Rattle.annot_check.specs.Valid.{LeadsToInput, WritesByLatches, input, left, right}

-- a mark is set, and others stay
pub marked_more : (leads : List Bool) (v u : ℕ) → v < length leads → get_or leads u false ≡ true → get_or (set leads v true) u false ≡ true
marked_more leads v u h e = elim (cases_eq u v) [
  | inl same ↦ ap (λ w. get_or (set leads v true) w false) same ∙ get_or-set_same leads v true false h
  | inr other ↦ get_or-set_other leads v u true false other ∙ e
]

-- each mark is of this property
abbrev EachIs : (ℕ → Type 0) → List Bool → Type 0
EachIs P leads = (v : ℕ) → get_or leads v false ≡ true → P v

each_more : (P : ℕ → Type 0) (leads : List Bool) (v : ℕ) → EachIs P leads → P v → EachIs P (set leads v true)
each_more P leads v each here u e = elim (cases_eq u v) [
  | inl same ↦ subst P (sym same) here
  | inr other ↦ each u (sym (get_or-set_other leads v u true false other) ∙ e)
]

front_one : (b : Bool) (n : ℕ) → b ≡ false → 0 + n + 1 ≡ (if b then 0 else 1) + n
front_one true n e = absurd (cc)
front_one false n e = omega arith

-- one more mark is one fewer without
pub one_fewer : (leads : List Bool) (v : ℕ) → v < length leads → get_or leads v false ≡ false → unmarked (set leads v true) + 1 ≡ unmarked leads
one_fewer [] v h e = absurd (omega arith)
one_fewer (b ∷ bs) zero h e = front_one b (unmarked bs) e
one_fewer (b ∷ bs) (suc v) h e = (let later : unmarked (set bs v true) + 1 ≡ unmarked bs = one_fewer bs v (omega arith) e in omega arith)

-- ---- inputs

pub record MarkedUpTo (c : Circuit) (leads : List Bool) (n : ℕ) : Type 0 where
  pub size : length leads ≡ c.variables + 1
  pub sound : (v : ℕ) → get_or leads v false ≡ true → LeadsToInput c v
  pub inputs : (k : ℕ) → k < n → marked leads (get_or c.inputs k 0) ≡ true

pub marked_none : (c : Circuit) (leads : List Bool) → leads ≡ replicate (c.variables + 1) false → MarkedUpTo c leads 0
marked_none c leads is = record {
  size = ap (λ (bs : List Bool). length bs) is ∙ length-replicate (c.variables + 1) false;
  sound = λ v e. absurd (none v (sym (ap (λ (bs : List Bool). get_or bs v false) is) ∙ e));
  inputs = λ k h. absurd (omega arith);
}
  where
    all_false : (n v : ℕ) → get_or (replicate n false) v false ≡ false
    all_false zero v = refl
    all_false (suc n) zero = refl
    all_false (suc n) (suc v) = all_false n v

    none : (v : ℕ) → get_or (replicate (c.variables + 1) false) v false ≡ true → ⊥
    none v e = (let both : false ≡ true = sym (all_false (c.variables + 1) v) ∙ e in absurd (cc))

pub marked_next : (c : Circuit) (leads : List Bool) (n : ℕ) (literal : ℕ) → MarkedUpTo c leads n → n < length c.inputs → literal ≡ get_or c.inputs n 0
    → literal / 2 < length leads → MarkedUpTo c (set leads (literal / 2) true) (n + 1)
marked_next c leads n literal m h is room = record {
  size = length-set leads (literal / 2) true ∙ m.size;
  sound = each_more (LeadsToInput c) leads (literal / 2) m.sound (input literal (n, h, get_or_default c.inputs n literal 0 h ∙ sym is));
  inputs = below_more (λ k. marked (set leads (literal / 2) true) (get_or c.inputs k 0) ≡ true) n
      (λ k less. marked_more leads (literal / 2) (get_or c.inputs k 0 / 2) room (m.inputs k less))
      (ap (λ l. get_or (set leads (literal / 2) true) (l / 2) false) (sym is) ∙ get_or-set_same leads (literal / 2) true false room);
}

pub marked_all : (c : Circuit) (leads : List Bool) (n : ℕ) → length c.inputs ≤ n → MarkedUpTo c leads n → AreSound c leads
marked_all c leads n all m = record {
  size = m.size;
  sound = m.sound;
  inputs = λ literal there.
      ap (λ l. get_or leads (l / 2) false) (sym (get_or_default c.inputs there.0 0 literal there.1 ∙ there.2)) ∙ m.inputs there.0 (let less : there.0 < length c.inputs = there.1 in omega arith);
}

-- ---- gates

pub record Growing (c : Circuit) (old leads : List Bool) (grown : Bool) (n : ℕ) : Type 0 where
  pub sound : AreSound c leads
  pub fewer : unmarked leads + cond grown 1 0 ≤ unmarked old
  pub closed : grown ≡ false → (k : ℕ) (d : Gate) → k < n → IsClosedAt leads (get_or c.gates k d)

pub growing_none : (c : Circuit) (old : List Bool) → AreSound c old → Growing c old old false 0
growing_none c old sound = record { sound = sound; fewer = omega arith; closed = λ still k d h. absurd (omega arith) }

or_cases : (a b : Bool) {P : Type 0} → (a || b) ≡ true → (a ≡ true → P) → (b ≡ true → P) → P
or_cases true b e one other = one refl
or_cases false b e one other = other e

closed_from : (a b : Bool) → (a && not b) ≡ false → a ≡ true → b ≡ true
closed_from a true e is = refl
closed_from true false e is = absurd (cc)
closed_from false false e is = absurd (cc)

pub growing_set : (c : Circuit) (old leads : List Bool) (grown : Bool) (n : ℕ) (gate : Gate) → Growing c old leads grown n → n < length c.gates → get_or c.gates n gate ≡ gate
    → gate.literal / 2 < length leads → ((marked leads gate.left || marked leads gate.right) && not (marked leads gate.literal)) ≡ true
    → Growing c old (set leads (gate.literal / 2) true) true (n + 1)
growing_set c old leads grown n gate g h at room next =
    let parts = and_parts _ _ next in
    let there : Contains c.gates gate = (n, h, at) in
    let lead : LeadsToInput c (gate.literal / 2) =
    or_cases (marked leads gate.left) (marked leads gate.right) parts.0 (λ e. left gate there (g.sound.sound (gate.left / 2) e)) (λ e. right gate there (g.sound.sound (gate.right / 2) e)) in
    let less : unmarked (set leads (gate.literal / 2) true) + 1 ≡ unmarked leads = one_fewer leads (gate.literal / 2) room (not-true (marked leads gate.literal) parts.1) in
    let before : unmarked leads + cond grown 1 0 ≤ unmarked old = g.fewer in
    record {
      sound = record {
        size = length-set leads (gate.literal / 2) true ∙ g.sound.size;
        sound = each_more (LeadsToInput c) leads (gate.literal / 2) g.sound.sound lead;
        inputs = λ literal inside. marked_more leads (gate.literal / 2) (literal / 2) room (g.sound.inputs literal inside);
      };
      fewer = omega arith;
      closed = λ still k d less. absurd (cc);
    }

pub growing_skip : (c : Circuit) (old leads : List Bool) (grown : Bool) (n : ℕ) (gate : Gate) → Growing c old leads grown n → n < length c.gates → get_or c.gates n gate ≡ gate
    → ((marked leads gate.left || marked leads gate.right) && not (marked leads gate.literal)) ≡ false → Growing c old leads grown (n + 1)
growing_skip c old leads grown n gate g h at next = record {
  sound = g.sound;
  fewer = g.fewer;
  closed = λ still k d less.
      below_more (λ k. IsClosedAt leads (get_or c.gates k d)) n (λ k before. g.closed still k d before)
      (subst (IsClosedAt leads) (sym (get_or_default c.gates n d gate h ∙ at)) (λ e. closed_from (marked leads gate.left || marked leads gate.right) (marked leads gate.literal) next e)) k less;
}

-- ---- outputs

module _ (c : Circuit) (leads : List Bool) (sound : AreSound c leads) (closed : AreClosed c leads) where
  lead_marked : (v : ℕ) → LeadsToInput c v → get_or leads v false ≡ true
  lead_marked v (input literal there) = sound.inputs literal there
  lead_marked v (left gate there lead) =
      closed.gates gate there (or_left (marked leads gate.left) (marked leads gate.right) (lead_marked (gate.left / 2) lead))
  lead_marked v (right gate there lead) =
      closed.gates gate there (or_right (marked leads gate.left) (marked leads gate.right) (lead_marked (gate.right / 2) lead))

  apart : (o : ℕ) → marked leads (get_or c.outputs o 0) ≡ false → LeadsToInput c (get_or c.outputs o 0 / 2) → ⊥
  apart o e lead = (let both : true ≡ false = sym (lead_marked (get_or c.outputs o 0 / 2) lead) ∙ e in absurd (cc))

  pub first_there : (o : ℕ) → o < length c.outputs → marked leads (get_or c.outputs o 0) ≡ true → ((k : ℕ) → k < o → marked leads (get_or c.outputs k 0) ≡ false) → IsFirstByInput c o
  first_there o h e before = record {
    output = h;
    leads = sound.sound (get_or c.outputs o 0 / 2) e;
    first = λ k less lead. apart k (before k less) lead;
  }

  pub none_there : (n : ℕ) → length c.outputs ≤ n → ((k : ℕ) → k < n → marked leads (get_or c.outputs k 0) ≡ false) → WritesByLatches c
  none_there n all before = record { outputs = λ o h lead. apart o (before o (omega arith)) lead }

-- ---- there is room for each literal

module _ (c : Circuit) (kept : IsCircuit c) where
  pub output_rooms : (outputs : List ℕ) → outputs ≡ c.outputs → (leads : List Bool) → length leads ≡ c.variables + 1 → (k : ℕ) → k < length outputs
      → get_or outputs k 0 / 2 < length leads
  output_rooms outputs same leads size k h =
      let room : get_or c.outputs k 0 / 2 < c.variables + 1 = output_room c kept k (subst (λ (xs : List ℕ). k < length xs) same h) in
      subst (λ (xs : List ℕ). get_or xs k 0 / 2 < length leads) (sym same) (omega (arith, room, size))

  pub input_rooms : (inputs : List ℕ) → inputs ≡ c.inputs → (leads : List Bool) → length leads ≡ c.variables + 1 → (k : ℕ) → k < length inputs
      → get_or inputs k 0 / 2 < length leads
  input_rooms inputs same leads size k h =
      let room : get_or c.inputs k 0 / 2 < c.variables + 1 = (input_variables c kept).room k (subst (λ (xs : List ℕ). k < length xs) same h) in
      subst (λ (xs : List ℕ). get_or xs k 0 / 2 < length leads) (sym same) (omega (arith, room, size))

  module _ (gates : List Gate) (same : gates ≡ c.gates) (leads : List Bool) (size : length leads ≡ c.variables + 1) (k : ℕ) (h : k < length gates) where
    in_gates : k < length c.gates
    in_gates = subst (λ (xs : List Gate). k < length xs) same h

    pub own_room : (get_or gates k no_gate).literal / 2 < length leads
    own_room =
        let room : (get_or c.gates k no_gate).literal / 2 < c.variables + 1 =
        operand_room (λ (gate : Gate). gate.literal) c.gates (c.variables + 1) k refl (gate_variables c kept).room in_gates in
        subst (λ (xs : List Gate). (get_or xs k no_gate).literal / 2 < length leads) (sym same) (omega (arith, room, size))

    pub left_gate_room : (get_or gates k no_gate).left / 2 < length leads
    left_gate_room =
        let room : (get_or c.gates k no_gate).left / 2 < c.variables + 1 =
        operand_room (λ (gate : Gate). gate.left) c.gates (c.variables + 1) k refl (left_room c kept) in_gates in
        subst (λ (xs : List Gate). (get_or xs k no_gate).left / 2 < length leads) (sym same) (omega (arith, room, size))

    pub right_gate_room : (get_or gates k no_gate).right / 2 < length leads
    right_gate_room =
        let room : (get_or c.gates k no_gate).right / 2 < c.variables + 1 =
        operand_room (λ (gate : Gate). gate.right) c.gates (c.variables + 1) k refl (right_room c kept) in_gates in
        subst (λ (xs : List Gate). (get_or xs k no_gate).right / 2 < length leads) (sym same) (omega (arith, room, size))

-- ---- the loops, over lists that are the circuit's

pub marked_next_in : (c : Circuit) (kept : IsCircuit c) (inputs : List ℕ) → inputs ≡ c.inputs → (leads : List Bool) (n : ℕ) → n < length inputs → MarkedUpTo c leads n
    → MarkedUpTo c (set leads (get_or inputs n 0 / 2) true) (n + 1)
marked_next_in c kept inputs same leads n h m =
    marked_next c leads n (get_or inputs n 0) m (subst (λ (xs : List ℕ). n < length xs) same h) (ap (λ (xs : List ℕ). get_or xs n 0) same)
    (input_rooms c kept inputs same leads m.size n h)

-- what is wanted of the gate at a place
abbrev pub wants : List Bool → Gate → Bool
wants leads gate = (marked leads gate.left || marked leads gate.right) && not (marked leads gate.literal)

module _ (c : Circuit) (kept : IsCircuit c) (gates : List Gate) (same : gates ≡ c.gates) (old leads : List Bool) (grown : Bool) (n : ℕ) (h : n < length gates)
    (g : Growing c old leads grown n) where
  abbrev gate : Gate
  gate = get_or gates n no_gate

  here : n < length c.gates
  here = subst (λ (xs : List Gate). n < length xs) same h

  at : get_or c.gates n gate ≡ gate
  at = get_or_default c.gates n gate no_gate here ∙ ap (λ (xs : List Gate). get_or xs n no_gate) (sym same)

  pub set_in : wants leads gate ≡ true → Growing c old (set leads (gate.literal / 2) true) true (n + 1)
  set_in next = growing_set c old leads grown n gate g here at (own_room c kept gates same leads g.sound.size n h) next

  pub skip_in : wants leads gate ≡ false → Growing c old leads grown (n + 1)
  skip_in next = growing_skip c old leads grown n gate g here at next
