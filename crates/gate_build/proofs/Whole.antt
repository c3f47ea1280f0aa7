-- What the whole circuit keeps.
use Rattle.std.proofs.Common.{◌≡◌, ◌≢◌, ℕ, zero, suc, ◌+◌, ◌-◌, ◌*◌, ◌/◌, ◌^◌, ◌<◌, ◌≤◌, Bool, true, false, cond, List, [], ◌∷◌, ◌++◌, length, get_or, Some, sym, ap, subst, ◌∙◌, arith, inl, inr}
use Rattle.std.specs.Prelude.{map, nat_le, flat_map, All, Contains}
use Rattle.std.proofs.lemmas.Bool.{cases_lt, cases_eq}
use Rattle.std.proofs.lemmas.List.{length-map, length-append, get_or-map, get_or_append_left, get_or-append_right, get_or_default}
use Rattle.std.proofs.lemmas.List.FromFn.{length-map-range_with_len, get_or-map-range_with_len}
use Rattle.std.proofs.lemmas.List.Elements.{All-append, All-map}
use Rattle.std.proofs.lemmas.Nat.{pow-add}
use Rattle.machine_model.specs.Machine.{MachineModel}
use Rattle.aiger_text.specs.declared.circuits.Latch.{Latch}
use Rattle.aiger_text.specs.declared.circuits.Gate.{Gate}
use Rattle.aiger_text.specs.Circuit.{Circuit}
use Rattle.aiger_text.specs.CircuitType.{AreSorted, DependsOn, IsCircuit, IsDefined, Spares, defined_literals, gate_at, left, right, through}
use Rattle.gate_build.specs.declared.gates.Operands.{Operands}
use Rattle.gate_build.specs.Table.{circuit_of, first_gate, gate_from, gates_from, input_literals, latch_from, latch_literals, latches_for, latches_of, literals_from, next_bit, nexts_of, outputs_of, split_literals, written_bit}
use Rattle.gate_build.proofs.Cases.{no_operands}
use Rattle.gate_build.proofs.Splits.{most_gates}
use Rattle.gate_build.proofs.Alls.{AreGood, good_all, means_at}

-- so many literals, each at its place
pub length-literals_from : (from count : ℕ) → length (literals_from from count) ≡ count
length-literals_from from count = length-map-range_with_len (λ k. 2 * (from + k + 1)) 0 count

pub get_or-literals_from : (from count k d : ℕ) → k < count → get_or (literals_from from count) k d ≡ 2 * (from + k + 1)
get_or-literals_from from count k d h = get_or-map-range_with_len (λ k. 2 * (from + k + 1)) 0 count k k d h (omega arith)

-- there are at most 3 latches
pub few_latches : (n : ℕ) → latches_for n ≤ 3
few_latches n = by (nat_le n 1) (nat_le n 2) (nat_le n 4) where
  by : (a b c : Bool) → cond a 0 (cond b 1 (cond c 2 3)) ≤ 3
  by true b c = omega arith
  by false true c = omega arith
  by false false true = omega arith
  by false false false = omega arith

module _ (m : MachineModel) where
  pub length-split : length (split_literals m) ≡ latches_of m + m.reads
  length-split = length-append (latch_literals m) (input_literals m) ∙ ap (λ n. n + length (input_literals m)) (length-literals_from m.reads (latches_of m)) ∙ ap (λ n. latches_of m + n) (length-literals_from 0 m.reads)

  -- each is a literal of a variable before the gates
  pub split_early : (k d : ℕ) → k < length (split_literals m) → get_or (split_literals m) k d < 2 * first_gate m
  split_early k d h = elim (cases_lt k (latches_of m)) [
    | inl low ↦
        let inside : k < length (latch_literals m) = rw length-literals_from low in
        let e : get_or (split_literals m) k d ≡ 2 * (m.reads + k + 1) = get_or_append_left (latch_literals m) (input_literals m) d k inside ∙ get_or-literals_from m.reads (latches_of m) k d low in
        omega (arith, e, low)
    | inr high ↦
        let past : latches_of m ≤ k = high in
        let rest : k - latches_of m < m.reads = omega (arith, h, length-split, past) in
        let e : get_or (split_literals m) k d ≡ 2 * (0 + (k - latches_of m) + 1) =
        get_or-append_right (latch_literals m) (input_literals m) (latches_of m) k d (length-literals_from m.reads (latches_of m)) past ∙ get_or-literals_from 0 m.reads (k - latches_of m) d rest in
        omega (arith, e, rest)
  ]

  pub codes-split : 2 ^ length (split_literals m) ≡ 2 ^ latches_of m * 2 ^ m.reads
  codes-split = ap (λ n. 2 ^ n) length-split ∙ pow-add 2 (latches_of m) m.reads

-- what holds of two holds of the list of them
pub All-two : (P : ℕ → Type 0) (x y : ℕ) → P x → P y → All P (x ∷ y ∷ [])
All-two P x y px py = λ k d h. at k d h
  where
    at : (k d : ℕ) → k < 2 → P (get_or (x ∷ y ∷ []) k d)
    at zero d h = px
    at (suc zero) d h = py
    at (suc (suc k)) d h = absurd (omega arith)

-- what holds of each part holds of all joined
pub All-flat_map : {X Y : Type 0} (P : Y → Type 0) (f : X → List Y) (xs : List X) → ((k : ℕ) (d : X) → k < length xs → All P (f (get_or xs k d))) → All P (flat_map f xs)
All-flat_map P f [] each = λ k d h. absurd (omega arith)
All-flat_map P f (x ∷ xs) each = All-append P (f x) (flat_map f xs) (each 0 x (omega arith)) (All-flat_map P f xs (λ k d h. each (suc k) d (omega (arith, h))))

module _ (m : MachineModel) (read_names write_names : List (List ℕ)) (reads : length read_names ≡ m.reads) (writes : length write_names ≡ m.writes) where
  abbrev first : ℕ
  first = first_gate m

  early : (k : ℕ) → k < length (split_literals m) → get_or (split_literals m) k 0 < 2 * first_gate m
  early k h = split_early m k 0 h

  pub nexts_good : AreGood (first_gate m) [] (latches_of m) (most_gates (length (split_literals m))) (means_at m (next_bit m)) (nexts_of m)
  nexts_good = good_all m (next_bit m) (omega arith) early (latches_of m) [] (record { greater = λ k h. absurd (omega arith); lesser = λ k h. absurd (omega arith) })

  pub outputs_good : AreGood (first_gate m) (nexts_of m).gates m.writes (most_gates (length (split_literals m))) (means_at m (written_bit m)) (outputs_of m)
  outputs_good = good_all m (written_bit m) (omega arith) early m.writes (nexts_of m).gates nexts_good.ordered

  abbrev c : Circuit
  c = circuit_of m read_names write_names

  abbrev ops : List Operands
  ops = (outputs_of m).gates

  pub length-gates : length (gates_from first ops) ≡ length ops
  length-gates = length-map-range_with_len (gate_from first ops) 0 (length ops)

  pub gate-at : (k : ℕ) (d : Gate) → k < length ops → get_or (gates_from first ops) k d ≡ gate_from first ops k
  gate-at k d h = get_or-map-range_with_len (gate_from first ops) 0 (length ops) k k d h (omega arith)

  pub length-latches : length c.latches ≡ latches_of m
  length-latches = length-map-range_with_len (latch_from m.reads (nexts_of m).literals) 0 (length (nexts_of m).literals) ∙ nexts_good.places

  pub latch-at : (k : ℕ) (d : Latch) → k < latches_of m → get_or c.latches k d ≡ latch_from m.reads (nexts_of m).literals k
  latch-at k d h = get_or-map-range_with_len (latch_from m.reads (nexts_of m).literals) 0 (length (nexts_of m).literals) k k d (rw nexts_good.places h) (omega arith)

  -- the literals that the lines define, in order, are those of all variables
  abbrev latch_lits : List ℕ
  latch_lits = map (λ (latch : Latch). latch.literal) c.latches

  abbrev gate_lits : List ℕ
  gate_lits = map (λ (gate : Gate). gate.literal) c.gates

  length-latch_lits : length latch_lits ≡ latches_of m
  length-latch_lits = length-map c.latches (λ (latch : Latch). latch.literal) ∙ length-latches

  length-gate_lits : length gate_lits ≡ length ops
  length-gate_lits = length-map c.gates (λ (gate : Gate). gate.literal) ∙ length-gates

  pub length-inputs : length c.inputs ≡ m.reads
  length-inputs = length-literals_from 0 m.reads

  length-defined : length (defined_literals c) ≡ m.reads + latches_of m + length ops
  length-defined =
      let a : length (latch_lits ++ gate_lits) ≡ length latch_lits + length gate_lits = length-append latch_lits gate_lits in
      let b : length (c.inputs ++ (latch_lits ++ gate_lits)) ≡ length c.inputs + length (latch_lits ++ gate_lits) = length-append c.inputs (latch_lits ++ gate_lits) in
      omega (arith, a, b, length-inputs, length-latch_lits, length-gate_lits)

  abbrev no_latch : Latch
  no_latch = record { literal = 0; next = 0; reset = false }

  abbrev no_gate : Gate
  no_gate = record { literal = 0; left = 0; right = 0 }

  defined-is : (k d : ℕ) → k < m.reads + latches_of m + length ops → get_or (defined_literals c) k d ≡ 2 * (k + 1)
  defined-is k d h = elim (cases_lt k m.reads) [
    | inl low ↦
        let e : 2 * (0 + k + 1) ≡ 2 * (k + 1) = omega arith in
        get_or_append_left c.inputs (latch_lits ++ gate_lits) d k (rw length-inputs low) ∙ get_or-literals_from 0 m.reads k d low ∙ e
    | inr high ↦
        let past : m.reads ≤ k = high in
        let behind : get_or (defined_literals c) k d ≡ get_or (latch_lits ++ gate_lits) (k - m.reads) d = get_or-append_right c.inputs (latch_lits ++ gate_lits) m.reads k d length-inputs past in
        behind ∙ elim (cases_lt (k - m.reads) (latches_of m)) [
          | inl latch ↦
              let less : k - m.reads < latches_of m = latch in
              let e : 2 * (m.reads + (k - m.reads) + 1) ≡ 2 * (k + 1) = omega (arith, past) in
              get_or_append_left latch_lits gate_lits d (k - m.reads) (rw length-latch_lits latch)
              ∙ get_or-map (λ (l : Latch). l.literal) c.latches (k - m.reads) no_latch d (rw length-latches latch)
              ∙ ap (λ (l : Latch). l.literal) (latch-at (k - m.reads) no_latch latch) ∙ e
          | inr gate ↦
              let more : latches_of m ≤ k - m.reads = gate in
              let place : k - m.reads - latches_of m < length ops = omega (arith, h, past, more) in
              let e : 2 * (first_gate m + (k - m.reads - latches_of m)) ≡ 2 * (k + 1) = omega (arith, past, more) in
              get_or-append_right latch_lits gate_lits (latches_of m) (k - m.reads) d length-latch_lits more
              ∙ get_or-map (λ (g : Gate). g.literal) c.gates (k - m.reads - latches_of m) no_gate d (rw length-gates place)
              ∙ ap (λ (g : Gate). g.literal) (gate-at (k - m.reads - latches_of m) no_gate place) ∙ e
        ]
  ]

  -- a literal of one of these variables, or a constant
  defined : (l : ℕ) → l < 2 * (first_gate m + length ops) → IsDefined c l
  defined l h = record {
    in_range = omega (arith, h);
    defined = elim (cases_eq (l / 2) 0) [
      | inl none ↦ inl none
      | inr one ↦
          let some : l / 2 ≢ 0 = one in
          let within : l / 2 - 1 < m.reads + latches_of m + length ops = omega (arith, h, some) in
          let back : 2 * (l / 2 - 1 + 1) ≡ 2 * (l / 2) = omega (arith, some) in
          inr (l / 2 - 1, rw length-defined within, defined-is (l / 2 - 1) (2 * (l / 2)) within ∙ back)
    ];
  }

  more_gates : length (nexts_of m).gates ≤ length ops
  more_gates = let e : length ops ≡ length (nexts_of m).gates + length outputs_good.rest = ap length outputs_good.grows ∙ length-append (nexts_of m).gates outputs_good.rest in omega (arith, e)

  -- one variable hangs on earlier ones alone
  depends : (a b : ℕ) → DependsOn c.gates a b → b < a
  depends a b (left gate there) = gate_greater gate there
    where
      gate_greater : (gate : Gate) → Contains c.gates gate → gate.left / 2 < gate.literal / 2
      gate_greater gate there =
          let place : there.0 < length ops = rw length-gates at there.1 in
          let same : gate_from first ops there.0 ≡ gate = sym (gate-at there.0 gate place) ∙ there.2 in
          let less : (get_or ops there.0 no_operands).greater < 2 * (first_gate m + there.0) = outputs_good.ordered.greater there.0 place in
          subst (λ (g : Gate). g.left / 2 < g.literal / 2) same (omega (arith, less))
  depends a b (right gate there) = gate_lesser gate there
    where
      gate_lesser : (gate : Gate) → Contains c.gates gate → gate.right / 2 < gate.literal / 2
      gate_lesser gate there =
          let place : there.0 < length ops = rw length-gates at there.1 in
          let same : gate_from first ops there.0 ≡ gate = sym (gate-at there.0 gate place) ∙ there.2 in
          let less : (get_or ops there.0 no_operands).lesser < 2 * (first_gate m + there.0) = outputs_good.ordered.lesser there.0 place in
          subst (λ (g : Gate). g.right / 2 < g.literal / 2) same (omega (arith, less))
  depends a b (through a2 b2 c2 one two) = let x : b2 < a2 = depends a2 b2 one in let y : c2 < b2 = depends b2 c2 two in omega (arith, x, y)

  pub is_circuit : IsCircuit (circuit_of m read_names write_names)
  is_circuit = record {
    room = omega (arith, length-inputs, length-latches, length-gates);
    definable = λ k d h.
        let within : k < m.reads + latches_of m + length ops = rw length-defined at h in
        let e : get_or (defined_literals c) k d ≡ 2 * (k + 1) = defined-is k d within in
        record { even = rw e (omega arith); a_variable = λ z. omega (arith, z, e); in_range = rw e (omega (arith, within)) };
    once = λ i k less h same.
        let within : k < m.reads + latches_of m + length ops = rw length-defined at h in
        let a : get_or (defined_literals c) i 0 ≡ 2 * (i + 1) = defined-is i 0 (omega (arith, less, within)) in
        let b : get_or (defined_literals c) k 0 ≡ 2 * (k + 1) = defined-is k 0 within in
        omega (arith, less, a, b, same);
    all_defined = All-append (IsDefined c) (map (λ (latch : Latch). latch.next) c.latches) _
        (All-map (IsDefined c) (λ (latch : Latch). latch.next) c.latches (λ k d h.
        let within : k < latches_of m = rw length-latches at h in
        let next : get_or (nexts_of m).literals k 0 < 2 * (first_gate m + length (nexts_of m).gates) = nexts_good.within k within in
        subst (λ (latch : Latch). IsDefined c latch.next) (sym (latch-at k d within)) (defined (get_or (nexts_of m).literals k 0) (omega (arith, next, more_gates)))))
        (All-append (IsDefined c) c.outputs _
        (λ k d h.
        let within : k < m.writes = rw outputs_good.places at h in
        subst (λ (l : ℕ). IsDefined c l) (get_or_default (outputs_of m).literals k 0 d h) (defined (get_or (outputs_of m).literals k 0) (outputs_good.within k within)))
        (All-flat_map (IsDefined c) (λ (gate : Gate). gate.left ∷ gate.right ∷ []) c.gates (λ k d h.
        let place : k < length ops = rw length-gates at h in
        let greater : (get_or ops k no_operands).greater < 2 * (first_gate m + k) = outputs_good.ordered.greater k place in
        let lesser : (get_or ops k no_operands).lesser < 2 * (first_gate m + k) = outputs_good.ordered.lesser k place in
        subst (λ (gate : Gate). All (IsDefined c) (gate.left ∷ gate.right ∷ [])) (sym (gate-at k d place))
        (All-two (IsDefined c) (get_or ops k no_operands).greater (get_or ops k no_operands).lesser
        (defined (get_or ops k no_operands).greater (omega (arith, greater, place))) (defined (get_or ops k no_operands).lesser (omega (arith, lesser, place)))))));
    no_cycle = λ v round. let less : v < v = depends v v round in omega (arith, less);
    input_places = length-map read_names (λ name. Some name) ∙ reads ∙ sym length-inputs;
    output_places = length-map write_names (λ name. Some name) ∙ writes ∙ sym outputs_good.places;
  }

  pub sorted : AreSorted (circuit_of m read_names write_names).gates
  sorted i k le h =
      let place : k < length ops = rw length-gates at h in
      let before : i < length ops = omega (arith, le, place) in
      let greater : (get_or ops i no_operands).greater < 2 * (first_gate m + i) = outputs_good.ordered.greater i before in
      let lesser : (get_or ops i no_operands).lesser < 2 * (first_gate m + i) = outputs_good.ordered.lesser i before in
      subst (λ (g : Gate). Spares g ((gate_at c.gates k).literal / 2)) (sym (gate-at i no_gate before))
      (subst (λ (g : Gate). Spares (gate_from first ops i) (g.literal / 2)) (sym (gate-at k no_gate place))
      (record { left = λ e. omega (arith, e, greater, le); right = λ e. omega (arith, e, lesser, le) }))
