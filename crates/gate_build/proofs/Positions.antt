-- One position of a run of the circuit is one of the machine's.
use Rattle.std.proofs.Common.{◌≡◌, ℕ, ◌+◌, ◌-◌, ◌*◌, ◌/◌, ◌%◌, ◌^◌, ◌<◌, ◌≤◌, ◌&&◌, Bool, false, cond, leb, ltb, List, length, get_or, sym, ap, subst, ◌∙◌, arith, inl, inr}
use Rattle.std.specs.Prelude.{map}
use Rattle.std.proofs.lemmas.Bool.{cases_lt, cond-true, cond_both, leb-true, lt-ltb}
use Rattle.std.proofs.lemmas.Nat.{div-mul-add, mod-mul-add, mul-add-lt, pow-add}
use Rattle.std.proofs.lemmas.List.{length-map, get_or-map, get_or_append_left, get_or-append_right}
use Rattle.letters_and_lassos.specs.Signals.{has}
use Rattle.letters_and_lassos.proofs.Bits.{number_of-lt, has-number_of, same_number}
use Rattle.machine_model.specs.Machine.{MachineModel, next_of, size_of, writes_of}
use Rattle.aiger_text.specs.declared.circuits.Latch.{Latch}
use Rattle.aiger_text.specs.declared.circuits.Gate.{Gate}
use Rattle.aiger_text.specs.Circuit.{Circuit, GatesAgree, Valuation, literal_value}
use Rattle.aiger_text.proofs.Bits.{has-div, has-mod}
use Rattle.letters_and_lassos.specs.Bits.{binary_value}
use Rattle.aiger_text.proofs.Gates.{no_gate}
use Rattle.aiger_text.proofs.Putting.{no_latch}
use Rattle.gate_build.specs.declared.gates.Operands.{Operands}
use Rattle.gate_build.specs.Table.{circuit_of, first_gate, input_literals, latch_literals, latches_for, latches_of, next_bit, nexts_of, outputs_of, split_literals, written_bit}
use Rattle.gate_build.proofs.Meaning.{Agree, agree_before}
use Rattle.gate_build.proofs.Splits.{number_in}
use Rattle.gate_build.proofs.Whole.{gate-at, get_or-literals_from, latch-at, length-gates, length-literals_from, length-split, nexts_good, outputs_good}

-- at most 8 states have codes of their own
pub codes_enough : (n : ℕ) → n ≤ 8 → n ≤ 2 ^ latches_for n
codes_enough n few =
    cond_both (leb n 1) _ _ (λ l. n ≤ 2 ^ l) (λ one. leb-true n 1 one)
    (λ _. cond_both (leb n 2) _ _ (λ l. n ≤ 2 ^ l) (λ two. leb-true n 2 two)
    (λ _. cond_both (leb n 4) _ _ (λ l. n ≤ 2 ^ l) (λ four. leb-true n 4 four) (λ _. few)))

-- The valuation shows the machine in this state as it reads this letter: latches and inputs have the bits of the two.
pub record Shows (m : MachineModel) (c : Circuit) (state letter : ℕ) (v : Valuation) : Type 0 where
  pub latches : (k : ℕ) → k < latches_of m → literal_value v (get_or c.latches k no_latch).literal ≡ has state k
  pub inputs : (k : ℕ) → k < m.reads → literal_value v (get_or c.inputs k 0) ≡ has letter k
  pub gates : GatesAgree c v
  pub in_range : state < size_of m
  pub readable : letter < 2 ^ m.reads

module _ (m : MachineModel) (read_names write_names : List (List ℕ)) (reads : length read_names ≡ m.reads) (writes : length write_names ≡ m.writes) where
  abbrev c : Circuit
  c = circuit_of m read_names write_names

  gates_agree : (v : Valuation) → GatesAgree c v → Agree (first_gate m) v (outputs_of m).gates
  gates_agree v all = record {
    each = λ k h.
        let within : k < length c.gates = rw (length-gates m read_names write_names reads writes) h in
        subst (λ (gate : Gate). literal_value v gate.literal ≡ (literal_value v gate.left && literal_value v gate.right))
        (gate-at m read_names write_names reads writes k no_gate h) (all k no_gate within);
  }

  -- a next literal and an output have the bit of the table at the number that latches and inputs make
  next_means : (v : Valuation) (k : ℕ) → GatesAgree c v → k < latches_of m
      → literal_value v (get_or c.latches k no_latch).next ≡ next_bit m k (number_in (split_literals m) 0 1 v)
  next_means v k all h =
      let outputs = outputs_good m read_names write_names reads writes in
      let before : Agree (first_gate m) v (nexts_of m).gates =
      agree_before (first_gate m) v (nexts_of m).gates outputs.rest (subst (λ (gs : List Operands). Agree (first_gate m) v gs) outputs.grows (gates_agree v all)) in
      ap (λ (latch : Latch). literal_value v latch.next) (latch-at m read_names write_names reads writes k no_latch h)
      ∙ (nexts_good m read_names write_names reads writes).means v before k h

  output_means : (v : Valuation) (k : ℕ) → GatesAgree c v → k < m.writes → literal_value v (get_or c.outputs k 0) ≡ written_bit m k (number_in (split_literals m) 0 1 v)
  output_means v k all h = (outputs_good m read_names write_names reads writes).means v (gates_agree v all) k h

  module _ (few : size_of m ≤ 8) (state letter : ℕ) (v : Valuation) (shows : Shows m c state letter v) where
    state_fits : state < 2 ^ latches_of m
    state_fits = let inside : state < size_of m = shows.in_range in omega (arith, inside, codes_enough (size_of m) few)

    -- the bits of the two, the state's first
    bit-is : (k : ℕ) → k < latches_of m + m.reads → literal_value v (get_or (split_literals m) k 0) ≡ has (letter * 2 ^ latches_of m + state) k
    bit-is k h = elim (cases_lt k (latches_of m)) [
      | inl low ↦
          let inside : k < length (latch_literals m) = rw length-literals_from low in
          let own : (get_or c.latches k no_latch).literal ≡ 2 * (m.reads + k + 1) = ap (λ (latch : Latch). latch.literal) (latch-at m read_names write_names reads writes k no_latch low) in
          ap (literal_value v) (get_or_append_left (latch_literals m) (input_literals m) 0 k inside ∙ get_or-literals_from m.reads (latches_of m) k 0 low ∙ sym own)
          ∙ shows.latches k low ∙ ap (λ n. has n k) (sym (mod-mul-add letter (2 ^ latches_of m) state state_fits))
          ∙ has-mod (letter * 2 ^ latches_of m + state) (latches_of m) k low
      | inr high ↦
          let past : latches_of m ≤ k = high in
          let rest : k - latches_of m < m.reads = omega (arith, h, past) in
          let back : latches_of m + (k - latches_of m) ≡ k = omega (arith, past) in
          ap (literal_value v) (get_or-append_right (latch_literals m) (input_literals m) (latches_of m) k 0 (length-literals_from m.reads (latches_of m)) past)
          ∙ shows.inputs (k - latches_of m) rest
          ∙ ap (λ n. has n (k - latches_of m)) (sym (div-mul-add letter (2 ^ latches_of m) state state_fits))
          ∙ has-div (letter * 2 ^ latches_of m + state) (latches_of m) (k - latches_of m) ∙ ap (has (letter * 2 ^ latches_of m + state)) back
    ]

    number-is : number_in (split_literals m) 0 1 v ≡ letter * 2 ^ latches_of m + state
    number-is =
        let bits : List Bool = map (literal_value v) (split_literals m) in
        let len : length (map (literal_value v) (split_literals m)) ≡ latches_of m + m.reads = length-map (split_literals m) (literal_value v) ∙ length-split m in
        let plain : number_in (split_literals m) 0 1 v ≡ binary_value (map (literal_value v) (split_literals m)) = omega arith in
        let small : binary_value (map (literal_value v) (split_literals m)) < 2 ^ (latches_of m + m.reads) =
        subst (λ (n : ℕ). binary_value (map (literal_value v) (split_literals m)) < 2 ^ n) len (number_of-lt (map (literal_value v) (split_literals m))) in
        let fits : letter * 2 ^ latches_of m + state < 2 ^ (latches_of m + m.reads) = rw pow-add (mul-add-lt letter (2 ^ latches_of m) state (2 ^ m.reads) shows.readable state_fits) in
        plain ∙ same_number (latches_of m + m.reads) (binary_value (map (literal_value v) (split_literals m))) (letter * 2 ^ latches_of m + state) small fits
        (λ k h. has-number_of (map (literal_value v) (split_literals m)) k (rw len h)
        ∙ get_or-map (literal_value v) (split_literals m) k 0 false (rw length-split h) ∙ bit-is k h)

    -- the test of a table at these is that of the state and the letter
    at : (f : ℕ → ℕ → ℕ) (k n : ℕ) → n ≡ letter * 2 ^ latches_of m + state
        → cond (ltb (n % 2 ^ latches_of m) (size_of m)) (has (f (n % 2 ^ latches_of m) (n / 2 ^ latches_of m)) k) false ≡ has (f state letter) k
    at f k n e =
        let r : n % 2 ^ latches_of m ≡ state = ap (λ i. i % 2 ^ latches_of m) e ∙ mod-mul-add letter (2 ^ latches_of m) state state_fits in
        let d : n / 2 ^ latches_of m ≡ letter = ap (λ i. i / 2 ^ latches_of m) e ∙ div-mul-add letter (2 ^ latches_of m) state state_fits in
        let both : cond (ltb (n % 2 ^ latches_of m) (size_of m)) (has (f (n % 2 ^ latches_of m) (n / 2 ^ latches_of m)) k) false ≡ cond (ltb state (size_of m)) (has (f state letter) k) false =
        λ i. cond (ltb (r i) (size_of m)) (has (f (r i) (d i)) k) false in
        both ∙ cond-true (ltb state (size_of m)) (has (f state letter) k) false (lt-ltb state (size_of m) shows.in_range)

    pub next_is : (k : ℕ) → k < latches_of m → literal_value v (get_or c.latches k no_latch).next ≡ has (next_of m state letter) k
    next_is k h = next_means v k shows.gates h ∙ at (next_of m) k (number_in (split_literals m) 0 1 v) number-is

    pub output_is : (k : ℕ) → k < m.writes → literal_value v (get_or c.outputs k 0) ≡ has (writes_of m state letter) k
    output_is k h = output_means v k shows.gates h ∙ at (writes_of m) k (number_in (split_literals m) 0 1 v) number-is
