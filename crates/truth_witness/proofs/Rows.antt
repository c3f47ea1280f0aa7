-- The rows of a run: at each time the values of the circuit's variables, the truth of each formula that occurs, and the values of the
-- witness's latches and gates, which don't come round with the lasso.
use Rattle.std.proofs.Common.{◌≡◌, ℕ, zero, suc, ◌+◌, ◌-◌, ◌*◌, ◌^◌, ◌<◌, ◌≤◌, Bool, true, false, not, cond, ◌&&◌, List, [], ◌∷◌, ◌++◌, length, get_or, refl, sym, ap, subst, ◌∙◌, arith}
use Rattle.std.specs.Prelude.{map, All, nat_lt, slice_get, Some}
use Rattle.std.specs.List.{flat_map}
use Rattle.std.proofs.lemmas.Bool.{cond-true, cond-false, lt-ltb, le-ltb}
use Rattle.std.proofs.lemmas.List.Elements.{All-head, All-tail}
use Rattle.std.proofs.lemmas.Option.{slice_get_within}
use Rattle.letters_and_lassos.specs.declared.kinds.Side.{Side}
use Rattle.letters_and_lassos.specs.declared.kinds.Side.TheVariants.{System, Environment}
use Rattle.letters_and_lassos.specs.Signals.{has}
use Rattle.letters_and_lassos.specs.Word.{Word, HasRing, lasso_len, letter_at, after}
use Rattle.letters_and_lassos.proofs.Positions.{after_within, first_position, letter_below}
use Rattle.ltl_formula.specs.declared.nodes.FormulaId.{FormulaId}
use Rattle.ltl_formula.specs.Nodes.{IsNodeList, node_at, tree_at, trees_of}
use Rattle.ltl_formula.specs.Truth.{holds}
use Rattle.aiger_text.specs.declared.circuits.Latch.{Latch}
use Rattle.aiger_text.specs.declared.circuits.Gate.{Gate}
use Rattle.aiger_text.specs.Circuit.{Valuation, IsCircuitRun, variable_value, literal_value}
use Rattle.aiger_text.specs.CircuitType.{IsCircuit}
use Rattle.truth_witness.specs.declared.witnesses.Operands.{Operands}
use Rattle.truth_witness.specs.Clauses.{opposite, conjoined}
use Rattle.truth_witness.specs.Witness.{Claim}
use Rattle.truth_witness.specs.Variables.{place_of, ids, ids_end, latches_end, truth_literal, latch_literal, gate_literal, signal_literal, signal_literals}
use Rattle.truth_witness.specs.Frames.{as_id, numbered, node_here, frame, start}
use Rattle.truth_witness.specs.Proved.{IsWitnessFor, AreBefore}
use Rattle.truth_witness.specs.Truths.{are_met}
use Rattle.truth_witness.proofs.Values.{value_even, value_opposite, value_agrees}
use Rattle.truth_witness.proofs.Ids.{In, own_occurs, parts_occur, tree_of_node, place_within, place_is}
use Rattle.truth_witness.proofs.Settling.{settled, AreInOrder, settled_below, settled_gate}
use Rattle.truth_witness.proofs.Meeting.{met_both, met_one, met_conjoined, met_each, met_numbered}
use Rattle.truth_witness.proofs.Within.{all_in, latches_within, gates_within, operands_within, signals_within}
use Rattle.truth_witness.proofs.Nodes.{joined_signals, here_met}

module _ (x : Claim) (circuit : IsCircuit x.circuit) (list : IsNodeList x.nodes) (fits : IsWitnessFor x) (word : Word) (values : ℕ → Valuation)
    (run : IsCircuitRun x.side x.circuit word values) where
  ring : HasRing word
  ring = run.lasso.ring

  -- the position at a time
  abbrev pub position : ℕ → ℕ
  position n = after word 0 n

  pub position_within : (n : ℕ) → position n < lasso_len word
  position_within n = after_within word 0 n run.lasso.ring (first_position word run.lasso.ring)

  abbrev pub occurs_true : ℕ → ℕ → Bool
  occurs_true i g = holds word (tree_at x.nodes (as_id g)) i

  -- the values of the variables below the gates, at a position, where the witness's latches have these values
  abbrev ungated : ℕ → (ℕ → Bool) → Valuation
  ungated i latches v =
      cond (nat_lt v (x.circuit.variables + 1)) (values i v)
      (cond (nat_lt v (ids_end x + 1)) (occurs_true i (get_or (ids x) (v - (x.circuit.variables + 1)) 0)) (latches (v - (ids_end x + 1))))

  abbrev gated : ℕ → (ℕ → Bool) → Valuation
  gated i latches = settled (ungated i latches) (latches_end x + 1) x.witness.gates

  -- the values of the witness's latches at a time
  own : ℕ → ℕ → Bool
  own zero k = false
  own (suc n) k = literal_value (gated (position n) (own n)) (get_or x.witness.latches k 0)

  pub the_row : ℕ → Valuation
  the_row n = gated (position n) (own n)

  -- what stands below the gates
  module _ (i : ℕ) (latches : ℕ → Bool) where
    of_variable : (v : ℕ) → v ≤ x.circuit.variables → gated i latches v ≡ values i v
    of_variable v h =
        settled_below (ungated i latches) (latches_end x + 1) v x.witness.gates (omega arith)
        ∙ cond-true (nat_lt v (x.circuit.variables + 1)) (values i v) (cond (nat_lt v (ids_end x + 1)) (occurs_true i (get_or (ids x) (v - (x.circuit.variables + 1)) 0)) (latches (v - (ids_end x + 1)))) (lt-ltb v (x.circuit.variables + 1) (omega arith))

    of_literal : (l : ℕ) → l ≤ 2 * x.circuit.variables + 1 → literal_value (gated i latches) l ≡ literal_value (values i) l
    of_literal l h = value_agrees (gated i latches) (values i) x.circuit.variables l h same
      where
        same : (u : ℕ) → u ≤ x.circuit.variables → variable_value (gated i latches) u ≡ variable_value (values i) u
        same zero low = refl
        same (suc u) low = of_variable (suc u) low

    of_place : (k : ℕ) → k < length (ids x) → gated i latches (x.circuit.variables + 1 + k) ≡ occurs_true i (get_or (ids x) k 0)
    of_place k h =
        let v : ℕ = x.circuit.variables + 1 + k in
        let back : x.circuit.variables + 1 + k - (x.circuit.variables + 1) ≡ k = omega arith in
        settled_below (ungated i latches) (latches_end x + 1) v x.witness.gates (omega arith)
        ∙ cond-false (nat_lt v (x.circuit.variables + 1)) (values i v) (cond (nat_lt v (ids_end x + 1)) (occurs_true i (get_or (ids x) (v - (x.circuit.variables + 1)) 0)) (latches (v - (ids_end x + 1)))) (le-ltb v (x.circuit.variables + 1) (omega arith))
        ∙ cond-true (nat_lt v (ids_end x + 1)) (occurs_true i (get_or (ids x) (v - (x.circuit.variables + 1)) 0)) (latches (v - (ids_end x + 1))) (lt-ltb v (ids_end x + 1) (omega arith))
        ∙ ap (λ j. occurs_true i (get_or (ids x) j 0)) back

    of_latch : (k : ℕ) → k < length x.witness.latches → gated i latches (ids_end x + 1 + k) ≡ latches k
    of_latch k h =
        let v : ℕ = ids_end x + 1 + k in
        let back : ids_end x + 1 + k - (ids_end x + 1) ≡ k = omega arith in
        settled_below (ungated i latches) (latches_end x + 1) v x.witness.gates (omega arith)
        ∙ cond-false (nat_lt v (x.circuit.variables + 1)) (values i v) (cond (nat_lt v (ids_end x + 1)) (occurs_true i (get_or (ids x) (v - (x.circuit.variables + 1)) 0)) (latches (v - (ids_end x + 1)))) (le-ltb v (x.circuit.variables + 1) (omega arith))
        ∙ cond-false (nat_lt v (ids_end x + 1)) (occurs_true i (get_or (ids x) (v - (x.circuit.variables + 1)) 0)) (latches (v - (ids_end x + 1))) (le-ltb v (ids_end x + 1) (omega arith))
        ∙ ap latches back

    in_order : AreInOrder (latches_end x + 1) x.witness.gates
    in_order k operands at =
        let before : AreBefore x k operands = fits.gates k operands at in
        (before.left, before.right)

    of_gate : (k : ℕ) (operands : Operands) → slice_get x.witness.gates k ≡ Some operands
        → gated i latches (latches_end x + 1 + k) ≡ (literal_value (gated i latches) operands.left && literal_value (gated i latches) operands.right)
    of_gate k operands at = settled_gate (ungated i latches) (latches_end x + 1) k x.witness.gates operands in_order at

  -- the value of the even literal of a variable that isn't 0
  even_value : (v : Valuation) (u : ℕ) → 0 < u → literal_value v (2 * u) ≡ v u
  even_value v zero h = absurd (omega arith)
  even_value v (suc u) h = value_even v (suc u)

  pub row_circuit : (n l : ℕ) → l ≤ 2 * x.circuit.variables + 1 → literal_value (the_row n) l ≡ literal_value (values (position n)) l
  unfolding the_row
  row_circuit n l h = of_literal (position n) (own n) l h

  pub row_truth : (n : ℕ) (g : FormulaId) → In g.0 (ids x) → literal_value (the_row n) (truth_literal x g) ≡ holds word (tree_at x.nodes g) (position n)
  unfolding the_row
  row_truth n g is =
      even_value (gated (position n) (own n)) (x.circuit.variables + 1 + place_of g.0 (ids x)) (omega arith)
      ∙ of_place (position n) (own n) (place_of g.0 (ids x)) (place_within g.0 (ids x) is)
      ∙ ap (occurs_true (position n)) (place_is g.0 (ids x) is)

  row_latch : (n k : ℕ) → k < length x.witness.latches → literal_value (the_row n) (latch_literal x k) ≡ own n k
  unfolding the_row
  row_latch n k h =
      even_value (gated (position n) (own n)) (ids_end x + 1 + k) (omega arith)
      ∙ of_latch (position n) (own n) k h

  pub latch_at_first : (k : ℕ) → k < length x.witness.latches → literal_value (the_row 0) (latch_literal x k) ≡ false
  unfolding own
  latch_at_first k h = row_latch 0 k h

  pub latch_moves : (n k : ℕ) → k < length x.witness.latches → literal_value (the_row (suc n)) (latch_literal x k) ≡ literal_value (the_row n) (get_or x.witness.latches k 0)
  unfolding own the_row
  latch_moves n k h = row_latch (suc n) k h

  pub row_gate : (n k : ℕ) (operands : Operands) → slice_get x.witness.gates k ≡ Some operands
      → literal_value (the_row n) (gate_literal x k) ≡ (literal_value (the_row n) operands.left && literal_value (the_row n) operands.right)
  unfolding the_row
  row_gate n k operands at =
      even_value (gated (position n) (own n)) (latches_end x + 1 + k) (omega arith)
      ∙ of_gate (position n) (own n) k operands at

  -- signals
  wires_are : (side : Side) (i : ℕ) → i < lasso_len word → IsCircuitRun side x.circuit word values
      → (s : ℕ) → literal_value (values i) (get_or (signal_literals side x.circuit) s 0) ≡ has (letter_at word i).0 s
  wires_are System i h as_run =
      joined_signals (values i) x.circuit.inputs x.circuit.outputs (letter_at word i).0 (as_run.reads i h) (as_run.writes i h)
      (letter_below (length x.circuit.inputs + length x.circuit.outputs) word i as_run.lasso)
  wires_are Environment i h as_run =
      let turned : length x.circuit.inputs + length x.circuit.outputs ≡ length x.circuit.outputs + length x.circuit.inputs = omega arith in
      joined_signals (values i) x.circuit.outputs x.circuit.inputs (letter_at word i).0 (as_run.writes i h) (as_run.reads i h)
      (subst (λ n. (letter_at word i).0 < 2 ^ n) turned (letter_below (length x.circuit.inputs + length x.circuit.outputs) word i as_run.lasso))

  row_signal : (n s : ℕ) → literal_value (the_row n) (signal_literal x s) ≡ has (letter_at word (position n)).0 s
  row_signal n s =
      row_circuit n (signal_literal x s) (signals_within x.circuit circuit x.side s)
      ∙ wires_are x.side (position n) (position_within n) run s

  abbrev gate_clauses : Gate → List (List ℕ)
  gate_clauses gate = conjoined gate.literal gate.left gate.right

  abbrev truth_clauses : ℕ → List (List ℕ)
  truth_clauses g = node_here x (truth_literal x (as_id g)) (node_at x.nodes g)

  abbrev operand_clauses : ℕ → Operands → List (List ℕ)
  operand_clauses k operands = conjoined (gate_literal x k) operands.left operands.right

  -- each row meets the frame
  pub frame_met : (n : ℕ) → are_met (the_row n) (frame x) ≡ true
  frame_met n =
      met_both (the_row n) (flat_map gate_clauses x.circuit.gates ++ flat_map truth_clauses (ids x)) (numbered operand_clauses 0 x.witness.gates)
      (met_both (the_row n) (flat_map gate_clauses x.circuit.gates) (flat_map truth_clauses (ids x)) (met_each (the_row n) gate_clauses x.circuit.gates of_gates)
      (met_each (the_row n) truth_clauses (ids x) (all_in (λ g. are_met (the_row n) (truth_clauses g) ≡ true) (ids x) of_truths)))
      (met_numbered (the_row n) operand_clauses 0 x.witness.gates of_operands)
    where
      of_gates : All (λ gate. are_met (the_row n) (gate_clauses gate) ≡ true) x.circuit.gates
      of_gates k d h =
          let gate : Gate = get_or x.circuit.gates k d in
          let operands : (gate.left ≤ 2 * x.circuit.variables + 1) × (gate.right ≤ 2 * x.circuit.variables + 1) = operands_within x.circuit circuit k d h in
          met_conjoined (the_row n) gate.literal gate.left gate.right
          (row_circuit n gate.literal (gates_within x.circuit circuit k d h)
          ∙ run.gates (position n) (position_within n) k d h
          ∙ (λ i. sym (row_circuit n gate.left operands.0) i && sym (row_circuit n gate.right operands.1) i))

      of_truths : (g : ℕ) → In g (ids x) → are_met (the_row n) (truth_clauses g) ≡ true
      of_truths g is =
          here_met x (trees_of x.nodes) word ring (the_row n) (position n) (position_within n) (row_signal n) (truth_literal x (as_id g)) (node_at x.nodes g)
          (row_truth n (as_id g) is ∙ ap (λ tree. holds word tree (position n)) (tree_of_node x.nodes list g))
          (λ a part. row_truth n a (parts_occur x.nodes list x.form g a.0 is part))

      of_operands : (k : ℕ) (operands : Operands) → slice_get x.witness.gates k ≡ Some operands → are_met (the_row n) (operand_clauses (0 + k) operands) ≡ true
      of_operands k operands at =
          let e : 0 + k ≡ k = omega arith in
          met_conjoined (the_row n) (gate_literal x (0 + k)) operands.left operands.right (ap (λ j. literal_value (the_row n) (gate_literal x j)) e ∙ row_gate n k operands at)

  abbrev reset_clause : Latch → List ℕ
  reset_clause latch = cond latch.reset latch.literal (opposite latch.literal) ∷ []

  abbrev off_clauses : ℕ → ℕ → List (List ℕ)
  off_clauses k _ = (opposite (latch_literal x k) ∷ []) ∷ []

  -- the first row meets the start, where the formula is true there
  pub start_met : holds word (tree_at x.nodes x.form) 0 ≡ true → are_met (the_row 0) (start x) ≡ true
  start_met true_there =
      met_both (the_row 0) (map reset_clause x.circuit.latches ++ numbered off_clauses 0 x.witness.latches) ((truth_literal x x.form ∷ []) ∷ [])
      (met_both (the_row 0) (map reset_clause x.circuit.latches) (numbered off_clauses 0 x.witness.latches) (resets_met x.circuit.latches of_resets)
      (met_numbered (the_row 0) off_clauses 0 x.witness.latches of_latches))
      (met_one (the_row 0) (truth_literal x x.form) (row_truth 0 x.form (own_occurs x.nodes list x.form) ∙ true_there))
    where
      one_reset : (b : Bool) (l : ℕ) → literal_value (the_row 0) l ≡ b → literal_value (the_row 0) (cond b l (opposite l)) ≡ true
      one_reset true l e = e
      one_reset false l e = value_opposite (the_row 0) l ∙ ap not e

      of_resets : All (λ latch. literal_value (the_row 0) latch.literal ≡ latch.reset) x.circuit.latches
      of_resets k d h = row_circuit 0 (get_or x.circuit.latches k d).literal (latches_within x.circuit circuit k d h) ∙ run.resets k d h

      resets_met : (latches : List Latch) → All (λ latch. literal_value (the_row 0) latch.literal ≡ latch.reset) latches → are_met (the_row 0) (map reset_clause latches) ≡ true
      resets_met [] each = refl
      resets_met (latch ∷ latches) each =
          met_both (the_row 0) (reset_clause latch ∷ []) (map reset_clause latches)
          (met_one (the_row 0) (cond latch.reset latch.literal (opposite latch.literal)) (one_reset latch.reset latch.literal (All-head (λ latch. literal_value (the_row 0) latch.literal ≡ latch.reset) latch latches each)))
          (resets_met latches (All-tail (λ latch. literal_value (the_row 0) latch.literal ≡ latch.reset) latch latches each))

      of_latches : (k l : ℕ) → slice_get x.witness.latches k ≡ Some l → are_met (the_row 0) (off_clauses (0 + k) l) ≡ true
      of_latches k l at =
          let e : 0 + k ≡ k = omega arith in
          met_one (the_row 0) (opposite (latch_literal x (0 + k)))
          (value_opposite (the_row 0) (latch_literal x (0 + k)) ∙ ap (λ j. not (literal_value (the_row 0) (latch_literal x j))) e
          ∙ ap not (latch_at_first k (slice_get_within x.witness.latches k l at)))
