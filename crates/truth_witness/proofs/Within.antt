-- The literals of a frame are literals of its variables.
use Rattle.std.proofs.Common.{◌≡◌, ℕ, ◌+◌, ◌*◌, ◌<◌, ◌≤◌, List, [], ◌∷◌, ◌++◌, length, get_or, refl, sym, subst, arith, inl, inr}
use Rattle.std.specs.Prelude.{map, All}
use Rattle.std.specs.List.{flat_map}
use Rattle.std.proofs.lemmas.Bool.{cases_lt}
use Rattle.std.proofs.lemmas.Option.{slice_get_within}
use Rattle.std.proofs.lemmas.List.{get_or_past}
use Rattle.std.proofs.lemmas.List.Elements.{All-nil, All-cons, All-head, All-tail, All-append, All-get_or}
use Rattle.letters_and_lassos.specs.declared.kinds.Side.{Side}
use Rattle.letters_and_lassos.specs.declared.kinds.Side.TheVariants.{System, Environment}
use Rattle.ltl_formula.specs.declared.nodes.FormulaId.{FormulaId}
use Rattle.ltl_formula.specs.declared.nodes.Node.{Node}
use Rattle.ltl_formula.specs.declared.nodes.Node.TheVariants.{True, False, Signal, Not, Next, Finally, Globally, And, Or, Implies, Equiv, Until, Release, WeakUntil}
use Rattle.ltl_formula.specs.Nodes.{IsNodeList, node_at}
use Rattle.aiger_text.specs.declared.circuits.Gate.{Gate}
use Rattle.aiger_text.specs.Circuit.{Circuit}
use Rattle.aiger_text.specs.CircuitType.{IsCircuit}
use Rattle.truth_witness.specs.declared.witnesses.Operands.{Operands}
use Rattle.truth_witness.specs.Clauses.{opposite, conjoined}
use Rattle.truth_witness.specs.Witness.{Claim}
use Rattle.truth_witness.specs.Variables.{parts_of, place_of, ids, frame_size, truth_literal, gate_literal, signal_literal, signal_literals}
use Rattle.truth_witness.specs.Frames.{as_id, numbered, node_here, frame}
use Rattle.truth_witness.specs.Proved.{IsWitnessFor, AreBefore}
use Rattle.truth_witness.proofs.Values.{opposite_within}
use Rattle.truth_witness.proofs.Ids.{In, parts_occur, place_within}
use Rattle.truth_witness.proofs.Meeting.{AtMost, within_one, within_two, within_three, two_clauses, three_clauses, within_equal, within_conjoined, within_each, within_numbered}

-- what holds of each element of a list holds of its parts
module _ {X : Type 0} (P : X → Type 0) where
  pub all_left : (xs ys : List X) → All P (xs ++ ys) → All P xs
  all_left [] ys each = All-nil P
  all_left (x ∷ xs) ys each = All-cons P x xs (All-head P x (xs ++ ys) each) (all_left xs ys (All-tail P x (xs ++ ys) each))

  pub all_right : (xs ys : List X) → All P (xs ++ ys) → All P ys
  all_right [] ys each = each
  all_right (x ∷ xs) ys each = all_right xs ys (All-tail P x (xs ++ ys) each)

  pub all_mapped : {Y : Type 0} (f : Y → X) (ys : List Y) → All P (map f ys) → All (λ y. P (f y)) ys
  all_mapped f [] each = All-nil (λ y. P (f y))
  all_mapped f (y ∷ ys) each = All-cons (λ y. P (f y)) y ys (All-head P (f y) (map f ys) each) (all_mapped f ys (All-tail P (f y) (map f ys) each))

pub all_in : (P : ℕ → Type 0) (ns : List ℕ) → ((n : ℕ) → In n ns → P n) → All P ns
all_in P [] each = All-nil P
all_in P (n ∷ ns) each = All-cons P n ns (each n (inl refl)) (all_in P ns (λ m is. each m (inr is)))

-- the literals of a circuit
module _ (c : Circuit) (circuit : IsCircuit c) where
  abbrev pub OfCircuit : ℕ → Type 0
  OfCircuit l = l ≤ 2 * c.variables + 1

  pub inputs_within : All OfCircuit c.inputs
  inputs_within =
      all_left OfCircuit c.inputs (map (λ latch. latch.literal) c.latches ++ map (λ gate. gate.literal) c.gates)
      (λ k d h. (circuit.definable k d h).in_range)

  lines_within : All OfCircuit (map (λ latch. latch.literal) c.latches ++ map (λ gate. gate.literal) c.gates)
  lines_within =
      all_right OfCircuit c.inputs (map (λ latch. latch.literal) c.latches ++ map (λ gate. gate.literal) c.gates)
      (λ k d h. (circuit.definable k d h).in_range)

  pub latches_within : All (λ latch. OfCircuit latch.literal) c.latches
  latches_within =
      all_mapped OfCircuit (λ latch. latch.literal) c.latches
      (all_left OfCircuit (map (λ latch. latch.literal) c.latches) (map (λ gate. gate.literal) c.gates) lines_within)

  pub gates_within : All (λ gate. OfCircuit gate.literal) c.gates
  gates_within =
      all_mapped OfCircuit (λ gate. gate.literal) c.gates
      (all_right OfCircuit (map (λ latch. latch.literal) c.latches) (map (λ gate. gate.literal) c.gates) lines_within)

  abbrev operands_of : Gate → List ℕ
  operands_of gate = gate.left ∷ gate.right ∷ []

  used_within : All OfCircuit (map (λ latch. latch.next) c.latches ++ (c.outputs ++ flat_map operands_of c.gates))
  used_within = λ k d h. (circuit.all_defined k d h).in_range

  pub nexts_within : All (λ latch. OfCircuit latch.next) c.latches
  nexts_within =
      all_mapped OfCircuit (λ latch. latch.next) c.latches
      (all_left OfCircuit (map (λ latch. latch.next) c.latches) (c.outputs ++ flat_map operands_of c.gates) used_within)

  behind_latches : All OfCircuit (c.outputs ++ flat_map operands_of c.gates)
  behind_latches = all_right OfCircuit (map (λ latch. latch.next) c.latches) (c.outputs ++ flat_map operands_of c.gates) used_within

  pub outputs_within : All OfCircuit c.outputs
  outputs_within = all_left OfCircuit c.outputs (flat_map operands_of c.gates) behind_latches

  each_operand : (gates : List Gate) → All OfCircuit (flat_map operands_of gates) → All (λ gate. OfCircuit gate.left × OfCircuit gate.right) gates
  each_operand [] each = All-nil (λ gate. OfCircuit gate.left × OfCircuit gate.right)
  each_operand (gate ∷ gates) each =
      All-cons (λ gate. OfCircuit gate.left × OfCircuit gate.right) gate gates (
        All-head OfCircuit gate.left (gate.right ∷ flat_map operands_of gates) each,
        All-head OfCircuit gate.right (flat_map operands_of gates) (All-tail OfCircuit gate.left (gate.right ∷ flat_map operands_of gates) each),
      )
      (each_operand gates (All-tail OfCircuit gate.right (flat_map operands_of gates) (All-tail OfCircuit gate.left (gate.right ∷ flat_map operands_of gates) each)))

  pub operands_within : All (λ gate. OfCircuit gate.left × OfCircuit gate.right) c.gates
  operands_within = each_operand c.gates (all_right OfCircuit c.outputs (flat_map operands_of c.gates) behind_latches)

  pub signals_within : (side : Side) (s : ℕ) → OfCircuit (get_or (signal_literals side c) s 0)
  signals_within side s = elim (cases_lt s (length (signal_literals side c))) [
    | inl within ↦ All-get_or OfCircuit (signal_literals side c) s 0 within (wires side)
    | inr past ↦ let none : get_or (signal_literals side c) s 0 ≡ 0 = get_or_past (signal_literals side c) s 0 past in omega arith
  ]
    where
      wires : (side : Side) → All OfCircuit (signal_literals side c)
      wires System = All-append OfCircuit c.inputs c.outputs inputs_within outputs_within
      wires Environment = All-append OfCircuit c.outputs c.inputs outputs_within inputs_within

module _ (x : Claim) (circuit : IsCircuit x.circuit) (list : IsNodeList x.nodes) (fits : IsWitnessFor x) where
  abbrev pub OfFrame : ℕ → Type 0
  OfFrame = AtMost (frame_size x)

  abbrev Occurs : ℕ → Type 0
  Occurs g = In g (ids x)

  pub of_circuit : (l : ℕ) → l ≤ 2 * x.circuit.variables + 1 → OfFrame l
  of_circuit l h = omega arith

  pub truth_within : (g : FormulaId) → Occurs g.0 → OfFrame (truth_literal x g)
  truth_within g is = let place : place_of g.0 (ids x) < length (ids x) = place_within g.0 (ids x) is in omega arith

  pub signal_within : (s : ℕ) → OfFrame (signal_literal x s)
  signal_within s = of_circuit (signal_literal x s) (signals_within x.circuit circuit x.side s)

  here_within : (v : ℕ) (node : Node) → OfFrame v → ((a : FormulaId) → In a.0 (parts_of node) → OfFrame (truth_literal x a)) → All (All OfFrame) (node_here x v node)
  here_within v True hv parts = within_one (frame_size x) v hv
  here_within v False hv parts = within_one (frame_size x) (opposite v) (opposite_within (frame_size x) v hv)
  here_within v (Signal s) hv parts = within_equal (frame_size x) v (signal_literal x s) hv (signal_within s)
  here_within v (Not a) hv parts =
      within_equal (frame_size x) v (opposite (truth_literal x a)) hv (opposite_within (frame_size x) (truth_literal x a) (parts a (inl refl)))
  here_within v (Next a) hv parts = All-nil (All OfFrame)
  here_within v (Finally a) hv parts = All-nil (All OfFrame)
  here_within v (Globally a) hv parts = All-nil (All OfFrame)
  here_within v (And a b) hv parts = within_conjoined (frame_size x) v (truth_literal x a) (truth_literal x b) hv (parts a (inl refl)) (parts b (inr (inl refl)))
  here_within v (Or a b) hv parts =
      let n : ℕ = frame_size x in
      let ta : OfFrame (truth_literal x a) = parts a (inl refl) in
      let tb : OfFrame (truth_literal x b) = parts b (inr (inl refl)) in
      three_clauses (frame_size x) (v ∷ opposite (truth_literal x a) ∷ []) (v ∷ opposite (truth_literal x b) ∷ []) (opposite v ∷ truth_literal x a ∷ truth_literal x b ∷ [])
      (within_two (frame_size x) v (opposite (truth_literal x a)) hv (opposite_within (frame_size x) (truth_literal x a) ta))
      (within_two (frame_size x) v (opposite (truth_literal x b)) hv (opposite_within (frame_size x) (truth_literal x b) tb))
      (within_three (frame_size x) (opposite v) (truth_literal x a) (truth_literal x b) (opposite_within (frame_size x) v hv) ta tb)
  here_within v (Implies a b) hv parts = All-nil (All OfFrame)
  here_within v (Equiv a b) hv parts = All-nil (All OfFrame)
  here_within v (Until a b) hv parts =
      let ta : OfFrame (truth_literal x a) = parts a (inl refl) in
      let tb : OfFrame (truth_literal x b) = parts b (inr (inl refl)) in
      two_clauses (frame_size x) (v ∷ opposite (truth_literal x b) ∷ []) (opposite v ∷ truth_literal x a ∷ truth_literal x b ∷ [])
      (within_two (frame_size x) v (opposite (truth_literal x b)) hv (opposite_within (frame_size x) (truth_literal x b) tb))
      (within_three (frame_size x) (opposite v) (truth_literal x a) (truth_literal x b) (opposite_within (frame_size x) v hv) ta tb)
  here_within v (Release a b) hv parts =
      let ta : OfFrame (truth_literal x a) = parts a (inl refl) in
      let tb : OfFrame (truth_literal x b) = parts b (inr (inl refl)) in
      two_clauses (frame_size x) (opposite v ∷ truth_literal x b ∷ []) (v ∷ opposite (truth_literal x a) ∷ opposite (truth_literal x b) ∷ [])
      (within_two (frame_size x) (opposite v) (truth_literal x b) (opposite_within (frame_size x) v hv) tb)
      (within_three (frame_size x) v (opposite (truth_literal x a)) (opposite (truth_literal x b)) hv
      (opposite_within (frame_size x) (truth_literal x a) ta) (opposite_within (frame_size x) (truth_literal x b) tb))
  here_within v (WeakUntil a b) hv parts = All-nil (All OfFrame)

  abbrev gate_clauses : Gate → List (List ℕ)
  gate_clauses gate = conjoined gate.literal gate.left gate.right

  abbrev truth_clauses : ℕ → List (List ℕ)
  truth_clauses g = node_here x (truth_literal x (as_id g)) (node_at x.nodes g)

  abbrev operand_clauses : ℕ → Operands → List (List ℕ)
  operand_clauses k operands = conjoined (gate_literal x k) operands.left operands.right

  pub frame_within : All (All OfFrame) (frame x)
  frame_within =
      All-append (All OfFrame) (flat_map gate_clauses x.circuit.gates ++ flat_map truth_clauses (ids x)) (numbered operand_clauses 0 x.witness.gates)
      (All-append (All OfFrame) (flat_map gate_clauses x.circuit.gates) (flat_map truth_clauses (ids x))
      (within_each (frame_size x) gate_clauses x.circuit.gates (λ k d h.
      let operands : OfCircuit x.circuit circuit (get_or x.circuit.gates k d).left × OfCircuit x.circuit circuit (get_or x.circuit.gates k d).right = operands_within x.circuit circuit k d h in
      within_conjoined (frame_size x) (get_or x.circuit.gates k d).literal (get_or x.circuit.gates k d).left (get_or x.circuit.gates k d).right
      (of_circuit (get_or x.circuit.gates k d).literal (gates_within x.circuit circuit k d h))
      (of_circuit (get_or x.circuit.gates k d).left operands.0) (of_circuit (get_or x.circuit.gates k d).right operands.1)))
      (within_each (frame_size x) truth_clauses (ids x) (all_in (λ g. All (All OfFrame) (truth_clauses g)) (ids x)
      (λ g is. here_within (truth_literal x (as_id g)) (node_at x.nodes g) (truth_within (as_id g) is)
      (λ a part. truth_within a (parts_occur x.nodes list x.form g a.0 is part))))))
      (within_numbered (frame_size x) operand_clauses 0 x.witness.gates (λ k operands at.
      let before : AreBefore x k operands = fits.gates k operands at in
      let left : operands.left < gate_literal x k = before.left in
      let right : operands.right < gate_literal x k = before.right in
      let few : k < length x.witness.gates = slice_get_within x.witness.gates k operands at in
      let zero_more : 0 + k ≡ k = omega arith in
      subst (λ j. All (All OfFrame) (operand_clauses j operands)) (sym zero_more)
      (within_conjoined (frame_size x) (gate_literal x k) operands.left operands.right (omega arith) (omega arith) (omega arith))))
