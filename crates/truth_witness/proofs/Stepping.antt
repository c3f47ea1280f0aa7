-- Two rows that follow each other meet the clauses of a step.
use Rattle.std.proofs.Common.{◌≡◌, ℕ, suc, ◌+◌, ◌*◌, ◌<◌, ◌≤◌, true, List, ◌++◌, length, get_or, sym, ap, subst, ◌∙◌, arith}
use Rattle.std.specs.Prelude.{All, slice_get, Some}
use Rattle.std.specs.List.{flat_map}
use Rattle.std.proofs.lemmas.Option.{slice_get_within, get_or_from_slice_get}
use Rattle.letters_and_lassos.specs.Word.{Word, next as following}
use Rattle.letters_and_lassos.proofs.Positions.{after-suc}
use Rattle.ltl_formula.specs.declared.nodes.FormulaId.{FormulaId}
use Rattle.ltl_formula.specs.Nodes.{IsNodeList, node_at, tree_at, trees_of}
use Rattle.ltl_formula.specs.Truth.{holds}
use Rattle.aiger_text.specs.declared.circuits.Latch.{Latch}
use Rattle.aiger_text.specs.Circuit.{Valuation, IsCircuitRun, literal_value}
use Rattle.aiger_text.specs.CircuitType.{IsCircuit}
use Rattle.truth_witness.specs.Clauses.{equal}
use Rattle.truth_witness.specs.Witness.{Claim}
use Rattle.truth_witness.specs.Variables.{ids, frame_size, top_literal, truth_literal, latch_literal, shifted}
use Rattle.truth_witness.specs.Frames.{as_id, numbered, node_ahead, frame, next_frame, step}
use Rattle.truth_witness.specs.Obligations.{in_step}
use Rattle.truth_witness.specs.Proved.{IsWitnessFor, IsOfFrame}
use Rattle.truth_witness.specs.Truths.{are_met}
use Rattle.truth_witness.proofs.Ids.{In, parts_occur, tree_of_node}
use Rattle.truth_witness.proofs.Meeting.{met_both, met_equal, met_each, met_numbered, are_met_same, are_met_mapped}
use Rattle.truth_witness.proofs.Pairs.{pair, pair_here, pair_next}
use Rattle.truth_witness.proofs.Within.{all_in, latches_within, nexts_within, of_circuit, truth_within, frame_within}
use Rattle.truth_witness.proofs.Nodes.{ahead_met}
use Rattle.truth_witness.proofs.Rows.{position, position_within, the_row, row_circuit, row_truth, latch_moves, frame_met}

module _ (x : Claim) (circuit : IsCircuit x.circuit) (list : IsNodeList x.nodes) (fits : IsWitnessFor x) (word : Word) (values : ℕ → Valuation)
    (run : IsCircuitRun x.side x.circuit word values) (n : ℕ) (rises : Valuation) where
  abbrev here : Valuation
  here = the_row x circuit list fits word values run n

  abbrev there : Valuation
  there = the_row x circuit list fits word values run (suc n)

  -- both rows, and the literals that compare ranks
  abbrev pub rows : Valuation
  rows = pair (frame_size x) here there rises

  abbrev at : ℕ → ℕ
  at k = position x circuit list fits word values run k

  pub says_here : (l : ℕ) → IsOfFrame x l → literal_value rows l ≡ literal_value here l
  says_here l h = pair_here (frame_size x) here there rises l h

  pub says_there : (l : ℕ) → IsOfFrame x l → literal_value rows (shifted x l) ≡ literal_value there l
  says_there l h = pair_next (frame_size x) here there rises l h

  frames_met : are_met rows (frame x ++ next_frame x) ≡ true
  frames_met =
      met_both rows (frame x) (next_frame x)
      (are_met_same rows here (top_literal x) says_here (frame x) (frame_within x circuit list fits) ∙ frame_met x circuit list fits word values run n)
      (are_met_mapped rows there (shifted x) (top_literal x) says_there (frame x) (frame_within x circuit list fits) ∙ frame_met x circuit list fits word values run (suc n))

  truth_here : (g : FormulaId) → In g.0 (ids x) → literal_value rows (truth_literal x g) ≡ holds word (tree_at x.nodes g) (at n)
  truth_here g is = says_here (truth_literal x g) (truth_within x circuit list fits g is) ∙ row_truth x circuit list fits word values run n g is

  truth_there : (g : FormulaId) → In g.0 (ids x) → literal_value rows (shifted x (truth_literal x g)) ≡ holds word (tree_at x.nodes g) (following word (at n))
  truth_there g is =
      says_there (truth_literal x g) (truth_within x circuit list fits g is) ∙ row_truth x circuit list fits word values run (suc n) g is
      ∙ ap (holds word (tree_at x.nodes g)) (after-suc word 0 n)

  abbrev moves : Latch → List (List ℕ)
  moves latch = equal (shifted x latch.literal) latch.next

  abbrev ahead : ℕ → List (List ℕ)
  ahead g = node_ahead x (truth_literal x (as_id g)) (node_at x.nodes g)

  abbrev own_moves : ℕ → ℕ → List (List ℕ)
  own_moves k next = equal (shifted x (latch_literal x k)) next

  step_met : are_met rows (step x) ≡ true
  step_met =
      met_both rows (flat_map moves x.circuit.latches ++ flat_map ahead (ids x)) (numbered own_moves 0 x.witness.latches)
      (met_both rows (flat_map moves x.circuit.latches) (flat_map ahead (ids x)) (met_each rows moves x.circuit.latches of_latches)
      (met_each rows ahead (ids x) (all_in (λ g. are_met rows (ahead g) ≡ true) (ids x) of_truths)))
      (met_numbered rows own_moves 0 x.witness.latches of_own)
    where
      of_latches : All (λ latch. are_met rows (moves latch) ≡ true) x.circuit.latches
      of_latches k d h =
          let latch : Latch = get_or x.circuit.latches k d in
          let small : latch.literal ≤ 2 * x.circuit.variables + 1 = latches_within x.circuit circuit k d h in
          let small_next : latch.next ≤ 2 * x.circuit.variables + 1 = nexts_within x.circuit circuit k d h in
          met_equal rows (shifted x latch.literal) latch.next
          (says_there latch.literal (of_circuit x circuit list fits latch.literal small)
          ∙ row_circuit x circuit list fits word values run (suc n) latch.literal small
          ∙ ap (λ i. literal_value (values i) latch.literal) (after-suc word 0 n)
          ∙ run.steps (at n) (position_within x circuit list fits word values run n) k d h
          ∙ sym (row_circuit x circuit list fits word values run n latch.next small_next)
          ∙ sym (says_here latch.next (of_circuit x circuit list fits latch.next small_next)))

      of_truths : (g : ℕ) → In g (ids x) → are_met rows (ahead g) ≡ true
      of_truths g is =
          ahead_met x (trees_of x.nodes) word run.lasso.ring rows (at n) (position_within x circuit list fits word values run n) (truth_literal x (as_id g)) (node_at x.nodes g)
          (truth_here (as_id g) is ∙ ap (λ tree. holds word tree (at n)) (tree_of_node x.nodes list g))
          (truth_there (as_id g) is ∙ ap (λ tree. holds word tree (following word (at n))) (tree_of_node x.nodes list g))
          (λ a part. truth_here a (parts_occur x.nodes list x.form g a.0 is part))
          (λ a part. truth_there a (parts_occur x.nodes list x.form g a.0 is part))

      of_own : (k l : ℕ) → slice_get x.witness.latches k ≡ Some l → are_met rows (own_moves (0 + k) l) ≡ true
      of_own k l there_is =
          let e : 0 + k ≡ k = omega arith in
          let few : k < length x.witness.latches = slice_get_within x.witness.latches k l there_is in
          let is : get_or x.witness.latches k 0 ≡ l = get_or_from_slice_get x.witness.latches k l 0 there_is in
          let small : l ≤ top_literal x = subst (IsOfFrame x) is (fits.latches k 0 few) in
          met_equal rows (shifted x (latch_literal x (0 + k))) l
          (ap (λ j. literal_value rows (shifted x (latch_literal x j))) e
          ∙ says_there (latch_literal x k) (omega arith)
          ∙ latch_moves x circuit list fits word values run n k few
          ∙ ap (literal_value here) is
          ∙ sym (says_here l small))

  pub in_step_met : are_met rows (in_step x) ≡ true
  in_step_met = met_both rows (frame x ++ next_frame x) (step x) frames_met step_met
