-- The base clauses of an obligation are a formula over its variables.
use Rattle.std.proofs.Common.{◌≡◌, ℕ, zero, suc, ◌+◌, ◌*◌, ◌/◌, ◌%◌, ◌^◌, ◌<◌, ◌≤◌, cond, List, [], ◌∷◌, ◌++◌, length, arith}
use Rattle.std.specs.Prelude.{map, All, nat_eq, nat_lt}
use Rattle.std.proofs.Math.Nat.{div-add-mod, mod-lt}
use Rattle.std.proofs.lemmas.Bool.{cond_both}
use Rattle.std.proofs.lemmas.List.Elements.{All-nil, All-cons, All-head, All-tail, All-append, All-map}
use Rattle.propositional_logic.specs.Literal.{Literal}
use Rattle.propositional_logic.specs.Clause.{IsFormula, IsWithinVariables}
use Rattle.ltl_formula.specs.Nodes.{IsNodeList}
use Rattle.aiger_text.specs.CircuitType.{IsCircuit}
use Rattle.truth_witness.specs.declared.witnesses.Obligation.{Obligation}
use Rattle.truth_witness.specs.declared.witnesses.Obligation.TheVariants.{Base, Keep, Cover, Enter, Stay, Fall}
use Rattle.truth_witness.specs.Clauses.{is_valid, placed, rising, literal_of, made, base_clauses}
use Rattle.truth_witness.specs.Witness.{Claim}
use Rattle.truth_witness.specs.Variables.{frame_size}
use Rattle.truth_witness.specs.Frames.{frame, next_frame, start, step}
use Rattle.truth_witness.specs.Obligations.{part_at, IsObligationOf, at_start, in_step, shared, own, clauses_of, variables_of}
use Rattle.truth_witness.specs.Proved.{IsPartFor, IsWitnessFor}
use Rattle.truth_witness.proofs.Meeting.{AtMost}
use Rattle.truth_witness.proofs.Within.{frame_within}
use Rattle.witness_clauses.specs.Laws.{ObligationsAreFormulas}
use Rattle.witness_clauses.proofs.Fitting.{more_clauses, start_within, next_within, step_within, own_within}

module _ (n : ℕ) where
  abbrev Names : ℕ → Type 0
  Names l = l / 2 ≤ n

  names : (l : ℕ) → AtMost n l → Names l
  names l h =
      let e : l ≤ 2 * n + 1 = h in
      let d : 2 * (l / 2) + l % 2 ≡ l = div-add-mod l 2 in
      let r : l % 2 < 2 = mod-lt l (omega arith) in
      omega arith

  placed_names : (l : ℕ) (ms : List ℕ) → Names l → All Names ms → All Names (placed l ms)
  placed_names l [] here each = All-cons Names l [] here (All-nil Names)
  placed_names l (m ∷ ms) here each =
      cond_both (nat_eq l m) (m ∷ ms) (cond (nat_lt l m) (l ∷ m ∷ ms) (m ∷ placed l ms)) (All Names) (λ _. each)
      (λ _. cond_both (nat_lt l m) (l ∷ m ∷ ms) (m ∷ placed l ms) (All Names) (λ _. All-cons Names l (m ∷ ms) here each)
      (λ _. All-cons Names m (placed l ms) (All-head Names m ms each) (placed_names l ms here (All-tail Names m ms each))))

  rising_names : (lits : List ℕ) → All (AtMost n) lits → All Names (rising lits)
  rising_names [] each = All-nil Names
  rising_names (zero ∷ lits) each = rising_names lits (All-tail (AtMost n) zero lits each)
  rising_names (suc l ∷ lits) each =
      placed_names (suc l) (rising lits) (names (suc l) (All-head (AtMost n) (suc l) lits each)) (rising_names lits (All-tail (AtMost n) (suc l) lits each))

  made_within : (lits : List ℕ) → All (AtMost n) lits → All (IsWithinVariables n) (made lits)
  made_within lits each =
      cond_both (is_valid lits) [] (map literal_of (rising lits) ∷ []) (All (IsWithinVariables n)) (λ _. All-nil (IsWithinVariables n))
      (λ _. All-cons (IsWithinVariables n) (map literal_of (rising lits)) [] (All-map (λ (l : Literal). l.var ≤ n) literal_of (rising lits) (rising_names lits each))
      (All-nil (IsWithinVariables n)))

  base_within : (clauses : List (List ℕ)) → All (All (AtMost n)) clauses → All (IsWithinVariables n) (base_clauses clauses)
  base_within [] each = All-nil (IsWithinVariables n)
  base_within (lits ∷ clauses) each =
      All-append (IsWithinVariables n) (made lits) (base_clauses clauses) (made_within lits (All-head (All (AtMost n)) lits clauses each))
      (base_within clauses (All-tail (All (AtMost n)) lits clauses each))

module _ (x : Claim) (circuit : IsCircuit x.circuit) (list : IsNodeList x.nodes) (fits : IsWitnessFor x) where
  abbrev F : ℕ
  F = frame_size x

  at_start_within : All (All (AtMost F)) (at_start x)
  at_start_within = All-append (All (AtMost F)) (frame x) (start x) (frame_within x circuit list fits) (start_within x circuit list fits)

  in_step_within : All (All (AtMost (2 * F))) (in_step x)
  in_step_within =
      All-append (All (AtMost (2 * F))) (frame x ++ next_frame x) (step x)
      (All-append (All (AtMost (2 * F))) (frame x) (next_frame x) (more_clauses F (2 * F) (omega arith) (frame x) (frame_within x circuit list fits)) (next_within x circuit list fits))
      (step_within x circuit list fits)

  shared_within : (o : Obligation) → All (All (AtMost (variables_of x o))) (shared x o)
  shared_within Base = at_start_within
  shared_within Keep = in_step_within
  shared_within Cover = at_start_within
  shared_within (Enter n) = at_start_within
  shared_within (Stay n) = in_step_within
  shared_within (Fall n) = let more : 2 * F ≤ variables_of x (Fall n) = omega arith in more_clauses (2 * F) (variables_of x (Fall n)) more (in_step x) in_step_within

  few_variables : F ≤ 2 ^ 28 → (o : Obligation) → IsObligationOf x.witness o → variables_of x o ≤ 2 ^ 30
  few_variables few Base is = omega arith
  few_variables few Keep is = omega arith
  few_variables few Cover is = omega arith
  few_variables few (Enter n) is = omega arith
  few_variables few (Stay n) is = omega arith
  few_variables few (Fall n) is =
      let part : IsPartFor x (part_at x n) = fits.parts n (record { start = 0; inv = 0; rank = []; index = [] }) is in
      let bits : length (part_at x n).rank ≤ 64 = part.rank_bits in
      omega arith

  an_obligation : F ≤ 2 ^ 28 → (o : Obligation) → IsObligationOf x.witness o → IsFormula (variables_of x o) (clauses_of x o)
  an_obligation few o is = (
    few_variables few o is,
    base_within (variables_of x o) (shared x o ++ own x o)
        (All-append (All (AtMost (variables_of x o))) (shared x o) (own x o) (shared_within o) (own_within x circuit list fits o is)),
  )

pub all_are_formulas : ObligationsAreFormulas
all_are_formulas x countable fits o is = an_obligation x countable.circuit countable.list fits countable.small o is
