-- The literals of each base clause stand by rising variable, and none passes the number of variables.
use Rattle.std.proofs.Common.{subst, ◌≡◌, ℕ, suc, ◌+◌, ◌-◌, ◌*◌, ◌<◌, ◌≤◌, Bool, true, false, not, ◌&&◌, List, [], ◌∷◌, ◌++◌, length, refl, sym, ◌∙◌, arith, cond, inl, inr}
use Rattle.std.specs.Prelude.{nat_le, nat_lt}
use Rattle.std.proofs.lemmas.Bool.{cases_eq, cases_lt, cond-true, eq-eqb, leb-true}
use Rattle.std.proofs.lemmas.Bool.Decides.{Decides-ltb}
use Rattle.letters_and_lassos.specs.Signals.{has}
use Rattle.letters_and_lassos.specs.declared.cubes.Cube.{Cube}
use Rattle.machine_model.specs.Automaton.{IsAutomaton, JoinsStates, rejects, states_of}
use Rattle.machine_model.specs.Problem.{automaton_of, writes_of, counts_locally}
use Rattle.machine_model.specs.declared.automata.Edge.{Edge}
use Rattle.machine_model.specs.declared.problems.Problem.{Problem}
use Rattle.product_bound.specs.Annotation.{bound_at, leaves, number_after, rise_at, start_number}
use Rattle.annotation_encode.specs.BaseClauses.{each_below, in_order, is, is_idle, isnt, order_clause, row_clause, row_move, step_count, written_signal}
use Rattle.annotation_encode.specs.Variables.{write_place}
use Rattle.annotation_encode.proofs.Counted.{after_stays, stays, step_within}
use Rattle.annotation_encode.proofs.Rising.{Rises, Rises-append, Rises-each_below, Rises-none, Rises-one, Rises-pair, Rises-wider}
use Rattle.annotation_encode.proofs.Sizes.{row_end}
use Rattle.letter_clauses.specs.BaseClauses.{chain_clause, count_literals, start_clause, step_clause, write_literal, write_literals}
use Rattle.letter_clauses.specs.Letters.{IsLetterProblem}
use Rattle.letter_clauses.specs.Variables.{move_count, row_count, var_count, var_move, var_write, variables_of, write_count}
use Rattle.letter_clauses.proofs.Within.{count_within, move_within, row_within, same_count, writes_within}

module _ (p : Problem) (letters : List ℕ) where
  pub row-rises : (place : ℕ) → place < row_count p letters → Rises 0 (variables_of p letters) (row_clause p place)
  row-rises place h =
      let each : Rises (place * p.size + 0) (place * p.size + p.size) (row_clause p place)
      = Rises-each_below p.size (λ to. is (row_move p place to) ∷ []) (λ k. place * p.size + k) (λ k less. omega arith)
      (λ k less. Rises-one (place * p.size + k) (place * p.size + (k + 1)) (is (row_move p place k)) (omega arith) (omega arith)) in
      let end : place * p.size + p.size ≤ row_count p letters * p.size = row_end place p.size (row_count p letters) h in
      Rises-wider (place * p.size + 0) 0 (place * p.size + p.size) (variables_of p letters) (row_clause p place) (omega arith) (omega (arith, end)) each

  -- numbers begin at 0
  pub start_none : counts_locally p ≡ true → start_number p ≡ 0
  start_none local = cond-true (counts_locally p) 0 (rise_at (automaton_of p) 0) local

  pub start_small : IsLetterProblem p letters → start_number p ≤ bound_at p 0
  start_small problem = let none : start_number p ≡ 0 = start_none problem.local in omega (arith, none)

  pub start-rises : IsLetterProblem p letters → IsAutomaton (automaton_of p) → Rises 0 (variables_of p letters) (start_clause p letters)
  start-rises problem made =
      let b : var_count p letters 0 0 (start_number p) ≤ variables_of p letters = count_within p letters 0 0 (start_number p) problem.within.some made.some (start_small problem) in
      Rises-one 0 (variables_of p letters) (is (var_count p letters 0 0 (start_number p))) (omega arith) b

  -- what is written
  write-rises : (cube : Cube) (t k s : ℕ)
      → Rises (move_count p letters + write_place p.kind (length letters) t k * writes_of p + s) (move_count p letters + write_place p.kind (length letters) t k * writes_of p + (s + 1)) (write_literal p letters cube t k s)
  write-rises cube t k s = go (has cube.must (written_signal p s)) (has cube.not (written_signal p s))
    where
      go : (must none : Bool)
          → Rises (move_count p letters + write_place p.kind (length letters) t k * writes_of p + s) (move_count p letters + write_place p.kind (length letters) t k * writes_of p + (s + 1))
          (cond must (isnt (var_write p letters t k s) ∷ []) (cond none (is (var_write p letters t k s) ∷ []) []))
      go true none = Rises-one _ _ (isnt (var_write p letters t k s)) (omega arith) (omega arith)
      go false true = Rises-one _ _ (is (var_write p letters t k s)) (omega arith) (omega arith)
      go false false = Rises-none _ _

  pub writes-rises : (cube : Cube) (t k : ℕ) → t < p.size → k < length letters → Rises (move_count p letters) (move_count p letters + write_count p letters) (write_literals p letters cube t k)
  writes-rises cube t k ht hk =
      let each : Rises (move_count p letters + write_place p.kind (length letters) t k * writes_of p + 0) (move_count p letters + write_place p.kind (length letters) t k * writes_of p + writes_of p) (write_literals p letters cube t k)
      = Rises-each_below (writes_of p) (λ s. write_literal p letters cube t k s) (λ s. move_count p letters + write_place p.kind (length letters) t k * writes_of p + s) (λ s less. omega arith) (λ s less. write-rises cube t k s) in
      let end : write_place p.kind (length letters) t k * writes_of p + writes_of p ≤ write_count p letters = writes_within p letters t k ht hk in
      Rises-wider _ (move_count p letters) _ (move_count p letters + write_count p letters) (write_literals p letters cube t k) (omega arith) (omega (arith, end)) each

  -- the two numbers of a step
  idle : (e : Edge) (t to c : ℕ) → t ≡ to → e.from ≡ e.to → c ≡ c + rise_at (automaton_of p) e.to → is_idle p e t to ≡ true
  idle e t to c same_t same_q still =
      let calm : rejects (automaton_of p) e.to ≡ false = go (rejects (automaton_of p) e.to) still in
      λ i. eq-eqb t to same_t i && (eq-eqb e.from e.to same_q i && not (calm i))
    where
      go : (b : Bool) → c ≡ c + cond b 1 0 → b ≡ false
      go true h = absurd (let no : c ≡ c + 1 = h in omega arith)
      go false h = refl

  pub counts-rises : (e : Edge) (t to c : ℕ) → JoinsStates (states_of (automaton_of p)) e → t < p.size → to < p.size → c ≤ bound_at p e.from
      → is_idle p e t to ≡ false → Rises (move_count p letters + write_count p letters) (variables_of p letters) (count_literals p letters e t to c)
  counts-rises e t to c joins ht hto hc busy = by_bound (nat_le (number_after p e.from e.to c) (bound_at p e.to)) refl
    where
      still : e.from ≡ e.to → c ≡ number_after p e.from e.to c → c ≡ c + rise_at (automaton_of p) e.to
      still same is = is ∙ after_stays p e.from e.to c (subst (λ r. leaves p e.from r ≡ false) same (stays p e.from))

      by_order : (after : ℕ) → after ≡ number_after p e.from e.to c → after ≤ bound_at p e.to → (less : Bool) → nat_lt (var_count p letters t e.from c) (var_count p letters to e.to after) ≡ less
          → Rises (move_count p letters + write_count p letters) (variables_of p letters)
          (cond less (isnt (var_count p letters t e.from c) ∷ is (var_count p letters to e.to after) ∷ []) (is (var_count p letters to e.to after) ∷ isnt (var_count p letters t e.from c) ∷ []))
      by_order after is_after small true h =
          let order : var_count p letters t e.from c < var_count p letters to e.to after = (Decides-ltb (var_count p letters t e.from c) (var_count p letters to e.to after)).0 h in
          let end : var_count p letters to e.to after ≤ variables_of p letters = count_within p letters to e.to after hto joins.to small in
          Rises-pair (move_count p letters + write_count p letters) (variables_of p letters) (isnt (var_count p letters t e.from c)) (is (var_count p letters to e.to after)) (omega arith) order end
      by_order after is_after small false h =
          elim (cases_lt (var_count p letters t e.from c) (var_count p letters to e.to after)) [
            | inl less ↦ absurd (let yes' : true ≡ false = sym ((Decides-ltb (var_count p letters t e.from c) (var_count p letters to e.to after)).1 less) ∙ h in cc)
            | inr ge ↦ elim (cases_eq (var_count p letters t e.from c) (var_count p letters to e.to after)) [
              | inl same ↦
                  let parts : (t ≡ to) × (e.from ≡ e.to) × (c ≡ after) = same_count p letters t e.from c to e.to after joins.from hc joins.to small same in
                  absurd (let calm : is_idle p e t to ≡ true = idle e t to c parts.0 parts.1 (still parts.1 (parts.2 ∙ is_after)) in let no : true ≡ false = sym calm ∙ busy in cc)
              | inr ne ↦
                  let end : var_count p letters t e.from c ≤ variables_of p letters = count_within p letters t e.from c ht joins.from hc in
                  Rises-pair (move_count p letters + write_count p letters) (variables_of p letters) (is (var_count p letters to e.to after)) (isnt (var_count p letters t e.from c)) (omega arith) (omega (arith, ge, ne)) end
            ]
          ]

      by_bound : (fits : Bool) → nat_le (number_after p e.from e.to c) (bound_at p e.to) ≡ fits
          → Rises (move_count p letters + write_count p letters) (variables_of p letters)
          (cond fits (in_order (isnt (var_count p letters t e.from c)) (is (var_count p letters to e.to (number_after p e.from e.to c)))) (isnt (var_count p letters t e.from c) ∷ []))
      by_bound true h =
          by_order (number_after p e.from e.to c) refl (leb-true (number_after p e.from e.to c) (bound_at p e.to) h)
          (nat_lt (var_count p letters t e.from c) (var_count p letters to e.to (number_after p e.from e.to c))) refl
      by_bound false h =
          let end : var_count p letters t e.from c ≤ variables_of p letters = count_within p letters t e.from c ht joins.from hc in
          Rises-one (move_count p letters + write_count p letters) (variables_of p letters) (isnt (var_count p letters t e.from c)) (omega arith) end

  pub step-rises : (e : Edge) (t k to c : ℕ) → JoinsStates (states_of (automaton_of p)) e → t < p.size → k < length letters → to < p.size → c < step_count p e
      → is_idle p e t to ≡ false → Rises 0 (variables_of p letters) (step_clause p letters e t k to c)
  step-rises e t k to c joins ht hk hto hc busy =
      let m : var_move p letters t k to ≤ move_count p letters = move_within p letters t k to ht hk hto in
      Rises-append 0 (move_count p letters) (variables_of p letters) (isnt (var_move p letters t k to) ∷ []) (write_literals p letters e.cube t k ++ count_literals p letters e t to c) (omega arith) (omega arith)
      (Rises-one 0 (move_count p letters) (isnt (var_move p letters t k to)) (omega arith) m)
      (Rises-append (move_count p letters) (move_count p letters + write_count p letters) (variables_of p letters) (write_literals p letters e.cube t k) (count_literals p letters e t to c) (omega arith) (omega arith)
      (writes-rises e.cube t k ht hk)
      (counts-rises e t to c joins ht hto (step_within p e c hc) busy))

  -- the chains of numbers
  pub chain-rises : (t q c : ℕ) → t < p.size → q < states_of (automaton_of p) → c < bound_at p q → Rises 0 (variables_of p letters) (chain_clause p letters t q c)
  chain-rises t q c ht hq hc =
      let end : var_count p letters t q (suc c) ≤ variables_of p letters = count_within p letters t q (suc c) ht hq (omega (arith, hc)) in
      Rises-pair 0 (variables_of p letters) (is (var_count p letters t q c)) (isnt (var_count p letters t q (suc c))) (omega arith) (omega arith) end

  -- the order of states
  pub order-rises : (place to : ℕ) → place < row_count p letters → 2 ≤ to → to < p.size → Rises 0 (variables_of p letters) (order_clause p place to)
  order-rises place to hp two hto =
      let before : Rises (0 * p.size) (place * p.size) (each_below place (λ k. is (row_move p k (to - 1)) ∷ []))
      = Rises-each_below place (λ k. is (row_move p k (to - 1)) ∷ []) (λ k. k * p.size) (λ k less. let e : (k + 1) * p.size ≡ k * p.size + p.size = omega arith in omega (arith, e))
      (λ k less. let e : (k + 1) * p.size ≡ k * p.size + p.size = omega arith in Rises-one (k * p.size) ((k + 1) * p.size) (is (row_move p k (to - 1))) (omega arith) (omega (arith, e))) in
      let last : row_move p place to ≤ move_count p letters = row_within p letters place to hp hto in
      let zero_is : 0 * p.size ≡ 0 = omega arith in
      Rises-append 0 (place * p.size) (variables_of p letters) (each_below place (λ k. is (row_move p k (to - 1)) ∷ [])) (isnt (row_move p place to) ∷ []) (omega arith) (omega (arith, last))
      (Rises-wider (0 * p.size) 0 (place * p.size) (place * p.size) (each_below place (λ k. is (row_move p k (to - 1)) ∷ [])) (omega arith) (omega arith) before)
      (Rises-one (place * p.size) (variables_of p letters) (isnt (row_move p place to)) (omega arith) (omega (arith, last)))
