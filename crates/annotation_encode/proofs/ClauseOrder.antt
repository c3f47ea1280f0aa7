-- The literals of each base clause stand by rising variable, and none passes the number of variables.
use Rattle.std.proofs.Common.{subst, ◌≡◌, ℕ, zero, suc, ◌+◌, ◌-◌, ◌*◌, ◌<◌, ◌≤◌, Bool, true, false, not, ◌&&◌, List, [], ◌∷◌, ◌++◌, get_or, refl, sym, ap, ◌∙◌, arith, cond, inl, inr}
use Rattle.std.specs.Prelude.{nat_le, nat_lt, count_by}
use Rattle.std.proofs.lemmas.Bool.{cases_eq, cases_lt, eq-eqb, leb-true}
use Rattle.std.proofs.lemmas.Bool.Decides.{Decides-ltb}
use Rattle.std.proofs.Math.Nat.{mul-le-mul_right}
use Rattle.letters_and_lassos.specs.Signals.{has}
use Rattle.letters_and_lassos.specs.declared.cubes.Cube.{Cube}
use Rattle.machine_model.specs.Automaton.{IsAutomaton, JoinsStates, rejects, states_of}
use Rattle.machine_model.specs.Problem.{IsProblem, automaton_of, counts_locally, writes_of}
use Rattle.machine_model.specs.declared.automata.Edge.{Edge}
use Rattle.machine_model.specs.declared.problems.Problem.{Problem}
use Rattle.machine_model.specs.Components.{local_count}
use Rattle.product_bound.specs.Annotation.{bound_at, leaves, number_after, rejecting_count, rise_at, start_number}
use Rattle.std.proofs.lemmas.List.Sums.{sum_by-cons}
use Rattle.annotation_encode.specs.BaseClauses.{chain_clause, count_literals, each_below, in_order, is, is_idle, isnt, order_clause, row_clause, row_count, row_move, start_clause, step_clause, step_count, write_literal, write_literals, written_signal}
use Rattle.annotation_encode.specs.Variables.{letter_count, move_count, var_count, var_move, var_write, variables_of, write_count, write_place}
use Rattle.annotation_encode.proofs.Counted.{after_stays, stays, step_within}
use Rattle.annotation_encode.proofs.Rising.{Rises, Rises-append, Rises-each_below, Rises-none, Rises-one, Rises-pair, Rises-wider}
use Rattle.annotation_encode.proofs.Sizes.{count_within, move_within, place_below, row_end, same_count, writes_within}

-- a row's moves
pub row_within : (p : Problem) (place to : ℕ) → place < row_count p → to < p.size → row_move p place to ≤ move_count p
row_within p place to hp hto =
    let b : place * p.size + to < row_count p * p.size = place_below place p.size to (row_count p) hp hto in
    omega (arith, b)

pub row-rises : (p : Problem) (place : ℕ) → place < row_count p → Rises 0 (variables_of p) (row_clause p place)
row-rises p place h =
    let each : Rises (place * p.size + 0) (place * p.size + p.size) (row_clause p place)
    = Rises-each_below p.size (λ to. is (row_move p place to) ∷ []) (λ k. place * p.size + k) (λ k less. omega arith)
    (λ k less. Rises-one (place * p.size + k) (place * p.size + (k + 1)) (is (row_move p place k)) (omega arith) (omega arith)) in
    let end : place * p.size + p.size ≤ row_count p * p.size = row_end place p.size (row_count p) h in
    Rises-wider (place * p.size + 0) 0 (place * p.size + p.size) (variables_of p) (row_clause p place) (omega arith) (omega (arith, end)) each

-- a rise is within the bound
counted : (xs : List Bool) (q : ℕ) → get_or xs q false ≡ true → 1 ≤ count_by (λ x. x) xs
counted [] q e = absurd (let no : false ≡ true = e in cc)
counted (x ∷ xs) zero e =
    let step : count_by (λ is. is) (x ∷ xs) ≡ cond x 1 0 + count_by (λ is. is) xs = sum_by-cons (λ is. cond is 1 0) x xs in
    let value : Bool → ℕ = λ b. cond b 1 0 in
    let one : value x ≡ 1 = ap value e in
    omega (arith, step, one)
counted (x ∷ xs) (suc q) e =
    let step : count_by (λ is. is) (x ∷ xs) ≡ cond x 1 0 + count_by (λ is. is) xs = sum_by-cons (λ is. cond is 1 0) x xs in
    let rest : 1 ≤ count_by (λ is. is) xs = counted xs q e in
    omega (arith, step, rest)

pub start_small : (p : Problem) → IsProblem p → start_number p ≤ bound_at p 0
start_small p problem = by_version (counts_locally p)
  where
    by_rise : (b : Bool) → rejects (automaton_of p) 0 ≡ b → cond b 1 0 ≤ p.size * rejecting_count (automaton_of p)
    by_rise false e = omega arith
    by_rise true e =
        let some : 1 ≤ rejecting_count (automaton_of p) = counted (automaton_of p).rejecting 0 e in
        let size : 1 ≤ p.size = problem.some in
        let more : 1 * rejecting_count (automaton_of p) ≤ p.size * rejecting_count (automaton_of p) = mul-le-mul_right (rejecting_count (automaton_of p)) size in
        omega (arith, some, more)

    by_version : (b : Bool) → cond b 0 (rise_at (automaton_of p) 0) ≤ p.size * cond b (local_count (automaton_of p) 0) (rejecting_count (automaton_of p))
    by_version true = omega arith
    by_version false = by_rise (rejects (automaton_of p) 0) refl

pub start-rises : (p : Problem) → IsProblem p → IsAutomaton (automaton_of p) → Rises 0 (variables_of p) (start_clause p)
start-rises p problem made =
    let b : var_count p 0 0 (start_number p) ≤ variables_of p = count_within p 0 0 (start_number p) problem.some made.some (start_small p problem) in
    Rises-one 0 (variables_of p) (is (var_count p 0 0 (start_number p))) (omega arith) b

-- what is written
write-rises : (p : Problem) (cube : Cube) (t i s : ℕ)
    → Rises (move_count p + write_place p.kind (letter_count p) t i * writes_of p + s) (move_count p + write_place p.kind (letter_count p) t i * writes_of p + (s + 1)) (write_literal p cube t i s)
write-rises p cube t i s = go (has cube.must (written_signal p s)) (has cube.not (written_signal p s))
  where
    go : (must none : Bool) → Rises (move_count p + write_place p.kind (letter_count p) t i * writes_of p + s) (move_count p + write_place p.kind (letter_count p) t i * writes_of p + (s + 1))
        (cond must (isnt (var_write p t i s) ∷ []) (cond none (is (var_write p t i s) ∷ []) []))
    go true none = Rises-one _ _ (isnt (var_write p t i s)) (omega arith) (omega arith)
    go false true = Rises-one _ _ (is (var_write p t i s)) (omega arith) (omega arith)
    go false false = Rises-none _ _

pub writes-rises : (p : Problem) (cube : Cube) (t i : ℕ) → t < p.size → i < letter_count p → Rises (move_count p) (move_count p + write_count p) (write_literals p cube t i)
writes-rises p cube t i ht hi =
    let first : ℕ = move_count p + write_place p.kind (letter_count p) t i * writes_of p in
    let each : Rises (move_count p + write_place p.kind (letter_count p) t i * writes_of p + 0) (move_count p + write_place p.kind (letter_count p) t i * writes_of p + writes_of p) (write_literals p cube t i)
    = Rises-each_below (writes_of p) (λ s. write_literal p cube t i s) (λ s. move_count p + write_place p.kind (letter_count p) t i * writes_of p + s) (λ k less. omega arith) (λ k less. write-rises p cube t i k) in
    let end : write_place p.kind (letter_count p) t i * writes_of p + writes_of p ≤ write_count p = writes_within p t i ht hi in
    Rises-wider _ (move_count p) _ (move_count p + write_count p) (write_literals p cube t i) (omega arith) (omega (arith, end)) each

-- the two numbers of a step
idle : (p : Problem) (e : Edge) (t to c : ℕ) → t ≡ to → e.from ≡ e.to → c ≡ c + rise_at (automaton_of p) e.to → is_idle p e t to ≡ true
idle p e t to c same_t same_q still =
    let calm : rejects (automaton_of p) e.to ≡ false = go (rejects (automaton_of p) e.to) still in
    λ i. eq-eqb t to same_t i && (eq-eqb e.from e.to same_q i && not (calm i))
  where
    go : (b : Bool) → c ≡ c + cond b 1 0 → b ≡ false
    go true h = absurd (let no : c ≡ c + 1 = h in omega arith)
    go false h = refl

pub counts-rises : (p : Problem) (e : Edge) (t to c : ℕ) → JoinsStates (states_of (automaton_of p)) e → t < p.size → to < p.size → c ≤ bound_at p e.from
    → is_idle p e t to ≡ false → Rises (move_count p + write_count p) (variables_of p) (count_literals p e t to c)
counts-rises p e t to c joins ht hto hc busy = by_bound (nat_le (number_after p e.from e.to c) (bound_at p e.to)) refl
  where
    still : e.from ≡ e.to → c ≡ number_after p e.from e.to c → c ≡ c + rise_at (automaton_of p) e.to
    still same is = is ∙ after_stays p e.from e.to c (subst (λ r. leaves p e.from r ≡ false) same (stays p e.from))

    by_order : (after : ℕ) → after ≡ number_after p e.from e.to c → after ≤ bound_at p e.to → (less : Bool) → nat_lt (var_count p t e.from c) (var_count p to e.to after) ≡ less
        → Rises (move_count p + write_count p) (variables_of p) (cond less (isnt (var_count p t e.from c) ∷ is (var_count p to e.to after) ∷ []) (is (var_count p to e.to after) ∷ isnt (var_count p t e.from c) ∷ []))
    by_order after is_after small true h =
        let order : var_count p t e.from c < var_count p to e.to after = (Decides-ltb (var_count p t e.from c) (var_count p to e.to after)).0 h in
        let end : var_count p to e.to after ≤ variables_of p = count_within p to e.to after hto joins.to small in
        Rises-pair (move_count p + write_count p) (variables_of p) (isnt (var_count p t e.from c)) (is (var_count p to e.to after)) (omega arith) order end
    by_order after is_after small false h =
        elim (cases_lt (var_count p t e.from c) (var_count p to e.to after)) [
          | inl less ↦ absurd (let yes' : true ≡ false = sym ((Decides-ltb (var_count p t e.from c) (var_count p to e.to after)).1 less) ∙ h in cc)
          | inr ge ↦ elim (cases_eq (var_count p t e.from c) (var_count p to e.to after)) [
            | inl same ↦
                let parts : (t ≡ to) × (e.from ≡ e.to) × (c ≡ after) = same_count p t e.from c to e.to after joins.from hc joins.to small same in
                absurd (let calm : is_idle p e t to ≡ true = idle p e t to c parts.0 parts.1 (still parts.1 (parts.2 ∙ is_after)) in let no : true ≡ false = sym calm ∙ busy in cc)
            | inr ne ↦
                let end : var_count p t e.from c ≤ variables_of p = count_within p t e.from c ht joins.from hc in
                Rises-pair (move_count p + write_count p) (variables_of p) (is (var_count p to e.to after)) (isnt (var_count p t e.from c)) (omega arith) (omega (arith, ge, ne)) end
          ]
        ]

    by_bound : (fits : Bool) → nat_le (number_after p e.from e.to c) (bound_at p e.to) ≡ fits
        → Rises (move_count p + write_count p) (variables_of p)
        (cond fits (in_order (isnt (var_count p t e.from c)) (is (var_count p to e.to (number_after p e.from e.to c)))) (isnt (var_count p t e.from c) ∷ []))
    by_bound true h =
        by_order (number_after p e.from e.to c) refl (leb-true (number_after p e.from e.to c) (bound_at p e.to) h)
        (nat_lt (var_count p t e.from c) (var_count p to e.to (number_after p e.from e.to c))) refl
    by_bound false h =
        let end : var_count p t e.from c ≤ variables_of p = count_within p t e.from c ht joins.from hc in
        Rises-one (move_count p + write_count p) (variables_of p) (isnt (var_count p t e.from c)) (omega arith) end

pub step-rises : (p : Problem) (e : Edge) (t i to c : ℕ) → JoinsStates (states_of (automaton_of p)) e → t < p.size → i < letter_count p → to < p.size → c < step_count p e
    → is_idle p e t to ≡ false → Rises 0 (variables_of p) (step_clause p e t i to c)
step-rises p e t i to c joins ht hi hto hc busy =
    let m : var_move p t i to ≤ move_count p = move_within p t i to ht hi hto in
    Rises-append 0 (move_count p) (variables_of p) (isnt (var_move p t i to) ∷ []) (write_literals p e.cube t i ++ count_literals p e t to c) (omega arith) (omega arith)
    (Rises-one 0 (move_count p) (isnt (var_move p t i to)) (omega arith) m)
    (Rises-append (move_count p) (move_count p + write_count p) (variables_of p) (write_literals p e.cube t i) (count_literals p e t to c) (omega arith) (omega arith)
    (writes-rises p e.cube t i ht hi)
    (counts-rises p e t to c joins ht hto (step_within p e c hc) busy))

-- the chains of numbers
pub chain-rises : (p : Problem) (t q c : ℕ) → t < p.size → q < states_of (automaton_of p) → c < bound_at p q → Rises 0 (variables_of p) (chain_clause p t q c)
chain-rises p t q c ht hq hc =
    let end : var_count p t q (suc c) ≤ variables_of p = count_within p t q (suc c) ht hq (omega (arith, hc)) in
    Rises-pair 0 (variables_of p) (is (var_count p t q c)) (isnt (var_count p t q (suc c))) (omega arith) (omega arith) end

-- the order of states
pub order-rises : (p : Problem) (place to : ℕ) → place < row_count p → 2 ≤ to → to < p.size → Rises 0 (variables_of p) (order_clause p place to)
order-rises p place to hp two hto =
    let before : Rises (0 * p.size) (place * p.size) (each_below place (λ k. is (row_move p k (to - 1)) ∷ []))
    = Rises-each_below place (λ k. is (row_move p k (to - 1)) ∷ []) (λ k. k * p.size) (λ k less. let e : (k + 1) * p.size ≡ k * p.size + p.size = omega arith in omega (arith, e))
    (λ k less. let e : (k + 1) * p.size ≡ k * p.size + p.size = omega arith in Rises-one (k * p.size) ((k + 1) * p.size) (is (row_move p k (to - 1))) (omega arith) (omega (arith, e))) in
    let last : row_move p place to ≤ move_count p = row_within p place to hp hto in
    let zero_is : 0 * p.size ≡ 0 = omega arith in
    Rises-append 0 (place * p.size) (variables_of p) (each_below place (λ k. is (row_move p k (to - 1)) ∷ [])) (isnt (row_move p place to) ∷ []) (omega arith) (omega (arith, last))
    (Rises-wider (0 * p.size) 0 (place * p.size) (place * p.size) (each_below place (λ k. is (row_move p k (to - 1)) ∷ [])) (omega arith) (omega arith) before)
    (Rises-one (place * p.size) (variables_of p) (isnt (row_move p place to)) (omega arith) (omega (arith, last)))
