-- What holds of each kind of base clause holds of all, and the other way round.
use Rattle.std.proofs.Common.{◌≡◌, ℕ, ◌+◌, ◌-◌, ◌<◌, ◌≤◌, Bool, true, false, List, [], ◌∷◌, ◌++◌, refl, sym, ap, ◌∙◌, subst, arith, cond}
use Rattle.std.specs.Prelude.{All, Contains}
use Rattle.std.specs.List.{flat_map}
use Rattle.std.proofs.lemmas.List.{append_assoc}
use Rattle.std.proofs.lemmas.List.Elements.{All-append, All-cons, All-contains, All-nil, Contains-append_left, Contains-append_right}
use Rattle.std.proofs.lemmas.Bool.{cond-true, cond-false}
use Rattle.propositional_logic.proofs.Members.{Contains-head, Contains-later}
use Rattle.propositional_logic.specs.Literal.{Literal}
use Rattle.propositional_logic.specs.Clause.{IsWithinVariables}
use Rattle.machine_model.specs.Automaton.{IsAutomaton, JoinsStates, states_of}
use Rattle.machine_model.specs.Problem.{IsProblem, automaton_of, counts_locally, numbers_states}
use Rattle.machine_model.specs.declared.automata.Edge.{Edge}
use Rattle.machine_model.specs.declared.problems.Problem.{Problem}
use Rattle.product_bound.specs.Annotation.{bound_at}
use Rattle.annotation_encode.specs.BaseClauses.{base_clauses, chain_clause, chain_clauses, each_below, edge_clauses, fits_read, is_idle, letter_clauses, order_clause, order_clauses, pair_chains, row_clause, row_clauses, row_count, row_orders, start_clause, state_chains, state_clauses, step_clause, step_clauses, step_count}
use Rattle.annotation_encode.specs.Variables.{letter_count, variables_of}
use Rattle.annotation_encode.proofs.ClauseOrder.{chain-rises, order-rises, row-rises, start-rises, step-rises}
use Rattle.annotation_encode.proofs.Lists.{All-each_below, All-flat_map, in_each, in_flat_map, joined_parts}

-- what holds of each clause of a kind
pub record HoldsOfKinds (p : Problem) (P : List Literal → Type 0) : Type 0 where
  pub rows : (place : ℕ) → place < row_count p → P (row_clause p place)
  pub start : P (start_clause p)
  pub steps : (e : Edge) (t i to c : ℕ) → Contains (automaton_of p).edges e → t < p.size → i < letter_count p → fits_read p e.cube i ≡ true → to < p.size
      → is_idle p e t to ≡ false → c < step_count p e → P (step_clause p e t i to c)
  pub chains : (t q c : ℕ) → counts_locally p ≡ true → t < p.size → q < states_of (automaton_of p) → c < bound_at p q → P (chain_clause p t q c)
  pub orders : (place to : ℕ) → numbers_states p ≡ true → place < row_count p → 2 ≤ to → to < p.size → P (order_clause p place to)

module _ (p : Problem) (P : List Literal → Type 0) (kinds : HoldsOfKinds p P) where
  single : (lits : List Literal) → P lits → All P (lits ∷ [])
  single lits h = All-cons P lits [] h (All-nil P)

  all_steps : (e : Edge) (t i to : ℕ) → Contains (automaton_of p).edges e → t < p.size → i < letter_count p → fits_read p e.cube i ≡ true → to < p.size → All P (step_clauses p e t i to)
  all_steps e t i to there ht hi fits hto = go (is_idle p e t to) refl
    where
      go : (b : Bool) → is_idle p e t to ≡ b → All P (cond b [] (each_below (step_count p e) (λ c. step_clause p e t i to c ∷ [])))
      go true h = All-nil P
      go false h = All-each_below P (step_count p e) (λ c. step_clause p e t i to c ∷ []) (λ c less. single (step_clause p e t i to c) (kinds.steps e t i to c there ht hi fits hto h less))

  all_letters : (e : Edge) (t i : ℕ) → Contains (automaton_of p).edges e → t < p.size → i < letter_count p → All P (letter_clauses p e t i)
  all_letters e t i there ht hi = go (fits_read p e.cube i) refl
    where
      go : (b : Bool) → fits_read p e.cube i ≡ b → All P (cond b (each_below p.size (λ to. step_clauses p e t i to)) [])
      go true h = All-each_below P p.size (λ to. step_clauses p e t i to) (λ to less. all_steps e t i to there ht hi h less)
      go false h = All-nil P

  all_edges : (e : Edge) → Contains (automaton_of p).edges e → All P (edge_clauses p e)
  all_edges e there =
      All-each_below P p.size (λ t. state_clauses p e t) (λ t ht. All-each_below P (letter_count p) (λ i. letter_clauses p e t i) (λ i hi. all_letters e t i there ht hi))

  all_chains : All P (chain_clauses p)
  all_chains = go (counts_locally p) refl
    where
      go : (b : Bool) → counts_locally p ≡ b → All P (cond b (each_below p.size (λ t. state_chains p t)) [])
      go true h =
          All-each_below P p.size (λ t. state_chains p t) (λ t ht. All-each_below P (states_of (automaton_of p)) (λ q. pair_chains p t q)
          (λ q hq. All-each_below P (bound_at p q) (λ c. chain_clause p t q c ∷ []) (λ c hc. single (chain_clause p t q c) (kinds.chains t q c h ht hq hc))))
      go false h = All-nil P

  all_orders : All P (order_clauses p)
  all_orders = go (numbers_states p) refl
    where
      go : (b : Bool) → numbers_states p ≡ b → All P (cond b (each_below (row_count p) (λ place. row_orders p place)) [])
      go true h =
          All-each_below P (row_count p) (λ place. row_orders p place) (λ place hp. All-each_below P (p.size - 2) (λ k. order_clause p place (k + 2) ∷ [])
          (λ k less. single (order_clause p place (k + 2)) (kinds.orders place (k + 2) h hp (omega arith) (omega arith))))
      go false h = All-nil P

  pub all_base : All P (base_clauses p)
  all_base =
      All-append P (row_clauses p) (start_clause p ∷ (flat_map (edge_clauses p) (automaton_of p).edges ++ (chain_clauses p ++ order_clauses p)))
      (All-each_below P (row_count p) (λ place. row_clause p place ∷ []) (λ place h. single (row_clause p place) (kinds.rows place h)))
      (All-cons P (start_clause p) (flat_map (edge_clauses p) (automaton_of p).edges ++ (chain_clauses p ++ order_clauses p)) kinds.start
      (All-append P (flat_map (edge_clauses p) (automaton_of p).edges) (chain_clauses p ++ order_clauses p) (All-flat_map P (edge_clauses p) (automaton_of p).edges all_edges)
      (All-append P (chain_clauses p) (order_clauses p) all_chains all_orders)))

-- each clause of a kind that is a base clause
in_rows : (p : Problem) (place : ℕ) → place < row_count p → Contains (base_clauses p) (row_clause p place)
in_rows p place h =
    Contains-append_left (row_clauses p) (start_clause p ∷ (flat_map (edge_clauses p) (automaton_of p).edges ++ (chain_clauses p ++ order_clauses p))) (row_clause p place)
    (in_each (row_count p) place (λ place. row_clause p place ∷ []) (row_clause p place) h (Contains-head (row_clause p place) []))

in_start : (p : Problem) → Contains (base_clauses p) (start_clause p)
in_start p =
    Contains-append_right (row_clauses p) (start_clause p ∷ (flat_map (edge_clauses p) (automaton_of p).edges ++ (chain_clauses p ++ order_clauses p))) (start_clause p)
    (Contains-head (start_clause p) (flat_map (edge_clauses p) (automaton_of p).edges ++ (chain_clauses p ++ order_clauses p)))

in_steps : (p : Problem) (e : Edge) (t i to c : ℕ) → Contains (automaton_of p).edges e → t < p.size → i < letter_count p → fits_read p e.cube i ≡ true → to < p.size
    → is_idle p e t to ≡ false → c < step_count p e → Contains (base_clauses p) (step_clause p e t i to c)
in_steps p e t i to c there ht hi fits hto busy hc =
    let clause : List Literal = step_clause p e t i to c in
    let small : c < step_count p e = omega arith in
    let step : Contains (each_below (step_count p e) (λ c. step_clause p e t i to c ∷ [])) (step_clause p e t i to c)
    = in_each (step_count p e) c (λ c. step_clause p e t i to c ∷ []) (step_clause p e t i to c) small (Contains-head (step_clause p e t i to c) []) in
    let steps : Contains (step_clauses p e t i to) (step_clause p e t i to c)
    = subst (λ cs. Contains cs (step_clause p e t i to c)) (sym (cond-false (is_idle p e t to) [] (each_below (step_count p e) (λ c. step_clause p e t i to c ∷ [])) busy)) step in
    let letter : Contains (letter_clauses p e t i) (step_clause p e t i to c)
    = subst (λ cs. Contains cs (step_clause p e t i to c)) (sym (cond-true (fits_read p e.cube i) (each_below p.size (λ to. step_clauses p e t i to)) [] fits))
    (in_each p.size to (λ to. step_clauses p e t i to) (step_clause p e t i to c) hto steps) in
    let state : Contains (state_clauses p e t) (step_clause p e t i to c) = in_each (letter_count p) i (λ i. letter_clauses p e t i) (step_clause p e t i to c) hi letter in
    let edge : Contains (edge_clauses p e) (step_clause p e t i to c) = in_each p.size t (λ t. state_clauses p e t) (step_clause p e t i to c) ht state in
    let all : Contains (flat_map (edge_clauses p) (automaton_of p).edges) (step_clause p e t i to c) = in_flat_map (edge_clauses p) (automaton_of p).edges e (step_clause p e t i to c) there edge in
    Contains-append_right (row_clauses p) (start_clause p ∷ (flat_map (edge_clauses p) (automaton_of p).edges ++ (chain_clauses p ++ order_clauses p))) (step_clause p e t i to c)
    (Contains-later (start_clause p) (flat_map (edge_clauses p) (automaton_of p).edges ++ (chain_clauses p ++ order_clauses p)) (step_clause p e t i to c)
    (Contains-append_left (flat_map (edge_clauses p) (automaton_of p).edges) (chain_clauses p ++ order_clauses p) (step_clause p e t i to c) all))

-- clauses behind those of edges
behind_edges : (p : Problem) (lits : List Literal) → Contains (chain_clauses p ++ order_clauses p) lits → Contains (base_clauses p) lits
behind_edges p lits there =
    Contains-append_right (row_clauses p) (start_clause p ∷ (flat_map (edge_clauses p) (automaton_of p).edges ++ (chain_clauses p ++ order_clauses p))) lits
    (Contains-later (start_clause p) (flat_map (edge_clauses p) (automaton_of p).edges ++ (chain_clauses p ++ order_clauses p)) lits
    (Contains-append_right (flat_map (edge_clauses p) (automaton_of p).edges) (chain_clauses p ++ order_clauses p) lits there))

in_chains : (p : Problem) (t q c : ℕ) → counts_locally p ≡ true → t < p.size → q < states_of (automaton_of p) → c < bound_at p q → Contains (base_clauses p) (chain_clause p t q c)
in_chains p t q c local ht hq hc =
    let pair : Contains (pair_chains p t q) (chain_clause p t q c) = in_each (bound_at p q) c (λ c. chain_clause p t q c ∷ []) (chain_clause p t q c) hc (Contains-head (chain_clause p t q c) []) in
    let state : Contains (state_chains p t) (chain_clause p t q c) = in_each (states_of (automaton_of p)) q (λ q. pair_chains p t q) (chain_clause p t q c) hq pair in
    let all : Contains (chain_clauses p) (chain_clause p t q c)
    = subst (λ cs. Contains cs (chain_clause p t q c)) (sym (cond-true (counts_locally p) (each_below p.size (λ t. state_chains p t)) [] local))
    (in_each p.size t (λ t. state_chains p t) (chain_clause p t q c) ht state) in
    behind_edges p (chain_clause p t q c) (Contains-append_left (chain_clauses p) (order_clauses p) (chain_clause p t q c) all)

in_orders : (p : Problem) (place to : ℕ) → numbers_states p ≡ true → place < row_count p → 2 ≤ to → to < p.size → Contains (base_clauses p) (order_clause p place to)
in_orders p place to numbered hp least hto =
    let back : (to - 2) + 2 ≡ to = omega arith in
    let row : Contains (row_orders p place) (order_clause p place to)
    = subst (λ k. Contains (row_orders p place) (order_clause p place k)) back
    (in_each (p.size - 2) (to - 2) (λ k. order_clause p place (k + 2) ∷ []) (order_clause p place ((to - 2) + 2)) (omega arith) (Contains-head (order_clause p place ((to - 2) + 2)) [])) in
    let all : Contains (order_clauses p) (order_clause p place to)
    = subst (λ cs. Contains cs (order_clause p place to)) (sym (cond-true (numbers_states p) (each_below (row_count p) (λ place. row_orders p place)) [] numbered))
    (in_each (row_count p) place (λ place. row_orders p place) (order_clause p place to) hp row) in
    behind_edges p (order_clause p place to) (Contains-append_right (chain_clauses p) (order_clauses p) (order_clause p place to) all)

pub kinds_hold : (p : Problem) (P : List Literal → Type 0) → All P (base_clauses p) → HoldsOfKinds p P
kinds_hold p P all = record {
  rows = λ place h. All-contains P (base_clauses p) (row_clause p place) all (in_rows p place h);
  start = All-contains P (base_clauses p) (start_clause p) all (in_start p);
  steps = λ e t i to c there ht hi fits hto busy hc. All-contains P (base_clauses p) (step_clause p e t i to c) all (in_steps p e t i to c there ht hi fits hto busy hc);
  chains = λ t q c local ht hq hc. All-contains P (base_clauses p) (chain_clause p t q c) all (in_chains p t q c local ht hq hc);
  orders = λ place to numbered hp least hto. All-contains P (base_clauses p) (order_clause p place to) all (in_orders p place to numbered hp least hto);
}

-- no variable passes the number of variables
pub base_within : (p : Problem) → IsProblem p → IsAutomaton (automaton_of p) → All (IsWithinVariables (variables_of p)) (base_clauses p)
base_within p problem made = all_base p (IsWithinVariables (variables_of p)) (record {
  rows = λ place h. (row-rises p place h).within;
  start = (start-rises p problem made).within;
  steps = λ e t i to c there ht hi fits hto busy hc.
      let joins : JoinsStates (states_of (automaton_of p)) e = All-contains (JoinsStates (states_of (automaton_of p))) (automaton_of p).edges e made.edges there in
      (step-rises p e t i to c joins ht hi hto hc busy).within;
  chains = λ t q c local ht hq hc. (chain-rises p t q c ht hq hc).within;
  orders = λ place to numbered hp least hto. (order-rises p place to hp least hto).within;
})

-- the parts, added one after the other to an empty list
pub base_from : (p : Problem) (c0 c1 c2 c3 c4 c5 : List (List Literal)) → c0 ≡ [] → c1 ≡ c0 ++ row_clauses p → c2 ≡ c1 ++ start_clause p ∷ []
    → c3 ≡ c2 ++ flat_map (edge_clauses p) (automaton_of p).edges → c4 ≡ c3 ++ chain_clauses p → c5 ≡ c4 ++ order_clauses p → c5 ≡ base_clauses p
base_from p c0 c1 c2 c3 c4 c5 e0 e1 e2 e3 e4 e5 =
    let steps : List (List Literal) = flat_map (edge_clauses p) (automaton_of p).edges in
    let rows : c1 ≡ row_clauses p = e1 ∙ ap (λ xs. xs ++ row_clauses p) e0 in
    let start : c2 ≡ row_clauses p ++ start_clause p ∷ [] = e2 ∙ ap (λ xs. xs ++ start_clause p ∷ []) rows in
    let along : c3 ≡ row_clauses p ++ start_clause p ∷ [] ++ steps = e3 ∙ ap (λ xs. xs ++ steps) start in
    let both : c5 ≡ c3 ++ (chain_clauses p ++ order_clauses p) = e5 ∙ ap (λ xs. xs ++ order_clauses p) e4 ∙ append_assoc c3 (chain_clauses p) (order_clauses p) in
    both ∙ ap (λ xs. xs ++ (chain_clauses p ++ order_clauses p)) along ∙ joined_parts (row_clauses p) (start_clause p) steps (chain_clauses p ++ order_clauses p)
