-- What holds of each kind of base clause holds of all.
use Rattle.std.proofs.Common.{◌≡◌, ℕ, ◌+◌, ◌-◌, ◌<◌, ◌≤◌, Bool, true, false, List, [], ◌∷◌, ◌++◌, length, refl, ap, ◌∙◌, arith, cond}
use Rattle.std.specs.Prelude.{All, Contains}
use Rattle.std.specs.List.{flat_map}
use Rattle.std.proofs.lemmas.List.{append_assoc}
use Rattle.std.proofs.lemmas.List.Elements.{All-append, All-cons, All-contains, All-nil}
use Rattle.propositional_logic.specs.Literal.{Literal}
use Rattle.propositional_logic.specs.Clause.{IsWithinVariables}
use Rattle.machine_model.specs.Automaton.{IsAutomaton, JoinsStates, states_of}
use Rattle.machine_model.specs.Problem.{automaton_of}
use Rattle.machine_model.specs.declared.automata.Edge.{Edge}
use Rattle.machine_model.specs.declared.problems.Problem.{Problem}
use Rattle.product_bound.specs.Annotation.{bound_at}
use Rattle.annotation_encode.specs.BaseClauses.{each_below, fits_read, is_idle, order_clause, row_clause, row_orders, step_count}
use Rattle.annotation_encode.proofs.Lists.{All-each_below, All-flat_map, joined_parts}
use Rattle.letter_clauses.specs.BaseClauses.{base_clauses, chain_clause, chain_clauses, edge_clauses, letter_clauses, order_clauses, pair_chains, row_clauses, start_clause, state_chains, state_clauses, step_clause, step_clauses}
use Rattle.letter_clauses.specs.Letters.{IsLetterProblem, letter_at}
use Rattle.letter_clauses.specs.Variables.{row_count, variables_of}
use Rattle.letter_clauses.proofs.ClauseOrder.{chain-rises, order-rises, row-rises, start-rises, step-rises}

-- what holds of each clause of a kind
pub record HoldsOfKinds (p : Problem) (letters : List ℕ) (P : List Literal → Type 0) : Type 0 where
  pub rows : (place : ℕ) → place < row_count p letters → P (row_clause p place)
  pub start : P (start_clause p letters)
  pub steps : (e : Edge) (t k to c : ℕ) → Contains (automaton_of p).edges e → t < p.size → k < length letters → fits_read p e.cube (letter_at letters k) ≡ true → to < p.size
      → is_idle p e t to ≡ false → c < step_count p e → P (step_clause p letters e t k to c)
  pub chains : (t q c : ℕ) → t < p.size → q < states_of (automaton_of p) → c < bound_at p q → P (chain_clause p letters t q c)
  pub orders : (place to : ℕ) → place < row_count p letters → 2 ≤ to → to < p.size → P (order_clause p place to)

module _ (p : Problem) (letters : List ℕ) (P : List Literal → Type 0) (kinds : HoldsOfKinds p letters P) where
  single : (lits : List Literal) → P lits → All P (lits ∷ [])
  single lits h = All-cons P lits [] h (All-nil P)

  all_steps : (e : Edge) (t k to : ℕ) → Contains (automaton_of p).edges e → t < p.size → k < length letters → fits_read p e.cube (letter_at letters k) ≡ true → to < p.size → All P (step_clauses p letters e t k to)
  all_steps e t k to there ht hk fits hto = go (is_idle p e t to) refl
    where
      go : (b : Bool) → is_idle p e t to ≡ b → All P (cond b [] (each_below (step_count p e) (λ c. step_clause p letters e t k to c ∷ [])))
      go true h = All-nil P
      go false h = All-each_below P (step_count p e) (λ c. step_clause p letters e t k to c ∷ []) (λ c less. single (step_clause p letters e t k to c) (kinds.steps e t k to c there ht hk fits hto h less))

  all_letters : (e : Edge) (t k : ℕ) → Contains (automaton_of p).edges e → t < p.size → k < length letters → All P (letter_clauses p letters e t k)
  all_letters e t k there ht hk = go (fits_read p e.cube (letter_at letters k)) refl
    where
      go : (b : Bool) → fits_read p e.cube (letter_at letters k) ≡ b → All P (cond b (each_below p.size (λ to. step_clauses p letters e t k to)) [])
      go true h = All-each_below P p.size (λ to. step_clauses p letters e t k to) (λ to less. all_steps e t k to there ht hk h less)
      go false h = All-nil P

  all_edges : (e : Edge) → Contains (automaton_of p).edges e → All P (edge_clauses p letters e)
  all_edges e there =
      All-each_below P p.size (λ t. state_clauses p letters e t) (λ t ht. All-each_below P (length letters) (λ k. letter_clauses p letters e t k) (λ k hk. all_letters e t k there ht hk))

  all_chains : All P (chain_clauses p letters)
  all_chains =
      All-each_below P p.size (λ t. state_chains p letters t) (λ t ht. All-each_below P (states_of (automaton_of p)) (λ q. pair_chains p letters t q)
      (λ q hq. All-each_below P (bound_at p q) (λ c. chain_clause p letters t q c ∷ []) (λ c hc. single (chain_clause p letters t q c) (kinds.chains t q c ht hq hc))))

  all_orders : All P (order_clauses p letters)
  all_orders =
      All-each_below P (row_count p letters) (λ place. row_orders p place) (λ place hp. All-each_below P (p.size - 2) (λ k. order_clause p place (k + 2) ∷ [])
      (λ k less. single (order_clause p place (k + 2)) (kinds.orders place (k + 2) hp (omega arith) (omega arith))))

  pub all_base : All P (base_clauses p letters)
  all_base =
      All-append P (row_clauses p letters) (start_clause p letters ∷ (flat_map (edge_clauses p letters) (automaton_of p).edges ++ (chain_clauses p letters ++ order_clauses p letters)))
      (All-each_below P (row_count p letters) (λ place. row_clause p place ∷ []) (λ place h. single (row_clause p place) (kinds.rows place h)))
      (All-cons P (start_clause p letters) (flat_map (edge_clauses p letters) (automaton_of p).edges ++ (chain_clauses p letters ++ order_clauses p letters)) kinds.start
      (All-append P (flat_map (edge_clauses p letters) (automaton_of p).edges) (chain_clauses p letters ++ order_clauses p letters) (All-flat_map P (edge_clauses p letters) (automaton_of p).edges all_edges)
      (All-append P (chain_clauses p letters) (order_clauses p letters) all_chains all_orders)))

-- no variable passes the number of variables
pub base_within : (p : Problem) (letters : List ℕ) → IsLetterProblem p letters → IsAutomaton (automaton_of p) → All (IsWithinVariables (variables_of p letters)) (base_clauses p letters)
base_within p letters problem made = all_base p letters (IsWithinVariables (variables_of p letters)) (record {
  rows = λ place h. (row-rises p letters place h).within;
  start = (start-rises p letters problem made).within;
  steps = λ e t k to c there ht hk fits hto busy hc.
      let joins : JoinsStates (states_of (automaton_of p)) e = All-contains (JoinsStates (states_of (automaton_of p))) (automaton_of p).edges e made.edges there in
      (step-rises p letters e t k to c joins ht hk hto hc busy).within;
  chains = λ t q c ht hq hc. (chain-rises p letters t q c ht hq hc).within;
  orders = λ place to hp least hto. (order-rises p letters place to hp least hto).within;
})

-- the parts, added one after the other to an empty list
pub base_from : (p : Problem) (letters : List ℕ) (c0 c1 c2 c3 c4 c5 : List (List Literal)) → c0 ≡ [] → c1 ≡ c0 ++ row_clauses p letters → c2 ≡ c1 ++ start_clause p letters ∷ []
    → c3 ≡ c2 ++ flat_map (edge_clauses p letters) (automaton_of p).edges → c4 ≡ c3 ++ chain_clauses p letters → c5 ≡ c4 ++ order_clauses p letters → c5 ≡ base_clauses p letters
base_from p letters c0 c1 c2 c3 c4 c5 e0 e1 e2 e3 e4 e5 =
    let steps : List (List Literal) = flat_map (edge_clauses p letters) (automaton_of p).edges in
    let rows : c1 ≡ row_clauses p letters = e1 ∙ ap (λ xs. xs ++ row_clauses p letters) e0 in
    let start : c2 ≡ row_clauses p letters ++ start_clause p letters ∷ [] = e2 ∙ ap (λ xs. xs ++ start_clause p letters ∷ []) rows in
    let along : c3 ≡ row_clauses p letters ++ start_clause p letters ∷ [] ++ steps = e3 ∙ ap (λ xs. xs ++ steps) start in
    let both : c5 ≡ c3 ++ (chain_clauses p letters ++ order_clauses p letters) = e5 ∙ ap (λ xs. xs ++ order_clauses p letters) e4 ∙ append_assoc c3 (chain_clauses p letters) (order_clauses p letters) in
    both ∙ ap (λ xs. xs ++ (chain_clauses p letters ++ order_clauses p letters)) along ∙ joined_parts (row_clauses p letters) (start_clause p letters) steps (chain_clauses p letters ++ order_clauses p letters)
