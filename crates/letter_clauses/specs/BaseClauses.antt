use Rattle.std.specs.Prelude.{ℕ, suc, List, [], ◌∷◌, ◌++◌, length, nat_le, if◌then◌else◌}
use Rattle.std.specs.List.{flat_map}
use Rattle.propositional_logic.specs.Literal.{Literal}
use Rattle.letters_and_lassos.specs.Signals.{has}
use Rattle.letters_and_lassos.specs.declared.cubes.Cube.{Cube}
use Rattle.machine_model.specs.Automaton.{states_of}
use Rattle.machine_model.specs.Problem.{automaton_of, writes_of}
use Rattle.machine_model.specs.declared.automata.Edge.{Edge}
use Rattle.machine_model.specs.declared.problems.Problem.{Problem}
use Rattle.product_bound.specs.Annotation.{bound_at, number_after, start_number}
use Rattle.annotation_encode.specs.BaseClauses.{each_below, fits_read, in_order, is, is_idle, isnt, row_clause, row_orders, step_count, written_signal}
use Rattle.letter_clauses.specs.Letters.{letter_at}
use Rattle.letter_clauses.specs.Variables.{row_count, var_count, var_move, var_write}

-- The base clauses of version 4 say that a machine of the problem's size has an annotation within the bounds as far as it
-- reads letters of the list alone: those of version 3, over these letters in place of all (bounded synthesis of Finkbeiner
-- and Schewe; the list of letters, their order, and those that number the machine's states, are this project's own). The
-- literals of each clause stand by rising variable.

-- 1. From each row the machine moves to some state.
abbrev pub row_clauses : Problem → List ℕ → List (List Literal)
row_clauses p letters = each_below (row_count p letters) (λ place. row_clause p place ∷ [])

-- 2. The first pair has a number.
abbrev pub start_clause : Problem → List ℕ → List Literal
start_clause p letters = is (var_count p letters 0 0 (start_number p)) ∷ []

-- 3. Along each edge that fits what the machine reads and writes numbers don't fall, and rise into a rejecting state; behind
-- an edge that leaves a component there is some number.

-- what the machine writes misses the cube at the written signal s
abbrev pub write_literal : Problem → List ℕ → Cube → ℕ → ℕ → ℕ → List Literal
write_literal p letters cube t k s =
    if has cube.must (written_signal p s)
    then (isnt (var_write p letters t k s) ∷ [])
    else (if has cube.not (written_signal p s) then (is (var_write p letters t k s) ∷ []) else [])

abbrev pub write_literals : Problem → List ℕ → Cube → ℕ → ℕ → List Literal
write_literals p letters cube t k = each_below (writes_of p) (λ s. write_literal p letters cube t k s)

-- the pair that is left doesn't reach c, or the one after it reaches what it has to, if the bound allows that
abbrev pub count_literals : Problem → List ℕ → Edge → ℕ → ℕ → ℕ → List Literal
count_literals p letters e t to c =
    let after = number_after p e.from e.to c in
    if nat_le after (bound_at p e.to)
    then in_order (isnt (var_count p letters t e.from c)) (is (var_count p letters to e.to after))
    else (isnt (var_count p letters t e.from c) ∷ [])

-- where the machine moves from state t to `to` on the letter at place k, along this edge, and the pair that is left reaches c
abbrev pub step_clause : Problem → List ℕ → Edge → ℕ → ℕ → ℕ → ℕ → List Literal
step_clause p letters e t k to c = isnt (var_move p letters t k to) ∷ (write_literals p letters e.cube t k ++ count_literals p letters e t to c)

abbrev pub step_clauses : Problem → List ℕ → Edge → ℕ → ℕ → ℕ → List (List Literal)
step_clauses p letters e t k to = if is_idle p e t to then [] else each_below (step_count p e) (λ c. step_clause p letters e t k to c ∷ [])

abbrev pub letter_clauses : Problem → List ℕ → Edge → ℕ → ℕ → List (List Literal)
letter_clauses p letters e t k = if fits_read p e.cube (letter_at letters k) then each_below p.size (λ to. step_clauses p letters e t k to) else []

abbrev pub state_clauses : Problem → List ℕ → Edge → ℕ → List (List Literal)
state_clauses p letters e t = each_below (length letters) (λ k. letter_clauses p letters e t k)

abbrev pub edge_clauses : Problem → List ℕ → Edge → List (List Literal)
edge_clauses p letters e = each_below p.size (λ t. state_clauses p letters e t)

-- 4. A pair that reaches a number reaches the one before it.
abbrev pub chain_clause : Problem → List ℕ → ℕ → ℕ → ℕ → List Literal
chain_clause p letters t q c = is (var_count p letters t q c) ∷ isnt (var_count p letters t q (suc c)) ∷ []

abbrev pub pair_chains : Problem → List ℕ → ℕ → ℕ → List (List Literal)
pair_chains p letters t q = each_below (bound_at p q) (λ c. chain_clause p letters t q c ∷ [])

abbrev pub state_chains : Problem → List ℕ → ℕ → List (List Literal)
state_chains p letters t = each_below (states_of (automaton_of p)) (λ q. pair_chains p letters t q)

abbrev pub chain_clauses : Problem → List ℕ → List (List Literal)
chain_clauses p letters = each_below p.size (λ t. state_chains p letters t)

-- 5. A row moves to a state from 2 on only where a row before it moves to the state before that one.
abbrev pub order_clauses : Problem → List ℕ → List (List Literal)
order_clauses p letters = each_below (row_count p letters) (λ place. row_orders p place)

-- all of them, in this order
abbrev pub base_clauses : Problem → List ℕ → List (List Literal)
base_clauses p letters =
    row_clauses p letters
    ++ (start_clause p letters ∷ (flat_map (edge_clauses p letters) (automaton_of p).edges ++ (chain_clauses p letters ++ order_clauses p letters)))
