use Rattle.std.specs.Prelude.{◌==◌, ℕ, zero, suc, ◌+◌, ◌-◌, ◌*◌, Bool, true, false, not, ◌&&◌, List, [], ◌∷◌, ◌++◌, nat_le, nat_lt, if◌then◌else◌}
use Rattle.std.specs.List.{flat_map}
use Rattle.propositional_logic.specs.Literal.{Literal}
use Rattle.letters_and_lassos.specs.Signals.{has}
use Rattle.letters_and_lassos.specs.declared.cubes.Cube.{Cube}
use Rattle.letters_and_lassos.specs.declared.kinds.Side.{Side}
use Rattle.letters_and_lassos.specs.declared.kinds.Side.TheVariants.{System, Environment}
use Rattle.letters_and_lassos.specs.Below.{all_below}
use Rattle.machine_model.specs.Automaton.{rejects, states_of}
use Rattle.machine_model.specs.Problem.{automaton_of, reads_of, writes_of, counts_locally, numbers_states}
use Rattle.machine_model.specs.declared.automata.Edge.{Edge}
use Rattle.machine_model.specs.declared.problems.Problem.{Problem}
use Rattle.product_bound.specs.Annotation.{bound_at, leaves, number_after, start_number}
use Rattle.annotation_encode.specs.Variables.{letter_count, number_count, var_count, var_move, var_write}

-- The base clauses of a problem say that a machine of its size has an annotation within the bound (bounded synthesis of
-- Finkbeiner and Schewe; their order, and those that number the machine's states, are this project's own). The literals
-- of each clause stand by rising variable.

-- the lists that f gives for 0, 1 and so on below n, one after the other
abbrev pub each_below : {A : Type 0} → ℕ → (ℕ → List A) → List A
each_below zero f = []
each_below (suc n) f = each_below n f ++ f n

-- a variable as a literal, and its negation
abbrev pub is : ℕ → Literal
is v = record { var = v; positive = true }

abbrev pub isnt : ℕ → Literal
isnt v = record { var = v; positive = false }

-- the signal of the problem that the read signal s of a side's machine is
abbrev pub read_signal_of : Side → ℕ → ℕ → ℕ
read_signal_of System inputs s = s
read_signal_of Environment inputs s = inputs + s

abbrev pub read_signal : Problem → ℕ → ℕ
read_signal p s = read_signal_of p.side p.inputs s

-- and that which its written signal s is
abbrev pub written_signal_of : Side → ℕ → ℕ → ℕ
written_signal_of System inputs s = inputs + s
written_signal_of Environment inputs s = s

abbrev pub written_signal : Problem → ℕ → ℕ
written_signal p s = written_signal_of p.side p.inputs s

-- the number of rows of a machine, one for each state and read letter
abbrev pub row_count : Problem → ℕ
row_count p = p.size * letter_count p

-- at the row at this place, which is that of a state and a letter, the machine moves to state `to`
abbrev pub row_move : Problem → ℕ → ℕ → ℕ
row_move p place to = 1 + place * p.size + to

-- 1. From each row the machine moves to some state.
abbrev pub row_clause : Problem → ℕ → List Literal
row_clause p place = each_below p.size (λ to. is (row_move p place to) ∷ [])

abbrev pub row_clauses : Problem → List (List Literal)
row_clauses p = each_below (row_count p) (λ place. row_clause p place ∷ [])

-- 2. The first pair has a number, which counts the start where it is rejecting and all rejecting states are counted.
abbrev pub start_clause : Problem → List Literal
start_clause p = is (var_count p 0 0 (start_number p)) ∷ []

-- 3. Along each edge that fits what the machine reads and writes numbers don't fall, and rise into a rejecting state; where
-- they are counted anew behind an edge there is some number.

-- whether a signal that is set, or isn't, is as the cube wants it
abbrev pub signal_fits : Cube → ℕ → Bool → Bool
signal_fits cube s true = not (has cube.not s)
signal_fits cube s false = not (has cube.must s)

-- whether a read letter fits the cube's read signals
abbrev pub fits_read : Problem → Cube → ℕ → Bool
fits_read p cube i = all_below (reads_of p) (λ s. signal_fits cube (read_signal p s) (has i s))

-- what the machine writes misses the cube at the written signal s
abbrev pub write_literal : Problem → Cube → ℕ → ℕ → ℕ → List Literal
write_literal p cube t i s =
    if has cube.must (written_signal p s)
    then (isnt (var_write p t i s) ∷ [])
    else (if has cube.not (written_signal p s) then (is (var_write p t i s) ∷ []) else [])

abbrev pub write_literals : Problem → Cube → ℕ → ℕ → List Literal
write_literals p cube t i = each_below (writes_of p) (λ s. write_literal p cube t i s)

-- two literals by rising variable
abbrev pub in_order : Literal → Literal → List Literal
in_order a b = if nat_lt a.var b.var then (a ∷ b ∷ []) else (b ∷ a ∷ [])

-- the pair that is left doesn't reach c, or the one after it reaches what it has to, if the bound allows that
abbrev pub count_literals : Problem → Edge → ℕ → ℕ → ℕ → List Literal
count_literals p e t to c =
    let after = number_after p e.from e.to c in
    if nat_le after (bound_at p e.to)
    then in_order (isnt (var_count p t e.from c)) (is (var_count p to e.to after))
    else (isnt (var_count p t e.from c) ∷ [])

-- where the machine moves from state t to `to` on letter i, along this edge, and the pair that is left reaches c
abbrev pub step_clause : Problem → Edge → ℕ → ℕ → ℕ → ℕ → List Literal
step_clause p e t i to c = isnt (var_move p t i to) ∷ (write_literals p e.cube t i ++ count_literals p e t to c)

-- whether the edge leads from a pair to itself, and not into a rejecting state: its clauses would say nothing
abbrev pub is_idle : Problem → Edge → ℕ → ℕ → Bool
is_idle p e t to = (t == to) && ((e.from == e.to) && not (rejects (automaton_of p) e.to))

-- for how many numbers a step has clauses: for each of the pair that is left, or for 0 alone where numbers are counted anew
abbrev pub step_count : Problem → Edge → ℕ
step_count p e = if leaves p e.from e.to then 1 else number_count p e.from

abbrev pub step_clauses : Problem → Edge → ℕ → ℕ → ℕ → List (List Literal)
step_clauses p e t i to = if is_idle p e t to then [] else each_below (step_count p e) (λ c. step_clause p e t i to c ∷ [])

abbrev pub letter_clauses : Problem → Edge → ℕ → ℕ → List (List Literal)
letter_clauses p e t i = if fits_read p e.cube i then each_below p.size (λ to. step_clauses p e t i to) else []

abbrev pub state_clauses : Problem → Edge → ℕ → List (List Literal)
state_clauses p e t = each_below (letter_count p) (λ i. letter_clauses p e t i)

abbrev pub edge_clauses : Problem → Edge → List (List Literal)
edge_clauses p e = each_below p.size (λ t. state_clauses p e t)

-- 4. Where numbers count by component a pair that reaches a number reaches the one before it.
abbrev pub chain_clause : Problem → ℕ → ℕ → ℕ → List Literal
chain_clause p t q c = is (var_count p t q c) ∷ isnt (var_count p t q (suc c)) ∷ []

abbrev pub pair_chains : Problem → ℕ → ℕ → List (List Literal)
pair_chains p t q = each_below (bound_at p q) (λ c. chain_clause p t q c ∷ [])

abbrev pub state_chains : Problem → ℕ → List (List Literal)
state_chains p t = each_below (states_of (automaton_of p)) (λ q. pair_chains p t q)

abbrev pub chain_clauses : Problem → List (List Literal)
chain_clauses p = if counts_locally p then each_below p.size (λ t. state_chains p t) else []

-- 5. Where states are numbered a row moves to a state from 2 on only where a row before it moves to the state before that one.
abbrev pub order_clause : Problem → ℕ → ℕ → List Literal
order_clause p place to = each_below place (λ k. is (row_move p k (to - 1)) ∷ []) ++ isnt (row_move p place to) ∷ []

abbrev pub row_orders : Problem → ℕ → List (List Literal)
row_orders p place = each_below (p.size - 2) (λ k. order_clause p place (k + 2) ∷ [])

abbrev pub order_clauses : Problem → List (List Literal)
order_clauses p = if numbers_states p then each_below (row_count p) (λ place. row_orders p place) else []

-- all of them, in this order
abbrev pub base_clauses : Problem → List (List Literal)
base_clauses p = row_clauses p ++ (start_clause p ∷ (flat_map (edge_clauses p) (automaton_of p).edges ++ (chain_clauses p ++ order_clauses p)))
