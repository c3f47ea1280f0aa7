-- The variables lie where they should, and those of pairs are different.
use Rattle.std.proofs.Common.{◌≡◌, ℕ, ◌+◌, ◌*◌, ◌<◌, ◌≤◌, List, length, arith}
use Rattle.machine_model.specs.Automaton.{states_of}
use Rattle.machine_model.specs.Problem.{automaton_of, writes_of}
use Rattle.machine_model.specs.declared.problems.Problem.{Problem}
use Rattle.product_bound.specs.Annotation.{bound_at}
use Rattle.annotation_encode.specs.BaseClauses.{row_move}
use Rattle.annotation_encode.specs.Variables.{numbers_before, state_numbers, write_place, write_places}
use Rattle.annotation_encode.specs.Variables as version_three
use Rattle.annotation_encode.proofs.Sizes.{count_below, place_below, row_end, write_below}
use Rattle.annotation_encode.proofs.Sizes as version_three_sizes
use Rattle.letter_clauses.specs.Variables.{move_count, row_count, row_place, var_count, var_move, variables_of, write_count}

pub row_below : (p : Problem) (letters : List ℕ) (t k : ℕ) → t < p.size → k < length letters → row_place letters t k < row_count p letters
row_below p letters t k ht hk = place_below t (length letters) k p.size ht hk

pub row_within : (p : Problem) (letters : List ℕ) (place to : ℕ) → place < row_count p letters → to < p.size → row_move p place to ≤ move_count p letters
row_within p letters place to hp hto =
    let b : place * p.size + to < row_count p letters * p.size = place_below place p.size to (row_count p letters) hp hto in
    omega (arith, b)

pub move_within : (p : Problem) (letters : List ℕ) (t k to : ℕ) → t < p.size → k < length letters → to < p.size → var_move p letters t k to ≤ move_count p letters
move_within p letters t k to ht hk hto = row_within p letters (row_place letters t k) to (row_below p letters t k ht hk) hto

pub writes_within : (p : Problem) (letters : List ℕ) (t k : ℕ) → t < p.size → k < length letters
    → write_place p.kind (length letters) t k * writes_of p + writes_of p ≤ write_count p letters
writes_within p letters t k ht hk =
    row_end (write_place p.kind (length letters) t k) (writes_of p) (write_places p.kind (length letters) p.size) (write_below p.kind (length letters) p.size t k ht hk)

pub count_within : (p : Problem) (letters : List ℕ) (t q c : ℕ) → t < p.size → q < states_of (automaton_of p) → c ≤ bound_at p q → var_count p letters t q c ≤ variables_of p letters
count_within p letters t q c ht hq hc =
    let b : t * state_numbers p + (numbers_before p q + c) < p.size * state_numbers p = count_below p t q c ht hq hc in
    omega (arith, b)

-- variables of pairs are as far apart as those over all letters
pub same_count : (p : Problem) (letters : List ℕ) (t q c s r d : ℕ) → q < states_of (automaton_of p) → c ≤ bound_at p q → r < states_of (automaton_of p) → d ≤ bound_at p r
    → var_count p letters t q c ≡ var_count p letters s r d → (t ≡ s) × (q ≡ r) × (c ≡ d)
same_count p letters t q c s r d hq hc hr hd e =
    let all : version_three.var_count p t q c ≡ version_three.var_count p s r d = omega (arith, e) in
    version_three_sizes.same_count p t q c s r d hq hc hr hd all
