-- Numbers of variables and of base clauses are small.
use Rattle.std.proofs.Common.{◌≡◌, ℕ, ◌*◌, ◌^◌, ◌≤◌, Bool, true, false, Some, None, length, refl, arith, if◌then◌else◌}
use Rattle.std.proofs.Math.Nat.{mul-le-mul, pow-le-pow_right}
use Rattle.std.proofs.lemmas.Bool.{leb-true}
use Rattle.letters_and_lassos.specs.declared.kinds.Kind.{Kind}
use Rattle.letters_and_lassos.specs.declared.kinds.Kind.TheVariants.{Mealy, Moore}
use Rattle.letters_and_lassos.specs.declared.kinds.Side.{Side}
use Rattle.letters_and_lassos.specs.declared.kinds.Side.TheVariants.{System, Environment}
use Rattle.machine_model.specs.Automaton.{IsAutomaton, states_of}
use Rattle.machine_model.specs.Components.{ComponentsClass}
use Rattle.machine_model.specs.Problem.{IsProblem, automaton_of, reads_of, sized, writes_of, counts_locally}
use Rattle.machine_model.specs.declared.problems.Problem.{Problem}
use Rattle.annotation_encode.specs.BaseClauses.{base_clauses}
use Rattle.annotation_encode.specs.Count.{count_of, most_clauses}
use Rattle.annotation_encode.specs.Variables.{counted_before, letter_count, move_count, state_numbers, variables_of, write_count, write_places}
use Rattle.annotation_encode.proofs.Counted.{few_before}

pub few_reads : (p : Problem) (side : Side) → p.side ≡ side → IsProblem p → reads_of p ≤ 8
few_reads p System e within = rw e within.inputs
few_reads p Environment e within = rw e within.outputs

pub few_writes : (p : Problem) (side : Side) → p.side ≡ side → IsProblem p → writes_of p ≤ 8
few_writes p System e within = rw e within.outputs
few_writes p Environment e within = rw e within.inputs

few_letters : (p : Problem) → IsProblem p → letter_count p ≤ 256
few_letters p within = pow-le-pow_right {n = 2} (omega arith) (few_reads p p.side refl within)

few_moves : (p : Problem) → IsProblem p → move_count p ≤ 16384
few_moves p within = mul-le-mul (mul-le-mul within.size (few_letters p within)) within.size

few_places : (kind : Kind) (letters states : ℕ) → letters ≤ 256 → states ≤ 8 → write_places kind letters states ≤ 2048
few_places Mealy letters states l s = mul-le-mul s l
few_places Moore letters states l s = omega (arith, s)

few_written : (p : Problem) → IsProblem p → write_count p ≤ 16384
few_written p within = mul-le-mul (few_places p.kind (letter_count p) p.size (few_letters p within) within.size) (few_writes p p.side refl within)

few_numbers : (p : Problem) → ComponentsClass → IsAutomaton (automaton_of p) → IsProblem p → state_numbers p ≤ 32002000
few_numbers p classes made within =
    let states : states_of (automaton_of p) ≤ 2000 = within.states in
    let sum : counted_before p (states_of (automaton_of p)) ≤ 2000 * states_of (automaton_of p) = few_before p (states_of (automaton_of p)) classes made states in
    let counted : counted_before p (states_of (automaton_of p)) ≤ 4000000 = omega (arith, sum, states) in
    let product : p.size * counted_before p (states_of (automaton_of p)) ≤ 8 * 4000000 = mul-le-mul within.size counted in
    omega (arith, product, states)

pub few_variables : (p : Problem) → ComponentsClass → IsAutomaton (automaton_of p) → IsProblem p → variables_of p ≤ 2 ^ 30
few_variables p classes made within =
    let moves = few_moves p within in
    let written = few_written p within in
    let numbers : p.size * state_numbers p ≤ 8 * 32002000 = mul-le-mul within.size (few_numbers p classes made within) in
    omega (arith, moves, written, numbers)

test_passed : (b : Bool) (n : ℕ) → (if b then Some n else None) ≡ Some n → b ≡ true
test_passed true n e = refl
test_passed false n e = absurd (cc)

most_is : (p : Problem) → most_clauses p ≤ 4000000
most_is p = go (counts_locally p)
  where
    go : (b : Bool) → (if b then 4000000 else 1000000) ≤ 4000000
    go true = omega arith
    go false = omega arith

pub few_clauses : (p : Problem) (n : ℕ) → count_of (sized p n) ≡ Some (length (base_clauses (sized p n))) → length (base_clauses (sized p n)) ≤ 4000000
few_clauses p n counted =
    let few : length (base_clauses (sized p n)) ≤ most_clauses p = leb-true (length (base_clauses (sized p n))) (most_clauses p) (test_passed _ _ counted) in
    let most : most_clauses p ≤ 4000000 = most_is p in
    omega (arith, few, most)
