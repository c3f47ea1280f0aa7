-- An annotation by levels: a pair's level is 0 where it has no number, else one more than its number.
use Rattle.std.proofs.Common.{◌≡◌, ℕ, zero, suc, ◌-◌, ◌^◌, ◌<◌, ◌≤◌, List, map, sym, ap, ◌∙◌, arith, Option, Some, None}
use Rattle.std.specs.List.{range_with_len}
use Rattle.std.proofs.lemmas.List.FromFn.{get_or-map-range_with_len, length-map-range_with_len}
use Rattle.machine_model.specs.Automaton.{HasEdge, IsAutomaton, states_of}
use Rattle.machine_model.specs.Course.{letter_of}
use Rattle.machine_model.specs.Machine.{MachineModel, IsMachine, next_of, size_of}
use Rattle.machine_model.specs.Problem.{IsMachineOf, automaton_of}
use Rattle.machine_model.specs.declared.problems.Problem.{Problem}
use Rattle.product_bound.specs.Annotation.{HasNumber, IsValidAnnotation, bound_at, number_after, number_at, places_of, start_number}
use Rattle.product_bound.specs.Laws.{HasValidAnnotation}
use Rattle.product_bound.proofs.Letters.{to_within}
use Rattle.product_bound.proofs.Trails.{place, place_within}

-- levels that stand for a valid annotation
pub record AreLevels (p : Problem) (m : MachineModel) (level : ℕ → ℕ) : Type 0 where
  pub bounded : (t q c : ℕ) → t < p.size → q < states_of (automaton_of p) → level (place p t q) ≡ suc c → c ≤ bound_at p q
  pub start : suc (start_number p) ≤ level (place p 0 0)
  pub edges : (t q c read r : ℕ) → t < p.size → q < states_of (automaton_of p) → r < states_of (automaton_of p) → read < 2 ^ m.reads
      → HasEdge (automaton_of p) (letter_of p.side m t read) q r → level (place p t q) ≡ suc c
      → suc (number_after p q r c) ≤ level (place p (next_of m t read) r)

-- the number that a level stands for
number_of : ℕ → Option ℕ
number_of zero = None
number_of (suc c) = Some c

number_of-Some : (level c : ℕ) → number_of level ≡ Some c → level ≡ suc c
unfolding number_of
number_of-Some zero c e = cc
number_of-Some (suc d) c e = let same : d ≡ c = cc in ap suc same

number_of-positive : (level : ℕ) → 0 < level → number_of level ≡ Some (level - 1)
unfolding number_of
number_of-positive zero h = absurd (omega arith)
number_of-positive (suc c) h = let e : c ≡ suc c - 1 = omega arith in ap Some e

module _ (p : Problem) (m : MachineModel) (made : IsAutomaton (automaton_of p)) (machine : IsMachine m) (fits : IsMachineOf p m) (some : 0 < size_of m) (level : ℕ → ℕ) (levels : AreLevels p m level) where
  numbers : List (Option ℕ)
  numbers = map (λ v. number_of (level v)) (range_with_len 0 (places_of p))

  number_is : (t q : ℕ) → t < p.size → q < states_of (automaton_of p) → number_at p numbers t q ≡ number_of (level (place p t q))
  unfolding numbers
  number_is t q ht hq = get_or-map-range_with_len (λ v. number_of (level v)) 0 (places_of p) (place p t q) (place p t q) None (place_within p t q ht hq) (omega arith)

  has_number : (t q least : ℕ) → t < p.size → q < states_of (automaton_of p) → suc least ≤ level (place p t q) → HasNumber p numbers t q least
  has_number t q least ht hq h = record {
    number = level (place p t q) - 1;
    stands = number_is t q ht hq ∙ number_of-positive (level (place p t q)) (omega arith);
    enough = omega arith;
  }

  level_is : (t q c : ℕ) → t < p.size → q < states_of (automaton_of p) → number_at p numbers t q ≡ Some c → level (place p t q) ≡ suc c
  level_is t q c ht hq e = number_of-Some (level (place p t q)) c (sym (number_is t q ht hq) ∙ e)

  valid : IsValidAnnotation p m numbers
  valid = record {
    bounded = λ t q c ht hq e. levels.bounded t q c ht hq (level_is t q c ht hq e);
    start = has_number 0 0 (start_number p) (rw (sym fits.size) some) made.some levels.start;
    edges = λ t q c read r ht hq e hi edge.
        let to : r < states_of (automaton_of p) = to_within (automaton_of p) (letter_of p.side m t read) q r made edge in
        let t_small : t < size_of m = rw fits.size ht in
        let next_small : next_of m t read < size_of m = machine.nexts t read t_small hi in
        has_number (next_of m t read) r (number_after p q r c) (rw (sym fits.size) next_small) to (levels.edges t q c read r ht hq to hi edge (level_is t q c ht hq e));
  }

  pub annotation_by_levels : HasValidAnnotation p m
  unfolding numbers
  annotation_by_levels = record {
    numbers = map (λ v. number_of (level v)) (range_with_len 0 (places_of p));
    places = length-map-range_with_len (λ v. number_of (level v)) 0 (places_of p);
    valid = valid;
  }
