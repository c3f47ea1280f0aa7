-- Where a log fails, by the problem of its size; and what is counted and listed of a size.
use Rattle.std.proofs.Common.{◌≡◌, ℕ, ◌^◌, ◌&&◌, Bool, true, false, cond, Option, Some, None, List, length, refl, sym, ap, subst, ◌∙◌}
use Rattle.std.specs.Prelude.{is_some}
use Rattle.std.specs.List.{range_with_len}
use Rattle.std.proofs.lemmas.Bool.{and_from, and_parts}
use mathlib.Core.Bool.{and-false}
use Rattle.std_lemmas.proofs.Options.{none_by}
use Rattle.propositional_logic.specs.declared.formula.Cnf.{Cnf}
use Rattle.machine_model.specs.Problem.{Parts, parts_of, reads_of, sized}
use Rattle.machine_model.specs.declared.problems.Problem.{Problem}
use Rattle.letter_clauses.specs.BaseClauses.{base_clauses}
use Rattle.letter_clauses.specs.Count.{count_of, is_allowed}
use Rattle.letter_clauses.specs.Letters.{IsLetterProblem}
use Rattle.solved_text.specs.declared.letters.Letters.{Letters}
use Rattle.solved_text.specs.declared.letters.Letters.TheVariants.{All, Few}
use Rattle.solved_text.specs.Parts.{SizeLog}
use Rattle.size_refutations.specs.FirstBad.{FailsOver, LogFails, other_letters, over_problem}
use Rattle.size_refutations.specs.Ground.{HasNoAutomaton, IsSizeOf, LogGround}
use Rattle.size_refutations.specs.Heads.{are_few, are_letters, is_list, is_number_of_states, letters_named}
use Rattle.size_refutations.specs.Parts.{IsKeptProblem, IsSearched, IsSearchOf, IsSizedAs}
use Rattle.size_refutations.specs.Sizes.{AreClausesAt, AreClausesOver, IsCountOf, clause_count, may_be_counted, no_clauses, its_clauses}
use Rattle.size_refutations.specs.Sizes as sizes
use Rattle.size_refutations.proofs.HeadLemmas.{few_letters, listed}
use Rattle.size_refutations.proofs.Refuted.{all_letters_listed}
use Rattle.size_refutations.proofs.Searched.{letter_size, size_is}

module _ (g : LogGround) (s : Problem) (l : SizeLog) (p : Problem) (is : IsSearchOf g s) (same : IsSizedAs s l.size p) where
  its_size : IsSizeOf g l.size p
  its_size = size_is g s l.size p is same

  pub other_size : is_number_of_states l.size ≡ false → LogFails g l (Some l.line)
  other_size e = other_letters p its_size (ap (λ (b : Bool). b && are_letters (reads_of p) l.letters) e)

  -- a log over all letters
  module _ (states : is_number_of_states l.size ≡ true) (named : l.letters ≡ All) where
    pub over_all : (first : Option ℕ) → FailsOver p (range_with_len 0 (2 ^ reads_of p)) l first → LogFails g l first
    over_all first fails =
        over_problem p first its_size (and_from (is_number_of_states l.size) (are_letters (reads_of p) l.letters) states (ap (are_letters (reads_of p)) named))
        (subst (λ (letters : List ℕ). FailsOver p letters l first) (sym (ap (letters_named (reads_of p)) named)) fails)

  -- one over these
  module _ (letters : List ℕ) (named : l.letters ≡ Few letters) where
    pub unlisted : are_few (reads_of p) letters ≡ false → LogFails g l (Some l.line)
    unlisted e =
        other_letters p its_size
        (ap (λ (x : Letters). is_number_of_states l.size && are_letters (reads_of p) x) named ∙ ap (λ (b : Bool). is_number_of_states l.size && b) e
        ∙ and-false (is_number_of_states l.size))

    module _ (states : is_number_of_states l.size ≡ true) (few : are_few (reads_of p) letters ≡ true) where
      pub over_few : (first : Option ℕ) → FailsOver p letters l first → LogFails g l first
      over_few first fails =
          over_problem p first its_size (and_from (is_number_of_states l.size) (are_letters (reads_of p) l.letters) states (ap (are_letters (reads_of p)) named ∙ few))
          (subst (λ (x : List ℕ). FailsOver p x l first) (sym (ap (letters_named (reads_of p)) named)) fails)

      pub size_few : IsLetterProblem p letters
      size_few = letter_size g s l.size p is same letters states (few_letters (reads_of p) letters few).list

  pub size_all : is_number_of_states l.size ≡ true → IsLetterProblem p (range_with_len 0 (2 ^ reads_of p))
  size_all states = letter_size g s l.size p is same (range_with_len 0 (2 ^ reads_of p)) states (all_letters_listed (reads_of p))

-- ---- what is counted

-- a problem has the parts of the search's for its own number of states
pub sized_here : (s : Problem) (n : ℕ) (p : Problem) → IsSizedAs s n p → IsSizedAs s p.size p
sized_here s n p same =
    let size : p.size ≡ n = ap (λ (x : Parts). x.size) same in
    subst (λ (k : ℕ). parts_of p ≡ parts_of (sized s k)) (sym size) same

pub not_counted : (p : Problem) (letters : List ℕ) → may_be_counted p letters ≡ false → None ≡ clause_count p letters
not_counted p letters e = sym (ap (λ (b : Bool). cond b (count_of p letters) None) e)

pub counted : (p : Problem) (letters : List ℕ) → may_be_counted p letters ≡ true → count_of p letters ≡ clause_count p letters
counted p letters may = sym (ap (λ (b : Bool). cond b (count_of p letters) None) may)

counted_by : (a b : Bool) (n : ℕ) → is_some (cond a (cond b (Some n) None) None) ≡ true → (a ≡ true) × (b ≡ true)
counted_by true true n is = (refl, refl)
counted_by true false n is = absurd (cc)
counted_by false b n is = absurd (cc)

some_of : (o : Option ℕ) → is_some o ≡ true → (n : ℕ) × (o ≡ Some n)
some_of None is = absurd (cc)
some_of (Some n) is = (n, refl)

module _ (g : LogGround) (s : Problem) (p : Problem) (is : IsSearchOf g s) (same : IsSizedAs s p.size p) (letters : List ℕ) where
  pub size_counted : may_be_counted p letters ≡ true → IsLetterProblem p letters
  size_counted may =
      let both = and_parts (is_number_of_states p.size) (is_list (reads_of p) letters) may in
      letter_size g s p.size p is same letters both.0 (listed (reads_of p) letters both.1)

  both_of : is_some (clause_count p letters) ≡ true → (may_be_counted p letters ≡ true) × (is_allowed p letters ≡ true)
  both_of some = counted_by (may_be_counted p letters) (is_allowed p letters) (length (base_clauses p letters)) some

  pub size_allowed : (o : Option ℕ) → o ≡ clause_count p letters → is_some o ≡ true → IsLetterProblem p letters
  size_allowed o e some = size_counted (both_of (ap is_some (sym e) ∙ some)).0

  pub is_allowed_so : (o : Option ℕ) → o ≡ clause_count p letters → is_some o ≡ true → is_allowed p letters ≡ true
  is_allowed_so o e some = (both_of (ap is_some (sym e) ∙ some)).1

  pub none_listed : (o : Option ℕ) → o ≡ clause_count p letters → is_some o ≡ false → clause_count p letters ≡ None
  none_listed o e none = sym e ∙ none_by o none

module _ (g : LogGround) (s : Problem) (n : ℕ) (p : Problem) (is : IsSearchOf g s) (same : IsSizedAs s n p) (letters : List ℕ) where
  pub count_is : (o : Option ℕ) → o ≡ clause_count p letters → IsCountOf g n letters o
  count_is o e = sizes.over_problem p o (size_is g s n p is same) e

  pub listed_at : (made : Option Cnf) → AreClausesOver p letters made → AreClausesAt g n letters made
  listed_at None none = no_clauses (sizes.over_problem p None (size_is g s n p is same) (sym none))
  listed_at (Some c) made =
      let count = some_of (clause_count p letters) made.0 in
      its_clauses p count.0 c (size_is g s n p is same) count.1 made.1

-- ---- a ground that has no automaton

pub has_none : (g h : LogGround) (kept : Option Problem) → g ≡ h → IsKeptProblem g kept → kept ≡ None → HasNoAutomaton h
has_none g h kept same is none = subst HasNoAutomaton same (subst (IsSearched g) none is.searched)
