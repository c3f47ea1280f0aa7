-- At most one line is the one at which a log fails, and it fails at none exactly where it holds.
use Rattle.std.proofs.Common.{◌≡◌, ℕ, ◌+◌, true, false, Option, Some, None, List, length, refl, sym, ap, subst, ◌∙◌, true≢false}
use Rattle.std.proofs.lemmas.Bool.{and_from, and_parts}
use Rattle.obligation_sets.specs.declared.sets.Covering.{Covering}
use Rattle.machine_model.specs.Automaton.{AutomatonModel}
use Rattle.machine_model.specs.declared.problems.Problem.{Problem}
use Rattle.machine_model.specs.Problem.{automaton_of, reads_of}
use Rattle.cobuchi_build.specs.Laws.{OneAutomatonPerFormula}
use Rattle.log_checker.specs.declared.faults.LogFault.{LogFault}
use Rattle.log_checker.specs.Faults.{entry_fault, IsFoundAt}
use Rattle.log_checker.specs.Laws.{FaultsAreApart}
use Rattle.letter_clauses.specs.BaseClauses.{base_clauses}
use Rattle.letter_clauses.specs.Variables.{variables_of}
use Rattle.solved_text.specs.Parts.{SizeLog}
use Rattle.size_refutations.specs.FirstBad.{FailsOver, LogFails, other_numbers, bad_entry, left_open, is_good, no_automaton, other_letters, over_problem}
use Rattle.size_refutations.specs.Ground.{HasNoAutomaton, IsSizeOf, LogGround, NamesItsSignals, too_large, other_signals}
use Rattle.size_refutations.specs.Heads.{are_letters, has_letters, is_number_of_states, letters_for}
use Rattle.size_refutations.specs.Holds.{LogHolds}
use Rattle.size_refutations.specs.Laws.{LogsAreDetermined}
use Rattle.size_refutations.specs.Parts.{entry_named}
use Rattle.size_refutations.proofs.HeadLemmas.{letters_back, letters_of_test, numbers_back, numbers_of_test, states_back, states_of_test}
use Rattle.size_refutations.proofs.Placed.{place_named}
use Rattle.size_refutations.proofs.SameProblem.{fails_over, same_letters, same_list, same_parts}

module _ (apart : FaultsAreApart) (p : Problem) (letters : List ℕ) (l : SizeLog) where
  one_place : (f h : LogFault) (i j : ℕ) → IsFoundAt (entry_fault (base_clauses p letters) None) l.entries 0 (length l.entries) f i
      → IsFoundAt (entry_fault (base_clauses p letters) None) l.entries 0 (length l.entries) h j → i ≡ j
  one_place f h i j x y =
      sym (place_named (base_clauses p letters) None l.entries f i x)
      ∙ ap entry_named (apart.one_fault (base_clauses p letters) None l.entries f h (i, x) (j, y))
      ∙ place_named (base_clauses p letters) None l.entries h j y

  over_same : (a b : Option ℕ) → FailsOver p letters l a → FailsOver p letters l b → a ≡ b
  over_same a b (other_numbers e) (other_numbers e') = refl
  over_same a b (other_numbers e) (bad_entry f' i' n' x') = absurd (true≢false (sym n' ∙ e))
  over_same a b (other_numbers e) (left_open n' g' s') = absurd (true≢false (sym n' ∙ e))
  over_same a b (other_numbers e) (is_good n' g' s') = absurd (true≢false (sym n' ∙ e))
  over_same a b (bad_entry f i n x) (other_numbers e') = absurd (true≢false (sym n ∙ e'))
  over_same a b (bad_entry f i n x) (bad_entry f' i' n' x') = ap (λ (k : ℕ). Some (l.line + 1 + k)) (one_place f f' i i' x x')
  over_same a b (bad_entry f i n x) (left_open n' g' s') = absurd (apart.legal_has_none (variables_of p letters) (base_clauses p letters) None l.entries f g' (i, x))
  over_same a b (bad_entry f i n x) (is_good n' g' s') = absurd (apart.legal_has_none (variables_of p letters) (base_clauses p letters) None l.entries f g' (i, x))
  over_same a b (left_open n g s) (other_numbers e') = absurd (true≢false (sym n ∙ e'))
  over_same a b (left_open n g s) (bad_entry f' i' n' x') = absurd (apart.legal_has_none (variables_of p letters) (base_clauses p letters) None l.entries f' g (i', x'))
  over_same a b (left_open n g s) (left_open n' g' s') = refl
  over_same a b (left_open n g s) (is_good n' g' s') = absurd (true≢false (sym s' ∙ s))
  over_same a b (is_good n g s) (other_numbers e') = absurd (true≢false (sym n ∙ e'))
  over_same a b (is_good n g s) (bad_entry f' i' n' x') = absurd (apart.legal_has_none (variables_of p letters) (base_clauses p letters) None l.entries f' g (i', x'))
  over_same a b (is_good n g s) (left_open n' g' s') = absurd (true≢false (sym s ∙ s'))
  over_same a b (is_good n g s) (is_good n' g' s') = refl

module _ (apart : FaultsAreApart) (one : OneAutomatonPerFormula) (g : LogGround) where
  -- a side that has an automaton doesn't lack one
  has_one : (size : ℕ) (p : Problem) → IsSizeOf g size p → HasNoAutomaton g → ⊥
  has_one size p x (too_large passes) = x.automaton.within passes
  has_one size p x (other_signals a is other) =
      let same : automaton_of p ≡ a = one Covering.Reduced g.nodes g.form (automaton_of p) a x.automaton.automaton is in
      other (subst (λ (b : AutomatonModel). NamesItsSignals g b) same x.automaton.signals)

  module _ (l : SizeLog) where
    letters_apart : (p q : Problem) → IsSizeOf g l.size p → IsSizeOf g l.size q → has_letters p l ≡ true → has_letters q l ≡ false → ⊥
    letters_apart p q x y has other = true≢false (sym has ∙ same_letters p q (same_parts one g l.size p q x y) l ∙ other)

    over_one : (p q : Problem) (a b : Option ℕ) → IsSizeOf g l.size p → IsSizeOf g l.size q → FailsOver p (letters_for p l) l a → FailsOver q (letters_for q l) l b → a ≡ b
    over_one p q a b x y f h =
        let same = same_parts one g l.size p q x y in
        let listed : FailsOver p (letters_for q l) l a = subst (λ (letters : List ℕ). FailsOver p letters l a) (same_list p q same l) f in
        over_same apart q (letters_for q l) l a b (fails_over p q same l (letters_for q l) a listed) h

    pub fails_one : (a b : Option ℕ) → LogFails g l a → LogFails g l b → a ≡ b
    fails_one a b (no_automaton n) (no_automaton n') = refl
    fails_one a b (no_automaton n) (other_letters p' x' e') = refl
    fails_one a b (no_automaton n) (over_problem p' o' x' e' f') = absurd (has_one l.size p' x' n)
    fails_one a b (other_letters p x e) (no_automaton n') = refl
    fails_one a b (other_letters p x e) (other_letters p' x' e') = refl
    fails_one a b (other_letters p x e) (over_problem p' o' x' e' f') = absurd (letters_apart p' p x' x e' e)
    fails_one a b (over_problem p o x e f) (no_automaton n') = absurd (has_one l.size p x n')
    fails_one a b (over_problem p o x e f) (other_letters p' x' e') = absurd (letters_apart p p' x x' e e')
    fails_one a b (over_problem p o x e f) (over_problem p' o' x' e' f') = over_one p p' a b x x' f f'

-- ---- no line

module _ (g : LogGround) (l : SizeLog) where
  holds_over : (p : Problem) (o : Option ℕ) → IsSizeOf g l.size p → has_letters p l ≡ true → FailsOver p (letters_for p l) l o → o ≡ None → LogHolds g l
  holds_over p o x has (other_numbers e) none = absurd (cc)
  holds_over p o x has (bad_entry f i n found) none = absurd (cc)
  holds_over p o x has (left_open n legal s) none = absurd (cc)
  holds_over p o x has (is_good n legal s) none =
      let parts = and_parts (is_number_of_states l.size) (are_letters (reads_of p) l.letters) has in
      let states = states_of_test l.size parts.0 in
      let numbers = numbers_of_test p (letters_for p l) l n in
      record {
        problem = p;
        is_size = x;
        some = states.some;
        few = states.few;
        letters = letters_of_test (reads_of p) l.letters parts.1;
        allowed = numbers.allowed;
        vars = numbers.vars;
        base = numbers.base;
        closed = record { legal = legal; refutes = s };
      }

  holds_by : (o : Option ℕ) → LogFails g l o → o ≡ None → LogHolds g l
  holds_by o (no_automaton n) none = absurd (cc)
  holds_by o (other_letters p x e) none = absurd (cc)
  holds_by o (over_problem p first x e f) none = holds_over p o x e f none

  none_by : LogHolds g l → LogFails g l None
  none_by h =
      over_problem h.problem None h.is_size
      (and_from (is_number_of_states l.size) (are_letters (reads_of h.problem) l.letters) (states_back l.size h.some h.few) (letters_back (reads_of h.problem) l.letters h.letters))
      (is_good (numbers_back h.problem (letters_for h.problem l) l (record { allowed = h.allowed; vars = h.vars; base = h.base })) h.closed.legal h.closed.refutes)

pub logs_are_determined : FaultsAreApart → OneAutomatonPerFormula → LogsAreDetermined
logs_are_determined apart one = record {
  one = λ g l a b f h. fails_one apart one g l a b f h;
  holding = λ g l. (λ f. holds_by g l None f refl, none_by g l);
}
