-- Two problems of one ground and size say the same, and so do their tests of a log.
use Rattle.std.proofs.Common.{◌≡◌, ℕ, Option, None, List, length, sym, ap, subst, ◌∙◌}
use Rattle.propositional_logic.specs.Literal.{Literal}
use Rattle.obligation_sets.specs.declared.sets.Covering.{Covering}
use Rattle.machine_model.specs.declared.problems.Problem.{Problem}
use Rattle.machine_model.specs.Counting.{CountsBy}
use Rattle.machine_model.specs.Problem.{Parts, automaton_of, parts_of}
use Rattle.machine_model.proofs.CountingLemmas.{one_counting}
use Rattle.machine_model.proofs.PartsLemmas.{kept_at}
use Rattle.cobuchi_build.specs.Laws.{OneAutomatonPerFormula}
use Rattle.refutation_log.specs.Log.{IsLegal}
use Rattle.log_checker.specs.Faults.{entry_fault, IsFoundAt}
use Rattle.letter_clauses.specs.BaseClauses.{base_clauses}
use Rattle.letter_clauses.specs.Variables.{variables_of}
use Rattle.solved_text.specs.Parts.{SizeLog}
use Rattle.size_refutations.specs.FirstBad.{FailsOver, other_numbers, bad_entry, left_open, is_good}
use Rattle.size_refutations.specs.Ground.{IsSizeOf, LogGround}
use Rattle.size_refutations.specs.Heads.{has_letters, has_numbers, letters_for}

pub same_parts : OneAutomatonPerFormula → (g : LogGround) (size : ℕ) (p q : Problem) → IsSizeOf g size p → IsSizeOf g size q → parts_of p ≡ parts_of q
same_parts one g size p q x y =
    let a : automaton_of p ≡ automaton_of q = one Covering.Reduced g.nodes g.form (automaton_of p) (automaton_of q) x.automaton.automaton y.automaton.automaton in
    let inputs : p.inputs ≡ q.inputs = x.inputs ∙ sym y.inputs in
    let outputs : p.outputs ≡ q.outputs = x.outputs ∙ sym y.outputs in
    let side : p.side ≡ q.side = x.of_side ∙ sym y.of_side in
    let kind : p.kind ≡ q.kind = x.kind_is ∙ sym y.kind_is in
    let size : p.size ≡ q.size = x.states ∙ sym y.states in
    let counting : p.counting ≡ q.counting = one_counting (automaton_of q) p.counting q.counting (subst (λ b. CountsBy b p.counting) a x.counting) y.counting in
    λ i. record {
      automaton = a i;
      inputs = inputs i;
      outputs = outputs i;
      side = side i;
      kind = kind i;
      size = size i;
      counting = counting i;
    }

module _ (p q : Problem) (same : parts_of p ≡ parts_of q) (l : SizeLog) where
  pub same_letters : has_letters p l ≡ has_letters q l
  same_letters = ap (λ (parts : Parts). has_letters (kept_at p parts) l) same

  pub same_list : letters_for p l ≡ letters_for q l
  same_list = ap (λ (parts : Parts). letters_for (kept_at p parts) l) same

  module _ (letters : List ℕ) where
    same_numbers : has_numbers p letters l ≡ has_numbers q letters l
    same_numbers = ap (λ (parts : Parts). has_numbers (kept_at p parts) letters l) same

    same_variables : variables_of p letters ≡ variables_of q letters
    same_variables = ap (λ (parts : Parts). variables_of (kept_at p parts) letters) same

    same_clauses : base_clauses p letters ≡ base_clauses q letters
    same_clauses = ap (λ (parts : Parts). base_clauses (kept_at p parts) letters) same

    legal_over : IsLegal (variables_of p letters) (base_clauses p letters) None l.entries → IsLegal (variables_of q letters) (base_clauses q letters) None l.entries
    legal_over g =
        subst (λ (v : ℕ). IsLegal v (base_clauses q letters) None l.entries) same_variables
        (subst (λ (b : List (List Literal)). IsLegal (variables_of p letters) b None l.entries) same_clauses g)

    pub fails_over : (o : Option ℕ) → FailsOver p letters l o → FailsOver q letters l o
    fails_over o (other_numbers e) = other_numbers (sym same_numbers ∙ e)
    fails_over o (bad_entry f place n x) = bad_entry f place (sym same_numbers ∙ n) (subst (λ (b : List (List Literal)). IsFoundAt (entry_fault b None) l.entries 0 (length l.entries) f place) same_clauses x)
    fails_over o (left_open n g s) = left_open (sym same_numbers ∙ n) (legal_over g) s
    fails_over o (is_good n g s) = is_good (sym same_numbers ∙ n) (legal_over g) s
