-- Where a side accepts some machine of a problem, some assignment meets all base clauses over any letters.
use Rattle.std.proofs.Common.{◌≡◌, ℕ, ◌^◌, ◌<◌, ◌≤◌, inl, inr, Bool, true, false, List, Option, [], ◌∷◌, length, refl, sym, ◌∙◌, subst, arith}
use Rattle.propositional_logic.specs.Truth.{meets}
use Rattle.machine_model.specs.Automaton.{IsAutomaton}
use Rattle.machine_model.specs.Components.{ComponentsClass}
use Rattle.machine_model.specs.Machine.{IsMachine, MachineModel, next_of, size_of}
use Rattle.machine_model.specs.Problem.{IsMachineOf, automaton_of}
use Rattle.machine_model.specs.declared.problems.Problem.{Problem}
use Rattle.product_bound.specs.Laws.{HasValidAnnotation}
use Rattle.product_bound.proofs.Exists.{annotation_or_run, has_annotation}
use Rattle.annotation_encode.specs.Laws.{HasAccepted, HasNoAccepted, IsMetBySome}
use Rattle.letter_clauses.specs.BaseClauses.{base_clauses}
use Rattle.letter_clauses.specs.Letters.{IsLetterProblem, letter_at}
use Rattle.letter_clauses.specs.Variables.{variables_of}
use Rattle.letter_clauses.proofs.Meets.{all_met}
use Rattle.letter_clauses.proofs.Renumbered.{IsRenumbered, moved, named, renumbered}
use Rattle.letter_clauses.proofs.Restricted.{next_on, number_on, restricted, written_on}
use Rattle.letter_clauses.proofs.Tables.{IsAssigned, IsTable, assigned, assigned_values}

some_letter : (letters : List ℕ) → (letters ≡ [] → ⊥) → 0 < length letters
some_letter [] none = absurd (none refl)
some_letter (x ∷ xs) none = omega arith

module _ (p : Problem) (letters : List ℕ) (problem : IsLetterProblem p letters) (made : IsAutomaton (automaton_of p)) where
  met_by_table : (next written : ℕ → ℕ) (numbers : ℕ → ℕ → Option ℕ) → IsTable p letters next written numbers → IsMetBySome (variables_of p letters) (base_clauses p letters)
  met_by_table next written numbers table =
      let values : IsAssigned p letters next written numbers (assigned_values p letters next written numbers) = assigned p letters next written numbers in
      record {
        values = assigned_values p letters next written numbers;
        places = values.places;
        met = all_met p letters next written numbers (assigned_values p letters next written numbers) problem made table values;
      }

  -- an annotated machine
  pub met_by_annotated : (m : MachineModel) → IsMachine m → IsMachineOf p m → HasValidAnnotation p m → IsMetBySome (variables_of p letters) (base_clauses p letters)
  met_by_annotated m machine fits annotation = by_names names (renumbered (next_on m letters) p.size (length letters) some wide nexts)
    where
      some : 0 < p.size
      some = let least : 1 ≤ p.size = problem.within.some in omega (arith, least)

      wide : 0 < length letters
      wide = some_letter letters problem.list.some

      nexts : (t k : ℕ) → t < p.size → k < length letters → next_on m letters t k < p.size
      nexts t k ht hk =
          let state : t < size_of m = rw fits.size ht in
          let letter : letter_at letters k < 2 ^ m.reads = subst (λ n. letter_at letters k < 2 ^ n) (sym fits.reads) (problem.list.below k 0 hk) in
          let next : next_of m t (letter_at letters k) < size_of m = machine.nexts t (letter_at letters k) state letter in
          rw fits.size at next

      names : List ℕ
      names = named (next_on m letters) p.size (length letters) some wide nexts

      by_names : (names : List ℕ) → IsRenumbered (next_on m letters) p.size (length letters) names → IsMetBySome (variables_of p letters) (base_clauses p letters)
      by_names names is =
          met_by_table (moved (next_on m letters) (length letters) names) (written_on p.kind m letters names) (number_on p annotation.numbers names)
          (restricted p letters m annotation.numbers names problem machine fits annotation.valid wide is)

  module _ (classes : ComponentsClass) where
    machine_some : (m : MachineModel) → IsMachineOf p m → 0 < size_of m
    machine_some m fits = let least : 1 ≤ p.size = problem.within.some in rw fits.size (omega (arith, least))

    pub met_by_accepted : HasAccepted p → IsMetBySome (variables_of p letters) (base_clauses p letters)
    met_by_accepted accepted =
        met_by_annotated accepted.machine accepted.made accepted.looked_for
        (has_annotation p accepted.machine classes made accepted.made accepted.looked_for (machine_some accepted.machine accepted.looked_for) accepted.accepted)

    never_met : ((values : List Bool) → meets values (base_clauses p letters) ≡ false) → IsMetBySome (variables_of p letters) (base_clauses p letters) → ⊥
    never_met unmet met = let both : true ≡ false = sym met.met ∙ unmet met.values in cc

    pub none_accepted : ((values : List Bool) → meets values (base_clauses p letters) ≡ false) → HasNoAccepted p
    none_accepted unmet = record {
      none = λ accepted. never_met unmet (met_by_accepted accepted);
      each_rejected = λ m machine fits. elim (annotation_or_run p m classes made machine fits (machine_some m fits)) [
        | inr refuted ↦ refuted
        | inl annotation ↦ absurd (never_met unmet (met_by_annotated m machine fits annotation))
      ];
    }
