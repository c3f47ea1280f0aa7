-- Where a side accepts some machine of a problem, some assignment meets all base clauses: that of its numbered form.
use Rattle.std.proofs.Common.{◌≡◌, ℕ, inl, inr, true, false, List, sym, ap, ◌∙◌, subst}
use Rattle.propositional_logic.specs.Literal.{Literal}
use Rattle.machine_model.specs.Accepts.{SideAccepts}
use Rattle.machine_model.specs.Automaton.{IsAutomaton}
use Rattle.machine_model.specs.Machine.{MachineModel}
use Rattle.machine_model.specs.Problem.{IsMachineOf, IsProblem, Parts, automaton_of, parts_of}
use Rattle.machine_model.specs.declared.problems.Problem.{Problem}
use Rattle.machine_model.proofs.PartsLemmas.{alike, kept_at}
use Rattle.product_bound.specs.Laws.{AcceptedIsAnnotated, AcceptedOrRejected, HasValidAnnotation, IsNumberedForm}
use Rattle.product_bound.specs.Numbered.{numbered_of}
use Rattle.product_bound.proofs.Numbering.{numbered_form}
use Rattle.annotation_encode.specs.Assigned.{IsAssignmentOf, assigned_values}
use Rattle.annotation_encode.specs.BaseClauses.{base_clauses}
use Rattle.annotation_encode.specs.Laws.{HasAccepted, HasNoAccepted, HaveEqualClauses, IsMetBySome, IsUnmet}
use Rattle.annotation_encode.specs.Variables.{variables_of}
use Rattle.annotation_encode.proofs.AssignedLemmas.{assigned}
use Rattle.annotation_encode.proofs.Meets.{all_met}

pub met_by_assigned : AcceptedIsAnnotated → (p : Problem) → IsProblem p → IsAutomaton (automaton_of p) → HasAccepted p → IsMetBySome (variables_of p) (base_clauses p)
met_by_assigned annotated p problem made accepted =
    let m : MachineModel = numbered_of accepted.machine in
    let form : IsNumberedForm accepted.machine (numbered_of accepted.machine) = numbered_form accepted.machine accepted.made in
    let fits : IsMachineOf p (numbered_of accepted.machine) = record {
      kind = form.kind ∙ accepted.looked_for.kind;
      size = form.size ∙ accepted.looked_for.size;
      reads = form.reads ∙ accepted.looked_for.reads;
      writes = form.writes ∙ accepted.looked_for.writes;
    } in
    let accepts : SideAccepts (automaton_of p) p.side (numbered_of accepted.machine) = λ w run word. accepted.accepted w ((form.same_runs p.side w).0 run) word in
    let annotation : HasValidAnnotation p (numbered_of accepted.machine) = (annotated p (numbered_of accepted.machine) problem made form.machine fits).0 accepts in
    let values : IsAssignmentOf p (numbered_of accepted.machine) annotation.numbers (assigned_values p (numbered_of accepted.machine) annotation.numbers) = assigned p (numbered_of accepted.machine) annotation.numbers problem form.machine fits in
    record {
      values = assigned_values p (numbered_of accepted.machine) annotation.numbers;
      places = values.places;
      met = all_met p (numbered_of accepted.machine) annotation.numbers (assigned_values p (numbered_of accepted.machine) annotation.numbers) problem made form.machine fits annotation.valid values (λ _. form.in_order);
    }

pub met_by_some : AcceptedIsAnnotated → (p : Problem) (vars : ℕ) (clauses : List (List Literal)) → IsProblem p → IsAutomaton (automaton_of p) → vars ≡ variables_of p → clauses ≡ base_clauses p
    → HasAccepted p → IsMetBySome vars clauses
met_by_some annotated p vars clauses problem made v c accepted = back v c (met_by_assigned annotated p problem made accepted)
  where
    back : vars ≡ variables_of p → clauses ≡ base_clauses p → IsMetBySome (variables_of p) (base_clauses p) → IsMetBySome vars clauses
    back v c h = subst (λ n. IsMetBySome n clauses) (sym v) (subst (λ cs. IsMetBySome (variables_of p) cs) (sym c) h)

-- where no assignment meets the base clauses, the side accepts no machine
none_accepted : AcceptedIsAnnotated → (p : Problem) → IsProblem p → IsAutomaton (automaton_of p) → IsUnmet p → HasAccepted p → ⊥
none_accepted annotated p problem made unmet accepted =
    let met : IsMetBySome (variables_of p) (base_clauses p) = met_by_assigned annotated p problem made accepted in
    let both : true ≡ false = sym met.met ∙ unmet.unmet met.values in
    cc

pub no_accepted : AcceptedIsAnnotated → AcceptedOrRejected → (p : Problem) → IsProblem p → IsAutomaton (automaton_of p) → IsUnmet p → HasNoAccepted p
no_accepted annotated or_rejected p problem made unmet = record {
  none = none_accepted annotated p problem made unmet;
  each_rejected = λ m machine fits. elim (or_rejected p m problem made machine fits) [
    | inr refuted ↦ refuted
    | inl accepts ↦ absurd (none_accepted annotated p problem made unmet (record { machine = m; made = machine; looked_for = fits; accepted = accepts }))
  ];
}

pub equal_clauses : (p q : Problem) → parts_of p ≡ parts_of q → HaveEqualClauses p q
equal_clauses p q same =
    record {
      variables = ap (λ parts. variables_of (kept_at p parts)) same;
      clauses = ap (λ parts. base_clauses (kept_at p parts)) same;
      accepted = λ accepted. record {
        machine = accepted.machine;
        made = accepted.made;
        looked_for = (alike p q same).machines accepted.machine accepted.looked_for;
        accepted = subst (λ (parts : Parts). SideAccepts parts.automaton parts.side accepted.machine) same accepted.accepted;
      };
    }
