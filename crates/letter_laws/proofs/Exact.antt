-- The law from both of its halves.
use Rattle.std.proofs.Common.{◌≡◌, ◌≤◌, Bool, true, false, List, refl, sym, ap, ◌∙◌}
use Rattle.propositional_logic.specs.Truth.{meets}
use Rattle.machine_model.specs.Components.{JoinedIsReached}
use Rattle.machine_model.specs.declared.problems.Problem.{Problem}
use Rattle.product_bound.specs.Annotation.{bound_at, start_number}
use Rattle.annotation_encode.specs.BaseClauses as version_three
use Rattle.annotation_encode.specs.BaseClauses.{row_count}
use Rattle.annotation_encode.specs.Laws.{HasAccepted}
use Rattle.letter_clauses.specs.BaseClauses.{base_clauses}
use Rattle.letter_clauses.specs.Laws.{AcceptedIsMet, AllLettersAreVersionThree, UnmetHasNoAccepted, all_letters}
use Rattle.letter_clauses.proofs.ClauseOrder.{start_small}
use Rattle.machine_decode.specs.Written.{AreRows, numbers_of}
use Rattle.machine_decode.proofs.Annotations.{IsOutcome, has_moves, outcome_of}
use Rattle.machine_decode.proofs.Machines.{machine_of}
use Rattle.letter_laws.specs.Laws.{AllLettersAreExact, HasDecoded, MetIsDecoded}
use Rattle.letter_laws.proofs.Rows.{are_rows, decoded_rows}

pub met_is_decoded : AllLettersAreVersionThree → JoinedIsReached → MetIsDecoded
met_is_decoded alike reached_is p values problem made met =
    let three : meets values (version_three.base_clauses p) ≡ true = ap (meets values) (sym (alike p problem.local).clauses) ∙ met in
    let start : start_number p ≤ bound_at p 0 = start_small p (all_letters p) problem in
    let rows : AreRows p values (row_count p) (decoded_rows p values) = are_rows p values (has_moves p values problem.within.some start made three) in
    let outcome : IsOutcome p values (machine_of p (decoded_rows p values)) (numbers_of p values) = outcome_of p values (decoded_rows p values) reached_is problem.within.some start made three rows in
    record {
      machine = machine_of p (decoded_rows p values);
      numbers = numbers_of p values;
      looked_for = outcome.looked_for;
      made = outcome.made;
      decoded = outcome.decoded;
      valid = outcome.valid;
      accepted = outcome.accepted;
    }

accepted_of : (p : Problem) (values : List Bool) → HasDecoded p values → HasAccepted p
accepted_of p values found = record { machine = found.machine; made = found.made; looked_for = found.looked_for; accepted = found.accepted }

never_met : (p : Problem) (values : List Bool) → (HasAccepted p → ⊥) → (meets values (base_clauses p (all_letters p)) ≡ true → HasDecoded p values) → meets values (base_clauses p (all_letters p)) ≡ false
never_met p values none decoded = go (meets values (base_clauses p (all_letters p))) refl
  where
    go : (b : Bool) → meets values (base_clauses p (all_letters p)) ≡ b → b ≡ false
    go true met = absurd (none (accepted_of p values (decoded met)))
    go false unmet = refl

pub all_letters_are_exact : AcceptedIsMet → UnmetHasNoAccepted → MetIsDecoded → AllLettersAreExact
all_letters_are_exact accepted_is_met unmet_has_none decoded p problem made = record {
  met = (
    λ some. accepted_of p some.values (decoded p some.values problem made some.met),
    accepted_is_met p (all_letters p) problem made,
  );
  unmet = (
    unmet_has_none p (all_letters p) problem made,
    λ none values. never_met p values none.none (decoded p values problem made),
  );
}
