-- Closed logs of a document that holds refute their sizes.
use Rattle.std.proofs.Common.{◌≡◌, ℕ, Bool, true, false, Option, Some, None, List, [], ◌∷◌, sym, ◌∙◌, inl, inr}
use Rattle.std.specs.Prelude.{IfSome}
use Rattle.propositional_logic.specs.Literal.{Literal}
use Rattle.letters_and_lassos.specs.declared.kinds.Kind.{Kind}
use Rattle.machine_model.specs.declared.problems.Problem.{Problem}
use Rattle.machine_model.specs.Automaton.{IsAutomaton}
use Rattle.machine_model.specs.Problem.{IsProblem, automaton_of}
use Rattle.annotation_encode.specs.BaseClauses.{base_clauses}
use Rattle.annotation_encode.specs.Laws.{HasNoAccepted}
use Rattle.annotation_encode.specs.Variables.{variables_of}
use Rattle.refutation_log.specs.declared.entries.Entry.{Entry}
use Rattle.refutation_log.specs.Log.{is_ended, IsClosed}
use Rattle.size_laws.specs.Refuted.{ClosedLogsRefute}
use Rattle.document_text.specs.Parts.{LogPart}
use Rattle.document_check.specs.Facts.{Facts, problem_at}
use Rattle.document_check.specs.Holds.{AllHold, IsAsWanted, IsLogOfSome, may_be_full}
use Rattle.document_check.specs.Laws.{AllRefute, ClosedLogsRefuteSizes}

-- of what may be full, what ends with the empty clause is closed
closed_by : (full : Bool) (vars : ℕ) (base : List (List Literal)) (limit : Option ℕ) (entries : List Entry) → IsAsWanted full vars base limit entries → is_ended entries ≡ true
    → IsClosed vars base limit entries
closed_by true vars base limit entries (inl closed) ended = closed
closed_by true vars base limit entries (inr full) ended = let never : ◌≡◌ {A = Bool} true false = sym ended ∙ full.not_closed in absurd (cc)
closed_by false vars base limit entries closed ended = closed

module _ (refute : ClosedLogsRefute) (full : Bool) (limit : Option ℕ) where
  at_problem : (l : LogPart) (o : Option Problem) → IsLogOfSome full limit l o → is_ended l.entries ≡ true
      → IfSome o (λ p. IsProblem p → IsAutomaton (automaton_of p) → HasNoAccepted p)
  at_problem l None holds ended = absurd holds
  at_problem l (Some p) holds ended =
      λ problem automaton. refute p (variables_of p) limit l.entries problem automaton (closed_by full (variables_of p) (base_clauses p) limit l.entries holds.wanted ended)

  all_refute : (facts : Facts) (kind : Kind) (version : ℕ) (logs : List LogPart) → AllHold facts kind version full limit logs → AllRefute facts kind version logs
  all_refute facts kind version [] holds = tt
  all_refute facts kind version (l ∷ logs) holds = (at_problem l (problem_at facts kind version l.side l.size) holds.0, all_refute facts kind version logs holds.1)

pub closed_logs_refute_sizes : ClosedLogsRefute → ClosedLogsRefuteSizes
closed_logs_refute_sizes refute facts d holds = all_refute refute (may_be_full d.verdict) d.entries facts d.kind d.version d.logs holds.logs
