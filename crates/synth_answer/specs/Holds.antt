-- The logs of a document, as a text's problems see them (this project's own).
use Rattle.std.specs.Prelude.{◌≡◌, ℕ, ◌⊎◌, List, ◌∷◌, ◌++◌, Option, All}
use Rattle.machine_model.specs.Problem.{sized}
use Rattle.machine_model.specs.declared.problems.Problem.{Problem}
use Rattle.machine_model.specs.declared.counting.Counts.{Counts}
use Rattle.machine_model.specs.declared.counting.Counts.TheVariants.{Whole, Local}
use Rattle.annotation_encode.specs.Variables.{variables_of}
use Rattle.refutation_log.specs.Log.{IsClosed, IsFull}
use Rattle.document_text.specs.declared.order.Place.{Place}
use Rattle.document_text.specs.Order.{log_place}
use Rattle.document_text.specs.Parts.{LogPart}
use Rattle.circuit_names.specs.Names.{Names}
use Rattle.tlsf_expand.specs.Expansion.{Expanded}
use Rattle.document_check.specs.Facts.{Facts}
use Rattle.synth_engine.specs.Logs.{base_at}
use Rattle.synth_engine.specs.Outcomes.{OfSide}

-- the version of a document whose logs are over base clauses that count so
abbrev pub document_version : Counts → ℕ
document_version Whole = 3
document_version Local = 5

-- what holds of the problem of the side of a log
abbrev pub ForLog : Facts → (Problem → LogPart → Type 0) → LogPart → Type 0
ForLog x P l = OfSide x.system x.environment (λ p. P p l) l.side

-- the names of a flat text's signals
abbrev pub text_names : Expanded → Names
text_names x = record { inputs = x.inputs; outputs = x.outputs }

-- == the logs ==

-- the log is closed over the problem's base clauses, or full
abbrev pub IsClosedFor : Option ℕ → Problem → LogPart → Type 0
IsClosedFor limit p l = IsClosed (variables_of (sized p l.size)) (base_at p l.size) limit l.entries

abbrev pub IsFullFor : Option ℕ → Problem → LogPart → Type 0
IsFullFor limit p l = IsFull (variables_of (sized p l.size)) (base_at p l.size) limit l.entries

abbrev pub IsClosedLog : Facts → Option ℕ → LogPart → Type 0
IsClosedLog x limit l = ForLog x (IsClosedFor limit) l

abbrev pub IsFullLog : Facts → Option ℕ → LogPart → Type 0
IsFullLog x limit l = ForLog x (IsFullFor limit) l

abbrev pub IsEndedLog : Facts → Option ℕ → LogPart → Type 0
IsEndedLog x limit l = IsClosedLog x limit l ⊎ IsFullLog x limit l

-- the log of this place is full, and those before it are closed
pub record IsFirstOpen (x : Facts) (limit : Option ℕ) (at : Place) (logs : List LogPart) : Type 0 where
  pub before : List LogPart
  pub named : LogPart
  pub after : List LogPart
  pub split : logs ≡ before ++ named ∷ after
  pub is_at : log_place named ≡ at
  pub full : IsFullLog x limit named
  pub first : All (IsClosedLog x limit) before
