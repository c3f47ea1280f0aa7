-- When a document holds for a text (this project's own).
use Rattle.std.specs.Prelude.{◌≡◌, ℕ, ◌≤◌, ◌⊎◌, ⊤, Bool, true, false, not, Option, Some, None, List, [], ◌∷◌, map, IsTrue, IfSome, nat_le, is_some, if◌then◌else◌}
use Rattle.std.specs.Option.{option_map_or}
use Rattle.propositional_logic.specs.Literal.{Literal}
use Rattle.letters_and_lassos.specs.declared.kinds.Kind.{Kind}
use Rattle.letters_and_lassos.specs.declared.kinds.Side.{Side}
use Rattle.letters_and_lassos.specs.declared.kinds.Side.TheVariants.{System, Environment}
use Rattle.machine_model.specs.declared.problems.Problem.{Problem}
use Rattle.annotation_encode.specs.BaseClauses.{base_clauses}
use Rattle.annotation_encode.specs.Count.{count_of}
use Rattle.annotation_encode.specs.Variables.{variables_of}
use Rattle.refutation_log.specs.declared.entries.Entry.{Entry}
use Rattle.refutation_log.specs.Log.{is_ended, IsClosed, IsFull}
use Rattle.aiger_text.specs.Circuit.{Circuit}
use Rattle.document_text.specs.declared.documents.Verdict.{Verdict}
use Rattle.document_text.specs.declared.documents.Verdict.TheVariants.{Machine, Unknown}
use Rattle.document_text.specs.Parts.{LogPart, Document}
use Rattle.document_text.specs.Order.{machine_of, named_of, order_of, log_place, verdict_of}
use Rattle.document_text.specs.contracts.documents.VerdictPartialEq.TheImpl.{ghosts as verdict_ghosts}
use Rattle.document_text.specs.declared.order.Place.{Place}
use Rattle.circuit_names.specs.Names as names
use Rattle.document_check.specs.Facts.{Facts, names_in, problem_at, allowed_at, for_side, wanted_sizes, circuit_side}

-- the number that a verdict names is at most that of its side's allowed sizes
abbrev pub is_allowed : Verdict → ℕ → ℕ → Bool
is_allowed verdict system environment = option_map_or (λ (p : Place). nat_le p.size (for_side p.side system environment)) (named_of verdict) true

-- the logs of this verdict may be full where they aren't closed
abbrev pub may_be_full : Verdict → Bool
may_be_full (Machine side states least) = not least
may_be_full (Unknown first) = is_some first

-- the first log that isn't closed
abbrev pub first_open : List LogPart → Option Place
first_open [] = None
first_open (l ∷ logs) = if is_ended l.entries then first_open logs else Some (log_place l)

-- The verdict is what is said of its machine, or of none, beside logs of which this is the first that isn't closed: a machine is the least
-- where there is no such log, and without a machine the verdict names it.
abbrev pub names_open : Verdict → Option Place → Bool
names_open verdict open_log = verdict_ghosts.eq verdict (verdict_of (machine_of verdict) open_log)

-- a log is closed, or full where that is allowed
abbrev pub IsAsWanted : Bool → ℕ → List (List Literal) → Option ℕ → List Entry → Type 0
IsAsWanted false vars base limit entries = IsClosed vars base limit entries
IsAsWanted true vars base limit entries = IsClosed vars base limit entries ⊎ IsFull vars base limit entries

-- a log over the base clauses of this problem
pub record IsLogOf (full : Bool) (limit : Option ℕ) (l : LogPart) (p : Problem) : Type 0 where
  pub vars : l.vars ≡ variables_of p
  pub base : count_of p ≡ Some l.base
  pub wanted : IsAsWanted full (variables_of p) (base_clauses p) limit l.entries

-- there is such a problem, and the log is over its base clauses
abbrev pub IsLogOfSome : Bool → Option ℕ → LogPart → Option Problem → Type 0
IsLogOfSome full limit l None = ⊥
IsLogOfSome full limit l (Some p) = IsLogOf full limit l p

-- the log is over the base clauses of its side's problem of its size, for this kind and version
abbrev pub HoldsAt : Facts → Kind → ℕ → Bool → Option ℕ → LogPart → Type 0
HoldsAt facts kind version full limit l = IsLogOfSome full limit l (problem_at facts kind version l.side l.size)

abbrev pub AllHold : Facts → Kind → ℕ → Bool → Option ℕ → List LogPart → Type 0
AllHold facts kind version full limit [] = ⊤
AllHold facts kind version full limit (l ∷ logs) = HoldsAt facts kind version full limit l × AllHold facts kind version full limit logs

-- each input and each output has the text's name for it
abbrev pub HasNames : Facts → Side → Circuit → Type 0
HasNames facts side c = names.HasNames (names_in facts) side c

-- Of a document that is well formed: its circuit has the text's names, its numbers are within the allowed sizes, its logs are those
-- that its verdict wants, each closed, or full where that is allowed, over the base clauses of its problem, and the verdict names the
-- log that it says it does.
pub record HoldsFor (facts : Facts) (d : Document) : Type 0 where
  pub names : IfSome d.circuit (HasNames facts (circuit_side d.verdict))
  pub number : IsTrue (is_allowed d.verdict (allowed_at facts d.kind d.version d.max System) (allowed_at facts d.kind d.version d.max Environment))
  pub found : d.found ≤ allowed_at facts d.kind d.version d.max System
  pub sizes : map log_place d.logs ≡ wanted_sizes (order_of d.version d.verdict d.max d.found) (allowed_at facts d.kind d.version d.max System) (allowed_at facts d.kind d.version d.max Environment)
  pub logs : AllHold facts d.kind d.version (may_be_full d.verdict) d.entries d.logs
  pub named : IsTrue (names_open d.verdict (first_open d.logs))
