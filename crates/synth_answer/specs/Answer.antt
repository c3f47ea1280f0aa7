-- The answers of `synth`, each with its status (this project's own).
use Rattle.std.specs.Prelude.{◌≡◌, ℕ, ◌<◌, ◌≤◌, Bool, true, false, List, Option, Some, None, Any, Contains}
use Rattle.std.specs.Option.{option_map_or}
use Rattle.letters_and_lassos.specs.declared.kinds.Kind.{Kind}
use Rattle.letters_and_lassos.specs.declared.kinds.Side.{Side}
use Rattle.letters_and_lassos.specs.declared.kinds.Side.TheVariants.{System, Environment}
use Rattle.machine_model.specs.Machine.{MachineModel, size_of}
use Rattle.aiger_text.specs.Circuit.{Circuit, HasStates, RunsOnEveryInput}
use Rattle.spec_faults.specs.declared.code.SpecCode.{SpecCode}
use Rattle.spec_problems.specs.OfText.{IsFirstFault}
use Rattle.satisfaction.specs.Wanted.{Wanted}
use Rattle.satisfaction.specs.Satisfaction.{CircuitDefeats, CircuitSatisfies, Defeats, EachCanLose, NoneSatisfies, Satisfies}
use Rattle.synth_engine.specs.declared.settings.Settings.{Settings}
use Rattle.synth_engine.specs.Outcomes.{CannotFill}
use Rattle.document_text.specs.declared.documents.Verdict.{Verdict}
use Rattle.document_text.specs.declared.documents.Verdict.TheVariants.{Machine, Unknown}
use Rattle.document_text.specs.declared.order.Place.{Place}
use Rattle.document_text.specs.Order.{machine_of, place, log_place}
use Rattle.document_check.specs.Facts.{Facts, allowed_at}
use Rattle.document_text.specs.Parts.{Document, LogPart}
use Rattle.program_replies.specs.Lines.{refusal_line}
use Rattle.synth_answer.specs.Holds.{IsClosedLog, IsEndedLog, IsFirstOpen, IsFullLog}
use Rattle.text_ground.specs.Ground.{Ground, IsGroundOf, facts_on}
use Rattle.synth_answer.specs.Printed.{PrintedFor}

-- == sizes without a machine ==

-- a log of this side and size stands in the document, of which something holds
pub record HasLog (d : Document) (side : Side) (n : ℕ) (P : LogPart → Type 0) : Type 0 where
  pub log : LogPart
  pub stands : Contains d.logs log
  pub is_at : log_place log ≡ place side n
  pub holds : P log

-- no machine of the system of n states satisfies, as a closed log over the text's base clauses shows
pub record IsRefuted (x : Wanted) (given : Facts) (d : Document) (n : ℕ) : Type 0 where
  pub log : HasLog d System n (IsClosedLog given d.entries)
  pub none : NoneSatisfies x n

-- each machine of the environment of n states can lose, as a closed log over the text's base clauses shows
pub record CanBeBeaten (x : Wanted) (given : Facts) (d : Document) (n : ℕ) : Type 0 where
  pub log : HasLog d Environment n (IsClosedLog given d.entries)
  pub each : EachCanLose x n

-- == the circuit of a side, read back ==

-- what its side owes to the text
abbrev pub DoesItsPart : Wanted → Side → Circuit → Type 0
DoesItsPart x System c = CircuitSatisfies x c
DoesItsPart x Environment c = CircuitDefeats x c

-- == each answer with a document ==

-- some machine of the system of n states satisfies
pub record SomeSatisfies (x : Wanted) (n : ℕ) : Type 0 where
  pub machine : MachineModel
  pub size : size_of machine ≡ n
  pub satisfies : Satisfies x machine

-- some machine of the environment of n states defeats every machine
pub record SomeDefeats (x : Wanted) (n : ℕ) : Type 0 where
  pub machine : MachineModel
  pub size : size_of machine ≡ n
  pub defeats : Defeats x machine

-- a circuit of exactly n states that satisfies, as a machine of n states does, and no machine of fewer states does
pub record IsRealizable (x : Wanted) (given : Facts) (d : Document) (n : ℕ) (c : Circuit) : Type 0 where
  pub verdict : d.verdict ≡ Machine System n true
  pub circuit : d.circuit ≡ Some c
  pub satisfies : CircuitSatisfies x c
  pub machine : SomeSatisfies x n
  pub runs : RunsOnEveryInput System c
  pub states : HasStates c n
  pub smaller : (k : ℕ) → 0 < k → k < n → IsRefuted x given d k

-- a circuit of the environment of exactly n states that defeats every machine, as a machine of n states does, and no machine of fewer
-- states does
pub record IsUnrealizable (x : Wanted) (given : Facts) (d : Document) (n : ℕ) (c : Circuit) : Type 0 where
  pub verdict : d.verdict ≡ Machine Environment n true
  pub circuit : d.circuit ≡ Some c
  pub defeats : CircuitDefeats x c
  pub machine : SomeDefeats x n
  pub runs : RunsOnEveryInput Environment c
  pub states : HasStates c n
  pub smaller : (k : ℕ) → 0 < k → k < n → CanBeBeaten x given d k

-- a circuit of a side of at most n states, and not all smaller sizes are refuted: a log is full, which the limit allows
pub record IsBounded (x : Wanted) (given : Facts) (settings : Settings) (d : Document) (side : Side) (n : ℕ) (c : Circuit) : Type 0 where
  pub verdict : d.verdict ≡ Machine side n false
  pub circuit : d.circuit ≡ Some c
  pub does : DoesItsPart x side c
  pub runs : RunsOnEveryInput side c
  pub count : ℕ
  pub few : count ≤ n
  pub states : HasStates c count
  pub smaller : (k : ℕ) → 0 < k → k < n → HasLog d side k (IsEndedLog given d.entries)
  pub full : Any (IsFullLog given d.entries) d.logs
  pub can_fill : CannotFill given.system given.environment settings → ⊥

-- no machine of an allowed size of either side
pub record HasNoSize (x : Wanted) (given : Facts) (d : Document) : Type 0 where
  pub verdict : d.verdict ≡ Unknown None
  pub system : (k : ℕ) → 0 < k → k ≤ allowed_at given d.kind d.version d.max System → IsRefuted x given d k
  pub environment : (k : ℕ) → 0 < k → k ≤ allowed_at given d.kind d.version d.max Environment → CanBeBeaten x given d k

-- no machine was found, and the named log is full, and the first that isn't closed, which the limit allows
pub record HasNoEntries (given : Facts) (settings : Settings) (d : Document) (side : Side) (n : ℕ) : Type 0 where
  pub verdict : d.verdict ≡ Unknown (Some (place side n))
  pub named : IsFirstOpen given d.entries (place side n) d.logs
  pub system : (k : ℕ) → 0 < k → k ≤ allowed_at given d.kind d.version d.max System → HasLog d System k (IsEndedLog given d.entries)
  pub environment : (k : ℕ) → 0 < k → k ≤ allowed_at given d.kind d.version d.max Environment → HasLog d Environment k (IsEndedLog given d.entries)
  pub can_fill : CannotFill given.system given.environment settings → ⊥

-- == the answer ==

-- what of a printed document holds, with what is wanted and given
abbrev pub OfPrinted : {IsGround : Option Kind → Ground → Type 0} {kind : Option Kind} {settings : Settings} {bytes : List ℕ}
    → (Wanted → Facts → Document → Type 0) → PrintedFor IsGround kind settings bytes → Type 0
OfPrinted P p = P p.ground.wanted (facts_on p.ground p.problems) p.document

-- The bytes and the status that answer what has this first fault, or this ground: the line of the fault, or a document.
pub data AnswersFor (IsFault : SpecCode → ℕ → Type 0) (IsGround : Option Kind → Ground → Type 0) (kind : Option Kind) (settings : Settings)
    (bytes : List ℕ) (status : ℕ) : Type 0 where
  refused : (code : SpecCode) (position : ℕ) → status ≡ 1 → IsFault code position → bytes ≡ refusal_line code position
      → AnswersFor IsFault IsGround kind settings bytes status
  realizable : (p : PrintedFor IsGround kind settings bytes) (n : ℕ) (c : Circuit) → status ≡ 10
      → OfPrinted (λ x given d. IsRealizable x given d n c) p → AnswersFor IsFault IsGround kind settings bytes status
  unrealizable : (p : PrintedFor IsGround kind settings bytes) (n : ℕ) (c : Circuit) → status ≡ 20
      → OfPrinted (λ x given d. IsUnrealizable x given d n c) p → AnswersFor IsFault IsGround kind settings bytes status
  bounded : (p : PrintedFor IsGround kind settings bytes) (side : Side) (n : ℕ) (c : Circuit) → status ≡ 11
      → OfPrinted (λ x given d. IsBounded x given settings d side n c) p → AnswersFor IsFault IsGround kind settings bytes status
  no_size : (p : PrintedFor IsGround kind settings bytes) → status ≡ 30
      → OfPrinted (λ x given d. HasNoSize x given d) p → AnswersFor IsFault IsGround kind settings bytes status
  no_entries : (p : PrintedFor IsGround kind settings bytes) (side : Side) (n : ℕ) → status ≡ 30
      → OfPrinted (λ x given d. HasNoEntries given settings d side n) p → AnswersFor IsFault IsGround kind settings bytes status

-- what answers a text
abbrev pub Answers : List ℕ → Option Kind → Settings → List ℕ → ℕ → Type 0
Answers text kind settings bytes status = AnswersFor (IsFirstFault text kind) (IsGroundOf text) kind settings bytes status

-- whether a side is the environment's
abbrev pub is_environment : Side → Bool
is_environment System = false
is_environment Environment = true

-- whether a document of this verdict has a counter-machine
abbrev pub verdict_defeats : Verdict → Bool
verdict_defeats verdict = option_map_or (λ (machine : Place). is_environment machine.side) (machine_of verdict) false

-- whether there is a document, and it has one
abbrev pub told_defeats : Option Verdict → Bool
told_defeats None = false
told_defeats (Some verdict) = verdict_defeats verdict

-- the verdict of an answer's document, if it has one
abbrev pub verdict_of : {IsFault : SpecCode → ℕ → Type 0} {IsGround : Option Kind → Ground → Type 0} {kind : Option Kind} {settings : Settings}
    {bytes : List ℕ} {status : ℕ} → AnswersFor IsFault IsGround kind settings bytes status → Option Verdict
verdict_of (refused code position is fault line) = None
verdict_of (realizable p n c is holds) = Some (Machine System n true)
verdict_of (unrealizable p n c is holds) = Some (Machine Environment n true)
verdict_of (bounded p side n c is holds) = Some (Machine side n false)
verdict_of (no_size p is holds) = Some (Unknown None)
verdict_of (no_entries p side n is holds) = Some (Unknown (Some (place side n)))

-- an answer defeats where its document has a counter-machine
abbrev pub defeats : {IsFault : SpecCode → ℕ → Type 0} {IsGround : Option Kind → Ground → Type 0} {kind : Option Kind} {settings : Settings}
    {bytes : List ℕ} {status : ℕ} → AnswersFor IsFault IsGround kind settings bytes status → Bool
defeats answers = told_defeats (verdict_of answers)

-- an answer, and the verdict of its document
pub record IsToldFor (IsFault : SpecCode → ℕ → Type 0) (IsGround : Option Kind → Ground → Type 0) (kind : Option Kind) (settings : Settings)
    (bytes : List ℕ) (status : ℕ) (verdict : Option Verdict) : Type 0 where
  pub answers : AnswersFor IsFault IsGround kind settings bytes status
  pub told : verdict_of answers ≡ verdict

-- the same of what answers a text
abbrev pub IsTold : List ℕ → Option Kind → Settings → List ℕ → ℕ → Option Verdict → Type 0
IsTold text kind settings bytes status verdict = IsToldFor (IsFirstFault text kind) (IsGroundOf text) kind settings bytes status verdict

-- and of a document that answers over this ground, whatever has it
abbrev pub IsToldOn : Ground → Settings → List ℕ → ℕ → Option Verdict → Type 0
IsToldOn g settings bytes status verdict = IsToldFor (λ code position. ⊥) (λ kind other. other ≡ g) (Some g.wanted.kind) settings bytes status verdict

-- an answer, and whether it defeats
pub record IsAnswerFor (IsFault : SpecCode → ℕ → Type 0) (IsGround : Option Kind → Ground → Type 0) (kind : Option Kind) (settings : Settings)
    (bytes : List ℕ) (status : ℕ) (defeat : Bool) : Type 0 where
  pub answers : AnswersFor IsFault IsGround kind settings bytes status
  pub told : defeats answers ≡ defeat

-- a document that answers over this ground, whatever has it, and whether it defeats
abbrev pub IsAnswerOn : Ground → Settings → List ℕ → ℕ → Bool → Type 0
IsAnswerOn g settings bytes status defeat = IsAnswerFor (λ code position. ⊥) (λ kind other. other ≡ g) (Some g.wanted.kind) settings bytes status defeat
