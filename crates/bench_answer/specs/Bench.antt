-- The answer of `bench` (this project's own).
use Rattle.std.specs.Prelude.{◌≡◌, ℕ, ◌++◌, true, false, List, Some, None, codes, decimal, if◌then◌else◌}
use Rattle.letters_and_lassos.specs.declared.kinds.Side.{Side}
use Rattle.letters_and_lassos.specs.declared.kinds.Side.TheVariants.{System, Environment}
use Rattle.arbiter_text.specs.Arbiter.{generated_text}
use Rattle.machine_model.specs.declared.counting.Counts.TheVariants.{Whole}
use Rattle.synth_engine.specs.declared.settings.Settings.{Settings}
use Rattle.document_text.specs.declared.documents.Verdict.{Verdict}
use Rattle.document_text.specs.declared.documents.Verdict.TheVariants.{Machine, Unknown}
use Rattle.document_text.specs.Parts.{Document}
use Rattle.document_text.specs.States.{States}
use Rattle.synth_answer.specs.Answer.{Answers}

-- how the search is bounded: the usual greatest size, no limit on the entries of a log, and all rejecting states are counted
abbrev pub bounds_of : ℕ → Settings
bounds_of workers = record { max = 4; entries = None; workers = workers; counts = Whole }

-- The status of a verdict. One that rests on a full log has none: where there is no limit, no log is full.
abbrev pub HasStatus : Verdict → ℕ → Type 0
HasStatus (Machine System states true) status = status ≡ 10
HasStatus (Machine Environment states true) status = status ≡ 20
HasStatus (Machine side states false) status = ⊥
HasStatus (Unknown None) status = status ≡ 30
HasStatus (Unknown (Some first)) status = ⊥

abbrev pub least_word : Side → List ℕ
least_word System = codes "realizable"
least_word Environment = codes "unrealizable"

abbrev pub word_of : Verdict → List ℕ
word_of (Machine side states least) = if least then least_word side else codes "unknown"
word_of (Unknown first) = codes "unknown"

-- the number of states of the smallest machine, or 0 where none is known
abbrev pub states_of : Verdict → ℕ
states_of (Machine side states least) = if least then states else 0
states_of (Unknown first) = 0

-- the three lines
abbrev pub lines_of : ℕ → Verdict → List ℕ
lines_of clients verdict =
    codes "clients " ++ decimal clients ++ codes "\nverdict " ++ word_of verdict ++ codes "\nstates " ++ decimal (states_of verdict) ++ codes "\n"

-- the bytes state a document with this verdict
pub record HasVerdict (bytes : List ℕ) (verdict : Verdict) : Type 0 where
  pub document : Document
  pub states : States bytes document
  pub verdict_is : document.verdict ≡ verdict

-- The bytes are the three lines of the verdict of a document that answers the text of so many clients, and the status is the answer's.
pub record BenchAnswer (clients workers : ℕ) (bytes : List ℕ) (status : ℕ) : Type 0 where
  pub document_bytes : List ℕ
  pub answers : Answers (generated_text clients) None (bounds_of workers) document_bytes status
  pub verdict : Verdict
  pub has_verdict : HasVerdict document_bytes verdict
  pub has_status : HasStatus verdict status
  pub lines : bytes ≡ lines_of clients verdict
