-- The answer of `check` to a text and a certificate (this project's own).
use Rattle.std.specs.Prelude.{◌≡◌, ℕ, ◌<◌, ◌≤◌, ⊤, Bool, true, false, Option, List, ◌++◌, Some, None, All, IsTrue, codes, decimal}
use Rattle.letters_and_lassos.specs.declared.kinds.Kind.{Kind}
use Rattle.letters_and_lassos.specs.declared.kinds.Kind.TheVariants.{Mealy}
use Rattle.letters_and_lassos.specs.Kinds.{kind_word}
use Rattle.letters_and_lassos.specs.declared.kinds.Side.{Side}
use Rattle.letters_and_lassos.specs.declared.kinds.Side.TheVariants.{System, Environment}
use Rattle.refutation_log.specs.Log.{is_ended}
use Rattle.spec_faults.specs.declared.code.SpecCode.{SpecCode}
use Rattle.tlsf_expand.specs.FlatText.{FlatText}
use Rattle.spec_problems.specs.declared.sides.SideProblems.{SideProblems}
use Rattle.spec_problems.specs.OfText.{AreProblemsOf, IsFirstFault}
use Rattle.satisfaction.specs.Wanted.{Wanted}
use Rattle.satisfaction.specs.Satisfaction.{EachCanLose, NoneSatisfies}
use Rattle.document_text.specs.declared.documents.Verdict.{Verdict}
use Rattle.document_text.specs.declared.documents.Verdict.TheVariants.{Machine, Unknown}
use Rattle.document_text.specs.Order.{has_logs}
use Rattle.document_text.specs.Parts.{Document}
use Rattle.document_text.specs.States.{States}
use Rattle.document_check.specs.Facts.{Facts, allowed_at}
use Rattle.document_check.specs.Holds.{HoldsFor}
use Rattle.document_check.specs.FirstBad.{IsFirstBadFor}
use Rattle.program_replies.specs.Lines.{line_refusal, refusal_line}
use Rattle.text_ground.specs.Ground.{IsWantedBy}
use Rattle.text_ground.specs.Ground.{given_by}
use Rattle.solve_ground.specs.declared.texts.SolveText.{SolveText}
use Rattle.solve_ground.specs.SolveText.{IsSolveFault}
use Rattle.solved_text.specs.Reading.{IsSixth, Reads, SolvedLines}
use Rattle.solve_check.specs.declared.acceptance.Acceptance.{Acceptance}
use Rattle.solve_check.specs.Asked.{IsAsked}
use Rattle.solve_check.specs.Checked.{IsAcceptedAs}
use Rattle.solve_check.specs.FirstBad.{IsFirstBadSolved}
use Rattle.solve_check.specs.Line as solved
use Rattle.machine_model.specs.declared.counting.Counts.TheVariants.{Whole}

-- == the line of a document that is accepted ==

-- what is told of a machine, which is the least or needn't be, begins so
abbrev pub machine_words : Side → Bool → List ℕ
machine_words System true = codes "realizable "
machine_words System false = codes "bounded system "
machine_words Environment true = codes "unrealizable "
machine_words Environment false = codes "bounded environment "

-- what is told of a verdict: the same of each without a machine
abbrev pub verdict_words : Verdict → List ℕ
verdict_words (Machine side states least) = machine_words side least ++ decimal states
verdict_words (Unknown first) = codes "unknown"

abbrev pub accepted_line : Verdict → Kind → List ℕ
accepted_line verdict kind = codes "accepted " ++ verdict_words verdict ++ codes " as " ++ kind_word kind ++ codes "\n"

-- == the text ==

-- A text's flat form and the problems of its two sides. It is taken with a kind given, so that kinds of its own that differ are no
-- fault; which kind makes no difference, and neither does what the problems' numbers count, since the test of documents takes a
-- document's own kind and version in their place.
pub record GivenToCheck (text : List ℕ) : Type 0 where
  pub spec : FlatText
  pub problems : SideProblems
  pub are_problems : AreProblemsOf text (Some Mealy) Whole spec problems

-- what the text gives to the test of documents
abbrev pub facts_to_check : {text : List ℕ} → GivenToCheck text → Facts
facts_to_check g = given_by g.spec g.problems

-- == a document that is accepted ==

-- no machine of n states of this side: none of the system satisfies, or each of the environment can lose
abbrev pub HasNoMachine : Wanted → Side → ℕ → Type 0
HasNoMachine x System n = NoneSatisfies x n
HasNoMachine x Environment n = EachCanLose x n

-- What a verdict says of sizes, with the numbers of allowed sizes: that a machine is the smallest of its side, or that there is none.
-- A counter-machine of versions 1 and 2 comes without logs, and logs that may be full say nothing.
abbrev pub SaysOfSizes : Wanted → ℕ → ℕ → ℕ → Verdict → Type 0
SaysOfSizes x version system environment (Machine side n true) = IsTrue (has_logs version side) → (k : ℕ) → 0 < k → k < n → HasNoMachine x side k
SaysOfSizes x version system environment (Machine side n false) = ⊤
SaysOfSizes x version system environment (Unknown None) =
    ((k : ℕ) → 0 < k → k ≤ system → NoneSatisfies x k) × ((k : ℕ) → 0 < k → k ≤ environment → EachCanLose x k)
SaysOfSizes x version system environment (Unknown (Some first)) = ⊤

-- The bytes state the document, which holds for the text. What is wanted of machines is what the text wants, with the document's
-- kind, and each log that ends with the empty clause shows that its side has no machine of its size; so the verdict says what it does
-- of sizes. Nothing is said of the circuit but that it reads and has the text's names.
pub record IsAcceptedDocument (text certificate : List ℕ) (given : Facts) (d : Document) : Type 0 where
  pub states : States certificate d
  pub holds : HoldsFor given d
  pub wanted : Wanted
  pub is_wanted : IsWantedBy text (Some d.kind) wanted
  pub refuted : All (λ l. is_ended l.entries ≡ true → HasNoMachine wanted l.side l.size) d.logs
  pub told : SaysOfSizes wanted d.version (allowed_at given d.kind d.version d.max System) (allowed_at given d.kind d.version d.max Environment) d.verdict

-- == documents of version 6 ==

-- the text has no fault as `solve` takes it, within larger limits; which kind is given makes no difference
pub record IsTakenBySolve (text : List ℕ) : Type 0 where
  pub none : (code : SpecCode) (position : ℕ) → IsSolveFault text (Some Mealy) code position → ⊥

-- A certificate of version 6, with what its lines state, and the text as it asks for it, which `solve` takes. It makes no difference
-- whether the text has a fault within the limits of the other commands.
pub record GivenToSolved (text certificate : List ℕ) : Type 0 where
  pub sixth : IsSixth certificate
  pub taken : IsTakenBySolve text
  pub lines : SolvedLines
  pub reads : Reads certificate lines
  pub given : Option Kind
  pub known : SolveText
  pub asked : IsAsked text lines.header given known

-- what answers a certificate of version 6 and a text that is taken so: the certificate's first bad line for the text, or the line that
-- tells what is accepted
pub data SolvedAnswers (text : List ℕ) (given : Option Kind) (known : SolveText) (certificate bytes : List ℕ) (status : ℕ) : Type 0 where
  line_fails : (n : ℕ) → status ≡ 40 → IsFirstBadSolved known certificate n → bytes ≡ line_refusal n
      → SolvedAnswers text given known certificate bytes status
  told : (a : Acceptance) → status ≡ 0 → IsAcceptedAs text given certificate a → bytes ≡ solved.accepted_line a
      → SolvedAnswers text given known certificate bytes status

-- why the first fault of a text is answered, and the certificate isn't tested: it isn't of version 6, or the text has a fault as `solve`
-- takes it too
pub data IsUntested (text certificate : List ℕ) : Type 0 where
  of_earlier_version : (IsSixth certificate → ⊥) → IsUntested text certificate
  refused_by_solve : (code : SpecCode) (position : ℕ) → IsSolveFault text (Some Mealy) code position → IsUntested text certificate

-- == the answer ==

-- The bytes and the status that answer a text and a certificate: the line of the text's first fault, that of the certificate's first
-- bad line for the text, or that of the document that it states. A document of version 6 is tested against the text as `solve` takes it.
pub data CheckAnswers (text certificate bytes : List ℕ) (status : ℕ) : Type 0 where
  refused : (code : SpecCode) (position : ℕ) → status ≡ 1 → IsFirstFault text (Some Mealy) code position → IsUntested text certificate
      → bytes ≡ refusal_line code position → CheckAnswers text certificate bytes status
  bad_line : (g : GivenToCheck text) (n : ℕ) → status ≡ 40 → (IsSixth certificate → ⊥) → IsFirstBadFor (facts_to_check g) certificate n
      → bytes ≡ line_refusal n → CheckAnswers text certificate bytes status
  accepted : (g : GivenToCheck text) (d : Document) → status ≡ 0 → (IsSixth certificate → ⊥)
      → IsAcceptedDocument text certificate (facts_to_check g) d → bytes ≡ accepted_line d.verdict d.kind
      → CheckAnswers text certificate bytes status
  of_solved : (g : GivenToSolved text certificate) → SolvedAnswers text g.given g.known certificate bytes status
      → CheckAnswers text certificate bytes status
