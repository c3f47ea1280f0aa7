-- What keeps a command from its work: the first fault of its text, or the first bad line of its list or its other file (this project's own).
use Rattle.std.specs.Prelude.{◌≡◌, ℕ, Option, Some, None, List, IfSome}
use Rattle.text_limits.specs.declared.TheConstants.{SMALL_LIMITS}
use Rattle.letters_and_lassos.specs.declared.kinds.Kind.{Kind}
use Rattle.letters_and_lassos.specs.declared.kinds.Kind.TheVariants.{Mealy}
use Rattle.letters_and_lassos.specs.declared.kinds.Side.{Side}
use Rattle.letters_and_lassos.specs.declared.kinds.Side.TheVariants.{System, Environment}
use Rattle.spec_faults.specs.declared.code.SpecCode.{SpecCode}
use Rattle.flat_text.specs.FlatOf.{IsFlatFault, IsFlatOf}
use Rattle.spec_problems.specs.OfText.{IsFirstFault}
use Rattle.document_check.specs.FirstBad.{IsFirstBadFor}
use Rattle.solved_text.specs.Reading.{IsSixth}
use Rattle.solve_check.specs.FirstBad.{IsFirstBadSolved}
use Rattle.check_answer.specs.Answer.{GivenToCheck, GivenToSolved, IsUntested, facts_to_check}
use Rattle.lasso_word.specs.WordText.{IsFirstBadWordLine}
use Rattle.verify_answer.specs.Answer.{GivenToTest, GivenToVerify, facts_to_verify, owed_to}
use Rattle.verify_answer.specs.Answer as circuits
use Rattle.circuit_check.specs.FirstBad.{IsFirstBad}
use Rattle.circuit_check.specs.Forms.{NamesStates}
use Rattle.verify_answer.specs.FirstBad.{IsFirstBadOfCircuit}
use Rattle.core_answer.specs.Core.{IsCoreFault}
use Rattle.solve_ground.specs.declared.texts.SolveText.{SolveText}
use Rattle.solve_ground.specs.SolveText.{IsSolveFault, IsSolveText}
use Rattle.batch_answer.specs.ListText.{IsFirstBadLineOfList}
use Rattle.flat_lines.specs.FlatLines.{all_names}
use Rattle.tlsf_expand.specs.FlatText.{FlatText}
use Rattle.input_output.specs.Files.{Files, bytes_under}
use Rattle.program_replies.specs.Lines.{line_refusal, refusal_line}
use Rattle.program_words.specs.Settings.{Asked, synth, check, expand, expand_solve, lasso, lasso_solve, gen, bench, verify, core, batch, solve}
use Rattle.boundsyn_top.specs.Commands.{AnswersAsked}
use Rattle.boundsyn_top.specs.Files.{HoldsOfFile}

-- The fault for which `check` refuses a text with a certificate, taken as with a kind that is given: the text's first one, but where the
-- certificate is of version 6 and the text has none as `solve` takes it.
pub data IsCheckFault (text certificate : List ℕ) : SpecCode → ℕ → Type 0 where
  of_text : (code : SpecCode) (place : ℕ) → IsFirstFault text (Some Mealy) code place → IsUntested text certificate
      → IsCheckFault text certificate code place

-- The fault for which `verify` refuses a text with the file of a circuit that plays the system: the text's first one, unless the circuit's
-- annotation names its states and `solve` takes the text.
pub record IsSystemFault (text : List ℕ) (given : Option Kind) (circuit : List ℕ) (code : SpecCode) (place : ℕ) : Type 0 where
  pub fault : IsFirstFault text given code place
  pub untested : circuits.IsUntested text given circuit

-- with a circuit that plays the environment, the first one that the text has as `solve` takes it
abbrev pub IsVerifyFault : Side → List ℕ → Option Kind → List ℕ → SpecCode → ℕ → Type 0
IsVerifyFault System text given circuit code place = IsSystemFault text given circuit code place
IsVerifyFault Environment text given circuit code place = IsSolveFault text given code place

-- The first fault of the text that a command takes. `check` takes it as with a kind that is given, `expand` and `lasso` have no normal
-- forms and no automata, `core` takes few guarantees, and `solve` takes larger texts, and converts those whose kinds differ; so do `expand` and `lasso`
-- with `--solve`. The texts of a list are refused each for itself.
abbrev pub HasFault : Files → Asked → SpecCode → ℕ → Type 0
HasFault files (synth spec wanted kind) code place = IsFirstFault (bytes_under files spec) kind code place
HasFault files (check spec certificate) code place = IsCheckFault (bytes_under files spec) (bytes_under files certificate) code place
HasFault files (expand spec) code place = IsFlatFault SMALL_LIMITS (bytes_under files spec) None code place
HasFault files (expand_solve spec kind nodes) code place = IsSolveFault (bytes_under files spec) kind code place
HasFault files (lasso spec word) code place = IsFlatFault SMALL_LIMITS (bytes_under files spec) None code place
HasFault files (lasso_solve spec word kind) code place = IsSolveFault (bytes_under files spec) kind code place
HasFault files (gen clients) code place = ⊥
HasFault files (bench clients workers) code place = ⊥
HasFault files (verify side kind spec circuit) code place = IsVerifyFault side (bytes_under files spec) kind (bytes_under files circuit) code place
HasFault files (core spec wanted kind) code place = IsCoreFault (bytes_under files spec) kind code place
HasFault files (batch list wanted) code place = ⊥
HasFault files (solve spec kind refutations) code place = IsSolveFault (bytes_under files spec) kind code place

-- The fault that a text has as `synth` takes it, for which `verify` refuses it where the circuit's file can't be read. With a circuit that plays the
-- environment there is none, since the text is taken as `solve` takes it whatever the circuit is.
abbrev pub IsSynthFault : Side → List ℕ → Option Kind → SpecCode → ℕ → Type 0
IsSynthFault System text given code place = IsFirstFault text given code place
IsSynthFault Environment text given code place = ⊥

-- The same of each command: of `check` with a kind that is given, and none of those that take a text in one way, whatever their other file is.
abbrev pub HasSynthFault : Option Files → Asked → SpecCode → ℕ → Type 0
HasSynthFault told (synth spec wanted kind) code place = ⊥
HasSynthFault told (check spec certificate) code place = HoldsOfFile told spec (λ text. IsFirstFault text (Some Mealy) code place)
HasSynthFault told (expand spec) code place = ⊥
HasSynthFault told (expand_solve spec kind nodes) code place = ⊥
HasSynthFault told (lasso spec word) code place = ⊥
HasSynthFault told (lasso_solve spec word kind) code place = ⊥
HasSynthFault told (gen clients) code place = ⊥
HasSynthFault told (bench clients workers) code place = ⊥
HasSynthFault told (verify side kind spec circuit) code place = HoldsOfFile told spec (λ text. IsSynthFault side text kind code place)
HasSynthFault told (core spec wanted kind) code place = ⊥
HasSynthFault told (batch list wanted) code place = ⊥
HasSynthFault told (solve spec kind refutations) code place = ⊥

-- there is none of these faults
pub record HasNone (Fault : SpecCode → ℕ → Type 0) : Type 0 where
  pub none : (code : SpecCode) (place : ℕ) → Fault code place → ⊥

-- the text has no such fault, where that is told
pub record HasNoSynthFault (told : Option Files) (asked : Asked) : Type 0 where
  pub none : IfSome told (λ files. HasNone (HasSynthFault (Some files) asked))

-- `check` refuses the text whatever the certificate is: it has a fault, and one as `solve` takes it too
pub record IsRefusedAnyway (text : List ℕ) : Type 0 where
  pub code : SpecCode
  pub place : ℕ
  pub fault : IsFirstFault text (Some Mealy) code place
  pub larger_code : SpecCode
  pub larger_place : ℕ
  pub larger : IsSolveFault text (Some Mealy) larger_code larger_place

-- the text has a fault as `solve` takes it, so `verify` takes no circuit
pub record IsRefusedBySolve (text : List ℕ) (given : Option Kind) : Type 0 where
  pub code : SpecCode
  pub place : ℕ
  pub fault : IsSolveFault text given code place

-- `check` doesn't, so the certificate is taken
pub record TakesCertificates (text : List ℕ) : Type 0 where
  pub unless : IsRefusedAnyway text → ⊥

-- The text has no fault, and this is the certificate's first bad line for it; or the certificate is of version 6, and that of the text as
-- `solve` takes it.
pub data IsBadCertificate (text certificate : List ℕ) (line : ℕ) : Type 0 where
  earlier : (given : GivenToCheck text) → (IsSixth certificate → ⊥) → IsFirstBadFor (facts_to_check given) certificate line
      → IsBadCertificate text certificate line
  solved : (given : GivenToSolved text certificate) → IsFirstBadSolved given.known certificate line → IsBadCertificate text certificate line

-- the text has no fault, and this is the first bad line of the word over its signals
pub record IsBadWord (text word : List ℕ) (line : ℕ) : Type 0 where
  pub flat : FlatText
  pub is_flat : IsFlatOf SMALL_LIMITS text None flat
  pub bad : IsFirstBadWordLine word (all_names flat.expanded) line

-- the same of a text as `solve` takes it
pub record IsBadSolvedWord (text : List ℕ) (given : Option Kind) (word : List ℕ) (line : ℕ) : Type 0 where
  pub known : SolveText
  pub is : IsSolveText text given known
  pub bad : IsFirstBadWordLine word (all_names is.flat.expanded) line

-- The text has no fault, the circuit's annotation names no states, and this is the first bad line of the circuit's file for the text; or it names
-- some, and this is that for the text as `solve` takes it.
pub data IsBadSystem (text : List ℕ) (kind : Option Kind) (circuit : List ℕ) (line : ℕ) : Type 0 where
  listed : (given : GivenToVerify text kind) → (NamesStates circuit → ⊥) → IsFirstBadOfCircuit (facts_to_verify given) circuit line
      → IsBadSystem text kind circuit line
  named : (given : GivenToTest text kind) → NamesStates circuit → IsFirstBad (owed_to given.known System) circuit line → IsBadSystem text kind circuit line

-- the text has no fault as `solve` takes it, and this is the first bad line for it of the file of a circuit that plays the environment
pub record IsBadEnvironment (text : List ℕ) (kind : Option Kind) (circuit : List ℕ) (line : ℕ) : Type 0 where
  pub given : GivenToTest text kind
  pub bad : IsFirstBad (owed_to given.known Environment) circuit line

abbrev pub IsBadCircuit : Side → List ℕ → Option Kind → List ℕ → ℕ → Type 0
IsBadCircuit System text kind circuit line = IsBadSystem text kind circuit line
IsBadCircuit Environment text kind circuit line = IsBadEnvironment text kind circuit line

-- The text has no fault, and this is the first bad line of the other file; or it is that of the list.
abbrev pub HasBadLine : Files → Asked → ℕ → Type 0
HasBadLine files (synth spec wanted kind) n = ⊥
HasBadLine files (check spec certificate) n = IsBadCertificate (bytes_under files spec) (bytes_under files certificate) n
HasBadLine files (expand spec) n = ⊥
HasBadLine files (expand_solve spec kind nodes) n = ⊥
HasBadLine files (lasso spec word) n = IsBadWord (bytes_under files spec) (bytes_under files word) n
HasBadLine files (lasso_solve spec word kind) n = IsBadSolvedWord (bytes_under files spec) kind (bytes_under files word) n
HasBadLine files (gen clients) n = ⊥
HasBadLine files (bench clients workers) n = ⊥
HasBadLine files (verify side kind spec circuit) n = IsBadCircuit side (bytes_under files spec) kind (bytes_under files circuit) n
HasBadLine files (core spec wanted kind) n = ⊥
HasBadLine files (batch list wanted) n = IsFirstBadLineOfList (bytes_under files list) n
HasBadLine files (solve spec kind refutations) n = ⊥

-- Nothing but its line answers a fault, or a bad line. A fault that a text has as `synth` takes it is the one for which it is refused, if it is.
pub record RefusalsAreDetermined : Type 0 where
  pub of_text : (files : Files) (asked : Asked) (bytes : List ℕ) (status : ℕ) (code : SpecCode) (place : ℕ) → HasFault files asked code place
      → AnswersAsked (Some files) asked bytes status → (status ≡ 1) × (bytes ≡ refusal_line code place)
  pub of_line : (files : Files) (asked : Asked) (bytes : List ℕ) (status n : ℕ) → HasBadLine files asked n
      → AnswersAsked (Some files) asked bytes status → (status ≡ 40) × (bytes ≡ line_refusal n)
  pub of_unread : (files : Files) (asked : Asked) (code code' : SpecCode) (place place' : ℕ) → HasFault files asked code place
      → HasSynthFault (Some files) asked code' place' → (code ≡ code') × (place ≡ place')
  pub one_unread : (files : Files) (asked : Asked) (code code' : SpecCode) (place place' : ℕ) → HasSynthFault (Some files) asked code place
      → HasSynthFault (Some files) asked code' place' → (code ≡ code') × (place ≡ place')
