-- Laws of the answers of `verify` (this project's own).
use Rattle.std.specs.Prelude.{◌≡◌, ℕ, ◌⊎◌, List, Option}
use Rattle.letters_and_lassos.specs.declared.kinds.Kind.{Kind}
use Rattle.letters_and_lassos.specs.declared.kinds.Side.TheVariants.{System, Environment}
use Rattle.spec_faults.specs.declared.code.SpecCode.{SpecCode}
use Rattle.spec_problems.specs.OfText.{IsFirstFault}
use Rattle.aiger_text.specs.CircuitFile.{File}
use Rattle.annot_check.specs.Pairs.{Listed}
use Rattle.named_annotation.specs.NamedStates.{Named}
use Rattle.program_replies.specs.Lines.{line_refusal, refusal_line}
use Rattle.solve_ground.specs.SolveText.{IsSolveFault}
use Rattle.circuit_check.specs.FirstBad as circuits
use Rattle.circuit_check.specs.Forms.{NamesStates}
use Rattle.verify_answer.specs.FirstBad.{Annotates, IsFirstBadOfCircuit, IsValidFor}
use Rattle.verify_answer.specs.Answer.{EnvironmentAnswers, GivenToTest, GivenToVerify, IsUntested, VerifyAnswers, facts_to_verify, owed_to, tested_line, verified_line}

-- A text, the kind that is given, if one is, and a file have one answer. Where the annotation names no states: status 1 where the text has a fault, 40 where the file has a bad
-- line for the text, and 0 where its annotation is valid for its circuit. Where it names them, the same of the text as `solve` takes it. So at
-- most one of these is so, with at most one line that is the first bad one.
pub record VerificationsAreDetermined : Type 0 where
  pub of_fault : (text : List ℕ) (given : Option Kind) (circuit bytes : List ℕ) (status : ℕ) (code : SpecCode) (position : ℕ) → VerifyAnswers text given circuit bytes status
      → IsFirstFault text given code position → IsUntested text given circuit → (status ≡ 1) × (bytes ≡ refusal_line code position)
  pub of_bad_line : (text : List ℕ) (given : Option Kind) (circuit bytes : List ℕ) (status : ℕ) (g : GivenToVerify text given) (n : ℕ) → VerifyAnswers text given circuit bytes status
      → (NamesStates circuit → ⊥) → IsFirstBadOfCircuit (facts_to_verify g) circuit n → (status ≡ 40) × (bytes ≡ line_refusal n)
  pub of_annotation : (text : List ℕ) (given : Option Kind) (circuit bytes : List ℕ) (status : ℕ) (g : GivenToVerify text given) (file : File) (list : Listed) → VerifyAnswers text given circuit bytes status
      → (NamesStates circuit → ⊥) → Annotates (facts_to_verify g) circuit file list → IsValidFor (facts_to_verify g) file list
      → (status ≡ 0) × (bytes ≡ verified_line (facts_to_verify g).system.kind)
  pub of_line_with_states : (text : List ℕ) (given : Option Kind) (circuit bytes : List ℕ) (status : ℕ) (g : GivenToTest text given) (n : ℕ) → VerifyAnswers text given circuit bytes status
      → NamesStates circuit → circuits.IsFirstBad (owed_to g.known System) circuit n → (status ≡ 40) × (bytes ≡ line_refusal n)
  pub of_states : (text : List ℕ) (given : Option Kind) (circuit bytes : List ℕ) (status : ℕ) (g : GivenToTest text given) (file : File) (named : Named) → VerifyAnswers text given circuit bytes status
      → NamesStates circuit → circuits.Annotates (owed_to g.known System) circuit file named → circuits.IsValidFor (owed_to g.known System) file named
      → (status ≡ 0) × (bytes ≡ tested_line System g.known.kind g.known.semantics)
  pub statuses : (text : List ℕ) (given : Option Kind) (circuit bytes : List ℕ) (status : ℕ) → VerifyAnswers text given circuit bytes status → (status ≡ 0) ⊎ ((status ≡ 1) ⊎ (status ≡ 40))

-- The same of the file of a circuit that plays the environment.
pub record EnvironmentsAreDetermined : Type 0 where
  pub of_fault : (text : List ℕ) (given : Option Kind) (circuit bytes : List ℕ) (status : ℕ) (code : SpecCode) (position : ℕ) → EnvironmentAnswers text given circuit bytes status
      → IsSolveFault text given code position → (status ≡ 1) × (bytes ≡ refusal_line code position)
  pub of_bad_line : (text : List ℕ) (given : Option Kind) (circuit bytes : List ℕ) (status : ℕ) (g : GivenToTest text given) (n : ℕ) → EnvironmentAnswers text given circuit bytes status
      → circuits.IsFirstBad (owed_to g.known Environment) circuit n → (status ≡ 40) × (bytes ≡ line_refusal n)
  pub of_annotation : (text : List ℕ) (given : Option Kind) (circuit bytes : List ℕ) (status : ℕ) (g : GivenToTest text given) (file : File) (named : Named) → EnvironmentAnswers text given circuit bytes status
      → circuits.Annotates (owed_to g.known Environment) circuit file named → circuits.IsValidFor (owed_to g.known Environment) file named
      → (status ≡ 0) × (bytes ≡ tested_line Environment g.known.kind g.known.semantics)
  pub statuses : (text : List ℕ) (given : Option Kind) (circuit bytes : List ℕ) (status : ℕ) → EnvironmentAnswers text given circuit bytes status → (status ≡ 0) ⊎ ((status ≡ 1) ⊎ (status ≡ 40))
