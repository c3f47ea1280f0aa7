-- The answers of `verify` to a text and a circuit's file (this project's own).
use Rattle.std.specs.Prelude.{◌≡◌, ℕ, List, [], ◌++◌, Option, Some, None, codes}
use Rattle.letters_and_lassos.specs.declared.kinds.Kind.{Kind}
use Rattle.letters_and_lassos.specs.declared.kinds.Kind.TheVariants.{Mealy, Moore}
use Rattle.letters_and_lassos.specs.declared.kinds.Side.{Side}
use Rattle.letters_and_lassos.specs.declared.kinds.Side.TheVariants.{System, Environment}
use Rattle.letters_and_lassos.specs.Kinds.{kind_word, other_kind}
use Rattle.spec_faults.specs.declared.code.SpecCode.{SpecCode}
use Rattle.tlsf_expand.specs.FlatText.{FlatText}
use Rattle.spec_problems.specs.declared.sides.SideProblems.{SideProblems}
use Rattle.spec_problems.specs.OfText.{AreProblemsOf, IsFirstFault}
use Rattle.document_check.specs.Facts.{Facts}
use Rattle.program_replies.specs.Lines.{line_refusal, refusal_line}
use Rattle.text_ground.specs.Ground.{given_by}
use Rattle.solve_ground.specs.declared.texts.SolveText.{SolveText}
use Rattle.solve_ground.specs.SolveText.{IsSolveFault, IsSolveText}
use Rattle.circuit_check.specs.Duty.{Owed}
use Rattle.circuit_check.specs.FirstBad.{IsFirstBad}
use Rattle.circuit_check.specs.Forms.{NamesStates}
use Rattle.verify_answer.specs.FirstBad.{IsFirstBadOfCircuit}
use Rattle.verify_answer.specs.Verified.{IsVerified, IsVerifiedFor}
use Rattle.machine_model.specs.declared.counting.Counts.TheVariants.{Whole}

-- == an annotation over the system's automaton ==

-- the line of a circuit that is verified, with the text's kind
abbrev pub verified_line : Kind → List ℕ
verified_line Mealy = codes "verified as Mealy\n"
verified_line Moore = codes "verified as Moore\n"

-- a text's flat form and the problems of its two sides, with the kind that it names
pub record GivenToVerify (text : List ℕ) (given : Option Kind) : Type 0 where
  pub spec : FlatText
  pub problems : SideProblems
  pub are_problems : AreProblemsOf text given Whole spec problems

-- what the text gives to the test of circuits
abbrev pub facts_to_verify : {text : List ℕ} {given : Option Kind} → GivenToVerify text given → Facts
facts_to_verify g = given_by g.spec g.problems

-- == an annotation that names its states ==

abbrev pub side_words : Side → List ℕ
side_words System = codes "verified as "
side_words Environment = codes "verified environment as "

-- the SEMANTICS of a converted text
abbrev pub conversion_words : Option Kind → List ℕ
conversion_words None = []
conversion_words (Some kind) = codes " of " ++ kind_word kind ++ codes " semantics"

-- the line of a circuit of this side that is verified, with the system's kind
abbrev pub tested_line : Side → Kind → Option Kind → List ℕ
tested_line side kind semantics = side_words side ++ kind_word kind ++ conversion_words semantics ++ codes "\n"

-- what a circuit of a side owes to a text as `solve` takes it: one of the environment reads the outputs and writes the inputs, and is of
-- the other kind
abbrev pub owed_to : SolveText → Side → Owed
owed_to t System = record {
  names = record { inputs = t.inputs.items; outputs = t.outputs.items };
  side = System;
  kind = t.kind;
  nodes = t.formulas;
  form = t.negated;
}
owed_to t Environment = record {
  names = record { inputs = t.outputs.items; outputs = t.inputs.items };
  side = Environment;
  kind = other_kind t.kind;
  nodes = t.formulas;
  form = t.normal;
}

-- a text as `solve` takes it, within larger limits, and converted where its kinds differ
pub record GivenToTest (text : List ℕ) (given : Option Kind) : Type 0 where
  pub known : SolveText
  pub is_text : IsSolveText text given known

-- what answers the file of a circuit of a side and a text that is known so: the file's first bad line for the text, or what is verified
pub data TestAnswers (side : Side) (text : List ℕ) (given : Option Kind) (circuit : List ℕ) (t : SolveText) (bytes : List ℕ) (status : ℕ) : Type 0 where
  line_fails : (n : ℕ) → status ≡ 40 → IsFirstBad (owed_to t side) circuit n → bytes ≡ line_refusal n
      → TestAnswers side text given circuit t bytes status
  shown : status ≡ 0 → IsVerifiedFor side text given circuit (owed_to t side) → bytes ≡ tested_line side t.kind t.semantics
      → TestAnswers side text given circuit t bytes status

-- == the answers ==

-- why the first fault of a text is answered, and the circuit isn't tested: its annotation names no states, or the text has a fault as
-- `solve` takes it too
pub data IsUntested (text : List ℕ) (given : Option Kind) (circuit : List ℕ) : Type 0 where
  without_states : (NamesStates circuit → ⊥) → IsUntested text given circuit
  refused_by_solve : (code : SpecCode) (position : ℕ) → IsSolveFault text given code position → IsUntested text given circuit

-- The bytes and the status that answer a text and the file of a circuit that plays the system: the line of the text's first fault, that
-- of the file's first bad line for the text, or what is verified. Where the annotation names its states, the text is taken as `solve`
-- takes it.
pub data VerifyAnswers (text : List ℕ) (given : Option Kind) (circuit bytes : List ℕ) (status : ℕ) : Type 0 where
  refused : (code : SpecCode) (position : ℕ) → status ≡ 1 → IsFirstFault text given code position → IsUntested text given circuit
      → bytes ≡ refusal_line code position → VerifyAnswers text given circuit bytes status
  bad_line : (g : GivenToVerify text given) (n : ℕ) → status ≡ 40 → (NamesStates circuit → ⊥) → IsFirstBadOfCircuit (facts_to_verify g) circuit n
      → bytes ≡ line_refusal n → VerifyAnswers text given circuit bytes status
  verified : (g : GivenToVerify text given) → status ≡ 0 → (NamesStates circuit → ⊥) → IsVerified text given circuit (facts_to_verify g)
      → bytes ≡ verified_line (facts_to_verify g).system.kind → VerifyAnswers text given circuit bytes status
  of_states : (g : GivenToTest text given) → NamesStates circuit → TestAnswers System text given circuit g.known bytes status
      → VerifyAnswers text given circuit bytes status

-- The same of a circuit that plays the environment, whose annotation names its states in any case: the text is taken as `solve` takes it.
pub data EnvironmentAnswers (text : List ℕ) (given : Option Kind) (circuit bytes : List ℕ) (status : ℕ) : Type 0 where
  text_refused : (code : SpecCode) (position : ℕ) → status ≡ 1 → IsSolveFault text given code position → bytes ≡ refusal_line code position
      → EnvironmentAnswers text given circuit bytes status
  of_text : (g : GivenToTest text given) → TestAnswers Environment text given circuit g.known bytes status → EnvironmentAnswers text given circuit bytes status

-- the answer to the file of a circuit that plays this side
abbrev pub CircuitAnswers : Side → List ℕ → Option Kind → List ℕ → List ℕ → ℕ → Type 0
CircuitAnswers System text given circuit bytes status = VerifyAnswers text given circuit bytes status
CircuitAnswers Environment text given circuit bytes status = EnvironmentAnswers text given circuit bytes status
