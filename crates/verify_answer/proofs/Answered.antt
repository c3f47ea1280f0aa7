-- From what was found to the answer.
use Rattle.std.proofs.Common.{◌≡◌, ℕ, Option, List, Result, Ok, Err, IfOk, length, refl, sym, ap, ◌∙◌}
use Rattle.text_limits.specs.declared.TheConstants.{SMALL_LIMITS}
use Rattle.letters_and_lassos.specs.declared.kinds.Kind.{Kind}
use Rattle.letters_and_lassos.specs.declared.kinds.Side.TheVariants.{System}
use Rattle.aiger_text.specs.Circuit.{Circuit, RunsOnEveryInput}
use Rattle.tlsf_expand.specs.Meaning.{means}
use Rattle.tlsf_expand.specs.FlatText.{FlatText, spec_seen}
use Rattle.spec_problems.specs.declared.texts.TextProblems.{TextProblems}
use Rattle.spec_problems.specs.declared.sides.SideProblems.{SideProblems}
use Rattle.spec_problems.specs.OfFormula.{AreProblems}
use Rattle.spec_problems.specs.OfText.{AreProblemsOf}
use Rattle.satisfaction.specs.Wanted.{Wanted}
use Rattle.document_check.specs.Facts.{Facts, names_in}
use Rattle.annot_check.specs.Laws.{AcceptsFalse, SatisfiesAs}
use Rattle.program_replies.specs.Lines.{line_refusal}
use Rattle.program_replies.specs.declared.replies.Status.{Status}
use Rattle.program_replies.specs.declared.replies.Status.TheVariants as ended
use Rattle.program_replies.specs.Statuses.{status_number}
use Rattle.text_ground.specs.Ground.{IsWantedBy}
use Rattle.text_ground.specs.Ground.{given_by}
use Rattle.text_ground.specs.Texts.{AreOfText, IfProblems}
use Rattle.text_ground.specs.declared.texts.Problems.{Problems}
use Rattle.text_ground.specs.declared.texts.Problems.TheVariants.{Of, Refused}
use Rattle.circuit_check.specs.Forms.{NamesStates}
use Rattle.verify_answer.specs.Answer.{GivenToVerify, VerifyAnswers, bad_line, verified, verified_line}
use Rattle.verify_answer.specs.FirstBad.{IsFirstBadOfCircuit, over}
use Rattle.verify_answer.specs.Reply.{AreForVerify, AreReady, IsForVerify, IsShown}
use Rattle.verify_answer.specs.Verified.{HasSignals, IsSatisfying}
use Rattle.verify_answer.proofs.Naming.{kind_named, run_unnamed}
use Rattle.verify_answer.proofs.Signals.{has_signals}
use Rattle.machine_model.specs.declared.counting.Counts.TheVariants.{Whole}

-- what the text gives to the test of circuits is ready
ready : (text : List ℕ) (given : Option Kind) (spec : FlatText) (s : SideProblems) → AreProblemsOf text given Whole spec s → AreProblems s → AreReady (given_by spec s)
ready text given spec s are meet = record {
  problem = meet.is_system;
  inputs = are.problems.problems.of_system.inputs ∙ sym (ap (λ x. length x.inputs) are.same);
  outputs = are.problems.problems.of_system.outputs ∙ sym (ap (λ x. length x.outputs) are.same);
}

-- a text's problems for `verify`, or the line of its first fault
pub for_verify : {E : Type 0} (text : List ℕ) (given : Option Kind) (found : Result Problems E) → IfOk found (AreOfText Whole text given) → IfOk found (IfProblems (λ t. AreProblems t.problems))
    → IfOk found (AreForVerify text given)
for_verify text given (Ok (Of t)) of_text meet = record { text_with = of_text; ready = ready text given (spec_seen t.spec) t.problems of_text.are meet }
for_verify text given (Ok (Refused reply)) r meet = r
for_verify text given (Err e) of_text meet = tt

module _ (text : List ℕ) (given : Option Kind) (t : TextProblems) (taken : IsForVerify text given t) where
  abbrev spec : FlatText
  spec = spec_seen t.spec

  abbrev facts : Facts
  facts = given_by spec t.problems

  -- what the text wants, by its written tree
  abbrev wanted : Wanted
  wanted = record {
    inputs = spec.expanded.inputs;
    outputs = spec.expanded.outputs;
    kind = t.problems.system.kind;
    means = λ w. means SMALL_LIMITS w taken.text_with.says.tree;
  }

  kind_is : t.problems.system.kind ≡ spec.expanded.kind
  kind_is = taken.text_with.are.problems.problems.of_system.kind ∙ sym (ap (λ x. x.kind) taken.text_with.are.same)

  is_wanted : IsWantedBy text given wanted
  is_wanted = record {
    flat = taken.text_with.are.flat;
    is_flat = taken.text_with.are.is_flat;
    inputs = ap (λ x. x.inputs) taken.text_with.are.same;
    outputs = ap (λ x. x.outputs) taken.text_with.are.same;
    kind_is = taken.text_with.are.problems.problems.of_system.kind;
    tree = taken.text_with.says.tree;
    read = taken.text_with.says.read;
    meaning = λ w. refl;
  }

  -- the automaton accepts each lasso on which the text is false
  accepts : AcceptsFalse wanted.means (over facts)
  accepts = record {
    lassos = λ w ring no. (taken.text_with.accept.system_where.lassos w ring).1 (taken.text_with.says.meaning.same w ∙ no);
  }

  satisfying : (c : Circuit) → HasSignals facts.inputs facts.outputs c → SatisfiesAs System t.problems.system.kind wanted.means c → RunsOnEveryInput System c → IsSatisfying wanted c
  satisfying c signals owed runs = record {
    signals = signals;
    satisfies = record {
      kind = kind_named facts.inputs facts.outputs c t.problems.system.kind owed.kind;
      inputs = refl;
      outputs = refl;
      means = λ w run. owed.means w run.0 (run_unnamed facts.inputs facts.outputs c System w run.0 run.1);
    };
    runs = runs;
  }

  pub shown_answers : (circuit bytes : List ℕ) (status : Status) → (NamesStates circuit → ⊥) → IsShown facts circuit → bytes ≡ verified_line t.problems.system.kind → status ≡ ended.Done
      → VerifyAnswers text given circuit bytes (status_number status)
  shown_answers circuit bytes status unnamed shown line done =
      let by = shown.shown in
      let g : GivenToVerify text given = record { spec = spec; problems = t.problems; are_problems = taken.text_with.are } in
      verified g (ap status_number done) unnamed (record {
        file = shown.file;
        list = shown.list;
        annotates = shown.annotates;
        valid = by.valid;
        wanted = wanted;
        is_wanted = is_wanted;
        satisfying = satisfying shown.file.circuit (has_signals (names_in facts) shown.file by.circuit shown.annotates.commented.of_text.fits) (by.satisfies wanted.means accepts) by.runs;
      }) line

  pub bad_answers : (circuit bytes : List ℕ) (status : Status) (n : ℕ) → (NamesStates circuit → ⊥) → IsFirstBadOfCircuit facts circuit n → bytes ≡ line_refusal n → status ≡ ended.LineRefused
      → VerifyAnswers text given circuit bytes (status_number status)
  bad_answers circuit bytes status n unnamed first line done =
      let g : GivenToVerify text given = record { spec = spec; problems = t.problems; are_problems = taken.text_with.are } in
      bad_line g n (ap status_number done) unnamed first line
