-- From what was found out of a file whose annotation names its states to the answer.
use Rattle.std.proofs.Common.{◌≡◌, ◌≢◌, ℕ, ◌≤◌, Option, List, length, refl, sym, ap, subst, ◌∙◌, arith}
use Rattle.std.proofs.lemmas.Bool.{not-false}
use Rattle.letters_and_lassos.specs.declared.kinds.Kind.{Kind}
use Rattle.letters_and_lassos.specs.declared.kinds.Side.{Side}
use Rattle.letters_and_lassos.specs.declared.kinds.Side.TheVariants.{System, Environment}
use Rattle.letters_and_lassos.specs.Kinds.{other_kind}
use Rattle.machine_model.specs.declared.counting.Counts.TheVariants.{Whole}
use Rattle.aiger_text.specs.Circuit.{Circuit, IsCircuitOfKind}
use Rattle.circuit_laws.specs.Laws.{LosingCircuitsDefeat}
use Rattle.circuit_check.specs.FirstBad.{IsFirstBad}
use Rattle.circuit_check.specs.Parts.{IsShown}
use Rattle.program_replies.specs.Lines.{line_refusal}
use Rattle.program_replies.specs.declared.replies.Status.{Status}
use Rattle.program_replies.specs.declared.replies.Status.TheVariants as ended
use Rattle.program_replies.specs.Statuses.{status_number}
use Rattle.solve_ground.specs.declared.texts.SolveText.{SolveText}
use Rattle.solve_ground.specs.Laws.{SolveTextsAreDetermined}
use Rattle.solve_ground.specs.SolveText.{IsSolveFault, IsSolveText}
use Rattle.program_replies.specs.declared.replies.Reply.{Reply}
use Rattle.program_replies.specs.Refusals.{RefusedBy}
use Rattle.verify_answer.specs.Answer.{TestAnswers, line_fails, owed_to, refused, refused_by_solve, shown, tested_line, text_refused}
use Rattle.spec_faults.specs.declared.code.SpecFault.{SpecFault}
use Rattle.spec_faults.specs.declared.code.SpecFault.TheVariants as failed
use Rattle.tlsf_expand.specs.FlatText.{spec_seen}
use Rattle.spec_problems.specs.declared.texts.TextProblems.{TextProblems}
use Rattle.spec_problems.specs.Laws.{ProblemsOfTextsAreDetermined}
use Rattle.limit_laws.specs.Taken.{SmallTextsAreTaken}
use Rattle.verify_answer.specs.Reply.{IsForVerify, IsReadyFor, IsRefusedAnyway, IsRefusedFor, IsSolveRefusal, IsTestable}
use Rattle.verify_answer.specs.Verified.{DoesItsPart, HasSignals, IsDefeating, IsSatisfying, named_as}
use Rattle.verify_answer.proofs.Naming.{circuit_named, kind_named, run_unnamed}
use Rattle.verify_answer.proofs.Signals.{has_signals}

module _ (text : List ℕ) (given : Option Kind) (t : SolveText) (is : IsSolveText text given t) where
  -- the text is ready for the test of circuits of either side
  pub ready : IsReadyFor t
  ready = record {
    system = record {
      list = is.list;
      stands = is.negated.stands;
      normal = is.negated.normal;
      few_inputs = (let few : length t.inputs.items ≤ 16 = is.few_inputs in omega (arith, few));
      few_outputs = (let few : length t.outputs.items ≤ 16 = is.few_outputs in omega (arith, few));
    };
    environment = record {
      list = is.list;
      stands = is.normal.stands;
      normal = is.normal.normal;
      few_inputs = (let few : length t.outputs.items ≤ 16 = is.few_outputs in omega (arith, few));
      few_outputs = (let few : length t.inputs.items ≤ 16 = is.few_inputs in omega (arith, few));
    };
  }

  pub testable : SolveTextsAreDetermined → IsTestable text given t
  testable texts = record { is_text = is; ready = ready; no_fault = λ code place fault. texts.no_fault text given t code place is fault }

  satisfying : (circuit : List ℕ) (found : IsShown (owed_to t System) circuit) → IsSatisfying is.wanted found.file.circuit
  satisfying circuit found =
      let c : Circuit = found.file.circuit in
      let here : HasSignals t.inputs.items t.outputs.items found.file.circuit =
      has_signals (owed_to t System).names found.file found.keeps.circuit found.annotates.commented.fitting.fits in
      let signals : HasSignals is.wanted.inputs is.wanted.outputs found.file.circuit =
      subst (λ (ins : List (List ℕ)). HasSignals ins is.wanted.outputs found.file.circuit) is.inputs
      (subst (λ (outs : List (List ℕ)). HasSignals t.inputs.items outs found.file.circuit) is.outputs here) in
      record {
        signals = signals;
        satisfies = record {
          kind = kind_named is.wanted.inputs is.wanted.outputs found.file.circuit is.wanted.kind
              (subst (λ (k : Kind). IsCircuitOfKind k found.file.circuit) is.kind_is found.keeps.of_kind);
          inputs = refl;
          outputs = refl;
          means = λ w run.
              let own = run_unnamed is.wanted.inputs is.wanted.outputs found.file.circuit System w run.0 run.1 in
              not-false (is.wanted.means w) (sym (is.negated.says w own.lasso.ring) ∙ found.keeps.never.never w run.0 own);
        };
        runs = found.keeps.runs;
      }

  module _ (losing : LosingCircuitsDefeat) where
    defeating : (circuit : List ℕ) (found : IsShown (owed_to t Environment) circuit) → IsDefeating is.wanted found.file.circuit
    defeating circuit found =
        let here : HasSignals t.outputs.items t.inputs.items found.file.circuit =
        has_signals (owed_to t Environment).names found.file found.keeps.circuit found.annotates.commented.fitting.fits in
        let signals : HasSignals is.wanted.outputs is.wanted.inputs found.file.circuit =
        subst (λ (ins : List (List ℕ)). HasSignals ins is.wanted.inputs found.file.circuit) is.outputs
        (subst (λ (outs : List (List ℕ)). HasSignals t.outputs.items outs found.file.circuit) is.inputs here) in
        record {
          signals = signals;
          defeats = (losing is.wanted (named_as is.wanted.outputs is.wanted.inputs found.file.circuit) (record {
            circuit = circuit_named is.wanted.outputs is.wanted.inputs found.file.circuit found.keeps.circuit signals;
            kind = kind_named is.wanted.outputs is.wanted.inputs found.file.circuit (other_kind is.wanted.kind)
                (subst (λ (k : Kind). IsCircuitOfKind (other_kind k) found.file.circuit) is.kind_is found.keeps.of_kind);
            inputs = refl;
            outputs = refl;
          })).0 (λ w run.
              let own = run_unnamed is.wanted.outputs is.wanted.inputs found.file.circuit Environment w run.0 run.1 in
              sym (is.normal.says w own.lasso.ring) ∙ found.keeps.never.never w run.0 own);
          runs = found.keeps.runs;
        }

    does : (side : Side) (circuit : List ℕ) (found : IsShown (owed_to t side) circuit) → DoesItsPart side is.wanted found.file.circuit
    does System circuit found = satisfying circuit found
    does Environment circuit found = defeating circuit found

    pub shown_answers : (side : Side) (circuit bytes : List ℕ) (status : Status) → IsShown (owed_to t side) circuit → bytes ≡ tested_line side t.kind t.semantics
        → status ≡ ended.Done → TestAnswers side text given circuit t bytes (status_number status)
    unfolding does
    shown_answers side circuit bytes status found line done =
        shown (ap status_number done) (record {
          file = found.file;
          named = found.named;
          annotates = found.annotates;
          valid = found.valid;
          flat = is.flat;
          wanted = is.wanted;
          taken = is.taken;
          does = does side circuit found;
        }) line

  pub bad_answers : (side : Side) (circuit bytes : List ℕ) (status : Status) (n : ℕ) → IsFirstBad (owed_to t side) circuit n → bytes ≡ line_refusal n
      → status ≡ ended.LineRefused → TestAnswers side text given circuit t bytes (status_number status)
  bad_answers side circuit bytes status n first line done = line_fails n (ap status_number done) first line

-- == a text before a circuit is taken ==

-- a fault that `solve` finds too is answered whatever the circuit is
pub system_refused : (text : List ℕ) (given : Option Kind) (r : Reply) → IsRefusedAnyway text given r → IsRefusedFor System text given r
system_refused text given r is = λ circuit. refused is.fault.code is.fault.place is.fault.status_is is.fault.fault (refused_by_solve is.code is.place is.larger) is.fault.line

pub environment_refused : (text : List ℕ) (given : Option Kind) (r : Reply) → RefusedBy (IsSolveFault text given) r.bytes.items (status_number r.status) → IsRefusedFor Environment text given r
environment_refused text given r is = λ circuit. text_refused is.code is.place is.status_is is.fault is.line

-- a text that has a fault as `solve` takes it has one within smaller limits, so it has no problems
pub never_given : SmallTextsAreTaken → ProblemsOfTextsAreDetermined → (text : List ℕ) (given : Option Kind) (fault : SpecFault) (t : TextProblems) → fault ≢ failed.NoMemory
    → IsSolveRefusal text given fault → IsForVerify text given t → ⊥
never_given small problems text given failed.NoMemory t some refusal taken = some refl
never_given small problems text given (failed.At code place) t some refusal taken =
    small text given (λ c p fault. problems.no_fault text given Whole (spec_seen t.spec) t.problems c p taken.text_with.are fault) code place refusal
