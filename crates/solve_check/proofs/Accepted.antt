-- A document that holds for a text is true of what the text wants.
use Rattle.std.proofs.Common.{◌≡◌, ℕ, ◌<◌, ◌≤◌, true, Option, List, length, refl, sym, ap, subst, ◌∙◌}
use Rattle.std.proofs.lemmas.Bool.{and_parts}
use Rattle.std.specs.Prelude.{IfSome, Some, is_some, map}
use Rattle.std.specs.Bool.{beq}
use Rattle.letters_and_lassos.specs.declared.kinds.Kind.{Kind}
use Rattle.letters_and_lassos.specs.declared.kinds.Kind.TheVariants.{Mealy, Moore}
use Rattle.letters_and_lassos.specs.declared.kinds.Side.{Side}
use Rattle.letters_and_lassos.specs.declared.kinds.Side.TheVariants.{System, Environment}
use Rattle.letters_and_lassos.specs.contracts.kinds.KindPartialEq.TheImpl.{ghosts as kind_ghosts}
use Rattle.letters_and_lassos.specs.Kinds.{other_kind}
use Rattle.aiger_text.specs.Circuit.{Circuit, IsCircuitOfKind}
use Rattle.named_annotation.specs.Laws.{IsNeverTrue}
use Rattle.satisfaction.specs.Satisfaction.{EachCanLose, NoneSatisfies}
use Rattle.size_refutations.specs.Laws.{IsEnvironmentGround, IsGroundFor, IsSystemGround}
use Rattle.solve_ground.specs.declared.texts.SolveText.{SolveText}
use Rattle.solve_ground.specs.SolveText.{IsFormOf, IsSolveText}
use Rattle.solved_text.specs.declared.documents.Verdict.{Verdict}
use Rattle.solved_text.specs.declared.documents.Verdict.TheVariants.{Realizable, Unrealizable, Unknown}
use Rattle.solved_text.specs.Parts.{Document}
use Rattle.solved_text.specs.States.{HasText, States}
use Rattle.solve_check.specs.declared.acceptance.Acceptance.{Acceptance}
use Rattle.solve_check.specs.Accepted.{IsAcceptedSolved, IsController, IsCounterStrategy, IsTrueOf}
use Rattle.solve_check.specs.Checked.{IsAcceptedAs}
use Rattle.solve_check.specs.Given.{form_for, kind_for}
use Rattle.solve_check.specs.Holds.{HasCircuit, HasWhatIsSaid, HoldsSolved}
use Rattle.solve_check.specs.Line.{acceptance_of}
use Rattle.solve_check.specs.Parts.{AreLaws, IsSoundCircuit}
use Rattle.solve_check.specs.SizeLogs.{ground_for}
use Rattle.solve_check.proofs.LogSizes.{HasLog, log_of_size}
use Rattle.solve_check.proofs.Meaning.{defeats, satisfies}

kinds_are : (k l : Kind) → kind_ghosts.eq k l ≡ true → k ≡ l
kinds_are Mealy Mealy e = refl
kinds_are Mealy Moore e = absurd (cc)
kinds_are Moore Mealy e = absurd (cc)
kinds_are Moore Moore e = refl

module _ (laws : AreLaws) (text : List ℕ) (given : Option Kind) (t : SolveText) (is : IsSolveText text given t) (d : Document) (sound : IfSome d.circuit IsSoundCircuit) where
  module _ (side : Side) (n : ℕ) (has : HasCircuit t side n d) (form : IsFormOf side t.formulas is.wanted (form_for t side)) where
    sound_here : IsSoundCircuit has.circuit
    sound_here = subst (λ (o : Option Circuit). IfSome o IsSoundCircuit) has.circuit_is sound

    of_kind : IsCircuitOfKind (kind_for t side) has.circuit
    of_kind = sound_here.kind side (kind_for t side) has.annotation.named.automaton has.annotation.named.list.pairs has.annotation.valid

    never_true : IsNeverTrue side has.circuit t.formulas (form_for t side)
    never_true =
        laws.annotations side has.circuit (kind_for t side) t.formulas (form_for t side) d.annotation (length has.circuit.latches) (length has.circuit.inputs) has.annotation.named
        is.list form.stands form.normal has.annotation.stated has.annotation.valid

    -- each size has a log that holds
    its_log : (bytes : List ℕ) → States bytes d → (k : ℕ) → 0 < k → k ≤ length d.logs → HasLog (ground_for t side) k
    its_log bytes states k pos few =
        log_of_size (ground_for t side) _ d.logs (subst (λ (o : Option Circuit). HasText bytes o d) has.circuit_is states.text).logs has.logs k pos few

  ground_of : (side : Side) → IsFormOf side t.formulas is.wanted (form_for t side) → IsGroundFor (ground_for t side) is.wanted
  ground_of side form = record {
    list = is.list;
    stands = form.stands;
    normal = form.normal;
    inputs = ap length is.inputs;
    outputs = ap length is.outputs;
    few_inputs = is.few_inputs;
    few_outputs = is.few_outputs;
  }

  system_ground : IsSystemGround (ground_for t System) is.wanted
  system_ground = record { ground_for = ground_of System is.negated; of_system = refl; kind_is = is.kind_is; says = is.negated.says }

  environment_ground : IsEnvironmentGround (ground_for t Environment) is.wanted
  environment_ground = record { ground_for = ground_of Environment is.normal; of_environment = refl; kind_is = ap other_kind is.kind_is; says = is.normal.says }

  none_satisfies : (bytes : List ℕ) → States bytes d → (n : ℕ) → HasCircuit t System n d → (k : ℕ) → 0 < k → k ≤ length d.logs → NoneSatisfies is.wanted k
  none_satisfies bytes states n has k pos few =
      let found = its_log System n has is.negated bytes states k pos few in
      subst (NoneSatisfies is.wanted) found.size (laws.refute.systems (ground_for t System) found.log is.wanted system_ground found.holds)

  each_can_lose : (bytes : List ℕ) → States bytes d → (n : ℕ) → HasCircuit t Environment n d → (k : ℕ) → 0 < k → k ≤ length d.logs → EachCanLose is.wanted k
  each_can_lose bytes states n has k pos few =
      let found = its_log Environment n has is.normal bytes states k pos few in
      subst (EachCanLose is.wanted) found.size (laws.refute.environments (ground_for t Environment) found.log is.wanted environment_ground found.holds)

  controller : (bytes : List ℕ) → States bytes d → (n : ℕ) → HasCircuit t System n d → IsController is.wanted n (length d.logs) d
  controller bytes stated n has = record {
    circuit = has.circuit;
    circuit_is = has.circuit_is;
    is_circuit = (sound_here System n has is.negated).is_circuit;
    satisfies = satisfies t.formulas is.wanted t.negated has.circuit is.negated (never_true System n has is.negated)
        (subst (λ (k : Kind). IsCircuitOfKind k has.circuit) is.kind_is (of_kind System n has is.negated))
        (has.names.inputs ∙ ap (map Some) is.inputs) (has.names.outputs ∙ ap (map Some) is.outputs);
    runs = (sound_here System n has is.negated).runs System;
    states = has.states;
    no_machine = λ k pos few. none_satisfies bytes stated n has k pos few;
    no_circuit = λ k few. laws.no_controller is.wanted (length d.logs) (λ j pos less. none_satisfies bytes stated n has j pos less) k few;
  }

  counter_strategy : (bytes : List ℕ) → States bytes d → (n : ℕ) → HasCircuit t Environment n d → IsCounterStrategy is.wanted n (length d.logs) d
  counter_strategy bytes stated n has = record {
    circuit = has.circuit;
    circuit_is = has.circuit_is;
    is_circuit = (sound_here Environment n has is.normal).is_circuit;
    defeats = defeats t.formulas is.wanted t.normal has.circuit laws.defeat (sound_here Environment n has is.normal).is_circuit is.normal (never_true Environment n has is.normal)
        (subst (λ (k : Kind). IsCircuitOfKind (other_kind k) has.circuit) is.kind_is (of_kind Environment n has is.normal))
        (has.names.inputs ∙ ap (map Some) is.outputs) (has.names.outputs ∙ ap (map Some) is.inputs);
    runs = (sound_here Environment n has is.normal).runs Environment;
    states = has.states;
    no_machine = λ k pos few. each_can_lose bytes stated n has k pos few;
    no_circuit = λ k few. laws.no_counter_strategy is.wanted (length d.logs) (λ j pos less. each_can_lose bytes stated n has j pos less) k few;
  }

  true_of : (bytes : List ℕ) → States bytes d → (v : Verdict) → HasWhatIsSaid t d v → IsTrueOf is.wanted d v
  true_of bytes stated (Realizable n) has = controller bytes stated n has
  true_of bytes stated (Unrealizable n) has = counter_strategy bytes stated n has
  true_of bytes stated Unknown has = tt

  pub accepted : (bytes : List ℕ) → States bytes d → HoldsSolved t d → IsAcceptedSolved text given bytes d
  accepted bytes states holds =
      let same : t.kind ≡ d.kind = kinds_are t.kind d.kind (and_parts (kind_ghosts.eq t.kind d.kind) (beq (is_some t.semantics) d.converted) holds.taken).0 in
      record {
        known = t;
        is_known = is;
        states = states;
        holds = holds;
        flat = is.flat;
        wanted = is.wanted;
        taken = is.taken;
        kind_is = sym same ∙ is.kind_is;
        verdict = true_of bytes states d.verdict holds.said;
      }

  -- and this is told of it
  pub accepted_as : (bytes : List ℕ) (a : Acceptance) → States bytes d → HoldsSolved t d → a ≡ acceptance_of t d → IsAcceptedAs text given bytes a
  unfolding accepted
  accepted_as bytes a states holds told = record { document = d; accepted = accepted bytes states holds; told = told }
