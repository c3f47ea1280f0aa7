use Rattle.std.proofs.Common.{◌≡◌, ◌≤◌, sym, subst}
use Rattle.std.specs.Prelude.{IfOk, Result}
use Rattle.std.proofs.lemmas.Result.{IfOk-weaker}
use Rattle.aiger_text.specs.Circuit.{Circuit, IsCircuitOfKind}
use Rattle.gate_build.specs.Laws.{HasTheRunsOf, HasTheStatesOf}
use Rattle.gate_build.proofs.Bounds.{few_variables}
use Rattle.gate_build.proofs.Runs.{has_the_runs}
use Rattle.gate_build.proofs.States.{has_the_states, is_of_kind}
use Rattle.gate_build.proofs.circuits.circuit_of.Goals as goal

-- what holds of the circuit of the definition holds of the one that was made
of_made : {E : Type 0} (r : Result Circuit E) (P : Circuit → Type 0) (made : Circuit) → P made → IfOk r (λ c. c ≡ made) → IfOk r P
of_made r P made holds given = IfOk-weaker r (λ c. c ≡ made) P (λ c e. subst P (sym e) holds) given

pub returns-clause-runs : goal.returns-clause-runs
returns-clause-runs c =
    of_made c.put_together.result (HasTheRunsOf c.args.machine.now) _
    (has_the_runs c.args.machine.now c.args.read_names.now c.args.write_names.now c.requires.reads c.requires.writes c.split_literals.ensures.made c.requires.small.states) c.put_together.ensures

pub returns-clause-kind : goal.returns-clause-kind
returns-clause-kind c =
    of_made c.put_together.result (IsCircuitOfKind c.args.machine.now.kind) _
    (is_of_kind c.args.machine.now c.args.read_names.now c.args.write_names.now c.requires.reads c.requires.writes c.split_literals.ensures.made c.requires.small.states) c.put_together.ensures

pub returns-clause-states : goal.returns-clause-states
returns-clause-states c =
    of_made c.put_together.result (HasTheStatesOf c.args.machine.now) _
    (has_the_states c.args.machine.now c.args.read_names.now c.args.write_names.now c.requires.reads c.requires.writes c.split_literals.ensures.made c.requires.small.states) c.put_together.ensures

pub returns-clause-variables : goal.returns-clause-variables
returns-clause-variables c =
    of_made c.put_together.result (λ x. x.variables ≤ 67562) _
    (few_variables c.args.machine.now c.args.read_names.now c.args.write_names.now c.requires.reads c.requires.writes c.requires.small) c.put_together.ensures
