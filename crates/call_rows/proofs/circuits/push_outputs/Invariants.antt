use Rattle.aiger_text.specs.Step.{IsStateOf}
use Rattle.call_rows.proofs.circuits.push_outputs.Given as goal

abbrev pub invariant-loop-digit : goal.invariant-loop-digit
invariant-loop-digit l = IsStateOf l.circuit l.state
