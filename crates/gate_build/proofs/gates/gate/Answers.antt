use Rattle.gate_build.proofs.Steps.{gate-is}
use Rattle.gate_build.proofs.gates.gate.Goals as goal

pub returns-clause-value : goal.returns-clause-value
returns-clause-value c = gate-is c.args.first c.args.gates.now.keys c.insert_full.new.self.keys c.args.operands c.in_ok-place.place c.in_ok-place.ensures.keys c.in_ok-place.ensures.index
