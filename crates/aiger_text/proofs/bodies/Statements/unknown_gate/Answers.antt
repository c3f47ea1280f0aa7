use Rattle.std.proofs.Common.{◌≡◌, ◌<◌, ◌&&◌, length, get_or, not, sym, ap, ◌∙◌, arith, below_more}
use Rattle.std.proofs.lemmas.List.{get_or_default}
use Rattle.aiger_text.specs.declared.circuits.Gate.{Gate}
use Rattle.aiger_text.proofs.Gates.{no_gate}
use Rattle.aiger_text.specs.CircuitFile.{is_known}
use Rattle.aiger_text.specs.Statements.{stated}
use Rattle.aiger_text.proofs.Firsts.{first_is, none_is}
use Rattle.aiger_text.proofs.bodies.Statements.unknown_gate.Goals as goal

pub returns-clause-place : goal.returns-clause-place
returns-clause-place c = none_is (λ (x : Gate). not (is_known (stated c.args.self.now) x.left && is_known (stated c.args.self.now) x.right)) c.args.self.now.gates.items c.loop-place.place no_gate (omega arith) c.loop-place.invariant

pub returns-then-not-knows_operands-clause-place : goal.returns-then-not-knows_operands-clause-place
returns-then-not-knows_operands-clause-place c =
    let within : c.loop-place.place < length c.args.self.now.gates.items = omega arith in
    let same : get_or c.args.self.now.gates.items c.loop-place.place no_gate ≡ c.index-gate.result.now =
    get_or_default c.args.self.now.gates.items c.loop-place.place no_gate c.index-gate.result.now within ∙ sym c.index-gate.ensures in
    first_is (λ (x : Gate). not (is_known (stated c.args.self.now) x.left && is_known (stated c.args.self.now) x.right)) c.args.self.now.gates.items c.loop-place.place no_gate within c.loop-place.invariant
    (ap (λ (x : Gate). not (is_known (stated c.args.self.now) x.left && is_known (stated c.args.self.now) x.right)) same ∙ ap not (sym c.knows_operands.ensures ∙ c.if-not-knows_operands.true))

pub loop-place-preserved : goal.loop-place-preserved
loop-place-preserved c =
    let within : c.loop-place.place < length c.args.self.now.gates.items = omega arith in
    let same : get_or c.args.self.now.gates.items c.loop-place.place no_gate ≡ c.index-gate.result.now =
    get_or_default c.args.self.now.gates.items c.loop-place.place no_gate c.index-gate.result.now within ∙ sym c.index-gate.ensures in
    below_more _ _ c.loop-place.invariant (ap (λ (x : Gate). not (is_known (stated c.args.self.now) x.left && is_known (stated c.args.self.now) x.right)) same ∙ ap not (sym c.knows_operands.ensures ∙ c.if-not-knows_operands.false))
