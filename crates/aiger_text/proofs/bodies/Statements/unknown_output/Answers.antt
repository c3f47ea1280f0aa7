use Rattle.std.proofs.Common.{◌≡◌, ◌<◌, ℕ, length, get_or, not, sym, ap, ◌∙◌, arith, below_more}
use Rattle.std.proofs.lemmas.List.{get_or_default}
use Rattle.aiger_text.specs.CircuitFile.{is_known}
use Rattle.aiger_text.specs.Statements.{stated}
use Rattle.aiger_text.proofs.Firsts.{first_is, none_is}
use Rattle.aiger_text.proofs.bodies.Statements.unknown_output.Goals as goal

pub returns-clause-place : goal.returns-clause-place
returns-clause-place c = none_is (λ (x : ℕ). not (is_known (stated c.args.self.now) x)) c.args.self.now.outputs.items c.loop-place.place 0 (omega arith) c.loop-place.invariant

pub returns-then-not-is_known-clause-place : goal.returns-then-not-is_known-clause-place
returns-then-not-is_known-clause-place c =
    let within : c.loop-place.place < length c.args.self.now.outputs.items = omega arith in
    let same : get_or c.args.self.now.outputs.items c.loop-place.place 0 ≡ c.index.result.now =
    get_or_default c.args.self.now.outputs.items c.loop-place.place 0 c.index.result.now within ∙ sym c.index.ensures in
    first_is (λ (x : ℕ). not (is_known (stated c.args.self.now) x)) c.args.self.now.outputs.items c.loop-place.place 0 within c.loop-place.invariant
    (ap (λ (x : ℕ). not (is_known (stated c.args.self.now) x)) same ∙ ap not (sym c.is_known.ensures ∙ c.if-not-is_known.true))

pub loop-place-preserved : goal.loop-place-preserved
loop-place-preserved c =
    let within : c.loop-place.place < length c.args.self.now.outputs.items = omega arith in
    let same : get_or c.args.self.now.outputs.items c.loop-place.place 0 ≡ c.index.result.now =
    get_or_default c.args.self.now.outputs.items c.loop-place.place 0 c.index.result.now within ∙ sym c.index.ensures in
    below_more _ _ c.loop-place.invariant (ap (λ (x : ℕ). not (is_known (stated c.args.self.now) x)) same ∙ ap not (sym c.is_known.ensures ∙ c.if-not-is_known.false))
