use Rattle.std.proofs.Common.{◌<◌, ◌≤◌, length, sym, ◌∙◌, rules}
use Rattle.machine_model.proofs.StateBits.{ored_more, ored_none, passed}
use Rattle.machine_model.proofs.reached.StateSet.pass.Goals as goal

pub loop-place-init : goal.loop-place-init
loop-place-init c = ored_none c.args.other.now.words c.args.self.now.words

pub loop-place-preserved : goal.loop-place-preserved
loop-place-preserved c =
    let within : c.loop-place.place < length c.loop-place.word-items = search rules in
    ored_more c.loop-place.place c.args.other.now.words c.args.self.now.words c.loop-place.word-items within c.loop-place.invariant

pub returns : goal.returns
returns c =
    let few : length c.args.other.now.words ≤ c.loop-place.place = search rules in
    passed c.loop-place.place c.args.k c.args.other.now.words c.args.self.now.words c.loop-place.word-items few (sym c.has.ensures ∙ c.if-not-has.false) c.loop-place.invariant
