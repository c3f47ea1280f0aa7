use Rattle.std.proofs.Common.{◌++◌, sym, ap, ◌∙◌}
use Rattle.std.proofs.lemmas.List.{append-nil}
use Rattle.unrealizable_core.proofs.Reducing.{kept_past}
use Rattle.unrealizable_core.proofs.whole.kept.Goals as goal

pub returns : goal.returns
returns c =
    let list = c.loop-place.list.items in
    let past = kept_past c.args.keep.now c.args.ids.now c.loop-place.place c.loop-place-test.false in
    sym (c.loop-place.invariant ∙ ap (λ more. list ++ more) past ∙ append-nil list)
