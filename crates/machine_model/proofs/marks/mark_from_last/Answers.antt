use Rattle.std.proofs.Common.{◌<◌, ◌-◌, true, length, drop, arith, rules}
use Rattle.std.proofs.lemmas.Bool.{OnFalse_at, OnTrue_at}
use Rattle.machine_model.specs.Marked.{target_of}
use Rattle.machine_model.proofs.Passing.{leaves_marks, marks_more, pass_before}
use Rattle.machine_model.proofs.marks.mark_from_last.Goals as goal

pub loop-place-preserved-then-mark_target : goal.loop-place-preserved-then-mark_target
loop-place-preserved-then-mark_target c =
    let inside : target_of c.args.way c.index-edges-place.result < length c.loop-place.marks = search rules in
    pass_before c.args.way c.args.automaton.now.edges c.edges-edges.result.now (c.loop-place.place - 1) c.loop-place.place c.index-edges-place.result c.args.marks.now c.mark_target.new.marks true
    c.edges-edges.ensures.value (search rules) (omega arith) c.index-edges-place.is
    (marks_more c.args.way (drop c.loop-place.place c.args.automaton.now.edges) c.index-edges-place.result c.args.marks.now c.loop-place.marks c.mark_target.new.marks c.loop-place.grows c.loop-place.invariant
    inside (OnTrue_at c.if-mark_target.true c.mark_target.ensures.marked))

pub loop-place-preserved : goal.loop-place-preserved
loop-place-preserved c =
    pass_before c.args.way c.args.automaton.now.edges c.edges-edges.result.now (c.loop-place.place - 1) c.loop-place.place c.index-edges-place.result c.args.marks.now c.mark_target.new.marks c.loop-place.grows
    c.edges-edges.ensures.value (search rules) (omega arith) c.index-edges-place.is
    (leaves_marks c.args.way (drop c.loop-place.place c.args.automaton.now.edges) c.index-edges-place.result c.args.marks.now c.loop-place.marks c.mark_target.new.marks c.loop-place.grows c.loop-place.invariant
    (OnFalse_at c.if-mark_target.false c.mark_target.ensures.left))
