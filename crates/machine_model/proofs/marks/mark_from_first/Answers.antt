use Rattle.std.proofs.Common.{rules, ◌≡◌, ◌+◌, ◌<◌, ◌∷◌, ◌++◌, [], List, length, take, sym, subst}
use Rattle.std.proofs.lemmas.Bool.{OnFalse_at, OnTrue_at}
use Rattle.machine_model.specs.declared.automata.Edge.{Edge}
use Rattle.machine_model.specs.Marked.{IsPass, target_of}
use Rattle.machine_model.proofs.Passing.{leaves_marks, marks_more, took}
use Rattle.machine_model.proofs.marks.mark_from_first.Goals as goal
use Rattle.machine_model.proofs.marks.mark_from_first.Goals.{else-mark_target, then-mark_target}

pub loop-edge-preserved : goal.loop-edge-preserved
loop-edge-preserved c =
    let edges : List Edge = c.args.automaton.now.edges in
    let more : take (c.loop-edge.edge-index + 1) c.args.automaton.now.edges ≡ take c.loop-edge.edge-index c.args.automaton.now.edges ++ c.edge-item.result ∷ []
    = took c.args.automaton.now.edges c.edges-edge-items.result.now c.loop-edge.edge-index c.edge-item.result c.edges-edge-items.ensures.value c.loop-edge-test.true c.edge-item.is in
    let inside : target_of c.args.way c.edge-item.result < length c.loop-edge.marks = search rules in
    elim c.if-mark_target.branch [
      | then-mark_target w ↦
          subst (λ xs. IsPass c.args.way xs c.args.marks.now c.mark_target.new.marks c.if-mark_target.grows) (sym more)
          (subst (λ g. IsPass c.args.way (take c.loop-edge.edge-index c.args.automaton.now.edges ++ c.edge-item.result ∷ []) c.args.marks.now c.mark_target.new.marks g) (sym w.grows-is)
          (marks_more c.args.way (take c.loop-edge.edge-index c.args.automaton.now.edges) c.edge-item.result c.args.marks.now c.loop-edge.marks c.mark_target.new.marks c.loop-edge.grows c.loop-edge.invariant
          inside (OnTrue_at w.if-mark_target.true c.mark_target.ensures.marked)))
      | else-mark_target w ↦
          subst (λ xs. IsPass c.args.way xs c.args.marks.now c.mark_target.new.marks c.if-mark_target.grows) (sym more)
          (subst (λ g. IsPass c.args.way (take c.loop-edge.edge-index c.args.automaton.now.edges ++ c.edge-item.result ∷ []) c.args.marks.now c.mark_target.new.marks g) (sym w.grows-is)
          (leaves_marks c.args.way (take c.loop-edge.edge-index c.args.automaton.now.edges) c.edge-item.result c.args.marks.now c.loop-edge.marks c.mark_target.new.marks c.loop-edge.grows c.loop-edge.invariant
          (OnFalse_at w.if-mark_target.false c.mark_target.ensures.left)))
    ]
