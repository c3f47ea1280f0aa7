use Rattle.std.proofs.Common.{◌≡◌, ◌∙◌, take, sym, refl, ap, subst}
use Rattle.std.specs.Prelude.{All}
use Rattle.std.proofs.lemmas.Bool.{true≢false}
use Rattle.std.proofs.lemmas.List.{take_all}
use Rattle.std.proofs.lemmas.List.Elements.{All-more, All-same}
use Rattle.machine_model.specs.Problem.{automaton_of}
use Rattle.letters_and_lassos.specs.Cube.{Fits}
use Rattle.machine_model.specs.declared.automata.Edge.{Edge}
use Rattle.product_bound.specs.Kept.{KeepsEdge, KeepsNumber}
use Rattle.product_bound.proofs.annotations.keeps_edges.Goals as goal

pub loop-edge-preserved : goal.loop-edge-preserved
loop-edge-preserved c =
    let P : Edge → Type 0 = KeepsEdge c.args.problem.now c.args.machine.now c.args.numbers.now c.args.t c.args.read in
    let kept : KeepsNumber c.args.problem.now c.args.numbers.now c.args.t c.edge-item.result.from c.next-next.result c.edge-item.result.to = c.keeps_number.ensures.0 c.if-not-keeps_number.false in
    let here : P c.edge-item.result = record { edge = λ _. rw c.next-next.ensures.value at kept } in
    All-more P c.edges-edges.result.now c.loop-edge.edge-index c.edge-item.result c.loop-edge-test.true c.loop-edge.invariant (subst P c.edge-item.is here)

pub loop-edge-preserved-then-not-fits : goal.loop-edge-preserved-then-not-fits
loop-edge-preserved-then-not-fits c =
    let P : Edge → Type 0 = KeepsEdge c.args.problem.now c.args.machine.now c.args.numbers.now c.args.t c.args.read in
    let here : P c.edge-item.result = record {
      edge = λ fits. absurd (true≢false (sym (c.fits.ensures.1 (subst (λ l. Fits c.edge-item.result.cube l) (sym c.whole_letter-letter.ensures) fits)) ∙ c.if-not-fits.true));
    } in
    All-more P c.edges-edges.result.now c.loop-edge.edge-index c.edge-item.result c.loop-edge-test.true c.loop-edge.invariant (subst P c.edge-item.is here)

pub returns : goal.returns
returns c =
    let edges : c.edges-edges.result.now ≡ (automaton_of c.args.problem.now).edges = c.edges-edges.ensures.value ∙ ap (λ a. a.edges) c.deref.ensures in
    let kept : All (KeepsEdge c.args.problem.now c.args.machine.now c.args.numbers.now c.args.t c.args.read) c.edges-edges.result.now = All-same (KeepsEdge c.args.problem.now c.args.machine.now c.args.numbers.now c.args.t c.args.read) c.edges-edges.result.now (take c.loop-edge.edge-index c.edges-edges.result.now) (sym (take_all c.loop-edge.edge-index c.edges-edges.result.now c.loop-edge-test.false)) c.loop-edge.invariant in (
      λ _. record { edges = subst (λ es. All (KeepsEdge c.args.problem.now c.args.machine.now c.args.numbers.now c.args.t c.args.read) es) edges kept },
      λ _. refl,
    )
