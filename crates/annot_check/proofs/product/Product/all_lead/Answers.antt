use Rattle.std.proofs.Common.{◌<◌, ◌∙◌, take, sym, subst}
use Rattle.std.proofs.lemmas.Bool.{true≢false}
use Rattle.std.proofs.lemmas.List.{take_all}
use Rattle.std.proofs.lemmas.List.Elements.{All-more, All-same}
use Rattle.machine_model.specs.declared.automata.Edge.{Edge}
use Rattle.machine_model.specs.Automaton.{states_of}
use Rattle.annot_check.specs.Steps.{IsEnough, LeadsOn}
use Rattle.annot_check.proofs.EdgeLemmas.{fails_here, leads_here, leads_not}
use Rattle.annot_check.proofs.product.Product.all_lead.Goals as goal

pub stands-requires : goal.stands-requires
stands-requires c =
    subst (λ (e : Edge). e.to < states_of c.args.self.now.automaton.now) (sym c.edge-item.is)
    (c.requires c.loop-edge.edge-index c.edge-item.result c.loop-edge-test.true).to

pub loop-edge-preserved-then-not-fits : goal.loop-edge-preserved-then-not-fits
loop-edge-preserved-then-not-fits c =
    let P : Edge → Type 0 = LeadsOn c.args.letter (IsEnough c.args.self.now.numbers.now c.args.self.now.automaton.now c.args.number c.args.next.now) in
    record {
      code = c.loop-edge.invariant.code;
      lead = All-more P c.args.edges.now c.loop-edge.edge-index c.edge-item.result c.loop-edge-test.true c.loop-edge.invariant.lead
          (subst P c.edge-item.is (leads_not c.args.self.now.numbers.now c.args.self.now.automaton.now c.args.number c.args.next.now c.args.letter c.edge-item.result
          (λ fits. true≢false (sym (c.fits.ensures.1 fits) ∙ c.if-not-fits.true))));
    }

pub loop-edge-preserved : goal.loop-edge-preserved
loop-edge-preserved c =
    let P : Edge → Type 0 = LeadsOn c.args.letter (IsEnough c.args.self.now.numbers.now c.args.self.now.automaton.now c.args.number c.args.next.now) in
    record {
      code = c.loop-edge.invariant.code;
      lead = All-more P c.args.edges.now c.loop-edge.edge-index c.edge-item.result c.loop-edge-test.true c.loop-edge.invariant.lead
          (subst P c.edge-item.is (leads_here c.args.self.now.numbers.now c.args.self.now.automaton.now c.args.number c.args.next.now c.args.letter c.loop-edge.place.code
          c.edge-item.result c.loop-edge.invariant.code (c.stands.ensures.0 c.if-not-stands.false)));
    }

pub returns-then-not-stands-clause-one : goal.returns-then-not-stands-clause-one
returns-then-not-stands-clause-one c =
    λ _. fails_here c.args.self.now.numbers.now c.args.self.now.automaton.now c.args.number c.args.next.now c.args.letter c.args.edges.now c.loop-edge.edge-index
    c.loop-edge.place.code c.edge-item.result c.loop-edge-test.true c.edge-item.is
    c.loop-edge.invariant.code (c.fits.ensures.0 c.if-not-fits.false) (λ enough. true≢false (sym (c.stands.ensures.1 enough) ∙ c.if-not-stands.true))

pub returns-clause-all : goal.returns-clause-all
returns-clause-all c =
    λ _. All-same (LeadsOn c.args.letter (IsEnough c.args.self.now.numbers.now c.args.self.now.automaton.now c.args.number c.args.next.now)) c.args.edges.now
    (take c.loop-edge.edge-index c.args.edges.now) (sym (take_all c.loop-edge.edge-index c.args.edges.now c.loop-edge-test.false)) c.loop-edge.invariant.lead
