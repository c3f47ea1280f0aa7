use Rattle.std.proofs.Common.{◌≡◌, ◌∙◌, length, sym, ap, arith}
use Rattle.unit_propagate.specs.Watches.{WatchList}
use Rattle.unit_propagate.specs.Trail.{highest_level}
use Rattle.unit_propagate.specs.Propagator.{clauses_in}
use Rattle.unit_propagate.proofs.PropagatorLemmas.{Goes-trans}
use Rattle.unit_propagate.proofs.ForceLemmas.{forced_more, forced_all, done_all, Goes-done}
use Rattle.unit_propagate.proofs.SoundLemmas.{Goes-literals}
use Rattle.unit_propagate.proofs.propagator.Propagator.force_units.Goals as goal

pub loop-i-preserved : goal.loop-i-preserved
loop-i-preserved c =
    let cl = clauses_in c.args.base.now c.args.seen.now in (
      Goes-trans cl c.args.self.now c.loop-i.self c.force_unit.new.self c.loop-i.invariant.0 c.force_unit.ensures.goes,
      c.force_unit.ensures.watches ∙ c.loop-i.invariant.1,
      c.force_unit.ensures.done ∙ c.loop-i.invariant.2,
      forced_more c.loop-i.self c.force_unit.new.self c.loop-i.i c.unit-k.result (λ l h. Goes-literals cl c.loop-i.self c.force_unit.new.self l c.force_unit.ensures.goes h)
          c.force_unit.ensures.watches c.loop-i.invariant.3 c.unit-k.ensures c.if-not-force_unit.ensures.forced,
    )

pub returns-then-level-eq0-clause-all : goal.returns-then-level-eq0-clause-all
returns-then-level-eq0-clause-all c = λ _.
    let e : c.units-i-end.result ≡ length c.args.self.now.watches.units = c.units-i-end.ensures in
    let w : length c.loop-i.self.watches.units ≡ length c.args.self.now.watches.units = ap (λ (w : WatchList). length w.units) c.loop-i.invariant.1 in
    forced_all c.loop-i.self c.loop-i.i c.loop-i.invariant.0.kept c.loop-i.invariant.3 (omega arith)

pub returns-then-level-eq0-clause-goes : goal.returns-then-level-eq0-clause-goes
returns-then-level-eq0-clause-goes c =
    let cl = clauses_in c.args.base.now c.args.seen.now in
    let e : c.units-i-end.result ≡ length c.args.self.now.watches.units = c.units-i-end.ensures in
    let w : length c.loop-i.self.watches.units ≡ length c.args.self.now.watches.units = ap (λ (w : WatchList). length w.units) c.loop-i.invariant.1 in
    let z : highest_level c.loop-i.self.marks.marks ≡ 0 = sym c.level.ensures.value ∙ c.if-level-eq0.true in
    Goes-trans cl c.args.self.now c.loop-i.self (record c.loop-i.self { done = c.units-self.result }) c.loop-i.invariant.0
    (Goes-done cl c.loop-i.self c.units-self.result c.loop-i.invariant.0.kept c.loop-i.invariant.0.watching
    (done_all c.loop-i.self c.units-self.result (λ j u p lt. c.loop-i.invariant.3 j u p (let x : c.units-self.result ≡ length c.loop-i.self.watches.units = c.units-self.ensures in omega arith)) z)
    c.units-self.ensures)

pub returns-else-level-eq0-clause-all : goal.returns-else-level-eq0-clause-all
returns-else-level-eq0-clause-all c = λ _.
    let e : c.units-i-end.result ≡ length c.args.self.now.watches.units = c.units-i-end.ensures in
    let w : length c.loop-i.self.watches.units ≡ length c.args.self.now.watches.units = ap (λ (w : WatchList). length w.units) c.loop-i.invariant.1 in
    forced_all c.loop-i.self c.loop-i.i c.loop-i.invariant.0.kept c.loop-i.invariant.3 (omega arith)
