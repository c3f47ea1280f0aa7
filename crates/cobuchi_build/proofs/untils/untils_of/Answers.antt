use Rattle.std.proofs.Common.{Vec, Global, ap, filter, sym, ◌∙◌, true, false}
use Rattle.std.proofs.lemmas.List.{append-nil, take_all}
use Rattle.ltl_formula.specs.declared.nodes.FormulaId.{FormulaId}
use Rattle.ltl_formula.specs.Nodes.{node_at}
use Rattle.obligation_sets.specs.Ids.{ids_of}
use Rattle.cobuchi_build.specs.Occurring.{is_until}
use Rattle.cobuchi_build.proofs.Along.{untils_most}
use Rattle.cobuchi_build.proofs.Meeting.{noted_more}
use Rattle.cobuchi_build.proofs.untils.untils_of.Goals as goal
use Rattle.cobuchi_build.proofs.untils.untils_of.Goals.{then-occurs+in_ok-note_until, else-occurs}

pub loop-place-preserved : goal.loop-place-preserved
loop-place-preserved c =
    elim c.if-occurs.branch [
      | then-occurs+in_ok-note_until w ↦
          noted_more (λ g. is_until (node_at c.args.formulas.now g.0)) c.deref-occurs-items.result.now c.loop-place.place c.loop-place.untils.items _ true c.loop-place-test.true w.if-occurs.true c.loop-place.invariant
          (ap (λ (v : Vec FormulaId Global). v.items) w.untils-is ∙ w.in_ok-note_until.ensures)
      | else-occurs w ↦
          noted_more (λ g. is_until (node_at c.args.formulas.now g.0)) c.deref-occurs-items.result.now c.loop-place.place c.loop-place.untils.items _ false c.loop-place-test.true w.if-occurs.false c.loop-place.invariant
          (ap (λ (v : Vec FormulaId Global). v.items) w.untils-is ∙ sym (append-nil c.loop-place.untils.items))
    ]

pub returns-clause-few : goal.returns-clause-few
returns-clause-few c =
    untils_most c.args.formulas.now c.args.f _ c.in_ok-occurs.ensures.list
    (c.loop-place.invariant
    ∙ ap (λ flags. filter (λ g. is_until (node_at c.args.formulas.now g.0)) (ids_of flags))
    (take_all c.loop-place.place c.deref-occurs-items.result.now c.loop-place-test.false ∙ c.deref-occurs-items.ensures.value ∙ c.in_ok-occurs.ensures.flags))
