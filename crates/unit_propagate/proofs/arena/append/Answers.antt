use Rattle.std.proofs.Common.{◌∷◌, [], ◌++◌, filter, take, sym, ap, ◌∙◌, arith}
use Rattle.std.proofs.lemmas.List.{append-nil, append_assoc}
use Rattle.std_lemmas.proofs.Results.{on_err}
use Rattle.unit_propagate.specs.Watches.{differs}
use Rattle.unit_propagate.proofs.ArenaLemmas.{appended, appended_all}
use Rattle.unit_propagate.proofs.arena.append.Goals as goal

pub returns-in_err-push-clause-err : goal.returns-in_err-push-clause-err
returns-in_err-push-clause-err c = on_err c.from_residual.result ([], c.in_err-push.ensures.items ∙ sym (append-nil c.args.out.now.items))

pub returns-in_err-push-2-clause-err : goal.returns-in_err-push-2-clause-err
returns-in_err-push-2-clause-err c = on_err c.from_residual-in_err-push-2.result (c.args.first ∷ [], c.in_err-push-2.ensures.items ∙ c.in_ok-push.ensures.items)

pub returns-in_err-push_other-clause-err : goal.returns-in_err-push_other-clause-err
returns-in_err-push_other-clause-err c =
    on_err c.from_residual-in_err-push_other.result (c.args.first ∷ c.args.second ∷ filter (differs c.args.first c.args.second) (take c.loop-lit.lit-index c.args.lits.now), c.in_err-push_other.ensures.err ∙ c.loop-lit.invariant)

pub loop-lit-init : goal.loop-lit-init
loop-lit-init c = c.in_ok-push-2.ensures.items ∙ ap (λ xs. xs ++ c.args.second ∷ []) c.in_ok-push.ensures.items ∙ append_assoc c.args.out.now.items (c.args.first ∷ []) (c.args.second ∷ [])

pub loop-lit-preserved : goal.loop-lit-preserved
loop-lit-preserved c =
    appended c.args.out.now.items c.args.lits.now c.args.first c.args.second c.loop-lit.lit-index c.lit-item.result c.loop-lit.out.items c.push_other.new.out.items (omega arith) c.lit-item.is c.loop-lit.invariant
    c.in_ok-push_other.ensures.ok

pub returns-clause-ok : goal.returns-clause-ok
returns-clause-ok c = appended_all c.args.out.now.items c.args.lits.now c.args.first c.args.second c.loop-lit.lit-index c.loop-lit.out.items (omega arith) c.loop-lit.invariant
