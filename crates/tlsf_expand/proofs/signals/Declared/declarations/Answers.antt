use Rattle.std.proofs.Common.{◌+◌, ap, sym, subst, map, drop, ◌∙◌}
use Rattle.std.proofs.lemmas.Result.{err_from_is_err_and}
use Rattle.tlsf_values.specs.Results.{IsFault}
use Rattle.tlsf_expand.specs.Signals.{declarations_value}
use Rattle.tlsf_expand.specs.SignalsSeen.{declared_seen}
use Rattle.tlsf_syntax.specs.Seen.{declaration_seen, text_seen}
use Rattle.tlsf_expand.proofs.Laying.{declarations_from, declaration_given, declaration_fault, fault_out}
use Rattle.tlsf_expand.proofs.signals.Declared.declarations.Goals as goal

pub returns-in_err-declaration : goal.returns-in_err-declaration
returns-in_err-declaration c =
    let p = err_from_is_err_and c.from_residual.result c.from_residual.ensures.1 in
    let text = text_seen c.args.tree.now in
    let d = declared_seen c.loop-declaration.self in
    let rest = map declaration_seen (drop (c.loop-declaration.declaration-index + 1) c.args.declarations.now) in
    fault_out (λ x. declared_seen c.declaration.new.self) c.from_residual.result c.declaration.new.work
    (declarations_value c.args.most text c.args.from (declared_seen c.args.self.now) (map declaration_seen c.args.declarations.now) c.args.work.now) p.0 c.in_err-declaration.field-0.0 p.1 p.2
    (subst (λ o. IsFault o c.in_err-declaration.field-0.0)
    (sym (c.loop-declaration.invariant ∙ ap (λ xs. declarations_value c.args.most text c.args.from d xs c.loop-declaration.work)
    (declarations_from c.args.declarations.now c.loop-declaration.declaration-index c.declaration-item.result c.loop-declaration-test.true c.declaration-item.is)))
    (declaration_fault c.args.most text c.args.from d (declaration_seen c.declaration-item.result) rest c.loop-declaration.work c.in_err-declaration.field-0.0 c.in_err-declaration.ensures))

pub loop-declaration-preserved : goal.loop-declaration-preserved
loop-declaration-preserved c =
    let text = text_seen c.args.tree.now in
    let d = declared_seen c.loop-declaration.self in
    let rest = map declaration_seen (drop (c.loop-declaration.declaration-index + 1) c.args.declarations.now) in
    c.loop-declaration.invariant ∙ ap (λ xs. declarations_value c.args.most text c.args.from d xs c.loop-declaration.work)
    (declarations_from c.args.declarations.now c.loop-declaration.declaration-index c.declaration-item.result c.loop-declaration-test.true c.declaration-item.is)
    ∙ declaration_given c.args.most text c.args.from d (declared_seen c.declaration.new.self) (declaration_seen c.declaration-item.result) rest c.loop-declaration.work c.declaration.new.work c.in_ok-declaration.ensures
