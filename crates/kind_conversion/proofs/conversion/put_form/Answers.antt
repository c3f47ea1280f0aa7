use Rattle.std.proofs.Common.{◌≡◌, IfOk, Err, Some, sym, ap, subst, ◌∙◌}
use Rattle.std.proofs.lemmas.Option.{slice_get_within}
use Rattle.std.proofs.lemmas.Result.{err_from_is_err_and}
use Rattle.ltl_formula.specs.declared.nodes.TheConstants.{MAX_SIGNALS}
use Rattle.kind_conversion.proofs.ListsMade.{signal-over}
use Rattle.kind_conversion.proofs.FormsPut.{over-stands, put-kept, put-next, put-none, same_fault, ok-err}
use Rattle.kind_conversion.proofs.conversion.put_form.Goals as goal

pub add-requires-clause-parts : goal.add-requires-clause-parts
add-requires-clause-parts c = rw c.over_forms.ensures (over-stands c.args.forms.now c.args.node c.args.made.now c.requires.parts c.requires.stand)

pub add-requires-clause-signal : goal.add-requires-clause-signal
add-requires-clause-signal c = rw c.over_forms.ensures (signal-over c.args.forms.now MAX_SIGNALS c.args.node c.requires.signal)

pub returns-in_err-form-clause-too_many : goal.returns-in_err-form-clause-too_many
returns-in_err-form-clause-too_many c h =
    let p = err_from_is_err_and c.from_residual.result c.from_residual.ensures.1 in
    put-none c.args.most c.args.shift c.args.inputs c.args.forms.now c.args.node c.args.made.now c.over_forms.result c.over_forms.ensures
    (c.in_err-form.ensures.too_many (ap Err (same_fault c.from_residual.result p.0 c.in_err-form.field-0.0 _ p.1 p.2 h)))

pub add-requires-then-is_shifted_node-clause-parts : goal.add-requires-then-is_shifted_node-clause-parts
add-requires-then-is_shifted_node-clause-parts c = slice_get_within c.add.new.self c.in_ok-form.form.0 c.over_forms.result c.in_ok-form.ensures.stands

pub returns-then-is_shifted_node-clause-ok : goal.returns-then-is_shifted_node-clause-ok
returns-then-is_shifted_node-clause-ok c =
    subst (λ b. IfOk c.add-then-is_shifted_node.result (λ id. b ≡ record { nodes = c.add-then-is_shifted_node.new.self; made = Some id }))
    (sym (put-next c.args.most c.args.shift c.args.inputs c.args.forms.now c.args.node c.args.made.now c.over_forms.result c.over_forms.ensures c.add.new.self c.in_ok-form.form
    (sym c.is_shifted_node.ensures ∙ c.if-is_shifted_node.true) c.in_ok-form.ensures.ok)) c.add-then-is_shifted_node.ensures.ok

pub returns-then-is_shifted_node-clause-too_many : goal.returns-then-is_shifted_node-clause-too_many
returns-then-is_shifted_node-clause-too_many c h =
    ap (λ b. b.made) (put-next c.args.most c.args.shift c.args.inputs c.args.forms.now c.args.node c.args.made.now c.over_forms.result c.over_forms.ensures c.add.new.self c.in_ok-form.form
    (sym c.is_shifted_node.ensures ∙ c.if-is_shifted_node.true) c.in_ok-form.ensures.ok) ∙ c.add-then-is_shifted_node.ensures.too_many h

pub returns-clause-ok : goal.returns-clause-ok
returns-clause-ok c =
    put-kept c.args.most c.args.shift c.args.inputs c.args.forms.now c.args.node c.args.made.now c.over_forms.result c.over_forms.ensures
    (sym c.is_shifted_node.ensures ∙ c.if-is_shifted_node.false) ∙ c.in_ok-form.ensures.ok

pub returns-clause-too_many : goal.returns-clause-too_many
returns-clause-too_many c h = absurd (ok-err c.in_ok-form.form _ h)
