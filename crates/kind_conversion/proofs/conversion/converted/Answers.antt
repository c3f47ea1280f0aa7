use Rattle.std.proofs.Common.{◌≡◌, ◌+◌, ◌≤◌, All, Err, None, Some, length, refl, sym, ap, subst, ◌∙◌, arith}
use Rattle.std.proofs.lemmas.List.{length_push}
use Rattle.std.proofs.lemmas.Result.{err_from_is_err_and}
use Rattle.ltl_formula.specs.declared.faults.AddFault.TheVariants.{TooManyNodes}
use Rattle.ltl_formula.specs.Nodes.{PartsBelow, IsNodeIn}
use Rattle.kind_conversion.specs.declared.conversion.ConvertedList.{ConvertedList}
use Rattle.kind_conversion.specs.ShiftedList.{form_at, put_form}
use Rattle.kind_conversion.proofs.FormsPut.{same_fault, no_memory-full, ok-err}
use Rattle.kind_conversion.proofs.ListsMade.{no_forms, turn-same, turn-none, turn-known, signal-there, converted-none, converted-some, converted_lists_say}
use Rattle.kind_conversion.proofs.conversion.converted.Goals as goal

pub loop-place-init : goal.loop-place-init
loop-place-init c =
    rw (c.new-made.ensures, c.new-forms.ensures.items)
    (record { so_far = refl; known = no_forms c.args.shift c.args.inputs c.args.formulas.now; many = refl })

pub put_form-requires-clause-parts : goal.put_form-requires-clause-parts
put_form-requires-clause-parts c =
    subst (λ n. PartsBelow n c.node-node.result) (sym (ap length c.deref.ensures.value ∙ c.loop-place.invariant.many)) c.node-node.ensures.parts

pub put_form-requires-clause-signal : goal.put_form-requires-clause-signal
put_form-requires-clause-signal c = signal-there c.args.formulas.now c.loop-place.place c.node-node.result c.node-node.ensures.list c.node-node.ensures.value

pub put_form-requires-clause-stand : goal.put_form-requires-clause-stand
put_form-requires-clause-stand c = subst (λ forms. All (λ id. IsNodeIn c.loop-place.made id) forms) (sym c.deref.ensures.value) c.loop-place.invariant.known.stand

pub returns-in_err-form-clause-too_many : goal.returns-in_err-form-clause-too_many
returns-in_err-form-clause-too_many c h =
    let p = err_from_is_err_and c.from_residual.result c.from_residual.ensures.1 in
    converted-none c.args.most c.args.shift c.args.inputs c.args.formulas.now c.args.whole _ c.loop-place.invariant.so_far
    (turn-none c.args.most c.args.shift c.args.inputs c.args.formulas.now c.loop-place.made c.loop-place.forms.items c.node-node.result c.loop-place.place c.node-node.ensures.value
    (subst (λ forms. (put_form c.args.most c.args.shift c.args.inputs forms c.node-node.result c.loop-place.made).made ≡ None) c.deref.ensures.value
    (c.in_err-form.ensures.too_many (ap Err (same_fault c.from_residual.result p.0 c.in_err-form.field-0.0 _ p.1 p.2 h)))))

pub returns-in_err-push_form-clause-too_many : goal.returns-in_err-push_form-clause-too_many
returns-in_err-push_form-clause-too_many c h =
    let p = err_from_is_err_and c.from_residual-in_err-push_form.result c.from_residual-in_err-push_form.ensures.1 in
    absurd (no_memory-full c.in_err-push_form.field-0.0 c.in_err-push_form.ensures.memory (same_fault c.from_residual-in_err-push_form.result p.0 c.in_err-push_form.field-0.0 TooManyNodes p.1 p.2 h))

pub loop-place-preserved : goal.loop-place-preserved
loop-place-preserved c =
    let put : put_form c.args.most c.args.shift c.args.inputs c.loop-place.forms.items c.node-node.result c.loop-place.made ≡ record { nodes = c.put_form.new.made; made = Some c.in_ok-form.form } =
    subst (λ forms. put_form c.args.most c.args.shift c.args.inputs forms c.node-node.result c.loop-place.made ≡ record { nodes = c.put_form.new.made; made = Some c.in_ok-form.form }) c.deref.ensures.value c.in_ok-form.ensures.ok in
    record {
      so_far = c.loop-place.invariant.so_far
          ∙ turn-same c.args.most c.args.shift c.args.inputs c.args.formulas.now c.loop-place.made c.loop-place.forms.items c.node-node.result c.loop-place.place c.node-node.ensures.value
          c.put_form.new.made c.in_ok-form.form c.push_form.new.forms.items put c.in_ok-push_form.ensures.ok;
      known = turn-known c.args.most c.args.shift c.args.inputs c.args.formulas.now c.loop-place.made c.loop-place.forms.items c.node-node.result c.loop-place.place c.node-node.ensures.value
          c.node-node.ensures.list c.loop-place.invariant.known c.loop-place.invariant.many c.put_form.new.made c.in_ok-form.form c.push_form.new.forms.items put c.in_ok-push_form.ensures.ok;
      many = ap length c.in_ok-push_form.ensures.ok ∙ length_push c.loop-place.forms.items c.in_ok-form.form ∙ ap (λ n. n + 1) c.loop-place.invariant.many;
    }

pub form_at-requires : goal.form_at-requires
form_at-requires c = omega (arith, c.requires, c.loop-place-test.false, c.loop-place.invariant.many, ap length c.deref-2.ensures.value, c.len-place-end.ensures.value)

pub returns-clause-ok : goal.returns-clause-ok
returns-clause-ok c =
    let end : length c.args.formulas.now ≤ c.loop-place.place = omega (arith, c.loop-place-test.false, c.len-place-end.ensures.value) in
    converted-some c.args.most c.args.shift c.args.inputs c.args.formulas.now c.args.whole c.loop-place.place c.loop-place.made c.loop-place.forms.items c.loop-place.invariant.so_far end
    ∙ ap (λ id. Some (let list : ConvertedList = record { formulas = c.loop-place.made; whole = id } in list))
    (ap (λ forms. form_at forms c.args.whole) (sym c.deref-2.ensures.value) ∙ sym c.form_at.ensures)

pub returns-clause-too_many : goal.returns-clause-too_many
returns-clause-too_many c h = absurd (ok-err {A = ConvertedList} _ TooManyNodes h)

pub returns-clause-says : goal.returns-clause-says
returns-clause-says c =
    converted_lists_say c.args.most c.args.shift c.args.inputs c.args.formulas.now c.args.whole (record { formulas = c.loop-place.made; whole = c.form_at.result })
    c.len-place-end.ensures.list c.requires (returns-clause-ok c)
