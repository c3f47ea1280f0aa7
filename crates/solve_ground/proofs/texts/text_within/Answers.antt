use Rattle.std.proofs.Common.{Err, ap}
use Rattle.std.proofs.lemmas.Result.{err_from_is_err_and}
use Rattle.tlsf_syntax.specs.Seen.{text_seen}
use Rattle.solve_ground.specs.SolveText.{of_reading}
use Rattle.solve_ground.proofs.Whole.{expansion_fault, forms_fault, same_error, text_of}
use Rattle.solve_ground.proofs.texts.text_within.Goals as goal

pub returns-in_err-tree-clause-fault : goal.returns-in_err-tree-clause-fault
returns-in_err-tree-clause-fault c code place refused =
    let p = err_from_is_err_and c.from_residual.result c.from_residual.ensures.1 in
    of_reading code place (c.in_err-tree.ensures.fault code place (ap Err (same_error c.from_residual.result p.0 c.in_err-tree.field-0.0 _ p.1 p.2 refused)))

pub returns-in_err-spec-clause-fault : goal.returns-in_err-spec-clause-fault
returns-in_err-spec-clause-fault c code place refused =
    let p = err_from_is_err_and c.from_residual-in_err-spec.result c.from_residual-in_err-spec.ensures.1 in
    expansion_fault c.args.limits c.args.text.now c.args.given (text_seen c.in_ok-tree.tree) c.in_ok-tree.ensures.tree c.taken_kind-kind.result c.taken_kind-kind.ensures c.in_err-spec.field-0.0 c.in_err-spec.ensures.expansion
    code place (same_error c.from_residual-in_err-spec.result p.0 c.in_err-spec.field-0.0 _ p.1 p.2 refused)

pub returns-clause-text : goal.returns-clause-text
returns-clause-text c =
    text_of c.args.limits c.args.text.now c.args.given (text_seen c.in_ok-tree.tree) c.in_ok-tree.ensures.tree c.in_ok-spec.spec c.taken_kind-kind.result c.taken_kind-kind.ensures c.in_ok-spec.ensures.expansion
    c.in_ok-spec.ensures.meaning c.in_ok-spec.ensures.few c.taken_shift-shift.result c.taken_shift-shift.ensures c.semantics_of-semantics.result c.semantics_of-semantics.ensures c.with_forms.result c.with_forms.ensures.made

pub returns-clause-fault : goal.returns-clause-fault
returns-clause-fault c code place refused =
    forms_fault c.args.limits c.args.text.now c.args.given (text_seen c.in_ok-tree.tree) c.in_ok-tree.ensures.tree c.in_ok-spec.spec c.taken_kind-kind.result c.taken_kind-kind.ensures c.in_ok-spec.ensures.expansion
    c.taken_shift-shift.result c.taken_shift-shift.ensures code place (c.with_forms.ensures.none code place refused)
