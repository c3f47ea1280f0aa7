use Rattle.std.proofs.Common.{Err, ap}
use Rattle.std.proofs.lemmas.Result.{err_from_is_err_and}
use Rattle.kind_conversion.proofs.FormsPut.{same_fault}
use Rattle.solve_ground.proofs.FormsMade.{forms_made, forms_say, no_normal}
use Rattle.solve_ground.proofs.forms.forms_of.Goals as goal

pub returns-in_err-normal-clause-none : goal.returns-in_err-normal-clause-none
returns-in_err-normal-clause-none c h =
    let p = err_from_is_err_and c.from_residual-in_err-normal.result c.from_residual-in_err-normal.ensures.1 in
    no_normal c.args.most c.args.formulas c.negated.new.formulas c.args.whole c.in_ok-negated.negated c.negated.ensures.grows c.requires c.in_ok-negated.ensures.ok c.normal.new.formulas
    (c.in_err-normal.ensures.too_many (ap Err (same_fault c.from_residual-in_err-normal.result p.0 c.in_err-normal.field-0.0 _ p.1 p.2 h)))

pub returns-clause-made : goal.returns-clause-made
returns-clause-made c =
    forms_made c.args.most c.args.formulas c.negated.new.formulas c.args.whole c.in_ok-negated.negated c.negated.ensures.grows c.requires c.in_ok-negated.ensures.ok c.normal.new.formulas c.in_ok-normal.normal c.in_ok-normal.ensures.ok

pub returns-clause-say : goal.returns-clause-say
returns-clause-say c =
    forms_say c.args.most c.args.formulas c.negated.new.formulas c.args.whole c.in_ok-negated.negated c.negated.ensures.grows c.requires c.in_ok-negated.ensures.ok c.normal.new.formulas c.in_ok-normal.normal
    c.normal.ensures.list c.normal.ensures.grows c.in_ok-negated.ensures.stands c.in_ok-negated.ensures.shape c.in_ok-negated.ensures.truth
    c.in_ok-normal.ensures.stands c.in_ok-normal.ensures.shape c.in_ok-normal.ensures.truth
