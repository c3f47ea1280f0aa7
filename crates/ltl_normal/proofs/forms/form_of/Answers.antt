use Rattle.ltl_normal.proofs.Performing.{IsMemo-none}
use Rattle.ltl_normal.proofs.forms.form_of.Goals as goal

pub form-requires-clause-memo : goal.form-requires-clause-memo
form-requires-clause-memo c = IsMemo-none c.args.most _ _ c.nothing_built-forms.ensures.none
