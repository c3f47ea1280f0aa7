use Rattle.ltl_normal.proofs.Performing.{recorded-none}
use Rattle.ltl_normal.proofs.forms.nothing_built.Goals as goal

pub returns-clause-none : goal.returns-clause-none
returns-clause-none c keep i = recorded-none 16384 keep i
