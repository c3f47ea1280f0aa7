use Rattle.std.proofs.Common.{length, subst, sym, ◌∙◌}
use Rattle.std.proofs.lemmas.Bool.{eqb-true}
use Rattle.size_refutations.specs.Parts.{IsSought}
use Rattle.solve_check.specs.SizeLogs.{ground_for}
use Rattle.solve_check.proofs.LogLemmas.{none_there}
use Rattle.solve_check.proofs.Sought.{is_sought}
use Rattle.solve_check.proofs.size_logs.logs_line.Goals as goal

pub returns-then-is_empty : goal.returns-then-is_empty
returns-then-is_empty c =
    none_there (ground_for c.args.text.now c.args.side) c.args.logs.now (eqb-true (length c.args.logs.now) 0 (sym c.is_empty.ensures ∙ c.if-is_empty.true))

pub new-requires : goal.new-requires
new-requires c = subst IsSought (sym c.sought_for.ensures) (is_sought c.args.text.now c.args.side c.requires.ready)
