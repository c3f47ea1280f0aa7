use Rattle.std.proofs.Common.{rules, ◌==◌}
use Rattle.lasso_word.proofs.Cuts.{cut_where_found, whole_where_none}
use Rattle.lasso_word.proofs.lines.cut_at.Goals as goal

pub returns-in_err-end-clause-whole : goal.returns-in_err-end-clause-whole
returns-in_err-end-clause-whole c =
    let whole = whole_where_none (λ b. b == c.args.mark) c.args.bytes.now (search rules) in
    rw c.from_residual.ensures whole

pub returns-clause-cut : goal.returns-clause-cut
returns-clause-cut c = cut_where_found (λ b. b == c.args.mark) c.args.bytes.now c.in_ok-end.end 0 (search rules)
