use Rattle.std.proofs.Common.{Option, subst, sym, ℕ}
use Rattle.std.specs.Bool.{OnTrue}
use Rattle.solve_answer.specs.Parts.{HaveShortLogs}
use Rattle.solve_answer.proofs.Answered.{short_where}
use Rattle.solve_answer.proofs.testing.have_short_logs.Goals as goal

pub returns : goal.returns
returns c =
    subst (λ (o : Option ℕ). OnTrue c.are_short.result (HaveShortLogs o c.args.bytes.now)) (sym c.in-Some.is)
    (short_where c.solved_are_determined.ensures c.args.bytes.now c.in_ok-logs.logs.items c.deref.result.now c.in-Some.most c.in_ok-logs.ensures c.deref.ensures.value
    c.are_short.result c.are_short.ensures)
