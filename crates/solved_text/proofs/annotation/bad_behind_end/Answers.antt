use Rattle.std.proofs.Common.{sym, ◌∙◌, arith}
use Rattle.aiger_text.proofs.Scanning.{cuts}
use Rattle.solved_text.proofs.EndLemmas.{end_here, end_later, no_end}
use Rattle.solved_text.proofs.annotation.bad_behind_end.Goals as goal

pub returns-then-eq : goal.returns-then-eq
returns-then-eq c =
    c.bad_behind.ensures
    ∙ sym (c.loop-line.invariant.0 ∙ end_here c.loop-line.n c.loop-line.rest.now c.in-Some.line.now c.in-Some.behind.now (sym c.in-Some.ensures)
    (rw c.as_slice.ensures at (sym c.eq.ensures ∙ c.if-eq.true)))

pub loop-line-preserved : goal.loop-line-preserved
loop-line-preserved c = (
  c.loop-line.invariant.0 ∙ end_later c.loop-line.n c.loop-line.rest.now c.in-Some.line.now c.in-Some.behind.now (sym c.in-Some.ensures)
      (rw c.as_slice.ensures at (sym c.eq.ensures ∙ c.if-eq.false)),
  omega (arith, c.loop-line.invariant.1, (cuts 10 c.loop-line.rest.now c.in-Some.line.now c.in-Some.behind.now (sym c.in-Some.ensures)).shorter),
)

pub returns : goal.returns
returns c = sym (c.loop-line.invariant.0 ∙ no_end c.loop-line.n c.loop-line.rest.now (sym c.in_default.ensures))
