use Rattle.std.proofs.Common.{◌+◌, sym, ap, ◌∙◌, arith, inr}
use Rattle.aiger_text.specs.CircuitFile.{body_from, lines_of, and_then, with_line}
use Rattle.aiger_text.specs.Statements.{stated}
use Rattle.aiger_text.proofs.Scanning.{cuts, body_whole, body_missing, body_step, passes_fault}
use Rattle.aiger_text.proofs.bodies.read_body.Goals as goal

pub returns-in_default-clause-err : goal.returns-in_default-clause-err
returns-in_default-clause-err c =
    inr (c.loop-rest.invariant.0
    ∙ body_missing (stated c.loop-rest.statements) c.loop-rest.number c.loop-rest.rest.now (sym c.is_whole.ensures ∙ c.loop-rest-test.true) (sym c.in_default.ensures))

pub returns-in-Err-clause-err : goal.returns-in-Err-clause-err
returns-in-Err-clause-err c =
    passes_fault (λ more. body_from more (c.loop-rest.number + 1) (lines_of c.in-Some.behind.now)) (with_line (stated c.loop-rest.statements) c.loop-rest.number c.in-Some.line.now)
    _ c.in-Err.fault
    (c.loop-rest.invariant.0 ∙ body_step (stated c.loop-rest.statements) c.loop-rest.number c.loop-rest.rest.now c.in-Some.line.now c.in-Some.behind.now
    (sym c.is_whole.ensures ∙ c.loop-rest-test.true) (sym c.in-Some.ensures))
    c.in-Err.ensures.err

pub loop-rest-preserved : goal.loop-rest-preserved
loop-rest-preserved c = (
  c.loop-rest.invariant.0 ∙ body_step (stated c.loop-rest.statements) c.loop-rest.number c.loop-rest.rest.now c.in-Some.line.now c.in-Some.behind.now
      (sym c.is_whole.ensures ∙ c.loop-rest-test.true) (sym c.in-Some.ensures)
      ∙ ap (and_then (λ more. body_from more (c.loop-rest.number + 1) (lines_of c.in-Some.behind.now))) c.in-Ok.ensures.ok,
  c.in-Ok.ensures.marked,
  omega (arith, c.loop-rest.invariant.2, (cuts 10 c.loop-rest.rest.now c.in-Some.line.now c.in-Some.behind.now (sym c.in-Some.ensures)).shorter),
  c.in-Ok.ensures.sound,
  c.in-Ok.ensures.counts ∙ c.loop-rest.invariant.4,
  omega (arith, c.loop-rest.invariant.5, c.in-Ok.ensures.total),
)

pub returns-clause-ok : goal.returns-clause-ok
returns-clause-ok c =
    c.loop-rest.invariant.0 ∙ body_whole (stated c.loop-rest.statements) c.loop-rest.number c.loop-rest.rest.now (sym c.is_whole.ensures ∙ c.loop-rest-test.false)
