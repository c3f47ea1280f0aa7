use Rattle.std.proofs.Common.{◌+◌, sym, ap, ◌∙◌, arith, inr}
use Rattle.aiger_text.specs.CircuitFile.{ending_from, lines_of, and_then, with_symbol, symbol_in}
use Rattle.aiger_text.specs.Labels.{named}
use Rattle.aiger_text.proofs.Scanning.{cuts, ending_open, ending_comment, ending_step, passes_fault, some_bytes}
use Rattle.aiger_text.proofs.symbols.read_ending.Goals as goal

pub returns-then-eq-clause-ok : goal.returns-then-eq-clause-ok
returns-then-eq-clause-ok c =
    c.loop-line.invariant.0
    ∙ ending_comment (named c.loop-line.labels) c.loop-line.number c.loop-line.rest.now c.in-Some.line.now c.in-Some.behind.now (sym c.in-Some.ensures)
    (rw c.as_slice.ensures at (sym c.eq.ensures ∙ c.if-eq.true))

pub returns-in-Err-clause-err : goal.returns-in-Err-clause-err
returns-in-Err-clause-err c =
    passes_fault (λ more. ending_from more (c.loop-line.number + 1) (lines_of c.in-Some.behind.now))
    (with_symbol (named c.loop-line.labels) c.loop-line.number (symbol_in (named c.loop-line.labels) c.in-Some.line.now)) _ c.in-Err.fault
    (c.loop-line.invariant.0 ∙ ending_step (named c.loop-line.labels) c.loop-line.number c.loop-line.rest.now c.in-Some.line.now c.in-Some.behind.now (sym c.in-Some.ensures)
    (rw c.as_slice.ensures at (sym c.eq.ensures ∙ c.if-eq.false)))
    c.in-Err.ensures.err

pub loop-line-preserved : goal.loop-line-preserved
loop-line-preserved c = (
  c.loop-line.invariant.0 ∙ ending_step (named c.loop-line.labels) c.loop-line.number c.loop-line.rest.now c.in-Some.line.now c.in-Some.behind.now (sym c.in-Some.ensures)
      (rw c.as_slice.ensures at (sym c.eq.ensures ∙ c.if-eq.false))
      ∙ ap (and_then (λ more. ending_from more (c.loop-line.number + 1) (lines_of c.in-Some.behind.now))) c.in-Ok.ensures.ok,
  c.in-Ok.ensures.places,
  omega (arith, c.loop-line.invariant.2, (cuts 10 c.loop-line.rest.now c.in-Some.line.now c.in-Some.behind.now (sym c.in-Some.ensures)).shorter),
)

pub returns-clause-err : goal.returns-clause-err
returns-clause-err c =
    inr (c.loop-line.invariant.0
    ∙ ending_open (named c.loop-line.labels) c.loop-line.number c.loop-line.rest.now (sym c.in_default.ensures)
    (some_bytes c.loop-line.rest.now (sym c.is_empty.ensures ∙ c.if-is_empty.false)))
