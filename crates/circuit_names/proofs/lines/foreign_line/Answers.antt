use Rattle.std.proofs.Common.{◌≡◌, true, false, sym, ◌∙◌, arith, rules}
use Rattle.std.specs.Prelude.{codes}
use Rattle.std.specs.Str.{bytes_eq}
use Rattle.aiger_text.proofs.Scanning.{cuts}
use Rattle.circuit_names.specs.Names.{names_of}
use Rattle.circuit_names.proofs.LineLemmas.{at_comment, at_foreign, at_other, no_line_more}
use Rattle.circuit_names.proofs.lines.foreign_line.Goals as goal

pub returns-then-eq : goal.returns-then-eq
returns-then-eq c =
    let same : bytes_eq c.in-Some.line.now (codes "c") ≡ true = search rules in
    sym (at_comment (names_of c.args.names) c.loop-line.n c.loop-line.rest.now c.in-Some.line.now c.in-Some.behind.now (sym c.in-Some.ensures) same) ∙ c.loop-line.invariant.0

pub returns-then-is_foreign : goal.returns-then-is_foreign
returns-then-is_foreign c =
    let other : bytes_eq c.in-Some.line.now (codes "c") ≡ false = search rules in
    sym (at_foreign (names_of c.args.names) c.loop-line.n c.loop-line.rest.now c.in-Some.line.now c.in-Some.behind.now (sym c.in-Some.ensures) other (search rules)) ∙ c.loop-line.invariant.0

pub loop-line-preserved : goal.loop-line-preserved
loop-line-preserved c =
    let other : bytes_eq c.in-Some.line.now (codes "c") ≡ false = search rules in
    let size = (cuts 10 c.loop-line.rest.now c.in-Some.line.now c.in-Some.behind.now (sym c.in-Some.ensures)).shorter in
    let inv = c.loop-line.invariant.1 in (
      sym (at_other (names_of c.args.names) c.loop-line.n c.loop-line.rest.now c.in-Some.line.now c.in-Some.behind.now (sym c.in-Some.ensures) other (search rules)) ∙ c.loop-line.invariant.0,
      omega (arith, size, inv),
    )

pub returns : goal.returns
returns c = sym (no_line_more (names_of c.args.names) c.loop-line.n c.loop-line.rest.now (sym c.in_default.ensures)) ∙ c.loop-line.invariant.0
