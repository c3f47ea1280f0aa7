use Rattle.std.proofs.Common.{◌∙◌, Err, sym, ap}
use Rattle.std.specs.Cmp.Lexicographic.{pointwise}
use Rattle.propositional_logic.specs.Literal.{literal_eq}
use Rattle.propositional_logic.proofs.Rising.{no_tautology}
use Rattle.refutation_log.proofs.LineLemmas.{same_clause, other_clause}
use Rattle.refutation_log.proofs.read.clause_as_written.Goals as goal

pub returns-then-eq-clause-some : goal.returns-then-eq-clause-some
returns-then-eq-clause-some c =
    let same = same_clause c.args.lits.now c.in-Ok.clause (ap (λ ls. pointwise literal_eq ls c.args.lits.now) (sym c.lits.ensures.value) ∙ sym c.if-eq.ensures) in
    let sorted = c.lits.ensures.sorted in
    let within = c.in-Ok.ensures.within in
    (same, (rw same at sorted), rw same at within)

pub returns-else-eq-clause-none : goal.returns-else-eq-clause-none
returns-else-eq-clause-none c =
    other_clause c.args.vars c.args.lits.now c.in-Ok.clause c.in-Ok.ensures.ok (ap (λ ls. pointwise literal_eq ls c.args.lits.now) (sym c.lits.ensures.value) ∙ sym c.if-eq.ensures)

pub returns-in-Err-Tautology-clause-none : goal.returns-in-Err-Tautology-clause-none
returns-in-Err-Tautology-clause-none c =
    λ sorted within. no_tautology c.args.lits.now sorted (c.in-Err-Tautology.ensures.tautology (ap Err c.in-Err-Tautology.field-0-is)).1
