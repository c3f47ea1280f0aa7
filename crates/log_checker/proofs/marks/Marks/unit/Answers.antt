use Rattle.std.proofs.Common.{sym}
use Rattle.log_checker.proofs.MarkLemmas.{no_unit_more, unit_found}
use Rattle.log_checker.proofs.marks.Marks.unit.Goals as goal

pub returns-then-not-are_false : goal.returns-then-not-are_false
returns-then-not-are_false c = record {
  unit = no_unit_more c.args.self.now.trues c.args.clause.now c.in-Some.found.rest.now c.in-Some.found.first (rw c.lits.ensures.value at c.in-Some.ensures.some) (sym c.if-not-are_false.ensures);
  within = tt;
}

pub returns : goal.returns
returns c = record {
  unit = unit_found c.args.self.now.trues c.args.clause.now c.in-Some.found.rest.now c.in-Some.found.first (rw c.lits.ensures.value at c.in-Some.ensures.some) (sym c.if-not-are_false.ensures) (sym c.if-is_true.ensures);
  within = c.in-Some.ensures.within.0;
}
