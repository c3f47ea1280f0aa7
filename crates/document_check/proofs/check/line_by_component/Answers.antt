use Rattle.std.proofs.Common.{sym, subst}
use Rattle.document_check.specs.Facts.{Facts}
use Rattle.document_check.specs.FirstBad.{Fails}
use Rattle.document_check.specs.Shown.{AreFactsIn, facts_of}
use Rattle.document_check.proofs.Alike.{fails_alike}
use Rattle.document_check.proofs.CountedLemmas.{counted_alike, facts_counted, with_counted}
use Rattle.document_check.proofs.check.line_by_component.Goals as goal

pub first_line-requires-clause-facts : goal.first_line-requires-clause-facts
first_line-requires-clause-facts g c lives outlives =
    subst (λ (x : Facts). AreFactsIn c.args.lines.now.header x) (sym c.facts.ensures)
    (facts_counted c.args.lines.now.header (facts_of c.args.facts) c.in_ok-counted.counted c.in_ok-counted.ensures)

pub returns : goal.returns
returns g c =
    fails_alike (with_counted (facts_of c.args.facts) c.in_ok-counted.counted) (facts_of c.args.facts)
    (counted_alike (facts_of c.args.facts) c.in_ok-counted.counted c.in_ok-counted.ensures) c.args.bytes.now c.args.lines.now c.in_ok-line.line
    (subst (λ (x : Facts). Fails x c.args.bytes.now c.args.lines.now c.in_ok-line.line) c.facts.ensures c.in_ok-line.ensures)
