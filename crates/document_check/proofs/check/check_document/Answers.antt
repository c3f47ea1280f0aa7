use Rattle.std.proofs.Common.{None, sym, ◌∙◌}
use Rattle.document_text.proofs.Whole.{good_lines, has_document}
use Rattle.document_check.specs.FirstBad.{Fails}
use Rattle.document_check.specs.Shown.{facts_of}
use Rattle.document_check.proofs.DocumentLemmas.{document_is}
use Rattle.document_check.proofs.HoldLemmas.{no_bad_line, holds}
use Rattle.document_check.proofs.check.check_document.Goals as goal

pub unreachable-requires : goal.unreachable-requires
unreachable-requires g c =
    let fails : Fails (facts_of c.args.facts) c.args.bytes.now c.in_ok-lines.lines None = rw c.in_default.is at c.in_ok-line.ensures in
    has_document c.args.bytes.now c.in_ok-lines.lines c.in_ok-lines.ensures (no_bad_line (facts_of c.args.facts) c.args.bytes.now c.in_ok-lines.lines fails)
    (sym c.into_document.ensures ∙ c.in-None.is)

pub returns-clause-stated : goal.returns-clause-stated
returns-clause-stated g c =
    let fails : Fails (facts_of c.args.facts) c.args.bytes.now c.in_ok-lines.lines None = rw c.in_default.is at c.in_ok-line.ensures in
    good_lines c.args.bytes.now c.in_ok-lines.lines c.in-Some-into_document.document c.in_ok-lines.ensures (no_bad_line (facts_of c.args.facts) c.args.bytes.now c.in_ok-lines.lines fails)
    (sym c.into_document.ensures ∙ c.in-Some-into_document.is)

pub returns-clause-holds : goal.returns-clause-holds
returns-clause-holds g c =
    let fails : Fails (facts_of c.args.facts) c.args.bytes.now c.in_ok-lines.lines None = rw c.in_default.is at c.in_ok-line.ensures in
    let good = no_bad_line (facts_of c.args.facts) c.args.bytes.now c.in_ok-lines.lines fails in
    let is = sym c.into_document.ensures ∙ c.in-Some-into_document.is in
    holds (facts_of c.args.facts) c.args.bytes.now c.in_ok-lines.lines c.in-Some-into_document.document (document_is c.in_ok-lines.lines c.in-Some-into_document.document is)
    (good_lines c.args.bytes.now c.in_ok-lines.lines c.in-Some-into_document.document c.in_ok-lines.ensures good is) good fails
