use Rattle.std.proofs.Common.{◌≡◌, None, sym, ap, ◌∙◌}
use Rattle.document_text.specs.Reading.{DocumentLines}
use Rattle.document_text.proofs.Whole.{good_lines, has_document}
use Rattle.document_text.proofs.reader.read_document.Goals as goal

pub unreachable-requires : goal.unreachable-requires
unreachable-requires c =
    let good : c.in_ok-lines.lines.bad ≡ None = ap (λ (x : DocumentLines). x.bad) (sym c.lines.view_is) ∙ c.in_default.is in
    has_document c.args.bytes.now c.in_ok-lines.lines c.in_ok-lines.ensures good (sym c.into_document.ensures ∙ c.in-None.is)

pub returns-clause-ok : goal.returns-clause-ok
returns-clause-ok c =
    let good : c.in_ok-lines.lines.bad ≡ None = ap (λ (x : DocumentLines). x.bad) (sym c.lines.view_is) ∙ c.in_default.is in
    good_lines c.args.bytes.now c.in_ok-lines.lines c.in-Some-into_document.document c.in_ok-lines.ensures good (sym c.into_document.ensures ∙ c.in-Some-into_document.is)
