use Rattle.std.proofs.Common.{sym, subst}
use Rattle.tlsf_expand.specs.FlatText.{spec_seen}
use Rattle.document_check.specs.Facts.{Facts}
use Rattle.document_check.specs.Shown.{AreFactsFor}
use Rattle.text_ground.proofs.TextFacts.{facts_are_for}
use Rattle.spec_texts.proofs.files.files_of_document.Goals as goal

pub files_of-requires : goal.files_of-requires
files_of-requires c =
    subst (λ (x : Facts). AreFactsFor c.document.inside.version x) (sym c.facts_of.ensures)
    (facts_are_for _ _ c.document.inside.version (spec_seen c.in-Ok.text.spec) c.in-Ok.text.problems (rw c.counts_for.ensures at c.in-Ok.ensures.problems) c.in-Ok.ensures.meet)
