-- A document over base clauses that count by component is one of version 3 in all but its base clauses.
use Rattle.std.proofs.Common.{◌≡◌, true, false, refl, sym, ap, ◌∙◌}
use Rattle.letters_and_lassos.specs.declared.kinds.Side.{Side}
use Rattle.letters_and_lassos.specs.declared.kinds.Side.TheVariants.{System, Environment}
use Rattle.machine_model.specs.Automaton.{AutomatonModel}
use Rattle.machine_model.specs.Counting.{IsCountedAs}
use Rattle.machine_model.specs.declared.counting.Counting.{Counting}
use Rattle.machine_model.specs.declared.counting.Counting.TheVariants.{ByComponent}
use Rattle.machine_model.specs.declared.counting.Counts.{Counts}
use Rattle.machine_model.specs.declared.counting.Counts.TheVariants.{Whole, Local}
use Rattle.machine_model.proofs.ComponentsOf.{components_are}
use Rattle.document_text.specs.declared.documents.Verdict.{Verdict}
use Rattle.document_text.specs.declared.documents.Verdict.TheVariants.{Machine, Unknown}
use Rattle.document_text.specs.Order.{fits_version, has_logs, is_version}
use Rattle.document_check.specs.Facts.{counting_for}
use Rattle.synth_answer.specs.Holds.{document_version}

pub is_a_version : (counts : Counts) → is_version (document_version counts) ≡ true
is_a_version Whole = refl
is_a_version Local = refl

-- problems whose numbers count as the settings say are counted as the document's version wants it
pub same_counting : (counts : Counts) (a : AutomatonModel) (counting : Counting) → IsCountedAs counts a counting → counting_for (document_version counts) a ≡ counting
same_counting Whole a counting is = sym is
same_counting Local a counting is = sym (is.by ∙ ap ByComponent (components_are a is.components is.right))

-- each verdict may be told
pub always_fits : (counts : Counts) (v : Verdict) → fits_version (document_version counts) v ≡ true
always_fits Whole (Machine side n true) = refl
always_fits Whole (Machine side n false) = refl
always_fits Local (Machine side n true) = refl
always_fits Local (Machine side n false) = refl
always_fits counts (Unknown first) = refl

-- logs stand beside a machine of either side
pub all_have_logs : (counts : Counts) (side : Side) → has_logs (document_version counts) side ≡ true
all_have_logs counts System = refl
all_have_logs Whole Environment = refl
all_have_logs Local Environment = refl
