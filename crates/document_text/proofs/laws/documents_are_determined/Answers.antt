use Rattle.document_text.proofs.ReadingLemmas.{reads_same}
use Rattle.document_text.proofs.Whole.{one_document, good_lines, all_good, one_bad_line, stated_not_bad}
use Rattle.document_text.proofs.laws.documents_are_determined.Goals as goal

pub returns : goal.returns
returns c = record {
  one_reading = reads_same;
  one_document = one_document;
  good_lines = good_lines;
  all_good = all_good;
  one_bad_line = one_bad_line;
  stated_not_bad = stated_not_bad;
}
