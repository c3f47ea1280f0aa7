use Rattle.witness_text.proofs.Whole.{all_good, good_lines, one_bad_line, one_witness, reads_same, stated_not_bad, written}
use Rattle.witness_text.proofs.laws.witnesses_are_determined.Goals as goal

pub returns : goal.returns
returns c = record {
  one_reading = reads_same;
  one_witness = one_witness;
  good_lines = good_lines;
  all_good = all_good;
  one_bad_line = one_bad_line;
  stated_not_bad = stated_not_bad;
  written = written;
}
