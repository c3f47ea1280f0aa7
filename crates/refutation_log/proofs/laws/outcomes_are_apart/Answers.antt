use Rattle.refutation_log.proofs.Outcomes.{one_reading, read_not_bad, read_not_short, one_bad_line, bad_not_short}
use Rattle.refutation_log.proofs.laws.outcomes_are_apart.Goals as goal

pub returns : goal.returns
returns c = record {
  one_reading = one_reading;
  read_not_bad = read_not_bad;
  read_not_short = read_not_short;
  one_bad_line = one_bad_line;
  bad_not_short = bad_not_short;
}
