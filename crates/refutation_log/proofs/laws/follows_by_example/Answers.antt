use Rattle.std.proofs.Common.{refl}
use Rattle.refutation_log.proofs.laws.follows_by_example.Goals as goal

pub returns : goal.returns
returns c = record {
  conflict = refl;
  only_unit = refl;
  no_such_clause = refl;
  no_clause_zero = refl;
  no_hint = refl;
  copy = refl;
  learnt = refl;
  not_unit = refl;
  weaker = refl;
  falsified_early = refl;
}
