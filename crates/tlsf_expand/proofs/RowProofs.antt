-- The worked rows, each by evaluating the definitions.
use Rattle.std.proofs.Common.{refl}
use Rattle.tlsf_values.specs.Values.{evaluator}
use Rattle.tlsf_expand.specs.WrittenTruth.{reader}
use Rattle.tlsf_expand.specs.Rows.{RowsExpand}

pub rows : RowsExpand
unfolding evaluator reader
rows = record {
  one_of_a_type = refl;
  uneven_values = refl;
  unknown_type = refl;
  too_wide = refl;
  huge_width = refl;
  negative_width = refl;
  truth_as_width = refl;
  own_name_in_width = refl;
  no_formula = refl;
  other_target = refl;
  given_kind = refl;
  standard_meaning = refl;
  strict_meaning = refl;
}
