-- The worked rows, each by evaluating the definition.
use Rattle.std.proofs.Common.{refl}
use Rattle.tlsf_values.specs.Rows.{RowsEvaluate}
use Rattle.tlsf_values.specs.Values.{evaluator}

pub rows : RowsEvaluate
unfolding evaluator
rows = record {
  unknown_name = refl;
  index_out = refl;
  last_bit = refl;
  signal_is_never_a_bus = λ nodes. refl;
  index_before_sorts = refl;
  zero_divisor = refl;
  rounds_to_zero = refl;
  sign_of_dividend = refl;
  least_divided = refl;
  too_large = refl;
  number_is_no_formula = refl;
  no_guard = refl;
  a_guard = refl;
  too_deep = refl;
  two_values = refl;
  no_member = refl;
  bits_joined = refl;
  huge_set = refl;
  falling_steps = refl;
  nothing_next = refl;
  window_of_two = refl;
  empty_window = refl;
}
