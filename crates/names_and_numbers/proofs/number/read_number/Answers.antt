use Rattle.std.proofs.Common.{List, ℕ, subst, sym, IsTrue}
use Rattle.std.specs.Str.{all_ascii_digits}
use Rattle.names_and_numbers.proofs.NumeralLemmas.{all_digits-digit_run}
use Rattle.names_and_numbers.proofs.number.read_number.Goals as goal

pub value_within-requires : goal.value_within-requires
value_within-requires c = subst (λ (run : List ℕ). IsTrue (all_ascii_digits run)) (sym c.digits_at_front-run.ensures.run) (all_digits-digit_run c.left.result.now)
