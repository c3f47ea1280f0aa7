use Rattle.std.proofs.Common.{refl}
use Rattle.truth_witness.proofs.laws.rules_by_hand.Goals as goal

pub returns : goal.returns
returns c = record {
  constants_vanish = refl;
  true_ones_are_left_out = refl;
  opposites_are_left_out = refl;
  each_once_and_rising = refl;
  index_of_one = refl;
  index_of_two = refl;
  ranks_compared = refl;
  environment_signals = refl;
  system_signals = refl;
  mixed_ids = refl;
  mixed_frame = refl;
  mixed_start = refl;
  mixed_step = refl;
  mixed_cover = refl;
  mixed_stay = refl;
}
