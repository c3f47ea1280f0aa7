use Rattle.std.proofs.Common.{refl}
use Rattle.truth_witness.proofs.laws.worked_by_hand.Goals as goal

pub returns : goal.returns
returns c = record {
  occur = refl;
  frame_variables = refl;
  frames = refl;
  starts = refl;
  next_frames = refl;
  steps = refl;
  base = refl;
  keep = refl;
  cover = refl;
  enter = refl;
  stay = refl;
  fall_is = refl;
  fall_variables = refl;
}
