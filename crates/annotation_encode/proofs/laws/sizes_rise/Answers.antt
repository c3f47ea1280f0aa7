use Rattle.annotation_encode.proofs.AllowedSizes.{sizes_rise}
use Rattle.annotation_encode.proofs.laws.sizes_rise.Goals as goal

pub returns : goal.returns
returns c = sizes_rise
