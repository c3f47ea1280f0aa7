use Rattle.annotation_encode.proofs.Counted.{whole_numbers}
use Rattle.annotation_encode.proofs.laws.whole_numbers.Goals as goal

pub returns : goal.returns
returns c = whole_numbers
