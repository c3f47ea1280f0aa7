use Rattle.std.proofs.Common.{◌+◌, ◌*◌, max}
use Rattle.spec_texts.proofs.smv.+smv.Given as goal

abbrev pub decreases-put_one : goal.decreases-put_one
decreases-put_one l = 4 * l.f.0 + 1

abbrev pub decreases-put_smv : goal.decreases-put_smv
decreases-put_smv l = 4 * l.f.0

abbrev pub decreases-put_two : goal.decreases-put_two
decreases-put_two l = 4 * max l.left.0 l.right.0 + 2

abbrev pub decreases-put_weak : goal.decreases-put_weak
decreases-put_weak l = 4 * max l.left.0 l.right.0 + 3
