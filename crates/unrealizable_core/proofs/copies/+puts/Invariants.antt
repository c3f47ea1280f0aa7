use Rattle.std.proofs.Common.{◌+◌, ◌*◌, max}
use Rattle.unrealizable_core.proofs.copies.+puts.Given as goal

abbrev pub decreases-put : goal.decreases-put
decreases-put l = 3 * l.id.0 + 1

abbrev pub decreases-put_parts : goal.decreases-put_parts
decreases-put_parts l = 3 * l.id.0

abbrev pub decreases-put_pair : goal.decreases-put_pair
decreases-put_pair l = 3 * max l.left.0 l.right.0 + 2
