use Rattle.std.proofs.Common.{◌+◌, ◌*◌, max}
use Rattle.ltl_formula.proofs.texts.+text.Given as goal

abbrev pub decreases-write_between : goal.decreases-write_between
decreases-write_between l = 3 * l.f.0 + 1

abbrev pub decreases-write_joined : goal.decreases-write_joined
decreases-write_joined l = 3 * max l.left.0 l.right.0 + 2

abbrev pub decreases-write_node : goal.decreases-write_node
decreases-write_node l = 3 * l.f.0
