use Rattle.std.proofs.Common.{◌+◌, ◌*◌, max}
use Rattle.ltl_normal.specs.Performs.{part_bound}
use Rattle.ltl_normal.proofs.forms.+forms.Given as goal

abbrev pub decreases-form : goal.decreases-form
decreases-form l = 6 * l.part.id.0 + 5

abbrev pub decreases-build : goal.decreases-build
decreases-build l = 6 * part_bound l.node + 3

abbrev pub decreases-both : goal.decreases-both
decreases-both l = 6 * max l.a.id.0 l.b.id.0 + 6

abbrev pub decreases-from_constant : goal.decreases-from_constant
decreases-from_constant l = 6 * l.a.id.0 + 6

abbrev pub decreases-next_of : goal.decreases-next_of
decreases-next_of l = 6 * l.a.id.0 + 6

abbrev pub decreases-equivalence : goal.decreases-equivalence
decreases-equivalence l = 6 * max l.a.0 l.b.id.0 + 7

abbrev pub decreases-weak_until : goal.decreases-weak_until
decreases-weak_until l = 6 * max l.a.0 l.b.id.0 + 7
