use Rattle.std.proofs.Common.{◌≡◌, ◌+◌, length}
use Rattle.machine_model.specs.Course.{IsCourse}
use Rattle.machine_model.proofs.runs.Course.follow.Given as goal

abbrev pub invariant-loop-position : goal.invariant-loop-position
invariant-loop-position l =
    IsCourse l.machine l.side l.reads l.self.letters.items l.self.states.items l.self.state
    × (length l.self.letters.items + l.from ≡ length l.initial.self.letters.items + l.position)
