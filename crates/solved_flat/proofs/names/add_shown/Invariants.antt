use Rattle.std.proofs.Common.{◌≡◌, ◌++◌, map, take}
use Rattle.solved_flat.specs.Shown.{shown_name}
use Rattle.solved_flat.proofs.names.add_shown.Given as goal

abbrev pub invariant-loop-name : goal.invariant-loop-name
invariant-loop-name l = l.shown.items ≡ l.initial.shown.items ++ map (shown_name l.is_shifted) (take l.name-index l.names)
