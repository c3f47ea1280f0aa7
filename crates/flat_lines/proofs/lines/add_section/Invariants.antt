use Rattle.std.proofs.Common.{◌≡◌, ◌++◌, map, take}
use Rattle.flat_lines.specs.declared.lines.Line.TheVariants.{Formula}
use Rattle.flat_lines.proofs.lines.add_section.Given as goal

abbrev pub invariant-loop-id : goal.invariant-loop-id
invariant-loop-id l = l.lines.items ≡ l.initial.lines.items ++ map (Formula l.section) (take l.id-index l.ids)
