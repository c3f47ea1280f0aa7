use Rattle.std.proofs.Common.{◌≡◌, drop}
use Rattle.std.specs.List.{list_all}
use Rattle.witness_bounds.specs.Lines.{is_of_frame}
use Rattle.witness_bounds.proofs.lines.are_of_frame.Given as goal

abbrev pub invariant-loop-lit : goal.invariant-loop-lit
invariant-loop-lit l = list_all (is_of_frame l.bounds) l.lits ≡ list_all (is_of_frame l.bounds) (drop l.lit-index l.lits)
