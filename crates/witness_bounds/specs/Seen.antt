-- What borrows show (this project's own).
use Rattle.witness_bounds.specs.declared.lines.StatedLiterals.{StatedLiterals}
use Rattle.witness_bounds.specs.Lines.{Lines}

abbrev pub lines_seen : StatedLiterals → Lines
lines_seen w = record { latches = w.latches.now; gates = w.gates.now; always = w.always; parts = w.parts.now }
