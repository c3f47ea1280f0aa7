use Rattle.std.proofs.Common.{◌≡◌, length}
use Rattle.spec_texts.proofs.infix.atoms_of.Given as goal

abbrev pub invariant-loop-name : goal.invariant-loop-name
invariant-loop-name l = length l.made.items ≡ l.name-index
