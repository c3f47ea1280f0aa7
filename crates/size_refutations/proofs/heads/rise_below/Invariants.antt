use Rattle.std.proofs.Common.{◌≡◌, drop}
use Rattle.size_refutations.specs.Heads.{rise_below}
use Rattle.size_refutations.proofs.heads.rise_below.Given as goal

-- those that are left are tested from the number that is due
abbrev pub invariant-loop-letter : goal.invariant-loop-letter
invariant-loop-letter l = rise_below l.all l.least (drop l.letter-index l.letters) ≡ rise_below l.all 0 l.letters
