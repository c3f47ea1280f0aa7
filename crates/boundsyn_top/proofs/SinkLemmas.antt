-- What a sink gained by several pieces.
use Rattle.std.proofs.Common.{◌≡◌, ℕ, List, ◌++◌, take, drop}
use Rattle.std.proofs.lemmas.Grind.{common_steps}
use Rattle.std.proofs.Common.{arith}

pub cut_joins : (n : ℕ) (rest front back : List ℕ) → front ≡ take n rest → back ≡ drop n rest → front ++ back ≡ rest
cut_joins n rest front back front_is back_is = rw (front_is, back_is) (grind (arith, common_steps))
