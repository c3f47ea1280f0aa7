-- Literals that fit the code's numbers, also at the next position (this project's own).
use Rattle.std.specs.Prelude.{◌+◌, ◌^◌, ◌≤◌, All, length}
use Rattle.truth_witness.specs.Witness.{Part}

-- the literals of the part's bits are small, and the bits are few
pub record IsSmallPart (p : Part) : Type 0 where
  pub rank : All (λ l. l ≤ 2 ^ 30 + 1) p.rank
  pub index : All (λ l. l ≤ 2 ^ 30 + 1) p.index
  pub rank_bits : length p.rank ≤ 64
  pub index_bits : length p.index ≤ 14
