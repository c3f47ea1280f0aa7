-- The order of a witness's obligations: three of the whole, then three of each part (this project's own).
use Rattle.std.specs.Prelude.{ℕ, ◌+◌, ◌-◌, ◌*◌, ◌/◌, ◌%◌, length, nat_eq, if◌then◌else◌}
use Rattle.truth_witness.specs.declared.witnesses.Obligation.{Obligation}
use Rattle.truth_witness.specs.declared.witnesses.Obligation.TheVariants.{Base, Keep, Cover, Enter, Stay, Fall}
use Rattle.truth_witness.specs.Witness.{Witness}

-- the obligation at a place among those of parts
abbrev pub of_part : ℕ → Obligation
of_part k = if nat_eq (k % 3) 0 then Enter (k / 3) else if nat_eq (k % 3) 1 then Stay (k / 3) else Fall (k / 3)

-- the obligation at a place, from 0
abbrev pub obligation_at : ℕ → Obligation
obligation_at k = if nat_eq k 0 then Base else if nat_eq k 1 then Keep else if nat_eq k 2 then Cover else of_part (k - 3)

-- the place of an obligation
abbrev pub place_of : Obligation → ℕ
place_of Base = 0
place_of Keep = 1
place_of Cover = 2
place_of (Enter n) = 3 * n + 3
place_of (Stay n) = 3 * n + 4
place_of (Fall n) = 3 * n + 5

-- how many obligations a witness has
abbrev pub obligation_count : Witness → ℕ
obligation_count w = 3 + 3 * length w.parts
