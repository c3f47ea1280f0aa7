-- What bounds say of a whole witness.
use Rattle.std.specs.Prelude.{◌≡◌, ◌↔◌, ℕ, ◌<◌, ◌≤◌, None, All, length}
use Rattle.truth_witness.specs.declared.witnesses.TheConstants.{MAX_RANK_BITS, MAX_INDEX_BITS}
use Rattle.truth_witness.specs.Proved.{IsWitnessFor}
use Rattle.truth_witness.specs.Witness.{Claim, Part, Witness}
use Rattle.witness_bounds.specs.Bounds.{bounds_in}
use Rattle.witness_bounds.specs.Lines.{first_outside, lines_of}

-- the part's bits are as few as they have to be
pub record HasFewBits (p : Part) : Type 0 where
  pub rank : length p.rank ≤ MAX_RANK_BITS
  pub index : length p.index ≤ MAX_INDEX_BITS

-- the witness has a part, and each has few bits: what a witness owes beside the bounds of its literals
pub record HasFewBitsInParts (w : Witness) : Type 0 where
  pub some_part : 0 < length w.parts
  pub bits : All HasFewBits w.parts

-- A witness is one for what is claimed exactly where no literal is out of its bound and its parts are as they have to be.
pub record WitnessesAreBounded : Type 0 where
  pub bounded : (x : Claim) → HasFewBitsInParts x.witness → (first_outside (bounds_in x) (lines_of x.witness) ≡ None) ↔ IsWitnessFor x
  pub few_bits : (x : Claim) → IsWitnessFor x → HasFewBitsInParts x.witness
