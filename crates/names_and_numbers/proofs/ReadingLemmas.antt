-- A place in bytes, as what is taken there and what is left.
use Rattle.std.proofs.Common.{◌≡◌, ℕ, ◌+◌, List, take, drop, sym}
use Rattle.std.proofs.Math.Seq.{take-add}
use Rattle.std.proofs.lemmas.List.{drop-drop}
use Rattle.names_and_numbers.specs.Reading.{Reading, moved}

abbrev pub reading_at : List ℕ → ℕ → Reading
reading_at bytes at = record { taken = take at bytes; left = drop at bytes }

pub moved-reading_at : (bytes : List ℕ) (at n : ℕ) → reading_at bytes (at + n) ≡ moved (reading_at bytes at) n
moved-reading_at bytes at n =
    let left = sym (drop-drop n at bytes) in
    λ i. record { taken = take-add at n bytes i; left = left i }
