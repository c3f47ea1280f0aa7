-- Documents whose parts fit each other (this project's own).
use Rattle.std.specs.Prelude.{◌≡◌, ℕ, ◌<◌, ◌≤◌, ◌^◌, ◌⊎◌, Bool, true, false, length, All, IsTrue, IfSome, is_some}
use Rattle.refutation_log.specs.Text.{IsWritable}
use Rattle.document_text.specs.Parts.{LogPart, Document}
use Rattle.document_text.specs.Order.{AreInOrder, fits_max, fits_version, has_its_place, is_in_range, is_version, may_tell_found, order_of, first_place}
use Rattle.document_text.specs.Reading.{all_named}

-- a log whose numbers lines can hold, over whose variables its entries are such as lines may state
pub record IsLogPart (l : LogPart) : Type 0 where
  pub size : l.size < 2 ^ 32
  pub vars : l.vars < 2 ^ 32
  pub base : l.base < 2 ^ 64
  pub count : length l.entries < 2 ^ 64
  pub entries : All (IsWritable l.vars) l.entries

-- nothing was found, or a machine of 2 states or more where that may be told
abbrev pub IsFoundNumber : Bool → ℕ → ℕ → Type 0
IsFoundNumber true max found = (found ≡ 0) ⊎ IsTrue (is_in_range 2 max found)
IsFoundNumber false max found = found ≡ 0

-- A circuit with all its names stands exactly for the verdicts that have one, the numbers are in their ranges, and the logs stand
-- in the order that the verdict wants, as far as that needs no text.
pub record IsWellFormed (d : Document) : Type 0 where
  pub version : IsTrue (is_version d.version)
  pub verdict : IsTrue (fits_version d.version d.verdict)
  pub circuit : IsTrue (has_its_place (is_some d.circuit) d.verdict)
  pub named : IfSome d.circuit (λ c. IsTrue (all_named c))
  pub max : IsTrue (is_in_range 1 8 d.max)
  pub number : IsTrue (fits_max d.max d.verdict)
  pub entries : IfSome d.entries (λ most. most ≤ 250000)
  pub found : IsFoundNumber (may_tell_found d.version d.verdict) d.max d.found
  pub order : AreInOrder (order_of d.version d.verdict d.max d.found) (first_place (order_of d.version d.verdict d.max d.found)) d.logs
  pub logs : All IsLogPart d.logs
