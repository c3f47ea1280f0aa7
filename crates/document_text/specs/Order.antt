-- Which logs stand in a document, and in which order, as far as that needs no text, and what a verdict says of them (this project's own).
use Rattle.std.specs.Prelude.{◌==◌, ℕ, zero, suc, ◌+◌, ◌-◌, Bool, true, false, not, ◌&&◌, ◌||◌, Option, Some, None, List, [], ◌∷◌, IsTrue, is_some, nat_le, nat_lt, if◌then◌else◌}
use Rattle.std.specs.Option.{option_map_or}
use Rattle.letters_and_lassos.specs.contracts.kinds.SidePartialEq.TheImpl.{ghosts as side_ghosts}
use Rattle.letters_and_lassos.specs.declared.kinds.Side.{Side}
use Rattle.letters_and_lassos.specs.declared.kinds.Side.TheVariants.{System, Environment}
use Rattle.document_text.specs.declared.documents.Verdict.{Verdict}
use Rattle.document_text.specs.declared.documents.Verdict.TheVariants.{Machine, Unknown}
use Rattle.document_text.specs.declared.order.Order.{Order}
use Rattle.document_text.specs.declared.order.Order.TheVariants.{UpTo, AnyUpTo}
use Rattle.document_text.specs.declared.order.Place.{Place}
use Rattle.document_text.specs.Parts.{LogPart}

abbrev pub place : Side → ℕ → Place
place side size = record { side = side; size = size }

-- == what a verdict says ==

-- the side of a verdict's machine, and its number of states
abbrev pub machine_of : Verdict → Option Place
machine_of (Machine side states least) = Some (place side states)
machine_of (Unknown first) = None

-- the side and the size that a verdict names: those of its machine, or of a log
abbrev pub named_of : Verdict → Option Place
named_of (Machine side states least) = Some (place side states)
named_of (Unknown first) = first

-- what is said of a machine of this side and size, or of none, beside logs of which this one is the first that isn't closed
abbrev pub verdict_of : Option Place → Option Place → Verdict
verdict_of None first = Unknown first
verdict_of (Some machine) first = Machine machine.side machine.size (not (is_some first))

-- the verdict stands behind a circuit where it tells a machine, else without one
abbrev pub has_its_place : Bool → Verdict → Bool
has_its_place circuit (Machine side states least) = circuit
has_its_place circuit (Unknown first) = not circuit

abbrev pub is_in_range : ℕ → ℕ → ℕ → Bool
is_in_range least most n = nat_le least n && nat_le n most

-- the number that the verdict names is a size: from 1 to the greatest that was asked for
abbrev pub fits_max : ℕ → Verdict → Bool
fits_max max verdict = option_map_or (λ (p : Place). is_in_range 1 max p.size) (named_of verdict) true

-- == versions ==

-- the versions of documents: 5 is as 3, over base clauses that count by component
abbrev pub is_version : ℕ → Bool
is_version version = is_in_range 1 3 version || (version == 5)

-- whether documents of this version tell machines that needn't be the least, and have logs beside a counter-machine
abbrev pub tells_bounds : ℕ → Bool
tells_bounds version = (version == 3) || (version == 5)

-- a machine that needn't be the least is told in such versions
abbrev pub fits_version : ℕ → Verdict → Bool
fits_version version (Machine side states least) = least || tells_bounds version
fits_version version (Unknown first) = true

-- a machine that was found may be told: in the versions 1 and 2, where a log is named
abbrev pub may_tell_found : ℕ → Verdict → Bool
may_tell_found version (Machine side states least) = false
may_tell_found version (Unknown first) = is_some first && nat_lt version 3

-- == which logs a verdict wants ==

-- logs stand beside a machine of this side
abbrev pub has_logs : ℕ → Side → Bool
has_logs version System = true
has_logs version Environment = tells_bounds version

-- with a machine of n + 1 states that was found, the logs are those of the system's sizes below that; else those of any sizes
abbrev pub order_found : ℕ → ℕ → Order
order_found max zero = AnyUpTo max
order_found max (suc n) = UpTo System n

-- which logs a document's verdict wants: those of one side's sizes from 1 up to a number, or those of the system's sizes up to
-- some number and then of the environment's, none above the greatest that was asked for
abbrev pub order_of : ℕ → Verdict → ℕ → ℕ → Order
order_of version (Machine side states least) max found = UpTo side (if has_logs version side then states - 1 else 0)
order_of version (Unknown first) max found = order_found max found

-- before the first log
abbrev pub first_place : Order → Place
first_place (UpTo side count) = place side 0
first_place (AnyUpTo max) = place System 0

-- the next size of the same side
abbrev pub is_next_size : Place → Place → Bool
is_next_size last next = side_ghosts.eq last.side next.side && (next.size == last.size + 1)

-- the first size of the environment, behind the system's
abbrev pub is_first_other : Place → Place → Bool
is_first_other last next = side_ghosts.eq last.side System && (side_ghosts.eq next.side Environment && (next.size == 1))

-- the log that comes next may be this one
abbrev pub may_follow : Order → Place → Place → Bool
may_follow (UpTo side count) last next = is_next_size last next && nat_lt last.size count
may_follow (AnyUpTo max) last next = (is_next_size last next && nat_lt last.size max) || is_first_other last next

-- no further log is wanted
abbrev pub may_end : Order → Place → Bool
may_end (UpTo side count) last = last.size == count
may_end (AnyUpTo max) last = true

-- a log's side and size
abbrev pub log_place : LogPart → Place
log_place l = place l.side l.size

-- the logs stand in this order from there on, and none is missing
abbrev pub AreInOrder : Order → Place → List LogPart → Type 0
AreInOrder order last [] = IsTrue (may_end order last)
AreInOrder order last (l ∷ logs) = IsTrue (may_follow order last (log_place l)) × AreInOrder order (log_place l) logs
