use Rattle.std.specs.Prelude.{◌≡◌, ℕ, ◌<◌, List, [], Some, map, length, slice_get}
use Rattle.atomic_table.specs.Seated.{TableId}
use Rattle.atomic_table.specs.declared.shared.Seat.{Seat}
use Rattle.refutation_log.specs.State.{Log}
use Rattle.clause_exchange.specs.declared.views.Setup.{Setup}
use Rattle.clause_exchange.specs.declared.views.Part.{Part}
use Rattle.clause_exchange.specs.declared.views.View.{View}
use Rattle.clause_exchange.specs.declared.views.View.TheVariants.{Resting}
use Rattle.clause_exchange.specs.SharedLog.{SharedLog, PassView, new_pass}
use Rattle.clause_exchange.specs.Rule.{terms_of, fresh_parts, in_turn, view_parts}
use Rattle.clause_exchange.specs.Steps.{Place}

-- The exchange of a table.
abbrev pub exchange_of : TableId → Setup → SharedLog
exchange_of id setup = record { id = id; terms = terms_of setup }

-- A seat that holds the passes of an exchange from a number on.
abbrev pub holding : Setup → ℕ → ℕ → Place
holding setup number count = (Resting (fresh_parts (terms_of setup) number count), [])

-- The table of an exchange, with the seat that holds all of its passes.
pub record IsDealer (id : TableId) (key : Setup) (seat : Seat Log View) : Type 0 where
  pub words : id.words ≡ 1
  pub slots : id.slots ≡ 1
  pub table : seat.table_id ≡ id
  pub holds : seat.me ≡ holding key 0 key.seats

-- The passes of an exchange as they are given out.
pub record IsDealt (id : TableId) (key : Setup) (seats : ℕ) (passes : List PassView) : Type 0 where
  pub count : length passes ≡ seats
  pub each : (i : ℕ) → i < seats → slice_get passes i ≡ Some (new_pass (exchange_of id key) i)

-- What the rule sees of a pass.
abbrev pub part_seen : PassView → Part
part_seen p = record { terms = p.exchange.terms; number = p.number; seen = p.seen; own = p.own }

-- The seat that took in these passes.
pub record IsGathered (id : TableId) (seat : Seat Log View) (passes : List PassView) : Type 0 where
  pub table : seat.table_id ≡ id
  pub no_slot : seat.me.1 ≡ []
  pub rests : in_turn seat.me.0 ≡ 0
  pub parts : view_parts seat.me.0 ≡ map part_seen passes
