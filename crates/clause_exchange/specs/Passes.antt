use Rattle.std.specs.Prelude.{◌≡◌, [], ◌∷◌, None}
use Rattle.atomic_table.specs.Seated.{TableId}
use Rattle.refutation_log.specs.Teaches.{entries_by}
use Rattle.clause_exchange.specs.declared.views.Part.{Part}
use Rattle.clause_exchange.specs.declared.views.View.{View}
use Rattle.clause_exchange.specs.declared.views.View.TheVariants.{Resting, Begun}
use Rattle.clause_exchange.specs.SharedLog.{PassView}
use Rattle.clause_exchange.specs.Steps.{Place, idle}

-- A part that no seat of a pass has.
abbrev pub no_part : Part
no_part = record { terms = record { vars = 0; base = []; limit = None; seats = 0 }; number = 0; seen = []; own = [] }

abbrev pub part_of : View → Part
part_of (Resting []) = no_part
part_of (Resting (p ∷ ps)) = p
part_of (Begun log part) = part

abbrev pub view_of_part : TableId → Part → PassView
view_of_part id part = record { exchange = record { id = id; terms = part.terms }; number = part.number; seen = part.seen; own = part.own }

abbrev pub pass_view : TableId → Place → PassView
pass_view id place = view_of_part id (part_of place.0)

-- The seat of a pass between two turns.
abbrev pub IsPass : Place → Type 0
IsPass place = (part : Part) × (place ≡ idle part) × (part.own ≡ entries_by part.number part.seen)
