use Rattle.std.specs.Prelude.{◌≡◌, ◌≢◌, ℕ, List, [], ◌∷◌, ◌++◌}
use Rattle.atomic_table.specs.Table.{Me, Step}
use Rattle.refutation_log.specs.declared.entries.Entry.{Entry}
use Rattle.refutation_log.specs.State.{Log}
use Rattle.refutation_log.specs.Teaches.{entries_by}
use Rattle.clause_exchange.specs.declared.views.Part.{Part}
use Rattle.clause_exchange.specs.declared.views.View.{View}
use Rattle.clause_exchange.specs.declared.views.View.TheVariants.{Resting, Begun}
use Rattle.names_and_numbers.specs.Prefix.{IsPrefix}
use Rattle.clause_exchange.specs.SharedLog.{IsLogOn}
use Rattle.clause_exchange.specs.Rule.{HasRoom, IsPartOf, view_parts}

abbrev pub Place : Type 0
Place = Me Log View

-- The seat of a pass outside of a turn.
abbrev pub idle : Part → Place
idle part = (Resting (part ∷ []), [])

-- A seat in a turn that began at a list, with what the slot holds now.
abbrev pub begun : List Entry → Log → Part → Place
begun log value part = (Begun log part, (0, value) ∷ [])

-- What a seat knows of the slot as its turn begins.
pub record IsOpenTo (part : Part) (value : Log) : Type 0 where
  pub is_log : IsLogOn part.terms value.entries
  pub room : HasRoom part.terms.limit value
  pub part_of : IsPartOf part.terms value.entries part

-- The seat's turn has begun: it has the slot's value as it was at home.
abbrev pub Begins : Part → Place → Type 0
Begins part after = (value : Log) × (after ≡ begun value.entries value part) × IsOpenTo part value

-- What a turn may make of the log that it began at: it may add entries of its pass at the end.
pub record IsMoved (part : Part) (log : List Entry) (value : Log) : Type 0 where
  pub is_log : IsLogOn part.terms value.entries
  pub room : HasRoom part.terms.limit value
  pub grows : IsPrefix log value.entries
  pub others : (number : ℕ) → number ≢ part.number → entries_by number value.entries ≡ entries_by number log

-- The part of a pass whose turn left this log.
abbrev pub moved : Part → List Entry → Part
moved part log = record { terms = part.terms; number = part.number; seen = log; own = entries_by part.number log }

-- What the steps tell: whoever finds 0 has the log, and whoever gives it back has seen what it left.
abbrev pub taken : Step Log → Place → ℕ → Place → Type 0
taken st m found n = (part : Part) → m ≡ idle part → (found ≡ 0 → Begins part n) × (found ≢ 0 → n ≡ idle part)

abbrev pub given : Step Log → Place → ℕ → Place → Type 0
given st m stored n = (log : List Entry) (value : Log) (part : Part) → m ≡ begun log value part → n ≡ idle (moved part value.entries)

-- The first part goes to a seat of its own, and the others stay.
abbrev pub undealt : View → View
undealt (Resting []) = Resting []
undealt (Resting (p ∷ ps)) = Resting ps
undealt (Begun log part) = Begun log part

abbrev pub dealt : View → View
dealt (Resting []) = Resting []
dealt (Resting (p ∷ ps)) = Resting (p ∷ [])
dealt (Begun log part) = Resting []

-- The parts of the other seat come first.
abbrev pub gathered : View → View → View
gathered v w = Resting (view_parts w ++ view_parts v)

abbrev pub spent : View
spent = Resting []
