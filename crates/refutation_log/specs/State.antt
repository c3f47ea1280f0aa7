use Rattle.std.specs.Prelude.{◌≡◌, ℕ, ◌+◌, ◌<◌, ◌≤◌, ⊤, List, Option, MatchOption, length}
use Rattle.propositional_logic.specs.Literal.{Literal}
use Rattle.refutation_log.specs.declared.entries.Entry.{Entry}
use Rattle.refutation_log.specs.declared.entries.Derivation.{Derivation}
use Rattle.refutation_log.specs.declared.turns.Turn.{Turn}
use Rattle.refutation_log.specs.declared.turns.Turn.TheVariants.{Append, Read}
use Rattle.refutation_log.specs.declared.turns.Reply.{Reply}
use Rattle.refutation_log.specs.declared.turns.Reply.TheVariants.{Known, Closed, Full, At, Seen}

-- What a `LogState` is seen as: its entries, its limit, and how many more entries fit without memory being asked for.
pub record Log : Type 0 where
  pub entries : List Entry
  pub limit : Option ℕ
  pub spare : ℕ

-- An entry, of its clause and the rest.
abbrev pub entry_of : (List Literal) × Derivation → Entry
entry_of p = record { by = p.1.by; clause = p.0; hints = p.1.hints }

-- What a turn asks of the room: an append needs some.
abbrev pub HasRoomFor : ℕ → Turn → Type 0
HasRoomFor spare Read = ⊤
HasRoomFor spare (Append _) = 0 < spare

-- There is room for one entry, and under a limit for one more than it still allows.
abbrev pub IsReserved : Log → Type 0
IsReserved log = (0 < log.spare) × MatchOption log.limit ⊤ (λ most. most < length log.entries + log.spare)

-- A change that leaves the entries and the limit.
pub record KeepsLog (old new : Log) : Type 0 where
  pub entries : new.entries ≡ old.entries
  pub limit : new.limit ≡ old.limit

-- What a reply leaves of the room: At uses up at most one place, and every other reply leaves it as it was.
abbrev pub KeepsSpare : Reply → ℕ → ℕ → Type 0
KeepsSpare (At _) old new = old ≤ new + 1
KeepsSpare (Known _) old new = new ≡ old
KeepsSpare Closed old new = new ≡ old
KeepsSpare Full old new = new ≡ old
KeepsSpare (Seen _) old new = new ≡ old
