-- What bounds a search (this project's own).
use Rattle.std.specs.Prelude.{ℕ, ◌≤◌, Option, IfSome}
use Rattle.text_limits.specs.declared.TheConstants.{SMALL_LIMITS}
use Rattle.machine_model.specs.declared.counting.Counts.{Counts}

-- the greatest number of states, the greatest number of entries of a log, if there is a limit, how many workers run beside the caller, and what
-- annotations count
pub record Settings : Type 0 where
  pub max : ℕ
  pub entries : Option ℕ
  pub workers : ℕ
  pub counts : Counts

-- the bounds of these numbers, which each value of the code's type keeps
pub record IsWithinBounds (settings : Settings) : Type 0 where
  pub some_size : 1 ≤ settings.max
  pub most_size : settings.max ≤ SMALL_LIMITS.machine
  pub most_entries : IfSome settings.entries (λ most. most ≤ 250000)
  pub most_workers : settings.workers ≤ 8

-- the same settings without workers beside the caller
abbrev pub alone : Settings → Settings
alone settings = record { max = settings.max; entries = settings.entries; workers = 0; counts = settings.counts }
