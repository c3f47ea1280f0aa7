use Rattle.std.specs.Prelude.{◌≡◌, ℕ, ◌-◌, ◌^◌, ◌<◌, ◌≤◌, ◌⊎◌, true, List, ◌++◌, Option, Some, None, All, map}
use Rattle.letters_and_lassos.specs.declared.kinds.Side.{Side}
use Rattle.letters_and_lassos.specs.declared.kinds.Side.TheVariants.{System, Environment}
use Rattle.machine_model.specs.Machine.{MachineModel, size_of}
use Rattle.machine_model.specs.Problem.{sized}
use Rattle.machine_model.specs.declared.problems.Problem.{Problem}
use Rattle.annotation_encode.specs.Count.{allowed_sizes}
use Rattle.annotation_encode.specs.Variables.{variables_of}
use Rattle.refutation_log.specs.Log.{is_ended}
use Rattle.size_search.specs.declared.size_log.SizeLog.{SizeLog}
use Rattle.size_search.specs.Decided.{IsAcceptedOf}
use Rattle.synth_engine.specs.declared.settings.Settings.{Settings}
use Rattle.synth_engine.specs.declared.outcomes.Found.{Found}
use Rattle.synth_engine.specs.declared.outcomes.Outcome.{Outcome}
use Rattle.synth_engine.specs.Searched.{allowed_of}
use Rattle.synth_engine.specs.Logs.{HasNone, IsClosedLog, IsFullLog, IsLogOf, log_claim, sizes_to}

-- What the outcome of a search holds (this project's own).

-- a machine of an allowed size of the problem, which the problem's side accepts
pub record IsFound (p : Problem) (settings : Settings) (m : MachineModel) : Type 0 where
  pub accepted : IsAcceptedOf (sized p (size_of m)) m
  pub some : 0 < size_of m
  pub allowed : size_of m ≤ allowed_sizes p settings.max

-- A log of the problem that is closed or full. If it is closed, its size has no machine.
pub record IsSettled (p : Problem) (settings : Settings) (l : SizeLog) : Type 0 where
  pub log : IsLogOf p settings l
  pub ended : IsClosedLog p settings l ⊎ IsFullLog p settings l
  pub refutes : IsClosedLog p settings l → HasNone p l.size

-- The logs of the problem's first sizes, in their order, each settled.
pub record AreSettled (p : Problem) (settings : Settings) (count : ℕ) (logs : List SizeLog) : Type 0 where
  pub places : map log_claim logs ≡ sizes_to p.side count
  pub each : All (IsSettled p settings) logs

-- A machine of the problem, with the logs of all smaller sizes. Where these are closed, it is the smallest.
pub record IsFoundWith (p : Problem) (settings : Settings) (m : MachineModel) (logs : List SizeLog) : Type 0 where
  pub found : IsFound p settings m
  pub smaller : AreSettled p settings (size_of m - 1) logs

-- What holds of a side's problem; nothing holds of a side that has none.
abbrev pub OfSide : Problem → Option Problem → (Problem → Type 0) → Side → Type 0
OfSide system environment P System = P system
OfSide system None P Environment = ⊥
OfSide system (Some environment) P Environment = P environment

-- The logs of all allowed sizes, each settled: the system's in their order, then the environment's.
pub record AreAllSettled (system : Problem) (environment : Option Problem) (settings : Settings) (logs : List SizeLog) : Type 0 where
  pub places : map log_claim logs ≡ sizes_to System (allowed_sizes system settings.max) ++ sizes_to Environment (allowed_of settings.max environment)
  pub each : All (λ l. OfSide system environment (λ p. IsSettled p settings l) l.side) logs

-- what goes with a machine that was found, and what without one
abbrev pub GoesWith : Problem → Option Problem → Settings → List SizeLog → Option Found → Type 0
GoesWith system environment settings logs None = AreAllSettled system environment settings logs
GoesWith system environment settings logs (Some found) = OfSide system environment (λ p. IsFoundWith p settings found.machine logs) found.side

-- No log of an allowed size of the problem can be full: the limit is at least the number of clauses over its variables,
-- each variable with one of two signs or not in the clause (propositional logic).
abbrev pub IsOutOfReach : ℕ → ℕ → Problem → Type 0
IsOutOfReach max limit p = (n : ℕ) → 0 < n → n ≤ allowed_sizes p max → 3 ^ variables_of (sized p n) ≤ limit

-- A log can't be full: there is no limit, or one that no log of an allowed size of either side can reach.
abbrev pub CannotFill : Problem → Option Problem → Settings → Type 0
CannotFill system environment settings =
    (settings.entries ≡ None)
    ⊎ ((limit : ℕ) × (settings.entries ≡ Some limit) × IsOutOfReach settings.max limit system
    × ((p : Problem) → environment ≡ Some p → IsOutOfReach settings.max limit p))

-- A machine of a side with the logs of its smaller sizes, or none with the logs of all sizes; where no log can be full, each is closed.
pub record IsOutcomeOf (system : Problem) (environment : Option Problem) (settings : Settings) (o : Outcome) : Type 0 where
  pub goes : GoesWith system environment settings o.logs.items o.found
  pub decisive : CannotFill system environment settings → All (λ l. is_ended l.log.entries ≡ true) o.logs.items
