use Rattle.std.specs.Prelude.{◌≡◌, ℕ, ◌-◌, ◌<◌, ◌≤◌, ◌⊎◌, List, Option, Some, None, All, length}
use Rattle.machine_model.specs.Machine.{MachineModel, size_of}
use Rattle.machine_model.specs.Problem.{sized}
use Rattle.machine_model.specs.declared.problems.Problem.{Problem}
use Rattle.size_search.specs.Task.{SizeTaskModel}
use Rattle.size_search.specs.Decided.{IsAcceptedOf, IsClosedOn, IsFullOn}
use Rattle.size_search.specs.SizeLog.{IsSizeLog}
use Rattle.size_search.specs.declared.size_log.SizeLog.{SizeLog}
use Rattle.synth_engine.specs.declared.settings.Settings.{Settings}
use Rattle.synth_engine.specs.declared.settling.Answer.{Answer}
use Rattle.synth_engine.specs.declared.settling.Answer.TheVariants.{Machine, Log}
use Rattle.synth_engine.specs.declared.settling.Settled.{Settled}
use Rattle.synth_engine.specs.declared.settling.Unsettled.{Unsettled}
use Rattle.synth_engine.specs.Outcomes.{AreSettled}
use Rattle.synth_engine.specs.Hands.{AreCrewsFrom}

-- All seats of the tasks that are left are there.
pub record HasItsSeats (u : Unsettled) : Type 0 where
  pub some : 0 < length u.crews.items
  pub crews : AreCrewsFrom (length u.crews.items - 1) u.tasks.items u.crews.items
  pub all : All (λ t. t.exchange.terms.seats ≡ length u.crews.items) u.tasks.items

-- A task is settled by a machine, or by its log.
abbrev pub IsAnswerOf : SizeTaskModel → Answer → Type 0
IsAnswerOf t (Machine machine) = IsAcceptedOf t.problem machine
IsAnswerOf t (Log log) =
    IsSizeLog t.problem t.exchange.terms log × (IsClosedOn t.exchange.terms log.log.entries ⊎ IsFullOn t.exchange.terms log.log.entries)
    × (IsClosedOn t.exchange.terms log.log.entries → (m : MachineModel) → IsAcceptedOf t.problem m → ⊥)

-- A machine of at most so many states, with the logs of all smaller sizes.
pub record IsFoundBelow (p : Problem) (settings : Settings) (count : ℕ) (logs : List SizeLog) (m : MachineModel) : Type 0 where
  pub accepted : IsAcceptedOf (sized p (size_of m)) m
  pub some : 0 < size_of m
  pub most : size_of m ≤ count
  pub smaller : AreSettled p settings (size_of m - 1) logs

abbrev pub FoundOrNot : Problem → Settings → ℕ → List SizeLog → Option MachineModel → Type 0
FoundOrNot p settings count logs None = AreSettled p settings count logs
FoundOrNot p settings count logs (Some m) = IsFoundBelow p settings count logs m

-- The first sizes of a problem are settled, up to the first one that has a machine.
abbrev pub AreFirstSettled : Problem → Settings → ℕ → Settled → Type 0
AreFirstSettled p settings count s = FoundOrNot p settings count s.logs.items s.machine
