use Rattle.std.specs.Prelude.{◌≡◌, ℕ, ◌+◌, ◌-◌, ◌<◌, ◌≤◌, List, Some, All, map, length, slice_get}
use Rattle.letters_and_lassos.specs.declared.kinds.Side.{Side}
use Rattle.letters_and_lassos.specs.declared.kinds.Side.TheVariants.{System, Environment}
use Rattle.machine_model.specs.Problem.{parts_of, sized}
use Rattle.machine_model.specs.declared.problems.Problem.{Problem}
use Rattle.annotation_encode.specs.BaseClauses.{base_clauses}
use Rattle.annotation_encode.specs.Variables.{variables_of}
use Rattle.refutation_log.specs.declared.entries.Entry.{Entry}
use Rattle.clause_exchange.specs.SharedLog.{PassView}
use Rattle.size_board.specs.Names.{Named, sizes_of, sought_by, sought_of}
use Rattle.size_board.specs.declared.events.Claim.{Claim}
use Rattle.size_search.specs.Task.{SizeTaskModel, terms_of}
use Rattle.size_search.specs.Decided.{IsDecided}
use Rattle.size_search.specs.declared.decided.Decided.{Decided}
use Rattle.synth_engine.specs.declared.settings.Settings.{Settings}
use Rattle.synth_engine.specs.declared.crews.Crew.{Crew}
use Rattle.synth_engine.specs.declared.sizes.Sizes.{Sizes}

-- The task of the problem at size n, with a seat for each worker and the caller.
pub record IsTaskOf (p : Problem) (settings : Settings) (n : ℕ) (t : SizeTaskModel) : Type 0 where
  pub parts : parts_of t.problem ≡ parts_of (sized p n)
  pub vars : variables_of t.problem ≡ variables_of (sized p n)
  pub base : base_clauses t.problem ≡ base_clauses (sized p n)
  pub terms : t.exchange.terms ≡ terms_of t.problem settings.entries (settings.workers + 1)

-- The tasks of the problem's sizes from `top` down, as far as they are left: the last one is that of the smallest size.
pub record AreTasks (p : Problem) (settings : Settings) (top : ℕ) (tasks : List SizeTaskModel) : Type 0 where
  pub few : length tasks ≤ top
  pub each : (k : ℕ) (t : SizeTaskModel) → slice_get tasks k ≡ Some t → IsTaskOf p settings (top - k) t

-- A worker's seats, one at each of these tasks.
pub record AreSeats (number : ℕ) (tasks : List SizeTaskModel) (seats : List PassView) : Type 0 where
  pub exchanges : map (λ s. s.exchange) seats ≡ map (λ t. t.exchange) tasks
  pub numbers : All (λ s. s.number ≡ number) seats

-- A worker with a seat at each size of both sides.
pub record IsCrewOf (sizes : Sizes) (crew : Crew) : Type 0 where
  pub system : AreSeats crew.number sizes.system.items crew.system.items
  pub environment : AreSeats crew.number sizes.environment.items crew.environment.items

-- The tasks of a side are those of the sizes that a board allows, from the largest one down.
pub record FitNames (names : Named) (side : Side) (tasks : List SizeTaskModel) : Type 0 where
  pub count : length tasks ≡ sizes_of names side
  pub each : (k : ℕ) (t : SizeTaskModel) → slice_get tasks k ≡ Some t
      → (sought_by names side ≡ Some (sought_of t.problem)) × (t.problem.size ≡ sizes_of names side - k)

abbrev pub SizesFit : Named → Sizes → Type 0
SizesFit names sizes = FitNames names System sizes.system.items × FitNames names Environment sizes.environment.items

-- A size of a side is one that a board allows.
pub record IsAllowed (names : Named) (claim : Claim) : Type 0 where
  pub some : 0 < claim.size
  pub most : claim.size ≤ sizes_of names claim.side

-- What was decided of the task at this place.
abbrev pub IsVerdictAt : List SizeTaskModel → ℕ → Decided → Type 0
IsVerdictAt tasks k decided =
    (t : SizeTaskModel) × (seen : List Entry) × (slice_get tasks k ≡ Some t) × IsDecided t.problem t.exchange.terms seen decided

-- What was decided of a size may be marked on a board.
abbrev pub IsVerdict : Named → Claim → Decided → Type 0
IsVerdict names claim decided =
    (t : SizeTaskModel) × (seen : List Entry) × (sought_by names claim.side ≡ Some (sought_of t.problem)) × (t.problem.size ≡ claim.size)
    × IsDecided t.problem t.exchange.terms seen decided
