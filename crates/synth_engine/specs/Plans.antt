use Rattle.std.specs.Prelude.{◌≡◌, ℕ, ◌+◌, ◌-◌, ◌<◌, ◌≤◌, Option, Some, None, List, All, length, slice_get, slice_index_or}
use Rattle.std.specs.Option.{option_map}
use Rattle.text_limits.specs.declared.TheConstants.{SMALL_LIMITS}
use Rattle.machine_model.specs.Machine.{size_of}
use Rattle.machine_model.specs.declared.problems.Problem.{Problem}
use Rattle.annotation_encode.specs.Count.{allowed_sizes}
use Rattle.size_board.specs.Names.{Named, SideHas, sizes_of, sought_by, sought_of}
use Rattle.machine_model.specs.Problem.{parts_of, sized}
use Rattle.size_search.specs.Task.{SizeTaskModel, terms_of}
use Rattle.size_search.specs.declared.tasks.Opened.{Opened}
use Rattle.synth_engine.specs.declared.settings.Settings.{Settings}
use Rattle.synth_engine.specs.declared.plans.Plan.{Plan}
use Rattle.synth_engine.specs.declared.plans.Field.{Field}
use Rattle.synth_engine.specs.declared.crews.Crew.{Crew}
use Rattle.synth_engine.specs.declared.sizes.Sizes.{Sizes}
use Rattle.synth_engine.specs.declared.outcomes.Found.{Found}
use Rattle.synth_engine.specs.Searched.{allowed_of}
use Rattle.synth_engine.specs.Tasks.{AreTasks, IsCrewOf}
use Rattle.synth_engine.specs.Hands.{AreRacks, new_seats}

-- A plan of these problems: it has them, and the numbers of their allowed sizes.
pub record IsPlanOf (system : Problem) (environment : Option Problem) (max : ℕ) (plan : Plan) : Type 0 where
  pub system_is : plan.system ≡ system
  pub environment_is : plan.environment ≡ environment
  pub system_sizes : plan.system_sizes ≡ allowed_sizes system max
  pub environment_sizes : plan.environment_sizes ≡ allowed_of max environment
  pub few : plan.system_sizes ≤ SMALL_LIMITS.machine
  pub few_of_environment : plan.environment_sizes ≤ SMALL_LIMITS.machine

-- what a board of the plan is about
abbrev pub named_of : Plan → Named
named_of plan = record {
  system = sought_of plan.system;
  environment = option_map sought_of plan.environment;
  system_sizes = plan.system_sizes;
  environment_sizes = plan.environment_sizes;
}

-- The problem with each size from a number down to 1, wherever the automaton is kept.
pub record AreProblemsDown (p : Problem) (count : ℕ) (problems : List Problem) : Type 0 where
  pub all : length problems ≡ count
  pub each : (k : ℕ) (q : Problem) → slice_get problems k ≡ Some q → parts_of q ≡ parts_of (sized p (count - k))

-- A problem's size is opened: its task with all seats.
pub record IsOpenedFor (settings : Settings) (p : Problem) (o : Opened) : Type 0 where
  pub problem : o.task.problem ≡ p
  pub terms : o.task.exchange.terms ≡ terms_of p settings.entries (settings.workers + 1)
  pub seats : o.seats.items ≡ new_seats o.task.exchange (settings.workers + 1)

-- The tasks of a problem's first sizes, from the largest one down.
pub record AreTasksUpTo (p : Problem) (settings : Settings) (count : ℕ) (tasks : List SizeTaskModel) : Type 0 where
  pub all : length tasks ≡ count
  pub each : AreTasks p settings count tasks

-- The same of a problem that may be absent: then there are none.
abbrev pub AreTasksOfAny : Option Problem → Settings → ℕ → List SizeTaskModel → Type 0
AreTasksOfAny None settings count tasks = length tasks ≡ 0
AreTasksOfAny (Some p) settings count tasks = AreTasksUpTo p settings count tasks

-- The tasks of a plan.
pub record AreSizesOf (plan : Plan) (settings : Settings) (sizes : Sizes) : Type 0 where
  pub system : AreTasksUpTo plan.system settings plan.system_sizes sizes.system.items
  pub environment : AreTasksOfAny plan.environment settings plan.environment_sizes sizes.environment.items

-- The tasks of a plan, with all seats at each of them.
pub record IsFieldOf (plan : Plan) (settings : Settings) (f : Field) : Type 0 where
  pub sizes : AreSizesOf plan settings f.sizes
  pub system : AreRacks (settings.workers + 1) f.sizes.system.items f.system.items
  pub environment : AreRacks (settings.workers + 1) f.sizes.environment.items f.environment.items

-- Workers with seats at all sizes, by falling numbers from `top` on.
pub record AreWorkersOf (sizes : Sizes) (top : ℕ) (crews : List Crew) : Type 0 where
  pub seats : All (IsCrewOf sizes) crews
  pub numbers : (i : ℕ) (d : Crew) → i < length crews → (slice_index_or crews i d).number ≡ top - i

-- A machine that a board kept: the side accepts it, and its size is allowed.
pub record IsWinner (names : Named) (winner : Found) : Type 0 where
  pub accepted : SideHas (sought_by names winner.side) (size_of winner.machine) winner.machine
  pub allowed : size_of winner.machine ≤ sizes_of names winner.side
