-- What is settled behind the race of the workers (this project's own).
use Rattle.std.specs.Prelude.{◌≡◌, Option, Some, None, length}
use Rattle.letters_and_lassos.specs.declared.kinds.Side.{Side}
use Rattle.letters_and_lassos.specs.declared.kinds.Side.TheVariants.{System, Environment}
use Rattle.machine_model.specs.declared.problems.Problem.{Problem}
use Rattle.annotation_encode.specs.Count.{allowed_sizes}
use Rattle.synth_engine.specs.declared.settings.Settings.{Settings}
use Rattle.synth_engine.specs.declared.settling.Unsettled.{Unsettled}
use Rattle.synth_engine.specs.declared.outcomes.Found.{Found}
use Rattle.synth_engine.specs.Outcomes.{IsFound, OfSide}
use Rattle.synth_engine.specs.Plans.{AreTasksUpTo}

-- All allowed sizes of a problem of this side are left to be settled.
pub record IsLeft (side : Side) (settings : Settings) (u : Unsettled) (p : Problem) : Type 0 where
  pub of_side : p.side ≡ side
  pub tasks : AreTasksUpTo p settings (allowed_sizes p settings.max) u.tasks.items

-- All allowed sizes of both sides are left to be settled.
pub record AreLeft (system : Problem) (environment : Option Problem) (settings : Settings) (s e : Unsettled) : Type 0 where
  pub of_system : IsLeft System settings s system
  pub of_environment : (p : Problem) → environment ≡ Some p → IsLeft Environment settings e p
  pub none : environment ≡ None → length e.tasks.items ≡ 0

-- A machine that was found, if one was.
abbrev pub IsWinnerOf : Problem → Option Problem → Settings → Option Found → Type 0
IsWinnerOf system environment settings None = Unit {0}
IsWinnerOf system environment settings (Some w) = OfSide system environment (λ p. IsFound p settings w.machine) w.side
