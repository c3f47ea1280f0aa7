use Rattle.std.proofs.Common.{◌≡◌, ◌+◌, ◌<◌, ℕ, length}
use Rattle.std.specs.Prelude.{Result, Ok, Err, IfOk, Some, slice_get}
use Rattle.clause_exchange.specs.SharedLog.{new_pass}
use Rattle.machine_model.specs.declared.problems.Problem.{Problem}
use Rattle.size_search.specs.Task.{terms_of}
use Rattle.size_search.specs.declared.tasks.Opened.{Opened}
use Rattle.synth_engine.specs.declared.settings.Settings.{Settings}
use Rattle.synth_engine.specs.Plans.{IsOpenedFor}
use Rattle.synth_engine.proofs.PlanLemmas.{new_seats_are}
use Rattle.synth_engine.proofs.plans.open_size.Goals as goal

opened : {E : Type 0} (q : Problem) (settings : Settings) (r : Result Opened E) → IfOk r (λ o. o.task.problem ≡ q) → IfOk r (λ o. o.task.exchange.terms ≡ terms_of q settings.entries (settings.workers + 1))
    → IfOk r (λ o. length o.seats.items ≡ settings.workers + 1) → IfOk r (λ o. (i : ℕ) → i < settings.workers + 1 → slice_get o.seats.items i ≡ Some (new_pass o.task.exchange i))
    → IfOk r (IsOpenedFor settings q)
opened q settings (Ok o) is terms len each = record { problem = is; terms = terms; seats = new_seats_are o.task.exchange (settings.workers + 1) o.seats.items len each }
opened q settings (Err e) is terms len each = tt

pub returns : goal.returns
returns c =
    opened c.args.problem c.args.settings c.open.result c.open.ensures.problem (rw (c.entries.ensures.value, c.workers.ensures.value) at c.open.ensures.terms)
    (rw c.workers.ensures.value at c.open.ensures.count) (rw c.workers.ensures.value at c.open.ensures.seats)
