use Rattle.std.proofs.Common.{◌≡◌, ℕ, ◌<◌, []}
use Rattle.aiger_text.specs.Groups.{IsTour, IsDone}
use Rattle.aiger_text.proofs.groups.first_on_cycle.Given as goal

abbrev pub invariant-loop-place : goal.invariant-loop-place
invariant-loop-place l =
    (IsTour l.gates l.tour.stages.items l.tour.opened.items l.tour.path.items l.tour.starts.items) × (l.tour.opened.items ≡ [])
    × ((k : ℕ) → k < l.place → IsDone l.tour.stages.items k)
