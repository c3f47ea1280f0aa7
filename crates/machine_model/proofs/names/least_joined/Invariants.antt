use Rattle.std.proofs.Common.{◌≡◌, ℕ, ◌<◌, false}
use Rattle.machine_model.specs.Named.{lead_both_ways}
use Rattle.machine_model.proofs.names.least_joined.Given as goal

abbrev pub invariant-loop-r : goal.invariant-loop-r
invariant-loop-r l = (s : ℕ) → s < l.r → lead_both_ways l.sets l.q s ≡ false
