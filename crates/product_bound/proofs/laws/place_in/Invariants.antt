use Rattle.std.proofs.Common.{◌≡◌, ◌+◌, drop}
use Rattle.product_bound.specs.Numbered.{place_in}
use Rattle.product_bound.proofs.laws.place_in.Given as goal

abbrev pub invariant-loop-place : goal.invariant-loop-place
invariant-loop-place l = place_in l.states l.state ≡ l.place + place_in (drop l.place l.states) l.state
