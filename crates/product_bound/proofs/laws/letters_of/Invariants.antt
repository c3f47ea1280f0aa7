use Rattle.std.proofs.Common.{◌≡◌, take}
use Rattle.product_bound.specs.Product.{letters_of}
use Rattle.product_bound.proofs.laws.letters_of.Given as goal

abbrev pub invariant-loop-step : goal.invariant-loop-step
invariant-loop-step l = l.letters.items ≡ letters_of l.problem l.machine (take l.step-index l.steps)
