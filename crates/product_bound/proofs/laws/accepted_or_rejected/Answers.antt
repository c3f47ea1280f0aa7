use Rattle.std.proofs.Common.{◌<◌, ◌≤◌, inl, inr, arith}
use Rattle.machine_model.specs.Machine.{size_of}
use Rattle.product_bound.proofs.Exists.{annotation_or_run}
use Rattle.product_bound.proofs.Valid.{never_accepted}
use Rattle.product_bound.proofs.laws.accepted_or_rejected.Goals as goal

pub returns : goal.returns
returns c = λ p m problem made machine fits.
    let size : 1 ≤ p.size = problem.some in
    let some : 0 < size_of m = rw fits.size (omega arith) in
    elim (annotation_or_run p m c.components_are_classes.ensures made machine fits some) [
      | inl annotation ↦ inl (λ w run. never_accepted p m annotation.numbers w run.0 c.joined_is_reached.ensures made machine fits some annotation.valid run.1)
      | inr refuted ↦ inr refuted
    ]
