use Rattle.std.proofs.Common.{ℕ, ◌+◌, List, [], ◌∷◌, ◌++◌, ◌∙◌, ap}
use Rattle.batch_run.proofs.ClaimLemmas.{numbers-push}
use Rattle.batch_run.proofs.running.numbers_up_to.Goals as goal

pub loop-number-preserved : goal.loop-number-preserved
loop-number-preserved c =
    let n = c.loop-number.number in
    c.in_ok-push.ensures.items ∙ ap (λ (numbers : List ℕ). numbers ++ (n + 1) ∷ []) c.loop-number.invariant ∙ numbers-push n
