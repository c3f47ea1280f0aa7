use Rattle.std.proofs.Common.{◌≡◌, suc, ◌+◌, ◌++◌, ◌∷◌, [], ap, ◌∙◌, sym, arith}
use Rattle.std.specs.List.{range_with_len}
use Rattle.size_refutations.proofs.HeadLemmas.{range_more}
use Rattle.size_refutations.proofs.heads.all_letters.Goals as goal

pub loop-letter-preserved : goal.loop-letter-preserved
loop-letter-preserved c =
    let e : suc c.loop-letter.letter ≡ c.loop-letter.letter + 1 = omega arith in
    let more = range_more 0 c.loop-letter.letter c.loop-letter.letter (omega arith) in
    c.in_ok-push.ensures.items ∙ (λ i. c.loop-letter.invariant i ++ c.loop-letter.letter ∷ []) ∙ sym more ∙ ap (range_with_len 0) e
