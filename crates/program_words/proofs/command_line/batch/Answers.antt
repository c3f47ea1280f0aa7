use Rattle.std.proofs.Common.{codes}
use Rattle.std.proofs.lemmas.Result.{IfOk-weaker}
use Rattle.program_words.proofs.Building.{started, with_more}
use Rattle.program_words.proofs.command_line.batch.Goals as goal

pub returns : goal.returns
returns c =
    let none = started c.new.result (codes "batch") c.new.ensures.app c.new.ensures.local in
    let one = with_more _ _ _ _ _ none c.in_ok-arg.ensures c.optional.ensures.rule c.optional.ensures.own in
    let two = with_more _ _ _ _ _ one c.in_ok-arg-2.ensures c.option.ensures.rule c.option.ensures.own in
    let three = with_more _ _ _ _ _ two c.in_ok-arg-3.ensures c.option-2.ensures.rule c.option-2.ensures.own in
    let four = with_more _ _ _ _ _ three c.in_ok-arg-4.ensures c.option-3.ensures.rule c.option-3.ensures.own in
    let five = with_more _ _ _ _ _ four c.in_ok-arg-5.ensures c.option-4.ensures.rule c.option-4.ensures.own in
    let six = with_more _ _ _ _ _ five c.in_ok-arg-6.ensures c.option-5.ensures.rule c.option-5.ensures.own in
    let seven = with_more _ _ _ _ _ six c.in_ok-arg-7.ensures c.option-6.ensures.rule c.option-6.ensures.own in
    IfOk-weaker c.arg-8.result _ _ (λ new adds. with_more _ _ _ _ _ seven adds c.option-7.ensures.rule c.option-7.ensures.own) c.arg-8.ensures
