use Rattle.std.proofs.Common.{codes}
use Rattle.std.proofs.lemmas.Result.{IfOk-weaker}
use Rattle.program_words.proofs.Building.{started, with_more}
use Rattle.program_words.proofs.command_line.lasso.Goals as goal

pub returns : goal.returns
returns c =
    let none = started c.new.result (codes "lasso") c.new.ensures.app c.new.ensures.local in
    let one = with_more _ _ _ _ _ none c.in_ok-arg.ensures c.required.ensures.rule c.required.ensures.own in
    let two = with_more _ _ _ _ _ one c.in_ok-arg-2.ensures c.required-2.ensures.rule c.required-2.ensures.own in
    let three = with_more _ _ _ _ _ two c.in_ok-arg-3.ensures c.flag.ensures.rule c.flag.ensures.own in
    IfOk-weaker c.arg-4.result _ _ (λ new adds. with_more _ _ _ _ _ three adds c.option.ensures.rule c.option.ensures.own) c.arg-4.ensures
