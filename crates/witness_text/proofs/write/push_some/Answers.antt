use Rattle.std.proofs.Common.{ℕ, List, ◌++◌, sym, ap, ◌∙◌, decimal}
use Rattle.std.proofs.lemmas.List.{take_all}
use Rattle.aiger_text.proofs.Lines.{numbers_line-cons}
use Rattle.witness_text.specs.Shown.{with_spaces}
use Rattle.witness_text.proofs.write.push_some.Goals as goal

pub returns : goal.returns
returns c =
    c.loop-number.invariant
    ∙ ap (λ (ns : List ℕ). c.args.text.now.items ++ (decimal c.args.first ++ with_spaces ns)) (take_all c.loop-number.number-index c.args.others.now c.loop-number-test.false)
    ∙ ap (λ (t : List ℕ). c.args.text.now.items ++ t) (sym (numbers_line-cons c.args.first c.args.others.now))
