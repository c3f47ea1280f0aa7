use Rattle.std.proofs.Common.{ℕ, List, ◌++◌, sym, ap, ◌∙◌, decimal}
use Rattle.std.proofs.lemmas.List.{take_all}
use Rattle.aiger_text.proofs.Lines.{with_spaces, numbers_line-cons}
use Rattle.document_text.proofs.write.push_numbers.Goals as goal

pub returns : goal.returns
returns c =
    c.loop-number.invariant
    ∙ ap (λ (ns : List ℕ). c.args.text.now.items ++ (decimal c.args.first ++ with_spaces ns)) (take_all c.loop-number.number-index c.args.others.now c.loop-number-test.false)
    ∙ ap (λ (t : List ℕ). c.args.text.now.items ++ t) (sym (numbers_line-cons c.args.first c.args.others.now))
