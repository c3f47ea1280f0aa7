use Rattle.std.proofs.Common.{◌≡◌, ℕ, ◌+◌, List, Some, sym, ap, subst, ◌∙◌}
use Rattle.solved_text.specs.Logs.{numbers_from, numbers_in, parts_of}
use Rattle.solved_text.proofs.LetterLemmas.{number_bad, number_last, number_last_bad, number_more}
use Rattle.solved_text.proofs.letters.numbers_in.Goals as goal

pub loop-part-preserved : goal.loop-part-preserved
loop-part-preserved c =
    subst (λ (ns : List ℕ). numbers_from ns (c.in-Some-in_range.number + 1) (parts_of c.in-Some.behind.now) ≡ numbers_in c.args.word.now) (sym c.in_ok-push.ensures.items)
    (number_more c.loop-part.rest.now c.in-Some.part.now c.in-Some.behind.now c.loop-part.numbers.items c.loop-part.least (numbers_in c.args.word.now) (sym c.in-Some.ensures)
    c.loop-part.invariant c.in-Some-in_range.number (sym c.in-Some-in_range.ensures))

pub returns-in_default-in_range : goal.returns-in_default-in_range
returns-in_default-in_range c =
    sym (number_bad c.loop-part.rest.now c.in-Some.part.now c.in-Some.behind.now c.loop-part.numbers.items c.loop-part.least (numbers_in c.args.word.now) (sym c.in-Some.ensures)
    c.loop-part.invariant (sym c.in_default-in_range.ensures))

pub returns-in_default-in_range-2 : goal.returns-in_default-in_range-2
returns-in_default-in_range-2 c =
    sym (number_last_bad c.loop-part.rest.now c.loop-part.numbers.items c.loop-part.least (numbers_in c.args.word.now) (sym c.in_default.ensures) c.loop-part.invariant
    (sym c.in_default-in_range-2.ensures))

pub returns : goal.returns
returns c =
    ap Some c.in_ok-push-2.ensures.items
    ∙ sym (number_last c.loop-part.rest.now c.loop-part.numbers.items c.loop-part.least (numbers_in c.args.word.now) (sym c.in_default.ensures) c.loop-part.invariant
    c.in-Some-in_range-2.number (sym c.in-Some-in_range-2.ensures))
