use Rattle.std.proofs.Common.{◌≡◌, ℕ, List, Some, sym, ap, subst, ◌∙◌}
use Rattle.named_annotation.specs.NamedText.{numbers_from, numbers_in, words_of}
use Rattle.named_annotation.proofs.Taking.{number_bad, number_last, number_last_bad, number_more, number_shorter}
use Rattle.named_annotation.proofs.words.numbers_in.Goals as goal

pub loop-word-preserved : goal.loop-word-preserved
loop-word-preserved c =
    subst (λ (ns : List ℕ). numbers_from ns (words_of c.in-Some.behind.now) ≡ numbers_in c.args.line.now) (sym c.in_ok-push.ensures.items)
    (number_more c.loop-word.rest.now c.in-Some.word.now c.in-Some.behind.now c.loop-word.numbers.items (numbers_in c.args.line.now) (sym c.in-Some.ensures)
    c.loop-word.invariant c.in-Some-number_in.number (sym c.in-Some-number_in.ensures))

pub loop-word-smaller : goal.loop-word-smaller
loop-word-smaller c =
    number_shorter c.loop-word.rest.now c.in-Some.word.now c.in-Some.behind.now c.loop-word.numbers.items (numbers_in c.args.line.now) (sym c.in-Some.ensures)
    c.loop-word.invariant

pub returns-in_default-number_in : goal.returns-in_default-number_in
returns-in_default-number_in c =
    sym (number_bad c.loop-word.rest.now c.in-Some.word.now c.in-Some.behind.now c.loop-word.numbers.items (numbers_in c.args.line.now) (sym c.in-Some.ensures)
    c.loop-word.invariant (sym c.in_default-number_in.ensures))

pub returns-in_default-number_in-2 : goal.returns-in_default-number_in-2
returns-in_default-number_in-2 c =
    sym (number_last_bad c.loop-word.rest.now c.loop-word.numbers.items (numbers_in c.args.line.now) (sym c.in_default.ensures) c.loop-word.invariant
    (sym c.in_default-number_in-2.ensures))

pub returns : goal.returns
returns c =
    ap Some c.in_ok-push-2.ensures.items
    ∙ sym (number_last c.loop-word.rest.now c.loop-word.numbers.items (numbers_in c.args.line.now) (sym c.in_default.ensures) c.loop-word.invariant
    c.in-Some-number_in-2.number (sym c.in-Some-number_in-2.ensures))
