use Rattle.std.proofs.Common.{◌≡◌, ℕ, List, Some, sym, ap, subst, ◌∙◌}
use Rattle.witness_text.specs.Forms.{numbers_from, numbers_in, words_in}
use Rattle.witness_text.proofs.NumberLemmas.{number_bad, number_last, number_last_bad, number_more}
use Rattle.witness_text.proofs.numbers.numbers_in.Goals as goal

pub loop-word-preserved : goal.loop-word-preserved
loop-word-preserved c =
    subst (λ (ns : List ℕ). numbers_from ns (words_in c.in-Some.behind.now) ≡ numbers_in c.args.text.now) (sym c.in_ok-push.ensures.items)
    (number_more c.loop-word.rest.now c.in-Some.word.now c.in-Some.behind.now c.loop-word.numbers.items (numbers_in c.args.text.now) (sym c.in-Some.ensures)
    c.loop-word.invariant c.in-Some-in_range.number (sym c.in-Some-in_range.ensures))

pub returns-in_default-in_range : goal.returns-in_default-in_range
returns-in_default-in_range c =
    sym (number_bad c.loop-word.rest.now c.in-Some.word.now c.in-Some.behind.now c.loop-word.numbers.items (numbers_in c.args.text.now) (sym c.in-Some.ensures)
    c.loop-word.invariant (sym c.in_default-in_range.ensures))

pub returns-in_default-in_range-2 : goal.returns-in_default-in_range-2
returns-in_default-in_range-2 c =
    sym (number_last_bad c.loop-word.rest.now c.loop-word.numbers.items (numbers_in c.args.text.now) (sym c.in_default.ensures) c.loop-word.invariant
    (sym c.in_default-in_range-2.ensures))

pub returns : goal.returns
returns c =
    ap Some c.in_ok-push-2.ensures.items
    ∙ sym (number_last c.loop-word.rest.now c.loop-word.numbers.items (numbers_in c.args.text.now) (sym c.in_default.ensures) c.loop-word.invariant
    c.in-Some-in_range-2.number (sym c.in-Some-in_range-2.ensures))
