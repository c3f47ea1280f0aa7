use Rattle.std.proofs.Common.{◌+◌, ◌<◌, Bool, cond, Err, length, sym, ap, ◌∙◌, arith, ℕ}
use Rattle.std.specs.Prelude.{Result}
use Rattle.annot_check.specs.AnnotationText.{Headed, head_from, pieces_of}
use Rattle.annot_check.proofs.ReadLemmas.{cut_is, head_found, head_later, no_head, whole_is}
use Rattle.annot_check.proofs.reading.find_head.Goals as goal

pub returns-in-Some-behind_head-clause-ok : goal.returns-in-Some-behind_head-clause-ok
returns-in-Some-behind_head-clause-ok c =
    let cut = cut_is c.loop-line.rest.now c.in-Some.line.now c.in-Some.behind.now (sym c.in-Some.ensures) in
    head_found c.loop-line.rest.now c.in-Some.line.now c.in-Some.behind.now c.loop-line.number (head_from (pieces_of c.args.lines.now) 1) cut.0
    c.loop-line.invariant.reading c.in-Some-behind_head.word.now (sym c.in-Some-behind_head.ensures)

pub loop-line-preserved : goal.loop-line-preserved
loop-line-preserved c =
    let cut = cut_is c.loop-line.rest.now c.in-Some.line.now c.in-Some.behind.now (sym c.in-Some.ensures) in
    let shorter : length c.in-Some.behind.now < length c.loop-line.rest.now = cut.1 in
    let counted = c.loop-line.invariant.counted in
    record {
      reading = head_later c.loop-line.rest.now c.in-Some.line.now c.in-Some.behind.now c.loop-line.number (head_from (pieces_of c.args.lines.now) 1) cut.0
          c.loop-line.invariant.reading (sym c.in_default-behind_head.ensures);
      counted = omega (arith, shorter, counted);
    }

pub returns-then-is_missed-clause-bad : goal.returns-then-is_missed-clause-bad
returns-then-is_missed-clause-bad c =
    no_head c.loop-line.rest.now c.loop-line.number (head_from (pieces_of c.args.lines.now) 1) (whole_is c.loop-line.rest.now (sym c.in_default.ensures))
    c.loop-line.invariant.reading
    ∙ ap (λ (b : Bool). let r : Result Headed ℕ = cond b (Err c.loop-line.number) (Err (c.loop-line.number + 1)) in r) (sym c.is_missed.ensures ∙ c.if-is_missed.true)

pub returns-clause-bad : goal.returns-clause-bad
returns-clause-bad c =
    no_head c.loop-line.rest.now c.loop-line.number (head_from (pieces_of c.args.lines.now) 1) (whole_is c.loop-line.rest.now (sym c.in_default.ensures))
    c.loop-line.invariant.reading
    ∙ ap (λ (b : Bool). let r : Result Headed ℕ = cond b (Err c.loop-line.number) (Err (c.loop-line.number + 1)) in r) (sym c.is_missed.ensures ∙ c.if-is_missed.false)
