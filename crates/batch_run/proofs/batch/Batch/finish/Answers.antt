use Rattle.std.proofs.Common.{◌≡◌, ℕ, ◌+◌, ◌∷◌, [], drop, length, length-append, ◌∙◌, ap, arith}
use Rattle.batch_run.proofs.AnswerLemmas.{drop-more, finish-step}
use Rattle.batch_run.proofs.batch.Batch.finish.Goals as goal

pub answer_at-requires-after_bounds : goal.answer_at-requires-after_bounds
answer_at-requires-after_bounds g c =
    let slots = c.requires.slots.count in
    let count = c.loop-slot.invariant.count in
    let more = ap length c.in-Some.ensures.steps.0 in
    let len = c.loop-slot.answers.ok.0 in
    omega arith

pub loop-slot-preserved : goal.loop-slot-preserved
loop-slot-preserved g c =
    let relation = g.J.Job.is_answer c.args.self.now.job.now in
    let tasks = c.args.self.now.tasks.now in
    let slots = c.args.slots.items in
    let answers = c.loop-slot.answers in
    let next = c.in-Some.ensures.steps.0 in
    let pushed = c.in_ok-push.ensures.items in
    let longer : length c.push.new.self.items ≡ length answers.items + 1 = ap length pushed ∙ length-append answers.items (c.in_ok-answer.answer ∷ []) in
    let left = c.loop-slot.invariant.rest ∙ next in
    let place : c.len-in-loop-slot.result ≡ length answers.items = omega arith in
    let here = ap (λ (k : ℕ). drop k slots) place ∙ left in
    let count = c.loop-slot.invariant.count in
    let one_less = ap length next in
    let stepped =
    finish-step relation tasks slots answers.items c.len-in-loop-slot.result c.in-Some.slot c.next.new.self.rest.items c.in_ok-answer.answer place c.requires.slots here c.loop-slot.invariant.answers
    (λ b is. let same = c.in_ok-answer.ensures.kept b is in cc) c.in_ok-answer.ensures.own in
    record {
      rest = drop-more slots (length answers.items) (length c.push.new.self.items) c.in-Some.slot c.next.new.self.rest.items longer left;
      count = omega arith;
      answers = rw pushed stepped;
    }
