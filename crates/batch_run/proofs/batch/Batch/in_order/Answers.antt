use Rattle.std.proofs.Common.{All, rules}
use Rattle.std.proofs.lemmas.List.Elements.{All-rest}
use Rattle.batch_run.specs.Answers.{IsPlacedAnswer}
use Rattle.batch_run.proofs.AnswerLemmas.{all-first, kept-back, kept-none}
use Rattle.batch_run.proofs.batch.Batch.in_order.Goals as goal

pub loop-list-init : goal.loop-list-init
loop-list-init g c = record {
  slots = kept-none (g.J.Job.is_answer c.args.self.now.job.now) c.args.self.now.tasks.now c.in_ok-slots.slots.items c.in_ok-slots.ensures;
  lists = search rules;
}

pub keep_all-requires-clause-list : goal.keep_all-requires-clause-list
keep_all-requires-clause-list g c κs within =
    let P = IsPlacedAnswer (g.J.Job.is_answer c.args.self.now.job.now) c.args.self.now.tasks.now in
    all-first (λ list. All P list.items) c.loop-list.list-iterator.rest.items c.in-Some.list c.next.new.self.rest.items c.in-Some.ensures.steps.0 c.loop-list.invariant.lists

pub loop-list-preserved : goal.loop-list-preserved
loop-list-preserved g c =
    let relation = g.J.Job.is_answer c.args.self.now.job.now in
    let tasks = c.args.self.now.tasks.now in
    let P = IsPlacedAnswer relation tasks in
    record {
      slots = kept-back relation tasks c.loop-list.slots c.keep_all.new.slots c.loop-list.invariant.slots c.keep_all.ensures;
      lists = All-rest (λ list. All P list.items) c.in-Some.list c.next.new.self.rest.items c.loop-list.list-iterator.rest.items c.in-Some.ensures.steps.0 c.loop-list.invariant.lists;
    }
