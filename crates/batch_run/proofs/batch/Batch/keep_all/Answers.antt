use Rattle.std.proofs.Common.{arith, rules}
use Rattle.std.proofs.lemmas.List.Elements.{All-rest}
use Rattle.batch_run.specs.Answers.{IsPlacedAnswer}
use Rattle.batch_run.proofs.AnswerLemmas.{all-first, kept-first}
use Rattle.batch_run.proofs.batch.Batch.keep_all.Goals as goal

pub keep_first-requires : goal.keep_first-requires
keep_first-requires g c =
    let P = IsPlacedAnswer (g.J.Job.is_answer c.args.self.now.job.now) c.args.self.now.tasks.now in
    let placed = all-first P c.loop-placed.placed-iterator.rest.items c.in-Some.placed c.next.new.self.rest.items c.in-Some.ensures.steps.0 c.loop-placed.invariant.rest in
    let within = placed.within in
    let count = c.loop-placed.invariant.slots.count in
    omega arith

pub loop-placed-preserved : goal.loop-placed-preserved
loop-placed-preserved g c =
    let relation = g.J.Job.is_answer c.args.self.now.job.now in
    let tasks = c.args.self.now.tasks.now in
    let P = IsPlacedAnswer relation tasks in
    let next = c.in-Some.ensures.steps.0 in
    let placed = all-first P c.loop-placed.placed-iterator.rest.items c.in-Some.placed c.next.new.self.rest.items next c.loop-placed.invariant.rest in
    record {
      slots = kept-first relation tasks c.loop-placed.slots c.keep_first.new.slots c.in-Some.placed c.loop-placed.invariant.slots placed c.keep_first.ensures.kept c.keep_first.ensures.new (search rules);
      rest = All-rest P c.in-Some.placed c.next.new.self.rest.items c.loop-placed.placed-iterator.rest.items next c.loop-placed.invariant.rest;
    }
