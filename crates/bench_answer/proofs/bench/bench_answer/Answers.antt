use Rattle.std.proofs.Common.{◌++◌, ◌∙◌, ap}
use Rattle.arbiter_text.specs.Arbiter.{generated_text}
use Rattle.bench_answer.proofs.Verdicts.{bench_answer}
use Rattle.bench_answer.proofs.bench.bench_answer.Goals as goal

pub returns : goal.returns
returns g c =
    bench_answer c.args.clients c.args.workers c.deref.result.now c.new-settings.result c.in_ok-told.told.reply.bytes.items _ c.in-Some.verdict c.in_ok-lines.field-0.items
    (c.deref.ensures.value ∙ c.in_ok-write_arbiter.ensures.ok ∙ ap (λ front. front ++ generated_text c.args.clients) c.new-text.ensures.items) c.new-settings.ensures
    (rw c.in-Some.is at c.in_ok-told.ensures) c.in_ok-lines.ensures
