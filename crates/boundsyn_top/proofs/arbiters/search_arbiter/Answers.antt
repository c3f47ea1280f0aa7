use Rattle.std.proofs.lemmas.Result.{IfOk-weaker}
use Rattle.program_replies.specs.Statuses.{status_number}
use Rattle.program_words.specs.Settings.{bench}
use Rattle.boundsyn_top.proofs.ReplyLemmas.{bench_answered, whole_is, whole_of}
use Rattle.boundsyn_top.proofs.arbiters.search_arbiter.Goals as goal

pub returns : goal.returns
returns g c =
    whole_is _ c.bench_answer.result c.whole_output.result c.whole_output.ensures
    (IfOk-weaker c.bench_answer.result _ _
    (λ r answer step. whole_of step (bench c.args.clients c.args.workers) r
    (bench_answered step c.args.clients c.args.workers r.bytes.items (status_number r.status) answer))
    c.bench_answer.ensures)
