use Rattle.std.proofs.Common.{sym}
use Rattle.machine_model.specs.Problem.{sized}
use Rattle.machine_model.proofs.PartsLemmas.{alike}
use Rattle.document_check.proofs.CountedLemmas.{is_counted}
use Rattle.document_check.proofs.counted.recounted.Goals as goal

pub by_component-requires : goal.by_component-requires
by_component-requires c = (alike (sized c.args.problem.now c.args.problem.now.size) c.in_ok-same.same (sym c.in_ok-same.ensures)).problem c.requires

pub returns : goal.returns
returns c =
    is_counted c.args.problem.now c.in_ok-same.same c.in_ok-recounted.recounted c.in_ok-same.ensures c.in_ok-recounted.ensures.problem c.in_ok-recounted.ensures.same
    c.in_ok-recounted.ensures.local
