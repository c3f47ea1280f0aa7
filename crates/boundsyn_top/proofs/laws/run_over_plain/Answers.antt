use Rattle.std.proofs.Common.{refl}
use Rattle.boundsyn_top.proofs.RunLemmas.{none_rose, none_unread}
use Rattle.boundsyn_top.proofs.laws.run_over_plain.Goals as goal

pub returns : goal.returns
returns g c = λ asked asks. c.run.ensures.complete asked asks (λ name. none_unread _ asked name refl refl) none_rose
