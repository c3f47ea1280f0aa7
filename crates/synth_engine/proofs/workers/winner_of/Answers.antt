use Rattle.std.proofs.Common.{sym}
use Rattle.synth_engine.proofs.workers.winner_of.Goals as goal

pub returns : goal.returns
returns g c =
    let kept = c.in_ok-machine.ensures.sound.kept c.match-found.side c.in_ok-machine.machine (sym c.in_ok-machine.ensures.value) in
    record { accepted = kept.accepted; allowed = kept.allowed }
