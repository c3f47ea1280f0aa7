use Rattle.std.proofs.Common.{◌-◌, ◌<◌, length, refl, sym, ◌∙◌, ap, arith}
use Rattle.std.proofs.lemmas.Option.{slice_get_read}
use Rattle.synth_engine.proofs.WorkerLemmas.{seat_at, seats_stay, verdict_at}
use Rattle.synth_engine.proofs.crews.turn_on.Goals as goal

pub turn-requires : goal.turn-requires
turn-requires g c =
    let h : length c.args.tasks.now - c.args.size < length c.args.tasks.now = let a = c.requires.some in let b = c.requires.most in omega arith in
    record { exchange = seat_at c.args.seats.now c.args.tasks.now c.requires.exchanges (length c.args.tasks.now - c.args.size) _ c.index-tasks-place.result h ∙ ap (λ t. t.exchange) (sym c.index-tasks-place.is) }

pub returns-clause-exchanges : goal.returns-clause-exchanges
returns-clause-exchanges g c =
    seats_stay c.args.seats.now c.args.tasks.now c.requires.exchanges (length c.args.tasks.now - c.args.size) c.index-seats-place.result c.turn.new.seat c.turn.ensures.goes_on.exchange

pub returns-clause-verdict : goal.returns-clause-verdict
returns-clause-verdict g c =
    let h : length c.args.tasks.now - c.args.size < length c.args.tasks.now = let a = c.requires.some in let b = c.requires.most in omega arith in
    verdict_at c.args.tasks.now (length c.args.tasks.now - c.args.size) c.index-tasks-place.result c.turn.new.seat.seen c.turn.result
    (slice_get_read c.args.tasks.now (length c.args.tasks.now) (length c.args.tasks.now - c.args.size) c.index-tasks-place.result refl h c.index-tasks-place.is)
    c.turn.ensures.decided
