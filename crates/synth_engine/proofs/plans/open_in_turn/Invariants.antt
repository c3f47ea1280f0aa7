use Rattle.std.specs.List.{AllZip}
use Rattle.synth_engine.specs.Plans.{IsOpenedFor}
use Rattle.synth_engine.proofs.plans.open_in_turn.Given as goal

abbrev pub invariant-loop-problem : goal.invariant-loop-problem
invariant-loop-problem l = AllZip (IsOpenedFor l.settings) l.yielded l.all.items
