use Rattle.std.proofs.Common.{◌-◌, take, refl}
use Rattle.unit_propagate.proofs.ArenaLemmas.{last_low, spans_popped, heads_popped, few_popped, takes_off}
use Rattle.unit_propagate.proofs.arena.Arena.pop.Goals as goal

pub overflow_sub-span : goal.overflow_sub-span
overflow_sub-span c =
    last_low c.self.inside.lits.items (take (c.in-Some.span.start - 2) c.self.inside.lits.items) c.self.inside.spans.items c.pop.new.self.items c.in-Some.span c.in-Some.ensures.items refl c.self.invariant.0 c.self.invariant.1

pub invariant_of-self-2 : goal.invariant_of-self-2
invariant_of-self-2 c = (
  spans_popped c.self.inside.lits.items c.truncate.new.self.items c.self.inside.spans.items c.pop.new.self.items c.in-Some.span c.in-Some.ensures.items c.truncate.ensures.items c.self.invariant.0 c.self.invariant.1,
  heads_popped c.self.inside.lits.items c.truncate.new.self.items c.self.inside.spans.items c.pop.new.self.items c.in-Some.span c.in-Some.ensures.items c.truncate.ensures.items c.self.invariant.0 c.self.invariant.1,
  few_popped c.self.inside.lits.items c.truncate.new.self.items c.self.inside.spans.items c.pop.new.self.items c.in-Some.span c.in-Some.ensures.items c.truncate.ensures.items c.self.invariant.0 c.self.invariant.1 c.self.invariant.2,
)

pub returns : goal.returns
returns c =
    rw (← c.self.view_is)
    (takes_off c.self.inside.lits.items c.truncate.new.self.items c.self.inside.spans.items c.pop.new.self.items c.in-Some.span c.in-Some.ensures.items c.truncate.ensures.items c.self.invariant.0 c.self.invariant.1)
