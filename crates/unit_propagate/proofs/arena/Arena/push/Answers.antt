use Rattle.std.proofs.Common.{◌∙◌}
use Rattle.unit_propagate.specs.Watches.{ordered}
use Rattle.unit_propagate.proofs.ArenaLemmas.{spans_pushed, heads_pushed, few_pushed, adds_clause, cut_back, kept_spans}
use Rattle.unit_propagate.proofs.arena.Arena.push.Goals as goal

pub invariant_of-self : goal.invariant_of-self
invariant_of-self c =
    kept_spans c.self.inside.lits.items c.truncate.new.self.items c.self.inside.spans.items c.push_clause.new.spans.items
    (cut_back c.self.inside.lits.items c.in-Err.ensures.err.0 c.push_clause.new.out.items c.truncate.new.self.items c.len-end.result c.in-Err.ensures.err.1 (c.len-end.ensures ∙ c.self.inside.lits.ok.0) c.truncate.ensures.items)
    c.in-Err.ensures.err_spans c.self.invariant

pub invariant_of-self-in_default : goal.invariant_of-self-in_default
invariant_of-self-in_default c = (
  spans_pushed c.self.inside.lits.items c.push_clause.new.out.items c.self.inside.spans.items c.push_clause.new.spans.items (ordered c.args.lits.now c.args.first c.args.second) c.self.invariant.0 c.in_default.ensures.ok,
  heads_pushed c.self.inside.lits.items c.push_clause.new.out.items c.self.inside.spans.items c.push_clause.new.spans.items (ordered c.args.lits.now c.args.first c.args.second) c.self.invariant.0 c.in_default.ensures.ok c.self.invariant.1,
  few_pushed c.self.inside.lits.items c.push_clause.new.out.items c.self.inside.spans.items c.push_clause.new.spans.items (ordered c.args.lits.now c.args.first c.args.second) c.self.invariant.0 c.in_default.ensures.ok,
)

pub returns-clause-ok : goal.returns-clause-ok
returns-clause-ok c =
    rw (← c.self.view_is)
    (adds_clause c.self.inside.lits.items c.push_clause.new.out.items c.self.inside.spans.items c.push_clause.new.spans.items (ordered c.args.lits.now c.args.first c.args.second) c.self.invariant.0 c.in_default.ensures.ok)
