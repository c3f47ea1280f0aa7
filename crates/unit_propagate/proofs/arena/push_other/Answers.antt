use Rattle.unit_propagate.proofs.ArenaLemmas.{kept_literal, left_literal}
use Rattle.std.proofs.Common.{◌∙◌, sym}
use Rattle.unit_propagate.proofs.arena.push_other.Goals as goal

pub returns-clause-ok : goal.returns-clause-ok
returns-clause-ok c = kept_literal c.args.first c.args.second c.args.lit c.args.out.now.items c.push.new.self.items (sym c.differs.ensures ∙ c.if-not-differs.false) c.in_ok-push.ensures.items

pub returns-then-not-differs-clause-ok : goal.returns-then-not-differs-clause-ok
returns-then-not-differs-clause-ok c = left_literal c.args.first c.args.second c.args.lit c.args.out.now.items (sym c.differs.ensures ∙ c.if-not-differs.true)
