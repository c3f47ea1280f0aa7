use Rattle.obligation_sets.proofs.Along.{advances_closed, advances_few}
use Rattle.obligation_sets.proofs.cover_search.Search.close.Goals as goal

pub returns-then-leaves-lt-FEW_LEAVES : goal.returns-then-leaves-lt-FEW_LEAVES
returns-then-leaves-lt-FEW_LEAVES c covering ns = advances_few covering ns c.args.self.now c.args.fork c.args.before c.requires

pub returns : goal.returns
returns c covering ns = advances_closed covering ns c.args.self.now c.args.fork c.args.before c.learn.new.self c.requires (rw (c.saturating_sub-leaves.ensures) at c.in_ok-learn.ensures)
