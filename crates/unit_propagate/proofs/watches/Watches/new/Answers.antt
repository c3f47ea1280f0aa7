use Rattle.std.proofs.Common.{◌*◌}
use Rattle.unit_propagate.proofs.NumberedLemmas.{shown_empty}
use Rattle.unit_propagate.proofs.watches.Watches.new.Goals as goal

pub returns : goal.returns
returns c = shown_empty c.new.result c.in_ok-new.field-0 c.new-3.result.items (2 * c.args.room) c.new.ensures c.in_ok-new.ensures c.new-3.ensures.items
