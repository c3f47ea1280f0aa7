use Rattle.std.proofs.Common.{sym}
use Rattle.propositional_logic.specs.Codes.{code_of}
use Rattle.unit_propagate.proofs.NumberedLemmas.{blocker_shown}
use Rattle.unit_propagate.proofs.watches.Watches.blocker.Goals as goal

pub returns-clause-some : goal.returns-clause-some
returns-clause-some c =
    rw (← c.self.view_is) (blocker_shown c.self.inside.arena.starts c.self.inside.rows c.code.result (code_of c.args.lit) c.args.i c.in_ok-get.field-0 c.code.ensures.value (sym c.in_ok-get.ensures.value))
