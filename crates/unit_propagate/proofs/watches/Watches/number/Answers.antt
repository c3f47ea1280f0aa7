use Rattle.std.proofs.Common.{sym, ◌∙◌}
use Rattle.propositional_logic.specs.Codes.{code_of}
use Rattle.unit_propagate.proofs.NumberedLemmas.{is_shown, place_at}
use Rattle.unit_propagate.proofs.watches.Watches.number.Goals as goal

pub number-requires : goal.number-requires
number-requires c = place_at c.self.inside.arena.starts c.self.inside.rows c.code.result c.args.i c.at.result c.self.invariant c.at.ensures

pub returns : goal.returns
returns c =
    rw (← c.self.view_is) (λ x there.
    c.number.ensures ∙ sym (is_shown c.self.inside.arena.starts c.self.inside.rows c.code.result (code_of c.args.lit) c.args.i c.at.result x c.code.ensures.value c.at.ensures there))
