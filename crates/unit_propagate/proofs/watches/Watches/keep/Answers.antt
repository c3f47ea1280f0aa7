use Rattle.propositional_logic.specs.Codes.{code_of}
use Rattle.unit_propagate.proofs.NumberedLemmas.{Keeps-shown}
use Rattle.unit_propagate.proofs.watches.Watches.keep.Goals as goal

pub returns : goal.returns
returns c =
    rw (← c.self.view_is) (λ x there.
    Keeps-shown c.self.inside.arena c.self.inside.rows c.set.new.self c.self.inside.units.items c.code.result c.code-2.result (code_of c.args.lit) c.args.to c.args.i c.at-clause.result x c.args.blocker
    c.code.ensures.value c.code-2.ensures.value c.at-clause.ensures c.set.ensures there)
