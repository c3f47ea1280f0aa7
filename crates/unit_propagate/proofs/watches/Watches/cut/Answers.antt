use Rattle.propositional_logic.specs.Codes.{code_of}
use Rattle.unit_propagate.proofs.NumberedLemmas.{Cuts-shown}
use Rattle.unit_propagate.proofs.watches.Watches.cut.Goals as goal

pub returns : goal.returns
returns c =
    rw (← c.self.view_is)
    (Cuts-shown c.self.inside.arena c.self.inside.rows c.cut.new.self c.self.inside.units.items c.code.result (code_of c.args.lit) c.args.from c.args.to c.code.ensures.value c.cut.ensures)
