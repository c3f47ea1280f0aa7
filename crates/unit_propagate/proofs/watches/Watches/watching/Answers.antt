use Rattle.std.proofs.Common.{◌≡◌, Some, slice_get, sym, subst}
use Rattle.propositional_logic.specs.Codes.{code_of}
use Rattle.unit_propagate.proofs.NumberedLemmas.{is_shown, place_at}
use Rattle.unit_propagate.proofs.watches.Watches.watching.Goals as goal

pub at-requires-2 : goal.at-requires-2
at-requires-2 c = place_at c.self.inside.arena.starts c.self.inside.rows c.code.result c.args.i c.at.result c.self.invariant c.at.ensures

pub returns : goal.returns
returns c =
    rw (← c.self.view_is) (λ x there.
    subst (λ k. slice_get c.self.inside.arena.clauses k ≡ Some c.at-2.result.now)
    (sym (is_shown c.self.inside.arena.starts c.self.inside.rows c.code.result (code_of c.args.lit) c.args.i c.at.result x c.code.ensures.value c.at.ensures there)) c.at-2.ensures)
