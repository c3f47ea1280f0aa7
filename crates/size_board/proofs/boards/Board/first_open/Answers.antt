use Rattle.std.proofs.Common.{arith, refl}
use Rattle.size_board.proofs.Firsts.{searched_both, searched_all_none, searched_all_some}
use Rattle.size_board.proofs.boards.Board.first_open.Goals as goal

pub earlier-first-requires-in-loop-size : goal.earlier-first-requires-in-loop-size
earlier-first-requires-in-loop-size g c = λ x is.
    ((searched_both g.P.ProblemNames.named c.args.self.now c.loop-size.size c.loop-size.first c.earlier-first.result _ c.loop-size.invariant c.earlier-first.ensures (refl)).0.some x is).open_size

pub loop-size-preserved : goal.loop-size-preserved
loop-size-preserved g c =
    (searched_both g.P.ProblemNames.named c.args.self.now c.loop-size.size c.loop-size.first c.earlier-first.result c.earlier-first-in-loop-size.result
    c.loop-size.invariant c.earlier-first.ensures c.earlier-first-in-loop-size.ensures).1

pub returns-clause-none : goal.returns-clause-none
returns-clause-none g c =
    searched_all_none g.P.ProblemNames.named c.args.self.now c.loop-size.size c.self.inside.system_sizes c.self.inside.environment_sizes c.loop-size.first c.loop-size.invariant
    c.self.invariant.named.system_number c.self.invariant.named.environment_number (omega (arith, c.loop-size-test.false, c.max-most.ensures)) (omega (arith, c.loop-size-test.false, c.max-most.ensures))

pub returns-clause-first : goal.returns-clause-first
returns-clause-first g c =
    searched_all_some g.P.ProblemNames.named c.args.self.now c.loop-size.size c.self.inside.system_sizes c.self.inside.environment_sizes c.loop-size.first c.loop-size.invariant
    c.self.invariant.named.system_number c.self.invariant.named.environment_number (omega (arith, c.loop-size-test.false, c.max-most.ensures)) (omega (arith, c.loop-size-test.false, c.max-most.ensures))
