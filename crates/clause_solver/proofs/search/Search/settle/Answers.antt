use Rattle.std.proofs.Common.{◌-◌, length, drop, All, subst, arith}
use Rattle.std.proofs.lemmas.List.{take_all, length-drop}
use Rattle.refutation_log.specs.declared.entries.Entry.{Entry}
use Rattle.clause_solver.specs.Levels.{IsIdleBelow}
use Rattle.clause_solver.proofs.WorkLemmas.{searching_back}
use Rattle.clause_solver.proofs.search.Search.settle.Goals as goal

pub returns-clause-searching : goal.returns-clause-searching
returns-clause-searching c =
    searching_back c.args.base.now.clauses.items c.args.seen.now c.args.self.now.trail c.back_to.new.self c.args.self.now.shown c.level_to_keep-level.result c.back_to.new.self.looked c.requires
    (subst (All (λ (e : Entry). IsIdleBelow c.level_to_keep-level.result c.args.self.now.trail.marks e.clause)) (take_all (length c.args.seen.now - c.args.self.now.shown) (drop c.args.self.now.shown c.args.seen.now) (omega (arith, length-drop c.args.self.now.shown c.args.seen.now))) c.level_to_keep-level.ensures) c.back_to.ensures.exact
