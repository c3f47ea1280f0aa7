use Rattle.std.proofs.Common.{ℕ, sym, subst}
use Rattle.aiger_text.specs.Walks.{Uses}
use Rattle.aiger_text.proofs.WalkLemmas.{meets}
use Rattle.aiger_text.proofs.walks.Walk.step.Goals as goal

pub returns-in-Meet-clause-cycle : goal.returns-in-Meet-clause-cycle
returns-in-Meet-clause-cycle c _ =
    meets c.args.gates.now c.args.self.now.marks.items c.args.self.now.stack.items c.args.self.now.order.items c.requires.walk c.in-Meet.field-0 c.requires.some
    c.in-Meet.ensures.0 (subst (λ (g : ℕ). Uses c.args.gates.now g c.in-Meet.field-0) (sym c.requires.top) c.in-Meet.ensures.1)
    (rw c.deref.ensures.value at c.in-Meet.ensures.2)
