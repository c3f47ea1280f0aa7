use Rattle.std.proofs.Common.{◌≡◌, ℕ, ◌-◌, ◌<◌, ◌++◌, ◌∷◌, [], List, length, get_or, ap, subst, ◌∙◌, arith}
use Rattle.std.proofs.lemmas.List.{length_push, get_or_push}
use Rattle.aiger_text.specs.declared.walks.Mark.TheVariants.{Done}
use Rattle.aiger_text.specs.Walks.{IsWalk, Uses, mark_at}
use Rattle.aiger_text.proofs.WalkLemmas.{close_walk}
use Rattle.aiger_text.proofs.walks.Walk.close.Goals as goal

pub returns-clause-walk : goal.returns-clause-walk
returns-clause-walk c =
    let split : c.args.self.now.stack.items ≡ c.pop.new.self.items ++ c.in-Some.place ∷ [] = c.in-Some.ensures.items in
    let walk : IsWalk c.args.gates.now c.args.self.now.marks.items (c.pop.new.self.items ++ c.in-Some.place ∷ []) c.args.self.now.order.items = rw split at c.requires.walk in
    let last : length c.pop.new.self.items ≡ length (c.pop.new.self.items ++ c.in-Some.place ∷ []) - 1 = omega (arith, length_push c.pop.new.self.items c.in-Some.place) in
    let top : get_or c.args.self.now.stack.items (length c.args.self.now.stack.items - 1) 0 ≡ c.in-Some.place =
    ap (λ (s : List ℕ). get_or s (length s - 1) 0) split
    ∙ get_or_push c.pop.new.self.items c.in-Some.place 0 (length (c.pop.new.self.items ++ c.in-Some.place ∷ []) - 1) last in
    rw c.in_ok-push.ensures.items
    (close_walk c.args.gates.now c.args.self.now.marks.items c.pop.new.self.items c.args.self.now.order.items c.in-Some.place walk
    (subst (λ (g : ℕ). (h : ℕ) → h < length c.args.gates.now → Uses c.args.gates.now g h → mark_at c.args.self.now.marks.items h ≡ Done) top c.requires.ready))
