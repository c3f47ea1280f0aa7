use Rattle.std.proofs.Common.{◌+◌, [], ◌∷◌, rules, subst, sym, ◌∙◌, arith}
use Rattle.annotation_encode.specs.BaseClauses.{order_clause}
use Rattle.annotation_encode.proofs.Lists.{each_more}
use Rattle.letter_clauses.specs.Variables.{variables_of}
use Rattle.annotation_encode.proofs.Rising.{Rises}
use Rattle.letter_clauses.proofs.ClauseOrder.{order-rises}
use Rattle.letter_clauses.proofs.clauses.Encoding.push_orders_of_row.Goals as goal
use Rattle.letter_clauses.proofs.clauses.Encoding.push_orders_of_row.Goals.{After-deref}

rises : (c : After-deref) → Rises 0 (variables_of c.args.self.now.size.problem.now c.args.self.now.size.letters.now) c.deref.result.now
rises c = subst (Rises 0 (variables_of c.args.self.now.size.problem.now c.args.self.now.size.letters.now)) (sym (c.deref.ensures.value ∙ c.in_ok-lits.ensures)) (order-rises c.args.self.now.size.problem.now c.args.self.now.size.letters.now c.args.place (c.loop-more.more + 2) c.requires.row (omega arith) (search rules))

pub push_clause-requires-clause-clause : goal.push_clause-requires-clause-clause
push_clause-requires-clause-clause c = (rises (goal.at.push_clause-requires-clause-clause c).After-deref).rising

pub push_clause-requires-clause-within : goal.push_clause-requires-clause-within
push_clause-requires-clause-within c = (rises (goal.at.push_clause-requires-clause-within c).After-deref).within

pub loop-more-preserved : goal.loop-more-preserved
loop-more-preserved c = each_more (c.args.clauses.now.items) c.loop-more.clauses.items c.push_clause.new.clauses.items (λ k. order_clause c.args.self.now.size.problem.now c.args.place (k + 2) ∷ []) c.loop-more.more c.loop-more.invariant (search rules)
