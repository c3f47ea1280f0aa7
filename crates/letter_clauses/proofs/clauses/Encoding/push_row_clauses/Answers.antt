use Rattle.std.proofs.Common.{[], ◌∷◌, rules, subst, sym, ◌∙◌}
use Rattle.annotation_encode.specs.BaseClauses.{row_clause}
use Rattle.annotation_encode.proofs.Lists.{each_more}
use Rattle.letter_clauses.specs.Variables.{variables_of}
use Rattle.annotation_encode.proofs.Rising.{Rises}
use Rattle.letter_clauses.proofs.ClauseOrder.{row-rises}
use Rattle.letter_clauses.proofs.clauses.Encoding.push_row_clauses.Goals as goal
use Rattle.letter_clauses.proofs.clauses.Encoding.push_row_clauses.Goals.{After-deref}

rises : (c : After-deref) → Rises 0 (variables_of c.args.self.now.size.problem.now c.args.self.now.size.letters.now) c.deref.result.now
rises c = subst (Rises 0 (variables_of c.args.self.now.size.problem.now c.args.self.now.size.letters.now)) (sym (c.deref.ensures.value ∙ c.in_ok-lits.ensures)) (row-rises c.args.self.now.size.problem.now c.args.self.now.size.letters.now c.loop-place.place (search rules))

pub push_clause-requires-clause-clause : goal.push_clause-requires-clause-clause
push_clause-requires-clause-clause c = (rises (goal.at.push_clause-requires-clause-clause c).After-deref).rising

pub push_clause-requires-clause-within : goal.push_clause-requires-clause-within
push_clause-requires-clause-within c = (rises (goal.at.push_clause-requires-clause-within c).After-deref).within

pub loop-place-preserved : goal.loop-place-preserved
loop-place-preserved c = each_more (c.args.clauses.now.items) c.loop-place.clauses.items c.push_clause.new.clauses.items (λ place. row_clause c.args.self.now.size.problem.now place ∷ []) c.loop-place.place c.loop-place.invariant (search rules)
