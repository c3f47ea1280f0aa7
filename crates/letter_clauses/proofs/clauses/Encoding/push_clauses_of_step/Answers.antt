use Rattle.std.proofs.Common.{◌≡◌, ◌++◌, ap, rules, subst, sym, ◌∙◌}
use Rattle.letter_clauses.specs.BaseClauses.{count_literals, step_clause}
use Rattle.letter_clauses.specs.Variables.{variables_of}
use Rattle.annotation_encode.proofs.Rising.{Rises}
use Rattle.letter_clauses.proofs.ClauseOrder.{step-rises}
use Rattle.letter_clauses.proofs.clauses.Encoding.push_clauses_of_step.Goals as goal
use Rattle.letter_clauses.proofs.clauses.Encoding.push_clauses_of_step.Goals.{After-deref}

-- the list is the step's clause
is_step : (c : After-deref) → c.deref.result.now ≡ step_clause c.args.self.now.size.problem.now c.args.self.now.size.letters.now c.args.edge c.args.t c.args.letter c.args.to c.loop-count.count
is_step c =
    c.deref.ensures.value ∙ c.in_ok-push_count_literals.ensures
    ∙ ap (λ xs. xs ++ count_literals c.args.self.now.size.problem.now c.args.self.now.size.letters.now c.args.edge c.args.t c.args.to c.loop-count.count) c.loop-count.invariant.lits

rises : (c : After-deref) → Rises 0 (variables_of c.args.self.now.size.problem.now c.args.self.now.size.letters.now) c.deref.result.now
rises c = subst (Rises 0 (variables_of c.args.self.now.size.problem.now c.args.self.now.size.letters.now)) (sym (is_step c)) (step-rises c.args.self.now.size.problem.now c.args.self.now.size.letters.now c.args.edge c.args.t c.args.letter c.args.to c.loop-count.count c.requires.edge c.requires.state c.requires.letter c.requires.target (search rules) (sym c.is_idle.ensures ∙ c.if-is_idle.false))

pub push_clause-requires-clause-clause : goal.push_clause-requires-clause-clause
push_clause-requires-clause-clause c = (rises (goal.at.push_clause-requires-clause-clause c).After-deref).rising

pub push_clause-requires-clause-within : goal.push_clause-requires-clause-within
push_clause-requires-clause-within c = (rises (goal.at.push_clause-requires-clause-within c).After-deref).within
