use Rattle.std.proofs.Common.{◌≡◌, ℕ, List, [], ◌∷◌, subst, sym, rules}
use Rattle.propositional_logic.specs.Clause.{IsWithinVariables}
use Rattle.machine_model.specs.declared.problems.Problem.{Problem}
use Rattle.letter_clauses.specs.BaseClauses.{chain_clause}
use Rattle.letter_clauses.specs.Variables.{variables_of}
use Rattle.letter_clauses.proofs.ClauseOrder.{chain-rises}
use Rattle.annotation_encode.proofs.Lists.{each_more}
use Rattle.letter_clauses.proofs.clauses.Encoding.push_chains_of_pair.Goals as goal

pub push_clause-requires-clause-within : goal.push_clause-requires-clause-within
push_clause-requires-clause-within c =
    let p : Problem = c.args.self.now.size.problem.now in
    let letters : List ℕ = c.args.self.now.size.letters.now in
    let same : c.new-before.result ∷ c.new-reached.result ∷ [] ≡ chain_clause p letters c.args.t c.args.q c.loop-count.count = search rules in
    subst (IsWithinVariables (variables_of p letters)) (sym same) (chain-rises p letters c.args.t c.args.q c.loop-count.count c.requires.state c.requires.pair (search rules)).within

pub loop-count-preserved : goal.loop-count-preserved
loop-count-preserved c = each_more (c.args.clauses.now.items) c.loop-count.clauses.items c.push_clause.new.clauses.items (λ k. chain_clause c.args.self.now.size.problem.now c.args.self.now.size.letters.now c.args.t c.args.q k ∷ []) c.loop-count.count c.loop-count.invariant (search rules)
