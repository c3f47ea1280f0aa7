use Rattle.std.proofs.Common.{◌≡◌, [], ◌∷◌, subst, sym, rules}
use Rattle.propositional_logic.specs.Clause.{IsWithinVariables}
use Rattle.machine_model.specs.declared.problems.Problem.{Problem}
use Rattle.annotation_encode.specs.BaseClauses.{chain_clause}
use Rattle.annotation_encode.specs.Variables.{variables_of}
use Rattle.annotation_encode.proofs.ClauseOrder.{chain-rises}
use Rattle.annotation_encode.proofs.Lists.{each_more}
use Rattle.annotation_encode.proofs.clauses.Encoding.push_chains_of_pair.Goals as goal

pub push_clause-requires-clause-within : goal.push_clause-requires-clause-within
push_clause-requires-clause-within c =
    let p : Problem = c.args.self.now.numbering.problem.now in
    let same : c.new-before.result ∷ c.new-reached.result ∷ [] ≡ chain_clause p c.args.t c.args.q c.loop-count.count = search rules in
    subst (IsWithinVariables (variables_of p)) (sym same) (chain-rises p c.args.t c.args.q c.loop-count.count c.requires.state c.requires.pair (search rules)).within

pub loop-count-preserved : goal.loop-count-preserved
loop-count-preserved c = each_more (c.args.clauses.now.items) c.loop-count.clauses.items c.push_clause.new.clauses.items (λ k. chain_clause c.args.self.now.numbering.problem.now c.args.t c.args.q k ∷ []) c.loop-count.count c.loop-count.invariant (search rules)
