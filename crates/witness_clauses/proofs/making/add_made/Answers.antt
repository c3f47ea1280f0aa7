use Rattle.std.proofs.Common.{rules, sym, ◌∙◌}
use Rattle.propositional_logic.specs.Clause.{IsTautology, HasBadVariable}
use Rattle.witness_clauses.proofs.Made.{added_clause, added_none, none_bad}
use Rattle.witness_clauses.proofs.making.add_made.Goals as goal

pub returns-in-Ok : goal.returns-in-Ok
returns-in-Ok c =
    let no_twins : IsTautology c.deref.result.now → ⊥ = search rules in
    added_clause c.clauses_are_sets.ensures c.args.lits.now c.deref.result.now _ c.args.clauses.now.items c.push.new.self.items (sym c.contains.ensures.value ∙ c.if-contains.false)
    (c.deref.ensures.value ∙ c.in_ok-kept.ensures) no_twins c.in-Ok.ensures.ok c.in_ok-push-in-Ok.ensures.items

pub returns-in-Err-Tautology : goal.returns-in-Err-Tautology
returns-in-Err-Tautology c =
    let twins : IsTautology c.deref.result.now = search rules in
    added_none c.args.lits.now c.deref.result.now c.args.clauses.now.items (sym c.contains.ensures.value ∙ c.if-contains.false)
    (c.deref.ensures.value ∙ c.in_ok-kept.ensures) twins

pub unreachable-requires : goal.unreachable-requires
unreachable-requires c =
    let bad : HasBadVariable c.args.vars c.deref.result.now = search rules in
    none_bad c.args.vars c.args.lits.now c.deref.result.now c.requires.within (c.deref.ensures.value ∙ c.in_ok-kept.ensures) bad
