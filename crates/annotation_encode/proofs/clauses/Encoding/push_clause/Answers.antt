use Rattle.std.proofs.Common.{◌≡◌, List, ◌++◌, ◌∷◌, [], ap, ◌∙◌, sym, subst}
use Rattle.propositional_logic.specs.Literal.{Literal}
use Rattle.propositional_logic.specs.Clause.{IsWithinVariables}
use Rattle.propositional_logic.proofs.Rising.{no_tautology, rising_one}
use Rattle.annotation_encode.proofs.Rising.{none_bad}
use Rattle.annotation_encode.proofs.clauses.Encoding.push_clause.Goals as goal

pub unreachable-requires : goal.unreachable-requires
unreachable-requires c =
    let within : IsWithinVariables c.variables.result c.args.lits.now = subst (λ n. IsWithinVariables n c.args.lits.now) (sym c.variables.ensures.value) c.requires.within in
    none_bad c.variables.result c.args.lits.now within (c.new.ensures.bad_variable.0 (cc))

pub unreachable-requires-in-Err-Tautology : goal.unreachable-requires-in-Err-Tautology
unreachable-requires-in-Err-Tautology c = no_tautology c.args.lits.now c.requires.clause (c.new.ensures.tautology (cc)).1

pub returns-in_ok-push-in-Ok : goal.returns-in_ok-push-in-Ok
returns-in_ok-push-in-Ok c =
    let same : c.in-Ok.clause ≡ c.args.lits.now = rising_one 0 c.in-Ok.clause c.args.lits.now c.in-Ok.ensures.ok.sorted c.requires.clause c.in-Ok.ensures.ok.same_literals in
    c.in_ok-push-in-Ok.ensures.items ∙ ap (λ (x : List Literal). c.args.clauses.now.items ++ x ∷ []) same
