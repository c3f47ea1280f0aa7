use Rattle.std.proofs.Common.{◌≡◌, true, refl, rules}
use Rattle.tlsf_tokens.specs.declared.symbol.Symbol.TheVariants as symbol
use Rattle.tlsf_syntax.specs.Reading.{begins}
use Rattle.tlsf_syntax.specs.Seen.{expr_seen}
use Rattle.tlsf_reader.proofs.Descending.{read_stop, read_go, read_next, read_other, read_here}
use Rattle.tlsf_reader.proofs.Climbing.{read_exit}
use Rattle.tlsf_reader.proofs.DefinitionDescending.{guarded_body, body_rest, body_tree, body_otherwise, read_guarded}
use Rattle.tlsf_reader.proofs.definition.body.Goals as goal

pub returns-in_err-all-clause-read : goal.returns-in_err-all-clause-read
returns-in_err-all-clause-read c =
    read_exit _ c.from_residual.ensures.1 (read_next body_otherwise (λ d. body_tree d c.args.ahead.now) c.in-Some.ensures.next (read_stop (λ d. guarded_body) c.in_err-all.ensures.read))

pub returns-in_err-tree-clause-read : goal.returns-in_err-tree-clause-read
returns-in_err-tree-clause-read c =
    read_exit _ c.from_residual-in_err-tree.ensures.1 (read_other body_otherwise body_tree c.in_default.ensures.next (read_stop body_rest c.in_err-tree.ensures.read))

pub returns-in_err-all-2-clause-read : goal.returns-in_err-all-2-clause-read
returns-in_err-all-2-clause-read c =
    let colon : begins symbol.Colon c.expression.new.ahead ≡ true = search rules in
    read_exit _ c.from_residual-in_err-all-2.ensures.1 (read_other body_otherwise body_tree c.in_default.ensures.next (read_go body_rest c.in_ok-tree.ensures.read
    (read_guarded (expr_seen c.in_ok-tree.tree) c.expression.new.ahead colon (read_stop (λ d. guarded_body) c.in_err-all-2.ensures.read))))

pub returns-then-begins-clause-read : goal.returns-then-begins-clause-read
returns-then-begins-clause-read c =
    let colon : begins symbol.Colon c.expression.new.ahead ≡ true = search rules in
    read_other body_otherwise body_tree c.in_default.ensures.next (read_go body_rest c.in_ok-tree.ensures.read
    (read_guarded (expr_seen c.in_ok-tree.tree) c.expression.new.ahead colon (read_go (λ d. guarded_body) c.in_ok-all-2.ensures.read (read_here refl))))
