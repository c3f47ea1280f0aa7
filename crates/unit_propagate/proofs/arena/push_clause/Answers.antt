use Rattle.std.proofs.Common.{◌≡◌, ◌+◌, length, ap, ◌∙◌}
use Rattle.propositional_logic.specs.Codes.{decoded}
use Rattle.unit_propagate.specs.Watches.{ordered}
use Rattle.unit_propagate.proofs.ArenaLemmas.{pushed_result}
use Rattle.unit_propagate.proofs.arena.push_clause.Goals as goal

pub returns-clause-ok : goal.returns-clause-ok
returns-clause-ok c =
    let start : c.len-start.result ≡ length c.args.out.now.items = c.len-start.ensures ∙ c.args.out.now.ok.0 in
    pushed_result c.close_clause.result c.args.out.now.items c.open_clause.new.out.items c.append.new.out.items c.close_clause.new.out.items c.args.spans.now.items c.close_clause.new.spans.items
    (ordered c.args.lits.now c.args.first c.args.second) (decoded 2) (decoded 2) (c.len-start.result + 2) c.in_ok-open_clause.ensures.ok c.in_ok-append.ensures.ok (ap (λ n. n + 2) start) c.close_clause.ensures.ok
