use Rattle.std.proofs.Common.{rules, ◌≡◌, refl, subst}
use Rattle.std.specs.Prelude.{None}
use Rattle.refutation_log.specs.Log.{IsClosed}
use Rattle.witness_check.proofs.bases.test_log.Goals as goal

pub returns-in-Ok-clause-ok : goal.returns-in-Ok-clause-ok
returns-in-Ok-clause-ok c = λ _.
    let same : c.deref.result.now ≡ c.args.log.now.entries = search rules in
    record {
      same_vars = search rules;
      same_base = search rules;
      closed = subst (IsClosed c.args.base.now.vars c.args.base.now.clauses.items None) same (c.in-Ok.ensures.ok refl);
    }
