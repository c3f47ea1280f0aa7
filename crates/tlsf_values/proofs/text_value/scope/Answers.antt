use Rattle.std.proofs.Common.{rules}
use Rattle.tlsf_values.proofs.ScopeLemmas.{bound_more}
use Rattle.tlsf_values.proofs.text_value.scope.Goals as goal

pub loop-entry-preserved : goal.loop-entry-preserved
loop-entry-preserved c =
    bound_more c.args.bound.now c.loop-entry.entry-index c.entry-item.result c.loop-entry.scope c.push.new.self (search rules) (search rules) (search rules) (search rules)
