use Rattle.witness_check.specs.Logs.{entries_for}
use Rattle.witness_check.proofs.Holding.{all_hold}
use Rattle.witness_check.proofs.Ordering.{all_prove}
use Rattle.witness_check.proofs.check.check_logs.Goals as goal

pub returns-clause-proved : goal.returns-clause-proved
returns-clause-proved c = λ ok. all_prove c.args.claim.now c.args.logs.now (all_hold c.args.claim.now c.args.logs.now c.requires.count (c.check_first_logs.ensures.ok ok))

pub returns-clause-shows : goal.returns-clause-shows
returns-clause-shows c = λ ok.
    c.witnesses_show.ensures c.args.claim.now (entries_for c.args.logs.now) c.frame_size-frame.ensures.countable.circuit c.frame_size-frame.ensures.countable.list c.requires.fits
    (all_prove c.args.claim.now c.args.logs.now (all_hold c.args.claim.now c.args.logs.now c.requires.count (c.check_first_logs.ensures.ok ok)))

pub returns-clause-ok : goal.returns-clause-ok
returns-clause-ok c = λ ok. all_hold c.args.claim.now c.args.logs.now c.requires.count (c.check_first_logs.ensures.ok ok)
