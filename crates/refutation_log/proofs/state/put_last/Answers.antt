use Rattle.std.proofs.Common.{◌∙◌, ap, map}
use Rattle.refutation_log.specs.State.{entry_of}
use Rattle.refutation_log.proofs.StateLemmas.{entries_after_insert}
use Rattle.refutation_log.proofs.state.put_last.Goals as goal

pub returns-clause-last : goal.returns-clause-last
returns-clause-last c =
    let put = rw c.unwrap-none.ensures at c.insert.ensures.entries in
    ap (map entry_of) put ∙ entries_after_insert c.args.entries.now c.args.entry c.requires.unknown
