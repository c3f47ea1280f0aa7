use Rattle.refutation_log.specs.Text.{entry_line}
use Rattle.refutation_log.specs.Shown.{shown}
use Rattle.refutation_log.proofs.Growing.{text_more}
use Rattle.refutation_log.proofs.write.push_log.Goals as goal

pub loop-i-preserved : goal.loop-i-preserved
loop-i-preserved c =
    text_more entry_line c.args.log.now.entries c.loop-i.i (shown c.entry.result) c.args.out.now.items c.loop-i.out.items c.write_entry.new.out.items
    c.entry.ensures c.loop-i.invariant c.in_ok-write_entry.ensures.ok
