use Rattle.std.proofs.Common.{[], ◌∷◌, arith, length-append}
use Rattle.refutation_log.proofs.LineLemmas.{lines_more}
use Rattle.document_text.proofs.logs.first_entries.Goals as goal

pub loop-alloc-preserved : goal.loop-alloc-preserved
loop-alloc-preserved c =
    let items = c.in_ok-push.ensures.items in
    let more = lines_more c.args.vars c.args.bytes.now c.loop-alloc.entries.items c.loop-alloc.rest.now c.in-Some.after.now c.in-Some.entry c.loop-alloc.invariant.0
    (rw c.in-Some.is at c.in_ok-entry.ensures) in
    let len = length-append c.loop-alloc.entries.items (c.in-Some.entry ∷ []) in
    let below = c.loop-alloc-test.true in
    rw items (more, omega (arith, len, below))
