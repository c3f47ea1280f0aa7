use Rattle.std.proofs.Common.{◌≡◌, ◌+◌, get_or, length, sym, ap, arith, rules}
use Rattle.truth_witness.specs.Logs.{ObligationLog}
use Rattle.witness_text.proofs.LogLemmas.{lines_of_first, lines_of_next}
use Rattle.witness_text.proofs.lines.lines_of.Goals as goal

pub overflow_add-lines-in-loop-log : goal.overflow_add-lines-in-loop-log
overflow_add-lines-in-loop-log c =
    let next = lines_of_next c.args.logs.now c.loop-log.log-index c.log-item.result c.loop-log-test.true in
    let first = lines_of_first (c.loop-log.log-index + 1) c.args.logs.now in
    let entries : length (get_or c.args.logs.now c.loop-log.log-index c.log-item.result).entries ≡ length c.log-item.result.entries =
    ap (λ (l : ObligationLog). length l.entries) (sym c.log-item.is) in
    let size : c.len.result ≡ length c.log-item.result.entries = search rules in
    let so_far = c.loop-log.invariant in
    let small = c.requires in
    omega (arith, next, first, entries, size, so_far, small)

pub loop-log-preserved : goal.loop-log-preserved
loop-log-preserved c =
    let next = lines_of_next c.args.logs.now c.loop-log.log-index c.log-item.result c.loop-log-test.true in
    let entries : length (get_or c.args.logs.now c.loop-log.log-index c.log-item.result).entries ≡ length c.log-item.result.entries =
    ap (λ (l : ObligationLog). length l.entries) (sym c.log-item.is) in
    let size : c.len.result ≡ length c.log-item.result.entries = search rules in
    let so_far = c.loop-log.invariant in
    omega (arith, next, entries, size, so_far)
