use Rattle.std.proofs.Common.{ℕ, List, [], ◌∷◌, ◌==◌, ◌∙◌, length, length-append, true≢false, sym, ap, arith}
use Rattle.refutation_log.proofs.LineLemmas.{lines_more}
use Rattle.refutation_log.proofs.read.read_log.Goals as goal

pub loop-n-preserved : goal.loop-n-preserved
loop-n-preserved c =
    let items = c.in_ok-push.ensures.items in
    let more = lines_more c.args.vars c.args.lines.now c.loop-n.entries.items c.loop-n.rest.now c.in-Some.after.now c.in-Some.entry c.loop-n.invariant.0
    (rw c.in-Some.is at c.in_ok-entry.ensures) in
    let len = length-append c.loop-n.entries.items (c.in-Some.entry ∷ []) in
    let n = c.loop-n.invariant.1 in
    rw items (
      more,
      omega (arith, len, n),
      λ none.
          let rest = (c.loop-n.invariant.2 none).0 in
          absurd (true≢false (sym (ap (λ (xs : List ℕ). length xs == 0) rest) ∙ sym c.if-is_empty.ensures)),
    )

pub returns-clause-no_lines : goal.returns-clause-no_lines
returns-clause-no_lines c = λ none some. let start = c.loop-n.invariant.2 none in let at = start.1 in let high = c.loop-n.auto.n-end in absurd (omega arith)
