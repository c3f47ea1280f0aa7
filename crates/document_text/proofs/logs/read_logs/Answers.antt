use Rattle.std.proofs.Common.{◌≡◌, ◌+◌, ◌≤◌, [], ◌∷◌, ◌++◌, length, sym, arith, rules}
use Rattle.document_text.specs.Logs.{part_of}
use Rattle.document_text.proofs.LogsLemmas.{goes_ended, goes_no_head, goes_stopped, goes_whole, lines_fit}
use Rattle.document_text.proofs.logs.read_logs.Goals as goal
use Rattle.document_text.proofs.logs.read_logs.Goals.{In_ok-entries, In_ok-push}

pub returns-in-Some : goal.returns-in-Some
returns-in-Some c =
    rw c.ended.ensures (goes_ended c.args.order c.args.first c.args.bytes.now c.loop-after.logs.items c.loop-after.last c.loop-after.line c.loop-after.rest.now c.loop-after.invariant.0
    c.in-Some.after.now (sym c.in-Some.ensures))

pub returns-in_default-next_head : goal.returns-in_default-next_head
returns-in_default-next_head c =
    rw c.stopped.ensures (goes_no_head c.args.order c.args.first c.args.bytes.now c.loop-after.logs.items c.loop-after.last c.loop-after.line c.loop-after.rest.now c.loop-after.invariant.0
    (sym c.in_default.ensures) (sym c.in_default-next_head.ensures))

module _ (c : In_ok-entries) where
  fit : c.loop-after.line + 1 + length c.in_ok-entries.field-0.entries.items + length c.in_ok-entries.field-0.rest.now ≤ c.loop-after.line + length c.loop-after.rest.now
  fit =
      lines_fit c.args.order c.args.first c.args.bytes.now c.loop-after.logs.items c.loop-after.last c.loop-after.line c.loop-after.rest.now c.loop-after.invariant.0
      c.in-Some-next_head.head c.in-Some-next_head.tail.now c.in_ok-entries.field-0.rest.now c.in_ok-entries.field-0.entries.items (sym c.in_default.ensures) (sym c.in-Some-next_head.ensures) c.in_ok-entries.ensures

module _ (c : In_ok-push) where
  so_many : c.len-count.result ≡ length c.in_ok-entries.field-0.entries.items
  so_many = search rules

  pushed : c.push.new.self.items ≡ c.loop-after.logs.items ++ part_of c.in-Some-next_head.head c.in_ok-entries.field-0.entries.items c.loop-after.line ∷ []
  pushed = search rules

pub overflow_add-line-in-loop-after : goal.overflow_add-line-in-loop-after
overflow_add-line-in-loop-after c =
    let f = fit (goal.at.overflow_add-line-in-loop-after c).In_ok-entries in
    let n = so_many (goal.at.overflow_add-line-in-loop-after c).In_ok-push in
    let inv = c.loop-after.invariant.1 in
    let req = c.requires in
    omega (arith, f, n, inv, req)

pub returns-then-count-head : goal.returns-then-count-head
returns-then-count-head c =
    let n = so_many (goal.at.returns-then-count-head c).In_ok-push in
    let p = pushed (goal.at.returns-then-count-head c).In_ok-push in
    let fewer = c.if-count-head.true in
    let whole = goes_stopped c.args.order c.args.first c.args.bytes.now c.loop-after.logs.items c.loop-after.last c.loop-after.line c.loop-after.rest.now c.loop-after.invariant.0
    c.in-Some-next_head.head c.in-Some-next_head.tail.now c.in_ok-entries.field-0.rest.now c.in_ok-entries.field-0.entries.items (sym c.in_default.ensures) (sym c.in-Some-next_head.ensures) c.in_ok-entries.ensures
    (omega (arith, n, fewer)) in
    rw (c.stopped-then-count-head.ensures, p, n) whole

pub loop-after-smaller : goal.loop-after-smaller
loop-after-smaller c =
    let f = fit (goal.at.loop-after-smaller c).In_ok-entries in
    omega (arith, f)

pub loop-after-preserved : goal.loop-after-preserved
loop-after-preserved c =
    let n = so_many (goal.at.loop-after-preserved c).In_ok-push in
    let p = pushed (goal.at.loop-after-preserved c).In_ok-push in
    let f = fit (goal.at.loop-after-preserved c).In_ok-entries in
    let inv = c.loop-after.invariant.1 in
    let all = c.if-count-head.false in
    let whole = goes_whole c.args.order c.args.first c.args.bytes.now c.loop-after.logs.items c.loop-after.last c.loop-after.line c.loop-after.rest.now c.loop-after.invariant.0
    c.in-Some-next_head.head c.in-Some-next_head.tail.now c.in_ok-entries.field-0.rest.now c.in_ok-entries.field-0.entries.items (sym c.in_default.ensures) (sym c.in-Some-next_head.ensures) c.in_ok-entries.ensures
    (omega (arith, n, all)) in
    (rw (p, c.place-last.ensures, n) whole, omega (arith, f, n, inv))
