use Rattle.std.proofs.Common.{◌≡◌, ◌+◌, ◌≤◌, Some, [], ◌∷◌, ◌++◌, length, sym, arith, rules}
use Rattle.document_text.specs.Header.{front}
use Rattle.solved_text.specs.Logs.{head_in}
use Rattle.solved_text.proofs.LogLemmas.{goes_ended, goes_no_head, goes_stopped, goes_whole, lines_fit}
use Rattle.solved_text.proofs.logs.read_logs.Goals as goal
use Rattle.solved_text.proofs.logs.read_logs.Goals.{In_ok-log, In_ok-push}

pub returns-in_default : goal.returns-in_default
returns-in_default c =
    rw c.stopped.ensures (goes_no_head c.args.refuted c.args.first c.args.bytes.now c.loop-last.logs.items c.loop-last.last c.loop-last.line c.loop-last.rest.now c.loop-last.invariant.0
    c.loop-last-test.true (sym (rw c.in_default.is at c.in_ok-head.ensures)))

module _ (c : In_ok-log) where
  next : front (head_in (c.loop-last.last + 1)) c.loop-last.rest.now ≡ Some (c.in-Some.head, c.in-Some.tail.now)
  next = sym (rw c.in-Some.is at c.in_ok-head.ensures)

  fit : c.loop-last.line + 1 + length c.in_ok-log.log.entries + length c.in_ok-log.after.now ≤ c.loop-last.line + length c.loop-last.rest.now
  fit =
      lines_fit c.args.refuted c.args.first c.args.bytes.now c.loop-last.logs.items c.loop-last.last c.loop-last.line c.loop-last.rest.now c.loop-last.invariant.0
      c.in-Some.head c.in-Some.tail.now c.in_ok-log.after.now c.in_ok-log.log c.loop-last-test.true next c.in_ok-log.ensures

module _ (c : In_ok-push) where
  so_many : c.len-count.result ≡ length c.in_ok-log.log.entries
  so_many = search rules

  pushed : c.push.new.self.items ≡ c.loop-last.logs.items ++ c.in_ok-log.log ∷ []
  pushed = search rules

pub overflow_add-line-in-loop-last : goal.overflow_add-line-in-loop-last
overflow_add-line-in-loop-last c =
    let f = fit (goal.at.overflow_add-line-in-loop-last c).In_ok-log in
    let n = so_many (goal.at.overflow_add-line-in-loop-last c).In_ok-push in
    let inv = c.loop-last.invariant.1 in
    let req = c.requires in
    omega (arith, f, n, inv, req)

pub returns-then-count-wanted : goal.returns-then-count-wanted
returns-then-count-wanted c =
    let n = so_many (goal.at.returns-then-count-wanted c).In_ok-push in
    let p = pushed (goal.at.returns-then-count-wanted c).In_ok-push in
    let e = next (goal.at.returns-then-count-wanted c).In_ok-log in
    let fewer = c.if-count-wanted.true in
    let whole = goes_stopped c.args.refuted c.args.first c.args.bytes.now c.loop-last.logs.items c.loop-last.last c.loop-last.line c.loop-last.rest.now c.loop-last.invariant.0
    c.in-Some.head c.in-Some.tail.now c.in_ok-log.after.now c.in_ok-log.log c.loop-last-test.true e c.in_ok-log.ensures (omega (arith, n, fewer)) in
    rw (c.stopped-then-count-wanted.ensures, p, n) whole

pub loop-last-preserved : goal.loop-last-preserved
loop-last-preserved c =
    let n = so_many (goal.at.loop-last-preserved c).In_ok-push in
    let p = pushed (goal.at.loop-last-preserved c).In_ok-push in
    let e = next (goal.at.loop-last-preserved c).In_ok-log in
    let f = fit (goal.at.loop-last-preserved c).In_ok-log in
    let inv = c.loop-last.invariant.1 in
    let less = c.loop-last-test.true in
    let all = c.if-count-wanted.false in
    let whole = goes_whole c.args.refuted c.args.first c.args.bytes.now c.loop-last.logs.items c.loop-last.last c.loop-last.line c.loop-last.rest.now c.loop-last.invariant.0
    c.in-Some.head c.in-Some.tail.now c.in_ok-log.after.now c.in_ok-log.log c.loop-last-test.true e c.in_ok-log.ensures (omega (arith, n, all)) in
    (rw (p, n) whole, omega (arith, f, n, inv), omega (arith, less))

pub returns : goal.returns
returns c =
    let most = c.loop-last.invariant.2 in
    let past = c.loop-last-test.false in
    goes_ended c.args.refuted c.args.first c.args.bytes.now c.loop-last.logs.items c.loop-last.last c.loop-last.line c.loop-last.rest.now c.loop-last.invariant.0
    (omega (arith, most, past))
