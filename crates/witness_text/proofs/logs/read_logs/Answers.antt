use Rattle.std.proofs.Common.{◌≡◌, ◌+◌, ◌<◌, ◌≤◌, Some, None, [], ◌∷◌, ◌++◌, length, sym, ap, ◌∙◌, arith, rules, length-append}
use Rattle.document_text.specs.Header.{front}
use Rattle.witness_text.specs.Forms.{head_in}
use Rattle.witness_text.specs.Shown.{IsLogAt}
use Rattle.witness_text.proofs.LogLemmas.{goes_ended, goes_no_head, goes_stopped, goes_whole, lines_fit}
use Rattle.witness_text.proofs.logs.read_logs.Goals as goal
use Rattle.witness_text.proofs.logs.read_logs.Goals.{In_ok-log, In_ok-push}

pub returns-in_default : goal.returns-in_default
returns-in_default c =
    let place : c.len-whole.result ≡ length c.loop-alloc.logs.items = search rules in
    let less : length c.loop-alloc.logs.items < c.args.count = search rules in
    let none : front (head_in (length c.loop-alloc.logs.items)) c.loop-alloc.rest.now ≡ None =
    ap (λ k. front (head_in k) c.loop-alloc.rest.now) (sym place) ∙ sym c.in_default.ensures in
    rw (c.stopped.ensures, place) (goes_no_head c.args.count c.args.first c.args.bytes.now c.loop-alloc.logs.items c.loop-alloc.line c.loop-alloc.rest.now c.loop-alloc.invariant.0 less none)

module _ (c : In_ok-log) where
  place : c.len-whole.result ≡ length c.loop-alloc.logs.items
  place = search rules

  less : length c.loop-alloc.logs.items < c.args.count
  less = search rules

  next : front (head_in (length c.loop-alloc.logs.items)) c.loop-alloc.rest.now ≡ Some (c.in-Some.head, c.in-Some.tail.now)
  next = ap (λ k. front (head_in k) c.loop-alloc.rest.now) (sym place) ∙ sym c.in-Some.ensures

  fit : c.loop-alloc.line + 1 + length c.in_ok-log.log.entries + length c.in_ok-log.after.now ≤ c.loop-alloc.line + length c.loop-alloc.rest.now
  fit =
      lines_fit c.args.count c.args.first c.args.bytes.now c.loop-alloc.logs.items c.loop-alloc.line c.loop-alloc.rest.now c.loop-alloc.invariant.0
      c.in-Some.head c.in-Some.tail.now c.in_ok-log.after.now c.in_ok-log.log less next c.in_ok-log.ensures

module _ (c : In_ok-push) where
  so_many : c.len-entries.result ≡ length c.in_ok-log.log.entries
  so_many = search rules

  pushed : c.push.new.self.items ≡ c.loop-alloc.logs.items ++ c.in_ok-log.log ∷ []
  pushed = search rules

pub overflow_add-line-in-loop-alloc : goal.overflow_add-line-in-loop-alloc
overflow_add-line-in-loop-alloc c =
    let f = fit (goal.at.overflow_add-line-in-loop-alloc c).In_ok-log in
    let n = so_many (goal.at.overflow_add-line-in-loop-alloc c).In_ok-push in
    let inv = c.loop-alloc.invariant.1 in
    let req = c.requires in
    omega (arith, f, n, inv, req)

pub returns-then-entries-head : goal.returns-then-entries-head
returns-then-entries-head c =
    let n = so_many (goal.at.returns-then-entries-head c).In_ok-push in
    let p = pushed (goal.at.returns-then-entries-head c).In_ok-push in
    let k = place (goal.at.returns-then-entries-head c).In_ok-log in
    let l = less (goal.at.returns-then-entries-head c).In_ok-log in
    let e = next (goal.at.returns-then-entries-head c).In_ok-log in
    let fewer = c.if-entries-head.true in
    let whole = goes_stopped c.args.count c.args.first c.args.bytes.now c.loop-alloc.logs.items c.loop-alloc.line c.loop-alloc.rest.now c.loop-alloc.invariant.0
    c.in-Some.head c.in-Some.tail.now c.in_ok-log.after.now c.in_ok-log.log l e c.in_ok-log.ensures (omega (arith, n, fewer)) in
    rw (c.stopped-then-entries-head.ensures, p, n, k) whole

pub loop-alloc-preserved : goal.loop-alloc-preserved
loop-alloc-preserved c =
    let n = so_many (goal.at.loop-alloc-preserved c).In_ok-push in
    let p = pushed (goal.at.loop-alloc-preserved c).In_ok-push in
    let l = less (goal.at.loop-alloc-preserved c).In_ok-log in
    let e = next (goal.at.loop-alloc-preserved c).In_ok-log in
    let f = fit (goal.at.loop-alloc-preserved c).In_ok-log in
    let inv = c.loop-alloc.invariant.1 in
    let all = c.if-entries-head.false in
    let longer = length-append c.loop-alloc.logs.items (c.in_ok-log.log ∷ []) in
    let whole = goes_whole c.args.count c.args.first c.args.bytes.now c.loop-alloc.logs.items c.loop-alloc.line c.loop-alloc.rest.now c.loop-alloc.invariant.0
    c.in-Some.head c.in-Some.tail.now c.in_ok-log.after.now c.in_ok-log.log l e c.in_ok-log.ensures (omega (arith, n, all)) in
    rw (p, n) (whole, omega (arith, f, n, inv), omega (arith, longer, l))

pub returns : goal.returns
returns c =
    let most = c.loop-alloc.invariant.2 in
    let number : c.len-2.result ≡ length c.loop-alloc.logs.items = search rules in
    let past : c.args.count ≤ length c.loop-alloc.logs.items = search rules in
    rw number (goes_ended c.args.count c.args.first c.args.bytes.now c.loop-alloc.logs.items c.loop-alloc.line c.loop-alloc.rest.now c.loop-alloc.invariant.0 (omega (arith, most, past)))
