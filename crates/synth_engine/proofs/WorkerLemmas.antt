-- Seats at their tasks, and what is decided at them.
use Rattle.std.proofs.Common.{◌≡◌, ℕ, ◌-◌, ◌<◌, ◌≤◌, List, All, map, length, get_or, set, sym, ◌∙◌, ap, arith}
use Rattle.std.specs.Prelude.{Vec, Option, Some, None, Result, Ok, Err, IfOk, IfSome, slice_get}
use Rattle.std.proofs.Math.Seq.{map-set_same}
use Rattle.std.proofs.lemmas.List.{get_or-map, length-map, with_items_is}
use Rattle.std.specs.Vec.{with_items}
use Rattle.letters_and_lassos.specs.declared.kinds.Side.{Side}
use Rattle.refutation_log.specs.declared.entries.Entry.{Entry}
use Rattle.clause_exchange.specs.SharedLog.{PassView, SharedLog}
use Rattle.size_board.specs.Names.{Named, sizes_of}
use Rattle.size_board.specs.declared.events.Claim.{Claim}
use Rattle.size_search.specs.Task.{SizeTaskModel}
use Rattle.size_search.specs.Decided.{IsDecided}
use Rattle.size_search.specs.declared.decided.Decided.{Decided}
use Rattle.synth_engine.specs.Tasks.{AreSeats, FitNames, IsAllowed, IsVerdict, IsVerdictAt}

-- the log of a seat, and that of a task
abbrev pub at_seat : PassView → SharedLog
at_seat s = s.exchange

abbrev pub at_task : SizeTaskModel → SharedLog
at_task t = t.exchange

module _ (seats : List PassView) (tasks : List SizeTaskModel) (same : map at_seat seats ≡ map at_task tasks) where
  -- there are as many seats as tasks
  pub as_many : length seats ≡ length tasks
  as_many = sym (length-map seats at_seat) ∙ ap length same ∙ length-map tasks at_task

  -- each seat is at its task's log
  pub seat_at : (k : ℕ) (s : PassView) (t : SizeTaskModel) → k < length tasks → (get_or seats k s).exchange ≡ (get_or tasks k t).exchange
  seat_at k s t h =
      let h' : k < length seats = let e = as_many in omega arith in
      let d : SharedLog = s.exchange in
      sym (get_or-map at_seat seats k s d h') ∙ ap (λ l. get_or l k d) same ∙ get_or-map at_task tasks k t d h

  -- a seat is put in the place of another one at the same log
  pub seats_stay : (k : ℕ) (s new : PassView) → new.exchange ≡ (get_or seats k s).exchange → map at_seat (set seats k new) ≡ map at_task tasks
  seats_stay k s new e = map-set_same at_seat seats k new s e ∙ same

-- a worker's seats after a turn at one of them
pub seats_back : {Z : Type 0} (number : ℕ) (tasks shown : List SizeTaskModel) (v : Vec PassView Z) (before new : List PassView) → shown ≡ tasks → before ≡ v.items → AreSeats number tasks v.items
    → map at_seat new ≡ map at_task shown → (All (λ s. s.number ≡ number) before → All (λ s. s.number ≡ number) new) → AreSeats number tasks (with_items v new).items
seats_back number tasks shown v before new same was are exchanges numbers =
    let here : map at_seat new ≡ map at_task tasks = exchanges ∙ ap (λ l. map at_task l) same in
    let len : length new ≡ v.len = as_many new tasks here ∙ sym (as_many v.items tasks are.exchanges) ∙ sym v.ok.0 in
    let old : All (λ s. s.number ≡ number) before = rw was are.numbers in
    rw (with_items_is v new len) (record { exchanges = here; numbers = numbers old })

-- what is decided of a task is decided at its place
pub verdict_at : (tasks : List SizeTaskModel) (k : ℕ) (t : SizeTaskModel) (seen : List Entry) {E : Type 0} (r : Result (Option Decided) E) → slice_get tasks k ≡ Some t
    → IfOk r (λ answer. IfSome answer (IsDecided t.problem t.exchange.terms seen)) → IfOk r (λ answer. IfSome answer (IsVerdictAt tasks k))
verdict_at tasks k t seen (Ok (Some d)) at h = (t, seen, at, h)
verdict_at tasks k t seen (Ok None) at h = tt
verdict_at tasks k t seen (Err e) at h = tt

-- what is decided at a size's place may be marked for the size
verdict_of : (names : Named) (claim : Claim) (side : Side) (tasks : List SizeTaskModel) (decided : Decided) → FitNames names side tasks → IsAllowed names claim
    → claim.side ≡ side → IsVerdictAt tasks (length tasks - claim.size) decided → IsVerdict names claim decided
verdict_of names claim side tasks decided fit allowed is v =
    let facts = fit.each (length tasks - claim.size) v.0 v.2 in
    let most : claim.size ≤ sizes_of names side = rw (sym is) allowed.most in
    let count : length tasks ≡ sizes_of names side = fit.count in
    let size : v.0.problem.size ≡ claim.size = let e = facts.1 in omega arith in
    (v.0, v.1, rw is facts.0, size, v.3)

pub verdicts_of : (names : Named) (claim : Claim) (side : Side) (fitting tasks : List SizeTaskModel) {E : Type 0} (r : Result (Option Decided) E) → tasks ≡ fitting → FitNames names side fitting
    → IsAllowed names claim → claim.side ≡ side → IfOk r (λ answer. IfSome answer (IsVerdictAt tasks (length tasks - claim.size))) → IfOk r (λ answer. IfSome answer (IsVerdict names claim))
verdicts_of names claim side fitting tasks (Ok (Some d)) same fit allowed is h = verdict_of names claim side tasks d (rw same fit) allowed is h
verdicts_of names claim side fitting tasks (Ok None) same fit allowed is h = tt
verdicts_of names claim side fitting tasks (Err e) same fit allowed is h = tt
