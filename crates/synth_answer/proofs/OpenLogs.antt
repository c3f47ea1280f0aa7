-- The first of some logs that isn't closed, where each is closed or full, and what is said of it.
use Rattle.std.proofs.Common.{◌≡◌, ℕ, ◌+◌, suc, inl, inr, Bool, true, false, List, [], ◌∷◌, ◌++◌, Option, Some, None, All, Any, cond, length, refl, sym, ap, ◌∙◌, subst, arith, is_some, eq-eqb}
use Rattle.std.proofs.lemmas.Bool.{cond-true, cond-false}
use Rattle.std.proofs.lemmas.List.Elements.{All-cons, All-head, All-nil, All-tail}
use Rattle.std.proofs.lemmas.Option.{same_Some, none-some}
use Rattle.refutation_log.specs.Log.{is_ended}
use Rattle.document_text.specs.contracts.documents.VerdictPartialEq.TheImpl.{ghosts as verdict_ghosts}
use Rattle.document_text.specs.declared.documents.Verdict.{Verdict}
use Rattle.document_text.specs.declared.documents.Verdict.TheVariants.{Machine, Unknown}
use Rattle.document_text.specs.declared.order.Place.{Place}
use Rattle.document_text.specs.Order.{log_place, verdict_of}
use Rattle.document_text.specs.Parts.{LogPart}
use Rattle.document_text.specs.States.{logs_at}
use Rattle.document_check.specs.Facts.{Facts}
use Rattle.document_check.specs.Holds.{first_open, may_be_full}
use Rattle.document_check.proofs.HoldLemmas.{same_as_itself}
use Rattle.synth_answer.specs.Holds.{IsClosedFor, IsClosedLog, IsEndedLog, IsFirstOpen, IsFullFor, IsFullLog}
use Rattle.synth_answer.proofs.Sides.{out_of}

-- == what is said ==

pub may_be_full_is : (machine first : Option Place) → may_be_full (verdict_of machine first) ≡ is_some first
may_be_full_is None first = refl
may_be_full_is (Some m) None = refl
may_be_full_is (Some m) (Some q) = refl

pub same_verdict : (v : Verdict) → verdict_ghosts.eq v v ≡ true
same_verdict (Machine side n true) = let one = same_as_itself side in let two = eq-eqb n n refl in rw (one, two) refl
same_verdict (Machine side n false) = let one = same_as_itself side in let two = eq-eqb n n refl in rw (one, two) refl
same_verdict (Unknown None) = refl
same_verdict (Unknown (Some q)) = let one = same_as_itself q.side in let two = eq-eqb q.size q.size refl in rw (one, two) refl

-- == the first open log ==

-- the lines of the logs make no difference
pub open_at : (n : ℕ) (logs : List LogPart) → first_open (logs_at n logs) ≡ first_open logs
open_at n [] = refl
open_at n (l ∷ logs) = ap (λ o. cond (is_ended l.entries) o (Some (log_place l))) (open_at (n + 1 + length l.entries) logs)

module _ (x : Facts) (limit : Option ℕ) where
  closed_is_ended : (l : LogPart) → IsClosedLog x limit l → is_ended l.entries ≡ true
  closed_is_ended l = out_of x.system x.environment l.side (λ p. IsClosedFor limit p l) (is_ended l.entries ≡ true) (λ p of h. h.refutes)

  full_is_open : (l : LogPart) → IsFullLog x limit l → is_ended l.entries ≡ false
  full_is_open l = out_of x.system x.environment l.side (λ p. IsFullFor limit p l) (is_ended l.entries ≡ false) (λ p of h. h.not_closed)

  closed_here : (l : LogPart) → is_ended l.entries ≡ true → IsEndedLog x limit l → IsClosedLog x limit l
  closed_here l e (inl closed) = closed
  closed_here l e (inr full) = let other = full_is_open l full in absurd (cc)

  full_here : (l : LogPart) → is_ended l.entries ≡ false → IsEndedLog x limit l → IsFullLog x limit l
  full_here l e (inl closed) = let other = closed_is_ended l closed in absurd (cc)
  full_here l e (inr full) = full

  closed_by : (b : Bool) (l : LogPart) (logs : List LogPart) → is_ended l.entries ≡ b → first_open (l ∷ logs) ≡ None → IsEndedLog x limit l
      → (first_open logs ≡ None → All (IsClosedLog x limit) logs) → All (IsClosedLog x limit) (l ∷ logs)
  closed_by true l logs e none ended later =
      All-cons (IsClosedLog x limit) l logs (closed_here l e ended) (later (sym (cond-true (is_ended l.entries) (first_open logs) (Some (log_place l)) e) ∙ none))
  closed_by false l logs e none ended later =
      absurd (none-some (log_place l) (sym none ∙ cond-false (is_ended l.entries) (first_open logs) (Some (log_place l)) e))

  -- where there is none each log is closed
  pub all_closed : (logs : List LogPart) → first_open logs ≡ None → All (IsEndedLog x limit) logs → All (IsClosedLog x limit) logs
  all_closed [] none ended = All-nil (IsClosedLog x limit)
  all_closed (l ∷ logs) none ended =
      closed_by (is_ended l.entries) l logs refl none (All-head (IsEndedLog x limit) l logs ended) (λ later. all_closed logs later (All-tail (IsEndedLog x limit) l logs ended))

  first_by : (b : Bool) (l : LogPart) (logs : List LogPart) (q : Place) → is_ended l.entries ≡ b → first_open (l ∷ logs) ≡ Some q → IsEndedLog x limit l
      → (first_open logs ≡ Some q → IsFirstOpen x limit q logs) → IsFirstOpen x limit q (l ∷ logs)
  first_by true l logs q e is ended later =
      let rest = later (sym (cond-true (is_ended l.entries) (first_open logs) (Some (log_place l)) e) ∙ is) in
      record {
        before = l ∷ rest.before;
        named = rest.named;
        after = rest.after;
        split = ap (λ ls. l ∷ ls) rest.split;
        is_at = rest.is_at;
        full = rest.full;
        first = All-cons (IsClosedLog x limit) l rest.before (closed_here l e ended) rest.first;
      }
  first_by false l logs q e is ended later = record {
    before = [];
    named = l;
    after = logs;
    split = refl;
    is_at = same_Some (log_place l) q (sym (cond-false (is_ended l.entries) (first_open logs) (Some (log_place l)) e) ∙ is);
    full = full_here l e ended;
    first = All-nil (IsClosedLog x limit);
  }

  -- else it is full, and those before it are closed
  pub first_is : (logs : List LogPart) (q : Place) → first_open logs ≡ Some q → All (IsEndedLog x limit) logs → IsFirstOpen x limit q logs
  first_is [] q is ended = absurd (none-some q is)
  first_is (l ∷ logs) q is ended =
      first_by (is_ended l.entries) l logs q refl is (All-head (IsEndedLog x limit) l logs ended) (λ later. first_is logs q later (All-tail (IsEndedLog x limit) l logs ended))

  full_in : (before after : List LogPart) (named : LogPart) → IsFullLog x limit named → Any (IsFullLog x limit) (before ++ named ∷ after)
  full_in [] after named full = (0, named, omega arith, refl, full)
  full_in (l ∷ before) after named full =
      let later = full_in before after named full in
      (suc later.0, later.1, omega (arith, later.2), later.3, later.4)

  pub any_full : (logs : List LogPart) (q : Place) → IsFirstOpen x limit q logs → Any (IsFullLog x limit) logs
  any_full logs q first = subst (Any (IsFullLog x limit)) (sym first.split) (full_in first.before first.after first.named first.full)

  in_split : (P : LogPart → Type 0) (before after : List LogPart) (named : LogPart) → All P (before ++ named ∷ after) → P named
  in_split P [] after named all = All-head P named after all
  in_split P (l ∷ before) after named all = in_split P before after named (All-tail P l (before ++ named ∷ after) all)

  -- what holds of each log's place holds of its place
  pub at_first : (P : Place → Type 0) (logs : List LogPart) (q : Place) → IsFirstOpen x limit q logs → All (λ l. P (log_place l)) logs → P q
  at_first P logs q first all =
      subst P first.is_at (in_split (λ l. P (log_place l)) first.before first.after first.named (subst (All (λ l. P (log_place l))) first.split all))

-- logs that are closed, each
pub none_open : (logs : List LogPart) → All (λ l. is_ended l.entries ≡ true) logs → first_open logs ≡ None
none_open [] all = refl
none_open (l ∷ logs) all =
    cond-true (is_ended l.entries) (first_open logs) (Some (log_place l)) (All-head (λ (k : LogPart). is_ended k.entries ≡ true) l logs all)
    ∙ none_open logs (All-tail (λ (k : LogPart). is_ended k.entries ≡ true) l logs all)
