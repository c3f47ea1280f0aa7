-- The laws of trails.
use Rattle.std.proofs.Common.{◌≡◌, ◌≢◌, ℕ, suc, ◌<◌, ◌≤◌, Bool, true, false, cond, List, [], ◌∷◌, ◌++◌, Some, filter, nat_le, take, slice_get, length, Contains, All, refl, sym, subst, ap, arith}
use Rattle.std.specs.Prelude.{AllPairs}
use Rattle.std.proofs.lemmas.List.{take-take, length-take}
use Rattle.std.proofs.lemmas.List.Kept.{AllPairs-filter}
use Rattle.std.proofs.lemmas.Option.{slice_get_within}
use borrow.Author.Tests.{leb-true, leb-false}
use Rattle.std_lemmas.proofs.Lists.{slice_get-take, slice_get-append}
use Rattle.propositional_logic.specs.Literal.{Literal}
use Rattle.propositional_logic.proofs.Members.{filter-none}
use Rattle.refutation_log.proofs.FollowsLemmas.{clause_named-append}
use Rattle.unit_propagate.specs.declared.marks.Mark.{Mark}
use Rattle.unit_propagate.specs.Trail.{literals_of}
use Rattle.unit_propagate.specs.Sound.{IsReason, AreSoundMarks}
use Rattle.unit_propagate.specs.Watched.{IsWatching}
use Rattle.unit_propagate.specs.Laws.{EmptyTrailsBegin, LongerListsKeep, GoingBackKeepsSound}
use Rattle.unit_propagate.proofs.Places.{AllPairs-slice_get, slice_get-Contains}

pub empty_trails_begin : EmptyTrailsBegin
empty_trails_begin = record {
  sound = λ clauses. record { rising = λ i j d l h. absurd (omega arith); assumed = λ i m h. absurd (cc); reasons = λ i m n h. absurd (cc) };
  watching = λ clauses i watch h. absurd (cc);
}

IsReason-append : (clauses more : List (List Literal)) (number : ℕ) (before : List Literal) (l : Literal) → IsReason clauses number before l → IsReason (clauses ++ more) number before l
IsReason-append clauses more number before l r = record { clause = r.clause; named = clause_named-append clauses more number r.clause r.named; member = r.member; others_false = r.others_false }

pub IsSound-append : (clauses more : List (List Literal)) (marks : List Mark) → AreSoundMarks clauses marks → AreSoundMarks (clauses ++ more) marks
IsSound-append clauses more marks s = record {
  rising = s.rising;
  assumed = s.assumed;
  reasons = λ i m n at is. IsReason-append clauses more n (literals_of (take i marks)) m.lit (s.reasons i m n at is);
}

pub IsWatching-append : (clauses more : List (List Literal)) (watched : List (List Literal)) → IsWatching clauses watched → IsWatching (clauses ++ more) watched
IsWatching-append clauses more watched w i watch at = let c = w i watch at in (c.0, slice_get-append clauses more i c.0 c.1, c.2)

pub longer_lists_keep : LongerListsKeep
longer_lists_keep = record { sound = IsSound-append; watching = IsWatching-append }

-- ---- going back

-- the literals up to a level are the first ones
pub filter-first : (marks : List Mark) (level : ℕ) → AllPairs (λ m n. m.level ≤ n.level) marks → (k : ℕ) × (filter (λ m. nat_le m.level level) marks ≡ take k marks)
filter-first [] level up = (0, refl)
filter-first (x ∷ xs) level up = by (nat_le x.level level) refl (filter-first xs level rest)
  where
    rest : AllPairs (λ (m n : Mark). m.level ≤ n.level) xs
    rest i j d l h = up (suc i) (suc j) d (omega arith) (omega arith)

    first : (y : Mark) → Contains xs y → x.level ≤ y.level
    first y c = let i = slice_get-Contains xs y c in AllPairs-slice_get (λ (m n : Mark). m.level ≤ n.level) (x ∷ xs) 0 (suc i.0) x y up (omega arith) refl i.1

    by : (b : Bool) → nat_le x.level level ≡ b → ((k : ℕ) × (filter (λ m. nat_le m.level level) xs ≡ take k xs))
        → (k : ℕ) × (cond b (x ∷ filter (λ m. nat_le m.level level) xs) (filter (λ m. nat_le m.level level) xs) ≡ take k (x ∷ xs))
    by true e r = (suc r.0, ap (λ ys. x ∷ ys) r.1)
    by false e r = (0, filter-none (λ (m : Mark). nat_le m.level level) xs (λ y c. gone y (first y c) (nat_le y.level level) refl))
      where
        gone : (y : Mark) → x.level ≤ y.level → (b : Bool) → nat_le y.level level ≡ b → b ≡ false
        gone y h true f = absurd (let a : level < x.level = leb-false x.level level e in let c : y.level ≤ level = leb-true y.level level f in omega arith)
        gone y h false f = refl

IsSound-take : (clauses : List (List Literal)) (marks : List Mark) (k : ℕ) → AllPairs (λ m n. m.level ≤ n.level) (take k marks) → AreSoundMarks clauses marks → AreSoundMarks clauses (take k marks)
IsSound-take clauses marks k up s = record {
  rising = up;
  assumed = λ i m at none. let a = s.assumed i m (slice_get-take k marks i m at) none in (a.0, subst (All (λ n. n.level ≢ m.level)) (sym (front i m at)) a.1);
  reasons = λ i m n at is. subst (λ ms. IsReason clauses n (literals_of ms) m.lit) (sym (front i m at)) (s.reasons i m n (slice_get-take k marks i m at) is);
}
  where
    front : (i : ℕ) (m : Mark) → slice_get (take k marks) i ≡ Some m → take i (take k marks) ≡ take i marks
    front i m at = let lt : i < length (take k marks) = slice_get_within (take k marks) i m at in take-take i k marks (omega (arith, length-take k marks))

pub going_back_keeps_sound : GoingBackKeepsSound
going_back_keeps_sound clauses marks level s =
    let k = filter-first marks level s.rising in
    let up : AllPairs (λ m n. m.level ≤ n.level) (take k.0 marks) = subst (AllPairs (λ m n. m.level ≤ n.level)) k.1 (AllPairs-filter (λ m n. m.level ≤ n.level) (λ m. nat_le m.level level) marks s.rising) in
    subst (AreSoundMarks clauses) (sym k.1) (IsSound-take clauses marks k.0 up s)
