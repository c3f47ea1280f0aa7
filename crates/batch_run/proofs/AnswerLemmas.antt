-- Answers and slots as they are added and filled.
use Rattle.std.proofs.Common.{◌≡◌, ℕ, zero, suc, ◌+◌, ◌<◌, ◌⊎◌, inl, inr, List, [], ◌∷◌, ◌++◌, All, length, drop, replicate, set, refl, sym, ◌∙◌, ap, subst, arith}
use Rattle.std.specs.Prelude.{Vec, Option, Some, None, slice_get}
use Rattle.std.specs.Vec.{with_items}
use Rattle.std.proofs.lemmas.List.{length-replicate, with_items_is}
use Rattle.std.proofs.lemmas.Option.{slice_get_cases, same_Some, none-some}
use Rattle.std_lemmas.proofs.Lists.{slice_get-push}
use Rattle.batch_run.specs.declared.placed.Placed.{Placed}
use Rattle.batch_run.specs.Answers.{AreKept, EachAnswers, IsPlacedAnswer}

nil_cons : {X : Type 0} (x : X) (xs : List X) → [] ≡ x ∷ xs → ⊥
nil_cons x xs h = cc

head_is : {X : Type 0} (x y : X) (xs ys : List X) → x ∷ xs ≡ y ∷ ys → Some x ≡ Some y
head_is x y xs ys h = ap (λ l. slice_get l 0) h

-- the first of some elements that all have a fact
pub all-first : {X : Type 0} (P : X → Type 0) (xs : List X) (x : X) (rest : List X) → xs ≡ x ∷ rest → All P xs → P x
all-first {X} P xs x rest is all =
    let Q : List X → Type 0 = All P in
    let here : All P (x ∷ rest) = subst Q is all in
    let some : 0 < length (x ∷ rest) = omega arith in
    here 0 x some

-- an element of a list in which one was set
pub get-set : {X : Type 0} (xs : List X) (i : ℕ) (y : X) (k : ℕ) (x : X) → slice_get (set xs i y) k ≡ Some x → (slice_get xs k ≡ Some x) ⊎ ((k ≡ i) × (y ≡ x))
get-set [] i y k x h = inl h
get-set (z ∷ zs) zero y zero x h = inr (refl, same_Some y x h)
get-set (z ∷ zs) zero y (suc k) x h = inl h
get-set (z ∷ zs) (suc i) y zero x h = inl h
get-set (z ∷ zs) (suc i) y (suc k) x h = elim (get-set zs i y k x h) [ inl old ↦ inl old | inr new ↦ inr (ap suc new.0, new.1) ]

-- what is left of a list after n elements begins with the next one
pub drop-next : {X : Type 0} (xs : List X) (n : ℕ) (x : X) (rest : List X) → drop n xs ≡ x ∷ rest → slice_get xs n ≡ Some x
drop-next [] zero x rest h = absurd (nil_cons x rest h)
drop-next [] (suc n) x rest h = absurd (nil_cons x rest h)
drop-next (z ∷ zs) zero x rest h = head_is z x zs rest h
drop-next (z ∷ zs) (suc n) x rest h = drop-next zs n x rest h

-- and goes on with what is left after it
drop-suc : {X : Type 0} (xs : List X) (n : ℕ) (x : X) (rest : List X) → drop n xs ≡ x ∷ rest → drop (suc n) xs ≡ rest
drop-suc [] zero x rest h = absurd (nil_cons x rest h)
drop-suc [] (suc n) x rest h = absurd (nil_cons x rest h)
drop-suc (z ∷ zs) zero x rest h = ap (drop 1) h
drop-suc (z ∷ zs) (suc n) x rest h = drop-suc zs n x rest h

pub drop-more : {X : Type 0} (xs : List X) (n m : ℕ) (x : X) (rest : List X) → m ≡ n + 1 → drop n xs ≡ x ∷ rest → drop m xs ≡ rest
drop-more xs n m x rest more h =
    let here : m ≡ suc n = omega (arith, more) in
    ap (λ k. drop k xs) here ∙ drop-suc xs n x rest h

module _ {Task Answer : Type 0} (relation : Task → Answer → Type 0) (tasks : List Task) where
  -- an answer more
  pub answers-push : (answers : List Answer) (a : Answer) → EachAnswers relation tasks answers
      → ((task : Task) → slice_get tasks (length answers) ≡ Some task → relation task a) → EachAnswers relation tasks (answers ++ a ∷ [])
  answers-push answers a each new k task answer at found = elim (slice_get-push answers a k answer found) [
    | inl old ↦ each k task answer at old
    | inr last ↦
        let P : Answer → Type 0 = relation task in
        subst P last.1 (new task (ap (slice_get tasks) (sym last.0) ∙ at))
  ]

  -- an answer that was set at its place
  pub kept-set : (slots : List (Option Answer)) (p : Placed Answer) → length (set slots p.place (Some p.answer)) ≡ length slots
      → AreKept relation tasks slots → IsPlacedAnswer relation tasks p → AreKept relation tasks (set slots p.place (Some p.answer))
  kept-set slots p long kept placed = record {
    count = long ∙ kept.count;
    each = λ k task answer at found. elim (get-set slots p.place (Some p.answer) k (Some answer) found) [
      | inl old ↦ kept.each k task answer at old
      | inr new ↦
          let P : Answer → Type 0 = relation task in
          subst P (same_Some p.answer answer new.1) (placed.answered task (ap (slice_get tasks) (sym new.0) ∙ at))
    ];
  }

  -- an answer that is kept where there is none
  pub kept-first : (old new : List (Option Answer)) (p : Placed Answer) → AreKept relation tasks old → IsPlacedAnswer relation tasks p
      → ((a : Answer) → slice_get old p.place ≡ Some (Some a) → new ≡ old) → (slice_get old p.place ≡ Some None → new ≡ set old p.place (Some p.answer))
      → length new ≡ length old → AreKept relation tasks new
  kept-first old new p kept placed same fresh long = elim (slice_get_cases old p.place).1 [
    | inl here ↦ by here.0 here.2
    | inr past ↦
        let within = placed.within in
        let count = kept.count in
        let far = past.0 in
        absurd (omega arith)
  ] where
    by : (slot : Option Answer) → slice_get old p.place ≡ Some slot → AreKept relation tasks new
    by (Some a) is =
        let P : List (Option Answer) → Type 0 = AreKept relation tasks in
        subst P (sym (same a is)) kept
    by None is =
        let P : List (Option Answer) → Type 0 = AreKept relation tasks in
        let now = fresh is in
        subst P (sym now) (kept-set old p (ap length (sym now) ∙ long) kept placed)

  -- the slots of a vector after they were lent
  pub kept-back : {Z : Type 0} (v : Vec (Option Answer) Z) (new : List (Option Answer)) → AreKept relation tasks v.items → AreKept relation tasks new → AreKept relation tasks (with_items v new).items
  kept-back v new before after =
      let P : List (Option Answer) → Type 0 = AreKept relation tasks in
      subst P (sym (with_items_is v new (after.count ∙ sym before.count ∙ sym v.ok.0))) after

  -- the answer for the next place
  pub finish-step : (slots : List (Option Answer)) (answers : List Answer) (n : ℕ) (slot : Option Answer) (rest : List (Option Answer)) (a : Answer) → n ≡ length answers
      → AreKept relation tasks slots → drop n slots ≡ slot ∷ rest → EachAnswers relation tasks answers
      → ((b : Answer) → slot ≡ Some b → a ≡ b) → ((task : Task) → slot ≡ None → slice_get tasks n ≡ Some task → relation task a)
      → EachAnswers relation tasks (answers ++ a ∷ [])
  finish-step slots answers n slot rest a here kept left each same own = answers-push answers a each (λ task at. by slot refl task (ap (slice_get tasks) here ∙ at))
    where
      by : (s : Option Answer) → slot ≡ s → (task : Task) → slice_get tasks n ≡ Some task → relation task a
      by (Some b) is task at =
          let P : Answer → Type 0 = relation task in
          subst P (sym (same b is)) (kept.each n task b at (drop-next slots n slot rest left ∙ ap Some is))
      by None is task at = own task is at

-- no place has an answer
none_kept : {Answer : Type 0} (n k : ℕ) (answer : Answer) → slice_get (replicate n None) k ≡ Some (Some answer) → ⊥
none_kept {Answer} zero k answer found = none-some (Some answer) found
none_kept {Answer} (suc n) zero answer found = none-some answer (same_Some None (Some answer) found)
none_kept {Answer} (suc n) (suc k) answer found = none_kept n k answer found

pub kept-none : {Task Answer : Type 0} (relation : Task → Answer → Type 0) (tasks : List Task) (slots : List (Option Answer)) → slots ≡ replicate (length tasks) None → AreKept relation tasks slots
kept-none {Task} {Answer} relation tasks slots is = record {
  count = ap length is ∙ length-replicate (length tasks) None;
  each = λ k task answer at found. absurd (none_kept (length tasks) k answer (sym (ap (λ (l : List (Option Answer)). slice_get l k) is) ∙ found));
}
