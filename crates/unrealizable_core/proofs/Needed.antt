-- What is needed was answered false over the numbers that are kept now, so in the end over those that are kept then.
use Rattle.std.proofs.Common.{◌≡◌, ℕ, ◌+◌, ◌-◌, ◌≤◌, Bool, true, false, inl, inr, List, [], ◌∷◌, ◌++◌, length, get_or, set, Option, None, Some, refl, sym, ap, subst, ◌∙◌, append_assoc, arith}
use Rattle.std.specs.Prelude.{Contains, option_map, position}
use Rattle.std.proofs.Math.Seq.{map-set_same}
use Rattle.std.proofs.lemmas.Bool.{cases_eq}
use Rattle.std.proofs.lemmas.List.{append-nil, get_or-set_other, length-set}
use Rattle.std.proofs.lemmas.List.Elements.{Contains-append_left, Contains-append_right}
use Rattle.std.proofs.lemmas.List.Quantifiers.{position-Some}
use Rattle.unrealizable_core.specs.declared.shrink.Standing.{Standing}
use Rattle.unrealizable_core.specs.declared.shrink.Standing.TheVariants.{Open, Needed, Dropped}
use Rattle.unrealizable_core.specs.Shrink.{IsNeeded, all_kept, answered, is_open, told_about}
use Rattle.unrealizable_core.specs.Laws.{Answer, KeptAreNeeded, after, answer_before, answers_from, is_kept, kept_in}
use Rattle.unrealizable_core.proofs.Standings.{all_needed, none_asked, opened, reopened_needs_none, none_needed}

abbrev false_answer : List Standing → ℕ → Answer
false_answer s n = record { kept = kept_in s; number = n; defeat = false }

-- each number that is needed has its answer among these
record AreAnswered (s : List Standing) (answers : List Answer) : Type 0 where
  answer_of : (n : ℕ) → IsNeeded s n → Contains answers (false_answer s n)

module _ (s : List Standing) (place : ℕ) (found : position is_open s ≡ Some place) (answers : List Answer) (so_far : AreAnswered s answers) where
  abbrev one_needed : List Standing
  one_needed = set s place Needed

  here : get_or s place Dropped ≡ Open
  here = opened (get_or s place Dropped) (position-Some is_open s place Dropped found).1

  same_kept : kept_in one_needed ≡ kept_in s
  same_kept = map-set_same is_kept s place Needed Dropped (ap is_kept (sym here))

  needed_now : (n : ℕ) → IsNeeded one_needed n → Contains (answers ++ false_answer s (place + 1) ∷ []) (false_answer s n)
  needed_now n is =
      let some : 1 ≤ n = is.first in
      let long : length one_needed ≡ length s = length-set s place Needed in
      let last : n ≤ length one_needed = is.last in
      elim (cases_eq (n - 1) place) [
        | inl same ↦
            let e : place + 1 ≡ n = omega arith in
            Contains-append_right answers (false_answer s (place + 1) ∷ []) (false_answer s n) (0, omega arith, ap (false_answer s) e)
        | inr other ↦
            let before : IsNeeded s n = record { first = is.first; last = omega arith; needed = sym (get_or-set_other s place (n - 1) Needed Dropped other) ∙ is.needed } in
            Contains-append_left answers (false_answer s (place + 1) ∷ []) (false_answer s n) (so_far.answer_of n before)
      ]

  answered_needed : AreAnswered one_needed (answers ++ false_answer s (place + 1) ∷ [])
  answered_needed = record {
    answer_of = λ n is. subst (λ kept. Contains (answers ++ false_answer s (place + 1) ∷ []) (let a : Answer = record { kept = kept; number = n; defeat = false } in a)) (sym same_kept) (needed_now n is);
  }

step : (s : List Standing) (defeat : Bool) (more : List Bool) (answers : List Answer) (o : Option ℕ) → position is_open s ≡ o → AreAnswered s answers
    → ((t : List Standing) (answers : List Answer) → AreAnswered t answers → AreAnswered (after t more) (answers ++ answers_from t more))
    → (let t = told_about (option_map (λ place. place + 1) o) defeat s in AreAnswered (after t more) (answers ++ answer_before (option_map (λ place. place + 1) o) s defeat (answers_from t more)))
step s defeat more answers None found so_far later = later s answers so_far
step s true more answers (Some place) found so_far later =
    let t : List Standing = answered true (place + 1) s in
    let one : Answer = record { kept = kept_in s; number = place + 1; defeat = true } in
    let all = later t (answers ++ one ∷ []) (record { answer_of = λ n is. absurd (reopened_needs_none (set s (place + 1 - 1) Dropped) n is) }) in
    subst (AreAnswered (after t more)) (append_assoc answers (one ∷ []) (answers_from t more)) all
step s false more answers (Some place) found so_far later =
    let same : place + 1 - 1 ≡ place = omega arith in
    let t : List Standing = answered false (place + 1) s in
    let one : Answer = record { kept = kept_in s; number = place + 1; defeat = false } in
    let now : AreAnswered t (answers ++ one ∷ []) = subst (λ i. AreAnswered (set s i Needed) (answers ++ one ∷ [])) (sym same) (answered_needed s place found answers so_far) in
    subst (AreAnswered (after t more)) (append_assoc answers (one ∷ []) (answers_from t more)) (later t (answers ++ one ∷ []) now)

always_answered : (s : List Standing) (more : List Bool) (answers : List Answer) → AreAnswered s answers → AreAnswered (after s more) (answers ++ answers_from s more)
always_answered s [] answers so_far = subst (AreAnswered s) (sym (append-nil answers)) so_far
always_answered s (defeat ∷ more) answers so_far = step s defeat more answers (position is_open s) refl so_far (λ t later. always_answered t more later)

pub kept_are_needed : KeptAreNeeded
kept_are_needed count answers n none kept =
    let s = after (all_kept count) answers in
    let all = always_answered (all_kept count) answers [] (record { answer_of = λ m is. absurd (none_needed count m is) }) in
    all.answer_of n (all_needed s (none_asked s none) n kept)
