-- Groups of gates that depend on each other, found in one walk.
use Rattle.std.proofs.Common.{◌≡◌, ◌≢◌, ℕ, ◌+◌, ◌-◌, ◌<◌, ◌≤◌, ◌⊎◌, Bool, false, List, [], ◌∷◌, ◌++◌, length, get_or, set, refl, sym, ap, subst, ◌∙◌, arith, inl, inr}
use Rattle.std.specs.Prelude.{Contains}
use Rattle.std.specs.List.{sum_by}
use Rattle.std.proofs.lemmas.Bool.{cases_eq, cases_lt}
use Rattle.std.proofs.lemmas.List.{get_or-set_same, get_or-set_other, length-set, length_push, get_or_push, get_or_append_left, get_or_default}
use Rattle.std.proofs.lemmas.List.Sums.{sum_by-set}
use Rattle.std.proofs.lemmas.List.Elements.{Contains-push, Contains-push_cases, Contains-append_left, Contains-get_or}
use Rattle.aiger_text.specs.declared.groups.Stage.{Stage}
use Rattle.aiger_text.specs.declared.groups.Stage.TheVariants.{Done}
use Rattle.aiger_text.specs.Groups.{IsGreatest, Rises, Closes, stage_at, weight}

-- a number that a list has, by its place
pub has_at : (xs : List ℕ) (x : ℕ) (there : Contains xs x) → get_or xs there.0 0 ≡ x
has_at xs x there = get_or_default xs there.0 0 x there.1 ∙ there.2

-- == numbers that rise ==
module _ (xs : List ℕ) (x : ℕ) (rises : Rises (xs ++ x ∷ [])) where
  long : length (xs ++ x ∷ []) ≡ length xs + 1
  long = length_push xs x

  pub rises_front : Rises xs
  rises_front i k less h =
      let first : i < length xs = omega arith in
      let r : get_or (xs ++ x ∷ []) i 0 < get_or (xs ++ x ∷ []) k 0 = rises i k less (omega (arith, long, h)) in
      let a : get_or (xs ++ x ∷ []) i 0 ≡ get_or xs i 0 = get_or_append_left xs (x ∷ []) 0 i first in
      let b : get_or (xs ++ x ∷ []) k 0 ≡ get_or xs k 0 = get_or_append_left xs (x ∷ []) 0 k h in
      omega (arith, r, a, b)

  pub rises_last : (y : ℕ) → Contains xs y → y < x
  rises_last y there =
      let inside : there.0 < length xs = there.1 in
      let r : get_or (xs ++ x ∷ []) there.0 0 < get_or (xs ++ x ∷ []) (length xs) 0 = rises there.0 (length xs) inside (omega (arith, long)) in
      let a : get_or (xs ++ x ∷ []) there.0 0 ≡ get_or xs there.0 0 = get_or_append_left xs (x ∷ []) 0 there.0 inside in
      let b : get_or (xs ++ x ∷ []) (length xs) 0 ≡ x = get_or_push xs x 0 (length xs) refl in
      omega (arith, r, a, b, has_at xs y there)

  pub greatest : IsGreatest (xs ++ x ∷ []) x
  greatest = record {
    there = Contains-push xs x;
    most = λ y there. elim (Contains-push_cases xs x y there) [
      | inl before ↦ let less : y < x = rises_last y before in omega arith
      | inr here ↦ omega (arith, here)
    ];
  }

pub rises_push : (xs : List ℕ) (x : ℕ) → Rises xs → ((y : ℕ) → Contains xs y → y < x) → Rises (xs ++ x ∷ [])
rises_push xs x rises below i k less h =
    let n : length (xs ++ x ∷ []) ≡ length xs + 1 = length_push xs x in
    elim (cases_lt k (length xs)) [
      | inl before ↦
          let first : i < length xs = omega arith in
          rw (get_or_append_left xs (x ∷ []) 0 i first, get_or_append_left xs (x ∷ []) 0 k before) (rises i k less before)
      | inr last ↦
          let e : length xs ≡ k = omega (arith, n) in
          let first : i < length xs = omega (arith, e) in
          rw (get_or_append_left xs (x ∷ []) 0 i first, get_or_push xs x 0 k e) (below (get_or xs i 0) (Contains-get_or xs i 0 first))
    ]

-- the last element of what isn't empty
pub split_last : (xs ys : List ℕ) (x y : ℕ) → xs ≡ ys ++ y ∷ [] → get_or xs (length xs - 1) 0 ≡ x → y ≡ x
split_last xs ys x y e last =
    let n : length ys ≡ length (ys ++ y ∷ []) - 1 = omega (arith, length_push ys y) in
    sym (get_or_push ys y 0 (length (ys ++ y ∷ []) - 1) n) ∙ ap (λ (l : List ℕ). get_or l (length l - 1) 0) (sym e) ∙ last

-- starts that are cut
pub record CutsSoFar (old new : List ℕ) (most : ℕ) : Type 0 where
  pub from_old : (x : ℕ) → Contains new x → Contains old x
  pub stay : (x : ℕ) → Contains old x → x ≤ most → Contains new x
  pub rises : Rises new
  pub fewer : (length new < length old) ⊎ (new ≡ old)

pub cut_none : (old : List ℕ) (most : ℕ) → Rises old → CutsSoFar old old most
cut_none old most rises = record { from_old = λ x h. h; stay = λ x h le. h; rises = rises; fewer = inr refl }

pub cut_one : (old now new : List ℕ) (most x : ℕ) → now ≡ new ++ x ∷ [] → most < x → CutsSoFar old now most → CutsSoFar old new most
cut_one old now new most x e above so =
    let before : CutsSoFar old (new ++ x ∷ []) most = subst (λ (l : List ℕ). CutsSoFar old l most) e so in
    record {
      from_old = λ y h. before.from_old y (Contains-append_left new (x ∷ []) y h);
      stay = λ y h le. elim (Contains-push_cases new x y (before.stay y h le)) [
        | inl there ↦ there
        | inr here ↦ absurd (omega (arith, here))
      ];
      rises = rises_front new x before.rises;
      fewer =
          let n : length (new ++ x ∷ []) ≡ length new + 1 = length_push new x in
          elim before.fewer [
            | inl less ↦ inl (omega (arith, n, less))
            | inr same ↦ inl (omega (arith, n, ap length same))
          ];
    }

pub last_greatest : (xs : List ℕ) (x : ℕ) → 0 < length xs → get_or xs (length xs - 1) 0 ≡ x → Rises xs → IsGreatest xs x
last_greatest xs x some is rises = record {
  there = subst (Contains xs) is (Contains-get_or xs (length xs - 1) 0 (omega arith));
  most = λ y there.
      let named : get_or xs there.0 0 ≡ y = has_at xs y there in
      let inside : there.0 < length xs = there.1 in
      elim (cases_lt there.0 (length xs - 1)) [
        | inl before ↦
            let r : get_or xs there.0 0 < get_or xs (length xs - 1) 0 = rises there.0 (length xs - 1) before (omega arith) in
            omega (arith, named, r, is)
        | inr here ↦
            let e : there.0 ≡ length xs - 1 = omega arith in
            let same : get_or xs there.0 0 ≡ x = ap (λ i. get_or xs i 0) e ∙ is in
            omega (arith, named, same)
      ];
}

-- == gates that are done ==
pub closes_none : (stages : List Stage) (opened : List ℕ) (from : ℕ) (on : Bool) → Closes stages stages opened from from on
closes_none stages opened from on = record { places = refl; done = λ i le less. absurd (omega arith); kept = λ k other. refl; sum = omega arith }

pub closes_more : (old new : List Stage) (opened : List ℕ) (from i : ℕ) (on : Bool) → from ≤ i → get_or opened i 0 < length new → Closes old new opened from i on
    → Closes old (set new (get_or opened i 0) (Done on)) opened from (i + 1) on
closes_more old new opened from i on start room so =
    let sum : sum_by weight (set new (get_or opened i 0) (Done on)) + weight (get_or new (get_or opened i 0) (Done false)) ≡ sum_by weight new + 0 =
    sum_by-set weight new (get_or opened i 0) (Done on) (Done false) room in
    let before : sum_by weight new ≤ sum_by weight old = so.sum in
    record {
      places = length-set new (get_or opened i 0) (Done on) ∙ so.places;
      done = λ k le less. elim (cases_eq (get_or opened k 0) (get_or opened i 0)) [
        | inl here ↦ ap (stage_at (set new (get_or opened i 0) (Done on))) here ∙ get_or-set_same new (get_or opened i 0) (Done on) (Done false) room
        | inr other ↦
            get_or-set_other new (get_or opened i 0) (get_or opened k 0) (Done on) (Done false) other
            ∙ so.done k le (let apart : k ≢ i = λ e. other (ap (λ j. get_or opened j 0) e) in let less' : k < i = omega (arith, less, apart) in less')
      ];
      kept = λ k other.
          get_or-set_other new (get_or opened i 0) k (Done on) (Done false) (λ e. other i start (omega arith) (sym e))
          ∙ so.kept k (λ j le less. other j le (omega arith));
      sum = omega (arith, sum, before);
    }

pub closes_end : (old new : List Stage) (opened : List ℕ) (from i to : ℕ) (on : Bool) → to ≤ i → Closes old new opened from i on → i ≤ to → Closes old new opened from to on
closes_end old new opened from i to on ge so le = let e : i ≡ to = omega arith in subst (λ (n : ℕ). Closes old new opened from n on) e so
