-- A pass over edges, one edge after the other.
use Rattle.std.proofs.Common.{◌≡◌, ℕ, zero, suc, ◌+◌, ◌<◌, ◌≤◌, inl, inr, Bool, true, false, not, List, [], ◌∷◌, ◌++◌, length, drop, get_or, set, take, cond, refl, sym, ap, ◌∙◌, subst, arith}
use Rattle.std.specs.Prelude.{Contains}
use Rattle.std.proofs.lemmas.Bool.{cases_eq}
use Rattle.std.proofs.lemmas.List.{drop_more, get_or-set_other, get_or-set_same, length-set, take_more}
use Rattle.std.proofs.lemmas.List.Elements.{Contains-append_cases, Contains-append_left, Contains-append_right, Contains-push, Contains-push_cases}
use Rattle.std.proofs.lemmas.List.Sums.{sum_by-set}
use Rattle.machine_model.specs.declared.automata.Edge.{Edge}
use Rattle.machine_model.specs.Marked.{GoesAlong, IsLeft, IsNewlyMarked, IsPass, is_marked, source_of, target_of, unmarked}
use Rattle.machine_model.specs.declared.marks.Way.{Way}

never : {X : Type 0} → true ≡ false → X
never h = absurd (let e : true ≡ false = h in cc)

none_there : (e : Edge) → Contains [] e → ⊥
none_there e (k, less, is) = omega arith

-- one edge more
pub took : (edges items : List Edge) (i : ℕ) (e : Edge) → items ≡ edges → i < length items → e ≡ get_or items i e → take (i + 1) edges ≡ take i edges ++ e ∷ []
took edges items i e same h is = subst (λ xs. take (i + 1) xs ≡ take i xs ++ e ∷ []) same (take_more items i e h ∙ ap (λ y. take i items ++ y ∷ []) (sym is))

pub pass_none : (way : Way) (marks : List Bool) → IsPass way [] marks marks false
pass_none way marks = record {
  places = refl;
  keeps = λ r h. h;
  sound = λ good goes known r h. known r h;
  closed = λ _. record { along = λ e there _. absurd (none_there e there) };
  fewer = λ h. never (sym h);
  most = omega arith;
}

module _ (way : Way) (xs : List Edge) (e : Edge) (old marks new : List Bool) (grows : Bool) (before : IsPass way xs old marks grows) where
  first_edges : (good : ℕ → Bool) → GoesAlong way (xs ++ e ∷ []) good → GoesAlong way xs good
  first_edges good goes = record { along = λ x there. goes.along x (Contains-append_left xs (e ∷ []) x there) }

  module _ (inside : target_of way e < length marks) (step : IsNewlyMarked way e marks new) where
    at_target : is_marked new (target_of way e) ≡ true
    at_target = ap (λ ms. get_or ms (target_of way e) false) step.set ∙ get_or-set_same marks (target_of way e) true false inside

    at_other : (r : ℕ) → (r ≡ target_of way e → ⊥) → is_marked new r ≡ is_marked marks r
    at_other r ne = ap (λ ms. get_or ms r false) step.set ∙ get_or-set_other marks (target_of way e) r true false ne

    kept : (r : ℕ) → is_marked marks r ≡ true → is_marked new r ≡ true
    kept r h = elim (cases_eq r (target_of way e)) [
      | inl same ↦ ap (is_marked new) same ∙ at_target
      | inr ne ↦ at_other r ne ∙ h
    ]

    good_marks : (good : ℕ → Bool) → GoesAlong way (xs ++ e ∷ []) good → ((r : ℕ) → is_marked old r ≡ true → good r ≡ true) → (r : ℕ) → is_marked new r ≡ true → good r ≡ true
    good_marks good goes known r h = elim (cases_eq r (target_of way e)) [
      | inl same ↦ ap good same ∙ goes.along e (Contains-push xs e) (before.sound good (first_edges good goes) known (source_of way e) step.marked)
      | inr ne ↦ before.sound good (first_edges good goes) known r (sym (at_other r ne) ∙ h)
    ]

    one_fewer : unmarked new + 1 ≡ unmarked marks
    one_fewer =
        let sums : unmarked (set marks (target_of way e) true) + cond (not (is_marked marks (target_of way e))) 1 0 ≡ unmarked marks + 0
        = sum_by-set (λ b. cond (not b) 1 0) marks (target_of way e) true false inside in
        let same : unmarked new ≡ unmarked (set marks (target_of way e) true) = ap unmarked step.set in
        let weight : Bool → ℕ = λ b. cond (not b) 1 0 in
        let fresh : weight (is_marked marks (target_of way e)) ≡ 1 = ap weight step.fresh in
        omega (arith, sums, same, fresh)

    pub marks_more : IsPass way (xs ++ e ∷ []) old new true
    marks_more =
        let most : unmarked marks ≤ unmarked old = before.most in
        let fewer : unmarked new + 1 ≡ unmarked marks = one_fewer in
        record {
          places = ap length step.set ∙ length-set marks (target_of way e) true ∙ before.places;
          keeps = λ r h. kept r (before.keeps r h);
          sound = good_marks;
          closed = λ h. never h;
          fewer = λ _. omega (arith, most, fewer);
          most = omega (arith, most, fewer);
        }

  module _ (step : IsLeft way e marks new) where
    closed_more : grows ≡ false → GoesAlong way (xs ++ e ∷ []) (is_marked marks)
    closed_more h = record {
      along = λ x there marked. elim (Contains-push_cases xs e x there) [
        | inl earlier ↦ (before.closed h).along x earlier marked
        | inr same ↦
            let here : is_marked marks (source_of way e) ≡ true = subst (λ y. is_marked marks (source_of way y) ≡ true) (sym same) marked in
            subst (λ y. is_marked marks (target_of way y) ≡ true) same (step.along here)
      ];
    }

    left_as_it_is : IsPass way (xs ++ e ∷ []) old marks grows
    left_as_it_is = record {
      places = before.places;
      keeps = before.keeps;
      sound = λ good goes known. before.sound good (first_edges good goes) known;
      closed = closed_more;
      fewer = before.fewer;
      most = before.most;
    }

    pub leaves_marks : IsPass way (xs ++ e ∷ []) old new grows
    leaves_marks = subst (λ ms. IsPass way (xs ++ e ∷ []) old ms grows) (sym step.same) left_as_it_is

-- a pass along edges is one along the same edges in another order
pub pass_along : (way : Way) (xs ys : List Edge) (old new : List Bool) (grows : Bool) → ((e : Edge) → Contains xs e → Contains ys e) → ((e : Edge) → Contains ys e → Contains xs e)
    → IsPass way xs old new grows → IsPass way ys old new grows
pass_along way xs ys old new grows there back pass = record {
  places = pass.places;
  keeps = pass.keeps;
  sound = λ good goes known. pass.sound good (record { along = λ e h. goes.along e (there e h) }) known;
  closed = λ h. record { along = λ e in_ys. (pass.closed h).along e (back e in_ys) };
  fewer = pass.fewer;
  most = pass.most;
}

-- a pass that took what is behind an edge took the edge now
pub pass_before : (way : Way) (edges items : List Edge) (i j : ℕ) (e : Edge) (old new : List Bool) (grows : Bool) → items ≡ edges → i < length items → j ≡ i + 1 → e ≡ get_or items i e
    → IsPass way (drop j edges ++ e ∷ []) old new grows → IsPass way (drop i edges) old new grows
pass_before way edges items i j e old new grows same h next is pass =
    let whole : e ∷ drop (i + 1) edges ≡ drop i edges
    = subst (λ xs. e ∷ drop (i + 1) xs ≡ drop i xs) same (ap (λ y. y ∷ drop (i + 1) items) is ∙ sym (drop_more items i e h)) in
    subst (λ xs. IsPass way xs old new grows) whole
    (pass_along way (drop (i + 1) edges ++ e ∷ []) (e ∷ drop (i + 1) edges) old new grows
    (λ x there. elim (Contains-push_cases (drop (i + 1) edges) e x there) [
      | inl later ↦ Contains-append_right (e ∷ []) (drop (i + 1) edges) x later
      | inr here ↦ subst (Contains (e ∷ drop (i + 1) edges)) here (zero, omega arith, refl)
    ])
    (λ x there. elim (Contains-append_cases (e ∷ []) (drop (i + 1) edges) x there) [
      | inl first ↦ subst (Contains (drop (i + 1) edges ++ e ∷ [])) (only e x first) (Contains-push (drop (i + 1) edges) e)
      | inr later ↦ Contains-append_left (drop (i + 1) edges) (e ∷ []) x later
    ])
    (subst (λ k. IsPass way (drop k edges ++ e ∷ []) old new grows) next pass))
  where
    only : (e x : Edge) → Contains (e ∷ []) x → e ≡ x
    only e x (zero, less, at) = at
    only e x (suc k, less, at) = absurd (omega (arith, less))
