-- The states of a table are numbered as its rows first name them, from state 0 on.
use Rattle.std.proofs.Common.{◌≡◌, ℕ, zero, suc, ◌+◌, ◌-◌, ◌*◌, ◌/◌, ◌%◌, ◌<◌, ◌≤◌, inl, inr, List, [], ◌∷◌, length, get_or, cond, refl, sym, ap, ◌∙◌, subst, arith}
use Rattle.std.specs.Prelude.{nat_lt}
use Rattle.std.proofs.Math.Nat.{mod-lt, div-lt_iff_lt-mul, mul_comm}
use Rattle.std.proofs.lemmas.Bool.{cases_lt, cond-true, cond-false, le-ltb}
use Rattle.std.proofs.lemmas.Bool.Decides.{Decides-ltb}
use Rattle.std.proofs.lemmas.Nat.{div-add-mod', div-mul-add, mod-mul-add, mul-add-lt}
use Rattle.product_bound.specs.Numbered.{place_in, with_state}
use Rattle.product_bound.proofs.Places.{Added, Extends, Extends-refl, Extends-trans, Once-with_state, added, place_in-le}
use Rattle.product_bound.proofs.Sums.{Once, sum_below, total, total-once}

-- the state that a row leads to, where the states so far have their new numbers
abbrev pub led : (ℕ → ℕ → ℕ) → ℕ → List ℕ → ℕ → ℕ
led next w named place = next (get_or named (place / w) 0) (place % w)

-- the states that state 0 and the rows before a place name, in the order in which they name them
abbrev pub named_before : (ℕ → ℕ → ℕ) → ℕ → ℕ → List ℕ
named_before next w zero = 0 ∷ []
named_before next w (suc place) =
    cond (nat_lt (place / w) (length (named_before next w place))) (with_state (named_before next w place) (led next w (named_before next w place) place)) (named_before next w place)

-- where the renumbered table's row at a place leads: state 0 where its own state is never named
abbrev pub moved : (ℕ → ℕ → ℕ) → ℕ → List ℕ → ℕ → ℕ
moved next w named place = cond (nat_lt (place / w) (length named)) (place_in named (led next w named place)) 0

-- a row before a place leads to the state before that to which its own row leads
pub record Earlier (next : ℕ → ℕ → ℕ) (w : ℕ) (named : List ℕ) (place : ℕ) : Type 0 where
  pub at : ℕ
  pub before : at < place
  pub moves : moved next w named at ≡ moved next w named place - 1

-- these states are all that rows reach from state 0, each once, as the rows first name them
pub record IsRenumbered (next : ℕ → ℕ → ℕ) (n w : ℕ) (named : List ℕ) : Type 0 where
  pub few : length named ≤ n
  pub states : (t : ℕ) → t < length named → get_or named t 0 < n
  pub first : 0 < length named
  pub zero_first : get_or named 0 0 ≡ 0
  pub inside : (t k : ℕ) → t < length named → k < w → place_in named (next (get_or named t 0) k) < length named
  pub ordered : (place : ℕ) → place < n * w → 2 ≤ moved next w named place → Earlier next w named place

module _ (next : ℕ → ℕ → ℕ) (n w : ℕ) where
  named-more : (place : ℕ) → place / w < length (named_before next w place)
      → named_before next w (suc place) ≡ with_state (named_before next w place) (led next w (named_before next w place) place)
  named-more place h = cond-true (nat_lt (place / w) (length (named_before next w place))) _ _ ((Decides-ltb (place / w) (length (named_before next w place))).1 h)

  named-same : (place : ℕ) → length (named_before next w place) ≤ place / w → named_before next w (suc place) ≡ named_before next w place
  named-same place h = cond-false (nat_lt (place / w) (length (named_before next w place))) _ _ (le-ltb (place / w) (length (named_before next w place)) h)

  moved-named : (named : List ℕ) (place : ℕ) → place / w < length named → moved next w named place ≡ place_in named (led next w named place)
  moved-named named place h = cond-true (nat_lt (place / w) (length named)) _ _ ((Decides-ltb (place / w) (length named)).1 h)

  moved-unnamed : (named : List ℕ) (place : ℕ) → length named ≤ place / w → moved next w named place ≡ 0
  moved-unnamed named place h = cond-false (nat_lt (place / w) (length named)) _ _ (le-ltb (place / w) (length named) h)

  -- the list of named states only goes on
  goes_on : (k place : ℕ) → Extends (named_before next w place) (named_before next w (k + place))
  goes_on zero place = let e : 0 + place ≡ place = omega arith in subst (λ q. Extends (named_before next w place) (named_before next w q)) (sym e) (Extends-refl (named_before next w place))
  goes_on (suc k) place =
      let before : Extends (named_before next w place) (named_before next w (k + place)) = goes_on k place in
      let e : suc k + place ≡ suc (k + place) = omega arith in
      let one : Extends (named_before next w (k + place)) (named_before next w (suc (k + place))) = elim (cases_lt ((k + place) / w) (length (named_before next w (k + place)))) [
        | inl h ↦ subst (λ xs. Extends (named_before next w (k + place)) xs) (sym (named-more (k + place) h)) (added (named_before next w (k + place)) (led next w (named_before next w (k + place)) (k + place))).extends
        | inr h ↦ subst (λ xs. Extends (named_before next w (k + place)) xs) (sym (named-same (k + place) h)) (Extends-refl (named_before next w (k + place)))
      ] in
      subst (λ q. Extends (named_before next w place) (named_before next w q)) (sym e) (Extends-trans (named_before next w place) (named_before next w (k + place)) (named_before next w (suc (k + place))) before one)

  up_to : (place end : ℕ) → place ≤ end → Extends (named_before next w place) (named_before next w end)
  up_to place end h = let e : (end - place) + place ≡ end = omega arith in subst (λ q. Extends (named_before next w place) (named_before next w q)) e (goes_on (end - place) place)

  module _ (some : 0 < n) (wide : 0 < w) (nexts : (t k : ℕ) → t < n → k < w → next t k < n) where
    -- where state t isn't named before its rows come, it never is
    stuck : (t k place : ℕ) → t * w ≤ place → length (named_before next w place) ≤ t → length (named_before next w (k + place)) ≤ t
    stuck t zero place h short = let e : 0 + place ≡ place = omega arith in subst (λ q. length (named_before next w q) ≤ t) (sym e) short
    stuck t (suc k) place h short =
        let before : length (named_before next w (k + place)) ≤ t = stuck t k place h short in
        let e : suc k + place ≡ suc (k + place) = omega arith in
        let late : t ≤ (k + place) / w = elim (cases_lt ((k + place) / w) t) [
          | inl less ↦ absurd (let b : k + place < t * w = (div-lt_iff_lt-mul wide).0 less in omega (arith, b, h))
          | inr ge ↦ ge
        ] in
        let same : named_before next w (suc (k + place)) ≡ named_before next w (k + place) = named-same (k + place) (omega (arith, before, late)) in
        subst (λ q. length (named_before next w q) ≤ t) (sym e) (subst (λ xs. length xs ≤ t) (sym same) before)

    -- all states that are named
    pub named : List ℕ
    named = named_before next w (n * w)

    is_named : named ≡ named_before next w (n * w)
    unfolding named
    is_named = refl

    place_below : (t k : ℕ) → t < n → k < w → t * w + k < n * w
    place_below t k ht hk =
        let e : w * n ≡ n * w = mul_comm w n in
        let l : t * w + k < w * n = mul-add-lt t w k n ht hk in
        omega arith

    once_below : (xs : List ℕ) (k : ℕ) → k < length xs → Once n (λ _. 1) xs → get_or xs k 0 < n
    once_below [] k h once = absurd (omega arith)
    once_below (x ∷ xs) zero h once = once.0
    once_below (x ∷ xs) (suc k) h once = once_below xs k (omega arith) once.1.1

    -- named states are states, and all different
    all_once : (place : ℕ) → Once n (λ _. 1) (named_before next w place)
    all_once zero = (some, (λ _ (k, lt, e). omega arith, tt))
    all_once (suc place) =
        let before : Once n (λ _. 1) (named_before next w place) = all_once place in
        elim (cases_lt (place / w) (length (named_before next w place))) [
          | inr late ↦ subst (Once n (λ _. 1)) (sym (named-same place late)) before
          | inl less ↦
              let is_state : get_or (named_before next w place) (place / w) 0 < n = once_below (named_before next w place) (place / w) less before in
              let is_next : led next w (named_before next w place) place < n = nexts (get_or (named_before next w place) (place / w) 0) (place % w) is_state (mod-lt place wide) in
              subst (Once n (λ _. 1)) (sym (named-more place less)) (Once-with_state n (λ _. 1) (named_before next w place) (led next w (named_before next w place) place) before is_next)
        ]

    ones : (xs : List ℕ) → total (λ _. 1) xs ≡ length xs
    ones [] = refl
    ones (x ∷ xs) = let e : total (λ _. 1) xs ≡ length xs = ones xs in omega (arith, e)

    counts : (k : ℕ) → sum_below k (λ _. 1) ≡ k
    counts zero = refl
    counts (suc k) = let e : sum_below k (λ _. 1) ≡ k = counts k in omega (arith, e)

    named_small : length named ≤ n
    named_small =
        let once : Once n (λ _. 1) named = rw is_named (all_once (n * w)) in
        let t : total (λ _. 1) named ≤ sum_below n (λ _. 1) = total-once n (λ _. 1) named once in
        let a : total (λ _. 1) named ≡ length named = ones named in
        let b : sum_below n (λ _. 1) ≡ n = counts n in
        omega (arith, t, a, b)

    state_named : (t : ℕ) → t < length named → get_or named t 0 < n
    state_named t h = once_below named t h (rw is_named (all_once (n * w)))

    first_named : 0 < length named
    first_named =
        let e : Extends (named_before next w 0) (named_before next w (n * w)) = up_to 0 (n * w) (omega arith) in
        let more : 1 ≤ length (named_before next w (n * w)) = e.more in
        rw is_named (omega (arith, more))

    zero_named : get_or named 0 0 ≡ 0
    zero_named =
        let e : Extends (named_before next w 0) (named_before next w (n * w)) = up_to 0 (n * w) (omega arith) in
        rw is_named (e.same 0 (omega arith))

    on : (place : ℕ) → place ≤ n * w → Extends (named_before next w place) named
    on place h = rw is_named (up_to place (n * w) h)

    -- a named state is named before its rows come
    named_early : (place : ℕ) → place < n * w → place / w < length named → place / w < length (named_before next w place)
    named_early place h row = elim (cases_lt (place / w) (length (named_before next w place))) [
      | inl less ↦ less
      | inr late ↦
          let begins : place / w * w ≤ place = let e : place / w * w + place % w ≡ place = div-add-mod' place w in omega (arith, e) in
          let never : length (named_before next w ((n * w - place) + place)) ≤ place / w = stuck (place / w) (n * w - place) place begins late in
          let end : (n * w - place) + place ≡ n * w = omega arith in
          let short : length (named_before next w (n * w)) ≤ place / w = subst (λ q. length (named_before next w q) ≤ place / w) end never in
          let long : place / w < length (named_before next w (n * w)) = rw is_named at row in
          absurd (omega (arith, short, long))
    ]

    -- where a named state's row leads
    record Follows (place : ℕ) : Type 0 where
      same : led next w named place ≡ led next w (named_before next w place) place
      inside : place_in named (led next w named place) < length named
      place_is : place_in named (led next w named place) ≡ place_in (named_before next w place) (led next w (named_before next w place) place)

    follows : (place : ℕ) → place < n * w → place / w < length named → Follows place
    follows place h row =
        let here : place / w < length (named_before next w place) = named_early place h row in
        let before : Extends (named_before next w place) named = on place (omega arith) in
        let old : get_or named (place / w) 0 ≡ get_or (named_before next w place) (place / w) 0 = before.same (place / w) here in
        let s : ℕ = led next w (named_before next w place) place in
        let state : led next w named place ≡ led next w (named_before next w place) place = ap (λ x. next x (place % w)) old in
        let then : named_before next w (suc place) ≡ with_state (named_before next w place) (led next w (named_before next w place) place) = named-more place here in
        let add : Added (named_before next w place) (led next w (named_before next w place) place) (named_before next w (suc place))
        = subst (Added (named_before next w place) (led next w (named_before next w place) place)) (sym then) (added (named_before next w place) (led next w (named_before next w place) place)) in
        let after : Extends (named_before next w (suc place)) named = on (suc place) (omega arith) in
        let same : place_in named (led next w (named_before next w place) place) ≡ place_in (named_before next w (suc place)) (led next w (named_before next w place) place)
        = after.places (led next w (named_before next w place) place) add.inside in
        let more : length (named_before next w (suc place)) ≤ length named = after.more in
        let inside : place_in (named_before next w (suc place)) (led next w (named_before next w place) place) < length (named_before next w (suc place)) = add.inside in
        let within : place_in named (led next w (named_before next w place) place) < length named = omega (arith, same, more, inside) in
        record {
          same = state;
          inside = subst (λ x. place_in named x < length named) (sym state) within;
          place_is = ap (place_in named) state ∙ same ∙ add.place;
        }

    -- each state but state 0 is named by a row
    record Namer (place v : ℕ) : Type 0 where
      at : ℕ
      before : at < place
      moves : moved next w named at ≡ v

    later : (place v : ℕ) → Namer place v → Namer (suc place) v
    later place v known = record { at = known.at; before = (let b : known.at < place = known.before in omega arith); moves = known.moves }

    namer : (place v : ℕ) → place ≤ n * w → 1 ≤ v → v < length (named_before next w place) → Namer place v
    namer zero v h least most = absurd (omega arith)
    namer (suc place) v h least most =
        elim (cases_lt (place / w) (length (named_before next w place))) [
          | inr late ↦ later place v (namer place v (omega arith) least (subst (λ xs. v < length xs) (named-same place late) most))
          | inl less ↦
              let s : ℕ = led next w (named_before next w place) place in
              let add : Added (named_before next w place) (led next w (named_before next w place) place) (named_before next w (suc place))
              = subst (Added (named_before next w place) (led next w (named_before next w place) place)) (sym (named-more place less)) (added (named_before next w place) (led next w (named_before next w place) place)) in
              elim (cases_lt v (length (named_before next w place))) [
                | inl old ↦ later place v (namer place v (omega arith) least old)
                | inr new ↦ elim (cases_lt (place_in (named_before next w place) (led next w (named_before next w place) place)) (length (named_before next w place))) [
                  | inl known ↦ let same : length (named_before next w (suc place)) ≡ length (named_before next w place) = add.old known in absurd (omega (arith, same, new, most))
                  | inr fresh ↦
                      let one : length (named_before next w (suc place)) ≡ length (named_before next w place) + 1 = add.fresh fresh in
                      let most_place : place_in (named_before next w place) (led next w (named_before next w place) place) ≤ length (named_before next w place) = place_in-le (named_before next w place) (led next w (named_before next w place) place) in
                      let before : Extends (named_before next w place) named = on place (omega arith) in
                      let long : length (named_before next w place) ≤ length named = before.more in
                      let row : place / w < length named = omega (arith, less, long) in
                      let f : Follows place = follows place (omega arith) row in
                      let is : place_in named (led next w named place) ≡ place_in (named_before next w place) (led next w (named_before next w place) place) = f.place_is in
                      record { at = place; before = omega arith; moves = moved-named named place row ∙ (let e : place_in named (led next w named place) ≡ v = omega (arith, is, one, most, new, fresh, most_place) in e) }
                ]
              ]
        ]

    earlier : (place : ℕ) → place < n * w → 2 ≤ moved next w named place → Earlier next w named place
    earlier place h two = elim (cases_lt (place / w) (length named)) [
      | inr late ↦ absurd (let none : moved next w named place ≡ 0 = moved-unnamed named place late in omega (arith, none, two))
      | inl row ↦
          let f : Follows place = follows place h row in
          let is : moved next w named place ≡ place_in (named_before next w place) (led next w (named_before next w place) place) = moved-named named place row ∙ f.place_is in
          let most : place_in (named_before next w place) (led next w (named_before next w place) place) ≤ length (named_before next w place) = place_in-le (named_before next w place) (led next w (named_before next w place) place) in
          let known : Namer place (moved next w named place - 1) = namer place (moved next w named place - 1) (omega arith) (omega (arith, two)) (omega (arith, is, most, two)) in
          record { at = known.at; before = known.before; moves = known.moves }
    ]

    inside_at : (t k : ℕ) → t < length named → k < w → place_in named (next (get_or named t 0) k) < length named
    inside_at t k ht hk =
        let small : length named ≤ n = named_small in
        let below : t * w + k < n * w = place_below t k (omega (arith, ht, small)) hk in
        let d : (t * w + k) / w ≡ t = div-mul-add t w k hk in
        let r : (t * w + k) % w ≡ k = mod-mul-add t w k hk in
        let f : Follows (t * w + k) = follows (t * w + k) below (rw d ht) in
        let at : led next w named (t * w + k) ≡ next (get_or named t 0) k = λ j. next (get_or named (d j) 0) (r j) in
        subst (λ x. place_in named x < length named) at f.inside

    pub renumbered : IsRenumbered next n w named
    renumbered = record {
      few = named_small;
      states = state_named;
      first = first_named;
      zero_first = zero_named;
      inside = inside_at;
      ordered = earlier;
    }
