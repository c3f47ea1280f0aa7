-- The numbered form of a machine.
use Rattle.std.proofs.Common.{◌≡◌, ℕ, zero, suc, ◌+◌, ◌-◌, ◌*◌, ◌/◌, ◌%◌, ◌^◌, ◌<◌, ◌≤◌, inl, inr, max, List, [], ◌∷◌, ◌++◌, length, map, take, get_or, refl, sym, ap, ◌∙◌, subst, arith, slice_index}
use Rattle.std.specs.Prelude.{nat_lt}
use Rattle.std.specs.List.{range_with_len}
use Rattle.std.proofs.Math.Nat.{mod-lt, div-lt_iff_lt-mul, mul_comm}
use Rattle.std.proofs.lemmas.Bool.{cases_eq, cases_lt, cond-true, cond-false, le-ltb}
use Rattle.std.proofs.lemmas.Bool.Decides.{Decides-ltb}
use Rattle.std.proofs.lemmas.List.{get_or-map, get_or_default, length-map, nil_from_length}
use Rattle.std.proofs.lemmas.List.FromFn.{get_or-map-range_with_len, length-map-range_with_len, map-range_with_len_more, take-map-range_with_len}
use Rattle.std.proofs.lemmas.Nat.{div-mul-add, mod-mul-add, mul-add-lt, pow_pos}
use Rattle.letters_and_lassos.specs.Word.{Word, lasso_len, next, letter_at}
use Rattle.letters_and_lassos.specs.declared.kinds.Side.{Side}
use Rattle.letters_and_lassos.specs.declared.kinds.Side.TheVariants.{Environment, System}
use Rattle.letters_and_lassos.specs.declared.letters.Letter.{Letter}
use Rattle.letters_and_lassos.proofs.Positions.{next-inner, next_within}
use Rattle.machine_model.specs.Machine.{IsMachine, MachineModel, next_of, row_of, size_of, writes_of}
use Rattle.machine_model.specs.Run.{IsRunLasso, read_part, written_part}
use Rattle.machine_model.specs.declared.machines.Row.{Row}
use Rattle.product_bound.specs.Laws.{IsNumberedForm}
use Rattle.product_bound.specs.Numbered.{IsNumbered, greatest_next, named_before, numbered_of, numbered_row, place_in, with_state}
use Rattle.product_bound.proofs.Places.{Added, Extends, Extends-refl, Extends-trans, Once-with_state, added, at_place, place_in-first, place_in-le}
use Rattle.product_bound.proofs.Sums.{Once, sum_below, total, total-once}

-- a row of a state that is named, and one of a state that isn't
row-named : (m : MachineModel) (place : ℕ) → place / 2 ^ m.reads < length (named_before m place)
    → numbered_row m place ≡ record {
      next = place_in (named_before m place) (next_of m (slice_index (named_before m place) (place / 2 ^ m.reads)) (place % 2 ^ m.reads));
      writes = writes_of m (slice_index (named_before m place) (place / 2 ^ m.reads)) (place % 2 ^ m.reads);
    }
row-named m place h = cond-true (nat_lt (place / 2 ^ m.reads) (length (named_before m place))) _ _ ((Decides-ltb (place / 2 ^ m.reads) (length (named_before m place))).1 h)

row-unnamed : (m : MachineModel) (place : ℕ) → length (named_before m place) ≤ place / 2 ^ m.reads → numbered_row m place ≡ record { next = 0; writes = 0 }
row-unnamed m place h = cond-false (nat_lt (place / 2 ^ m.reads) (length (named_before m place))) _ _ (le-ltb (place / 2 ^ m.reads) (length (named_before m place)) h)

named-more : (m : MachineModel) (place : ℕ) → place / 2 ^ m.reads < length (named_before m place)
    → named_before m (suc place) ≡ with_state (named_before m place) (next_of m (slice_index (named_before m place) (place / 2 ^ m.reads)) (place % 2 ^ m.reads))
named-more m place h = cond-true (nat_lt (place / 2 ^ m.reads) (length (named_before m place))) _ _ ((Decides-ltb (place / 2 ^ m.reads) (length (named_before m place))).1 h)

named-same : (m : MachineModel) (place : ℕ) → length (named_before m place) ≤ place / 2 ^ m.reads → named_before m (suc place) ≡ named_before m place
named-same m place h = cond-false (nat_lt (place / 2 ^ m.reads) (length (named_before m place))) _ _ (le-ltb (place / 2 ^ m.reads) (length (named_before m place)) h)

-- the same at a place whose state and letter are known
row-at : (m : MachineModel) (place t i : ℕ) → place / 2 ^ m.reads ≡ t → place % 2 ^ m.reads ≡ i → t < length (named_before m place)
    → numbered_row m place ≡ record {
      next = place_in (named_before m place) (next_of m (slice_index (named_before m place) t) i);
      writes = writes_of m (slice_index (named_before m place) t) i;
    }
row-at m place t i d r h =
    row-named m place (rw d h)
    ∙ (λ k. record {
      next = place_in (named_before m place) (next_of m (slice_index (named_before m place) (d k)) (r k));
      writes = writes_of m (slice_index (named_before m place) (d k)) (r k);
    })

named-at : (m : MachineModel) (place t i : ℕ) → place / 2 ^ m.reads ≡ t → place % 2 ^ m.reads ≡ i → t < length (named_before m place)
    → named_before m (suc place) ≡ with_state (named_before m place) (next_of m (slice_index (named_before m place) t) i)
named-at m place t i d r h = named-more m place (rw d h) ∙ (λ k. with_state (named_before m place) (next_of m (slice_index (named_before m place) (d k)) (r k)))

-- the parts of a letter are the same for both machines
read_same : (m : MachineModel) (side : Side) (letter : Letter) → read_part side (numbered_of m) letter ≡ read_part side m letter
read_same m System letter = refl
read_same m Environment letter = refl

written_same : (m : MachineModel) (side : Side) (letter : Letter) → written_part side (numbered_of m) letter ≡ written_part side m letter
written_same m System letter = refl
written_same m Environment letter = refl

-- the list of named states only goes on
goes_on : (m : MachineModel) (k place : ℕ) → Extends (named_before m place) (named_before m (k + place))
goes_on m zero place = let e : 0 + place ≡ place = omega arith in subst (λ q. Extends (named_before m place) (named_before m q)) (sym e) (Extends-refl (named_before m place))
goes_on m (suc k) place =
    let before : Extends (named_before m place) (named_before m (k + place)) = goes_on m k place in
    let e : suc k + place ≡ suc (k + place) = omega arith in
    let one : Extends (named_before m (k + place)) (named_before m (suc (k + place))) = elim (cases_lt ((k + place) / 2 ^ m.reads) (length (named_before m (k + place)))) [
      | inl h ↦ subst (λ xs. Extends (named_before m (k + place)) xs) (sym (named-more m (k + place) h)) (added (named_before m (k + place)) (next_of m (slice_index (named_before m (k + place)) ((k + place) / 2 ^ m.reads)) ((k + place) % 2 ^ m.reads))).extends
      | inr h ↦ subst (λ xs. Extends (named_before m (k + place)) xs) (sym (named-same m (k + place) h)) (Extends-refl (named_before m (k + place)))
    ] in
    subst (λ q. Extends (named_before m place) (named_before m q)) (sym e) (Extends-trans (named_before m place) (named_before m (k + place)) (named_before m (suc (k + place))) before one)

up_to : (m : MachineModel) (place end : ℕ) → place ≤ end → Extends (named_before m place) (named_before m end)
up_to m place end h = let e : (end - place) + place ≡ end = omega arith in subst (λ q. Extends (named_before m place) (named_before m q)) e (goes_on m (end - place) place)

-- where state t isn't named before its rows come, it never is
stuck : (m : MachineModel) (t k place : ℕ) → t * 2 ^ m.reads ≤ place → length (named_before m place) ≤ t → length (named_before m (k + place)) ≤ t
stuck m t zero place h short = let e : 0 + place ≡ place = omega arith in subst (λ q. length (named_before m q) ≤ t) (sym e) short
stuck m t (suc k) place h short =
    let before : length (named_before m (k + place)) ≤ t = stuck m t k place h short in
    let e : suc k + place ≡ suc (k + place) = omega arith in
    let pos : 0 < 2 ^ m.reads = pow_pos m.reads in
    let late : t ≤ (k + place) / 2 ^ m.reads = elim (cases_lt ((k + place) / 2 ^ m.reads) t) [
      | inl less ↦ absurd (let b : k + place < t * 2 ^ m.reads = (div-lt_iff_lt-mul pos).0 less in omega (arith, b, h))
      | inr ge ↦ ge
    ] in
    let same : named_before m (suc (k + place)) ≡ named_before m (k + place) = named-same m (k + place) (omega (arith, before, late)) in
    subst (λ q. length (named_before m q) ≤ t) (sym e) (subst (λ xs. length xs ≤ t) (sym same) before)

module _ (m : MachineModel) (machine : IsMachine m) where
  -- all states that are named
  named : List ℕ
  named = named_before m (length m.table)

  is_named : named ≡ named_before m (length m.table)
  unfolding named
  is_named = refl

  size_some : 0 < size_of m
  size_some =
      elim (cases_eq (size_of m) 0) [
        | inl none ↦
            let w : length m.table ≡ size_of m * 2 ^ m.reads = machine.shape.whole in
            let z : size_of m * 2 ^ m.reads ≡ 0 = ap (λ n. n * 2 ^ m.reads) none ∙ (let e : 0 * 2 ^ m.reads ≡ 0 = omega arith in e) in
            absurd (machine.shape.some (nil_from_length m.table (w ∙ z)))
        | inr ne ↦ omega (arith, ne)
      ]

  place_below : (t i : ℕ) → t < size_of m → i < 2 ^ m.reads → t * 2 ^ m.reads + i < length m.table
  place_below t i ht hi =
      let w : length m.table ≡ size_of m * 2 ^ m.reads = machine.shape.whole in
      let e : 2 ^ m.reads * size_of m ≡ size_of m * 2 ^ m.reads = mul_comm (2 ^ m.reads) (size_of m) in
      let l : t * 2 ^ m.reads + i < 2 ^ m.reads * size_of m = mul-add-lt t (2 ^ m.reads) i (size_of m) ht hi in
      omega arith

  div_is : (t i : ℕ) → i < 2 ^ m.reads → (t * 2 ^ m.reads + i) / 2 ^ m.reads ≡ t
  div_is t i hi = div-mul-add t (2 ^ m.reads) i hi

  mod_is : (t i : ℕ) → i < 2 ^ m.reads → (t * 2 ^ m.reads + i) % 2 ^ m.reads ≡ i
  mod_is t i hi = mod-mul-add t (2 ^ m.reads) i hi

  -- the new row of a state and a letter
  row_is : (t i : ℕ) → t < size_of m → i < 2 ^ m.reads → row_of (numbered_of m) t i ≡ numbered_row m (t * 2 ^ m.reads + i)
  row_is t i ht hi = get_or-map-range_with_len (numbered_row m) 0 (length m.table) (t * 2 ^ m.reads + i) (t * 2 ^ m.reads + i) (record { next = 0; writes = 0 }) (place_below t i ht hi) (omega arith)

  -- named states are states, and all different
  all_once : (place : ℕ) → place ≤ length m.table → Once (size_of m) (λ _. 1) (named_before m place)
  all_once zero h = (size_some, (λ _ (k, lt, e). omega arith, tt))
  all_once (suc place) h =
      let before : Once (size_of m) (λ _. 1) (named_before m place) = all_once place (omega arith) in
      elim (cases_lt (place / 2 ^ m.reads) (length (named_before m place))) [
        | inr late ↦ subst (Once (size_of m) (λ _. 1)) (sym (named-same m place late)) before
        | inl less ↦
            let old : ℕ = slice_index (named_before m place) (place / 2 ^ m.reads) in
            let is_state : old < size_of m = once_below (size_of m) (named_before m place) (place / 2 ^ m.reads) less before in
            let is_next : next_of m old (place % 2 ^ m.reads) < size_of m = machine.nexts old (place % 2 ^ m.reads) is_state (mod-lt place (pow_pos m.reads)) in
            subst (Once (size_of m) (λ _. 1)) (sym (named-more m place less)) (Once-with_state (size_of m) (λ _. 1) (named_before m place) (next_of m old (place % 2 ^ m.reads)) before is_next)
      ]
    where
      once_below : (n : ℕ) (xs : List ℕ) (k : ℕ) → k < length xs → Once n (λ _. 1) xs → get_or xs k 0 < n
      once_below n [] k h once = absurd (omega arith)
      once_below n (x ∷ xs) zero h once = once.0
      once_below n (x ∷ xs) (suc k) h once = once_below n xs k (omega arith) once.1.1

  named_small : length named ≤ size_of m
  named_small =
      let once : Once (size_of m) (λ _. 1) named = rw is_named (all_once (length m.table) (omega arith)) in
      let t : total (λ _. 1) named ≤ sum_below (size_of m) (λ _. 1) = total-once (size_of m) (λ _. 1) named once in
      let a : total (λ _. 1) named ≡ length named = ones named in
      let b : sum_below (size_of m) (λ _. 1) ≡ size_of m = counts (size_of m) in
      omega (arith, t, a, b)
    where
      ones : (xs : List ℕ) → total (λ _. 1) xs ≡ length xs
      ones [] = refl
      ones (x ∷ xs) = let e : total (λ _. 1) xs ≡ length xs = ones xs in omega (arith, e)

      counts : (n : ℕ) → sum_below n (λ _. 1) ≡ n
      counts zero = refl
      counts (suc n) = let e : sum_below n (λ _. 1) ≡ n = counts n in omega (arith, e)

  state_named : (t : ℕ) → t < length named → get_or named t 0 < size_of m
  state_named t h = below (size_of m) named t h (rw is_named (all_once (length m.table) (omega arith)))
    where
      below : (n : ℕ) (xs : List ℕ) (k : ℕ) → k < length xs → Once n (λ _. 1) xs → get_or xs k 0 < n
      below n [] k h once = absurd (omega arith)
      below n (x ∷ xs) zero h once = once.0
      below n (x ∷ xs) (suc k) h once = below n xs k (omega arith) once.1.1

  first_named : 0 < length named
  first_named =
      let e : Extends (named_before m 0) (named_before m (length m.table)) = up_to m 0 (length m.table) (omega arith) in
      let more : 1 ≤ length (named_before m (length m.table)) = e.more in
      rw is_named (omega (arith, more))

  zero_first : get_or named 0 0 ≡ 0
  zero_first =
      let e : Extends (named_before m 0) (named_before m (length m.table)) = up_to m 0 (length m.table) (omega arith) in
      rw is_named (e.same 0 (omega arith))

  -- what the new machine does in a named state
  record Follows (t i : ℕ) : Type 0 where
    moves : next_of (numbered_of m) t i ≡ place_in named (next_of m (get_or named t 0) i)
    inside : place_in named (next_of m (get_or named t 0) i) < length named
    writes : writes_of (numbered_of m) t i ≡ writes_of m (get_or named t 0) i

  follows : (t i : ℕ) → t < length named → i < 2 ^ m.reads → Follows t i
  follows t i ht hi =
      let small : length named ≤ size_of m = named_small in
      let place : ℕ = t * 2 ^ m.reads + i in
      let below : t * 2 ^ m.reads + i < length m.table = place_below t i (omega (arith, ht, small)) hi in
      let d : (t * 2 ^ m.reads + i) / 2 ^ m.reads ≡ t = div_is t i hi in
      let r : (t * 2 ^ m.reads + i) % 2 ^ m.reads ≡ i = mod_is t i hi in
      let here : t < length (named_before m (t * 2 ^ m.reads + i)) = elim (cases_lt t (length (named_before m (t * 2 ^ m.reads + i)))) [
        | inl less ↦ less
        | inr late ↦
            let never : length (named_before m ((length m.table - (t * 2 ^ m.reads + i)) + (t * 2 ^ m.reads + i))) ≤ t = stuck m t (length m.table - (t * 2 ^ m.reads + i)) (t * 2 ^ m.reads + i) (omega arith) late in
            let end : (length m.table - (t * 2 ^ m.reads + i)) + (t * 2 ^ m.reads + i) ≡ length m.table = omega arith in
            let short : length (named_before m (length m.table)) ≤ t = subst (λ q. length (named_before m q) ≤ t) end never in
            let long : t < length (named_before m (length m.table)) = rw is_named at ht in
            absurd (omega (arith, short, long))
      ] in
      let on : Extends (named_before m (t * 2 ^ m.reads + i)) named = rw is_named (up_to m (t * 2 ^ m.reads + i) (length m.table) (omega arith)) in
      let old : get_or named t 0 ≡ get_or (named_before m (t * 2 ^ m.reads + i)) t 0 = on.same t here in
      let s : ℕ = next_of m (get_or (named_before m (t * 2 ^ m.reads + i)) t 0) i in
      let row : numbered_row m (t * 2 ^ m.reads + i) ≡ record { next = place_in (named_before m (t * 2 ^ m.reads + i)) s; writes = writes_of m (get_or (named_before m (t * 2 ^ m.reads + i)) t 0) i }
      = row-at m (t * 2 ^ m.reads + i) t i d r here in
      let then : named_before m (suc (t * 2 ^ m.reads + i)) ≡ with_state (named_before m (t * 2 ^ m.reads + i)) s = named-at m (t * 2 ^ m.reads + i) t i d r here in
      let add : Added (named_before m (t * 2 ^ m.reads + i)) s (named_before m (suc (t * 2 ^ m.reads + i))) = subst (Added (named_before m (t * 2 ^ m.reads + i)) s) (sym then) (added (named_before m (t * 2 ^ m.reads + i)) s) in
      let after : Extends (named_before m (suc (t * 2 ^ m.reads + i))) named = rw is_named (up_to m (suc (t * 2 ^ m.reads + i)) (length m.table) (omega arith)) in
      let same : place_in named s ≡ place_in (named_before m (suc (t * 2 ^ m.reads + i))) s = after.places s add.inside in
      let state : s ≡ next_of m (get_or named t 0) i = ap (λ x. next_of m x i) (sym old) in
      let more : length (named_before m (suc (t * 2 ^ m.reads + i))) ≤ length named = after.more in
      let inside : place_in (named_before m (suc (t * 2 ^ m.reads + i))) s < length (named_before m (suc (t * 2 ^ m.reads + i))) = add.inside in
      let within : place_in named s < length named = omega (arith, same, more, inside) in
      let is : row_of (numbered_of m) t i ≡ numbered_row m (t * 2 ^ m.reads + i) = row_is t i (omega (arith, ht, small)) hi in
      record {
        moves = ap (λ x. x.next) (is ∙ row) ∙ sym add.place ∙ sym same ∙ ap (place_in named) state;
        inside = subst (λ x. place_in named x < length named) state within;
        writes = ap (λ x. x.writes) (is ∙ row) ∙ ap (λ x. writes_of m x i) (sym old);
      }

  -- what it does in a state that is never named
  idles : (t i : ℕ) → length named ≤ t → t < size_of m → i < 2 ^ m.reads → row_of (numbered_of m) t i ≡ record { next = 0; writes = 0 }
  idles t i late ht hi =
      let below : t * 2 ^ m.reads + i < length m.table = place_below t i ht hi in
      let on : Extends (named_before m (t * 2 ^ m.reads + i)) named = rw is_named (up_to m (t * 2 ^ m.reads + i) (length m.table) (omega arith)) in
      let more : length (named_before m (t * 2 ^ m.reads + i)) ≤ length named = on.more in
      let d : (t * 2 ^ m.reads + i) / 2 ^ m.reads ≡ t = div_is t i hi in
      row_is t i ht hi ∙ row-unnamed m (t * 2 ^ m.reads + i) (rw d (omega (arith, more, late)))

  same_length : length (numbered_of m).table ≡ length m.table
  same_length = length-map-range_with_len (numbered_row m) 0 (length m.table)

  same_size : size_of (numbered_of m) ≡ size_of m
  same_size = ap (λ n. n / 2 ^ m.reads) same_length

  new_machine : IsMachine (numbered_of m)
  new_machine = record {
    shape = record {
      some = λ none. machine.shape.some (nil_from_length m.table (sym same_length ∙ ap length none));
      whole = same_length ∙ machine.shape.whole ∙ ap (λ n. n * 2 ^ m.reads) (sym same_size);
    };
    nexts = λ t i ht hi.
        let t_small : t < size_of m = rw same_size at ht in
        let small : length named ≤ size_of m = named_small in
        rw same_size (elim (cases_lt t (length named)) [
          | inl there ↦
              let f : Follows t i = follows t i there hi in
              let inside : place_in named (next_of m (get_or named t 0) i) < length named = f.inside in
              rw f.moves (omega (arith, inside, small))
          | inr late ↦ rw (ap (λ x. x.next) (idles t i late t_small hi)) size_some
        ]);
    letters = λ t i ht hi.
        let t_small : t < size_of m = rw same_size at ht in
        elim (cases_lt t (length named)) [
          | inl there ↦
              let f : Follows t i = follows t i there hi in
              rw f.writes (machine.letters (get_or named t 0) i (state_named t there) hi)
          | inr late ↦ rw (ap (λ x. x.writes) (idles t i late t_small hi)) (pow_pos m.writes)
        ];
    moore = λ moore t i j ht hi hj.
        let t_small : t < size_of m = rw same_size at ht in
        elim (cases_lt t (length named)) [
          | inl there ↦ (follows t i there hi).writes ∙ machine.moore moore (get_or named t 0) i j (state_named t there) hi hj ∙ sym (follows t j there hj).writes
          | inr late ↦ ap (λ x. x.writes) (idles t i late t_small hi) ∙ sym (ap (λ x. x.writes) (idles t j late t_small hj))
        ];
  }

  -- the number of named states is one more than the greatest next state so far
  counted : (place : ℕ) → place ≤ length m.table → length (named_before m place) ≡ greatest_next (map (numbered_row m) (range_with_len 0 place)) + 1
  counted zero h = refl
  counted (suc place) h =
      let before : length (named_before m place) ≡ greatest_next (map (numbered_row m) (range_with_len 0 place)) + 1 = counted place (omega arith) in
      let one : suc place ≡ place + 1 = omega arith in
      let more : map (numbered_row m) (range_with_len 0 (place + 1)) ≡ map (numbered_row m) (range_with_len 0 place) ++ numbered_row m place ∷ [] = map-range_with_len_more (numbered_row m) 0 place place (omega arith) in
      let g : greatest_next (map (numbered_row m) (range_with_len 0 (suc place))) ≡ max (greatest_next (map (numbered_row m) (range_with_len 0 place))) (numbered_row m place).next
      = ap (λ k. greatest_next (map (numbered_row m) (range_with_len 0 k))) one ∙ ap greatest_next more ∙ greatest-push (map (numbered_row m) (range_with_len 0 place)) (numbered_row m place) in
      elim (cases_lt (place / 2 ^ m.reads) (length (named_before m place))) [
        | inr late ↦
            let same : length (named_before m (suc place)) ≡ length (named_before m place) = ap length (named-same m place late) in
            let row : (numbered_row m place).next ≡ 0 = ap (λ x. x.next) (row-unnamed m place late) in
            omega (arith, before, g, same, row)
        | inl less ↦
            let s : ℕ = next_of m (slice_index (named_before m place) (place / 2 ^ m.reads)) (place % 2 ^ m.reads) in
            let row : (numbered_row m place).next ≡ place_in (named_before m place) s = ap (λ x. x.next) (row-named m place less) in
            let add : Added (named_before m place) s (named_before m (suc place)) = subst (Added (named_before m place) s) (sym (named-more m place less)) (added (named_before m place) s) in
            let most : place_in (named_before m place) s ≤ length (named_before m place) = place_in-le (named_before m place) s in
            elim (cases_lt (place_in (named_before m place) s) (length (named_before m place))) [
              | inl known ↦ let n : length (named_before m (suc place)) ≡ length (named_before m place) = add.old known in omega (arith, before, g, row, n, known)
              | inr new ↦ let n : length (named_before m (suc place)) ≡ length (named_before m place) + 1 = add.fresh new in omega (arith, before, g, row, n, new, most)
            ]
      ]
    where
      greatest-push : (rows : List Row) (row : Row) → greatest_next (rows ++ row ∷ []) ≡ max (greatest_next rows) row.next
      greatest-push [] row = omega arith
      greatest-push (r ∷ rows) row = let e : greatest_next (rows ++ row ∷ []) ≡ max (greatest_next rows) row.next = greatest-push rows row in omega (arith, e)

  in_order : IsNumbered (numbered_of m)
  in_order place h =
      let below : place < length m.table = rw same_length at h in
      let front : take place (numbered_of m).table ≡ map (numbered_row m) (range_with_len 0 place) = take-map-range_with_len (numbered_row m) 0 (length m.table) place (omega arith) in
      let row : get_or (numbered_of m).table place (record { next = 0; writes = 0 }) ≡ numbered_row m place = get_or-map-range_with_len (numbered_row m) 0 (length m.table) place place (record { next = 0; writes = 0 }) below (omega arith) in
      let count : length (named_before m place) ≡ greatest_next (map (numbered_row m) (range_with_len 0 place)) + 1 = counted place (omega arith) in
      let small : (numbered_row m place).next ≤ length (named_before m place) = elim (cases_lt (place / 2 ^ m.reads) (length (named_before m place))) [
        | inr late ↦ rw (ap (λ x. x.next) (row-unnamed m place late)) (omega arith)
        | inl less ↦ rw (ap (λ x. x.next) (row-named m place less)) (place_in-le (named_before m place) (next_of m (slice_index (named_before m place) (place / 2 ^ m.reads)) (place % 2 ^ m.reads)))
      ] in
      rw (row, front) (omega (arith, count, small))

  -- runs
  old_states : List ℕ → List ℕ
  old_states states = map (λ t. get_or named t 0) states

  new_states : List ℕ → List ℕ
  new_states states = map (place_in named) states

  length-old : (states : List ℕ) → length (old_states states) ≡ length states
  unfolding old_states
  length-old states = length-map states (λ t. get_or named t 0)

  length-new : (states : List ℕ) → length (new_states states) ≡ length states
  unfolding new_states
  length-new states = length-map states (place_in named)

  old_at : (states : List ℕ) (i : ℕ) → i < length states → slice_index (old_states states) i ≡ get_or named (slice_index states i) 0
  unfolding old_states
  old_at states i h = get_or-map (λ t. get_or named t 0) states i 0 0 h

  new_at : (states : List ℕ) (i : ℕ) → i < length states → slice_index (new_states states) i ≡ place_in named (slice_index states i)
  unfolding new_states
  new_at states i h = get_or-map (place_in named) states i 0 0 h

  module _ (side : Side) (w : Word) (states : List ℕ) where
    -- what a run of the new machine says, in the old one's words
    reads_new : IsRunLasso (numbered_of m) side w states → (i : ℕ) → i < lasso_len w → read_part side m (letter_at w i) < 2 ^ m.reads
    reads_new run i h = subst (λ x. x < 2 ^ m.reads) (read_same m side (letter_at w i)) (run.reads i h)

    moves_new : IsRunLasso (numbered_of m) side w states → (i : ℕ) → i < lasso_len w → slice_index states (next w i) ≡ next_of (numbered_of m) (slice_index states i) (read_part side m (letter_at w i))
    moves_new run i h = run.moves i h ∙ ap (next_of (numbered_of m) (slice_index states i)) (read_same m side (letter_at w i))

    writes_new : IsRunLasso (numbered_of m) side w states → (i : ℕ) → i < lasso_len w → written_part side m (letter_at w i) ≡ writes_of (numbered_of m) (slice_index states i) (read_part side m (letter_at w i))
    writes_new run i h = sym (written_same m side (letter_at w i)) ∙ run.writes i h ∙ ap (writes_of (numbered_of m) (slice_index states i)) (read_same m side (letter_at w i))

    named_run : IsRunLasso (numbered_of m) side w states → (i : ℕ) → i < lasso_len w → slice_index states i < length named
    named_run run zero h = rw run.start first_named
    named_run run (suc i) h =
        let before : i < lasso_len w = omega arith in
        let inner : next w i ≡ i + 1 = next-inner w i (λ e. omega arith) in
        let f : Follows (slice_index states i) (read_part side m (letter_at w i)) = follows (slice_index states i) (read_part side m (letter_at w i)) (named_run run i before) (reads_new run i before) in
        let moved : slice_index states (next w i) ≡ place_in named (next_of m (get_or named (slice_index states i) 0) (read_part side m (letter_at w i))) = moves_new run i before ∙ f.moves in
        let e : suc i ≡ next w i = omega (arith, inner) in
        rw (e, moved) f.inside

    old_run : IsRunLasso (numbered_of m) side w states → IsRunLasso m side w (old_states states)
    old_run run =
        let n : length states ≡ lasso_len w = run.places in
        let inside : (i : ℕ) → i < lasso_len w → i < length states = λ i h. omega (arith, n, h) in
        record {
          ring = run.ring;
          places = length-old states ∙ n;
          start = old_at states 0 (inside 0 (let r : 0 < length w.ring = run.ring in omega arith)) ∙ ap (λ t. get_or named t 0) run.start ∙ zero_first;
          reads = reads_new run;
          writes = λ i h.
              writes_new run i h ∙ (follows (slice_index states i) (read_part side m (letter_at w i)) (named_run run i h) (reads_new run i h)).writes
              ∙ ap (λ t. writes_of m t (read_part side m (letter_at w i))) (sym (old_at states i (inside i h)));
          moves = λ i h.
              let f : Follows (slice_index states i) (read_part side m (letter_at w i)) = follows (slice_index states i) (read_part side m (letter_at w i)) (named_run run i h) (reads_new run i h) in
              old_at states (next w i) (inside (next w i) (next_within w i run.ring h))
              ∙ ap (λ t. get_or named t 0) (moves_new run i h ∙ f.moves)
              ∙ at_place named (next_of m (get_or named (slice_index states i) 0) (read_part side m (letter_at w i))) f.inside
              ∙ ap (λ t. next_of m t (read_part side m (letter_at w i))) (sym (old_at states i (inside i h)));
        }

    -- in a run of the old machine all states are named
    met : IsRunLasso m side w states → (i : ℕ) → i < lasso_len w → place_in named (slice_index states i) < length named
    met run zero h =
        let first : place_in named 0 < length named = elim (cases_lt (place_in named 0) (length named)) [
          | inl there ↦ there
          | inr none ↦ absurd (let p : place_in named 0 ≤ 0 = place_in-first named 0 0 0 first_named zero_first in let f : 0 < length named = first_named in omega (arith, p, f, none))
        ] in
        rw run.start first
    met run (suc i) h =
        let before : i < lasso_len w = omega arith in
        let inner : next w i ≡ i + 1 = next-inner w i (λ e. omega arith) in
        let there : place_in named (slice_index states i) < length named = met run i before in
        let f : Follows (place_in named (slice_index states i)) (read_part side m (letter_at w i)) = follows (place_in named (slice_index states i)) (read_part side m (letter_at w i)) there (run.reads i before) in
        let old : get_or named (place_in named (slice_index states i)) 0 ≡ slice_index states i = at_place named (slice_index states i) there in
        let inside : place_in named (next_of m (slice_index states i) (read_part side m (letter_at w i))) < length named
        = subst (λ t. place_in named (next_of m t (read_part side m (letter_at w i))) < length named) old f.inside in
        let e : suc i ≡ next w i = omega (arith, inner) in
        rw (e, run.moves i before) inside

    new_run : IsRunLasso m side w states → IsRunLasso (numbered_of m) side w (new_states states)
    new_run run =
        let n : length states ≡ lasso_len w = run.places in
        let inside : (i : ℕ) → i < lasso_len w → i < length states = λ i h. omega (arith, n, h) in
        record {
          ring = run.ring;
          places = length-new states ∙ n;
          start =
              let first : place_in named 0 ≤ 0 = place_in-first named 0 0 0 first_named zero_first in
              new_at states 0 (inside 0 (let r : 0 < length w.ring = run.ring in omega arith)) ∙ ap (place_in named) run.start ∙ omega (arith, first);
          reads = λ i h. subst (λ x. x < 2 ^ m.reads) (sym (read_same m side (letter_at w i))) (run.reads i h);
          writes = λ i h.
              let there : place_in named (slice_index states i) < length named = met run i h in
              let f : Follows (place_in named (slice_index states i)) (read_part side m (letter_at w i)) = follows (place_in named (slice_index states i)) (read_part side m (letter_at w i)) there (run.reads i h) in
              let old : get_or named (place_in named (slice_index states i)) 0 ≡ slice_index states i = at_place named (slice_index states i) there in
              written_same m side (letter_at w i) ∙ run.writes i h
              ∙ ap (λ t. writes_of m t (read_part side m (letter_at w i))) (sym old)
              ∙ sym f.writes
              ∙ ap (λ t. writes_of (numbered_of m) t (read_part side m (letter_at w i))) (sym (new_at states i (inside i h)))
              ∙ ap (writes_of (numbered_of m) (slice_index (new_states states) i)) (sym (read_same m side (letter_at w i)));
          moves = λ i h.
              let there : place_in named (slice_index states i) < length named = met run i h in
              let f : Follows (place_in named (slice_index states i)) (read_part side m (letter_at w i)) = follows (place_in named (slice_index states i)) (read_part side m (letter_at w i)) there (run.reads i h) in
              let old : get_or named (place_in named (slice_index states i)) 0 ≡ slice_index states i = at_place named (slice_index states i) there in
              new_at states (next w i) (inside (next w i) (next_within w i run.ring h))
              ∙ ap (place_in named) (run.moves i h)
              ∙ ap (λ t. place_in named (next_of m t (read_part side m (letter_at w i)))) (sym old)
              ∙ sym f.moves
              ∙ ap (λ t. next_of (numbered_of m) t (read_part side m (letter_at w i))) (sym (new_at states i (inside i h)))
              ∙ ap (next_of (numbered_of m) (slice_index (new_states states) i)) (sym (read_same m side (letter_at w i)));
        }

  pub numbered_form : IsNumberedForm m (numbered_of m)
  numbered_form = record {
    machine = new_machine;
    kind = refl;
    size = same_size;
    reads = refl;
    writes = refl;
    in_order = in_order;
    same_runs = λ side w. (
      λ (states, run). (old_states states, old_run side w states run),
      λ (states, run). (new_states states, new_run side w states run),
    );
  }

  -- what is named before a place
  pub named_state : (place k : ℕ) → place ≤ length m.table → k < length (named_before m place) → get_or (named_before m place) k 0 < size_of m
  named_state place k h less =
      let on : Extends (named_before m place) named = rw is_named (up_to m place (length m.table) h) in
      let more : length (named_before m place) ≤ length named = on.more in
      let state : get_or named k 0 < size_of m = state_named k (omega (arith, more, less)) in
      rw (on.same k less) at state

  pub named_few : (place : ℕ) → place ≤ length m.table → length (named_before m place) ≤ size_of m
  named_few place h =
      let on : Extends (named_before m place) named = rw is_named (up_to m place (length m.table) h) in
      let more : length (named_before m place) ≤ length named = on.more in
      let small : length named ≤ size_of m = named_small in
      omega (arith, more, small)

  -- the state that the list of those before a place has at a place of its own
  pub state_read : (place : ℕ) (states : List ℕ) (k x : ℕ) → place < length m.table → states ≡ named_before m place → k < length states
      → x ≡ get_or states k x → x < size_of m
  state_read place states k x h e less is =
      let less' : k < length (named_before m place) = rw e at less in
      let read : get_or states k x ≡ get_or states k 0 = get_or_default states k x 0 less in
      let at : get_or states k 0 ≡ get_or (named_before m place) k 0 = ap (λ s. get_or s k 0) e in
      subst (λ s. s < size_of m) (sym (is ∙ read ∙ at)) (named_state place k (omega arith) less')
