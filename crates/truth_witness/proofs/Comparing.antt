-- The clauses of a fall: there are values of the literals that compare ranks with which all but the last are met, and the last one is
-- false only where the rank falls, or stays while a named until is awaited.
use Rattle.std.proofs.Common.{◌≡◌, ℕ, zero, suc, ◌+◌, ◌-◌, ◌%◌, ◌^◌, ◌<◌, Bool, true, false, not, cond, ◌&&◌, ◌||◌, List, [], ◌∷◌, ◌++◌, length, drop, refl, sym, ap, subst, ◌∙◌, arith, append_assoc, length-append, inl, inr}
use Rattle.std.specs.Prelude.{◌⊎◌, min, map, All, slice_get, Some}
use Rattle.std.specs.Bool.{beq}
use Rattle.std.specs.List.{list_any}
use Rattle.std.proofs.lemmas.Bool.{and_parts, or_parts, cases_Bool, false_from_ne_true, not-false, true≢false}
use Rattle.std.proofs.lemmas.Option.{slice_get_within, get_or_from_slice_get}
use Rattle.std.proofs.Math.Nat.{mod-eq_of_lt}
use Rattle.std.proofs.lemmas.List.{append-nil, drop_at, length-take}
use Rattle.std.proofs.lemmas.List.Folds.{list_any-append}
use Rattle.std.proofs.lemmas.List.Elements.{All-nil, All-cons, All-head, All-tail, All-weaker}
use Rattle.letters_and_lassos.specs.Signals.{has}
use Rattle.aiger_text.specs.Circuit.{Valuation, literal_value}
use Rattle.truth_witness.specs.Clauses.{opposite}
use Rattle.truth_witness.specs.Witness.{Part, Claim}
use Rattle.truth_witness.specs.Variables.{frame_size, shifted, rise_literal}
use Rattle.truth_witness.specs.Frames.{numbered}
use Rattle.truth_witness.specs.Falls.{Awaited, untils, named_untils, differs, not_awaited, bit_rises, bits_rise, fall}
use Rattle.truth_witness.specs.Proved.{IsOfFrame}
use Rattle.truth_witness.specs.Truths.{is_met, are_met}
use Rattle.truth_witness.proofs.Values.{value_opposite, opposite_within}
use Rattle.truth_witness.proofs.Meeting.{met_both, met_one, met_numbered, is_met_same, is_met_plain}
use Rattle.truth_witness.proofs.Pairs.{pair, pair_here, pair_next, pair_rise}
use Rattle.truth_witness.proofs.Falling.{number_at, risen, not_risen, number_modulo}

-- the literals of an until are those of a frame
pub record IsOfFrameBoth (x : Claim) (u : Awaited) : Type 0 where
  pub until : IsOfFrame x u.until
  pub right : IsOfFrame x u.right

module _ (x : Claim) (p : Part) (now next : Valuation) (rank_in : All (IsOfFrame x) p.rank) (index_in : All (IsOfFrame x) p.index)
    (untils_in : All (IsOfFrameBoth x) (named_untils x p)) where
  -- the part doesn't await the until with this number in this step
  abbrev free : ℕ → Awaited → Bool
  free j u =
      (list_any (literal_value now) (differs j p.index) || list_any (literal_value next) (differs j p.index))
      || (not (literal_value now u.until) || (literal_value now u.right || false))

  abbrev all_free : ℕ → List Awaited → Bool
  all_free j [] = true
  all_free j (u ∷ us) = free j u && all_free (suc j) us

  free_at : (j k : ℕ) (us : List Awaited) (u : Awaited) → all_free j us ≡ true → slice_get us k ≡ Some u → free (j + k) u ≡ true
  free_at j k [] u h at = absurd (cc)
  free_at j zero (v ∷ us) u h at =
      let same : v ≡ u = some_same at in
      let e : j ≡ j + 0 = omega arith in
      ap (λ i. free i u) (sym e) ∙ ap (free j) (sym same) ∙ (and_parts (free j v) (all_free (suc j) us) h).0
    where
      some_same : Some v ≡ Some u → v ≡ u
      some_same e = cc
  free_at j (suc k) (v ∷ us) u h at =
      let e : suc j + k ≡ j + suc k = omega arith in
      ap (λ i. free i u) (sym e) ∙ free_at (suc j) k us u (and_parts (free j v) (all_free (suc j) us) h).1 at

  -- the until that is awaited, with its number
  record Found (j : ℕ) (us : List Awaited) : Type 0 where
    pub number : ℕ
    pub until : Awaited
    pub place : slice_get us number ≡ Some until
    pub not_free : free (j + number) until ≡ false

  not_all_free : (j : ℕ) (us : List Awaited) → all_free j us ≡ false → Found j us
  not_all_free j [] h = absurd (true≢false h)
  not_all_free j (u ∷ us) h = by (cases_Bool (free j u)) (λ more. not_all_free (suc j) us more)
    where
      by : (free j u ≡ true) ⊎ (free j u ≡ false) → (all_free (suc j) us ≡ false → Found (suc j) us) → Found j (u ∷ us)
      by (inr off) rest = let e : j ≡ j + 0 = omega arith in record { number = 0; until = u; place = refl; not_free = ap (λ i. free i u) (sym e) ∙ off }
      by (inl on) rest =
          let found : Found (suc j) us = rest (ap (λ b. b && all_free (suc j) us) (sym on) ∙ h) in
          let e : suc j + found.number ≡ j + suc found.number = omega arith in
          record { number = suc found.number; until = found.until; place = found.place; not_free = ap (λ i. free i found.until) (sym e) ∙ found.not_free }

  -- where the lowest 0 bits "rise": no named until is awaited
  abbrev lower : Bool
  lower = all_free 0 (named_untils x p)

  abbrev pub rises : Valuation
  rises i = risen now next lower (drop (length p.rank - i) p.rank)

  abbrev pub compared : Valuation
  compared = pair (frame_size x) now next rises

  here : (l : ℕ) → IsOfFrame x l → literal_value compared l ≡ literal_value now l
  here l h = pair_here (frame_size x) now next rises l h

  there : (l : ℕ) → IsOfFrame x l → literal_value compared (shifted x l) ≡ literal_value next l
  there l h = pair_next (frame_size x) now next rises l h

  rise_is : (front bits : List ℕ) → front ++ bits ≡ p.rank → literal_value compared (rise_literal x (length bits)) ≡ risen now next lower bits
  rise_is front bits split =
      let all : length p.rank ≡ length front + length bits = ap length (sym split) ∙ length-append front bits in
      let e : length p.rank - length bits ≡ length front = omega arith in
      pair_rise (frame_size x) now next rises (length bits)
      ∙ ap (λ n. risen now next lower (drop n p.rank)) e
      ∙ ap (λ rank. risen now next lower (drop (length front) rank)) (sym split)
      ∙ ap (risen now next lower) (drop_at front bits (length front) refl)

  differs_in : (j : ℕ) (bits : List ℕ) → All (IsOfFrame x) bits → All (IsOfFrame x) (differs j bits)
  differs_in j [] each = All-nil (IsOfFrame x)
  differs_in j (bit ∷ bits) each =
      All-cons (IsOfFrame x) (cond (has j (length bits)) (opposite bit) bit) (differs j bits)
      (by (has j (length bits)) (All-head (IsOfFrame x) bit bits each)) (differs_in j bits (All-tail (IsOfFrame x) bit bits each))
    where
      by : (b : Bool) → IsOfFrame x bit → IsOfFrame x (cond b (opposite bit) bit)
      by true h = opposite_within (frame_size x) bit h
      by false h = h

  not_awaited_is : (j : ℕ) (u : Awaited) → IsOfFrameBoth x u → is_met compared (not_awaited x p j u) ≡ free j u
  not_awaited_is j u within =
      list_any-append (literal_value compared) (differs j p.index ++ map (shifted x) (differs j p.index)) (opposite u.until ∷ u.right ∷ [])
      ∙ ap (λ b. b || (literal_value compared (opposite u.until) || (literal_value compared u.right || false)))
      (list_any-append (literal_value compared) (differs j p.index) (map (shifted x) (differs j p.index)))
      ∙ (λ i. (is_met_plain compared now (differs j p.index) (All-weaker (IsOfFrame x) (λ l. literal_value compared l ≡ literal_value now l) here (differs j p.index) (differs_in j p.index index_in)) i
      || is_met_same compared next (shifted x) (differs j p.index) (All-weaker (IsOfFrame x) (λ l. literal_value compared (shifted x l) ≡ literal_value next l) there (differs j p.index) (differs_in j p.index index_in)) i)
      || (((value_opposite compared u.until ∙ ap not (here u.until within.until)) i) || (here u.right within.right i || false)))

  abbrev waits : ℕ → Awaited → List (List ℕ)
  waits j u = (opposite (rise_literal x 0) ∷ not_awaited x p j u) ∷ []

  waits_met : are_met compared (numbered waits 0 (named_untils x p)) ≡ true
  waits_met = met_numbered compared waits 0 (named_untils x p) each
    where
      zeroth : literal_value compared (opposite (rise_literal x 0)) ≡ not lower
      zeroth = value_opposite compared (rise_literal x 0) ∙ ap not (rise_is p.rank [] (append-nil p.rank))

      element : (k : ℕ) (u : Awaited) → slice_get (named_untils x p) k ≡ Some u → IsOfFrameBoth x u
      element k u at = subst (IsOfFrameBoth x) (get_or_from_slice_get (named_untils x p) k u u at) (untils_in k u (slice_get_within (named_untils x p) k u at))

      or_true : (a b : Bool) → a ≡ true ⊎ (b ≡ true) → ((a || b) && true) ≡ true
      or_true a b (inl h) = λ i. (h i || b) && true
      or_true true b (inr h) = refl
      or_true false b (inr h) = λ i. h i && true

      each : (k : ℕ) (u : Awaited) → slice_get (named_untils x p) k ≡ Some u → are_met compared (waits (0 + k) u) ≡ true
      each k u at =
          or_true (literal_value compared (opposite (rise_literal x 0))) (is_met compared (not_awaited x p (0 + k) u))
          (elim (cases_Bool lower) [
            | inr off ↦ inl (zeroth ∙ ap not off)
            | inl on ↦ inr (not_awaited_is (0 + k) u (element k u at) ∙ free_at 0 k (named_untils x p) u on at)
          ])

  bits_met : (front bits : List ℕ) → front ++ bits ≡ p.rank → All (IsOfFrame x) bits → are_met compared (bits_rise x bits) ≡ true
  bits_met front [] split each = refl
  bits_met front (bit ∷ bits) split each =
      met_both compared (bits_rise x bits) (bit_rises x (length bits) bit)
      (bits_met (front ++ bit ∷ []) bits regroup (All-tail (IsOfFrame x) bit bits each))
      ((λ i. (above i || (there bit within i || (old i || false)))
      && ((above i || (there bit within i || (rise_is (front ++ bit ∷ []) bits regroup i || false)))
      && ((above i || (old i || (rise_is (front ++ bit ∷ []) bits regroup i || false))) && true)))
      ∙ by (literal_value next bit) (literal_value now bit) (risen now next lower bits))
    where
      regroup : (front ++ bit ∷ []) ++ bits ≡ p.rank
      regroup = append_assoc front (bit ∷ []) bits ∙ split

      within : IsOfFrame x bit
      within = All-head (IsOfFrame x) bit bits each

      old : literal_value compared (opposite bit) ≡ not (literal_value now bit)
      old = value_opposite compared bit ∙ ap not (here bit within)

      above : literal_value compared (opposite (rise_literal x (length bits + 1))) ≡ not (risen now next lower (bit ∷ bits))
      above =
          let one : length bits + 1 ≡ suc (length bits) = omega arith in
          value_opposite compared (rise_literal x (length bits + 1))
          ∙ ap (λ n. not (literal_value compared (rise_literal x n))) one
          ∙ ap not (rise_is front (bit ∷ bits) split)

      by : (n o r : Bool)
          → ((not ((n && not o) || (beq n o && r)) || (n || (not o || false)))
          && ((not ((n && not o) || (beq n o && r)) || (n || (r || false)))
          && ((not ((n && not o) || (beq n o && r)) || (not o || (r || false))) && true))) ≡ true
      by true true true = refl
      by true true false = refl
      by true false true = refl
      by true false false = refl
      by false true true = refl
      by false true false = refl
      by false false true = refl
      by false false false = refl

  -- all clauses are met where the rank rises, or stays while nothing is awaited
  pub fall_met : risen now next lower p.rank ≡ true → are_met compared (fall x p) ≡ true
  fall_met all =
      met_both compared (numbered waits 0 (named_untils x p) ++ bits_rise x p.rank) ((rise_literal x (length p.rank) ∷ []) ∷ [])
      (met_both compared (numbered waits 0 (named_untils x p)) (bits_rise x p.rank) waits_met (bits_met [] p.rank refl rank_in))
      (met_one compared (rise_literal x (length p.rank)) (rise_is [] p.rank refl ∙ all))

  -- a named until is awaited: the index names it before and after, it is true, and its right part isn't yet
  pub record Awaits : Type 0 where
    pub number : ℕ
    pub until : Awaited
    pub place : slice_get (named_untils x p) number ≡ Some until
    pub index_now : number_at now p.index ≡ number
    pub index_next : number_at next p.index ≡ number
    pub waits : literal_value now until.until ≡ true
    pub not_yet : literal_value now until.right ≡ false

  -- where the clauses can't all be met, the rank falls, or it stays while an until is awaited
  pub falls : (are_met compared (fall x p) ≡ true → ⊥) → (number_at next p.rank < number_at now p.rank) ⊎ ((number_at next p.rank ≡ number_at now p.rank) × Awaits)
  falls refuted = elim (not_risen now next lower p.rank (false_from_ne_true (risen now next lower p.rank) (λ all. refuted (fall_met all)))) [
    | inl less ↦ inl less
    | inr stays ↦ inr (stays.0, awaits (not_all_free 0 (named_untils x p) stays.1))
  ]
    where
      awaits : Found 0 (named_untils x p) → Awaits
      awaits found =
          let j : ℕ = found.number in
          let u : Awaited = found.until in
          let e : 0 + j ≡ j = omega arith in
          let off : free j u ≡ false = ap (λ i. free i u) (sym e) ∙ found.not_free in
          let outer : ((list_any (literal_value now) (differs j p.index) || list_any (literal_value next) (differs j p.index)) ≡ false)
          × ((not (literal_value now u.until) || (literal_value now u.right || false)) ≡ false) =
          or_parts (list_any (literal_value now) (differs j p.index) || list_any (literal_value next) (differs j p.index)) (not (literal_value now u.until) || (literal_value now u.right || false)) off in
          let names : (list_any (literal_value now) (differs j p.index) ≡ false) × (list_any (literal_value next) (differs j p.index) ≡ false) =
          or_parts (list_any (literal_value now) (differs j p.index)) (list_any (literal_value next) (differs j p.index)) outer.0 in
          let truths : (not (literal_value now u.until) ≡ false) × ((literal_value now u.right || false) ≡ false) =
          or_parts (not (literal_value now u.until)) (literal_value now u.right || false) outer.1 in
          let few : j < length (named_untils x p) = slice_get_within (named_untils x p) j u found.place in
          let short : length (named_untils x p) ≡ min (2 ^ length p.index) (length (untils x)) = length-take (2 ^ length p.index) (untils x) in
          let below : j < 2 ^ length p.index = omega arith in
          let small : j % 2 ^ length p.index ≡ j = mod-eq_of_lt below in
          record {
            number = j;
            until = u;
            place = found.place;
            index_now = number_modulo now j p.index names.0 ∙ small;
            index_next = number_modulo next j p.index names.1 ∙ small;
            waits = not-false (literal_value now u.until) truths.0;
            not_yet = (or_parts (literal_value now u.right) false truths.1).0;
          }
