-- The first open number, and where there is none.
use Rattle.std.proofs.Common.{◌≡◌, ℕ, ◌+◌, ◌-◌, ◌<◌, ◌≤◌, Bool, true, false, cond, inl, inr, List, length, get_or, map, set, Option, None, Some, refl, sym, ap, ◌∙◌, arith}
use Rattle.std.specs.Prelude.{option_map, position}
use Rattle.std.specs.List.{position_or_len}
use Rattle.std.proofs.Math.ListN.{get_or-map}
use Rattle.std.proofs.lemmas.Bool.{cases_eq, cases_lt, lt-ltb, true≢false}
use Rattle.std.proofs.lemmas.List.{get_or-replicate, get_or-set_other, get_or-set_same, length-map, length-replicate, length-set}
use Rattle.std.proofs.lemmas.List.Quantifiers.{position-Some}
use Rattle.std.proofs.lemmas.List.Sums.{fails_before_first}
use Rattle.std.proofs.lemmas.Option.{none-some}
use Rattle.unrealizable_core.specs.declared.shrink.Standing.{Standing}
use Rattle.unrealizable_core.specs.declared.shrink.Standing.TheVariants.{Open, Needed, Dropped}
use Rattle.unrealizable_core.specs.Shrink.{IsFirstOpenGuarantee, IsInTurn, IsKeptGuarantee, IsNeeded, IsOpen, all_kept, answered, asked, is_open, reopened, standing_of}

pub opened : (x : Standing) → is_open x ≡ true → x ≡ Open
opened Open h = refl
opened Needed h = absurd cc
opened Dropped h = absurd cc

needed : (x : Standing) → is_open x ≡ false → (x ≡ Dropped → ⊥) → x ≡ Needed
needed Open h kept = absurd cc
needed Needed h kept = refl
needed Dropped h kept = absurd (kept refl)

-- past the last place nothing passes
nothing_open : (s : List Standing) → position is_open s ≡ None → (k : ℕ) → k < length s → is_open (get_or s k Dropped) ≡ false
nothing_open s none k h =
    elim (cases_lt (position_or_len is_open s) (length s)) [
      | inl there ↦ absurd (none-some (position_or_len is_open s) (sym none ∙ ap (λ b. cond b (Some (position_or_len is_open s)) None) (lt-ltb (position_or_len is_open s) (length s) there)))
      | inr past ↦ fails_before_first is_open s k Dropped (omega arith)
    ]

module _ (s : List Standing) (place : ℕ) (found : position is_open s ≡ Some place) where
  first_is_open : IsOpen s (place + 1)
  first_is_open =
      let at = position-Some is_open s place Dropped found in
      let same : place + 1 - 1 ≡ place = omega arith in
      let within : place < length s = at.0 in
      record { first = omega arith; last = omega arith; opened = ap (λ i. get_or s i Dropped) same ∙ opened (get_or s place Dropped) at.1 }

  none_before : (m : ℕ) → IsOpen s m → place + 1 ≤ m
  none_before m is =
      let at = position-Some is_open s place Dropped found in
      let some : 1 ≤ m = is.first in
      elim (cases_lt (m - 1) place) [
        | inl before ↦ absurd (true≢false (sym (ap is_open is.opened) ∙ at.2 (m - 1) before))
        | inr past ↦ omega arith
      ]

  pub first_open : IsInTurn s → IsFirstOpenGuarantee s (place + 1)
  first_open turns = record { is_open = first_is_open; least = none_before; above = λ m is. turns.in_turn m (place + 1) is first_is_open }

  pub not_all_needed : ((n : ℕ) → IsKeptGuarantee s n → IsNeeded s n) → ⊥
  not_all_needed all =
      let here = first_is_open in
      let is_needed = all (place + 1) (record { first = here.first; last = here.last; kept = λ dropped. let e : ◌≡◌ {A = Standing} Open Dropped = sym here.opened ∙ dropped in cc }) in
      let e : ◌≡◌ {A = Standing} Open Needed = sym here.opened ∙ is_needed.needed in
      cc

pub all_needed : (s : List Standing) → position is_open s ≡ None → (n : ℕ) → IsKeptGuarantee s n → IsNeeded s n
all_needed s none n is =
    let some : 1 ≤ n = is.first in
    let last : n ≤ length s = is.last in
    record { first = is.first; last = is.last; needed = needed (standing_of s n) (nothing_open s none (n - 1) (omega arith)) is.kept }

-- nothing is asked where nothing is open
pub none_asked : (s : List Standing) → asked s ≡ None → position is_open s ≡ None
none_asked s e = by (position is_open s) e
  where
    by : (o : Option ℕ) → option_map (λ place. place + 1) o ≡ None → o ≡ None
    by None e = refl
    by (Some place) e = absurd (none-some (place + 1) (sym e))

-- ---- after an answer

never_needed : (x : Standing) → reopened x ≡ Needed → ⊥
never_needed Open e = cc
never_needed Needed e = cc
never_needed Dropped e = cc

-- once a number was dropped none is needed
pub reopened_needs_none : (s : List Standing) (n : ℕ) → IsNeeded (map reopened s) n → ⊥
reopened_needs_none s n is = never_needed (get_or s (n - 1) Dropped) (sym (get_or-map reopened s (n - 1) Dropped) ∙ is.needed)

module _ (s : List Standing) (n : ℕ) (first : IsFirstOpenGuarantee s n) where
  abbrev dropped_there : List Standing
  dropped_there = map reopened (set s (n - 1) Dropped)

  abbrev needed_there : List Standing
  needed_there = set s (n - 1) Needed

  after_drop : IsInTurn dropped_there
  after_drop = record {
    in_turn = λ m k is opened. absurd (reopened_needs_none (set s (n - 1) Dropped) m is);
  }

  still : (m : ℕ) → (m ≡ n → ⊥) → 1 ≤ m → standing_of needed_there m ≡ standing_of s m
  still m other some =
      let one : 1 ≤ n = first.is_open.first in
      get_or-set_other s (n - 1) (m - 1) Needed Dropped (λ same. other (let e : m - 1 ≡ n - 1 = same in omega arith))

  now_needed : standing_of needed_there n ≡ Needed
  now_needed =
      let one : 1 ≤ n = first.is_open.first in
      let last : n ≤ length s = first.is_open.last in
      get_or-set_same s (n - 1) Needed Dropped (omega arith)

  open_later : (k : ℕ) → IsOpen needed_there k → n < k
  open_later k is =
      let long : length needed_there ≡ length s = length-set s (n - 1) Needed in
      let last : k ≤ length needed_there = is.last in
      elim (cases_eq k n) [
        | inl same ↦ absurd (let e : ◌≡◌ {A = Standing} Needed Open = sym now_needed ∙ ap (standing_of needed_there) (sym same) ∙ is.opened in cc)
        | inr other ↦
            let least : n ≤ k = first.least k (record { first = is.first; last = omega arith; opened = sym (still k other is.first) ∙ is.opened }) in
            omega arith
      ]

  needed_before : (m : ℕ) → IsNeeded needed_there m → m ≤ n
  needed_before m is =
      let long : length needed_there ≡ length s = length-set s (n - 1) Needed in
      let last : m ≤ length needed_there = is.last in
      elim (cases_eq m n) [
        | inl same ↦ omega arith
        | inr other ↦
            let below : m < n = first.above m (record { first = is.first; last = omega arith; needed = sym (still m other is.first) ∙ is.needed }) in
            omega arith
      ]

  pub answered_in_turn : (defeat : Bool) → IsInTurn (answered defeat n s)
  answered_in_turn true = after_drop
  answered_in_turn false = record { in_turn = λ m k is opened. let below = needed_before m is in let above = open_later k opened in omega arith }

pub answered_long : (defeat : Bool) (n : ℕ) (s : List Standing) → length (answered defeat n s) ≡ length s
answered_long true n s = length-map (set s (n - 1) Dropped) reopened ∙ length-set s (n - 1) Dropped
answered_long false n s = length-set s (n - 1) Needed

-- at first none is needed
pub none_needed : (count m : ℕ) → IsNeeded (all_kept count) m → ⊥
none_needed count m is =
    let some : 1 ≤ m = is.first in
    let last : m ≤ length (all_kept count) = is.last in
    let long : length (all_kept count) ≡ count = length-replicate count Open in
    let e : ◌≡◌ {A = Standing} Open Needed = sym (get_or-replicate count (m - 1) Open Dropped (omega arith)) ∙ is.needed in
    cc
