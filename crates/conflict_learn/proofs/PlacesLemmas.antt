-- The places of flags.
use Rattle.std.proofs.Common.{◌≡◌, ℕ, zero, suc, ◌+◌, ◌<◌, ◌≤◌, Bool, true, false, List, [], ◌∷◌, ◌++◌, inl, inr, Contains, All, get_or, length, take, refl, sym, subst, ap, ◌∙◌, arith, add-zero, zero-add}
use Rattle.std.specs.Prelude.{slice_set}
use Rattle.std.proofs.lemmas.Bool.{cases_Bool, cases_eq, cases_lt, false≢true}
use Rattle.std.proofs.lemmas.List.{get_or-set_same, get_or-set_other, length-take}
use Rattle.std.proofs.lemmas.List.Elements.{All-contains}
use Rattle.std_lemmas.proofs.Lists.{Contains-head, Contains-later, Contains-none, Contains-cases, All-from_contains, flag_within}
use Rattle.conflict_learn.specs.Places.{Gains, places_from, places_of}

flag_of : (k : ℕ) (flags : List Bool) (q : ℕ) → Contains (places_from k flags) q → (i : ℕ) × (q ≡ k + i) × (get_or flags i false ≡ true)
flag_of k [] q c = absurd (Contains-none q c)
flag_of k (true ∷ flags) q c =
    elim (Contains-cases k (places_from (suc k) flags) q c) [
      | inl here ↦ (0, sym here ∙ sym (add-zero k), refl)
      | inr there ↦ let r : (i : ℕ) × (q ≡ suc k + i) × (get_or flags i false ≡ true) = flag_of (suc k) flags q there in let e : q ≡ suc k + r.0 = r.1 in (suc r.0, omega arith, r.2)
    ]
flag_of k (false ∷ flags) q c =
    let r : (i : ℕ) × (q ≡ suc k + i) × (get_or flags i false ≡ true) = flag_of (suc k) flags q c in
    let e : q ≡ suc k + r.0 = r.1 in
    (suc r.0, omega arith, r.2)

place_of : (k : ℕ) (flags : List Bool) (i : ℕ) → get_or flags i false ≡ true → Contains (places_from k flags) (k + i)
place_of k [] i e = absurd (false≢true e)
place_of k (true ∷ flags) zero e = rw (add-zero k) (Contains-head k (places_from (suc k) flags))
place_of k (false ∷ flags) zero e = absurd (false≢true e)
place_of k (true ∷ flags) (suc i) e = let same : k + suc i ≡ suc k + i = omega arith in rw same (Contains-later k (places_from (suc k) flags) (suc k + i) (place_of (suc k) flags i e))
place_of k (false ∷ flags) (suc i) e = let same : k + suc i ≡ suc k + i = omega arith in rw same (place_of (suc k) flags i e)

-- the places are those whose flag is set
is_flag : (flags : List Bool) (q : ℕ) → Contains (places_of flags) q → get_or flags q false ≡ true
is_flag flags q c =
    let r : (i : ℕ) × (q ≡ 0 + i) × (get_or flags i false ≡ true) = flag_of 0 flags q c in
    let e : q ≡ 0 + r.0 = r.1 in
    let same : q ≡ r.0 = omega arith in
    ap (λ n. get_or flags n false) same ∙ r.2

has_flag : (flags : List Bool) (q : ℕ) → get_or flags q false ≡ true → Contains (places_of flags) q
has_flag flags q e = rw (zero-add q) at (place_of 0 flags q e)

none_set : (k : ℕ) (flags : List Bool) → ((i : ℕ) → get_or flags i false ≡ false) → places_from k flags ≡ []
none_set k [] unset = refl
none_set k (true ∷ flags) unset = absurd (false≢true (sym (unset 0)))
none_set k (false ∷ flags) unset = none_set (suc k) flags (λ i. unset (suc i))

cut : (k : ℕ) (flags : List Bool) (i : ℕ) → get_or flags i false ≡ true → ((j : ℕ) → i < j → get_or flags j false ≡ false) → places_from k flags ≡ places_from k (take i flags) ++ (k + i) ∷ []
cut k [] i e unset = absurd (false≢true e)
cut k (true ∷ flags) zero e unset = ap (λ l. k ∷ l) (none_set (suc k) flags (λ i. unset (suc i) (omega arith))) ∙ ap (λ n. n ∷ []) (sym (add-zero k))
cut k (false ∷ flags) zero e unset = absurd (false≢true e)
cut k (true ∷ flags) (suc i) e unset =
    let same : suc k + i ≡ k + suc i = omega arith in
    ap (λ l. k ∷ l) (cut (suc k) flags i e (λ j h. unset (suc j) (omega arith)) ∙ ap (λ n. places_from (suc k) (take i flags) ++ n ∷ []) same)
cut k (false ∷ flags) (suc i) e unset =
    let same : suc k + i ≡ k + suc i = omega arith in
    cut (suc k) flags i e (λ j h. unset (suc j) (omega arith)) ∙ ap (λ n. places_from (suc k) (take i flags) ++ n ∷ []) same

-- no place from there on is set
abbrev pub NoneFrom : List Bool → ℕ → Type 0
NoneFrom flags end = (q : ℕ) → end ≤ q → get_or flags q false ≡ false

pub no_places : (flags : List Bool) (end : ℕ) → end ≡ 0 → NoneFrom flags end → places_of flags ≡ []
no_places flags end e none = none_set 0 flags (λ i. none i (omega arith))

pub last_place : (flags : List Bool) (end place : ℕ) → end ≡ place + 1 → get_or flags place false ≡ true → NoneFrom flags end → Contains (places_of flags) place × All (λ q. q ≤ place) (places_of flags)
last_place flags end place e here none = (
  has_flag flags place here,
  All-from_contains (λ q. q ≤ place) (places_of flags) (λ q c.
      elim (cases_lt q end) [ inl less ↦ omega arith | inr more ↦ absurd (false≢true (sym (none q more) ∙ is_flag flags q c)) ]),
)

-- with the last place taken off
pub last_taken : (flags : List Bool) (place : ℕ) → Contains (places_of flags) place → All (λ q. q ≤ place) (places_of flags) → (places_of flags ≡ places_of (take place flags) ++ place ∷ []) × All (λ q. q < place) (places_of (take place flags))
last_taken flags place there most = (
  cut 0 flags place (is_flag flags place there) (λ j h. elim (cases_Bool (get_or flags j false)) [
    | inl set ↦ absurd (let le : j ≤ place = All-contains (λ q. q ≤ place) (places_of flags) j most (has_flag flags j set) in omega arith)
    | inr off ↦ off
  ]) ∙ ap (λ n. places_of (take place flags) ++ n ∷ []) (zero-add place),
  All-from_contains (λ q. q < place) (places_of (take place flags)) (λ q c.
      let w : q < length (take place flags) = flag_within (take place flags) q (is_flag (take place flags) q c) in
      omega (arith, length-take place flags)),
)

-- with one more place
pub Gains-set : (old flags : List Bool) (place : ℕ) → ((q : ℕ) → get_or flags q false ≡ get_or old q false) → place < length flags → Gains (places_of old) (places_of (slice_set flags place true)) place
Gains-set old flags place same within = record {
  has = has_flag (slice_set flags place true) place (get_or-set_same flags place true false within);
  keeps = λ q c. has_flag (slice_set flags place true) q (elim (cases_eq q place) [
    | inl e ↦ ap (λ n. get_or (slice_set flags place true) n false) e ∙ get_or-set_same flags place true false within
    | inr other ↦ get_or-set_other flags place q true false other ∙ same q ∙ is_flag old q c
  ]);
  only = λ q c. elim (cases_eq q place) [
    | inl e ↦ inl e
    | inr other ↦ inr (has_flag old q (sym (same q) ∙ sym (get_or-set_other flags place q true false other) ∙ is_flag (slice_set flags place true) q c))
  ];
}

pub last_taken_as : (flags less : List Bool) (old : List ℕ) (place : ℕ) → places_of flags ≡ old → Contains old place × All (λ q. q ≤ place) old → less ≡ take place flags → (old ≡ places_of less ++ place ∷ []) × All (λ q. q < place) (places_of less)
last_taken_as flags less old place view last cut_off =
    let there : Contains (places_of flags) place = subst (λ (l : List ℕ). Contains l place) (sym view) last.0 in
    let most : All (λ q. q ≤ place) (places_of flags) = subst (λ (l : List ℕ). All (λ q. q ≤ place) l) (sym view) last.1 in
    let r : (places_of flags ≡ places_of (take place flags) ++ place ∷ []) × All (λ q. q < place) (places_of (take place flags)) = last_taken flags place there most in
    (sym view ∙ r.0 ∙ ap (λ l. places_of l ++ place ∷ []) (sym cut_off), subst (λ (l : List Bool). All (λ q. q < place) (places_of l)) (sym cut_off) r.1)
