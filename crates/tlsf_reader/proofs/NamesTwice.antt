-- A name that is declared twice.
use Rattle.std.proofs.Common.{◌≡◌, ◌<◌, ◌⊎◌, ℕ, zero, suc, Bool, true, false, ◌||◌, cond, List, [], ◌∷◌, ◌++◌, length, map, take, drop, slice_get, slice_index_or, ◌≤◌, ◌-◌, not, Option, None, Some, refl, sym, ◌∙◌, ap, subst, arith, inl, inr}
use Rattle.std.specs.List.{list_any}
use Rattle.std.specs.Str.{bytes_eq}
use Rattle.std.proofs.lemmas.List.{take_all, map-append}
use Rattle.std.proofs.lemmas.List.Folds.{list_any-append}
use Rattle.std.proofs.lemmas.Slice.Eq.{bytes_eq-Decides}
use Rattle.std.proofs.lemmas.Bool.{or_left, or_right, or_cases}
use Rattle.tlsf_syntax.specs.Tree.{Named}
use Rattle.tlsf_syntax.proofs.TextSound.{same_bytes}
use Rattle.tlsf_reader.specs.Least.{IsLeast, least}
use Rattle.tlsf_reader.specs.Places.{NameTwiceAt}
use Rattle.tlsf_reader.proofs.LeastPlaces.{least_of_both, least_assoc, least_none, none_is_least, least_of_same, one_place}
use Rattle.tlsf_reader.proofs.Repeats.{Keeps}

-- a name among some
abbrev pub among : List ℕ → List (List ℕ) → Bool
among n ns = list_any (bytes_eq n) ns

-- one more name, unless it is there
abbrev pub with_name : List (List ℕ) → List ℕ → List (List ℕ)
with_name ns n = cond (among n ns) ns (ns ++ n ∷ [])

-- an earlier word of this name
pub record EarlierIn (ws : List Named) (k : ℕ) (n : List ℕ) : Type 0 where
  at : ℕ
  word : Named
  order : at < k
  here : slice_get ws at ≡ Some word
  same : word.name ≡ n

-- a word that has one of these names, or the name of an earlier one
pub record TwiceAfter (ns : List (List ℕ)) (ws : List Named) (place : ℕ) : Type 0 where
  at : ℕ
  word : Named
  here : slice_get ws at ≡ Some word
  before : (among word.name ns ≡ true) ⊎ EarlierIn ws at word.name
  place_is : word.span.start ≡ place

names_equal : (a : List ℕ) → bytes_eq a a ≡ true
names_equal a = (bytes_eq-Decides a a).1 refl

any_append : (n : List ℕ) (xs ys : List (List ℕ)) → among n (xs ++ ys) ≡ (among n xs || among n ys)
any_append n xs ys = list_any-append (bytes_eq n) xs ys

-- what is among the names with one more
still_among : (m n : List ℕ) (ns : List (List ℕ)) → among m ns ≡ true → among m (with_name ns n) ≡ true
still_among m n ns e = by (among n ns)
  where
    by : (b : Bool) → among m (cond b ns (ns ++ n ∷ [])) ≡ true
    by true = e
    by false = any_append m ns (n ∷ []) ∙ or_left (among m ns) (among m (n ∷ [])) e

now_among : (n : List ℕ) (ns : List (List ℕ)) → among n (with_name ns n) ≡ true
now_among n ns = by (among n ns) refl
  where
    by : (b : Bool) → among n ns ≡ b → among n (cond b ns (ns ++ n ∷ [])) ≡ true
    by true e = e
    by false e = any_append n ns (n ∷ []) ∙ or_right (among n ns) (among n (n ∷ [])) (or_left (bytes_eq n n) false (names_equal n))

among_so : (m n : List ℕ) (ns : List (List ℕ)) → among m (with_name ns n) ≡ true → (among m ns ≡ true) ⊎ (n ≡ m)
among_so m n ns e = by (among n ns) e
  where
    by : (b : Bool) → among m (cond b ns (ns ++ n ∷ [])) ≡ true → (among m ns ≡ true) ⊎ (n ≡ m)
    by true f = inl f
    by false f = elim (or_cases (among m ns) (among m (n ∷ [])) (sym (any_append m ns (n ∷ [])) ∙ f)) [
      | inl g ↦ inl g
      | inr g ↦ elim (or_cases (bytes_eq m n) false g) [ inl h ↦ inr (sym (same_bytes m n h)) | inr h ↦ absurd cc ]
    ]

-- the word in front has one of the names
abbrev HereTwice : List (List ℕ) → Named → ℕ → Type 0
HereTwice ns w p = (among w.name ns ≡ true) × (w.span.start ≡ p)

abbrev pub here_twice : List (List ℕ) → Named → Option ℕ
here_twice ns w = cond (among w.name ns) (Some w.span.start) None

here_least : (ns : List (List ℕ)) (w : Named) → IsLeast (HereTwice ns w) (here_twice ns w)
here_least ns w = by (among w.name ns) refl
  where
    by : (b : Bool) → among w.name ns ≡ b → IsLeast (HereTwice ns w) (cond b (Some w.span.start) None)
    by true e = one_place (HereTwice ns w) w.span.start (e, refl) (λ q h. h.1)
    by false e = none_is_least (HereTwice ns w) (λ q h. let yes : among w.name ns ≡ true = h.0 in absurd cc)

split_front : (ns : List (List ℕ)) (w : Named) (ws : List Named) (p : ℕ) → TwiceAfter ns (w ∷ ws) p → HereTwice ns w p ⊎ TwiceAfter (with_name ns w.name) ws p
split_front ns w ws p t = by t.at t.word t.here t.before t.place_is
  where
    earlier : (k : ℕ) (x : Named) → EarlierIn (w ∷ ws) (suc k) x.name → (among x.name (with_name ns w.name) ≡ true) ⊎ EarlierIn ws k x.name
    earlier k x e = at e.at e.word e.order e.here e.same
      where
        at : (j : ℕ) (y : Named) → j < suc k → slice_get (w ∷ ws) j ≡ Some y → y.name ≡ x.name → (among x.name (with_name ns w.name) ≡ true) ⊎ EarlierIn ws k x.name
        at zero y o g h = let one : w ≡ y = cc in inl (subst (λ n. among n (with_name ns w.name) ≡ true) (ap (λ (z : Named). z.name) one ∙ h) (now_among w.name ns))
        at (suc j) y o g h = inr (record { at = j; word = y; order = omega (arith, o); here = g; same = h })

    by : (k : ℕ) (x : Named) → slice_get (w ∷ ws) k ≡ Some x → (among x.name ns ≡ true) ⊎ EarlierIn (w ∷ ws) k x.name → x.span.start ≡ p → HereTwice ns w p ⊎ TwiceAfter (with_name ns w.name) ws p
    by zero x g b h = let one : w ≡ x = cc in elim b [
      | inl a ↦ inl (subst (λ (z : Named). HereTwice ns z p) (sym one) (a, h))
      | inr e ↦ (let o : e.at < 0 = e.order in absurd (omega (arith, o)))
    ]
    by (suc k) x g b h = inr (record { at = k; word = x; here = g; before = (elim b [ inl a ↦ inl (still_among x.name w.name ns a) | inr e ↦ earlier k x e ]); place_is = h })

front_is : (ns : List (List ℕ)) (w : Named) (ws : List Named) (p : ℕ) → HereTwice ns w p → TwiceAfter ns (w ∷ ws) p
front_is ns w ws p h = record { at = zero; word = w; here = refl; before = inl h.0; place_is = h.1 }

later_is : (ns : List (List ℕ)) (w : Named) (ws : List Named) (p : ℕ) → TwiceAfter (with_name ns w.name) ws p → TwiceAfter ns (w ∷ ws) p
later_is ns w ws p t = record {
  at = suc t.at;
  word = t.word;
  here = t.here;
  before = elim t.before [
    | inl a ↦ (elim (among_so t.word.name w.name ns a) [ inl b ↦ inl b | inr e ↦ inr (record { at = zero; word = w; order = omega arith; here = refl; same = e }) ])
    | inr e ↦ inr (record { at = suc e.at; word = e.word; order = (let o : e.at < t.at = e.order in omega (arith, o)); here = e.here; same = e.same })
  ];
  place_is = t.place_is;
}

pub next_word : (all : ℕ → Type 0) (ns : List (List ℕ)) (w : Named) (ws : List Named) (found : Option ℕ) → Keeps all (TwiceAfter ns (w ∷ ws)) found → Keeps all (TwiceAfter (with_name ns w.name) ws) (least found (here_twice ns w))
next_word all ns w ws found k later h =
    subst (IsLeast all) (least_assoc found (here_twice ns w) later) (k (least (here_twice ns w) later)
    (least_of_both (HereTwice ns w) (TwiceAfter (with_name ns w.name) ws) (TwiceAfter ns (w ∷ ws)) (here_twice ns w) later (here_least ns w) h (front_is ns w ws) (later_is ns w ws) (split_front ns w ws)))

pub first_names : (ws : List Named) → Keeps (NameTwiceAt ws) (TwiceAfter [] ws) None
first_names ws later h = least_of_same (TwiceAfter [] ws) (NameTwiceAt ws) later from to h
  where
    from : (p : ℕ) → TwiceAfter [] ws p → NameTwiceAt ws p
    from p t = elim t.before [
      | inl a ↦ absurd cc
      | inr e ↦ record { first_at = e.at; second_at = t.at; first = e.word; second = t.word; order = e.order; before = e.here; here = t.here; same = e.same; place_is = t.place_is }
    ]

    to : (p : ℕ) → NameTwiceAt ws p → TwiceAfter [] ws p
    to p n = record { at = n.second_at; word = n.second; here = n.here; before = inr (record { at = n.first_at; word = n.first; order = n.order; here = n.before; same = n.same }); place_is = n.place_is }

pub last_names : (all : ℕ → Type 0) (ns : List (List ℕ)) (found : Option ℕ) → Keeps all (TwiceAfter ns []) found → IsLeast all found
last_names all ns found k = subst (IsLeast all) (least_none found) (k None (none_is_least (TwiceAfter ns []) (λ q t. none t.at t.word t.here)))
  where
    none : (j : ℕ) (x : Named) → ◌≡◌ {A = Option Named} (slice_get [] j) (Some x) → ⊥
    none zero x e = absurd cc
    none (suc j) x e = absurd cc

-- over a list of which the first word is passed
pub names_passing : {W : Type 0} (all : ℕ → Type 0) (see : W → Named) (ns after : List (List ℕ)) (xs : List W) (x d : W) (found next : Option ℕ) → 1 ≤ length xs → x ≡ slice_index_or xs 0 d → after ≡ with_name ns (see x).name
    → next ≡ least found (here_twice ns (see x)) → Keeps all (TwiceAfter ns (map see xs)) found → Keeps all (TwiceAfter after (map see (take (length xs - 1) (drop 1 xs)))) next
names_passing all see ns after [] x d found next h e f g k = absurd (omega (arith, h))
names_passing all see ns after (y ∷ xs) x d found next h e f g k =
    let rest : take (length (y ∷ xs) - 1) xs ≡ xs = (let less : length (y ∷ xs) - 1 ≡ length xs = omega arith in ap (λ n. take n xs) less ∙ take_all (length xs) xs (omega arith)) in
    subst (λ ys. Keeps all (TwiceAfter after (map see ys)) next) (sym rest)
    (subst (λ n. Keeps all (TwiceAfter after (map see xs)) n) (sym (g ∙ ap (λ z. least found (here_twice ns (see z))) e))
    (subst (λ m. Keeps all (TwiceAfter m (map see xs)) (least found (here_twice ns (see y)))) (sym (f ∙ ap (λ z. with_name ns (see z).name) e)) (next_word all ns (see y) (map see xs) found k)))

pub names_done : {W : Type 0} (all : ℕ → Type 0) (see : W → Named) (ns : List (List ℕ)) (xs : List W) (found : Option ℕ) → length xs < 1 → Keeps all (TwiceAfter ns (map see xs)) found → IsLeast all found
names_done all see ns [] found h k = last_names all ns found k
names_done all see ns (x ∷ xs) found h k = absurd (omega (arith, h))

-- the keys of a set of names
pub keys_among : {K : Type 0} (see : K → List ℕ) (n : List ℕ) (ks : List K) → list_any (λ x. bytes_eq n (see x)) ks ≡ among n (map see ks)
keys_among see n [] = refl
keys_among see n (x ∷ ks) = ap (λ b. bytes_eq n (see x) || b) (keys_among see n ks)

pub keys_with : {K : Type 0} (see : K → List ℕ) (k : K) (ks : List K) → map see (cond (list_any (λ x. bytes_eq (see k) (see x)) ks) ks (ks ++ k ∷ [])) ≡ with_name (map see ks) (see k)
keys_with see k ks = by (list_any (λ x. bytes_eq (see k) (see x)) ks) (keys_among see (see k) ks)
  where
    by : (b : Bool) → b ≡ among (see k) (map see ks) → map see (cond b ks (ks ++ k ∷ [])) ≡ with_name (map see ks) (see k)
    by true e = ap (λ b. cond b (map see ks) (map see ks ++ see k ∷ [])) e
    by false e = map-append see ks (k ∷ []) ∙ ap (λ b. cond b (map see ks) (map see ks ++ see k ∷ [])) e

pub here_found : (ns : List (List ℕ)) (w : Named) (found next : Option ℕ) (new : Bool) → new ≡ not (among w.name ns) → new ≡ false → next ≡ least found (Some w.span.start) → next ≡ least found (here_twice ns w)
here_found ns w found next new e f g =
    let there : among w.name ns ≡ true = by (among w.name ns) (sym e ∙ f) in g ∙ ap (λ b. least found (cond b (Some w.span.start) None)) (sym there)
  where
    by : (b : Bool) → not b ≡ false → b ≡ true
    by true h = refl
    by false h = absurd cc

pub nothing_here : (ns : List (List ℕ)) (w : Named) (found next : Option ℕ) (new : Bool) → new ≡ not (among w.name ns) → new ≡ true → next ≡ found → next ≡ least found (here_twice ns w)
nothing_here ns w found next new e f g =
    let gone : among w.name ns ≡ false = by (among w.name ns) (sym e ∙ f) in g ∙ sym (least_none found) ∙ ap (λ b. least found (cond b (Some w.span.start) None)) (sym gone)
  where
    by : (b : Bool) → not b ≡ true → b ≡ false
    by true h = absurd cc
    by false h = refl
