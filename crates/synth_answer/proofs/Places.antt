-- The places of logs, and the order in which they stand.
use Rattle.std.proofs.Common.{◌≡◌, ℕ, zero, suc, ◌+◌, ◌<◌, ◌≤◌, ◌⊎◌, inl, inr, List, [], ◌∷◌, ◌++◌, All, Contains, IsTrue, map, get_or, refl, sym, ap, ◌∙◌, subst, arith, eq-eqb, add-zero}
use Rattle.std.proofs.lemmas.Bool.{lt-ltb}
use Rattle.std.proofs.lemmas.List.Elements.{All-cons, All-head, All-nil, All-push, All-tail, All-weaker, Contains-append_left, Contains-push}
use Rattle.letters_and_lassos.specs.declared.kinds.Side.{Side}
use Rattle.letters_and_lassos.specs.declared.kinds.Side.TheVariants.{System, Environment}
use Rattle.size_board.specs.declared.events.Claim.{Claim}
use Rattle.size_search.specs.declared.size_log.SizeLog.{SizeLog}
use Rattle.synth_engine.specs.Logs as engine
use Rattle.document_text.specs.declared.order.Order.{Order}
use Rattle.document_text.specs.declared.order.Order.TheVariants.{UpTo, AnyUpTo}
use Rattle.document_text.specs.declared.order.Place.{Place}
use Rattle.document_text.specs.Order.{AreInOrder, may_follow, place, log_place}
use Rattle.document_check.proofs.HoldLemmas.{same_as_itself}
use Rattle.document_text.specs.Parts.{LogPart}
use Rattle.document_check.specs.Facts.{sizes_to}
use Rattle.text_ground.proofs.Lists.{le_cases}
use Rattle.synth_answer.specs.Reply.{part_of}

-- == from the search's sizes to places ==

abbrev place_at : Claim → Place
place_at claim = place claim.side claim.size

pub map-append : {A B : Type 0} (f : A → B) (xs ys : List A) → map f (xs ++ ys) ≡ map f xs ++ map f ys
map-append f [] ys = refl
map-append f (x ∷ xs) ys = ap (λ zs. f x ∷ zs) (map-append f xs ys)

pub places_of_claims : (side : Side) (n : ℕ) → map place_at (engine.sizes_to side n) ≡ sizes_to side n
places_of_claims side zero = refl
places_of_claims side (suc n) =
    map-append place_at (engine.sizes_to side n) (record { side = side; size = suc n } ∷ [])
    ∙ ap (λ ps. ps ++ place side (suc n) ∷ []) (places_of_claims side n)

places_of_parts : (logs : List SizeLog) → map log_place (map part_of logs) ≡ map place_at (map engine.log_claim logs)
places_of_parts [] = refl
places_of_parts (l ∷ logs) = ap (λ ps. place l.side l.size ∷ ps) (places_of_parts logs)

pub parts_at : (side : Side) (n : ℕ) (logs : List SizeLog) → map engine.log_claim logs ≡ engine.sizes_to side n → map log_place (map part_of logs) ≡ sizes_to side n
parts_at side n logs e = places_of_parts logs ∙ ap (map place_at) e ∙ places_of_claims side n

pub parts_at_both : (side other : Side) (n m : ℕ) (logs : List SizeLog) → map engine.log_claim logs ≡ engine.sizes_to side n ++ engine.sizes_to other m
    → map log_place (map part_of logs) ≡ sizes_to side n ++ sizes_to other m
parts_at_both side other n m logs e =
    places_of_parts logs ∙ ap (map place_at) e ∙ map-append place_at (engine.sizes_to side n) (engine.sizes_to other m)
    ∙ ap (λ ps. ps ++ map place_at (engine.sizes_to other m)) (places_of_claims side n)
    ∙ ap (λ ps. sizes_to side n ++ ps) (places_of_claims other m)

-- == which places there are ==

pub has_place : (side : Side) (n k : ℕ) → 0 < k → k ≤ n → Contains (sizes_to side n) (place side k)
has_place side zero k some most = absurd (omega (arith, some, most))
has_place side (suc n) k some most = placed (le_cases k n most) (has_place side n k some)
  where
    placed : (k ≤ n) ⊎ (k ≡ suc n) → (k ≤ n → Contains (sizes_to side n) (place side k)) → Contains (sizes_to side n ++ place side (suc n) ∷ []) (place side k)
    placed (inl less) before = Contains-append_left (sizes_to side n) (place side (suc n) ∷ []) (place side k) (before less)
    placed (inr same) before =
        subst (λ j. Contains (sizes_to side n ++ place side (suc n) ∷ []) (place side j)) (sym same)
        (Contains-push (sizes_to side n) (place side (suc n)))

-- the log of a place
pub record LogAt (logs : List LogPart) (q : Place) : Type 0 where
  pub log : LogPart
  pub stands : Contains logs log
  pub is_at : log_place log ≡ q

pub log_at : (logs : List LogPart) (q : Place) → Contains (map log_place logs) q → LogAt logs q
log_at [] q (k, within, is) = absurd (omega (arith, within))
log_at (l ∷ logs) q (zero, within, is) = record { log = l; stands = (0, omega arith, refl); is_at = is }
log_at (l ∷ logs) q (suc k, within, is) =
    let later = log_at logs q (k, omega (arith, within), is) in
    record { log = later.log; stands = (suc later.stands.0, omega (arith, later.stands.1), later.stands.2); is_at = later.is_at }

-- == the order ==

-- the sizes from s + 1 on, n of them
abbrev places_from : Side → ℕ → ℕ → List Place
places_from side s zero = []
places_from side s (suc n) = place side (suc s) ∷ places_from side (suc s) n

push_place : (side : Side) (s n : ℕ) → places_from side s (suc n) ≡ places_from side s n ++ place side (suc (s + n)) ∷ []
push_place side s zero = ap (λ j. place side (suc j) ∷ []) (sym (add-zero s))
push_place side s (suc n) =
    let e : suc s + n ≡ s + suc n = omega arith in
    ap (λ ps. place side (suc s) ∷ ps) (push_place side (suc s) n ∙ ap (λ j. places_from side (suc s) n ++ place side (suc j) ∷ []) e)

from_start : (side : Side) (n : ℕ) → sizes_to side n ≡ places_from side 0 n
from_start side zero = refl
from_start side (suc n) =
    let e : 0 + n ≡ n = omega arith in
    ap (λ ps. ps ++ place side (suc n) ∷ []) (from_start side n)
    ∙ ap (λ j. places_from side 0 n ++ place side (suc j) ∷ []) (sym e) ∙ sym (push_place side 0 n)

tail_of : {A : Type 0} → List A → List A
tail_of [] = []
tail_of (x ∷ xs) = xs

first_of : {A : Type 0} {x y : A} {xs ys : List A} → x ∷ xs ≡ y ∷ ys → x ≡ y
first_of {x = x} e = ap (λ l. get_or l 0 x) e

rest_of : {A : Type 0} {x y : A} {xs ys : List A} → x ∷ xs ≡ y ∷ ys → xs ≡ ys
unfolding tail_of
rest_of e = ap tail_of e

follows_up_to : (side : Side) (s count : ℕ) → s < count → IsTrue (may_follow (UpTo side count) (place side s) (place side (suc s)))
follows_up_to side s count less =
    let one = same_as_itself side in
    let two = eq-eqb (suc s) (s + 1) (omega arith) in
    let three = lt-ltb s count less in
    rw (one, two, three) refl

follows_any : (side : Side) (s max : ℕ) → s < max → IsTrue (may_follow (AnyUpTo max) (place side s) (place side (suc s)))
follows_any side s max less =
    let one = same_as_itself side in
    let two = eq-eqb (suc s) (s + 1) (omega arith) in
    let three = lt-ltb s max less in
    rw (one, two, three) refl

-- the logs behind a place stand in order, if the first does and the others behind it
one_more : (order : Order) (last q : Place) (l : LogPart) (logs : List LogPart) → log_place l ≡ q → IsTrue (may_follow order last q) → AreInOrder order q logs
    → AreInOrder order last (l ∷ logs)
one_more order last q l logs e follows later =
    subst (λ p. IsTrue (may_follow order last p) × AreInOrder order p logs) (sym e) (follows, later)

pub in_order_up_to : (side : Side) (count n s : ℕ) (logs : List LogPart) → map log_place logs ≡ places_from side s n → s + n ≡ count
    → AreInOrder (UpTo side count) (place side s) logs
in_order_up_to side count zero s [] e end = eq-eqb s count (omega (arith, end))
in_order_up_to side count zero s (l ∷ logs) e end = absurd (cc)
in_order_up_to side count (suc n) s [] e end = absurd (cc)
in_order_up_to side count (suc n) s (l ∷ logs) e end =
    one_more (UpTo side count) (place side s) (place side (suc s)) l logs (first_of e) (follows_up_to side s count (omega (arith, end)))
    (in_order_up_to side count n (suc s) logs (rest_of e) (omega (arith, end)))

in_order_one : (side : Side) (max n s : ℕ) (logs : List LogPart) → map log_place logs ≡ places_from side s n → s + n ≤ max
    → AreInOrder (AnyUpTo max) (place side s) logs
in_order_one side max zero s [] e end = refl
in_order_one side max zero s (l ∷ logs) e end = absurd (cc)
in_order_one side max (suc n) s [] e end = absurd (cc)
in_order_one side max (suc n) s (l ∷ logs) e end =
    one_more (AnyUpTo max) (place side s) (place side (suc s)) l logs (first_of e) (follows_any side s max (omega (arith, end)))
    (in_order_one side max n (suc s) logs (rest_of e) (omega (arith, end)))

crosses : (s max : ℕ) → IsTrue (may_follow (AnyUpTo max) (place System s) (place Environment 1))
crosses s max = refl

in_order_both : (max n m s : ℕ) (logs : List LogPart) → map log_place logs ≡ places_from System s n ++ places_from Environment 0 m → s + n ≤ max → m ≤ max
    → AreInOrder (AnyUpTo max) (place System s) logs
in_order_both max zero zero s [] e end other = refl
in_order_both max zero zero s (l ∷ logs) e end other = absurd (cc)
in_order_both max zero (suc m) s [] e end other = absurd (cc)
in_order_both max zero (suc m) s (l ∷ logs) e end other =
    one_more (AnyUpTo max) (place System s) (place Environment 1) l logs (first_of e) (crosses s max)
    (in_order_one Environment max m 1 logs (rest_of e) (omega (arith, other)))
in_order_both max (suc n) m s [] e end other = absurd (cc)
in_order_both max (suc n) m s (l ∷ logs) e end other =
    one_more (AnyUpTo max) (place System s) (place System (suc s)) l logs (first_of e) (follows_any System s max (omega (arith, end)))
    (in_order_both max n m (suc s) logs (rest_of e) (omega (arith, end)) other)

pub in_order_side : (side : Side) (count : ℕ) (logs : List LogPart) → map log_place logs ≡ sizes_to side count → AreInOrder (UpTo side count) (place side 0) logs
in_order_side side count logs e = in_order_up_to side count count 0 logs (e ∙ from_start side count) (omega arith)

pub in_order_all : (max n m : ℕ) (logs : List LogPart) → map log_place logs ≡ sizes_to System n ++ sizes_to Environment m → n ≤ max → m ≤ max
    → AreInOrder (AnyUpTo max) (place System 0) logs
in_order_all max n m logs e end other =
    in_order_both max n m 0 logs (e ∙ ap (λ ps. ps ++ sizes_to Environment m) (from_start System n) ∙ ap (λ ps. places_from System 0 n ++ ps) (from_start Environment m))
    (omega (arith, end)) other

-- == the sizes of the logs ==

pub unmap : {A B : Type 0} (f : A → B) (P : B → Type 0) (xs : List A) → All P (map f xs) → All (λ x. P (f x)) xs
unmap f P [] all = All-nil (λ x. P (f x))
unmap f P (x ∷ xs) all = All-cons (λ y. P (f y)) x xs (All-head P (f x) (map f xs) all) (unmap f P xs (All-tail P (f x) (map f xs) all))

-- a claim of the side whose size is one of these
pub record IsClaimTo (side : Side) (n : ℕ) (claim : Claim) : Type 0 where
  pub of_side : claim.side ≡ side
  pub some : 0 < claim.size
  pub most : claim.size ≤ n

one_wider : (side : Side) (n : ℕ) (claim : Claim) → IsClaimTo side n claim → IsClaimTo side (suc n) claim
one_wider side n claim h = record { of_side = h.of_side; some = h.some; most = omega (arith, h.most) }

pub claims_to : (side : Side) (n : ℕ) → All (IsClaimTo side n) (engine.sizes_to side n)
claims_to side zero = All-nil (IsClaimTo side 0)
claims_to side (suc n) =
    All-push (IsClaimTo side (suc n)) (engine.sizes_to side n) (record { side = side; size = suc n })
    (All-weaker (IsClaimTo side n) (IsClaimTo side (suc n)) (one_wider side n) (engine.sizes_to side n) (claims_to side n))
    (record { of_side = refl; some = omega arith; most = omega arith })
