-- However questions are answered, they are few: each answer lowers the open numbers, or the kept ones.
use Rattle.std.proofs.Common.{◌≡◌, ℕ, zero, suc, ◌+◌, ◌-◌, ◌*◌, ◌<◌, ◌≤◌, Bool, true, false, List, [], ◌∷◌, length, get_or, map, set, Option, None, Some, refl, sym, ap, subst, ◌∙◌, arith}
use Rattle.std.specs.Prelude.{position, option_map}
use Rattle.std.specs.List.{sum_by}
use Rattle.std.proofs.lemmas.List.Quantifiers.{position-Some}
use Rattle.std.proofs.lemmas.List.Sums.{sum_by-cons, sum_by-set}
use Rattle.unrealizable_core.specs.declared.shrink.Standing.{Standing}
use Rattle.unrealizable_core.specs.declared.shrink.Standing.TheVariants.{Open, Needed, Dropped}
use Rattle.unrealizable_core.specs.Shrink.{all_kept, asked, is_open, reopened, told, told_about}
use Rattle.unrealizable_core.specs.Laws.{Answer, QuestionsAreFew, answer_before, answers_from}
use Rattle.unrealizable_core.proofs.Standings.{opened}

abbrev pub open_weight : Standing → ℕ
open_weight Open = 1
open_weight Needed = 0
open_weight Dropped = 0

abbrev pub kept_weight : Standing → ℕ
kept_weight Open = 1
kept_weight Needed = 1
kept_weight Dropped = 0

abbrev pub open_count : List Standing → ℕ
open_count s = sum_by open_weight s

abbrev pub kept_count : List Standing → ℕ
kept_count s = sum_by kept_weight s

-- lists weigh the same where their first ones and the rest do
weighed : (x y : Standing) (xs ys : List Standing) (f g : Standing → ℕ) → f x ≡ g y → sum_by f xs ≡ sum_by g ys → sum_by f (x ∷ xs) ≡ sum_by g (y ∷ ys)
weighed x y xs ys f g first rest = sum_by-cons f x xs ∙ ap (λ n. n + sum_by f xs) first ∙ ap (λ n. g y + n) rest ∙ sym (sum_by-cons g y ys)

reopened-open : (s : List Standing) → open_count (map reopened s) ≡ kept_count s
reopened-open [] = refl
reopened-open (Open ∷ s) = weighed Open Open (map reopened s) s open_weight kept_weight refl (reopened-open s)
reopened-open (Needed ∷ s) = weighed Open Needed (map reopened s) s open_weight kept_weight refl (reopened-open s)
reopened-open (Dropped ∷ s) = weighed Dropped Dropped (map reopened s) s open_weight kept_weight refl (reopened-open s)

reopened-kept : (s : List Standing) → kept_count (map reopened s) ≡ kept_count s
reopened-kept [] = refl
reopened-kept (Open ∷ s) = weighed Open Open (map reopened s) s kept_weight kept_weight refl (reopened-kept s)
reopened-kept (Needed ∷ s) = weighed Open Needed (map reopened s) s kept_weight kept_weight refl (reopened-kept s)
reopened-kept (Dropped ∷ s) = weighed Dropped Dropped (map reopened s) s kept_weight kept_weight refl (reopened-kept s)

all-open : (count : ℕ) → open_count (all_kept count) ≡ count
all-open zero = refl
all-open (suc n) = let e : open_count (Open ∷ all_kept n) ≡ 1 + open_count (all_kept n) = sum_by-cons open_weight Open (all_kept n) in let rest = all-open n in omega arith

all-kept : (count : ℕ) → kept_count (all_kept count) ≡ count
all-kept zero = refl
all-kept (suc n) = let e : kept_count (Open ∷ all_kept n) ≡ 1 + kept_count (all_kept n) = sum_by-cons kept_weight Open (all_kept n) in let rest = all-kept n in omega arith

square : (k : ℕ) → k ≤ k * k
square zero = omega arith
square (suc k) = omega arith

needed_bound : (l k o k' o' : ℕ) → k' ≡ k → o' + 1 ≡ o → 2 * l + k' ≤ 2 * o' + k' * k' → 2 * suc l + k ≤ 2 * o + k * k
needed_bound l k o k' o' same fewer h = let h' : 2 * l + k ≤ 2 * o' + k * k = subst (λ x. 2 * l + x ≤ 2 * o' + x * x) same h in omega arith

dropped_bound : (l k o k' : ℕ) → k' + 1 ≡ k → 1 ≤ o → 2 * l + k' ≤ 2 * k' + k' * k' → 2 * suc l + k ≤ 2 * o + k * k
dropped_bound l k o k' fewer some h =
    subst (λ x. 2 * suc l + x ≤ 2 * o + x * x) fewer (let e : (k' + 1) * (k' + 1) ≡ k' * k' + 2 * k' + 1 = omega arith in omega arith)

module _ (s : List Standing) (place : ℕ) (found : position is_open s ≡ Some place) where
  here : get_or s place Dropped ≡ Open
  here = opened (get_or s place Dropped) (position-Some is_open s place Dropped found).1

  within : place < length s
  within = (position-Some is_open s place Dropped found).0

  weighs : (f : Standing → ℕ) (y : Standing) → sum_by f (set s place y) + f Open ≡ sum_by f s + f y
  weighs f y = ap (λ x. sum_by f (set s place y) + f x) (sym here) ∙ sum_by-set f s place y Dropped within

  needed-open : open_count (set s place Needed) + 1 ≡ open_count s
  needed-open = let e : open_count (set s place Needed) + 1 ≡ open_count s + 0 = weighs open_weight Needed in omega arith

  needed-kept : kept_count (set s place Needed) ≡ kept_count s
  needed-kept = let e : kept_count (set s place Needed) + 1 ≡ kept_count s + 1 = weighs kept_weight Needed in omega arith

  dropped-kept : kept_count (set s place Dropped) + 1 ≡ kept_count s
  dropped-kept = let e : kept_count (set s place Dropped) + 1 ≡ kept_count s + 0 = weighs kept_weight Dropped in omega arith

  needed_there : (l : ℕ) → 2 * l + kept_count (set s place Needed) ≤ 2 * open_count (set s place Needed) + kept_count (set s place Needed) * kept_count (set s place Needed)
      → 2 * suc l + kept_count s ≤ 2 * open_count s + kept_count s * kept_count s
  needed_there l h = needed_bound l (kept_count s) (open_count s) (kept_count (set s place Needed)) (open_count (set s place Needed)) needed-kept needed-open h

  dropped_there : (l : ℕ) → (let t = map reopened (set s place Dropped) in 2 * l + kept_count t ≤ 2 * open_count t + kept_count t * kept_count t)
      → 2 * suc l + kept_count s ≤ 2 * open_count s + kept_count s * kept_count s
  dropped_there l h =
      let t = set s place Dropped in
      let some : 1 ≤ open_count s = let e = needed-open in omega arith in
      let lower : 2 * l + kept_count t ≤ 2 * kept_count t + kept_count t * kept_count t =
      subst (λ x. 2 * l + x ≤ 2 * kept_count t + x * x) (reopened-kept t) (subst (λ x. 2 * l + kept_count (map reopened t) ≤ 2 * x + kept_count (map reopened t) * kept_count (map reopened t)) (reopened-open t) h) in
      dropped_bound l (kept_count s) (open_count s) (kept_count t) dropped-kept some lower

-- an answer lowers this
abbrev pub weight : List Standing → ℕ
weight s = kept_count s * kept_count s + open_count s

needed_lower : (k o k' o' : ℕ) → k' ≡ k → o' + 1 ≡ o → k' * k' + o' < k * k + o
needed_lower k o k' o' same fewer = subst (λ x. x * x + o' < k * k + o) (sym same) (omega arith)

dropped_lower : (k o k' : ℕ) → k' + 1 ≡ k → 1 ≤ o → k' * k' + k' < k * k + o
dropped_lower k o k' fewer some = subst (λ x. k' * k' + k' < x * x + o) fewer (let e : (k' + 1) * (k' + 1) ≡ k' * k' + 2 * k' + 1 = omega arith in omega arith)

lower_by : (s : List Standing) (defeat : Bool) (place : ℕ) → position is_open s ≡ Some place → weight (told_about (Some (place + 1)) defeat s) < weight s
lower_by s true place found =
    let same : place + 1 - 1 ≡ place = omega arith in
    let t = set s place Dropped in
    let some : 1 ≤ open_count s = let e = needed-open s place found in omega arith in
    let lower : kept_count t * kept_count t + kept_count t < weight s = dropped_lower (kept_count s) (open_count s) (kept_count t) (dropped-kept s place found) some in
    let after : weight (map reopened t) < weight s = subst (λ n. n * n + open_count (map reopened t) < weight s) (sym (reopened-kept t)) (subst (λ n. kept_count t * kept_count t + n < weight s) (sym (reopened-open t)) lower) in
    subst (λ i. weight (map reopened (set s i Dropped)) < weight s) (sym same) after
lower_by s false place found =
    let same : place + 1 - 1 ≡ place = omega arith in
    let after : weight (set s place Needed) < weight s = needed_lower (kept_count s) (open_count s) (kept_count (set s place Needed)) (open_count (set s place Needed)) (needed-kept s place found) (needed-open s place found) in
    subst (λ i. weight (set s i Needed) < weight s) (sym same) after

pub answers_lower : (s : List Standing) (defeat : Bool) (n : ℕ) → asked s ≡ Some n → weight (told defeat s) < weight s
answers_lower s defeat n is = by (position is_open s) refl is
  where
    by : (o : Option ℕ) → position is_open s ≡ o → option_map (λ place. place + 1) o ≡ Some n → weight (told_about (option_map (λ place. place + 1) o) defeat s) < weight s
    by None found e = absurd (let never : ⊥ = cc in never)
    by (Some place) found e = lower_by s defeat place found

-- a question with what comes later
question_bound : (s : List Standing) (defeat : Bool) (later : List Answer) (o : Option ℕ) → position is_open s ≡ o
    → (let t = told_about (option_map (λ place. place + 1) o) defeat s in 2 * length later + kept_count t ≤ 2 * open_count t + kept_count t * kept_count t)
    → 2 * length (answer_before (option_map (λ place. place + 1) o) s defeat later) + kept_count s ≤ 2 * open_count s + kept_count s * kept_count s
question_bound s defeat later None found h = h
question_bound s true later (Some place) found h =
    let same : place + 1 - 1 ≡ place = omega arith in
    dropped_there s place found (length later) (subst (λ i. (let t = map reopened (set s i Dropped) in 2 * length later + kept_count t ≤ 2 * open_count t + kept_count t * kept_count t)) same h)
question_bound s false later (Some place) found h =
    let same : place + 1 - 1 ≡ place = omega arith in
    needed_there s place found (length later) (subst (λ i. (let t = set s i Needed in 2 * length later + kept_count t ≤ 2 * open_count t + kept_count t * kept_count t)) same h)

few_from : (s : List Standing) (answers : List Bool) → 2 * length (answers_from s answers) + kept_count s ≤ 2 * open_count s + kept_count s * kept_count s
few_from s [] = let e = square (kept_count s) in omega arith
few_from s (defeat ∷ answers) = question_bound s defeat (answers_from (told defeat s) answers) (position is_open s) refl (few_from (told defeat s) answers)

pub questions_are_few : QuestionsAreFew
questions_are_few count answers =
    let all : 2 * length (answers_from (all_kept count) answers) + count ≤ 2 * count + count * count =
    subst (λ x. 2 * length (answers_from (all_kept count) answers) + x ≤ 2 * count + x * x) (all-kept count)
    (subst (λ x. 2 * length (answers_from (all_kept count) answers) + kept_count (all_kept count) ≤ 2 * x + kept_count (all_kept count) * kept_count (all_kept count)) (all-open count) (few_from (all_kept count) answers)) in
    let product : count * (count + 1) ≡ count * count + count = omega arith in
    omega arith
