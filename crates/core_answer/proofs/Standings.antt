-- Which guarantees are kept and which are needed, after an answer.
use Rattle.std.proofs.Common.{◌≡◌, ℕ, zero, suc, ◌+◌, ◌<◌, ◌≤◌, Bool, true, false, List, [], ◌∷◌, ◌++◌, length, get_or, map, set, replicate, refl, sym, ap, ◌∙◌, arith}
use Rattle.std.proofs.lemmas.List.{map-set}
use Rattle.std.proofs.Math.Seq.{map-set_same}
use Rattle.unrealizable_core.specs.declared.shrink.Standing.{Standing}
use Rattle.unrealizable_core.specs.declared.shrink.Standing.TheVariants.{Open, Needed, Dropped}
use Rattle.unrealizable_core.specs.Laws.{is_kept, kept_in}
use Rattle.unrealizable_core.specs.Shrink.{reopened}
use Rattle.core_answer.specs.Core.{EachHas, numbers_from}
use Rattle.core_answer.specs.Known.{needed_from}
use Rattle.core_answer.specs.Over.{are_all}

-- no number from this place on stands so
abbrev pub NoneStands : Standing → ℕ → List Standing → Type 0
NoneStands x from s = (j : ℕ) → from ≤ j → j < length s → get_or s j Dropped ≡ x → ⊥

later_none : (x y : Standing) (i : ℕ) (s : List Standing) → NoneStands x (suc i) (y ∷ s) → NoneStands x i s
later_none x y i s none j from within is = none (suc j) (omega arith) (omega arith) is

none_needed : (k : ℕ) (s : List Standing) → NoneStands Needed 0 s → needed_from k s ≡ []
none_needed k [] none = refl
none_needed k (Open ∷ s) none = none_needed (k + 1) s (λ j from within is. none (suc j) (omega arith) (omega arith) is)
none_needed k (Dropped ∷ s) none = none_needed (k + 1) s (λ j from within is. none (suc j) (omega arith) (omega arith) is)
none_needed k (Needed ∷ s) none = absurd (none 0 (omega arith) (omega arith) refl)

-- the first open number is found needed
pub one_more_needed : (k : ℕ) (s : List Standing) (i : ℕ) → i < length s → NoneStands Needed i s → needed_from k (set s i Needed) ≡ needed_from k s ++ (k + i) ∷ []
one_more_needed k [] i within none = absurd (omega arith)
one_more_needed k (Open ∷ s) zero within none =
    let rest = none_needed (k + 1) s (λ j from within is. none (suc j) (omega arith) (omega arith) is) in
    let same : k ≡ k + 0 = omega arith in
    ap (λ ns. k ∷ ns) rest ∙ ap (λ n. n ∷ []) same ∙ sym (ap (λ ns. ns ++ (k + 0) ∷ []) rest)
one_more_needed k (Dropped ∷ s) zero within none =
    let rest = none_needed (k + 1) s (λ j from within is. none (suc j) (omega arith) (omega arith) is) in
    let same : k ≡ k + 0 = omega arith in
    ap (λ ns. k ∷ ns) rest ∙ ap (λ n. n ∷ []) same ∙ sym (ap (λ ns. ns ++ (k + 0) ∷ []) rest)
one_more_needed k (Needed ∷ s) zero within none = absurd (none 0 (omega arith) (omega arith) refl)
one_more_needed k (Open ∷ s) (suc i) within none =
    let same : k + 1 + i ≡ k + suc i = omega arith in
    one_more_needed (k + 1) s i (omega arith) (later_none Needed Open i s none) ∙ ap (λ n. needed_from (k + 1) s ++ n ∷ []) same
one_more_needed k (Dropped ∷ s) (suc i) within none =
    let same : k + 1 + i ≡ k + suc i = omega arith in
    one_more_needed (k + 1) s i (omega arith) (later_none Needed Dropped i s none) ∙ ap (λ n. needed_from (k + 1) s ++ n ∷ []) same
one_more_needed k (Needed ∷ s) (suc i) within none =
    let same : k + 1 + i ≡ k + suc i = omega arith in
    ap (λ ns. k ∷ ns) (one_more_needed (k + 1) s i (omega arith) (later_none Needed Needed i s none) ∙ ap (λ n. needed_from (k + 1) s ++ n ∷ []) same)

-- once a number is dropped none is needed, and the others stay kept
pub reopened_none : (k : ℕ) (s : List Standing) → needed_from k (map reopened s) ≡ []
reopened_none k [] = refl
reopened_none k (Open ∷ s) = reopened_none (k + 1) s
reopened_none k (Needed ∷ s) = reopened_none (k + 1) s
reopened_none k (Dropped ∷ s) = reopened_none (k + 1) s

reopened_kept : (s : List Standing) → kept_in (map reopened s) ≡ kept_in s
reopened_kept [] = refl
reopened_kept (Open ∷ s) = ap (λ ks. true ∷ ks) (reopened_kept s)
reopened_kept (Needed ∷ s) = ap (λ ks. true ∷ ks) (reopened_kept s)
reopened_kept (Dropped ∷ s) = ap (λ ks. false ∷ ks) (reopened_kept s)

pub dropped_kept : (s : List Standing) (i : ℕ) → kept_in (map reopened (set s i Dropped)) ≡ set (kept_in s) i false
dropped_kept s i = reopened_kept (set s i Dropped) ∙ map-set is_kept s i Dropped

pub needed_kept : (s : List Standing) (i : ℕ) → get_or s i Dropped ≡ Open → kept_in (set s i Needed) ≡ kept_in s
needed_kept s i is = map-set_same is_kept s i Needed Dropped (ap is_kept (sym is))

-- where nothing is open all that is kept is needed
pub all_kept_needed : (k : ℕ) (s : List Standing) → NoneStands Open 0 s → needed_from k s ≡ numbers_from k (kept_in s)
all_kept_needed k [] none = refl
all_kept_needed k (Open ∷ s) none = absurd (none 0 (omega arith) (omega arith) refl)
all_kept_needed k (Needed ∷ s) none = ap (λ ns. k ∷ ns) (all_kept_needed (k + 1) s (λ j from within is. none (suc j) (omega arith) (omega arith) is))
all_kept_needed k (Dropped ∷ s) none = all_kept_needed (k + 1) s (λ j from within is. none (suc j) (omega arith) (omega arith) is)

-- at first all are kept, and none is needed
pub fresh_kept : (n : ℕ) → kept_in (replicate n Open) ≡ replicate n true
fresh_kept zero = refl
fresh_kept (suc n) = ap (λ ks. true ∷ ks) (fresh_kept n)

pub fresh_needed : (k n : ℕ) → needed_from k (replicate n Open) ≡ []
fresh_needed k zero = refl
fresh_needed k (suc n) = fresh_needed (k + 1) n

pub fresh_all : (n : ℕ) → are_all (replicate n true) ≡ true
fresh_all zero = refl
fresh_all (suc n) = fresh_all n

-- without one of them they aren't all
pub not_all : (keep : List Bool) (i : ℕ) → i < length keep → are_all (set keep i false) ≡ false
not_all [] i within = absurd (omega arith)
not_all (b ∷ keep) zero within = refl
not_all (true ∷ keep) (suc i) within = not_all keep i (omega arith)
not_all (false ∷ keep) (suc i) within = refl

pub each_more : (P : ℕ → List ℕ → Type 0) (ns : List ℕ) (others : List (List ℕ)) (n : ℕ) (bytes : List ℕ) → EachHas P ns others → P n bytes → EachHas P (ns ++ n ∷ []) (others ++ bytes ∷ [])
each_more P [] [] n bytes h p = (p, tt)
each_more P [] (other ∷ others) n bytes h p = absurd h
each_more P (m ∷ ns) [] n bytes h p = absurd h
each_more P (m ∷ ns) (other ∷ others) n bytes h p = (h.0, each_more P ns others n bytes h.1 p)
