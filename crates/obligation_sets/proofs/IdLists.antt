use Rattle.std.proofs.Common.{◌≡◌, ℕ, zero, suc, ◌+◌, ◌<◌, ◌≤◌, Bool, true, false, cond, List, [], ◌∷◌, ◌++◌, get_or, length, take, refl, sym, ◌∙◌, ap, subst, inl, inr, arith, add-zero, zero-add}
use Rattle.std.specs.Prelude.{Contains}
use Rattle.std.proofs.lemmas.Bool.{false≢true}
use Rattle.std.proofs.lemmas.List.{length-take, take_more}
use Rattle.std_lemmas.proofs.Lists.{Contains-cases, Contains-head, Contains-later, Contains-none}
use Rattle.ltl_formula.specs.declared.nodes.FormulaId.{FormulaId}
use Rattle.obligation_sets.specs.Ids.{has_id, ids_from, ids_of, IdsRise}

abbrev pub id : ℕ → FormulaId
id k = record { 0 = k }

-- one more flag
pub ids_from-push : (k : ℕ) (flags : List Bool) (b : Bool) → ids_from k (flags ++ b ∷ []) ≡ ids_from k flags ++ cond b (id (k + length flags) ∷ []) []
ids_from-push k [] true = ap (λ n. id n ∷ []) (sym (add-zero k))
ids_from-push k [] false = refl
ids_from-push k (true ∷ flags) b = ap (λ ids. id k ∷ ids) (ids_from-push (suc k) flags b ∙ ap (λ n. ids_from (suc k) flags ++ cond b (id n ∷ []) []) (omega arith))
ids_from-push k (false ∷ flags) b = ids_from-push (suc k) flags b ∙ ap (λ n. ids_from (suc k) flags ++ cond b (id n ∷ []) []) (omega arith)

pub ids_of_more : (flags : List Bool) (i : ℕ) → i < length flags → ids_of (take (i + 1) flags) ≡ ids_of (take i flags) ++ cond (get_or flags i false) (id i ∷ []) []
ids_of_more flags i h =
    let len : length (take i flags) ≡ i = rw (length-take i flags) (omega arith) in
    ap ids_of (take_more flags i false h) ∙ ids_from-push 0 (take i flags) (get_or flags i false)
    ∙ ap (λ n. ids_of (take i flags) ++ cond (get_or flags i false) (id n ∷ []) []) (zero-add (length (take i flags)) ∙ len)

-- the ids of flags are at least the place where the flags begin, and they rise
from_least : (k : ℕ) (flags : List Bool) (j : ℕ) (d : FormulaId) → j < length (ids_from k flags) → k ≤ (get_or (ids_from k flags) j d).0
from_least k [] j d h = absurd (omega arith)
from_least k (true ∷ flags) zero d h = omega arith
from_least k (true ∷ flags) (suc j) d h = let rest : suc k ≤ (get_or (ids_from (suc k) flags) j d).0 = from_least (suc k) flags j d (omega arith) in omega arith
from_least k (false ∷ flags) j d h = let rest : suc k ≤ (get_or (ids_from (suc k) flags) j d).0 = from_least (suc k) flags j d h in omega arith

from_rise : (k : ℕ) (flags : List Bool) (i j : ℕ) (d : FormulaId) → i < j → j < length (ids_from k flags) → (get_or (ids_from k flags) i d).0 < (get_or (ids_from k flags) j d).0
from_rise k [] i j d less h = absurd (omega arith)
from_rise k (true ∷ flags) i zero d less h = absurd (omega arith)
from_rise k (true ∷ flags) zero (suc j) d less h = from_least (suc k) flags j d (omega arith)
from_rise k (true ∷ flags) (suc i) (suc j) d less h = from_rise (suc k) flags i j d (omega arith) (omega arith)
from_rise k (false ∷ flags) i j d less h = from_rise (suc k) flags i j d less h

pub ids_of-rise : (flags : List Bool) → IdsRise (ids_of flags)
ids_of-rise flags = record { rise = λ i j d less h. from_rise 0 flags i j d less h }

-- the ids of flags are those whose flag is set
from_flag : (k : ℕ) (flags : List Bool) (n : ℕ) → Contains (ids_from k flags) (id n) → (i : ℕ) × (n ≡ k + i) × (get_or flags i false ≡ true)
from_flag k [] n c = absurd (Contains-none (id n) c)
from_flag k (true ∷ flags) n c =
    elim (Contains-cases (id k) (ids_from (suc k) flags) (id n) c) [
      | inl here ↦ (0, ap (λ (f : FormulaId). f.0) (sym here) ∙ sym (add-zero k), refl)
      | inr there ↦ let r : (i : ℕ) × (n ≡ suc k + i) × (get_or flags i false ≡ true) = from_flag (suc k) flags n there in let e : n ≡ suc k + r.0 = r.1 in (suc r.0, omega arith, r.2)
    ]
from_flag k (false ∷ flags) n c =
    let r : (i : ℕ) × (n ≡ suc k + i) × (get_or flags i false ≡ true) = from_flag (suc k) flags n c in
    let e : n ≡ suc k + r.0 = r.1 in
    (suc r.0, omega arith, r.2)

pub flag_of_id : (flags : List Bool) (f : FormulaId) → Contains (ids_of flags) f → has_id flags f ≡ true
flag_of_id flags f c =
    let r : (i : ℕ) × (f.0 ≡ 0 + i) × (get_or flags i false ≡ true) = from_flag 0 flags f.0 c in
    let e : f.0 ≡ 0 + r.0 = r.1 in
    let same : f.0 ≡ r.0 = omega arith in
    ap (λ n. get_or flags n false) same ∙ r.2

from_id : (k : ℕ) (flags : List Bool) (i : ℕ) → get_or flags i false ≡ true → Contains (ids_from k flags) (id (k + i))
from_id k [] i e = absurd (false≢true e)
from_id k (true ∷ flags) zero e = rw (add-zero k) (Contains-head (id k) (ids_from (suc k) flags))
from_id k (false ∷ flags) zero e = absurd (false≢true e)
from_id k (true ∷ flags) (suc i) e = let same : k + suc i ≡ suc k + i = omega arith in rw same (Contains-later (id k) (ids_from (suc k) flags) (id (suc k + i)) (from_id (suc k) flags i e))
from_id k (false ∷ flags) (suc i) e = let same : k + suc i ≡ suc k + i = omega arith in rw same (from_id (suc k) flags i e)

pub id_of_flag : (flags : List Bool) (f : FormulaId) → has_id flags f ≡ true → Contains (ids_of flags) f
id_of_flag flags f e = rw (zero-add f.0) at (from_id 0 flags f.0 e)

pub rise_of : (flags : List Bool) (ids : List FormulaId) → ids ≡ ids_of flags → IdsRise ids
rise_of flags ids e = subst IdsRise (sym e) (ids_of-rise flags)
