use Rattle.std.proofs.Common.{◌≡◌, ℕ, zero, suc, ◌+◌, ◌<◌, ◌≤◌, ◌⊎◌, inl, inr, Bool, true, false, not, ◌&&◌, ◌||◌, cond, List, [], ◌∷◌, ◌++◌, Some, slice_get, drop, get_or, set, replicate, length, refl, sym, ◌∙◌, ap, subst, take, arith, get_or-set_other, get_or-set_same}
use Rattle.std.specs.Prelude.{Contains, fold}
use Rattle.std.proofs.lemmas.Bool.{cases_eq, false≢true}
use Rattle.std.proofs.lemmas.Bool.{cond-true}
use Rattle.std.proofs.lemmas.List.{length-set, take_all, take_at}
use Rattle.std.proofs.lemmas.Option.{get_or_from_slice_get}
use Rattle.std_lemmas.proofs.Booleans.{and_true}
use Rattle.std_lemmas.proofs.Lists.{Contains-cases, Contains-head, Contains-later, Contains-none, flag_within}
use Rattle.ltl_formula.specs.declared.nodes.FormulaId.{FormulaId}
use Rattle.ltl_formula.proofs.NodeEquality.{same_id_of}
use Rattle.obligation_sets.specs.Ids.{has_id, ids_of, with_id}
use Rattle.ltl_formula.specs.declared.nodes.Node.{Node}
use Rattle.ltl_formula.specs.declared.nodes.Node.TheVariants.{False}
use Rattle.ltl_formula.specs.Nodes.{node_at}
use Rattle.obligation_sets.specs.Reduced.{implied_down, implied_parts, without}
use Rattle.obligation_sets.proofs.IdLists.{id, ids_of_more}

-- a set with one formula more has what it had, and that formula
pub with_id-cases : (flags : List Bool) (f g : FormulaId) → has_id (with_id flags f) g ≡ true → (g ≡ f) ⊎ (has_id flags g ≡ true)
with_id-cases flags f g h =
    elim (cases_eq g.0 f.0) [
      | inl same ↦ inl (same_id_of g f same)
      | inr other ↦ inr (sym (get_or-set_other flags f.0 g.0 true false other) ∙ h)
    ]

set_true : (flags : List Bool) (i j : ℕ) → get_or flags j false ≡ true → get_or (set flags i true) j false ≡ true
set_true [] i j h = h
set_true (b ∷ flags) zero zero h = refl
set_true (b ∷ flags) zero (suc j) h = h
set_true (b ∷ flags) (suc i) zero h = h
set_true (b ∷ flags) (suc i) (suc j) h = set_true flags i j h

pub with_id-keeps : (flags : List Bool) (f g : FormulaId) → has_id flags g ≡ true → has_id (with_id flags f) g ≡ true
with_id-keeps flags f g h = set_true flags f.0 g.0 h

pub with_id-here : (flags : List Bool) (f : FormulaId) → f.0 < length flags → has_id (with_id flags f) f ≡ true
with_id-here flags f h = get_or-set_same flags f.0 true false h

-- a formula of a set has a flag
pub has_id-within : (flags : List Bool) (f : FormulaId) → has_id flags f ≡ true → f.0 < length flags
has_id-within flags f h = flag_within flags f.0 h

none_set : (n i : ℕ) → get_or (replicate n false) i false ≡ true → ⊥
none_set zero i h = false≢true h
none_set (suc n) zero h = false≢true h
none_set (suc n) (suc i) h = none_set n i h

pub has_id-none : (n : ℕ) (f : FormulaId) → has_id (replicate n false) f ≡ true → ⊥
has_id-none n f h = none_set n f.0 h

-- the flags of some more formulas
pub all-cases : (flags : List Bool) (gs : List FormulaId) (g : FormulaId) → has_id (fold with_id flags gs) g ≡ true → Contains gs g ⊎ (has_id flags g ≡ true)
all-cases flags [] g h = inr h
all-cases flags (f ∷ gs) g h =
    elim (all-cases (with_id flags f) gs g h) [
      | inl later ↦ inl (Contains-later f gs g later)
      | inr before ↦ elim (with_id-cases flags f g before) [
        | inl same ↦ inl (subst (λ (x : FormulaId). Contains (x ∷ gs) g) same (Contains-head g gs))
        | inr old ↦ inr old
      ]
    ]

pub all-keeps : (flags : List Bool) (gs : List FormulaId) (g : FormulaId) → has_id flags g ≡ true → has_id (fold with_id flags gs) g ≡ true
all-keeps flags [] g h = h
all-keeps flags (f ∷ gs) g h = all-keeps (with_id flags f) gs g (with_id-keeps flags f g h)

pub all-here : (flags : List Bool) (gs : List FormulaId) (g : FormulaId) → g.0 < length flags → Contains gs g → has_id (fold with_id flags gs) g ≡ true
all-here flags [] g within c = absurd (Contains-none g c)
all-here flags (f ∷ gs) g within c =
    let len : length (with_id flags f) ≡ length flags = length-set flags f.0 true in
    elim (Contains-cases f gs g c) [
      | inl same ↦ all-keeps (with_id flags f) gs g (subst (λ (x : FormulaId). has_id (with_id flags x) g ≡ true) (sym same) (with_id-here flags g within))
      | inr later ↦ all-here (with_id flags f) gs g (omega arith) later
    ]

pub fold_length : (flags : List Bool) (gs : List FormulaId) → length (fold with_id flags gs) ≡ length flags
fold_length flags [] = refl
fold_length flags (g ∷ gs) = fold_length (with_id flags g) gs ∙ length-set flags g.0 true

pub without-at : (flags others : List Bool) (i : ℕ) → get_or (without flags others) i false ≡ (get_or flags i false && not (get_or others i false))
without-at [] others i = refl
without-at (b ∷ flags) [] i = and_true (get_or (b ∷ flags) i false)
without-at (b ∷ flags) (o ∷ others) zero = refl
without-at (b ∷ flags) (o ∷ others) (suc i) = without-at flags others i

pub without_none : (flags : List Bool) → without flags [] ≡ flags
without_none [] = refl
without_none (b ∷ flags) = refl

length-without : (flags others : List Bool) → length (without flags others) ≡ length flags
length-without [] others = refl
length-without (b ∷ flags) [] = refl
length-without (b ∷ flags) (o ∷ others) = let e : length (without flags others) ≡ length flags = length-without flags others in omega arith

-- what a pass over all flags leaves of them
pub without_taken : (flags others : List Bool) (n : ℕ) → length flags ≤ n → take n (without flags others) ≡ without flags others
without_taken flags others n h = take_all n (without flags others) (let e : length (without flags others) ≡ length flags = length-without flags others in omega arith)

-- one more formula of such a set is put behind the others, or not
pub left_step : (flags others : List Bool) (i : ℕ) (old new : List FormulaId) (b : Bool) → i < length flags → b ≡ (get_or flags i false && not (get_or others i false)) → old ≡ ids_of (take i (without flags others)) → new ≡ old ++ cond b (id i ∷ []) []
    → new ≡ ids_of (take (i + 1) (without flags others))
left_step flags others i old new b h stays before pushed =
    let more : i < length (without flags others) = let e : length (without flags others) ≡ length flags = length-without flags others in omega arith in
    pushed ∙ ap (λ ids. ids ++ cond b (id i ∷ []) []) before ∙ ap (λ t. ids_of (take i (without flags others)) ++ cond t (id i ∷ []) []) (stays ∙ sym (without-at flags others i))
    ∙ sym (ids_of_more (without flags others) i more)

-- what a slice of a Vec was written to, read back
pub written_back : (new old : List Bool) (n : ℕ) → length new ≡ length old → n ≡ length old → take n (new ++ drop (length new) old) ≡ new
written_back new old n same e = take_at new (drop (length new) old) n (same ∙ sym e)

-- the implied parts of one more formula are marked
pub implied_step : (ns : List Node) (left : List Bool) (place n : ℕ) (flags lent new : List Bool) (node : Node) → place ≡ suc n → (get_or left n false || get_or flags n false) ≡ true → slice_get ns n ≡ Some node → lent ≡ flags → new ≡ fold with_id lent (implied_parts node)
    → implied_down ns left n new ≡ implied_down ns left place flags
implied_step ns left place n flags lent new node e held is borrowed made =
    ap (implied_down ns left n)
    (made ∙ ap (λ (l : List Bool). fold with_id l (implied_parts node)) borrowed
    ∙ ap (λ (m : Node). fold with_id flags (implied_parts m)) (sym (get_or_from_slice_get ns n node False is))
    ∙ sym (cond-true (get_or left n false || get_or flags n false) (fold with_id flags (implied_parts (node_at ns n))) flags held))
    ∙ ap (λ k. implied_down ns left k flags) (sym e)
