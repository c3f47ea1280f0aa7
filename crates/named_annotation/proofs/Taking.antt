-- The words of a line, and the state that they name.
use Rattle.std.proofs.Common.{◌≡◌, ℕ, zero, suc, ◌+◌, ◌<◌, ◌≤◌, Bool, true, false, ◌&&◌, not, cond, List, [], ◌∷◌, ◌++◌, length, get_or, map, Option, Some, None, refl, sym, ap, ◌∙◌, arith, nat_lt}
use Rattle.std.specs.Prelude.{if◌then◌else◌, option_map}
use Rattle.std.specs.List.{list_any}
use Rattle.std.specs.Option.{option_and_then, option_map_or}
use Rattle.std.proofs.lemmas.Bool.{and_parts, ltb-true}
use Rattle.std.proofs.lemmas.List.{map_push}
use Rattle.indexmap.specs.IndexSet.{insert_key}
use Rattle.ltl_formula.specs.declared.nodes.FormulaId.{FormulaId}
use Rattle.ltl_formula.specs.declared.nodes.Node.{Node}
use Rattle.obligation_sets.specs.declared.sets.Covering.{Covering}
use Rattle.obligation_sets.specs.declared.sets.Cover.{Cover}
use Rattle.obligation_sets.specs.Ids.{IdsRise}
use Rattle.obligation_sets.specs.Reduced.{covers_by}
use Rattle.cobuchi_build.specs.declared.exploring.State.{State}
use Rattle.cobuchi_build.specs.Explored.{same_state, start_state}
use Rattle.aiger_text.specs.Words.{cut_at}
use Rattle.aiger_text.proofs.Scanning.{cuts, no_cut}
use Rattle.annot_check.specs.AnnotationText.{number_in}
use Rattle.named_annotation.specs.NamedText.{follows, has_few_leaves, is_numbered, is_of_formula, numbers_behind, numbers_from, rises, state_from, state_of, words_of}
use Rattle.named_annotation.specs.Parts.{formula_state, next_of}

-- ---- numbers

-- one number more
module _ (rest word behind : List ℕ) (done : List ℕ) (whole : Option (List ℕ)) (cut : cut_at 32 rest ≡ Some (word, behind))
    (so_far : numbers_from done (words_of rest) ≡ whole) where
  here : numbers_from done (word ∷ words_of behind) ≡ whole
  here = sym (ap (numbers_from done) (cuts 32 rest word behind cut).pieces) ∙ so_far

  pub number_more : (n : ℕ) → number_in word ≡ Some n → numbers_from (done ++ n ∷ []) (words_of behind) ≡ whole
  number_more n is = sym (ap (λ o. option_map_or (λ n. numbers_from (done ++ n ∷ []) (words_of behind)) o None) is) ∙ here

  pub number_bad : number_in word ≡ None → whole ≡ None
  number_bad is = sym here ∙ ap (λ o. option_map_or (λ n. numbers_from (done ++ n ∷ []) (words_of behind)) o None) is

  pub number_shorter : length behind < length rest
  number_shorter = (let shorter : length rest ≡ length word + 1 + length behind = (cuts 32 rest word behind cut).shorter in omega (arith, shorter))

-- the last number
module _ (rest : List ℕ) (done : List ℕ) (whole : Option (List ℕ)) (cut : cut_at 32 rest ≡ None) (so_far : numbers_from done (words_of rest) ≡ whole) where
  last_here : numbers_from done (rest ∷ []) ≡ whole
  last_here = sym (ap (numbers_from done) (no_cut 32 rest cut)) ∙ so_far

  pub number_last : (n : ℕ) → number_in rest ≡ Some n → whole ≡ Some (done ++ n ∷ [])
  number_last n is = sym last_here ∙ ap (λ o. option_map_or (λ n. numbers_from (done ++ n ∷ []) []) o None) is

  pub number_last_bad : number_in rest ≡ None → whole ≡ None
  number_last_bad is = sym last_here ∙ ap (λ o. option_map_or (λ n. numbers_from (done ++ n ∷ []) []) o None) is

-- ---- ids that rise

pub rises_short : (ids : List FormulaId) → length ids ≤ 1 → rises ids ≡ true
rises_short [] h = refl
rises_short (g ∷ []) h = refl
rises_short (g ∷ k ∷ more) h = absurd (omega arith)

-- the first is below all others
first_below : (g : FormulaId) (more : List FormulaId) → rises (g ∷ more) ≡ true → (j : ℕ) (d : FormulaId) → j < length more → g.0 < (get_or more j d).0
first_below g [] is j d h = absurd (omega arith)
first_below g (k ∷ more) is zero d h = ltb-true g.0 k.0 (and_parts (nat_lt g.0 k.0) (rises (k ∷ more)) is).0
first_below g (k ∷ more) is (suc j) d h =
    let parts = and_parts (nat_lt g.0 k.0) (rises (k ∷ more)) is in
    let less : g.0 < k.0 = ltb-true g.0 k.0 parts.0 in
    let further : k.0 < (get_or more j d).0 = first_below k more parts.1 j d (omega arith) in
    omega (arith, less, further)

rest_rises : (g : FormulaId) (more : List FormulaId) → rises (g ∷ more) ≡ true → rises more ≡ true
rest_rises g [] is = refl
rest_rises g (k ∷ more) is = (and_parts (nat_lt g.0 k.0) (rises (k ∷ more)) is).1

in_order : (ids : List FormulaId) → rises ids ≡ true → (i j : ℕ) (d : FormulaId) → i < j → j < length ids → (get_or ids i d).0 < (get_or ids j d).0
in_order [] is i j d less h = absurd (omega arith)
in_order (g ∷ more) is zero zero d less h = absurd (omega arith)
in_order (g ∷ more) is zero (suc j) d less h = first_below g more is j d (omega arith)
in_order (g ∷ more) is (suc i) zero d less h = absurd (omega arith)
in_order (g ∷ more) is (suc i) (suc j) d less h = in_order more (rest_rises g more is) i j d (omega arith) (omega arith)

pub ids_rise : (ids : List FormulaId) → rises ids ≡ true → IdsRise ids
ids_rise ids is = record { rise = in_order ids is }

-- ---- the state of a line

module _ (ns : List Node) (f : FormulaId) (done : List State) (line : List ℕ) where
  module _ (numbers : List ℕ) (named : numbers_behind line ≡ Some numbers) where
    -- by what the four tests say
    tested : (a b c d : Bool) → is_numbered (length done) numbers ≡ a → is_of_formula ns f (state_of numbers) ≡ b → follows done (start_state f) (state_of numbers) ≡ c
        → has_few_leaves ns (state_of numbers) ≡ d
        → next_of ns f done line ≡ option_map (λ state. done ++ state ∷ []) (cond (((a && b) && c) && d) (Some (state_of numbers)) None)
    tested a b c d is_a is_b is_c is_d =
        ap (λ o. option_map (λ state. done ++ state ∷ []) (option_and_then (state_from ns f done) o)) named
        ∙ (λ i. option_map (λ state. done ++ state ∷ []) (cond (((is_a i && is_b i) && is_c i) && is_d i) (Some (state_of numbers)) None))

    pub not_next : is_numbered (length done) numbers ≡ true → is_of_formula ns f (state_of numbers) ≡ true → follows done (start_state f) (state_of numbers) ≡ false
        → next_of ns f done line ≡ None
    not_next a b fails = tested true true false (has_few_leaves ns (state_of numbers)) a b fails refl

    pub one_more : is_numbered (length done) numbers ≡ true → is_of_formula ns f (state_of numbers) ≡ true → follows done (start_state f) (state_of numbers) ≡ true
        → has_few_leaves ns (state_of numbers) ≡ true → next_of ns f done line ≡ Some (done ++ state_of numbers ∷ [])
    one_more a b c d = tested true true true true a b c d

-- ---- what the tests of a state tell

-- its ids rise
pub rises_of : (ns : List Node) (f : FormulaId) (state : State) → is_of_formula ns f state ≡ true → IdsRise state.set
rises_of ns f state is = ids_rise state.set (and_parts _ _ (and_parts _ _ is).0).0

-- the state that is made is that of its numbers
module _ (ns : List Node) (f : FormulaId) (numbers : List ℕ) (state : State) where
  pub record IsMadeOf : Type 0 where
    pub of_formula : is_of_formula ns f (state_of numbers) ≡ true
    pub same : state ≡ state_of numbers

  made_by : (b : Bool) → is_of_formula ns f (state_of numbers) ≡ b → (if b then Some (state_of numbers) else None) ≡ Some state → IsMadeOf
  made_by true e is = record { of_formula = e; same = (let same : state_of numbers ≡ state = cc in sym same) }
  made_by false e is = absurd (cc)

  pub made_of : formula_state ns f numbers ≡ Some state → IsMadeOf
  made_of is = made_by (is_of_formula ns f (state_of numbers)) refl is

-- one that may follow goes behind the others
inserted_by : (done keys : List State) (state : State) (b : Bool) → list_any (same_state state) done ≡ b → not b ≡ true
    → keys ≡ (if b then done else done ++ state ∷ []) → keys ≡ done ++ state ∷ []
inserted_by done keys state true e free is = absurd (cc)
inserted_by done keys state false e free is = is

pub inserted : (done keys : List State) (start state : State) → follows done start state ≡ true → keys ≡ insert_key same_state done state → keys ≡ done ++ state ∷ []
inserted done keys start state fits is = inserted_by done keys state (list_any (same_state state) done) refl (and_parts _ _ fits).1 is

-- the covers with those of one state more
pub covers_push : {V : Type 0} (items : V → List Cover) (ns : List Node) (old new : List V) (own : V) (done keys : List State) (state : State)
    → map items old ≡ map (λ (s : State). covers_by Covering.Reduced ns s.set) done → new ≡ old ++ own ∷ [] → items own ≡ covers_by Covering.Reduced ns state.set
    → keys ≡ done ++ state ∷ [] → map items new ≡ map (λ (s : State). covers_by Covering.Reduced ns s.set) keys
covers_push {V = V} items ns old new own done keys state so_far pushed are named =
    ap (λ (vs : List V). map items vs) pushed ∙ map_push items old own
    ∙ (λ i. so_far i ++ are i ∷ [])
    ∙ sym (map_push (λ (s : State). covers_by Covering.Reduced ns s.set) done state)
    ∙ ap (map (λ (s : State). covers_by Covering.Reduced ns s.set)) (sym named)
