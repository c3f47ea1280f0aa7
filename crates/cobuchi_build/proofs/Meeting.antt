use Rattle.std.proofs.Common.{◌≡◌, inl, inr, ℕ, suc, ◌+◌, ◌-◌, ◌<◌, ◌≤◌, min, Bool, true, false, cond, List, [], ◌∷◌, ◌++◌, Some, drop, filter, get_or, length, slice_get, take, refl, sym, ◌∙◌, ap, subst, arith}
use Rattle.std.specs.Prelude.{fold}
use Rattle.std.specs.List.{position_or_len}
use Rattle.std.proofs.lemmas.Bool.{cond-true}
use Rattle.std.proofs.lemmas.List.{append-nil, length-drop, get_or_default, length-take, take-append-drop}
use Rattle.std.proofs.lemmas.List.Elements.{filter-append}
use Rattle.std.proofs.lemmas.Option.{get_or_from_slice_get}
use Rattle.std.proofs.lemmas.List.Sums.{fold-append, fold_more}
use Rattle.indexmap.specs.IndexSet.{insert_key}
use Rattle.ltl_formula.specs.declared.nodes.FormulaId.{FormulaId}
use Rattle.ltl_formula.specs.declared.nodes.Node.{Node}
use Rattle.ltl_formula.specs.declared.nodes.Node.TheVariants.{False}
use Rattle.ltl_formula.specs.Nodes.{node_at}
use Rattle.obligation_sets.specs.declared.sets.Cover.{Cover}
use Rattle.obligation_sets.specs.Ids.{ids_of}
use Rattle.obligation_sets.proofs.IdLists.{id, ids_of_more}
use Rattle.machine_model.specs.declared.automata.Edge.{Edge}
use Rattle.cobuchi_build.specs.declared.exploring.State.{State}
use Rattle.cobuchi_build.specs.Explored.{Explored, meeting, same_edge, same_state, state_after}
use Rattle.cobuchi_build.specs.Occurring.{marked_down, with_parts}
use Rattle.text_limits.specs.declared.AutomatonLimits.{AutomatonLimits}
use Rattle.cobuchi_build.specs.Sizes.{HasTooMany}
use Rattle.cobuchi_build.proofs.Growth.{IsPrefix-length}
use Rattle.cobuchi_build.proofs.Rounds.{GrowsTo, fold_grows}

pub same_explored : (a b : Explored) → a.states ≡ b.states → a.edges ≡ b.edges → a ≡ b
same_explored a b p q = λ i. record { states = p i; edges = q i }

module _ (untils : List FormulaId) (number counter : ℕ) where
  -- what was met, from the keys of the two sets
  pub met_is : (old new : Explored) (cover : Cover) (states : List State) (edges : List Edge) (target : State) (to : ℕ) → record { states = states; edges = edges } ≡ old → target ≡ state_after untils counter cover → to ≡ position_or_len (same_state target) states → new.states ≡ insert_key same_state states target → new.edges ≡ insert_key same_edge edges (record { from = number; cube = cover.cube; to = to }) → new ≡ meeting untils number counter old cover
  met_is old new cover states edges target to view goes place there joins =
      let same_states : states ≡ old.states = ap (λ (x : Explored). x.states) view in
      let same_edges : edges ≡ old.edges = ap (λ (x : Explored). x.edges) view in
      let at : to ≡ position_or_len (same_state (state_after untils counter cover)) old.states = place ∙ (λ i. position_or_len (same_state (goes i)) (same_states i)) in
      same_explored new (meeting untils number counter old cover) (there ∙ (λ i. insert_key same_state (same_states i) (goes i)))
      (joins ∙ (λ i. insert_key same_edge (same_edges i) (record { from = number; cube = cover.cube; to = at i })))

  pub fold_step : (found now new : Explored) (cs : List Cover) (i : ℕ) (c : Cover) → i < length cs → c ≡ get_or cs i c → now ≡ fold (meeting untils number counter) found (take i cs) → new ≡ meeting untils number counter now c → new ≡ fold (meeting untils number counter) found (take (i + 1) cs)
  fold_step found now new cs i c h is before after =
      after ∙ (λ j. meeting untils number counter (before j) (is j)) ∙ sym (fold_more (meeting untils number counter) found cs i c h)

  too_many-grown : (limits : AutomatonLimits) (a b : Explored) → GrowsTo a b → HasTooMany limits a → HasTooMany limits b
  too_many-grown limits a b g (inl h) = inl (omega (arith, IsPrefix-length a.states b.states g.states))
  too_many-grown limits a b g (inr h) = inr (omega (arith, IsPrefix-length a.edges b.edges g.edges))

  -- what is too large after some covers is too large after all
  pub too_many-all : (limits : AutomatonLimits) (found now : Explored) (cs : List Cover) (i : ℕ) (c : Cover) → i < length cs → c ≡ get_or cs i c → now ≡ fold (meeting untils number counter) found (take i cs) → HasTooMany limits (meeting untils number counter now c) → HasTooMany limits (fold (meeting untils number counter) found cs)
  too_many-all limits found now cs i c h is before large =
      let here : meeting untils number counter now c ≡ fold (meeting untils number counter) found (take (i + 1) cs) = fold_step found now (meeting untils number counter now c) cs i c h is before refl in
      let all : fold (meeting untils number counter) (fold (meeting untils number counter) found (take (i + 1) cs)) (drop (i + 1) cs) ≡ fold (meeting untils number counter) found cs =
      sym (fold-append (meeting untils number counter) found (take (i + 1) cs) (drop (i + 1) cs)) ∙ ap (fold (meeting untils number counter) found) (take-append-drop (i + 1) cs) in
      subst (HasTooMany limits) all
      (too_many-grown limits (fold (meeting untils number counter) found (take (i + 1) cs)) (fold (meeting untils number counter) (fold (meeting untils number counter) found (take (i + 1) cs)) (drop (i + 1) cs))
      (fold_grows untils number counter (fold (meeting untils number counter) found (take (i + 1) cs)) (drop (i + 1) cs)) (subst (HasTooMany limits) here large))

pub none_noted : (xs : List FormulaId) (id : FormulaId) (b : Bool) → b ≡ false → xs ≡ xs ++ cond b (id ∷ []) []
none_noted xs id b e = sym (append-nil xs) ∙ ap (λ t. xs ++ cond t (id ∷ []) []) (sym e)

pub sum_within : (xs : List FormulaId) (b r : ℕ) → b ≤ length xs → r ≤ length (take (length xs - b) (drop b xs)) → b + r ≤ length xs
sum_within xs b r h g =
    let e : length (take (length xs - b) (drop b xs)) ≡ min (length xs - b) (length xs - b) = length-take (length xs - b) (drop b xs) ∙ ap (min (length xs - b)) (length-drop b xs) in
    omega arith

-- the parts of one more formula are marked
pub marked_more : (ns : List Node) (place n : ℕ) (flags lent new : List Bool) (node : Node) (flag : Bool) → place ≡ suc n → flag ≡ get_or flags n flag → flag ≡ true → n < length flags → slice_get ns n ≡ Some node → lent ≡ flags → new ≡ with_parts lent node → marked_down ns n new ≡ marked_down ns place flags
marked_more ns place n flags lent new node flag e read set within is borrowed made =
    let on : get_or flags n false ≡ true = get_or_default flags n false flag within ∙ sym read ∙ set in
    ap (marked_down ns n)
    (made ∙ ap (λ (l : List Bool). with_parts l node) borrowed ∙ ap (with_parts flags) (sym (get_or_from_slice_get ns n node False is))
    ∙ sym (cond-true (get_or flags n false) (with_parts flags (node_at ns n)) flags on))
    ∙ ap (λ k. marked_down ns k flags) (sym e)

-- one more formula is noted
pub noted_more : (p : FormulaId → Bool) (flags : List Bool) (i : ℕ) (old new : List FormulaId) (b : Bool) → i < length flags → get_or flags i false ≡ b → old ≡ filter p (ids_of (take i flags)) → new ≡ old ++ filter p (cond b (id i ∷ []) []) → new ≡ filter p (ids_of (take (i + 1) flags))
noted_more p flags i old new b h flag before noted =
    noted ∙ ap (λ l. l ++ filter p (cond b (id i ∷ []) [])) before
    ∙ sym (ap (filter p) (ids_of_more flags i h ∙ ap (λ t. ids_of (take i flags) ++ cond t (id i ∷ []) []) flag) ∙ filter-append p (ids_of (take i flags)) (cond b (id i ∷ []) []))
