-- States by their numbers in a list, and their edges.
use Rattle.std.proofs.Common.{◌≡◌, ◌==◌, ℕ, zero, suc, ◌+◌, ◌<◌, Bool, true, false, ◌&&◌, cond, eqb, ltb, List, [], ◌∷◌, length, get_or, map, refl, sym, ap, subst, ◌∙◌, arith, Some, None}
use Rattle.std.specs.Prelude.{Contains, unwrap_or}
use Rattle.std.specs.List.{position_or_len}
use Rattle.std.specs.Cmp.Lexicographic.{pointwise_decides}
use Rattle.std.proofs.lemmas.Bool.{eq-eqb, lt-ltb, ltb-true}
use Rattle.std.proofs.lemmas.List.{get_or-map, get_or_append_left, length-map}
use Rattle.std.proofs.lemmas.List.Elements.{Contains-append_left, Contains-append_right}
use Rattle.std.proofs.lemmas.List.Sums.{passes_at_first, position_or_len_is}
use Rattle.cobuchi_build.proofs.Sound.{same_state-decides}
use Rattle.obligation_sets.proofs.Distinct.{ids_decide}
use Rattle.std_lemmas.proofs.Lists.{Contains-map}
use Rattle.ltl_formula.specs.declared.nodes.FormulaId.{FormulaId}
use Rattle.ltl_formula.specs.declared.nodes.Node.{Node}
use Rattle.obligation_sets.specs.declared.sets.Covering.{Covering}
use Rattle.obligation_sets.specs.declared.sets.Cover.{Cover}
use Rattle.obligation_sets.specs.Ids.{same_id, same_ids}
use Rattle.obligation_sets.specs.Reduced.{covers_by}
use Rattle.machine_model.specs.Automaton.{rejects}
use Rattle.cobuchi_build.specs.declared.exploring.State.{State}
use Rattle.cobuchi_build.specs.Explored.{same_state}
use Rattle.cobuchi_build.specs.Occurring.{untils_of}
use Rattle.named_annotation.specs.NamedStates.{automaton_over, edge_of, edges_at, edges_from, number_of_state}

-- ---- being the same state

itself_parts : (s : State) → (same_ids s.set s.set && eqb s.counter s.counter) ≡ true
itself_parts s = λ i. (pointwise_decides {E = same_id} ids_decide s.set s.set).1 refl i && eq-eqb s.counter s.counter refl i

pub same_state-itself : (s : State) → same_state s s ≡ true
same_state-itself s = itself_parts s

-- ---- numbers

module _ (states : List State) where
  -- where a state's number is one of those named, it is the place at which it stands
  pub record IsPlaced (state : State) : Type 0 where
    pub within : number_of_state states state < length states
    pub at : (d : State) → get_or states (number_of_state states state) d ≡ state

  module _ (state : State) where
    abbrev first : ℕ
    first = position_or_len (same_state state) states

    number_by : (b : Bool) → ltb first (length states) ≡ b → number_of_state states state ≡ unwrap_or (cond b (Some first) None) (length states)
    number_by b e = ap (λ x. unwrap_or (cond x (Some first) None) (length states)) e

    placed_by : (b : Bool) → ltb first (length states) ≡ b → number_of_state states state < length states → IsPlaced state
    placed_by true e h =
        let is : number_of_state states state ≡ first = number_by true e in
        let within : first < length states = ltb-true first (length states) e in
        record {
          within = h;
          at = λ d.
              ap (λ n. get_or states n d) is
              ∙ sym (same_state-decides state (get_or states first d) (passes_at_first (same_state state) states d within));
        }
    placed_by false e h = absurd (let is : number_of_state states state ≡ length states = number_by false e in omega (arith, is, h))

    pub placed : number_of_state states state < length states → IsPlaced state
    placed h = placed_by (ltb first (length states)) refl h

    -- the first state has the number 0
    pub first_number : 0 < length states → ((d : State) → get_or states 0 d ≡ state) → number_of_state states state ≡ 0
    first_number some is =
        let here : first ≡ 0 =
        position_or_len_is (same_state state) states 0 state (omega arith) (λ k h. absurd (omega arith))
        (λ _. ap (same_state state) (is state) ∙ same_state-itself state) in
        let within : ltb first (length states) ≡ true = ap (λ n. ltb n (length states)) here ∙ lt-ltb 0 (length states) some in
        number_by true within ∙ here

-- ---- edges

module _ (ns : List Node) (untils : List FormulaId) (states : List State) where
  -- each cover of a state gives its edge
  pub edge_among : (n : ℕ) (more : List State) (i : ℕ) (state : State) (cover : Cover) → i < length more → get_or more i state ≡ state
      → Contains (covers_by Covering.Reduced ns state.set) cover → Contains (edges_from ns untils states n more) (edge_of untils states (n + i) state.counter cover)
  edge_among n [] i state cover h at there = absurd (omega arith)
  edge_among n (first ∷ more) zero state cover h at there =
      let own : Contains (edges_at ns untils states n state) (edge_of untils states n state.counter cover) =
      Contains-map (edge_of untils states n state.counter) (covers_by Covering.Reduced ns state.set) cover there in
      let place : n ≡ n + 0 = omega arith in
      subst (λ k. Contains (edges_from ns untils states n (first ∷ more)) (edge_of untils states k state.counter cover)) place
      (Contains-append_left (edges_at ns untils states n first) (edges_from ns untils states (suc n) more) (edge_of untils states n state.counter cover)
      (subst (λ (s : State). Contains (edges_at ns untils states n s) (edge_of untils states n state.counter cover)) (sym at) own))
  edge_among n (first ∷ more) (suc i) state cover h at there =
      let place : suc n + i ≡ n + suc i = omega arith in
      subst (λ k. Contains (edges_from ns untils states n (first ∷ more)) (edge_of untils states k state.counter cover)) place
      (Contains-append_right (edges_at ns untils states n first) (edges_from ns untils states (suc n) more) (edge_of untils states (suc n + i) state.counter cover)
      (edge_among (suc n) more i state cover (omega arith) at there))

-- and of the whole list
pub edge_at : (ns : List Node) (untils : List FormulaId) (states : List State) (i : ℕ) (state : State) (cover : Cover) → i < length states → get_or states i state ≡ state
    → Contains (covers_by Covering.Reduced ns state.set) cover → Contains (edges_from ns untils states 0 states) (edge_of untils states i state.counter cover)
edge_at ns untils states i state cover h at there =
    let place : 0 + i ≡ i = omega arith in
    subst (λ k. Contains (edges_from ns untils states 0 states) (edge_of untils states k state.counter cover)) place
    (edge_among ns untils states 0 states i state cover h at there)

-- ---- rejecting states

pub rejects_at : (ns : List Node) (f : FormulaId) (states : List State) (n : ℕ) (state : State) → n < length states → get_or states n state ≡ state
    → rejects (automaton_over ns f states) n ≡ (state.counter == length (untils_of ns f))
rejects_at ns f states n state h at =
    get_or_append_left (map (λ (s : State). s.counter == length (untils_of ns f)) states) (false ∷ []) false n
    (subst (λ m. n < m) (sym (length-map states (λ (s : State). s.counter == length (untils_of ns f)))) h)
    ∙ get_or-map (λ (s : State). s.counter == length (untils_of ns f)) states n state false h
    ∙ ap (λ (s : State). s.counter == length (untils_of ns f)) at
