-- What is marked while ids are listed, going down.
use Rattle.std.proofs.Common.{◌≡◌, ℕ, suc, ◌-◌, ◌<◌, Bool, true, false, List, [], ◌∷◌, ◌++◌, ◌||◌, length, get_or, refl, sym, ap, subst, ◌∙◌, arith, inl, inr}
use Rattle.std.specs.Prelude.{reverse, replicate, slice_get, Some, nat_eq}
use Rattle.std.specs.List.{list_any}
use Rattle.std.proofs.lemmas.Bool.{cases_lt, cond-true}
use Rattle.std.proofs.lemmas.List.{get_or-replicate, get_or_past, length-replicate, reverse-append}
use Rattle.std.proofs.lemmas.Option.{get_or_from_slice_get}
use Rattle.ltl_formula.specs.declared.nodes.FormulaId.{FormulaId}
use Rattle.ltl_formula.specs.declared.nodes.Node.{Node}
use Rattle.ltl_formula.specs.declared.nodes.Node.TheVariants.{False}
use Rattle.ltl_formula.specs.Nodes.{node_at}
use Rattle.truth_witness.specs.Variables.{is_part_of_one, occurring, parts_of, with_parts}
use Rattle.witness_clauses.specs.Marks.{AddsMarks, AreMarked}

unmarked : (n k : ℕ) → get_or (replicate n false) k false ≡ false
unmarked n k = elim (cases_lt k n) [
  | inl within ↦ get_or-replicate n k false false within
  | inr past ↦
      let long : length (replicate n false) ≡ n = length-replicate n false in
      get_or_past (replicate n false) k false (omega arith)
]

-- the parts of one more node are marked
more_marked : (nodes : List Node) (ids : List ℕ) (n : ℕ) (node : Node) (old new : List Bool) → AreMarked nodes ids old → slice_get nodes n ≡ Some node
    → AddsMarks old new (parts_of node) → AreMarked nodes (n ∷ ids) new
more_marked nodes ids n node old new before at adds = record {
  marked = λ k.
      adds.marked k
      ∙ ap (λ m. list_any (nat_eq k) (parts_of m) || get_or old k false) (sym (get_or_from_slice_get nodes n node False at))
      ∙ ap (λ b. list_any (nat_eq k) (parts_of (node_at nodes n)) || b) (before.marked k);
}

last_first : (ids : List ℕ) (n : ℕ) → reverse (ids ++ n ∷ []) ≡ n ∷ reverse ids
last_first ids n = reverse-append ids (n ∷ [])

pub record Lists (nodes : List Node) (f : FormulaId) (n : ℕ) (ids : List ℕ) (marks : List Bool) : Type 0 where
  pub marked : AreMarked nodes (reverse ids) marks
  pub count : length marks ≡ length nodes
  pub whole : with_parts nodes n (reverse ids) ≡ occurring nodes f

pub lists_first : (nodes : List Node) (f : FormulaId) (node : Node) (ids : List ℕ) (old new : List Bool) → old ≡ replicate (length nodes) false
    → slice_get nodes f.0 ≡ Some node → AddsMarks old new (parts_of node) → ids ≡ [] ++ f.0 ∷ [] → Lists nodes f f.0 ids new
lists_first nodes f node ids old new none at adds listed = rw listed record {
  marked = more_marked nodes [] f.0 node old new (record { marked = λ k. ap (λ marks. get_or marks k false) none ∙ unmarked (length nodes) k }) at adds;
  count = adds.length_kept ∙ ap length none ∙ length-replicate (length nodes) false;
  whole = refl;
}

pub lists_more : (nodes : List Node) (f : FormulaId) (n : ℕ) (node : Node) (ids more : List ℕ) (old new : List Bool) → 0 < n → Lists nodes f n ids old
    → get_or old (n - 1) false ≡ true → slice_get nodes (n - 1) ≡ Some node → AddsMarks old new (parts_of node) → more ≡ ids ++ (n - 1) ∷ [] → Lists nodes f (n - 1) more new
lists_more nodes f n node ids more old new some before on at adds listed = record {
  marked = subst (λ xs. AreMarked nodes xs new) (sym reversed) (more_marked nodes (reverse ids) (n - 1) node old new before.marked at adds);
  count = adds.length_kept ∙ before.count;
  whole = ap (with_parts nodes (n - 1)) reversed ∙ step (n - 1) (omega arith) on;
}
  where
    reversed : reverse more ≡ (n - 1) ∷ reverse ids
    reversed = ap reverse listed ∙ last_first ids (n - 1)

    step : (m : ℕ) → suc m ≡ n → get_or old m false ≡ true → with_parts nodes m (m ∷ reverse ids) ≡ occurring nodes f
    step m e is =
        sym (ap (with_parts nodes m) (cond-true (is_part_of_one nodes (reverse ids) m) (m ∷ reverse ids) (reverse ids) (sym (before.marked.marked m) ∙ is)))
        ∙ ap (λ k. with_parts nodes k (reverse ids)) e ∙ before.whole
