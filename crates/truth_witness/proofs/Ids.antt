-- The ids that occur: the formula's own is one, and parts of what occurs do.
use Rattle.std.proofs.Common.{◌≡◌, ◌≢◌, ℕ, zero, suc, ◌+◌, ◌<◌, ◌≤◌, Bool, true, false, List, [], ◌∷◌, length, get_or, refl, sym, ap, ◌∙◌, arith, inl, inr}
use Rattle.std.specs.Prelude.{◌⊎◌, nat_eq}
use Rattle.std.specs.List.{list_any}
use Rattle.std.proofs.lemmas.Bool.{cond_both, eq-eqb, eqb-true, cases_lt, cases_eq, true≢false, or_left, or_right}
use Rattle.std.proofs.lemmas.List.{get_or_past}
use Rattle.ltl_formula.specs.declared.nodes.FormulaId.{FormulaId}
use Rattle.ltl_formula.specs.declared.nodes.Node.{Node}
use Rattle.ltl_formula.specs.declared.nodes.Node.TheVariants.{True, False, Signal, Not, Next, Finally, Globally, And, Or, Implies, Equiv, Until, Release, WeakUntil}
use Rattle.ltl_formula.specs.Tree.Tree.{falsity}
use Rattle.ltl_formula.specs.Nodes.{IsNodeList, PartsBelow, node_at, tree_at, tree_of, trees_of}
use Rattle.ltl_formula.proofs.Trees.{length-trees_after, tree_at-node}
use Rattle.truth_witness.specs.Frames.{as_id}
use Rattle.truth_witness.specs.Variables.{parts_of, is_part_of_one, with_parts, occurring, place_of}

-- the number stands in the list
abbrev pub In : ℕ → List ℕ → Type 0
In n [] = ⊥
In n (m ∷ ms) = (m ≡ n) ⊎ In n ms

any_in : (P : ℕ → Bool) (n : ℕ) (ms : List ℕ) → In n ms → P n ≡ true → list_any P ms ≡ true
any_in P n [] is h = absurd is
any_in P n (m ∷ ms) (inl e) h = or_left (P m) (list_any P ms) (ap P e ∙ h)
any_in P n (m ∷ ms) (inr is) h = or_right (P m) (list_any P ms) (any_in P n ms is h)

one_below : (n a : ℕ) (b : FormulaId) → b.0 < n → In a (b.0 ∷ []) → a < n
one_below n a b below (inl e) = omega arith
one_below n a b below (inr is) = absurd is

two_below : (n a : ℕ) (b c : FormulaId) → (b.0 < n) × (c.0 < n) → In a (b.0 ∷ c.0 ∷ []) → a < n
two_below n a b c below (inl e) = let h : b.0 < n = below.0 in omega arith
two_below n a b c below (inr is) = one_below n a c below.1 is

-- parts of a node have smaller ids
part_below : (n a : ℕ) (node : Node) → PartsBelow n node → In a (parts_of node) → a < n
part_below n a True below is = absurd is
part_below n a False below is = absurd is
part_below n a (Signal s) below is = absurd is
part_below n a (Not b) below is = one_below n a b below is
part_below n a (Next b) below is = one_below n a b below is
part_below n a (Finally b) below is = one_below n a b below is
part_below n a (Globally b) below is = one_below n a b below is
part_below n a (And b c) below is = two_below n a b c below is
part_below n a (Or b c) below is = two_below n a b c below is
part_below n a (Implies b c) below is = two_below n a b c below is
part_below n a (Equiv b c) below is = two_below n a b c below is
part_below n a (Until b c) below is = two_below n a b c below is
part_below n a (Release b c) below is = two_below n a b c below is
part_below n a (WeakUntil b c) below is = two_below n a b c below is

module _ (nodes : List Node) (list : IsNodeList nodes) where
  still_in : (n g : ℕ) (ids : List ℕ) → In g ids → In g (with_parts nodes n ids)
  still_in zero g ids is = is
  still_in (suc n) g ids is =
      cond_both (is_part_of_one nodes ids n) (n ∷ ids) ids (λ more. In g (with_parts nodes n more))
      (λ _. still_in n g (n ∷ ids) (inr is)) (λ _. still_in n g ids is)

  -- where the parts from n on of what stands stand, all parts stand at the end
  all_closed : (n : ℕ) (ids : List ℕ) → ((g a : ℕ) → In g ids → In a (parts_of (node_at nodes g)) → n ≤ a → In a ids)
      → (g a : ℕ) → In g (with_parts nodes n ids) → In a (parts_of (node_at nodes g)) → In a (with_parts nodes n ids)
  all_closed zero ids closed = λ g a is part. closed g a is part (omega arith)
  all_closed (suc n) ids closed =
      cond_both (is_part_of_one nodes ids n) (n ∷ ids) ids
      (λ more. (g a : ℕ) → In g (with_parts nodes n more) → In a (parts_of (node_at nodes g)) → In a (with_parts nodes n more))
      (λ _. all_closed n (n ∷ ids) with_it) (λ none. all_closed n ids (without_it none))
    where
      with_it : (g a : ℕ) → In g (n ∷ ids) → In a (parts_of (node_at nodes g)) → n ≤ a → In a (n ∷ ids)
      with_it g a (inl e) part high =
          let below : a < g = part_below g a (node_at nodes g) (list.parts_first g) part in
          absurd (omega arith)
      with_it g a (inr is) part high = elim (cases_eq n a) [
        | inl e ↦ inl e
        | inr apart ↦ let ne : n ≢ a = apart in inr (closed g a is part (omega arith))
      ]

      without_it : is_part_of_one nodes ids n ≡ false → (g a : ℕ) → In g ids → In a (parts_of (node_at nodes g)) → n ≤ a → In a ids
      without_it none g a is part high = elim (cases_eq n a) [
        | inl e ↦
            absurd (true≢false (sym (any_in (λ g. list_any (nat_eq n) (parts_of (node_at nodes g))) g ids is
            (any_in (nat_eq n) a (parts_of (node_at nodes g)) part (eq-eqb n a e))) ∙ none))
        | inr apart ↦ let ne : n ≢ a = apart in closed g a is part (omega arith)
      ]

  -- the formula's own id occurs
  pub own_occurs : (f : FormulaId) → In f.0 (occurring nodes f)
  own_occurs f = still_in f.0 f.0 (f.0 ∷ []) (inl refl)

  -- parts of what occurs do
  pub parts_occur : (f : FormulaId) (g a : ℕ) → In g (occurring nodes f) → In a (parts_of (node_at nodes g)) → In a (occurring nodes f)
  parts_occur f = all_closed f.0 (f.0 ∷ []) first
    where
      first : (g a : ℕ) → In g (f.0 ∷ []) → In a (parts_of (node_at nodes g)) → f.0 ≤ a → In a (f.0 ∷ [])
      first g a (inl e) part high =
          let below : a < g = part_below g a (node_at nodes g) (list.parts_first g) part in
          absurd (omega arith)
      first g a (inr is) part high = absurd is

  -- the tree of an id is that of its node, also past the end
  pub tree_of_node : (g : ℕ) → tree_at nodes (as_id g) ≡ tree_of (trees_of nodes) (node_at nodes g)
  tree_of_node g = elim (cases_lt g (length nodes)) [
    | inl within ↦ tree_at-node nodes g within (list.parts_first g)
    | inr past ↦
        let long : length (trees_of nodes) ≡ 0 + length nodes = length-trees_after [] nodes in
        get_or_past (trees_of nodes) g falsity (omega arith) ∙ ap (tree_of (trees_of nodes)) (sym (get_or_past nodes g False past))
  ]

-- what stands in a list stands at its place
pub place_within : (g : ℕ) (ids : List ℕ) → In g ids → place_of g ids < length ids
place_within g [] is = absurd is
place_within g (m ∷ ms) is =
    cond_both (nat_eq g m) 0 (suc (place_of g ms)) (λ k. k < suc (length ms)) (λ _. omega arith)
    (λ apart. let more : place_of g ms < length ms = place_within g ms (others is apart) in omega arith)
  where
    others : (m ≡ g) ⊎ In g ms → nat_eq g m ≡ false → In g ms
    others (inl e) apart = absurd (true≢false (sym (eq-eqb g m (sym e)) ∙ apart))
    others (inr is) apart = is

pub place_is : (g : ℕ) (ids : List ℕ) → In g ids → get_or ids (place_of g ids) 0 ≡ g
place_is g [] is = absurd is
place_is g (m ∷ ms) is =
    cond_both (nat_eq g m) 0 (suc (place_of g ms)) (λ k. get_or (m ∷ ms) k 0 ≡ g) (λ same. sym (eqb-true g m same))
    (λ apart. place_is g ms (others is apart))
  where
    others : (m ≡ g) ⊎ In g ms → nat_eq g m ≡ false → In g ms
    others (inl e) apart = absurd (true≢false (sym (eq-eqb g m (sym e)) ∙ apart))
    others (inr is) apart = is
