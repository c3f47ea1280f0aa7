-- The untils that occur, and that each of them is just again and again: it is false, or its right part true.
use Rattle.std.proofs.Common.{◌≡◌, ℕ, ◌+◌, ◌^◌, ◌≤◌, Bool, true, false, not, ◌||◌, List, [], ◌∷◌, length, get_or, refl, sym, ap, subst, ◌∙◌, arith, inl, inr}
use Rattle.std.specs.Prelude.{◌⊎◌, All}
use Rattle.std.specs.List.{flat_map}
use Rattle.std.proofs.lemmas.Bool.{cases_Bool, or_left, or_right}
use Rattle.std.proofs.lemmas.List.Elements.{All-nil, All-cons, All-append, All-take}
use Rattle.letters_and_lassos.specs.Word.{Word}
use Rattle.letters_and_lassos.proofs.Positions.{after-add}
use Rattle.ltl_formula.specs.declared.nodes.FormulaId.{FormulaId}
use Rattle.ltl_formula.specs.declared.nodes.Node.{Node}
use Rattle.ltl_formula.specs.declared.nodes.Node.TheVariants.{True, False, Signal, Not, Next, Finally, Globally, And, Or, Implies, Equiv, Until, Release, WeakUntil}
use Rattle.ltl_formula.specs.Nodes.{IsNodeList, node_at, tree_of, trees_of, pick}
use Rattle.ltl_formula.specs.Truth.{holds, until_at}
use Rattle.ltl_formula.specs.Laws.{Comes}
use Rattle.ltl_formula.proofs.Ahead.{until_at-gives}
use Rattle.aiger_text.specs.Circuit.{Valuation, IsCircuitRun, literal_value}
use Rattle.aiger_text.specs.CircuitType.{IsCircuit}
use Rattle.truth_witness.specs.Witness.{Part, Claim}
use Rattle.truth_witness.specs.Variables.{parts_of, ids, top_literal, truth_literal}
use Rattle.truth_witness.specs.Frames.{as_id}
use Rattle.truth_witness.specs.Falls.{Awaited, awaited_in, untils, named_untils}
use Rattle.truth_witness.specs.Proved.{IsWitnessFor}
use Rattle.truth_witness.proofs.Ids.{In, parts_occur, tree_of_node}
use Rattle.truth_witness.proofs.Within.{truth_within}
use Rattle.truth_witness.proofs.Rows.{position, the_row, row_truth}
use Rattle.truth_witness.proofs.Comparing.{IsOfFrameBoth}

-- which until it is
pub record IsUntil (x : Claim) (u : Awaited) : Type 0 where
  pub id : ℕ
  pub left : FormulaId
  pub right : FormulaId
  pub occurs : In id (ids x)
  pub right_occurs : In right.0 (ids x)
  pub node : node_at x.nodes id ≡ Until left right
  pub until_is : u.until ≡ truth_literal x (as_id id)
  pub right_is : u.right ≡ truth_literal x right

module _ (x : Claim) (list : IsNodeList x.nodes) where
  in_node : (g : ℕ) → In g (ids x) → (node : Node) → node_at x.nodes g ≡ node → All (IsUntil x) (awaited_in x g node)
  in_node g is True e = All-nil (IsUntil x)
  in_node g is False e = All-nil (IsUntil x)
  in_node g is (Signal s) e = All-nil (IsUntil x)
  in_node g is (Not a) e = All-nil (IsUntil x)
  in_node g is (Next a) e = All-nil (IsUntil x)
  in_node g is (Finally a) e = All-nil (IsUntil x)
  in_node g is (Globally a) e = All-nil (IsUntil x)
  in_node g is (And a b) e = All-nil (IsUntil x)
  in_node g is (Or a b) e = All-nil (IsUntil x)
  in_node g is (Implies a b) e = All-nil (IsUntil x)
  in_node g is (Equiv a b) e = All-nil (IsUntil x)
  in_node g is (Until a b) e =
      All-cons (IsUntil x) (record { until = truth_literal x (as_id g); right = truth_literal x b }) [] (record {
        id = g;
        left = a;
        right = b;
        occurs = is;
        right_occurs = parts_occur x.nodes list x.form g b.0 is (subst (λ node. In b.0 (parts_of node)) (sym e) (inr (inl refl)));
        node = e;
        until_is = refl;
        right_is = refl;
      }) (All-nil (IsUntil x))
  in_node g is (Release a b) e = All-nil (IsUntil x)
  in_node g is (WeakUntil a b) e = All-nil (IsUntil x)

  all_untils : (gs : List ℕ) → ((g : ℕ) → In g gs → In g (ids x)) → All (IsUntil x) (flat_map (λ g. awaited_in x g (node_at x.nodes g)) gs)
  all_untils [] among = All-nil (IsUntil x)
  all_untils (g ∷ gs) among =
      All-append (IsUntil x) (awaited_in x g (node_at x.nodes g)) (flat_map (λ g. awaited_in x g (node_at x.nodes g)) gs)
      (in_node g (among g (inl refl)) (node_at x.nodes g) refl) (all_untils gs (λ h is. among h (inr is)))

  pub named_are_untils : (p : Part) → All (IsUntil x) (named_untils x p)
  named_are_untils p = All-take (IsUntil x) (2 ^ length p.index) (untils x) (all_untils (ids x) (λ g is. is))

  module _ (circuit : IsCircuit x.circuit) (fits : IsWitnessFor x) where
    pub named_in_frame : (p : Part) → All (IsOfFrameBoth x) (named_untils x p)
    named_in_frame p k d h =
        let u : IsUntil x (get_or (named_untils x p) k d) = named_are_untils p k d h in
        record {
          until = subst (λ l. l ≤ top_literal x) (sym u.until_is) (truth_within x circuit list fits (as_id u.id) u.occurs);
          right = subst (λ l. l ≤ top_literal x) (sym u.right_is) (truth_within x circuit list fits u.right u.right_occurs);
        }

    module _ (word : Word) (values : ℕ → Valuation) (run : IsCircuitRun x.side x.circuit word values) where
      abbrev row_at : ℕ → Valuation
      row_at n = the_row x circuit list fits word values run n

      abbrev at : ℕ → ℕ
      at n = position x circuit list fits word values run n

      -- the until is false at this time, or its right part true
      abbrev pub is_just : Awaited → ℕ → Bool
      is_just u n = not (literal_value (row_at n) u.until) || literal_value (row_at n) u.right

      pub just_comes : (u : Awaited) → IsUntil x u → (n : ℕ) → (k : ℕ) × (is_just u (n + k) ≡ true)
      just_comes u until n = by (cases_Bool (until_at word (holds word (pick (trees_of x.nodes) until.left)) (holds word (pick (trees_of x.nodes) until.right)) (at n)))
        where
          until_truth : (m : ℕ) → literal_value (row_at m) u.until ≡ until_at word (holds word (pick (trees_of x.nodes) until.left)) (holds word (pick (trees_of x.nodes) until.right)) (at m)
          until_truth m =
              ap (literal_value (row_at m)) until.until_is ∙ row_truth x circuit list fits word values run m (as_id until.id) until.occurs
              ∙ ap (λ tree. holds word tree (at m)) (tree_of_node x.nodes list until.id ∙ ap (tree_of (trees_of x.nodes)) until.node)

          right_truth : (m : ℕ) → literal_value (row_at m) u.right ≡ holds word (pick (trees_of x.nodes) until.right) (at m)
          right_truth m = ap (literal_value (row_at m)) until.right_is ∙ row_truth x circuit list fits word values run m until.right until.right_occurs

          by : (until_at word (holds word (pick (trees_of x.nodes) until.left)) (holds word (pick (trees_of x.nodes) until.right)) (at n) ≡ true) ⊎ (until_at word (holds word (pick (trees_of x.nodes) until.left)) (holds word (pick (trees_of x.nodes) until.right)) (at n) ≡ false) → (k : ℕ) × (is_just u (n + k) ≡ true)
          by (inr off) =
              let e : n + 0 ≡ n = omega arith in (
                0,
                or_left (not (literal_value (row_at (n + 0)) u.until)) (literal_value (row_at (n + 0)) u.right)
                    (ap (λ m. not (literal_value (row_at m) u.until)) e ∙ ap not (until_truth n ∙ off)),
              )
          by (inl on) =
              let found : Comes word (holds word (pick (trees_of x.nodes) until.left)) (holds word (pick (trees_of x.nodes) until.right)) (at n) = until_at-gives word (holds word (pick (trees_of x.nodes) until.left)) (holds word (pick (trees_of x.nodes) until.right)) (at n) on in (
                found.0,
                or_right (not (literal_value (row_at (n + found.0)) u.until)) (literal_value (row_at (n + found.0)) u.right)
                    (right_truth (n + found.0) ∙ ap (holds word (pick (trees_of x.nodes) until.right)) (after-add word 0 n found.0) ∙ found.1.comes),
              )
