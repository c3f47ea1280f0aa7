-- The signals of a list's nodes.
use Rattle.std.proofs.Common.{◌≡◌, ℕ, zero, suc, ◌+◌, ◌<◌, ◌≤◌, true, false, cond, ltb, inl, inr, List, [], ◌∷◌, ◌++◌, length, Option, None, Some, subst, sym, arith}
use Rattle.std.specs.Prelude.{min, position}
use Rattle.std.proofs.lemmas.Bool.{cases_eq, cases_lt}
use Rattle.std.proofs.lemmas.List.{length-append, get_or_append_left, get_or_past}
use Rattle.std.proofs.Math.Seq.{get_or-append_seam}
use Rattle.ltl_formula.specs.declared.nodes.FormulaId.{FormulaId}
use Rattle.ltl_formula.specs.declared.nodes.Node.{Node}
use Rattle.ltl_formula.specs.declared.nodes.Node.TheVariants.{True, False, Signal, Not, Next, Finally, Globally, And, Or, Implies, Equiv, Until, Release, WeakUntil}
use Rattle.ltl_formula.specs.declared.nodes.TheConstants.{MAX_NODES}
use Rattle.ltl_formula.specs.Nodes.{trees_of, tree_at, node_at, SignalBelow, IsNodeList, IsNodeIn}
use Rattle.ltl_formula.specs.Added.{node_eq, Built, built_at, added}
use Rattle.ltl_formula.specs.ListSignals.{HasSignalsBelow, KeepsSignals, SignalsOfListsAreKept}
use Rattle.ltl_formula.specs.Tree.{SignalsBelow}
use Rattle.ltl_formula.proofs.Trees.{tree_at-node}
use Rattle.ltl_formula.proofs.Lists.{SignalsBelow-tree_of}

pub SignalBelow-more : (m n : ℕ) (x : Node) → m ≤ n → SignalBelow m x → SignalBelow n x
SignalBelow-more m n (Signal s) le h = let below : s < m = h in omega arith
SignalBelow-more m n True le h = tt
SignalBelow-more m n False le h = tt
SignalBelow-more m n (Not a) le h = tt
SignalBelow-more m n (Next a) le h = tt
SignalBelow-more m n (Finally a) le h = tt
SignalBelow-more m n (Globally a) le h = tt
SignalBelow-more m n (And a b) le h = tt
SignalBelow-more m n (Or a b) le h = tt
SignalBelow-more m n (Implies a b) le h = tt
SignalBelow-more m n (Equiv a b) le h = tt
SignalBelow-more m n (Until a b) le h = tt
SignalBelow-more m n (Release a b) le h = tt
SignalBelow-more m n (WeakUntil a b) le h = tt

pub HasSignalsBelow-more : (m n : ℕ) (nodes : List Node) → m ≤ n → HasSignalsBelow m nodes → HasSignalsBelow n nodes
HasSignalsBelow-more m n nodes le h = record { nodes_below = λ i. SignalBelow-more m n (node_at nodes i) le (h.nodes_below i) }

pub HasSignalsBelow-none : (n : ℕ) → HasSignalsBelow n []
HasSignalsBelow-none n = record { nodes_below = λ i. tt }

pub HasSignalsBelow-append : (n : ℕ) (nodes : List Node) (node : Node) → HasSignalsBelow n nodes → SignalBelow n node → HasSignalsBelow n (nodes ++ node ∷ [])
HasSignalsBelow-append n nodes node h new = record { nodes_below = each }
  where
    each : (i : ℕ) → SignalBelow n (node_at (nodes ++ node ∷ []) i)
    each i =
        elim (cases_lt i (length nodes)) [
          | inl before ↦ subst (SignalBelow n) (sym (get_or_append_left nodes (node ∷ []) False i before)) (h.nodes_below i)
          | inr from ↦
              elim (cases_eq i (length nodes)) [
                | inl e ↦
                    subst (λ k. SignalBelow n (node_at (nodes ++ node ∷ []) k)) (sym e) (subst (SignalBelow n) (sym (get_or-append_seam nodes node [] False)) new)
                | inr ne ↦
                    let long : length (nodes ++ node ∷ []) ≡ length nodes + 1 = length-append nodes (node ∷ []) in
                    subst (SignalBelow n) (sym (get_or_past (nodes ++ node ∷ []) i False (omega (arith, ne)))) tt
              ]
        ]

pub HasSignalsBelow-added : (most n : ℕ) (nodes : List Node) (node : Node) → HasSignalsBelow n nodes → SignalBelow n node → HasSignalsBelow n (added most nodes node).nodes
HasSignalsBelow-added most n nodes node h new = by (position (node_eq node) nodes)
  where
    by : (o : Option ℕ) → HasSignalsBelow n (built_at most o nodes node).nodes
    by (Some i) = h
    by None =
        elim (ltb (length nodes) (min most MAX_NODES)) as (λ b. HasSignalsBelow n (cond b (let x : Built = record { nodes = nodes ++ node ∷ []; made = Some (record { 0 = length nodes }) } in x) (let x : Built = record { nodes = nodes; made = None } in x)).nodes) [
          | true ↦ HasSignalsBelow-append n nodes node h new
          | false ↦ h
        ]

signals_by : (n : ℕ) (nodes : List Node) → IsNodeList nodes → HasSignalsBelow n nodes → (fuel : ℕ) (id : FormulaId) → id.0 < fuel → IsNodeIn nodes id → SignalsBelow n (tree_at nodes id)
signals_by n nodes list h zero id small stands = absurd (omega arith)
signals_by n nodes list h (suc fuel) id small stands =
    rw (tree_at-node nodes id.0 stands (list.parts_first id.0))
    (SignalsBelow-tree_of n id.0 (trees_of nodes) (node_at nodes id.0) (list.parts_first id.0) (h.nodes_below id.0)
    (λ p below. signals_by n nodes list h fuel p (omega arith) (omega arith)))

pub signals_of_lists_are_kept : SignalsOfListsAreKept
signals_of_lists_are_kept = record {
  of_formulas = λ n nodes id list h stands. signals_by n nodes list h (suc id.0) id (omega arith) stands;
  of_added = HasSignalsBelow-added;
}

pub KeepsSignals-trans : (a b c : List Node) → KeepsSignals a b → KeepsSignals b c → KeepsSignals a c
KeepsSignals-trans a b c ab bc = record { kept = λ n h. bc.kept n (ab.kept n h) }
