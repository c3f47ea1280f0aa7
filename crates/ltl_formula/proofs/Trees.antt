use Rattle.std.proofs.Common.{◌≡◌, ℕ, suc, ◌+◌, ◌<◌, List, [], ◌∷◌, ◌++◌, length, get_or, take, drop, refl, sym, ap, subst, ◌∙◌, arith, append_assoc, length-append, drop-cons}
use Rattle.std.proofs.lemmas.List.{take-append-drop, get_or_append_left, length-take}
use Rattle.std.proofs.Math.Seq.{get_or-append_seam}
use Rattle.ltl_formula.specs.declared.nodes.FormulaId.{FormulaId}
use Rattle.ltl_formula.specs.declared.nodes.Node.{Node}
use Rattle.ltl_formula.specs.declared.nodes.Node.TheVariants.{True, False, Signal, Not, Next, Finally, Globally, And, Or, Implies, Equiv, Until, Release, WeakUntil}
use Rattle.ltl_formula.specs.Tree.{Tree}
use Rattle.ltl_formula.specs.Tree.Tree.{falsity, negation, next_time, finally, globally}
use Rattle.ltl_formula.specs.Nodes.{pick, tree_of, trees_after, trees_of, tree_at, node_at, PartsBelow, IsNodeIn}
use Rattle.ltl_formula.specs.Laws.{GrowingKeepsFormulas}

pub length-trees_after : (trees : List Tree) (nodes : List Node) → length (trees_after trees nodes) ≡ length trees + length nodes
length-trees_after trees [] = omega arith
length-trees_after trees (node ∷ nodes) =
    let e : length (trees ++ tree_of trees node ∷ []) ≡ length trees + 1 = length-append trees (tree_of trees node ∷ []) in
    let more : length (trees_after (trees ++ tree_of trees node ∷ []) nodes) ≡ length (trees ++ tree_of trees node ∷ []) + length nodes =
    length-trees_after (trees ++ tree_of trees node ∷ []) nodes in
    omega arith

pub trees_after-append : (trees : List Tree) (xs ys : List Node) → trees_after trees (xs ++ ys) ≡ trees_after (trees_after trees xs) ys
trees_after-append trees [] ys = refl
trees_after-append trees (x ∷ xs) ys = trees_after-append (trees ++ tree_of trees x ∷ []) xs ys

-- the trees that stood stay
pub pick-trees_after : (trees : List Tree) (nodes : List Node) (id : FormulaId) → id.0 < length trees → pick (trees_after trees nodes) id ≡ pick trees id
pick-trees_after trees [] id h = refl
pick-trees_after trees (node ∷ nodes) id h =
    let longer : length (trees ++ tree_of trees node ∷ []) ≡ length trees + 1 = length-append trees (tree_of trees node ∷ []) in
    pick-trees_after (trees ++ tree_of trees node ∷ []) nodes id (omega arith)
    ∙ get_or_append_left trees (tree_of trees node ∷ []) falsity id.0 h

pub tree_at-append : (xs ys : List Node) (id : FormulaId) → IsNodeIn xs id → tree_at (xs ++ ys) id ≡ tree_at xs id
tree_at-append xs ys id h =
    ap (λ trees. pick trees id) (trees_after-append [] xs ys)
    ∙ pick-trees_after (trees_of xs) ys id (let e : length (trees_of xs) ≡ 0 + length xs = length-trees_after [] xs in omega arith)

pub tree_at-grown : GrowingKeepsFormulas
tree_at-grown old new id grows h = rw grows.appended (tree_at-append old grows.more id h)

-- a node's tree is told by the trees of its parts
pub tree_of-parts : (n : ℕ) (T U : List Tree) (node : Node) → PartsBelow n node → ((p : FormulaId) → p.0 < n → pick T p ≡ pick U p) → tree_of T node ≡ tree_of U node
tree_of-parts n T U True parts same = refl
tree_of-parts n T U False parts same = refl
tree_of-parts n T U (Signal s) parts same = refl
tree_of-parts n T U (Not a) parts same = ap negation (same a parts)
tree_of-parts n T U (Next a) parts same = ap next_time (same a parts)
tree_of-parts n T U (Finally a) parts same = ap finally (same a parts)
tree_of-parts n T U (Globally a) parts same = ap globally (same a parts)
tree_of-parts n T U (And a b) parts same = let x = same a parts.0 in let y = same b parts.1 in cc (x, y)
tree_of-parts n T U (Or a b) parts same = let x = same a parts.0 in let y = same b parts.1 in cc (x, y)
tree_of-parts n T U (Implies a b) parts same = let x = same a parts.0 in let y = same b parts.1 in cc (x, y)
tree_of-parts n T U (Equiv a b) parts same = let x = same a parts.0 in let y = same b parts.1 in cc (x, y)
tree_of-parts n T U (Until a b) parts same = let x = same a parts.0 in let y = same b parts.1 in cc (x, y)
tree_of-parts n T U (Release a b) parts same = let x = same a parts.0 in let y = same b parts.1 in cc (x, y)
tree_of-parts n T U (WeakUntil a b) parts same = let x = same a parts.0 in let y = same b parts.1 in cc (x, y)

-- a new node's tree is made of those that stand
pub tree_at-last : (nodes : List Node) (node : Node) → tree_at (nodes ++ node ∷ []) (record { 0 = length nodes }) ≡ tree_of (trees_of nodes) node
tree_at-last nodes node =
    let long : length (trees_of nodes) ≡ 0 + length nodes = length-trees_after [] nodes in
    let e : length nodes ≡ length (trees_of nodes) = omega arith in
    ap (λ trees. get_or trees (length nodes) falsity) (trees_after-append [] nodes (node ∷ []))
    ∙ ap (λ n. get_or (trees_of nodes ++ tree_of (trees_of nodes) node ∷ []) n falsity) e
    ∙ get_or-append_seam (trees_of nodes) (tree_of (trees_of nodes) node) [] falsity

pub tree_at-front : (front : List Node) (node : Node) (back : List Node) → PartsBelow (length front) node
    → tree_at (front ++ node ∷ back) (record { 0 = length front }) ≡ tree_of (trees_of (front ++ node ∷ back)) node
tree_at-front front node back parts =
    let regroup : front ++ node ∷ back ≡ (front ++ node ∷ []) ++ back = sym (append_assoc front (node ∷ []) back) in
    let longer : length (front ++ node ∷ []) ≡ length front + 1 = length-append front (node ∷ []) in
    ap (λ nodes. tree_at nodes (record { 0 = length front })) regroup
    ∙ tree_at-append (front ++ node ∷ []) back (record { 0 = length front }) (omega arith)
    ∙ tree_at-last front node
    ∙ tree_of-parts (length front) (trees_of front) (trees_of (front ++ node ∷ back)) node parts (λ p h. sym (tree_at-append front (node ∷ back) p h))

-- the tree at an id goes by the node that stands there
pub tree_at-node : (nodes : List Node) (i : ℕ) → i < length nodes → PartsBelow i (node_at nodes i)
    → tree_at nodes (record { 0 = i }) ≡ tree_of (trees_of nodes) (node_at nodes i)
tree_at-node nodes i within parts =
    let split : nodes ≡ take i nodes ++ node_at nodes i ∷ drop (suc i) nodes =
    sym (take-append-drop i nodes) ∙ ap (λ xs. take i nodes ++ xs) (drop-cons nodes i False within) in
    let long : length (take i nodes) ≡ i = simp length-take (omega arith) in
    let there : PartsBelow (length (take i nodes)) (node_at nodes i) = rw long parts in
    let found : tree_at (take i nodes ++ node_at nodes i ∷ drop (suc i) nodes) (record { 0 = length (take i nodes) }) ≡ tree_of (trees_of (take i nodes ++ node_at nodes i ∷ drop (suc i) nodes)) (node_at nodes i) =
    tree_at-front (take i nodes) (node_at nodes i) (drop (suc i) nodes) there in
    let P : List Node → ℕ → Type 0 = λ xs n. tree_at xs (record { 0 = n }) ≡ tree_of (trees_of xs) (node_at nodes i) in
    subst (λ xs. P xs i) (sym split) (subst (λ n. P (take i nodes ++ node_at nodes i ∷ drop (suc i) nodes) n) long found)
