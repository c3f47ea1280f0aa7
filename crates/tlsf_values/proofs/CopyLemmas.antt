use Rattle.std.proofs.Common.{◌≡◌, ℕ, ◌+◌, ◌<◌, cond, List, [], ◌∷◌, ◌++◌, length, Option, None, Some, refl, sym, ap, subst, ◌∙◌, arith, take}
use Rattle.std.specs.Prelude.{position, slice_get}
use Rattle.std.proofs.lemmas.Bool.{lt-ltb}
use Rattle.std.proofs.lemmas.List.{take_more, get_or-take, length-take-le}
use Rattle.std.proofs.lemmas.List.Quantifiers.{position-Some}
use Rattle.std.proofs.lemmas.Option.{get_or_from_slice_get}
use Rattle.ltl_formula.specs.declared.nodes.Node.{Node}
use Rattle.ltl_formula.specs.declared.nodes.Node.TheVariants.{False}
use Rattle.ltl_formula.specs.declared.nodes.TheConstants.{MAX_NODES, MAX_SIGNALS}
use Rattle.ltl_formula.specs.Nodes.{node_at, SignalBelow, IsNodeList}
use Rattle.ltl_formula.specs.Added.{node_eq, Built, built_at, added}
use Rattle.ltl_formula.proofs.NodeEquality.{node_eq-true}

-- the first nodes of a list, with the next one added, are one more of its nodes
pub added-take : (nodes : List Node) (i : ℕ) (node : Node) → IsNodeList nodes → i < length nodes → node_at nodes i ≡ node
    → added MAX_NODES (take i nodes) node ≡ record { nodes = take (i + 1) nodes; made = Some (record { 0 = i }) }
added-take nodes i node list h is = by (position (node_eq node) (take i nodes)) refl
  where
    long : length (take i nodes) ≡ i
    long = length-take-le i nodes (omega arith)

    last : take i nodes ++ node ∷ [] ≡ take (i + 1) nodes
    last = ap (λ x. take i nodes ++ x ∷ []) (sym is) ∙ sym (take_more nodes i False h)

    by : (o : Option ℕ) → position (node_eq node) (take i nodes) ≡ o → built_at MAX_NODES o (take i nodes) node ≡ record { nodes = take (i + 1) nodes; made = Some (record { 0 = i }) }
    by (Some j) e =
        let at = position-Some (node_eq node) (take i nodes) j False e in
        let before : j < i = let l = long in let r : j < length (take i nodes) = at.0 in omega arith in
        let same : node_at nodes i ≡ node_at nodes j = is ∙ node_eq-true node (node_at (take i nodes) j) at.1 ∙ get_or-take i nodes j False before in
        let twice : i ≡ j = list.different i j h (omega arith) same in
        absurd (omega arith)
    by None e =
        let room : length (take i nodes) < MAX_NODES = let l = long in let m = list.most in omega arith in
        ap (λ b. cond b (let x : Built = record { nodes = take i nodes ++ node ∷ []; made = Some (record { 0 = length (take i nodes) }) } in x) (let x : Built = record { nodes = take i nodes; made = None } in x))
        (lt-ltb (length (take i nodes)) MAX_NODES room)
        ∙ (λ k. record { nodes = last k; made = Some (record { 0 = long k }) })

pub node_found : (nodes : List Node) (i : ℕ) (node : Node) → slice_get nodes i ≡ Some node → node_at nodes i ≡ node
node_found nodes i node h = get_or_from_slice_get nodes i node False h

pub signal_found : (nodes : List Node) (i : ℕ) (node : Node) → IsNodeList nodes → slice_get nodes i ≡ Some node → SignalBelow MAX_SIGNALS node
signal_found nodes i node list h = subst (SignalBelow MAX_SIGNALS) (node_found nodes i node h) (list.signals i)
