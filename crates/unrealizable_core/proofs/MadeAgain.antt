-- A node that stands in a list is made again, and adds nothing.
use Rattle.std.proofs.Common.{◌≡◌, ℕ, ◌<◌, Bool, true, false, cond, ltb, List, length, Some, None, refl, ap, ◌∙◌, arith}
use Rattle.std.specs.Prelude.{position}
use Rattle.std.specs.List.{position_or_len}
use Rattle.std.proofs.lemmas.Bool.{lt-ltb}
use Rattle.std.proofs.lemmas.List.Sums.{position_or_len_is}
use Rattle.ltl_formula.specs.declared.nodes.FormulaId.{FormulaId}
use Rattle.ltl_formula.specs.declared.nodes.Node.{Node}
use Rattle.ltl_formula.specs.declared.nodes.Node.TheVariants as node
use Rattle.ltl_formula.specs.Nodes.{IsNodeList, IsNodeIn, node_at}
use Rattle.ltl_formula.specs.Added.{added, built_at, node_eq}
use Rattle.ltl_formula.proofs.NodeEquality.{node_eq-self, node_eq-true}
use Rattle.spec_faults.specs.declared.code.SpecCode.TheVariants.{WrongSort}
use Rattle.tlsf_values.specs.declared.work.Work.{Work}
use Rattle.tlsf_values.specs.Outcomes.{gives, fails, choose, may_stand, made_from, made}
use Rattle.tlsf_expand.proofs.Filling.{may_stand_true}

-- what `made` is of a node that may stand
made_there : (x : Node) (work : Work) → may_stand work.formulas x ≡ true → made 0 x work ≡ made_from 0 work (added work.limits.nodes work.formulas x) (added work.limits.nodes work.formulas x).made
made_there x work may = ap (λ b. choose b (λ w. made_from 0 w (added w.limits.nodes w.formulas x) (added w.limits.nodes w.formulas x).made) (λ w. fails WrongSort 0) work) may

module _ (nodes : List Node) (list : IsNodeList nodes) (id : FormulaId) (there : IsNodeIn nodes id) where
  abbrev here : Node
  here = node_at nodes id.0

  not_before : (k : ℕ) → k < id.0 → node_eq here (node_at nodes k) ≡ false
  not_before k h = by (node_eq here (node_at nodes k)) refl
    where
      by : (b : Bool) → node_eq here (node_at nodes k) ≡ b → b ≡ false
      by false e = refl
      by true e =
          let same : id.0 ≡ k = list.different id.0 k there (omega arith) (node_eq-true here (node_at nodes k) e) in
          absurd (omega arith)

  found : position (node_eq here) nodes ≡ Some id.0
  found =
      let e : position_or_len (node_eq here) nodes ≡ id.0 = position_or_len_is (node_eq here) nodes id.0 node.False (omega arith) not_before (λ _. node_eq-self here) in
      ap (λ n. cond (ltb n (length nodes)) (Some n) None) e ∙ ap (λ b. cond b (Some id.0) None) (lt-ltb id.0 (length nodes) there)

pub made_again : (work : Work) (id : FormulaId) → IsNodeList work.formulas → IsNodeIn work.formulas id → made 0 (node_at work.formulas id.0) work ≡ gives id work
made_again work id list there =
    let x : Node = node_at work.formulas id.0 in
    made_there x work (may_stand_true work.formulas id.0 x (let h : id.0 < length work.formulas = there in omega arith) (list.parts_first id.0) (list.signals id.0))
    ∙ ap (λ o. made_from 0 work (built_at work.limits.nodes o work.formulas x) (built_at work.limits.nodes o work.formulas x).made) (found work.formulas list id there)
