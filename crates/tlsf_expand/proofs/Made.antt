-- Nodes that are made have the truths that their operators say of their parts'.
use Rattle.std.proofs.Common.{◌≡◌, ℕ, ◌<◌, Bool, true, false, List, refl, ap, ◌∙◌}
use Rattle.std.specs.Prelude.{not, ◌&&◌, ◌||◌}
use Rattle.letters_and_lassos.specs.Word.{Word, next, letter_at}
use Rattle.letters_and_lassos.specs.Signals.{has}
use Rattle.ltl_formula.specs.declared.nodes.FormulaId.{FormulaId}
use Rattle.ltl_formula.specs.declared.nodes.Node.{Node}
use Rattle.ltl_formula.specs.declared.nodes.Node.TheVariants as node
use Rattle.ltl_formula.specs.Tree.{Tree}
use Rattle.ltl_formula.specs.Truth.{holds}
use Rattle.ltl_formula.specs.Nodes.{SignalBelow, pick, tree_of, trees_of, tree_at}
use Rattle.tlsf_values.specs.declared.work.Work.{Work}
use Rattle.tlsf_values.specs.Outcomes.{made}
use Rattle.tlsf_values.specs.Formulas.{truth_node}
use Rattle.tlsf_expand.proofs.Kept.{IsGood, Keeps, keeps_made, keeps_map}
use Rattle.tlsf_expand.proofs.Alike.{HasTruths, grown_truths}

module _ {top : ℕ} (w : Word) where
  -- a node without parts
  pub keeps_constant : (place : ℕ) (n : Node) (f : ℕ → Bool) → ((T : List Tree) → holds w (tree_of T n) ≡ f) → SignalBelow top n
      → (work : Work) → IsGood top work.formulas → Keeps top work.formulas (HasTruths w f) (made place n work)
  keeps_constant place n f means small work list =
      keeps_map (HasTruths w f) (λ id nodes grows m. record { stands = m.stands; same = ap (holds w) m.tree ∙ means (trees_of nodes) }) (keeps_made place n work list small)

  pub keeps_truth_node : (place : ℕ) (b : Bool) (work : Work) → IsGood top work.formulas → Keeps top work.formulas (HasTruths w (λ i. b)) (made place (truth_node b) work)
  keeps_truth_node place true work list = keeps_constant place node.True (λ i. true) (λ T. refl) tt work list
  keeps_truth_node place false work list = keeps_constant place node.False (λ i. false) (λ T. refl) tt work list

  pub keeps_signal : (place k : ℕ) → k < top → (work : Work) → IsGood top work.formulas → Keeps top work.formulas (HasTruths w (λ i. has (letter_at w i).0 k)) (made place (node.Signal k) work)
  keeps_signal place k small work list = keeps_constant place (node.Signal k) (λ i. has (letter_at w i).0 k) (λ T. refl) small work list

  pub keeps_unary : (place : ℕ) (n : FormulaId → Node) (f : (ℕ → Bool) → ℕ → Bool) → ((T : List Tree) (i : FormulaId) → holds w (tree_of T (n i)) ≡ f (holds w (pick T i))) → ((i : FormulaId) → SignalBelow top (n i))
      → (work : Work) (i : FormulaId) (a : ℕ → Bool) → IsGood top work.formulas → HasTruths w a i work.formulas
      → Keeps top work.formulas (HasTruths w (f a)) (made place (n i) work)
  keeps_unary place n f means small work i a list part =
      keeps_map (HasTruths w (f a))
      (λ id nodes grows m. let there = grown_truths grows part in record { stands = m.stands; same = ap (holds w) m.tree ∙ means (trees_of nodes) i ∙ ap f there.same })
      (keeps_made place (n i) work list (small i))

  pub keeps_binary : (place : ℕ) (n : FormulaId → FormulaId → Node) (f : (ℕ → Bool) → (ℕ → Bool) → ℕ → Bool)
      → ((T : List Tree) (i j : FormulaId) → holds w (tree_of T (n i j)) ≡ f (holds w (pick T i)) (holds w (pick T j))) → ((i j : FormulaId) → SignalBelow top (n i j))
      → (work : Work) (i j : FormulaId) (a b : ℕ → Bool) → IsGood top work.formulas → HasTruths w a i work.formulas → HasTruths w b j work.formulas
      → Keeps top work.formulas (HasTruths w (f a b)) (made place (n i j) work)
  keeps_binary place n f means small work i j a b list left right =
      keeps_map (HasTruths w (f a b))
      (λ id nodes grows m.
      let l = grown_truths grows left in
      let r = grown_truths grows right in
      record { stands = m.stands; same = ap (holds w) m.tree ∙ means (trees_of nodes) i j ∙ ap (λ t. f t (holds w (tree_at nodes j))) l.same ∙ ap (f a) r.same })
      (keeps_made place (n i j) work list (small i j))

  pub keeps_not : (place : ℕ) (work : Work) (i : FormulaId) (a : ℕ → Bool) → IsGood top work.formulas → HasTruths w a i work.formulas
      → Keeps top work.formulas (HasTruths w (λ k. not (a k))) (made place (node.Not i) work)
  keeps_not place = keeps_unary place node.Not (λ a k. not (a k)) (λ T i. refl) (λ i. tt)

  pub keeps_next : (place : ℕ) (work : Work) (i : FormulaId) (a : ℕ → Bool) → IsGood top work.formulas → HasTruths w a i work.formulas
      → Keeps top work.formulas (HasTruths w (λ k. a (next w k))) (made place (node.Next i) work)
  keeps_next place = keeps_unary place node.Next (λ a k. a (next w k)) (λ T i. refl) (λ i. tt)

  pub keeps_and : (place : ℕ) (work : Work) (i j : FormulaId) (a b : ℕ → Bool) → IsGood top work.formulas → HasTruths w a i work.formulas → HasTruths w b j work.formulas
      → Keeps top work.formulas (HasTruths w (λ k. a k && b k)) (made place (node.And i j) work)
  keeps_and place = keeps_binary place node.And (λ a b k. a k && b k) (λ T i j. refl) (λ i j. tt)

  pub keeps_or : (place : ℕ) (work : Work) (i j : FormulaId) (a b : ℕ → Bool) → IsGood top work.formulas → HasTruths w a i work.formulas → HasTruths w b j work.formulas
      → Keeps top work.formulas (HasTruths w (λ k. a k || b k)) (made place (node.Or i j) work)
  keeps_or place = keeps_binary place node.Or (λ a b k. a k || b k) (λ T i j. refl) (λ i j. tt)
