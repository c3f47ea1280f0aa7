-- Forms that fit into a list of at most so many nodes fit into one of more.
use Rattle.std.proofs.Common.{◌≡◌, ℕ, ◌≤◌, Bool, true, false, List, Option, None, Some, refl, sym, ap, ◌∙◌}
use Rattle.std.specs.Prelude.{not, ◌==◌}
use Rattle.ltl_formula.specs.declared.nodes.FormulaId.{FormulaId}
use Rattle.ltl_formula.specs.declared.nodes.Node.{Node}
use Rattle.ltl_formula.specs.declared.nodes.Node.TheVariants as node
use Rattle.ltl_formula.specs.Added.{Built, added}
use Rattle.ltl_formula.specs.Tree.{Tree}
use Rattle.ltl_formula.specs.Tree.Tree.{truth, falsity, signal, negation, next_time, finally, globally, conjunction, disjunction, implication, equivalence, until, release, weak_until}
use Rattle.ltl_normal.specs.declared.simplify.Joint.{Joint}
use Rattle.ltl_normal.specs.declared.simplify.Joint.TheVariants.{And, Or, Until, Release}
use Rattle.ltl_normal.specs.declared.simplify.Outcome.{Outcome}
use Rattle.ltl_normal.specs.declared.simplify.Outcome.TheVariants.{First, Second, Whole}
use Rattle.ltl_normal.specs.Simplify.{facing_of, outcome_of}
use Rattle.ltl_normal.specs.NormalNodes.{Step, go_on, whole_node, constant_at, constant_node, chosen_step, join_ids, next_step, next_id, literal_step, nodes_to, form_in}
use Rattle.ltl_normal.proofs.Building.{go_on-Some, go_on-None}
use Rattle.limit_laws.proofs.Added.{added_wider}

-- what the first step makes, the second makes too, in the same list
pub record Fits (step wider : Step) : Type 0 where
  pub same : (nodes : List Node) (id : FormulaId) → (step nodes).made ≡ Some id → wider nodes ≡ step nodes

fits_same : (step : Step) → Fits step step
fits_same step = record { same = λ nodes id made. refl }

-- one step after the other
fits_go_on : (step wider : Step) (next later : FormulaId → Step) → Fits step wider → ((id : FormulaId) → Fits (next id) (later id)) → Fits (λ nodes. go_on (step nodes) next) (λ nodes. go_on (wider nodes) later)
fits_go_on step wider next later first each = record { same = λ nodes id. by nodes id (step nodes).made refl }
  where
    by : (nodes : List Node) (id : FormulaId) (o : Option FormulaId) → (step nodes).made ≡ o → (go_on (step nodes) next).made ≡ Some id → go_on (wider nodes) later ≡ go_on (step nodes) next
    by nodes id (Some x) e made =
        let is : go_on (step nodes) next ≡ next x (step nodes).nodes = go_on-Some (step nodes) next x e in
        let then : go_on (step nodes) later ≡ later x (step nodes).nodes = go_on-Some (step nodes) later x e in
        ap (λ (b : Built). go_on b later) (first.same nodes x e) ∙ then
        ∙ (each x).same (step nodes).nodes id (ap (λ (b : Built). b.made) (sym is) ∙ made) ∙ sym is
    by nodes id None e made =
        let none : None ≡ Some id = ap (λ (b : Built). b.made) (sym (go_on-None (step nodes) next e)) ∙ made in cc

module _ (most more : ℕ) (wider : most ≤ more) where
  fits_added : (n : List Node → Node) → Fits (λ nodes. added most nodes (n nodes)) (λ nodes. added more nodes (n nodes))
  fits_added n = record { same = λ nodes id made. added_wider most more wider nodes (n nodes) id made }

  fits_literal : (b : Bool) (s : ℕ) → Fits (literal_step most b s) (literal_step more b s)
  fits_literal true s = fits_added (λ nodes. node.Signal s)
  fits_literal false s = fits_go_on _ _ _ _ (fits_added (λ nodes. node.Signal s)) (λ id. fits_added (λ nodes. node.Not id))

  fits_next : (a : FormulaId) → Fits (next_id most a) (next_id more a)
  fits_next a = record { same = λ nodes id. by nodes id (constant_at nodes a) }
    where
      by : (nodes : List Node) (id : FormulaId) (o : Option Bool) → (next_step most o a nodes).made ≡ Some id → next_step more o a nodes ≡ next_step most o a nodes
      by nodes id (Some b) made = refl
      by nodes id None made = added_wider most more wider nodes (node.Next a) id made

  fits_chosen : (o : Outcome) (a b : FormulaId) (whole : Node) → Fits (chosen_step most o a b whole) (chosen_step more o a b whole)
  fits_chosen First a b whole = fits_same _
  fits_chosen Second a b whole = fits_same _
  fits_chosen Whole a b whole = fits_added (λ nodes. whole)

  fits_join : (joint : Joint) (a b : FormulaId) → Fits (join_ids most joint a b) (join_ids more joint a b)
  fits_join joint a b = record { same = λ nodes id made. (fits_chosen (outcome_of joint (constant_at nodes a) (constant_at nodes b) (a.0 == b.0)) a b (whole_node joint a b)).same nodes id made }

  fits_joined : (joint : Joint) (a a' b b' : Step) → Fits a a' → Fits b b' → Fits ((nodes_to most).join joint a b) ((nodes_to more).join joint a' b')
  fits_joined joint a a' b b' left right = fits_go_on a a' _ _ left (λ x. fits_go_on b b' _ _ right (λ y. fits_join joint x y))

  fits_constant : (b : Bool) → Fits ((nodes_to most).constant b) ((nodes_to more).constant b)
  fits_constant b = fits_added (λ nodes. constant_node b)

  pub form_fits : (keep : Bool) (f : Tree) → Fits (form_in most keep f) (form_in more keep f)
  form_fits keep truth = fits_constant keep
  form_fits keep falsity = fits_constant (not keep)
  form_fits keep (signal s) = fits_literal keep s
  form_fits keep (negation a) = form_fits (not keep) a
  form_fits keep (next_time a) = fits_go_on _ _ _ _ (form_fits keep a) fits_next
  form_fits keep (finally a) = fits_joined (facing_of keep Until) _ _ _ _ (fits_constant keep) (form_fits keep a)
  form_fits keep (globally a) = fits_joined (facing_of keep Release) _ _ _ _ (fits_constant (not keep)) (form_fits keep a)
  form_fits keep (conjunction a b) = fits_joined (facing_of keep And) _ _ _ _ (form_fits keep a) (form_fits keep b)
  form_fits keep (disjunction a b) = fits_joined (facing_of keep Or) _ _ _ _ (form_fits keep a) (form_fits keep b)
  form_fits keep (implication a b) = fits_joined (facing_of keep Or) _ _ _ _ (form_fits (not keep) a) (form_fits keep b)
  form_fits keep (equivalence a b) =
      fits_joined Or _ _ _ _ (fits_joined And _ _ _ _ (form_fits true a) (form_fits keep b)) (fits_joined And _ _ _ _ (form_fits false a) (form_fits (not keep) b))
  form_fits keep (until a b) = fits_joined (facing_of keep Until) _ _ _ _ (form_fits keep a) (form_fits keep b)
  form_fits keep (release a b) = fits_joined (facing_of keep Release) _ _ _ _ (form_fits keep a) (form_fits keep b)
  form_fits keep (weak_until a b) =
      fits_joined (facing_of keep Release) _ _ _ _ (form_fits keep b) (fits_joined (facing_of keep Or) _ _ _ _ (form_fits keep a) (form_fits keep b))
