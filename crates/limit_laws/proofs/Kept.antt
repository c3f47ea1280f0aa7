-- Outcomes that wider limits keep.
use Rattle.std.proofs.Common.{◌≡◌, ℕ, ◌+◌, ◌-◌, ◌≤◌, Bool, true, false, List, Option, None, Some, refl, sym, subst, arith}
use Rattle.std.specs.Prelude.{nat_le}
use Rattle.std.proofs.lemmas.Bool.{le-leb, leb-true}
use Rattle.text_limits.specs.declared.Limits.{Limits}
use Rattle.ltl_formula.specs.declared.nodes.FormulaId.{FormulaId}
use Rattle.ltl_formula.specs.declared.nodes.Node.{Node}
use Rattle.ltl_formula.specs.Added.{Built, added}
use Rattle.spec_faults.specs.declared.code.SpecCode.{SpecCode}
use Rattle.tlsf_values.specs.declared.work.TheConstants.{MOST_EVALUATIONS}
use Rattle.tlsf_values.specs.declared.work.Work.{Work}
use Rattle.tlsf_values.specs.EnvSeen.{work_of}
use Rattle.tlsf_values.specs.Outcomes.{Outcome, gives, fails, go_on, Checked, fine, faulty, checked, choose, counted, may_stand, made_from, made}
use Rattle.limit_laws.specs.Wider.{AreWider}
use Rattle.limit_laws.proofs.Added.{added_wider}

-- what the first outcome gives under the small limits, the second one gives under the large ones; of what the first refuses nothing is said
pub data Kept {A : Type 0} (small large : Limits) : Outcome A → Outcome A → Type 0 where
  same_given : (a : A) (done : ℕ) (nodes : List Node) → Kept small large (gives a (work_of small done nodes)) (gives a (work_of large done nodes))
  refused_first : (code : SpecCode) (place : ℕ) (o : Outcome A) → Kept small large (fails code place) o

-- an evaluation that is kept, whatever was done before
abbrev pub Keeps : {A : Type 0} → Limits → Limits → (Work → Outcome A) → Type 0
Keeps small large f = (done : ℕ) (nodes : List Node) → Kept small large (f (work_of small done nodes)) (f (work_of large done nodes))

pub kept_go_on : {A B : Type 0} {small large : Limits} {o p : Outcome A} (f g : A → Work → Outcome B) → Kept small large o p
    → ((a : A) (done : ℕ) (nodes : List Node) → Kept small large (f a (work_of small done nodes)) (g a (work_of large done nodes))) → Kept small large (go_on o f) (go_on p g)
kept_go_on f g (same_given a done nodes) next = next a done nodes
kept_go_on f g (refused_first code place o) next = refused_first code place (go_on o g)

pub kept_checked : {A B : Type 0} {small large : Limits} (c : Checked A) (f g : A → Work → Outcome B) (v w : Work) → ((a : A) → Kept small large (f a v) (g a w)) → Kept small large (checked c f v) (checked c g w)
kept_checked (fine a) f g v w next = next a
kept_checked (faulty code place) f g v w next = refused_first code place _

pub kept_choose : {B : Type 0} {small large : Limits} (b : Bool) (f g f' g' : Work → Outcome B) (v w : Work)
    → Kept small large (f v) (f' w) → Kept small large (g v) (g' w) → Kept small large (choose b f g v) (choose b f' g' w)
kept_choose true f g f' g' v w yes_ no_ = yes_
kept_choose false f g f' g' v w yes_ no_ = no_

-- at most so many are allowed, and more of them; else it is refused
pub kept_within : {B : Type 0} {small large : Limits} (n most more : ℕ) → most ≤ more → (f f' : Work → Outcome B) (code : SpecCode) (place : ℕ) (g : Work → Outcome B) (v w : Work)
    → Kept small large (f v) (f' w) → Kept small large (choose (nat_le n most) f (λ w. fails code place) v) (choose (nat_le n more) f' g w)
kept_within {small = small} {large = large} n most more wider f f' code place g v w kept = by (nat_le n most) refl
  where
    by : (b : Bool) → nat_le n most ≡ b → Kept small large (choose b f (λ w. fails code place) v) (choose (nat_le n more) f' g w)
    by true e = subst (λ b. Kept small large (f v) (choose b f' g w)) (sym (le-leb n more (let l : n ≤ most = leb-true n most e in omega arith))) kept
    by false e = refused_first code place _

module _ (small large : Limits) (wider : AreWider small large) where
  pub kept_counted : (place n : ℕ) → Keeps small large (counted place n)
  kept_counted place n done nodes = kept_choose (nat_le n (MOST_EVALUATIONS - done)) _ _ _ _ _ _ (same_given tt (done + n) nodes) (refused_first _ _ _)

  pub kept_made : (place : ℕ) (node : Node) → Keeps small large (made place node)
  kept_made place node done nodes =
      kept_choose (may_stand nodes node) _ _ _ _ _ _ (by (added small.nodes nodes node).made refl) (refused_first _ _ _)
    where
      by : (o : Option FormulaId) → (added small.nodes nodes node).made ≡ o
          → Kept small large (made_from place (work_of small done nodes) (added small.nodes nodes node) o) (made_from place (work_of large done nodes) (added large.nodes nodes node) (added large.nodes nodes node).made)
      by (Some id) e =
          let same : added large.nodes nodes node ≡ added small.nodes nodes node = added_wider small.nodes large.nodes wider.nodes nodes node id e in
          subst (λ (b : Built). Kept small large (gives id (work_of small done (added small.nodes nodes node).nodes)) (made_from place (work_of large done nodes) b b.made)) (sym same)
          (subst (λ o. Kept small large (gives id (work_of small done (added small.nodes nodes node).nodes)) (made_from place (work_of large done nodes) (added small.nodes nodes node) o)) (sym e)
          (same_given id done (added small.nodes nodes node).nodes))
      by None e = refused_first _ _ _
