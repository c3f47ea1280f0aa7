-- The nodes that join the sections make the formula of the whole, which is true as the standard or the strict formula is.
use Rattle.std.proofs.Common.{◌≡◌, ℕ, Bool, true, false, List, [], ◌∷◌, refl, sym, ap, ◌∙◌}
use Rattle.std.specs.Prelude.{◌&&◌}
use mathlib.Core.Bool.{and-true}
use Rattle.letters_and_lassos.specs.Word.{Word}
use Rattle.ltl_formula.specs.declared.nodes.FormulaId.{FormulaId}
use Rattle.ltl_formula.specs.declared.nodes.Node.{Node}
use Rattle.ltl_formula.specs.Nodes.{Grows}
use Rattle.ltl_formula.specs.Tree.{Tree}
use Rattle.ltl_formula.specs.Tree.Tree.{truth, negation, globally, conjunction, implication, weak_until}
use Rattle.ltl_formula.specs.Truth.{holds}
use Rattle.tlsf_syntax.specs.declared.sections.Sections.{Sections}
use Rattle.tlsf_syntax.specs.Text.{each_section}
use Rattle.tlsf_values.specs.declared.work.Work.{Work}
use Rattle.tlsf_values.specs.Outcomes.{Outcome, go_on}
use Rattle.tlsf_expand.specs.Meaning.{by_semantics}
use Rattle.tlsf_expand.specs.Sections.{joined_more, conjoined, standard_value, strict_value, whole_value}
use Rattle.tlsf_expand.specs.Standing.{OfEach, StandsAs, all_hold, truths_of}
use Rattle.tlsf_expand.proofs.Bools.{and_regroup, same_function}
use Rattle.tlsf_expand.proofs.EachSection.{both, each_weaker, same_each}
use Rattle.tlsf_expand.proofs.Kept.{IsGood, keeps_given, keeps_go_on}
use Rattle.tlsf_expand.proofs.Filling.{Fills, fills_and, fills_globally, fills_implies, fills_not, fills_true, fills_weakly, stands_later}

-- ---- the formula of the whole as a tree

abbrev pub joined_tree_more : Tree → List Tree → Tree
joined_tree_more t [] = t
joined_tree_more t (u ∷ us) = joined_tree_more (conjunction t u) us

abbrev pub joined_tree : List Tree → Tree
joined_tree [] = truth
joined_tree (t ∷ ts) = joined_tree_more t ts

abbrev standard_tree : Sections (List Tree) → Tree
standard_tree s =
    implication (joined_tree s.initially)
    (conjunction (joined_tree s.preset) (implication (conjunction (globally (joined_tree s.require)) (joined_tree s.assume)) (conjunction (globally (joined_tree s.assert)) (joined_tree s.guarantee))))

abbrev strict_tree : Sections (List Tree) → Tree
strict_tree s =
    implication (joined_tree s.initially)
    (conjunction (conjunction (joined_tree s.preset) (weak_until (joined_tree s.assert) (negation (joined_tree s.require)))) (implication (conjunction (globally (joined_tree s.require)) (joined_tree s.assume)) (joined_tree s.guarantee)))

abbrev pub whole_tree : Bool → Sections (List Tree) → Tree
whole_tree false s = standard_tree s
whole_tree true s = strict_tree s

-- ---- its truth

joined_more_holds : (w : Word) (t : Tree) (ts : List Tree) (i : ℕ) → holds w (joined_tree_more t ts) i ≡ (holds w t i && all_hold w ts i)
joined_more_holds w t [] i = sym (and-true (holds w t i))
joined_more_holds w t (u ∷ us) i = joined_more_holds w (conjunction t u) us i ∙ and_regroup (holds w t i) (holds w u i) (all_hold w us i)

joined_holds : (w : Word) (ts : List Tree) → holds w (joined_tree ts) ≡ all_hold w ts
joined_holds w [] = refl
joined_holds w (t ∷ ts) = same_function _ _ (λ i. joined_more_holds w t ts i)

same_truths : (w : Word) (s : Sections (List Tree)) → each_section (λ ts. holds w (joined_tree ts)) s ≡ truths_of w s
same_truths w s = same_each (λ ts. holds w (joined_tree ts)) (all_hold w) (joined_holds w) s

pub whole_holds : (strict : Bool) (w : Word) (s : Sections (List Tree)) → holds w (whole_tree strict s) 0 ≡ by_semantics strict w (truths_of w s)
whole_holds false w s = ap (by_semantics false w) (same_truths w s)
whole_holds true w s = ap (by_semantics true w) (same_truths w s)

-- ---- its nodes

-- each formula of a list stands
pub data AllStandAs (nodes : List Node) : List Tree → List FormulaId → Type 0 where
  none_stand : AllStandAs nodes [] []
  one_stands : (t : Tree) (id : FormulaId) (ts : List Tree) (ids : List FormulaId) → StandsAs nodes t id → AllStandAs nodes ts ids → AllStandAs nodes (t ∷ ts) (id ∷ ids)

pub all_later : {old new : List Node} {ts : List Tree} {ids : List FormulaId} → Grows old new → AllStandAs old ts ids → AllStandAs new ts ids
all_later grows none_stand = none_stand
all_later grows (one_stands t id ts ids h more) = one_stands t id ts ids (stands_later grows h) (all_later grows more)

abbrev pub SectionsStandAs : List Node → Sections (List Tree) → Sections (List FormulaId) → Type 0
SectionsStandAs nodes s ids = OfEach (λ p. AllStandAs nodes p.0 p.1) (both s ids)

-- formulas that were made so far, the last one first
record Named : Type 0 where
  tree : Tree
  id : FormulaId

abbrev AllNamed : List Node → List Named → Type 0
AllNamed nodes [] = Unit {0}
AllNamed nodes (x ∷ xs) = StandsAs nodes x.tree x.id × AllNamed nodes xs

named_later : {old new : List Node} (xs : List Named) → Grows old new → AllNamed old xs → AllNamed new xs
named_later [] grows h = tt
named_later (x ∷ xs) grows h = (stands_later grows h.0, named_later xs grows h.1)

record Known (top : ℕ) (nodes : List Node) (s : Sections (List Tree)) (ids : Sections (List FormulaId)) (xs : List Named) : Type 0 where
  good : IsGood top nodes
  of : SectionsStandAs nodes s ids
  named : AllNamed nodes xs

module _ {top : ℕ} where
  -- a formula is made, and known from then on
  after : {A : Type 0} {nodes : List Node} {s : Sections (List Tree)} {ids : Sections (List FormulaId)} {xs : List Named} {t : Tree} {o : Outcome FormulaId} (f : FormulaId → Work → Outcome A) (Q : A → List Node → Type 0)
      → Known top nodes s ids xs → Fills top nodes (λ id nodes. StandsAs nodes t id) o
      → ((id : FormulaId) (work : Work) → Known top work.formulas s ids (record { tree = t; id = id } ∷ xs) → Fills top work.formulas Q (f id work)) → Fills top nodes Q (go_on o f)
  after {xs = xs} f Q known h next =
      keeps_go_on f Q h (λ id work good grows at.
      next id work (record { good = good; of = each_weaker _ _ (λ p. all_later grows) known.of; named = (at, named_later xs grows known.named) }))

  fills_joined_more : (t : Tree) (id : FormulaId) (ts : List Tree) (ids : List FormulaId) (work : Work) → IsGood top work.formulas → StandsAs work.formulas t id → AllStandAs work.formulas ts ids
      → Fills top work.formulas (λ id nodes. StandsAs nodes (joined_tree_more t ts) id) (joined_more id ids work)
  fills_joined_more t id [] _ work good h none_stand = keeps_given _ id work good h
  fills_joined_more t id (u ∷ us) _ work good h (one_stands _ j _ js at more) =
      keeps_go_on _ _ (fills_and work t u id j good h at) (λ made_here later good_later grows there.
      fills_joined_more (conjunction t u) made_here us js later good_later there (all_later grows more))

  fills_joined : (ts : List Tree) (ids : List FormulaId) (work : Work) → IsGood top work.formulas → AllStandAs work.formulas ts ids
      → Fills top work.formulas (λ id nodes. StandsAs nodes (joined_tree ts) id) (conjoined ids work)
  fills_joined _ _ work good none_stand = fills_true work good
  fills_joined _ _ work good (one_stands t id ts ids at more) = fills_joined_more t id ts ids work good at more

  module _ (s : Sections (List Tree)) (x : Sections (List FormulaId)) where
    fills_standard : (w : Work) → Known top w.formulas s x [] → Fills top w.formulas (λ id nodes. StandsAs nodes (standard_tree s) id) (standard_value x w)
    fills_standard w k =
        after _ _ k (fills_joined s.initially x.initially w k.good k.of.initially) (λ e w1 k1.
        after _ _ k1 (fills_joined s.preset x.preset w1 k1.good k1.of.preset) (λ p w2 k2.
        after _ _ k2 (fills_joined s.require x.require w2 k2.good k2.of.require) (λ E w3 k3.
        after _ _ k3 (fills_globally w3 _ E k3.good k3.named.0) (λ GE w4 k4.
        after _ _ k4 (fills_joined s.assume x.assume w4 k4.good k4.of.assume) (λ A w5 k5.
        after _ _ k5 (fills_and w5 _ _ GE A k5.good k5.named.1.0 k5.named.0) (λ given w6 k6.
        after _ _ k6 (fills_joined s.assert x.assert w6 k6.good k6.of.assert) (λ S w7 k7.
        after _ _ k7 (fills_globally w7 _ S k7.good k7.named.0) (λ GS w8 k8.
        after _ _ k8 (fills_joined s.guarantee x.guarantee w8 k8.good k8.of.guarantee) (λ H w9 k9.
        after _ _ k9 (fills_and w9 _ _ GS H k9.good k9.named.1.0 k9.named.0) (λ owed w10 k10.
        after _ _ k10 (fills_implies w10 _ _ given owed k10.good k10.named.1.1.1.1.0 k10.named.0) (λ kept w11 k11.
        after _ _ k11 (fills_and w11 _ _ p kept k11.good k11.named.1.1.1.1.1.1.1.1.1.0 k11.named.0) (λ all w12 k12.
        fills_implies w12 _ _ e all k12.good k12.named.1.1.1.1.1.1.1.1.1.1.1.0 k12.named.0))))))))))))

    fills_strict : (w : Work) → Known top w.formulas s x [] → Fills top w.formulas (λ id nodes. StandsAs nodes (strict_tree s) id) (strict_value x w)
    fills_strict w k =
        after _ _ k (fills_joined s.initially x.initially w k.good k.of.initially) (λ e w1 k1.
        after _ _ k1 (fills_joined s.preset x.preset w1 k1.good k1.of.preset) (λ p w2 k2.
        after _ _ k2 (fills_joined s.assert x.assert w2 k2.good k2.of.assert) (λ S w3 k3.
        after _ _ k3 (fills_joined s.require x.require w3 k3.good k3.of.require) (λ E w4 k4.
        after _ _ k4 (fills_not w4 _ E k4.good k4.named.0) (λ broken w5 k5.
        after _ _ k5 (fills_weakly w5 _ _ S broken k5.good k5.named.1.1.0 k5.named.0) (λ until_broken w6 k6.
        after _ _ k6 (fills_and w6 _ _ p until_broken k6.good k6.named.1.1.1.1.0 k6.named.0) (λ first w7 k7.
        after _ _ k7 (fills_globally w7 _ E k7.good k7.named.1.1.1.0) (λ GE w8 k8.
        after _ _ k8 (fills_joined s.assume x.assume w8 k8.good k8.of.assume) (λ A w9 k9.
        after _ _ k9 (fills_and w9 _ _ GE A k9.good k9.named.1.0 k9.named.0) (λ given w10 k10.
        after _ _ k10 (fills_joined s.guarantee x.guarantee w10 k10.good k10.of.guarantee) (λ H w11 k11.
        after _ _ k11 (fills_implies w11 _ _ given H k11.good k11.named.1.0 k11.named.0) (λ kept w12 k12.
        after _ _ k12 (fills_and w12 _ _ first kept k12.good k12.named.1.1.1.1.1.0 k12.named.0) (λ all w13 k13.
        fills_implies w13 _ _ e all k13.good k13.named.1.1.1.1.1.1.1.1.1.1.1.1.0 k13.named.0)))))))))))))

    pub fills_whole : (strict : Bool) (w : Work) → IsGood top w.formulas → SectionsStandAs w.formulas s x → Fills top w.formulas (λ id nodes. StandsAs nodes (whole_tree strict s) id) (whole_value strict x w)
    fills_whole false w good h = fills_standard w (record { good = good; of = h; named = tt })
    fills_whole true w good h = fills_strict w (record { good = good; of = h; named = tt })
