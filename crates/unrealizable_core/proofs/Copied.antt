-- Copies that are known, and the steps of the calls that put formulas.
use Rattle.std.proofs.Common.{◌≡◌, ℕ, ◌<◌, inl, inr, List, ◌++◌, length, get_or, set, Option, None, Some, refl, sym, ap, subst, ◌∙◌, arith}
use Rattle.std.proofs.lemmas.Bool.{cases_eq}
use Rattle.std.proofs.lemmas.List.{get_or-set_other, get_or-set_same}
use Rattle.std.proofs.lemmas.Option.{same_Some}
use Rattle.ltl_formula.specs.declared.nodes.FormulaId.{FormulaId}
use Rattle.ltl_formula.specs.declared.nodes.Node.{Node}
use Rattle.ltl_formula.specs.declared.nodes.Node.TheVariants as node
use Rattle.ltl_formula.specs.declared.nodes.TheConstants.{MAX_SIGNALS}
use Rattle.ltl_formula.specs.Nodes.{Grows, IsNodeList, IsNodeIn, tree_at}
use Rattle.ltl_formula.specs.Tree.{Tree}
use Rattle.ltl_formula.specs.Tree.Tree.{truth, falsity, signal, negation, next_time, finally, globally, conjunction, disjunction, implication, equivalence, until, release, weak_until}
use Rattle.ltl_formula.proofs.Lists.{signals_are_below}
use Rattle.spec_faults.specs.declared.code.SpecFault.{SpecFault}
use Rattle.spec_faults.specs.declared.code.SpecFault.TheVariants.{NoMemory, At}
use Rattle.tlsf_values.specs.declared.work.Work.{Work}
use Rattle.tlsf_values.specs.Outcomes.{Outcome, gives, fails, go_on, made}
use Rattle.tlsf_values.specs.Results.{IsFault}
use Rattle.unrealizable_core.specs.declared.copies.Pair.{Pair}
use Rattle.tlsf_expand.specs.Standing.{StandsAs}
use Rattle.tlsf_expand.proofs.Kept.{IsGood, IsKept, given}
use Rattle.tlsf_expand.proofs.Filling.{stands_later}
use Rattle.unrealizable_core.specs.Copies.{AreCopies, over, over_both, parts_put}
use Rattle.unrealizable_core.specs.Put.{put, put_over, put_over_both}
use Rattle.unrealizable_core.proofs.Putting.{fills_put, put_again}

-- ---- the copies that are known

pub copies_later : (from : List Node) (known : List (Option FormulaId)) (old new : List Node) → AreCopies from known old → Grows old new → IsNodeList new → AreCopies from known new
copies_later from known old new h grows list = record { from_list = h.from_list; list = list; copies = λ place id e. stands_later grows (h.copies place id e) }

pub copies_with : (from : List Node) (known : List (Option FormulaId)) (nodes : List Node) (place : ℕ) (id : FormulaId) → AreCopies from known nodes → place < length known → StandsAs nodes (tree_at from (record { 0 = place })) id
    → AreCopies from (set known place (Some id)) nodes
copies_with from known nodes place id h within at = record {
  from_list = h.from_list;
  list = h.list;
  copies = λ p j e.
      elim (cases_eq p place) [
        | inl same ↦
            let here : get_or (set known place (Some id)) p None ≡ Some id = ap (λ i. get_or (set known place (Some id)) i None) same ∙ get_or-set_same known place (Some id) None within in
            let one : id ≡ j = same_Some id j (sym here ∙ e) in
            subst (λ i. StandsAs nodes (tree_at from (record { 0 = i })) j) (sym same) (subst (λ i. StandsAs nodes (tree_at from (record { 0 = place })) i) one at)
        | inr other ↦ h.copies p j (sym (get_or-set_other known place p (Some id) None other) ∙ e)
      ];
}

-- ---- one formula

by_sixteen : (nodes : List Node) → IsNodeList nodes → IsGood MAX_SIGNALS nodes
by_sixteen nodes list = record { list = list; below = record { nodes_below = list.signals } }

module _ (from : List Node) (id : FormulaId) (from_list : IsNodeList from) (there : IsNodeIn from id) where
  put_filled : (old new : Work) (copy : FormulaId) → IsNodeList old.formulas → put (tree_at from id) old ≡ gives copy new
      → IsKept MAX_SIGNALS old.formulas (λ id' nodes. StandsAs nodes (tree_at from id) id') copy new.formulas
  put_filled old new copy list is =
      let below = signals_are_below from id from_list there in
      given (IsKept MAX_SIGNALS old.formulas (λ id' nodes. StandsAs nodes (tree_at from id) id')) (put (tree_at from id) old) copy new (fills_put (tree_at from id) below below old (by_sixteen old.formulas list)) is

over_is : (whole : FormulaId → Node) (part : Outcome FormulaId) → put_over whole part ≡ go_on (over whole part) (λ x w. made 0 x w)
over_is whole (gives a w) = refl
over_is whole (fails code place) = refl

both_is : (whole : FormulaId → FormulaId → Node) (a : FormulaId) (right : Outcome FormulaId)
    → go_on right (λ b w. made 0 (whole a b) w) ≡ go_on (go_on (go_on right (λ b w. gives (let p : Pair = record { left = a; right = b } in p) w)) (λ p w. gives (whole p.left p.right) w)) (λ x w. made 0 x w)
both_is whole a (gives b w) = refl
both_is whole a (fails code place) = refl

over_both_is : (whole : FormulaId → FormulaId → Node) (left : Outcome FormulaId) (right : Work → Outcome FormulaId) → put_over_both whole left right ≡ go_on (over_both whole left right) (λ x w. made 0 x w)
over_both_is whole (gives a w) right = both_is whole a (right w)
over_both_is whole (fails code place) right = refl

put_by_parts : (t : Tree) (w : Work) → put t w ≡ go_on (parts_put t w) (λ x w. made 0 x w)
put_by_parts truth w = refl
put_by_parts falsity w = refl
put_by_parts (signal s) w = refl
put_by_parts (negation a) w = over_is node.Not (put a w)
put_by_parts (next_time a) w = over_is node.Next (put a w)
put_by_parts (finally a) w = over_is node.Finally (put a w)
put_by_parts (globally a) w = over_is node.Globally (put a w)
put_by_parts (conjunction a b) w = over_both_is node.And (put a w) (put b)
put_by_parts (disjunction a b) w = over_both_is node.Or (put a w) (put b)
put_by_parts (implication a b) w = over_both_is node.Implies (put a w) (put b)
put_by_parts (equivalence a b) w = over_both_is node.Equiv (put a w) (put b)
put_by_parts (until a b) w = over_both_is node.Until (put a w) (put b)
put_by_parts (release a b) w = over_both_is node.Release (put a w) (put b)
put_by_parts (weak_until a b) w = over_both_is node.WeakUntil (put a w) (put b)

module _ (t : Tree) (old mid : Work) (x : Node) where
  pub put_is : (copy : FormulaId) (new : Work) → parts_put t old ≡ gives x mid → made 0 x mid ≡ gives copy new → put t old ≡ gives copy new
  put_is copy new parts last = put_by_parts t old ∙ ap (λ o. go_on o (λ y w. made 0 y w)) parts ∙ last

  pub put_fault : (e : SpecFault) → parts_put t old ≡ gives x mid → IsFault (made 0 x mid) e → IsFault (put t old) e
  put_fault NoMemory parts h = tt
  put_fault (At code place) parts h = put_by_parts t old ∙ ap (λ o. go_on o (λ y w. made 0 y w)) parts ∙ h

-- the copies that are known after a formula was put by its parts
pub copies_after : (from : List Node) (known : List (Option FormulaId)) (id : FormulaId) (old mid new : Work) (x : Node) (copy : FormulaId) → IsNodeList old.formulas → IsNodeIn from id → length known ≡ length from
    → AreCopies from known mid.formulas → Grows mid.formulas new.formulas → parts_put (tree_at from id) old ≡ gives x mid → made 0 x mid ≡ gives copy new → AreCopies from (set known id.0 (Some copy)) new.formulas
copies_after from known id old mid new x copy list there room h grows parts last =
    let got = put_filled from id h.from_list there old new copy list (put_is (tree_at from id) old mid x copy new parts last) in
    let within : id.0 < length known = let s : id.0 < length from = there in omega arith in
    copies_with from known new.formulas id.0 copy (copies_later from known mid.formulas new.formulas h grows got.good.list) within got.is

-- a formula whose copy is known is that copy
pub known_is : (from : List Node) (known : List (Option FormulaId)) (work : Work) (id copy : FormulaId) → AreCopies from known work.formulas → get_or known id.0 None ≡ Some copy → put (tree_at from id) work ≡ gives copy work
known_is from known work id copy h e = put_again work h.list (tree_at from id) copy (h.copies id.0 copy e)

-- ---- one formula after the other

module _ {A : Type 0} where
  -- those that were put so far stand before
  abbrev pub behind : List A → Outcome (List A) → Outcome (List A)
  behind xs o = go_on o (λ more w. gives (xs ++ more) w)
