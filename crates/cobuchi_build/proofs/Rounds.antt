use Rattle.std.proofs.Common.{◌≡◌, inl, inr, ℕ, zero, suc, ◌+◌, ◌-◌, ◌≤◌, List, [], ◌∷◌, Option, Some, None, length, slice_get, sym, ◌∙◌, ap, subst, arith}
use Rattle.std.specs.Prelude.{fold}
use Rattle.std.proofs.lemmas.Bool.{cases_lt}
use Rattle.std.proofs.lemmas.Option.{slice_get_past}
use Rattle.ltl_formula.specs.declared.nodes.FormulaId.{FormulaId}
use Rattle.ltl_formula.specs.declared.nodes.Node.{Node}
use Rattle.obligation_sets.specs.declared.sets.Cover.{Cover}
use Rattle.obligation_sets.specs.declared.sets.Covering.{Covering}
use Rattle.obligation_sets.specs.Reduced.{covers_by}
use Rattle.cobuchi_build.specs.declared.exploring.State.{State}
use Rattle.cobuchi_build.specs.Built.{IsFinished, automaton_from}
use Rattle.cobuchi_build.specs.Explored.{Explored, expanding, explored, meeting, next_round, same_edge, same_state}
use Rattle.cobuchi_build.specs.Laws.{OneAutomatonPerFormula}
use Rattle.cobuchi_build.specs.Occurring.{untils_of}
use Rattle.names_and_numbers.specs.Prefix.{IsPrefix}
use Rattle.names_and_numbers.proofs.PrefixLemmas.{IsPrefix-refl, IsPrefix-trans}
use Rattle.cobuchi_build.proofs.Growth.{insert_key-more}

-- what was found has grown
pub record GrowsTo (old new : Explored) : Type 0 where
  pub states : IsPrefix old.states new.states
  pub edges : IsPrefix old.edges new.edges

pub GrowsTo-refl : (a : Explored) → GrowsTo a a
GrowsTo-refl a = record { states = IsPrefix-refl a.states; edges = IsPrefix-refl a.edges }

pub GrowsTo-trans : (a b c : Explored) → GrowsTo a b → GrowsTo b c → GrowsTo a c
GrowsTo-trans a b c g h = record { states = IsPrefix-trans a.states b.states c.states g.states h.states; edges = IsPrefix-trans a.edges b.edges c.edges g.edges h.edges }

module _ (untils : List FormulaId) (number counter : ℕ) where
  pub meeting_grows : (found : Explored) (c : Cover) → GrowsTo found (meeting untils number counter found c)
  meeting_grows found c = record { states = insert_key-more same_state found.states _; edges = insert_key-more same_edge found.edges _ }

  pub fold_grows : (found : Explored) (cs : List Cover) → GrowsTo found (fold (meeting untils number counter) found cs)
  fold_grows found [] = GrowsTo-refl found
  fold_grows found (c ∷ cs) =
      GrowsTo-trans found (meeting untils number counter found c) (fold (meeting untils number counter) (meeting untils number counter found c) cs)
      (meeting_grows found c) (fold_grows (meeting untils number counter found c) cs)

module _ (covering : Covering) (ns : List Node) (untils : List FormulaId) (f : FormulaId) where
  expanding_grows : (n : ℕ) (found : Explored) (o : Option State) → GrowsTo found (expanding covering ns untils n found o)
  expanding_grows n found None = GrowsTo-refl found
  expanding_grows n found (Some s) = fold_grows untils n s.counter found (covers_by covering ns s.set)

  pub explored_grows : (n d : ℕ) → GrowsTo (explored covering ns untils f n) (explored covering ns untils f (n + d))
  explored_grows n zero = let e : n ≡ n + 0 = omega arith in subst (λ k. GrowsTo (explored covering ns untils f n) (explored covering ns untils f k)) e (GrowsTo-refl (explored covering ns untils f n))
  explored_grows n (suc d) =
      let e : suc (n + d) ≡ n + suc d = omega arith in
      subst (λ k. GrowsTo (explored covering ns untils f n) (explored covering ns untils f k)) e
      (GrowsTo-trans (explored covering ns untils f n) (explored covering ns untils f (n + d)) (explored covering ns untils f (suc (n + d))) (explored_grows n d)
      (expanding_grows (n + d) (explored covering ns untils f (n + d)) (slice_get (explored covering ns untils f (n + d)).states (n + d))))

  pub explored_upto : (n k : ℕ) → n ≤ k → GrowsTo (explored covering ns untils f n) (explored covering ns untils f k)
  explored_upto n k le = let e : n + (k - n) ≡ k = omega arith in subst (λ j. GrowsTo (explored covering ns untils f n) (explored covering ns untils f j)) e (explored_grows n (k - n))

  -- where each state was expanded nothing new comes
  closed_stays : (n d : ℕ) → length (explored covering ns untils f n).states ≤ n → explored covering ns untils f (n + d) ≡ explored covering ns untils f n
  closed_stays n zero closed = let e : n + 0 ≡ n = omega arith in ap (explored covering ns untils f) e
  closed_stays n (suc d) closed =
      let e : n + suc d ≡ suc (n + d) = omega arith in
      let before : explored covering ns untils f (n + d) ≡ explored covering ns untils f n = closed_stays n d closed in
      let past : slice_get (explored covering ns untils f n).states (n + d) ≡ None = slice_get_past (explored covering ns untils f n).states (n + d) (omega arith) in
      ap (explored covering ns untils f) e ∙ ap (next_round covering ns untils (n + d)) before ∙ ap (expanding covering ns untils (n + d) (explored covering ns untils f n)) past

  pub closed_upto : (n k : ℕ) → n ≤ k → length (explored covering ns untils f n).states ≤ n → explored covering ns untils f k ≡ explored covering ns untils f n
  closed_upto n k le closed = let e : k ≡ n + (k - n) = omega arith in ap (explored covering ns untils f) e ∙ closed_stays n (k - n) closed

  pub closed_same : (n k : ℕ) → length (explored covering ns untils f n).states ≤ n → length (explored covering ns untils f k).states ≤ k → explored covering ns untils f n ≡ explored covering ns untils f k
  closed_same n k here there =
      elim (cases_lt n k) [
        | inl less ↦ sym (closed_upto n k (omega arith) here)
        | inr more ↦ closed_upto k n (omega arith) there
      ]

pub finished_same : (covering : Covering) (ns : List Node) (f : FormulaId) (a b : Explored) → IsFinished covering ns f a → IsFinished covering ns f b → a ≡ b
finished_same covering ns f a b x y =
    let here : length (explored covering ns (untils_of ns f) f x.rounds).states ≤ x.rounds = subst (λ (e : Explored). length e.states ≤ x.rounds) x.is x.all in
    let there : length (explored covering ns (untils_of ns f) f y.rounds).states ≤ y.rounds = subst (λ (e : Explored). length e.states ≤ y.rounds) y.is y.all in
    x.is ∙ closed_same covering ns (untils_of ns f) f x.rounds y.rounds here there ∙ sym y.is

pub one_automaton_per_formula : OneAutomatonPerFormula
one_automaton_per_formula covering ns f a b x y = x.is ∙ ap (automaton_from (untils_of ns f)) (finished_same covering ns f x.found y.found x.finished y.finished) ∙ sym y.is
