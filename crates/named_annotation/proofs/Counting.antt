-- The numbers of the pairs along a path of named states.
use Rattle.std.proofs.Common.{◌≡◌, ℕ, zero, suc, ◌+◌, ◌-◌, ◌<◌, ◌≤◌, Bool, true, false, IsTrue, cond, List, length, get_or, refl, sym, ap, subst, ◌∙◌, arith}
use Rattle.std.specs.Prelude.{All, Contains, sum_by}
use Rattle.std.proofs.lemmas.Bool.{eq-eqb}
use Rattle.letters_and_lassos.specs.declared.kinds.Kind.{Kind}
use Rattle.letters_and_lassos.specs.declared.kinds.Side.{Side}
use Rattle.letters_and_lassos.specs.Word.{Word, HasRing, after, lasso_len, next, nth_letter}
use Rattle.letters_and_lassos.proofs.Positions.{after-suc, after_within}
use Rattle.ltl_formula.specs.declared.nodes.FormulaId.{FormulaId}
use Rattle.ltl_formula.specs.declared.nodes.Node.{Node}
use Rattle.ltl_formula.specs.Nodes.{IsNodeList, IsNodeIn as IsFormula, tree_at}
use Rattle.ltl_formula.specs.NormalForm.{IsNormal}
use Rattle.ltl_formula.specs.Truth.{holds}
use Rattle.obligation_sets.specs.declared.sets.Covering.{Covering}
use Rattle.obligation_sets.specs.declared.sets.Cover.{Cover}
use Rattle.machine_model.specs.Automaton.{AutomatonModel, HasEdge}
use Rattle.cobuchi_build.specs.declared.exploring.State.{State}
use Rattle.cobuchi_build.specs.Explored.{start_state, state_after}
use Rattle.cobuchi_build.specs.Laws.{TrueFormulasHavePaths}
use Rattle.cobuchi_build.specs.Occurring.{untils_of}
use Rattle.cobuchi_build.specs.Paths.{HasPath}
use Rattle.aiger_text.specs.Circuit.{Circuit, Valuation, IsCircuitRun, latch_values}
use Rattle.annot_check.specs.declared.pairs.Pair.{Pair}
use Rattle.annot_check.specs.Pairs.{PairStands, weight}
use Rattle.annot_check.specs.Valid.{IsValidPairList}
use Rattle.annot_check.proofs.Lists.{All-Contains}
use Rattle.annot_check.proofs.Walks.{Stands-bounded, Stands-less, Stands-step, goes, resets}
use Rattle.named_annotation.specs.Laws.{IsNeverTrue}
use Rattle.named_annotation.specs.NamedStates.{automaton_over, number_of_state}
use Rattle.named_annotation.proofs.Numbered.{IsPlaced, edge_at, first_number, placed, rejects_at}

-- the states begin with the start of f, and the pairs are of their numbers
pub record IsNamedList (f : FormulaId) (states : List State) (pairs : List Pair) : Type 0 where
  pub some : 0 < length states
  pub starts : (d : State) → get_or states 0 d ≡ start_state f
  pub numbers : All (λ (pair : Pair). pair.state < length states) pairs

module _ (side : Side) (c : Circuit) (kind : Kind) (ns : List Node) (f : FormulaId) (states : List State) (pairs : List Pair)
    (named : IsNamedList f states pairs) (valid : IsValidPairList side c kind (automaton_over ns f states) pairs)
    (w : Word) (values : ℕ → Valuation) (run : IsCircuitRun side c w values) (path : HasPath Covering.Reduced ns f w) where
  abbrev a : AutomatonModel
  a = automaton_over ns f states

  abbrev place : ℕ → ℕ
  place t = number_of_state states (path.state t)

  -- the pair of the latches and of the state at a time stands
  abbrev Reached : ℕ → ℕ → Type 0
  Reached t least = PairStands pairs (latch_values c (values (after w 0 t))) (place t) least

  inside : (t : ℕ) → after w 0 t < lasso_len w
  inside t = after_within w 0 t run.lasso.ring (let some : HasRing w = run.lasso.ring in omega (arith, some))

  at : (t least : ℕ) → Reached t least → IsPlaced states (path.state t)
  at t least stands =
      let own : stands.pair.state < length states = All-Contains (λ (pair : Pair). pair.state < length states) pairs stands.pair named.numbers stands.among in
      placed states (path.state t) (subst (λ n. n < length states) stands.state_is own)

  begins : Reached 0 0
  begins =
      let here : 0 ≡ place 0 = sym (ap (number_of_state states) path.starts ∙ first_number states (start_state f) named.some named.starts) in
      Stands-less pairs (latch_values c (values 0)) (place 0) (weight a 0) 0 (omega arith)
      (subst (λ n. PairStands pairs (latch_values c (values 0)) n (weight a 0)) here
      (subst (λ (code : List Bool). PairStands pairs code 0 (weight a 0)) (resets side c w values run) valid.start))

  edge : (t least : ℕ) → Reached t least → HasEdge a (nth_letter w t) (place t) (place (suc t))
  edge t least stands =
      let here : IsPlaced states (path.state t) = at t least stands in
      let cover : Cover = (path.steps t).cover in
      let to : number_of_state states (state_after (untils_of ns f) (path.state t).counter cover) ≡ place (suc t) =
      sym (ap (number_of_state states) (path.steps t).leads) in
      record {
        cube = cover.cube;
        stands = subst (λ (n : ℕ). Contains a.edges (record { from = place t; cube = cover.cube; to = n })) to
            (edge_at ns (untils_of ns f) states (place t) (path.state t) cover here.within (here.at (path.state t)) (path.steps t).is_cover);
        fits = (path.steps t).fits;
      }

  forward : (t least : ℕ) → Reached t least → Reached (suc t) (least + weight a (place (suc t)))
  forward t least stands =
      subst (λ n. PairStands pairs (latch_values c (values n)) (place (suc t)) (least + weight a (place (suc t)))) (sym (after-suc w 0 t))
      (Stands-step side c kind a pairs valid (latch_values c (values (after w 0 t))) (latch_values c (values (next w (after w 0 t)))) (nth_letter w t)
      (place t) (place (suc t)) least (goes side c w values run (after w 0 t) (inside t)) stands (edge t least stands))

  along : (n t least : ℕ) → Reached t least → Reached (t + n) least
  along zero t least stands = subst (λ k. Reached k least) (let e : t ≡ t + 0 = omega arith in e) stands
  along (suc n) t least stands =
      let less : least ≤ least + weight a (place (suc t)) = omega arith in
      subst (λ k. Reached k least) (let e : suc t + n ≡ t + suc n = omega arith in e)
      (along n (suc t) least (Stands-less pairs (latch_values c (values (after w 0 (suc t)))) (place (suc t)) (least + weight a (place (suc t))) least less
      (forward t least stands)))

  counts : (t least : ℕ) → Reached t least → (path.state t).counter ≡ length (untils_of ns f) → weight a (place t) ≡ 1
  counts t least stands ended =
      let here : IsPlaced states (path.state t) = at t least stands in
      ap (λ b. cond b 1 0) (rejects_at ns f states (place t) (path.state t) here.within (here.at (path.state t))
      ∙ eq-eqb (path.state t).counter (length (untils_of ns f)) ended)

  -- at some time the number is as large as one likes
  pub record Climbs (n : ℕ) : Type 0 where
    pub time : ℕ
    pub reached : Reached time n

  climb_to : (n t k : ℕ) → Reached t n → (path.state (suc (t + k))).counter ≡ length (untils_of ns f) → Climbs (suc n)
  climb_to n t k stands ended =
      let before : Reached (t + k) n = along k t n stands in
      let after_it : Reached (suc (t + k)) (n + weight a (place (suc (t + k)))) = forward (t + k) n before in
      let one : weight a (place (suc (t + k))) ≡ 1 = counts (suc (t + k)) (n + weight a (place (suc (t + k)))) after_it ended in
      let more : n + weight a (place (suc (t + k))) ≡ suc n = omega (arith, one) in
      record { time = suc (t + k); reached = subst (λ m. Reached (suc (t + k)) m) more after_it }

  climbs : (n : ℕ) → Climbs n
  climbs zero = record { time = 0; reached = begins }
  climbs (suc n) =
      let so_far : Climbs n = climbs n in
      let end = path.ends so_far.time in
      let later : so_far.time < end.time = end.later in
      let at_end : end.time ≡ suc (so_far.time + (end.time - suc so_far.time)) = omega (arith, later) in
      climb_to n so_far.time (end.time - suc so_far.time) so_far.reached (subst (λ k. (path.state k).counter ≡ length (untils_of ns f)) at_end end.ended)

  pub never : ⊥
  never =
      let top : Climbs (suc (sum_by (λ (p : Pair). p.number) pairs)) = climbs (suc (sum_by (λ (p : Pair). p.number) pairs)) in
      let bound = Stands-bounded pairs (latch_values c (values (after w 0 top.time))) (place top.time) (suc (sum_by (λ (p : Pair). p.number) pairs)) top.reached in
      absurd (omega (arith, bound))

-- the formula is true on no run lasso, by the law that where it is true it has a path
pub never_true : TrueFormulasHavePaths → (side : Side) (c : Circuit) (kind : Kind) (ns : List Node) (f : FormulaId) (states : List State) (pairs : List Pair)
    → IsNodeList ns → IsFormula ns f → IsNormal (tree_at ns f) → IsNamedList f states pairs
    → IsValidPairList side c kind (automaton_over ns f states) pairs → IsNeverTrue side c ns f
never_true paths side c kind ns f states pairs list stands normal named valid = record {
  never = λ w values run. by (holds w (tree_at ns f) 0) (λ is. never side c kind ns f states pairs named valid w values run
      (paths Covering.Reduced ns f w list stands normal run.lasso.ring is));
}
  where
    by : (b : Bool) → (IsTrue b → ⊥) → b ≡ false
    by true impossible = absurd (impossible refl)
    by false impossible = refl
