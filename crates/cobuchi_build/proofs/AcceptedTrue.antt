use Rattle.std.proofs.Common.{◌≡◌, ◌⊎◌, inl, inr, ℕ, zero, suc, ◌<◌, ◌≤◌, Bool, true, false, not, ◌&&◌, List, [], ◌∷◌, length, refl, sym, ◌∙◌, ap, subst, arith}
use Rattle.std.specs.Prelude.{Contains}
use Rattle.std.proofs.lemmas.Bool.{and_from, both_ways, false_from_ne_true, not-true, not_from_false, or_left, or_right}
use Rattle.std_lemmas.proofs.Lists.{Contains-head, Contains-later}
use Rattle.letters_and_lassos.specs.Word.{Word, HasRing, after, lasso_len, letter_at, next}
use Rattle.letters_and_lassos.proofs.Positions.{next_within}
use Rattle.ltl_formula.specs.Laws.{Comes}
use Rattle.ltl_formula.specs.declared.nodes.FormulaId.{FormulaId}
use Rattle.ltl_formula.specs.declared.nodes.Node.{Node}
use Rattle.ltl_formula.specs.declared.nodes.Node.TheVariants.{True, False, Signal, Not, Next, Finally, Globally, And, Or, Implies, Equiv, Until, Release, WeakUntil}
use Rattle.ltl_formula.specs.Nodes.{IsNodeList, PartsBelow, IsNodeIn, node_at, tree_at, tree_of, trees_of}
use Rattle.ltl_formula.specs.Truth.{holds, release_at, until_at}
use Rattle.ltl_formula.proofs.Ahead.{until_at-gives, until_at-unfold}
use Rattle.ltl_formula.proofs.Trees.{tree_at-node}
use Rattle.obligation_sets.specs.declared.sets.Covering.{Covering}
use Rattle.obligation_sets.specs.Ids.{has_id}
use Rattle.obligation_sets.proofs.BackedLeaves.{Backed, InNext, InPostponed, Seen}
use Rattle.obligation_sets.proofs.Flags.{has_id-within}
use Rattle.obligation_sets.proofs.Implied.{AsksFor}
use Rattle.obligation_sets.proofs.NextStep.{opposed_value}
use Rattle.obligation_sets.proofs.OneStep.{one_step, value}
use Rattle.cobuchi_build.specs.declared.exploring.State.{State}
use Rattle.cobuchi_build.specs.Occurring.{OccursIn, operands_of}
use Rattle.cobuchi_build.specs.Occurring.OccursIn.{part}
use Rattle.cobuchi_build.proofs.Moves.{AllPut, Move, Walk, all_held, begin_at_end, done_in, left_in, seen_done}

-- an until of which one part is false comes on
unfold_now : (w : Word) (a b : ℕ → Bool) (i : ℕ) → HasRing w → i < lasso_len w → b i ≡ true → until_at w a b i ≡ true
unfold_now w a b i ring within h = until_at-unfold w a b i ring within ∙ or_left (b i) (a i && until_at w a b (next w i)) h

unfold_on : (w : Word) (a b : ℕ → Bool) (i : ℕ) → HasRing w → i < lasso_len w → a i ≡ true → until_at w a b (next w i) ≡ true → until_at w a b i ≡ true
unfold_on w a b i ring within h later = until_at-unfold w a b i ring within ∙ or_right (b i) (a i && until_at w a b (next w i)) (and_from (a i) (until_at w a b (next w i)) h later)

module _ (covering : Covering) (ns : List Node) (list : IsNodeList ns) (untils : List FormulaId) (w : Word) (ring : HasRing w) (root : FormulaId)
    (numbers : (f : FormulaId) → OccursIn ns root f → (g h : FormulaId) → node_at ns f.0 ≡ Until g h → Contains untils f)
    (home : ℕ) (base : State) (inside : home < lasso_len w) (last : base.counter ≡ length untils) (further : ℕ) (cycle : Walk covering ns list untils w (suc further) home base home base) where
  -- a step from which the base is reached again
  record Live (i : ℕ) (s : State) : Type 0 where
    within : i < lasso_len w
    target : State
    move : Move covering ns list untils w i s target
    steps : ℕ
    rest : Walk covering ns list untils w steps (next w i) target home base

  abbrev now : ℕ → FormulaId → Bool
  now i f = holds w (tree_at ns f) i

  abbrev taken : (i : ℕ) (s : State) → Live i s → FormulaId → Type 0
  taken i s l f = has_id l.move.leaf.done f ≡ true

  at_home : Live home base
  at_home = record { within = inside; target = cycle.0; move = cycle.1; steps = further; rest = cycle.2 }

  goes_on : (n i : ℕ) (s : State) → i < lasso_len w → Walk covering ns list untils w n i s home base → Live i s
  goes_on zero i s within walk = subst (λ (k : ℕ). Live k s) (sym walk.0) (subst (λ (t : State). Live home t) (sym walk.1) at_home)
  goes_on (suc n) i s within walk = record { within = within; target = walk.0; move = walk.1; steps = n; rest = walk.2 }

  live_next : (i : ℕ) (s : State) (l : Live i s) → Live (next w i) l.target
  live_next i s l = goes_on l.steps (next w i) l.target (next_within w i ring l.within) l.rest

  backed : (i : ℕ) (s : State) (l : Live i s) (f : FormulaId) → taken i s l f → Backed ns (Seen l.move.leaf) l.move.leaf.cube (InNext l.move.leaf) (InPostponed l.move.leaf) f (node_at ns f.0)
  backed i s l f h = l.move.below.goes.backed f h

  -- each formula with an id below n that occurs and is taken up holds
  abbrev AreTrue : ℕ → Type 0
  AreTrue n = (g : FormulaId) → g.0 < n → OccursIn ns root g → (i : ℕ) (s : State) (l : Live i s) → taken i s l g → now i g ≡ true

  -- a formula that the leaf has seen, or left to the next position
  part_holds : (n : ℕ) → AreTrue n → (g : FormulaId) → g.0 < n → OccursIn ns root g → (i : ℕ) (s : State) (l : Live i s) → Seen l.move.leaf g → now i g ≡ true
  part_holds n below g less occurs i s l seen = below g less occurs i s l (seen_done covering ns list untils w _ l.move.leaf l.move.below g seen)

  module _ (f : FormulaId) (occurs : OccursIn ns root f) (below : AreTrue f.0) where
    module _ (g h : FormulaId) (small_g : g.0 < f.0) (small_h : h.0 < f.0) (occurs_g : OccursIn ns root g) (occurs_h : OccursIn ns root h) where
      abbrev A : ℕ → Bool
      A i = now i g

      abbrev B : ℕ → Bool
      B i = now i h

      module _ (is : node_at ns f.0 ≡ Until g h) where
        -- a step either meets the until or puts it off
        until_step : (i : ℕ) (s : State) (l : Live i s) → taken i s l f → (B i ≡ true) ⊎ ((A i ≡ true) × AsksFor ns l.target.set f × (has_id l.move.leaf.postponed f ≡ true))
        until_step i s l done = by (rw is at (backed i s l f done))
          where
            by : Seen l.move.leaf h ⊎ (Seen l.move.leaf g × InNext l.move.leaf f × InPostponed l.move.leaf f) → (B i ≡ true) ⊎ ((A i ≡ true) × AsksFor ns l.target.set f × (has_id l.move.leaf.postponed f ≡ true))
            by (inl second) = inl (part_holds f.0 below h small_h occurs_h i s l second)
            by (inr off) = inr (part_holds f.0 below g small_g occurs_g i s l off.0, left_in covering ns list untils w i s l.target l.move f off.1, off.2)

        -- along a walk to the base: it holds, or it is put off all along and in the base's set
        record IsPutOff (n i : ℕ) (s : State) (walk : Walk covering ns list untils w n i s home base) : Type 0 where
          there : AsksFor ns base.set f
          back : until_at w A B home ≡ true → until_at w A B i ≡ true
          puts : AllPut covering ns list untils w f n i s home base walk

        until_along : (n i : ℕ) (s : State) → i < lasso_len w → (walk : Walk covering ns list untils w n i s home base) → AsksFor ns s.set f → (until_at w A B i ≡ true) ⊎ IsPutOff n i s walk
        until_along zero i s within walk c = inr (record {
          there = subst (λ (t : State). AsksFor ns t.set f) walk.1 c;
          back = λ h. subst (λ (k : ℕ). until_at w A B k ≡ true) (sym walk.0) h;
          puts = tt;
        })
        until_along (suc n) i s within walk c =
            let l : Live i s = record { within = within; target = walk.0; move = walk.1; steps = n; rest = walk.2 } in
            elim (until_step i s l (done_in covering ns list untils w i s walk.0 walk.1 f c)) [
              | inl met ↦ inl (unfold_now w A B i ring within met)
              | inr off ↦ elim (until_along n (next w i) walk.0 (next_within w i ring within) walk.2 off.1) [
                | inl later ↦ inl (unfold_on w A B i ring within off.0 later)
                | inr put ↦ inr (record { there = put.there; back = λ h. unfold_on w A B i ring within off.0 (put.back h); puts = (off.2, put.puts) })
              ]
            ]

        -- round the cycle the counter passes the until's number, which putting it off at each step forbids
        never_put_off : IsPutOff (suc further) home base cycle → ⊥
        never_put_off put =
            let number : Contains untils f = numbers f occurs g h is in
            let less : number.0 < length untils = number.1 in
            let from : base.counter ≤ number.0 =
            all_held covering ns list untils w number.0 f number.2 further home base home base cycle put.puts (let e = begin_at_end untils base.counter last in rw e (omega arith)) in
            omega arith

        until_at_base : AsksFor ns base.set f → until_at w A B home ≡ true
        until_at_base c =
            elim (until_along (suc further) home base inside cycle c) [
              | inl true_there ↦ true_there
              | inr put ↦ absurd (never_put_off put)
            ]

        until_holds : (i : ℕ) (s : State) (l : Live i s) → taken i s l f → until_at w A B i ≡ true
        until_holds i s l done =
            elim (until_step i s l done) [
              | inl met ↦ unfold_now w A B i ring l.within met
              | inr off ↦ elim (until_along l.steps (next w i) l.target (next_within w i ring l.within) l.rest off.1) [
                | inl later ↦ unfold_on w A B i ring l.within off.0 later
                | inr put ↦ unfold_on w A B i ring l.within off.0 (put.back (until_at_base put.there))
              ]
            ]

      module _ (is : node_at ns f.0 ≡ Release g h) where
        release_step : (i : ℕ) (s : State) (l : Live i s) → taken i s l f → (B i ≡ true) × ((A i ≡ true) ⊎ AsksFor ns l.target.set f)
        release_step i s l done = by (rw is at (backed i s l f done))
          where
            by : Seen l.move.leaf h × (Seen l.move.leaf g ⊎ InNext l.move.leaf f) → (B i ≡ true) × ((A i ≡ true) ⊎ AsksFor ns l.target.set f)
            by both = (
              part_holds f.0 below h small_h occurs_h i s l both.0,
              elim both.1 [
                | inl first ↦ inl (part_holds f.0 below g small_g occurs_g i s l first)
                | inr left ↦ inr (left_in covering ns list untils w i s l.target l.move f left)
              ],
            )

        -- while the first part is false the second is true
        stays : (j i : ℕ) (s : State) (l : Live i s) → taken i s l f → ((k : ℕ) → k < j → A (after w i k) ≡ false) → B (after w i j) ≡ true
        stays zero i s l done none = (release_step i s l done).0
        stays (suc j) i s l done none =
            elim (release_step i s l done).1 [
              | inl first ↦ absurd (both_ways (A i) (none 0 (omega arith)) first)
              | inr left ↦
                  stays j (next w i) l.target (live_next i s l)
                  (done_in covering ns list untils w (next w i) l.target (live_next i s l).target (live_next i s l).move f left)
                  (λ k less. none (suc k) (omega arith))
            ]

        release_holds : (i : ℕ) (s : State) (l : Live i s) → taken i s l f → release_at w A B i ≡ true
        release_holds i s l done =
            not_from_false (until_at w (λ k. not (A k)) (λ k. not (B k)) i)
            (false_from_ne_true (until_at w (λ k. not (A k)) (λ k. not (B k)) i) (λ comes. refute (until_at-gives w (λ k. not (A k)) (λ k. not (B k)) i comes)))
          where
            refute : Comes w (λ k. not (A k)) (λ k. not (B k)) i → ⊥
            refute (j, at) = both_ways (B (after w i j)) (not-true (B (after w i j)) at.comes) (stays j i s l done (λ k less. not-true (A (after w i k)) (at.before k less)))

    -- the truth of the formula by its node
    module _ (i : ℕ) (s : State) (l : Live i s) (done : taken i s l f) (stands : IsNodeIn ns f) where
      abbrev occurs_part : (node : Node) → node_at ns f.0 ≡ node → (g : FormulaId) → Contains (operands_of node) g → OccursIn ns root g
      occurs_part node is g c = part f g occurs (subst (λ (n : Node). Contains (operands_of n) g) (sym is) c)

      one : (g : FormulaId) → IsNodeIn ns g → now i g ≡ value (letter_at w i) (now i) (now (next w i)) g (node_at ns g.0)
      one = (one_step ns w ring i l.within list).means

      seen_holds : (node : Node) → node_at ns f.0 ≡ node → (g : FormulaId) → g.0 < f.0 → Contains (operands_of node) g → Seen l.move.leaf g → now i g ≡ true
      seen_holds node is g less c seen = part_holds f.0 below g less (occurs_part node is g c) i s l seen

      tree_is : (node : Node) → node_at ns f.0 ≡ node → tree_at ns f ≡ tree_of (trees_of ns) node
      tree_is node is = tree_at-node ns f.0 stands (list.parts_first f.0) ∙ ap (tree_of (trees_of ns)) is

      holds_by : (node : Node) → node_at ns f.0 ≡ node → PartsBelow f.0 node → Backed ns (Seen l.move.leaf) l.move.leaf.cube (InNext l.move.leaf) (InPostponed l.move.leaf) f node → now i f ≡ true
      holds_by True is parts b = ap (λ t. holds w t i) (tree_is True is)
      holds_by False is parts b = absurd b
      holds_by (Signal k) is parts b = ap (λ t. holds w t i) (tree_is (Signal k) is) ∙ l.move.fits.must k b
      holds_by (Not g) is parts b =
          let less : g.0 < f.0 = parts in
          ap (λ t. holds w t i) (tree_is (Not g) is) ∙ not_from_false (now i g) (one g (omega arith) ∙ opposed_value (letter_at w i) (now i) (now (next w i)) l.move.leaf.cube l.move.fits g (node_at ns g.0) b)
      holds_by (Next g) is parts b =
          ap (λ t. holds w t i) (tree_is (Next g) is)
          ∙ below g parts (occurs_part (Next g) is g (Contains-head g [])) (next w i) l.target (live_next i s l)
          (done_in covering ns list untils w (next w i) l.target (live_next i s l).target (live_next i s l).move g (left_in covering ns list untils w i s l.target l.move g b))
      holds_by (Finally g) is parts b = absurd b
      holds_by (Globally g) is parts b = absurd b
      holds_by (And g h) is parts b =
          ap (λ t. holds w t i) (tree_is (And g h) is)
          ∙ and_from (now i g) (now i h) (seen_holds (And g h) is g parts.0 (Contains-head g (h ∷ [])) b.0) (seen_holds (And g h) is h parts.1 (Contains-later g (h ∷ []) h (Contains-head h [])) b.1)
      holds_by (Or g h) is parts b =
          ap (λ t. holds w t i) (tree_is (Or g h) is)
          ∙ elim b [
            | inl x ↦ or_left (now i g) (now i h) (seen_holds (Or g h) is g parts.0 (Contains-head g (h ∷ [])) x)
            | inr x ↦ or_right (now i g) (now i h) (seen_holds (Or g h) is h parts.1 (Contains-later g (h ∷ []) h (Contains-head h [])) x)
          ]
      holds_by (Implies g h) is parts b = absurd b
      holds_by (Equiv g h) is parts b = absurd b
      holds_by (Until g h) is parts b =
          ap (λ t. holds w t i) (tree_is (Until g h) is)
          ∙ until_holds g h parts.0 parts.1 (occurs_part (Until g h) is g (Contains-head g (h ∷ []))) (occurs_part (Until g h) is h (Contains-later g (h ∷ []) h (Contains-head h []))) is i s l done
      holds_by (Release g h) is parts b =
          ap (λ t. holds w t i) (tree_is (Release g h) is)
          ∙ release_holds g h parts.0 parts.1 (occurs_part (Release g h) is g (Contains-head g (h ∷ []))) (occurs_part (Release g h) is h (Contains-later g (h ∷ []) h (Contains-head h []))) is i s l done
      holds_by (WeakUntil g h) is parts b = absurd b

  are_true : (n : ℕ) → AreTrue n
  are_true zero g less occurs i s l done = absurd (omega arith)
  are_true (suc n) g less occurs i s l done =
      let stands : IsNodeIn ns g = rw l.move.below.places.done at (has_id-within l.move.leaf.done g done) in
      holds_by g occurs (λ f small o j t k d. are_true n f (omega arith) o j t k d) i s l done stands (node_at ns g.0) refl (list.parts_first g.0) (backed i s l g done)

  -- what is in the set of a state from which the base is reached holds there
  pub set_is_true : (n i : ℕ) (s : State) → i < lasso_len w → Walk covering ns list untils w n i s home base → (g : FormulaId) → OccursIn ns root g → AsksFor ns s.set g → holds w (tree_at ns g) i ≡ true
  set_is_true n i s within walk g occurs c =
      let l : Live i s = goes_on n i s within walk in
      are_true (suc g.0) g (omega arith) occurs i s l (done_in covering ns list untils w i s l.target l.move g c)
