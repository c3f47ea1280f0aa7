-- Names of states by the components of the first ones.
use Rattle.std.proofs.Common.{◌≡◌, ℕ, ◌+◌, ◌<◌, ◌≤◌, inl, inr, Bool, true, false, List, length, get_or, slice_set, cond, refl, sym, ap, ◌∙◌, subst, arith}
use Rattle.std.specs.Prelude.{◌&&◌, ◌==◌}
use Rattle.std.proofs.lemmas.Bool.{cases_eq, cases_lt, cond-true, cond-false, eq-eqb, eqb-true}
use Rattle.std.proofs.lemmas.List.{get_or-set_other, get_or-set_same}
use Rattle.machine_model.specs.Automaton.{AutomatonModel, IsAutomaton, states_of}
use Rattle.machine_model.specs.Components.{are_joined}
use Rattle.machine_model.proofs.Classes.{joined_back, joined_on, joined_self}
use Rattle.machine_model.specs.Marked.{AreLedTo, is_marked}
use Rattle.machine_model.specs.Named.{AreNamed, AreNamesBelow, IsLeastBelow, IsNameSoFar, IsOneMore, named, unnamed}
use Rattle.machine_model.specs.declared.marks.Way.TheVariants.{Ahead, Behind}

no_both : {X : Type 0} (b : Bool) → b ≡ true → b ≡ false → X
no_both b yes' no' = absurd (let e : true ≡ false = sym yes' ∙ no' in cc)

-- marked both ways is joined
pub marked_joined : (a : AutomatonModel) (q r : ℕ) (ahead behind : List Bool) → AreLedTo a Ahead q ahead → AreLedTo a Behind q behind → r < states_of a
    → (is_marked ahead r && is_marked behind r) ≡ are_joined a q r
unfolding are_joined
marked_joined a q r ahead behind led back h = λ i. led.at r h i && back.at r h i

-- one state more has the name that it gets
module _ (a : AutomatonModel) (q r : ℕ) (old names : List ℕ) (joined : Bool) (new : ℕ) (h : r < length names) (is : joined ≡ are_joined a q r) (new_is : new ≡ cond joined q (get_or names r 0)) where
  pub named_more : ((s : ℕ) → s < r → get_or names s 0 ≡ cond (are_joined a q s) q (get_or old s 0)) → ((s : ℕ) → r ≤ s → get_or names s 0 ≡ get_or old s 0)
      → (s : ℕ) → s < r + 1 → get_or (slice_set names r new) s 0 ≡ cond (are_joined a q s) q (get_or old s 0)
  named_more known left s less = elim (cases_eq s r) [
    | inl same ↦
        ap (λ k. get_or (slice_set names r new) k 0) same ∙ get_or-set_same names r new 0 h ∙ new_is
        ∙ (λ j. cond (is j) q (left r (omega arith) j)) ∙ ap (λ k. cond (are_joined a q k) q (get_or old k 0)) (sym same)
    | inr ne ↦ get_or-set_other names r s new 0 ne ∙ known s (omega (arith, less, ne))
  ]

  pub left_more : ((s : ℕ) → r ≤ s → get_or names s 0 ≡ get_or old s 0) → (s : ℕ) → r + 1 ≤ s → get_or (slice_set names r new) s 0 ≡ get_or old s 0
  left_more left s more = get_or-set_other names r s new 0 (λ same. omega (arith, same, more)) ∙ left s (omega (arith, more))

-- before any has its name
pub none_named : (a : AutomatonModel) (names : List ℕ) → length names ≡ states_of a → ((r : ℕ) → r < states_of a → get_or names r 0 ≡ states_of a) → AreNamesBelow a 0 names
none_named a names places all = record { places = places; at = λ r h. unnamed (all r h) (λ s less. absurd (omega arith)) }

module _ (a : AutomatonModel) (made : IsAutomaton a) where
  -- one state more, which has its name already
  module _ (q : ℕ) (state : q < states_of a) where
    joined_less : (r s : ℕ) → r < states_of a → s < q → are_joined a r q ≡ true → are_joined a r s ≡ true → are_joined a q s ≡ true
    joined_less r s hr hs rq rs = joined_on a q r s made state (omega (arith, hs, state)) (joined_back a r q rq) rs

    known_state : (name r : ℕ) → r < states_of a → IsNameSoFar a q q name → (name ≡ states_of a → ⊥) → (old : ℕ) → IsNameSoFar a q r old → IsNameSoFar a (q + 1) r old
    known_state name r hr (unnamed is none) ne old known = absurd (ne is)
    known_state name r hr (named less joined least) ne old (named small there others) = named (omega (arith, small)) there others
    known_state name r hr (named less joined least) ne old (unnamed is none) = unnamed is (λ s h. elim (cases_lt s q) [
      | inl before ↦ none s before
      | inr late ↦
          let here : s ≡ q = omega (arith, h, late) in
          subst (λ x. are_joined a r x ≡ false) (sym here) (apart (are_joined a r q) refl)
    ])
      where
        apart : (b : Bool) → are_joined a r q ≡ b → are_joined a r q ≡ false
        apart false e = e
        apart true e = no_both (are_joined a r name) (joined_on a r q name made hr (omega (arith, less, state)) e joined) (none name less)

    -- one that gets it
    new_state : (name r : ℕ) → r < states_of a → IsNameSoFar a q q name → name ≡ states_of a → (old new : ℕ) → new ≡ cond (are_joined a q r) q old → IsNameSoFar a q r old → IsNameSoFar a (q + 1) r new
    new_state name r hr (named less joined least) is old new new_is known = absurd (omega (arith, is, less, state))
    new_state name r hr (unnamed _ none) is old new new_is known = by_joined (are_joined a q r) refl known
      where
        by_joined : (b : Bool) → are_joined a q r ≡ b → IsNameSoFar a q r old → IsNameSoFar a (q + 1) r new
        by_joined true e (named small there others) = no_both (are_joined a q old) (joined_on a q r old made state (omega (arith, small, state)) e there) (none old small)
        by_joined true e (unnamed old_is free) =
            let same : new ≡ q = new_is ∙ cond-true (are_joined a q r) q old e in
            subst (IsNameSoFar a (q + 1) r) (sym same) (named (omega arith) (joined_back a q r e) free)
        by_joined false e (named small there others) =
            let same : new ≡ old = new_is ∙ cond-false (are_joined a q r) q old e in
            subst (IsNameSoFar a (q + 1) r) (sym same) (named (omega (arith, small)) there others)
        by_joined false e (unnamed old_is free) =
            let same : new ≡ old = new_is ∙ cond-false (are_joined a q r) q old e in
            subst (IsNameSoFar a (q + 1) r) (sym same) (unnamed old_is (λ s h. elim (cases_lt s q) [
              | inl before ↦ free s before
              | inr late ↦
                  let here : s ≡ q = omega (arith, h, late) in
                  subst (λ x. are_joined a r x ≡ false) (sym here) (apart (are_joined a r q) refl e)
            ]))
          where
            apart : (b : Bool) → are_joined a r q ≡ b → are_joined a q r ≡ false → are_joined a r q ≡ false
            apart false x y = x
            apart true x y = no_both (are_joined a q r) (joined_back a r q x) y

    pub stays_named : (names : List ℕ) → (get_or names q 0 ≡ states_of a → ⊥) → AreNamesBelow a q names → AreNamesBelow a (q + 1) names
    stays_named names ne before = record { places = before.places; at = λ r h. known_state (get_or names q 0) r h (before.at q state) ne (get_or names r 0) (before.at r h) }

    pub newly_named : (old new : List ℕ) → get_or old q 0 ≡ states_of a → IsOneMore a q old new → AreNamesBelow a q old → AreNamesBelow a (q + 1) new
    newly_named old new is more before = record {
      places = more.places ∙ before.places;
      at = λ r h. new_state (get_or old q 0) r h (before.at q state) is (get_or old r 0) (get_or new r 0) (more.at r h) (before.at r h);
    }

    -- by a test of whether it has
    pub stays_by : (names : List ℕ) (test : Bool) → test ≡ (get_or names q 0 == states_of a) → test ≡ false → AreNamesBelow a q names → AreNamesBelow a (q + 1) names
    stays_by names test is no' =
        stays_named names (λ same. let both : true ≡ false = sym (is ∙ eq-eqb (get_or names q 0) (states_of a) same) ∙ no' in cc)

    pub newly_by : (old new : List ℕ) (test : Bool) → test ≡ (get_or old q 0 == states_of a) → test ≡ true → IsOneMore a q old new → AreNamesBelow a q old → AreNamesBelow a (q + 1) new
    newly_by old new test is yes' = newly_named old new (eqb-true (get_or old q 0) (states_of a) (sym is ∙ yes'))

  -- where each state was looked at
  least_of : (q r name : ℕ) → r < states_of a → states_of a ≤ q → IsNameSoFar a q r name → IsLeastBelow (are_joined a r) r name
  least_of q r name h all (unnamed is none) = absurd (no_both {X = ⊥} (are_joined a r r) (joined_self a r) (none r (omega (arith, h, all))))
  least_of q r name h all (named small there others) =
      let within : name ≤ r = elim (cases_lt r name) [
        | inl over ↦ absurd (no_both {X = ⊥} (are_joined a r r) (joined_self a r) (others r over))
        | inr most ↦ most
      ] in
      record { within = within; passes = λ _. there; others = others }

  pub all_named : (q : ℕ) (names : List ℕ) → states_of a ≤ q → AreNamesBelow a q names → AreNamed a names
  all_named q names all below = record { whole = made; places = below.places; at = λ r h. least_of q r (get_or names r 0) h all (below.at r h) }
