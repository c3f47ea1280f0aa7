-- Where paths lead, along edges or against them.
use Rattle.std.proofs.Common.{◌≡◌, ℕ, zero, suc, ◌+◌, ◌<◌, inl, inr, Bool, true, false, List, length, replicate, slice_set, refl, sym, ◌∙◌, subst, arith}
use Rattle.std.specs.Prelude.{Contains}
use Rattle.std.proofs.lemmas.Bool.{cases_eq}
use Rattle.std.proofs.lemmas.List.{get_or-set_other}
use Rattle.std.proofs.lemmas.List.Elements.{All-contains}
use Rattle.machine_model.specs.Automaton.{AutomatonModel, IsAutomaton, JoinsStates, states_of}
use Rattle.machine_model.specs.Components.{is_reached}
use Rattle.machine_model.specs.declared.automata.Edge.{Edge}
use Rattle.machine_model.proofs.Reachability.{at_once, goes_on, last_edge, no_edge, reached_le, reached_on, reached_within}
use Rattle.machine_model.specs.Marked.{AreLedTo, GoesAlong, IsPass, is_led, is_marked}
use Rattle.machine_model.specs.declared.marks.Way.{Way}
use Rattle.machine_model.specs.declared.marks.Way.TheVariants.{Ahead, Behind}

same_tests : (a b : Bool) → (a ≡ true → b ≡ true) → (b ≡ true → a ≡ true) → a ≡ b
same_tests true true f g = refl
same_tests true false f g = let e : false ≡ true = f refl in absurd (let x : false ≡ true = e in cc)
same_tests false true f g = let e : false ≡ true = g refl in absurd (let x : false ≡ true = e in cc)
same_tests false false f g = refl

module _ (a : AutomatonModel) (made : IsAutomaton a) (q : ℕ) (state : q < states_of a) where
  ends : (e : Edge) → Contains a.edges e → JoinsStates (states_of a) e
  ends e there = All-contains (JoinsStates (states_of a)) a.edges e made.edges there

  -- a state leads to itself
  pub led_self : (way : Way) → is_led a way q q ≡ true
  led_self Ahead = reached_le a 0 (states_of a) q q (omega arith) (at_once a q q refl)
  led_self Behind = reached_le a 0 (states_of a) q q (omega arith) (at_once a q q refl)

  -- and on along each edge
  pub led_along : (way : Way) → GoesAlong way a.edges (is_led a way q)
  led_along Ahead = record {
    along = λ e there led.
        let joins : JoinsStates (states_of a) e = ends e there in
        reached_within a q (suc (states_of a)) e.to made state joins.to (goes_on a (states_of a) q e.to e there led refl);
  }
  led_along Behind = record {
    along = λ e there led.
        let joins : JoinsStates (states_of a) e = ends e there in
        let one : is_reached a 1 e.from e.to ≡ true = goes_on a 0 e.from e.to e there (at_once a e.from e.from refl) refl in
        reached_within a e.from (1 + states_of a) q made joins.from state (reached_on a 1 (states_of a) e.from e.to q one led);
  }

  module _ (way : Way) (marks : List Bool) (closed : GoesAlong way a.edges (is_marked marks)) where
    -- marks that go along edges go along paths
    ahead : way ≡ Ahead → (n s r : ℕ) → is_reached a n s r ≡ true → is_marked marks s ≡ true → is_marked marks r ≡ true
    ahead is zero s r reached marked = subst (λ x. is_marked marks x ≡ true) (no_edge a s r reached) marked
    ahead is (suc n) s r reached marked = elim (last_edge a n s r reached) [
      | inl before ↦ ahead is n s r before marked
      | inr last ↦
          let from : is_marked marks last.edge.from ≡ true = ahead is n s last.edge.from last.before marked in
          let goes : GoesAlong Ahead a.edges (is_marked marks) = subst (λ w. GoesAlong w a.edges (is_marked marks)) is closed in
          subst (λ x. is_marked marks x ≡ true) last.ends (goes.along last.edge last.stands from)
    ]

    behind : way ≡ Behind → (n s r : ℕ) → is_reached a n r s ≡ true → is_marked marks s ≡ true → is_marked marks r ≡ true
    behind is zero s r reached marked = subst (λ x. is_marked marks x ≡ true) (sym (no_edge a r s reached)) marked
    behind is (suc n) s r reached marked = elim (last_edge a n r s reached) [
      | inl before ↦ behind is n s r before marked
      | inr last ↦
          let goes : GoesAlong Behind a.edges (is_marked marks) = subst (λ w. GoesAlong w a.edges (is_marked marks)) is closed in
          let to : is_marked marks last.edge.to ≡ true = subst (λ x. is_marked marks x ≡ true) (sym last.ends) marked in
          behind is n last.edge.from r last.before (goes.along last.edge last.stands to)
    ]

  all_marked : (way : Way) (marks : List Bool) → GoesAlong way a.edges (is_marked marks) → is_marked marks q ≡ true → (r : ℕ) → is_led a way q r ≡ true → is_marked marks r ≡ true
  all_marked Ahead marks closed start r led = ahead Ahead marks closed refl (states_of a) q r led start
  all_marked Behind marks closed start r led = behind Behind marks closed refl (states_of a) q r led start

  -- state q alone is marked
  pub first_sound : (way : Way) (marks : List Bool) → ((r : ℕ) → is_marked marks r ≡ false) → (r : ℕ) → is_marked (slice_set marks q true) r ≡ true → is_led a way q r ≡ true
  first_sound way marks none r h = elim (cases_eq r q) [
    | inl same ↦ subst (λ x. is_led a way q x ≡ true) (sym same) (led_self way)
    | inr ne ↦ absurd (let both : false ≡ true = sym (none r) ∙ sym (get_or-set_other marks q r true false ne) ∙ h in let e : false ≡ true = both in cc)
  ]

  -- a pass that marks nothing more has marked all
  pub led_marks : (way : Way) (old new : List Bool) (grows : Bool) → IsPass way a.edges old new grows → grows ≡ false → length old ≡ states_of a → is_marked old q ≡ true
      → ((r : ℕ) → is_marked old r ≡ true → is_led a way q r ≡ true) → AreLedTo a way q new
  led_marks way old new grows pass still places start sound = record {
    places = pass.places ∙ places;
    at = λ r h. same_tests (is_marked new r) (is_led a way q r)
        (pass.sound (is_led a way q) (led_along way) sound r)
        (all_marked way new (pass.closed still) (pass.keeps q start) r);
  }

-- nothing is marked
pub none_marked : (n r : ℕ) → is_marked (replicate n false) r ≡ false
none_marked zero r = refl
none_marked (suc n) zero = refl
none_marked (suc n) (suc r) = none_marked n r
