use Rattle.std.proofs.Common.{◌≡◌, ◌≤◌, ◌++◌, ◌∷◌, [], ℕ, List, Some, true, false, length, sym, ap, subst, ◌∙◌, rules}
use Rattle.std.specs.Prelude.{All}
use Rattle.std.proofs.lemmas.List.Elements.{All-push}
use Rattle.ltl_formula.specs.declared.nodes.FormulaId.{FormulaId}
use Rattle.cobuchi_build.specs.declared.exploring.State.{State}
use Rattle.cobuchi_build.specs.Occurring.{untils_of}
use Rattle.named_annotation.specs.NamedText.{follows, has_few_leaves, is_numbered, numbers_behind, state_of}
use Rattle.named_annotation.specs.Parts.{formula_state}
use Rattle.named_annotation.proofs.Taking.{IsMadeOf, covers_push, inserted, made_of, not_next, one_more}
use Rattle.named_annotation.proofs.states.NamedStates.take.Goals as goal

pub returns-then-not-may_follow-clause-next : goal.returns-then-not-may_follow-clause-next
returns-then-not-may_follow-clause-next c =
    let named : numbers_behind c.args.line.now ≡ Some c.in-Some.numbers.items = sym (rw c.in-Some.is at c.in_ok-numbers.ensures) in
    let numbered : is_numbered (length c.args.self.now.states.keys) c.in-Some.numbers.items ≡ true = search rules in
    let stated : formula_state c.args.of.now.formulas.now c.args.of.now.f c.in-Some.numbers.items ≡ Some c.in-Some-2.state =
    subst (λ (ns : List ℕ). formula_state c.args.of.now.formulas.now c.args.of.now.f ns ≡ Some c.in-Some-2.state) c.deref-2.ensures.value
    (sym c.in_ok-state.ensures.state ∙ c.in-Some-2.is) in
    let made : IsMadeOf c.args.of.now.formulas.now c.args.of.now.f c.in-Some.numbers.items c.in-Some-2.state =
    made_of c.args.of.now.formulas.now c.args.of.now.f c.in-Some.numbers.items c.in-Some-2.state stated in
    let fails : c.may_follow.result ≡ false = search rules in
    not_next c.args.of.now.formulas.now c.args.of.now.f c.args.self.now.states.keys c.args.line.now c.in-Some.numbers.items named numbered made.of_formula
    (subst (λ (s : State). follows c.args.self.now.states.keys s (state_of c.in-Some.numbers.items) ≡ false) c.requires.known.start
    (subst (λ (s : State). follows c.args.self.now.states.keys c.args.of.now.start s ≡ false) made.same (sym c.may_follow.ensures ∙ fails)))

pub returns-clause-next : goal.returns-clause-next
returns-clause-next c =
    let named : numbers_behind c.args.line.now ≡ Some c.in-Some.numbers.items = sym (rw c.in-Some.is at c.in_ok-numbers.ensures) in
    let numbered : is_numbered (length c.args.self.now.states.keys) c.in-Some.numbers.items ≡ true = search rules in
    let stated : formula_state c.args.of.now.formulas.now c.args.of.now.f c.in-Some.numbers.items ≡ Some c.in-Some-2.state =
    subst (λ (ns : List ℕ). formula_state c.args.of.now.formulas.now c.args.of.now.f ns ≡ Some c.in-Some-2.state) c.deref-2.ensures.value
    (sym c.in_ok-state.ensures.state ∙ c.in-Some-2.is) in
    let made : IsMadeOf c.args.of.now.formulas.now c.args.of.now.f c.in-Some.numbers.items c.in-Some-2.state =
    made_of c.args.of.now.formulas.now c.args.of.now.f c.in-Some.numbers.items c.in-Some-2.state stated in
    let fits : c.may_follow.result ≡ true = search rules in
    let few : has_few_leaves c.args.of.now.formulas.now c.in-Some-2.state ≡ true = rw c.in-Some-3.is at c.in_ok-covers.ensures.few in
    one_more c.args.of.now.formulas.now c.args.of.now.f c.args.self.now.states.keys c.args.line.now c.in-Some.numbers.items named numbered made.of_formula
    (subst (λ (s : State). follows c.args.self.now.states.keys s (state_of c.in-Some.numbers.items) ≡ true) c.requires.known.start
    (subst (λ (s : State). follows c.args.self.now.states.keys c.args.of.now.start s ≡ true) made.same (sym c.may_follow.ensures ∙ fits)))
    (subst (λ (s : State). has_few_leaves c.args.of.now.formulas.now s ≡ true) made.same few)
    ∙ ap Some (sym (inserted c.args.self.now.states.keys c.insert.new.self.keys c.args.of.now.start c.in-Some-2.state (sym c.may_follow.ensures ∙ fits) c.in_ok-insert.ensures.keys
    ∙ ap (λ (s : State). c.args.self.now.states.keys ++ s ∷ []) made.same))

pub returns-clause-covers : goal.returns-clause-covers
returns-clause-covers c =
    let fits : c.may_follow.result ≡ true = search rules in
    let keys : c.insert.new.self.keys ≡ c.args.self.now.states.keys ++ c.in-Some-2.state ∷ [] =
    inserted c.args.self.now.states.keys c.insert.new.self.keys c.args.of.now.start c.in-Some-2.state (sym c.may_follow.ensures ∙ fits) c.in_ok-insert.ensures.keys in
    let within : c.in-Some-2.state.counter ≤ length c.args.of.now.untils.items = rw c.in-Some-2.is at c.in_ok-state.ensures.counter in
    record {
      covers = covers_push (λ covers. covers.items) c.args.of.now.formulas.now c.args.self.now.covers.items c.push.new.self.items c.in-Some-3.covers c.args.self.now.states.keys
          c.insert.new.self.keys c.in-Some-2.state c.requires.covers.covers c.in_ok-push.ensures.items (rw c.in-Some-3.is at c.in_ok-covers.ensures.some) keys;
      counters = subst (λ (states : List State). All (λ (s : State). s.counter ≤ length (untils_of c.args.of.now.formulas.now c.args.of.now.f)) states) (sym keys)
          (All-push (λ (s : State). s.counter ≤ length (untils_of c.args.of.now.formulas.now c.args.of.now.f)) c.args.self.now.states.keys c.in-Some-2.state
          c.requires.covers.counters
          (subst (λ (us : List FormulaId). c.in-Some-2.state.counter ≤ length us) c.requires.known.untils within));
    }
