use Rattle.std.proofs.Common.{◌≡◌, ◌+◌, ◌*◌, ◌<◌, ◌++◌, ◌∷◌, [], None, get_or, length, ap, sym, subst, ◌∙◌}
use Rattle.std.proofs.lemmas.List.{get_or_default}
use Rattle.machine_model.specs.Automaton.{states_of}
use Rattle.machine_model.specs.Problem.{automaton_of}
use Rattle.machine_model.specs.declared.problems.Problem.{Problem}
use Rattle.product_bound.specs.Annotation.{number_at}
use Rattle.annotation_encode.specs.Assigned.{pair_values, reaches}
use Rattle.annotation_encode.specs.BaseClauses.{each_below}
use Rattle.annotation_encode.proofs.Lists.{each_more}
use Rattle.annotation_encode.proofs.Sizes.{place_below}
use Rattle.annotation_encode.proofs.assigning.push_state_values.Goals as goal

pub loop-q-preserved : goal.loop-q-preserved
loop-q-preserved c =
    let p : Problem = c.args.numbering.problem.now in
    let states : c.states-states.result ≡ states_of (automaton_of p) = c.states-states.ensures.value ∙ ap states_of c.deref.ensures in
    let below : c.args.t * states_of (automaton_of p) + c.loop-q.q < p.size * states_of (automaton_of p)
    = place_below c.args.t (states_of (automaton_of p)) c.loop-q.q p.size c.requires.state (subst (λ n. c.loop-q.q < n) states c.loop-q-test.true) in
    let within : c.args.t * c.states-states.result + c.loop-q.q < length c.args.annotation.now.numbers.items
    = subst (λ n. c.args.t * n + c.loop-q.q < length c.args.annotation.now.numbers.items) (sym states) (subst (λ n. c.args.t * states_of (automaton_of p) + c.loop-q.q < n) (sym c.requires.places) below) in
    let number : c.index-number.result.now ≡ number_at p c.args.annotation.now.numbers.items c.args.t c.loop-q.q
    = c.index-number.ensures
    ∙ get_or_default c.args.annotation.now.numbers.items (c.args.t * c.states-states.result + c.loop-q.q) c.index-number.result.now None within
    ∙ ap (λ n. get_or c.args.annotation.now.numbers.items (c.args.t * n + c.loop-q.q) None) states in
    let step : c.push_pair_values.new.values.items ≡ c.loop-q.values.items ++ pair_values p c.args.annotation.now.numbers.items c.args.t c.loop-q.q
    = c.in_ok-push_pair_values.ensures ∙ (λ i. c.loop-q.values.items ++ each_below (c.bound_at.ensures.value i + 1) (λ k. reaches (number i) k ∷ [])) in
    each_more c.args.values.now.items c.loop-q.values.items c.push_pair_values.new.values.items (λ q. pair_values p c.args.annotation.now.numbers.items c.args.t q) c.loop-q.q c.loop-q.invariant step
