use Rattle.std.proofs.Common.{◌≡◌, ◌<◌, length, ◌∙◌, arith}
use Rattle.std.specs.Prelude.{◌&&◌}
use Rattle.std.proofs.lemmas.List.{length-set}
use Rattle.machine_model.specs.Automaton.{states_of}
use Rattle.machine_model.specs.Components.{are_joined}
use Rattle.machine_model.specs.Marked.{is_marked}
use Rattle.machine_model.proofs.NamesBelow.{left_more, marked_joined, named_more}
use Rattle.machine_model.proofs.names.name_component.Goals as goal

pub loop-r-preserved : goal.loop-r-preserved
loop-r-preserved c =
    let state : c.loop-r.r < states_of c.args.automaton.now = omega (arith, c.loop-r-test.true, c.states-r-end.ensures.value) in
    let inside : c.loop-r.r < length c.loop-r.names = omega (arith, state, c.loop-r.invariant.places, c.requires.places) in
    let joined : c.is_in_both-joined.result ≡ are_joined c.args.automaton.now c.args.q c.loop-r.r
    = c.is_in_both-joined.ensures ∙ (λ i. is_marked (c.deref.ensures.value i) c.loop-r.r && is_marked (c.deref-in-loop-r.ensures.value i) c.loop-r.r)
    ∙ marked_joined c.args.automaton.now c.args.q c.loop-r.r c.in_ok-ahead.ahead.items c.in_ok-behind.behind.items c.in_ok-ahead.ensures c.in_ok-behind.ensures state in
    record {
      places = length-set c.loop-r.names c.loop-r.r c.new_name.result ∙ c.loop-r.invariant.places;
      named = named_more c.args.automaton.now c.args.q c.loop-r.r c.args.names.now c.loop-r.names c.is_in_both-joined.result c.new_name.result inside joined c.new_name.ensures c.loop-r.invariant.named c.loop-r.invariant.left;
      left = left_more c.args.automaton.now c.args.q c.loop-r.r c.args.names.now c.loop-r.names c.is_in_both-joined.result c.new_name.result inside joined c.new_name.ensures c.loop-r.invariant.left;
    }
