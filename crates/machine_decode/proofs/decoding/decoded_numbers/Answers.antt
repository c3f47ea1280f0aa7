use Rattle.std.proofs.Common.{◌≡◌, ℕ, ◌+◌, ◌/◌, ◌%◌, ◌++◌, ◌∷◌, [], Option, map, sym, ap, ◌∙◌, arith}
use Rattle.std.specs.List.{range_with_len}
use Rattle.std.proofs.lemmas.List.FromFn.{map-range_with_len_more}
use Rattle.machine_model.specs.Automaton.{states_of}
use Rattle.machine_model.specs.Problem.{automaton_of}
use Rattle.product_bound.specs.Annotation.{places_of}
use Rattle.machine_decode.specs.Written.{written_number, pair_number}
use Rattle.machine_decode.proofs.decoding.decoded_numbers.Goals as goal

pub loop-pair-preserved : goal.loop-pair-preserved
loop-pair-preserved c =
    let number : ℕ → Option ℕ = written_number c.args.problem.now c.args.values.now in
    let more : map number (range_with_len 0 (c.loop-pair.pair + 1)) ≡ map number (range_with_len 0 c.loop-pair.pair) ++ number c.loop-pair.pair ∷ [] = map-range_with_len_more number 0 c.loop-pair.pair c.loop-pair.pair (omega arith) in
    let states : c.states-states.result ≡ states_of (automaton_of c.args.problem.now) = c.states-states.ensures.value ∙ ap states_of c.deref.ensures in
    let here : c.decoded_number-number.result ≡ number c.loop-pair.pair
    = c.decoded_number-number.ensures ∙ (λ j. pair_number (c.new-numbering.ensures j) c.args.values.now (c.loop-pair.pair / states j) (c.loop-pair.pair % states j)) in
    c.in_ok-push.ensures.items ∙ (λ j. c.loop-pair.invariant j ++ here j ∷ []) ∙ sym more

pub returns : goal.returns
returns c =
    let end : c.loop-pair.pair ≡ places_of c.args.problem.now = omega (arith, c.pair_count-pairs.ensures.value) in
    c.loop-pair.invariant ∙ ap (λ n. map (written_number c.args.problem.now c.args.values.now) (range_with_len 0 n)) end
