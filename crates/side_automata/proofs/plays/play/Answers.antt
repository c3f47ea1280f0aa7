use Rattle.std.proofs.Common.{◌≡◌, ◌+◌, ◌*◌, ◌<◌, [], ◌∷◌, ◌++◌, ◌-◌, length, get_or, refl, None, Some, sym, ap, ◌∙◌, arith, Ok, Err}
use Rattle.std.proofs.lemmas.List.{get_or_read, length-drop}
use Rattle.std.specs.Prelude.{Result, IsOk}
use Rattle.letters_and_lassos.specs.declared.letters.Letter.{Letter}
use Rattle.letters_and_lassos.specs.declared.lassos.LassoFault.{LassoFault}
use Rattle.letters_and_lassos.specs.declared.lassos.LassoFault.TheVariants.{EmptyRing}
use Rattle.machine_model.proofs.Closing.{cut}
use Rattle.side_automata.specs.Rounds.{round_letter}
use Rattle.side_automata.proofs.Playing.{place_of, place_within, playing_before, playing_closes, playing_more}
use Rattle.side_automata.proofs.plays.play.Goals as goal
use Rattle.side_automata.proofs.plays.play.Goals.{After-unwrap-begin, After-drop-met-2}

pub loop-letters-preserved : goal.loop-letters-preserved
loop-letters-preserved c =
    let place : c.place-in-None.result ≡ place_of c.args.counter.now c.loop-letters.states =
    c.place-in-None.ensures ∙ ap (λ w. c.loop-letters.states.system * w + c.loop-letters.states.environment) c.size-width.ensures.value in
    let n : c.len.result ≡ length c.loop-letters.letters.items = omega (arith, c.len.ensures, c.loop-letters.letters.ok.0) in
    let pushed : c.push.new.self.items ≡ c.loop-letters.letters.items ++ round_letter c.args.machine.now c.args.counter.now c.loop-letters.states ∷ [] =
    c.in_ok-push.ensures.items ∙ ap (λ (l : Letter). c.loop-letters.letters.items ++ l ∷ []) c.letter.ensures in
    rw (pushed, c.next-states.ensures.value, place, n)
    (playing_more c.args.machine.now c.args.counter.now c.size.ensures.kept.machine c.size-width.ensures.kept.machine c.requires
    c.loop-letters.letters.items c.loop-letters.states c.loop-letters.met.items c.loop-letters.invariant)

-- the round that had the states before
found : (c : After-unwrap-begin) → get_or c.loop-letters.met.items (place_of c.args.counter.now c.loop-letters.states) None ≡ Some c.unwrap-begin.result
found c =
    let place : c.place-2.result ≡ place_of c.args.counter.now c.loop-letters.states =
    c.place-2.ensures ∙ ap (λ w. c.loop-letters.states.system * w + c.loop-letters.states.environment) c.size-width.ensures.value in
    let within : c.place-2.result < length c.loop-letters.met.items =
    rw (place, c.loop-letters.invariant.places) (place_within c.args.machine.now c.args.counter.now c.size.ensures.kept.machine c.size-width.ensures.kept.machine c.requires c.loop-letters.states c.loop-letters.invariant.states) in
    ap (λ k. get_or c.loop-letters.met.items k None) (sym place)
    ∙ sym (get_or_read c.loop-letters.met.items c.place-2.result c.index-2.result.now within c.index-2.ensures None) ∙ c.unwrap-begin.ensures

before : (c : After-unwrap-begin) → c.unwrap-begin.result < length c.loop-letters.letters.items
before c =
    playing_before c.args.machine.now c.args.counter.now c.size.ensures.kept.machine c.size-width.ensures.kept.machine c.requires
    c.loop-letters.letters.items c.loop-letters.states c.loop-letters.met.items c.unwrap-begin.result c.loop-letters.invariant (found c)

pub split_off-requires : goal.split_off-requires
split_off-requires c =
    let less : c.unwrap-begin.result < length c.loop-letters.letters.items = before (goal.at.split_off-requires c).After-unwrap-begin in
    omega (arith, less, c.loop-letters.letters.ok.0)

-- a lasso is refused for an empty ring alone
ok_unless : {X : Type 0} (r : Result X LassoFault) → (r ≡ Err EmptyRing → ⊥) → IsOk r
ok_unless (Ok x) apart = refl
ok_unless (Err EmptyRing) apart = absurd (apart refl)

pub unwrap-requires : goal.unwrap-requires
unwrap-requires c =
    ok_unless c.new.result (λ e.
    let less : c.unwrap-begin.result < length c.loop-letters.letters.items = before (goal.at.unwrap-requires c).After-unwrap-begin in
    let none : length c.in_ok-ring.ring.items ≡ 0 = ap length (c.new.ensures.empty_ring.0 e) in
    let rest : length c.in_ok-ring.ring.items ≡ length c.loop-letters.letters.items - c.unwrap-begin.result = ap length c.in_ok-ring.ensures.tail ∙ length-drop c.unwrap-begin.result c.loop-letters.letters.items in
    omega (arith, less, none, rest))

-- the word is the letters cut at the round that was found
word : (c : After-drop-met-2) → c.unwrap.result ≡ cut c.loop-letters.letters.items c.unwrap-begin.result
word c = rw (← c.in_ok-ring.ensures.items, ← c.in_ok-ring.ensures.tail) (rw c.unwrap.ensures at c.new.ensures.parts)

pub returns : goal.returns
returns c =
    rw (word (goal.at.returns c).After-drop-met-2)
    (playing_closes c.args.machine.now c.args.counter.now c.size.ensures.kept.machine c.size-width.ensures.kept.machine c.requires
    c.loop-letters.letters.items c.loop-letters.states c.loop-letters.met.items c.unwrap-begin.result c.loop-letters.invariant (found (goal.at.returns c).After-unwrap-begin))
