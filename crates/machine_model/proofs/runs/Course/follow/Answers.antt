use Rattle.std.proofs.Common.{◌≡◌, ℕ, ◌+◌, ◌-◌, ◌<◌, ◌≤◌, List, length, sym, ap, ◌∙◌, arith}
use Rattle.std.proofs.lemmas.List.{length_push}
use Rattle.letters_and_lassos.specs.declared.letters.Letter.{Letter}
use Rattle.letters_and_lassos.specs.Word.{Word, after, letter_at}
use Rattle.machine_model.specs.Machine.{next_of}
use Rattle.machine_model.specs.Course.{read_at}
use Rattle.machine_model.proofs.Courses.{course_more}
use Rattle.machine_model.proofs.runs.Course.follow.Goals as goal

pub loop-position-preserved : goal.loop-position-preserved
loop-position-preserved c =
    let word : Word = c.args.reads.now in
    let letters : List Letter = c.loop-position.self.letters.items in
    let from : ℕ = c.args.from in
    let p : ℕ = c.loop-position.position in
    let places : length letters + from ≡ length c.args.self.now.letters.items + p = c.loop-position.invariant.1 in
    let low : from ≤ p = c.loop-position.auto.position in
    let high : p < c.args.to = c.loop-position-test.true in
    let steps : length c.args.self.now.letters.items + (p - from) ≡ length letters = omega (arith, places, low) in
    let back : from + (p - from) ≡ p = omega (arith, low) in
    let reached : after word 0 (length letters) ≡ p = ap (after word 0) (sym steps) ∙ c.requires.place (p - from) (rw back high) ∙ back in
    let read : c.read_number-read.result ≡ read_at word (length letters) = c.read_number-read.ensures.value ∙ ap (λ (j : ℕ). (letter_at word j).0) (sym reached) in
    let next : c.next-self.result ≡ next_of c.args.machine.now c.loop-position.self.state c.read_number-read.result = c.next-self.ensures.value in
    let more = course_more c.args.machine.now c.args.side word letters c.loop-position.self.states.items c.loop-position.self.state c.read_number-read.result
    c.loop-position.invariant.0 read (rw (← next) c.next-self.ensures.within) in (
      rw (c.in_ok-push.ensures.items, c.in_ok-push-2.ensures.items, next, c.whole_letter.ensures) more,
      rw c.in_ok-push.ensures.items (omega (arith, places, length_push letters c.whole_letter.result)),
    )
