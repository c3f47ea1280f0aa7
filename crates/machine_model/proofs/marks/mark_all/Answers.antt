use Rattle.std.proofs.Common.{◌<◌, true, false, length, ◌∙◌, arith}
use Rattle.std.proofs.lemmas.List.{get_or-set_same, length-set}
use Rattle.machine_model.specs.Marked.{is_led}
use Rattle.machine_model.proofs.Leading.{first_sound, led_along, led_marks}
use Rattle.machine_model.proofs.marks.mark_all.Goals as goal

pub pass-init : goal.pass-init
pass-init c =
    let inside : c.args.q < length c.args.marks.now = omega (arith, c.requires.state, c.requires.places) in
    record {
      places = length-set c.args.marks.now c.args.q true ∙ c.requires.places;
      start = get_or-set_same c.args.marks.now c.args.q true false inside;
      sound = first_sound c.args.automaton.now c.states-states.ensures.kept c.args.q c.requires.state c.args.way c.args.marks.now c.requires.none;
    }

pub pass-preserved : goal.pass-preserved
pass-preserved c = record {
  places = c.mark_more.ensures.places ∙ c.pass.invariant.places;
  start = c.mark_more.ensures.keeps c.args.q c.pass.invariant.start;
  sound = c.mark_more.ensures.sound (is_led c.args.automaton.now c.args.way c.args.q)
      (led_along c.args.automaton.now c.states-states.ensures.kept c.args.q c.requires.state c.args.way) c.pass.invariant.sound;
}

pub returns : goal.returns
returns c =
    led_marks c.args.automaton.now c.states-states.ensures.kept c.args.q c.requires.state c.args.way c.pass.marks c.mark_more.new.marks c.mark_more.result
    c.mark_more.ensures c.pass-test.false c.pass.invariant.places c.pass.invariant.start c.pass.invariant.sound
