use Rattle.std.proofs.Common.{◌≡◌, ℕ, true, length}
use Rattle.machine_model.specs.Automaton.{states_of}
use Rattle.machine_model.specs.Marked.{is_led, is_marked, unmarked}
use Rattle.machine_model.proofs.marks.mark_all.Given as goal

abbrev pub invariant-pass : goal.invariant-pass
invariant-pass l = record {
  places : length l.marks ≡ states_of l.automaton;
  start : is_marked l.marks l.q ≡ true;
  sound : (r : ℕ) → is_marked l.marks r ≡ true → is_led l.automaton l.way l.q r ≡ true;
}

abbrev pub decreases-pass : goal.decreases-pass
decreases-pass l = unmarked l.marks
