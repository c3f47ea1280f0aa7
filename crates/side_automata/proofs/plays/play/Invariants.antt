use Rattle.std.proofs.Common.{ℕ, Option, is_none, cond}
use Rattle.std.specs.Prelude.{sum_by}
use Rattle.side_automata.proofs.Playing.{IsPlaying}
use Rattle.side_automata.proofs.plays.play.Given as goal

abbrev pub invariant-loop-letters : goal.invariant-loop-letters
invariant-loop-letters l = IsPlaying l.machine l.counter l.letters.items l.states l.met.items

abbrev pub decreases-loop-letters : goal.decreases-loop-letters
decreases-loop-letters l = sum_by (λ (o : Option ℕ). cond (is_none o) 1 0) l.met.items
