use Rattle.std.proofs.Common.{◌≡◌, ◌<◌, ℕ, length, get_or}
use Rattle.aiger_text.specs.Step.{IsStateOf}
use Rattle.annot_check.specs.declared.steps.Reaction.{Reaction}
use Rattle.annot_check.specs.Steps.{IsReaction}
use Rattle.annot_check.proofs.steps.all_reactions.Given as goal

abbrev pub invariant-loop-read : goal.invariant-loop-read
invariant-loop-read l = record {
  fits : IsStateOf l.circuit l.state;
  count : length l.steps.items ≡ l.read;
  each : (k : ℕ) (d : Reaction) → k < length l.steps.items → IsReaction l.side l.circuit l.fn.code k (get_or l.steps.items k d).letter (get_or l.steps.items k d).next;
}
