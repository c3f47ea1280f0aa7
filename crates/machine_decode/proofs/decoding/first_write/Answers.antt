use Rattle.std.proofs.Common.{◌/◌, ◌%◌, ap, ◌∙◌}
use Rattle.annotation_encode.specs.Variables.{var_write}
use Rattle.annotation_encode.proofs.AssignedLemmas.{letter_in, state_in}
use Rattle.machine_decode.proofs.decoding.first_write.Goals as goal

pub var_write-requires-clause-state : goal.var_write-requires-clause-state
var_write-requires-clause-state c = rw c.letter_count-letters.ensures.value (state_in c.args.problem.now c.args.place c.requires.within)

pub var_write-requires-clause-letter : goal.var_write-requires-clause-letter
var_write-requires-clause-letter c = rw c.letter_count-letters.ensures.value (letter_in c.args.problem.now c.args.place)

pub returns-clause-value : goal.returns-clause-value
returns-clause-value c = c.var_write.ensures.value ∙ ap (λ n. var_write c.args.problem.now (c.args.place / n) (c.args.place % n) 0) c.letter_count-letters.ensures.value
