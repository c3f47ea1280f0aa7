use Rattle.std.proofs.Common.{◌/◌, ◌%◌, ap, ◌∙◌}
use Rattle.std.proofs.lemmas.Nat.{div-add-mod'}
use Rattle.annotation_encode.specs.BaseClauses.{row_move}
use Rattle.annotation_encode.specs.Variables.{letter_count, var_move}
use Rattle.annotation_encode.proofs.AssignedLemmas.{letter_in, state_in}
use Rattle.machine_decode.proofs.decoding.first_move.Goals as goal

pub var_move-requires-clause-state : goal.var_move-requires-clause-state
var_move-requires-clause-state c = rw c.letter_count-letters.ensures.value (state_in c.args.problem.now c.args.place c.requires.within)

pub var_move-requires-clause-letter : goal.var_move-requires-clause-letter
var_move-requires-clause-letter c = rw c.letter_count-letters.ensures.value (letter_in c.args.problem.now c.args.place)

pub returns-clause-value : goal.returns-clause-value
returns-clause-value c =
    c.var_move.ensures.value
    ∙ ap (λ n. var_move c.args.problem.now (c.args.place / n) (c.args.place % n) 0) c.letter_count-letters.ensures.value
    ∙ ap (λ k. row_move c.args.problem.now k 0) (div-add-mod' c.args.place (letter_count c.args.problem.now))
