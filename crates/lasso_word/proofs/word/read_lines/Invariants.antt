use Rattle.std.proofs.Common.{◌≡◌, ◌≤◌, ◌+◌, length}
use Rattle.lasso_word.specs.Lines.{parts_at}
use Rattle.lasso_word.specs.WordText.{read_from, read_lines}
use Rattle.lasso_word.proofs.word.read_lines.Given as goal

abbrev pub invariant-loop-text : goal.invariant-loop-text
invariant-loop-text l = record {
  reading : read_from l.names (parts_at 10 l.rest) l.so_far l.line ≡ read_lines l.names l.bytes;
  counted : l.line + length l.rest ≤ length l.bytes + 2;
}

abbrev pub decreases-loop-text : goal.decreases-loop-text
decreases-loop-text l = length l.rest
