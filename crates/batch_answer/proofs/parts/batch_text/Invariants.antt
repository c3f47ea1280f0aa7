use Rattle.std.proofs.Common.{◌≡◌, ◌++◌, map, length}
use Rattle.batch_answer.specs.Batch.{batch_text, part_of}
use Rattle.batch_answer.proofs.parts.batch_text.Given as goal

abbrev pub invariant-loop-name : goal.invariant-loop-name
invariant-loop-name l =
    (l.bytes.items ++ batch_text l.name-iterator.a.rest.now (map part_of l.name-iterator.b.rest.now) ≡ batch_text l.names (map part_of l.replies))
    × (length l.name-iterator.a.rest.now ≡ length l.name-iterator.b.rest.now)
