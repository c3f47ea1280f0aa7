use Rattle.std.proofs.Common.{◌≡◌, All, map}
use Rattle.synth_answer.specs.Reply.{IsShort, part_of as part_seen}
use Rattle.synth_answer.proofs.documents.parts_of.Given as goal

abbrev pub invariant-loop-log : goal.invariant-loop-log
invariant-loop-log l = record { parts : l.parts.items ≡ map part_seen l.yielded; short : All IsShort l.yielded }
