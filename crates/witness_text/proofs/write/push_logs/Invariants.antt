use Rattle.std.proofs.Common.{◌≡◌, ◌++◌, take}
use Rattle.witness_text.specs.Lines.{proofs_text}
use Rattle.witness_text.proofs.write.push_logs.Given as goal

abbrev pub invariant-loop-place : goal.invariant-loop-place
invariant-loop-place l = l.text.items ≡ l.fn.text.items ++ proofs_text 0 (take l.place l.logs)
