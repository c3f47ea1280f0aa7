use Rattle.std.proofs.Common.{◌≡◌, drop}
use Rattle.input_output.specs.Files.{files_of}
use Rattle.input_output.proofs.in_memory.find.Given as goal

-- no file so far has the name
abbrev pub invariant-loop-file : goal.invariant-loop-file
invariant-loop-file l = files_of (drop l.file-index l.files) l.name ≡ files_of l.files l.name
