use Rattle.std.proofs.Common.{◌≡◌, ◌++◌}
use Rattle.std.specs.Prelude.{All}
use Rattle.document_check.specs.Facts.{sizes_to}
use Rattle.document_check.specs.Shown.{IsSize}
use Rattle.document_check.proofs.facts.push_sizes.Given as goal

-- the sizes so far
abbrev pub invariant-loop-n : goal.invariant-loop-n
invariant-loop-n l = (l.sizes.items ≡ l.fn.sizes.items ++ sizes_to l.side l.n) × (All IsSize l.fn.sizes.items → All IsSize l.sizes.items)
