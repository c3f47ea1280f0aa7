use Rattle.std.proofs.Common.{◌≡◌, ◌++◌, [], ◌∷◌, take}
use Rattle.truth_witness.specs.Clauses.{opposite}
use Rattle.truth_witness.specs.Variables.{rise_literal}
use Rattle.truth_witness.specs.Frames.{numbered}
use Rattle.truth_witness.specs.Falls.{not_awaited}
use Rattle.witness_clauses.proofs.claims.Claim.add_not_awaited.Given as goal

abbrev pub invariant-loop-number : goal.invariant-loop-number
invariant-loop-number l =
    l.clauses.items
    ≡ l.fn.clauses.items ++ numbered (λ j u. (opposite (rise_literal l.self 0) ∷ not_awaited l.self l.part j u) ∷ []) 0 (take l.number l.untils)
