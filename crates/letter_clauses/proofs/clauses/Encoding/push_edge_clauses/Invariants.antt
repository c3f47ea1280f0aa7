use Rattle.std.proofs.Common.{◌≡◌, ◌++◌, take}
use Rattle.std.specs.List.{flat_map}
use Rattle.letter_clauses.specs.BaseClauses.{edge_clauses}
use Rattle.letter_clauses.proofs.clauses.Encoding.push_edge_clauses.Given as goal

abbrev pub invariant-loop-edge : goal.invariant-loop-edge
invariant-loop-edge l = l.clauses.items ≡ l.fn.clauses.items ++ flat_map (edge_clauses l.self.size.problem.now l.self.size.letters.now) (take l.edge-index l.edges)
