use Rattle.std.proofs.Common.{◌≡◌, ◌+◌, ◌≤◌, length, take}
use Rattle.std.specs.List.{flat_map}
use Rattle.letter_clauses.specs.BaseClauses.{edge_clauses}
use Rattle.letter_clauses.specs.Count.{clauses_beside, literals_beside, literals_of, most_clauses, most_literals}
use Rattle.letter_clauses.proofs.sizes.LetterSize.count.Given as goal

abbrev pub invariant-loop-edge : goal.invariant-loop-edge
invariant-loop-edge l = record {
  clauses : l.clauses ≡ clauses_beside l.self.problem.now l.self.letters.now + length (flat_map (edge_clauses l.self.problem.now l.self.letters.now) (take l.edge-index l.edges));
  literals : l.literals ≡ literals_beside l.self.problem.now l.self.letters.now + literals_of (flat_map (edge_clauses l.self.problem.now l.self.letters.now) (take l.edge-index l.edges));
  few : l.clauses ≤ most_clauses;
  small : l.literals ≤ most_literals;
}
