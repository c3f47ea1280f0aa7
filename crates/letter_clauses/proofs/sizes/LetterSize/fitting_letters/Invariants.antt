use Rattle.std.proofs.Common.{◌≡◌, ◌≤◌}
use Rattle.annotation_encode.specs.BaseClauses.{fits_read}
use Rattle.annotation_encode.specs.Count.{passing}
use Rattle.letter_clauses.specs.Letters.{letter_at}
use Rattle.letter_clauses.proofs.sizes.LetterSize.fitting_letters.Given as goal

abbrev pub invariant-loop-place : goal.invariant-loop-place
invariant-loop-place l = record {
  value : l.fitting ≡ passing l.place (λ k. fits_read l.self.problem.now l.cube (letter_at l.self.letters.now k));
  small : l.fitting ≤ l.place;
}
