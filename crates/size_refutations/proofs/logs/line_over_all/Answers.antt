use Rattle.std.proofs.Common.{ℕ, ap, sym, subst, ◌^◌, ◌∙◌}
use Rattle.std.specs.List.{range_with_len}
use Rattle.letter_clauses.specs.Letters.{IsLetterProblem}
use Rattle.size_refutations.specs.Parts.{ground_of}
use Rattle.size_refutations.proofs.Lines.{size_all}
use Rattle.size_refutations.proofs.logs.line_over_all.Goals as goal

pub line_over-requires-clause-size : goal.line_over-requires-clause-size
line_over-requires-clause-size c =
    subst (IsLetterProblem c.args.problem.now)
    (sym (c.deref.ensures.value ∙ c.in_ok-letters.ensures ∙ ap (λ (n : ℕ). range_with_len 0 (2 ^ n)) c.reads.ensures))
    (size_all (ground_of c.args.sought) c.args.search.now c.args.log.now c.args.problem.now c.requires.search c.requires.sized c.requires.states)
