-- What `solve` is asked for, and laws of what it answers (this project's own).
use Rattle.std.specs.Prelude.{ℕ, List, Option}
use Rattle.letters_and_lassos.specs.declared.kinds.Kind.{Kind}
use Rattle.solve_answer.specs.declared.refuting.Refuting.{Refuting}
use Rattle.solve_answer.specs.Answer.{LogLimits, SolveAnswers}
use Rattle.program_words.specs.Settings.{Refutations}

-- how far smaller machines are refuted, as it is asked for
abbrev pub refutations_by : Refuting → Refutations
refutations_by refuting = record { max = refuting.max; entries = refuting.entries; workers = refuting.workers; seconds = refuting.seconds }

-- how far a document may refute then, however many workers search and however long
abbrev pub limits_by : Refutations → LogLimits
limits_by refutations = record { max = refutations.max; entries = refutations.entries }

-- of one text and kind no answer tells of a controller and another of a counter-strategy, however far both may refute
abbrev pub SolveVerdictsAgree : Type 0
SolveVerdictsAgree =
    (text : List ℕ) (given : Option Kind) (limits more : LogLimits) (a b : List ℕ) → SolveAnswers text given limits a 10 → SolveAnswers text given more b 20 → ⊥
