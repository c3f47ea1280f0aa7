-- The answer of `batch --solve` (this project's own).
use Rattle.std.specs.Prelude.{◌≡◌, ℕ, List, Option, length}
use Rattle.letters_and_lassos.specs.declared.kinds.Kind.{Kind}
use Rattle.outcome_news.specs.declared.news.ToldReply.{ToldReply}
use Rattle.program_replies.specs.Statuses.{status_number}
use Rattle.batch_run.specs.Answers.{AreAnswers}
use Rattle.batch_answer.specs.declared.texts.TakenText.{TakenText}
use Rattle.batch_answer.specs.Batch.{Part, batch_text}
use Rattle.batch_answer.specs.Taken.{IsText}
use Rattle.solve_answer.specs.Answer.{LogLimits, SolveAnswers}

-- what is asked of each text: the given kind, and how far its document may refute
pub record AskedOfEach : Type 0 where
  pub given : Option Kind
  pub limits : LogLimits

-- the text alone has this answer
abbrev pub IsSolvedPart : AskedOfEach → List ℕ → Part → Type 0
IsSolvedPart asked text part = SolveAnswers text asked.given asked.limits part.lines part.status

-- The bytes are a part for each text, under its name and in its place, which answers that text alone as `solve` does; last the line
-- `end batch`.
pub record SolvedBatchAnswers (names texts : List (List ℕ)) (asked : AskedOfEach) (bytes : List ℕ) : Type 0 where
  pub one_each : length names ≡ length texts
  pub parts : List Part
  pub each : AreAnswers (IsSolvedPart asked) texts parts
  pub text : bytes ≡ batch_text names parts

-- ---- how the code goes on

-- the reply answers each file that the text may be
abbrev pub IsSolvedReply : AskedOfEach → TakenText → ToldReply → Type 0
IsSolvedReply asked text told =
    (file : List ℕ) → IsText text file → SolveAnswers file asked.given asked.limits told.reply.bytes.items (status_number told.reply.status)
