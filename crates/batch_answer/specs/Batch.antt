-- The answer of `batch` (this project's own).
use Rattle.std.specs.Prelude.{◌≡◌, ℕ, ◌++◌, ⊤, List, [], ◌∷◌, None, codes, decimal, length}
use Rattle.outcome_news.specs.declared.news.ToldReply.{ToldReply}
use Rattle.program_replies.specs.Lines.{line_count}
use Rattle.program_replies.specs.Statuses.{status_number}
use Rattle.batch_run.specs.Answers.{AreAnswers}
use Rattle.synth_engine.specs.declared.settings.Settings.{Settings}
use Rattle.synth_engine.specs.Settings.{alone}
use Rattle.synth_answer.specs.Answer.{Answers}

-- what a part tells of its text
pub record Part : Type 0 where
  pub status : ℕ
  pub lines : List ℕ

-- the text alone has this answer
abbrev pub IsPartFor : Settings → List ℕ → Part → Type 0
IsPartFor settings text part = Answers text None (alone settings) part.lines part.status

-- the part that a reply gives
abbrev pub part_of : ToldReply → Part
part_of told = record { status = status_number told.reply.status; lines = told.reply.bytes.items }

-- each line has its line end: the last byte, where there is one, is a line end
abbrev pub AreLines : List ℕ → Type 0
AreLines [] = ⊤
AreLines (byte ∷ []) = byte ≡ 10
AreLines (byte ∷ next ∷ more) = AreLines (next ∷ more)

-- `text NAME`, `status S`, `lines L`, and the L lines
abbrev pub part_text : List ℕ → Part → List ℕ
part_text name part =
    codes "text " ++ name ++ codes "\nstatus " ++ decimal part.status ++ codes "\nlines " ++ decimal (line_count part.lines) ++ codes "\n" ++ part.lines

-- the parts of these names, in their order, and the last line
abbrev pub batch_text : List (List ℕ) → List Part → List ℕ
batch_text [] parts = codes "end batch\n"
batch_text (name ∷ names) [] = codes "end batch\n"
batch_text (name ∷ names) (part ∷ parts) = part_text name part ++ batch_text names parts

-- The bytes are a part for each text, under its name and in its place, which answers that text alone; last the line `end batch`.
pub record BatchAnswers (names texts : List (List ℕ)) (settings : Settings) (bytes : List ℕ) : Type 0 where
  pub one_each : length names ≡ length texts
  pub parts : List Part
  pub each : AreAnswers (IsPartFor settings) texts parts
  pub text : bytes ≡ batch_text names parts
