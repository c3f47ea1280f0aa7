-- What is taken of the files of texts (this project's own).
use Rattle.std.specs.Prelude.{◌≡◌, ℕ, ◌<◌, ⊤, List, None, [], ◌∷◌, length}
use Rattle.outcome_news.specs.declared.news.ToldReply.{ToldReply}
use Rattle.program_replies.specs.Statuses.{status_number}
use Rattle.tlsf_reader.specs.Faults.{most_bytes}
use Rattle.synth_engine.specs.declared.settings.Settings.{Settings}
use Rattle.synth_answer.specs.Answer.{Answers}
use Rattle.batch_answer.specs.declared.texts.TakenText.{TakenText}
use Rattle.batch_answer.specs.declared.texts.TakenText.TheVariants.{Whole, TooLong}

-- the text is a file of these bytes
abbrev pub IsText : TakenText → List ℕ → Type 0
IsText (Whole bytes) file = bytes.items ≡ file
IsText TooLong file = most_bytes < length file

-- the texts are files of these bytes, each in its place
abbrev pub AreTexts : List TakenText → List (List ℕ) → Type 0
AreTexts [] [] = ⊤
AreTexts [] (file ∷ files) = ⊥
AreTexts (text ∷ texts) [] = ⊥
AreTexts (text ∷ texts) (file ∷ files) = IsText text file × AreTexts texts files

-- the reply answers each file that the text may be, with searches bounded so
abbrev pub IsReplyTo : Settings → TakenText → ToldReply → Type 0
IsReplyTo bounds text told =
    (file : List ℕ) → IsText text file → Answers file None bounds told.reply.bytes.items (status_number told.reply.status)
