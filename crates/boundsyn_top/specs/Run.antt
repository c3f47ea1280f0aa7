-- What one run of the program may write, and with which status it ends (this project's own).
use Rattle.std.specs.Prelude.{◌≡◌, ℕ, ◌⊎◌, Option, Some, None, List, [], ◌∷◌, Contains, codes, Result, Ok, Err}
use Rattle.input_output.specs.Files.{Files}
use Rattle.input_output.specs.Bytes.{Gains, GainsFront}
use Rattle.input_output.specs.declared.sink.SinkFault.{SinkFault}
use Rattle.input_output.specs.declared.sink.SinkFault.TheVariants.{Failed, NoMemory}
use Rattle.spec_faults.specs.declared.code.SpecCode.{SpecCode}
use Rattle.program_replies.specs.Lines.{refusal_line}
use Rattle.program_words.specs.Settings.{Asked, settings_of}
use Rattle.boundsyn_top.specs.declared.output.Output.{Output}
use Rattle.boundsyn_top.specs.Output.{IsWritable, bytes_of, status_of}
use Rattle.boundsyn_top.specs.Commands.{AnswersAsked, statuses_of}
use Rattle.boundsyn_top.specs.Faults.{HasBadLine, HasFault}
use Rattle.boundsyn_top.specs.Steps.{ShelfStep}
use Rattle.boundsyn_top.specs.Takes.{Stops, TakesFile}
use Rattle.boundsyn_top.specs.Unread.{IsReadBehind, IsUnread, IsUnreadFault}

-- == the words ==

-- the words ask for this
pub record Asks (words : List (List ℕ)) (asked : Asked) : Type 0 where
  pub settings : settings_of words ≡ Some asked

-- the words ask for nothing
pub record AskForNothing (words : List (List ℕ)) : Type 0 where
  pub none : settings_of words ≡ None

-- == what is replied ==

-- the shelf's count rose of a file that the command takes, and no fault of the text is told in its place
pub record ReadFailed (words : List (List ℕ)) (step : ShelfStep) : Type 0 where
  pub asked : Asked
  pub asks : Asks words asked
  pub name : List ℕ
  pub unread : IsUnread step asked name

-- What answers a command: what answers its files, or the line of a fault of its text where a file behind it couldn't be read.
pub data AnswersStep (step : ShelfStep) (asked : Asked) (bytes : List ℕ) (status : ℕ) : Type 0 where
  of_files : IsReadBehind step asked → AnswersAsked step.files asked bytes status → AnswersStep step asked bytes status
  of_unread : (code : SpecCode) (place : ℕ) → IsUnreadFault step asked code place → status ≡ 1 → bytes ≡ refusal_line code place →
      AnswersStep step asked bytes status

-- What a command replies: the line of a file of it that couldn't be read, or its answer.
pub data RepliesTo (step : ShelfStep) (asked : Asked) (bytes : List ℕ) (status : ℕ) : Type 0 where
  unread : (name : List ℕ) → IsUnread step asked name → status ≡ 3 → bytes ≡ codes "cannot read\n" → RepliesTo step asked bytes status
  answers : Contains (statuses_of asked) status → AnswersStep step asked bytes status → RepliesTo step asked bytes status

-- the answer to what the words ask for
pub record AnswersWords (words : List (List ℕ)) (step : ShelfStep) (bytes : List ℕ) (status : ℕ) : Type 0 where
  pub asked : Asked
  pub asks : Asks words asked
  pub status_is : Contains (statuses_of asked) status
  pub answer : AnswersStep step asked bytes status

-- What a run writes whole, with its status: the answer, or the line of refused words or of a file that couldn't be read.
pub data IsReply (words : List (List ℕ)) (step : ShelfStep) (bytes : List ℕ) (status : ℕ) : Type 0 where
  words_refused : status ≡ 2 → AskForNothing words → bytes ≡ codes "words refused\n" →
      IsReply words step bytes status
  cannot_read : status ≡ 3 → ReadFailed words step → bytes ≡ codes "cannot read\n" →
      IsReply words step bytes status
  answered : AnswersWords words step bytes status → IsReply words step bytes status

-- what is written is a command's reply
pub record IsOutputOf (step : ShelfStep) (asked : Asked) (output : Output) : Type 0 where
  pub replies : RepliesTo step asked (bytes_of output) (status_of output)
  pub writable : IsWritable output

-- what is written is a run's reply
pub record IsOutputFor (words : List (List ℕ)) (step : ShelfStep) (output : Output) : Type 0 where
  pub reply : IsReply words step (bytes_of output) (status_of output)
  pub writable : IsWritable output

-- the statuses of an answer
abbrev pub answering : List ℕ
answering = 0 ∷ 1 ∷ 10 ∷ 11 ∷ 20 ∷ 30 ∷ 40 ∷ []

-- == what the sink gained ==

-- the bytes that were gained are whole, and so is what holds of them
pub record Gained (now later : Option (List ℕ)) (P : List ℕ → Type 0) : Type 0 where
  pub bytes : List ℕ
  pub gained : Gains now later bytes
  pub holds : P bytes

-- nothing was gained, or a front of bytes that are a whole reply
pub record GainedPart (now later : Option (List ℕ)) (P : List ℕ → ℕ → Type 0) : Type 0 where
  pub front : List ℕ
  pub gained : Gains now later front
  pub allowed : (front ≡ []) ⊎ ((bytes : List ℕ) × (status : ℕ) × GainsFront now later bytes × P bytes status)

-- A refusal's line is told with its status, unless something outside failed or memory was wanted.
pub data EndsWith (now later : Option (List ℕ)) (line : List ℕ) (status result : ℕ) : Type 0 where
  says : result ≡ status → Gains now later line → EndsWith now later line status result
  prevented : Contains (3 ∷ 4 ∷ 5 ∷ []) result → EndsWith now later line status result

-- the status to end with, once what has a status was written or not
abbrev pub IsEnding : Result (Unit {0}) SinkFault → ℕ → ℕ → Type 0
IsEnding (Ok _) status result = result ≡ status
IsEnding (Err Failed) status result = result ≡ 4
IsEnding (Err NoMemory) status result = result ≡ 5

-- == causes ==

-- the text that the words name has this first fault
pub record TextFails (words : List (List ℕ)) (told : Option Files) (code : SpecCode) (place : ℕ) : Type 0 where
  pub asked : Asked
  pub asks : Asks words asked
  pub files : Files
  pub are_told : told ≡ Some files
  pub fault : HasFault files asked code place

-- the list, or the other file, that the words name has this first bad line, and the text has no fault
pub record LineFails (words : List (List ℕ)) (told : Option Files) (n : ℕ) : Type 0 where
  pub asked : Asked
  pub asks : Asks words asked
  pub files : Files
  pub are_told : told ≡ Some files
  pub bad : HasBadLine files asked n

-- a file behind the text that the words name couldn't be read, and the text has this fault, which is told in its place
pub record TextFailsUnread (words : List (List ℕ)) (step : ShelfStep) (code : SpecCode) (place : ℕ) : Type 0 where
  pub asked : Asked
  pub asks : Asks words asked
  pub files : Files
  pub are_told : step.files ≡ Some files
  pub fault : IsUnreadFault step asked code place

-- no count rose of a file that the command takes, but one in whose place a fault is told
abbrev pub ReadsWell : ShelfStep → Asked → Type 0
ReadsWell step asked = (name : List ℕ) → IsUnread step asked name → ⊥

-- the words ask for no command that takes the file
abbrev pub IsForeign : List (List ℕ) → Option Files → List ℕ → Type 0
IsForeign words told name = (asked : Asked) → Asks words asked → TakesFile told asked name → ⊥

-- what the first file holds that the words name is refused
pub record IsStopped (words : List (List ℕ)) (told : Option Files) : Type 0 where
  pub asked : Asked
  pub asks : Asks words asked
  pub files : Files
  pub are_told : told ≡ Some files
  pub stops : Stops files asked
