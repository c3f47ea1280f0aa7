-- The answer to a list of texts, and what is taken for it (this project's own).
use Rattle.std.specs.Prelude.{◌≡◌, ◌≤◌, ℕ, Option, List, IfSome, Contains, codes, map}
use Rattle.input_output.specs.Faults.{Rose}
use Rattle.input_output.specs.Files.{Files, bytes_under}
use Rattle.program_replies.specs.declared.replies.Status.{Status}
use Rattle.program_replies.specs.declared.replies.Status.TheVariants.{LineRefused}
use Rattle.program_replies.specs.Lines.{line_refusal}
use Rattle.batch_answer.specs.ListText.{IsFirstBadLineOfList, IsList}
use Rattle.batch_answer.specs.Taken.{IsText}
use Rattle.batch_answer.specs.Batch.{BatchAnswers}
use Rattle.program_words.specs.Settings.{EachText, searched, solved}
use Rattle.solve_batch.specs.SolvedBatch.{SolvedBatchAnswers}
use Rattle.boundsyn_top.specs.declared.batches.ListWish.{ListWish}
use Rattle.boundsyn_top.specs.declared.batches.ListWish.TheVariants as wish
use Rattle.boundsyn_top.specs.Solving.{limits_by, refutations_by}
use Rattle.batch_answer.specs.declared.list.ListFault.{ListFault}
use Rattle.batch_answer.specs.declared.list.ListFault.TheVariants as fault
use Rattle.batch_answer.specs.declared.texts.TakenText.{TakenText}
use Rattle.boundsyn_top.specs.Files.{HoldsOfFile}
use Rattle.boundsyn_top.specs.Steps.{ShelfStep}

-- == the list ==

-- the lines are a list, and this is a name of it
pub record IsListed (lines name : List ℕ) : Type 0 where
  pub names : List (List ℕ)
  pub is_list : IsList lines names
  pub among : Contains names name

-- the lines are no list
pub record IsBadList (lines : List ℕ) : Type 0 where
  pub line : ℕ
  pub bad : IsFirstBadLineOfList lines line

-- the bytes and the status for a fault of a list; for want of memory there are none
abbrev pub IsListRefusal : ListFault → List ℕ → Status → Type 0
IsListRefusal (fault.BadLine n) bytes status = (bytes ≡ line_refusal n) × (status ≡ LineRefused)
IsListRefusal fault.NoMemory bytes status = ⊥

-- == the texts ==

-- what was taken is the file of this name
abbrev pub IsTakenAs : Option Files → List ℕ → TakenText → Type 0
IsTakenAs told name text = HoldsOfFile told name (λ file. IsText text file)

-- the texts are the files of these names, where they are told
abbrev pub AreFilesOf : Option Files → List (List ℕ) → List (List ℕ) → Type 0
AreFilesOf told names texts = IfSome told (λ files. texts ≡ map (bytes_under files) names)

-- the count of faults of one of these names rose
pub record OneRose (before after : List ℕ → ℕ) (names : List (List ℕ)) : Type 0 where
  pub name : List ℕ
  pub among : Contains names name
  pub rose : Rose (before name) (after name)

-- == the answer ==

-- what is done with each text, as the code has it
abbrev pub wished : ListWish → EachText
wished (wish.Search settings) = searched settings
wished (wish.Solve kind refuting) = solved kind (refutations_by refuting)

-- there is a worker
abbrev pub HasWorkers : ListWish → Type 0
HasWorkers (wish.Search settings) = 1 ≤ settings.workers
HasWorkers (wish.Solve kind refuting) = 1 ≤ refuting.workers

-- the bytes answer the texts of these names, each by what is done with it
abbrev pub TextsAnswers : List (List ℕ) → List (List ℕ) → EachText → List ℕ → Type 0
TextsAnswers names texts (searched settings) bytes = BatchAnswers names texts settings bytes
TextsAnswers names texts (solved kind refutations) bytes = SolvedBatchAnswers names texts (record { given = kind; limits = limits_by refutations }) bytes

-- The bytes and the status that answer a list: the line of its first bad line, or the answers to the texts that it names.
pub data ListAnswers (told : Option Files) (lines : List ℕ) (wanted : EachText) (bytes : List ℕ) (status : ℕ) : Type 0 where
  bad_line : (n : ℕ) → status ≡ 40 → IsFirstBadLineOfList lines n → bytes ≡ line_refusal n → ListAnswers told lines wanted bytes status
  answered : (names texts : List (List ℕ)) → status ≡ 0 → IsList lines names → AreFilesOf told names texts → TextsAnswers names texts wanted bytes
      → ListAnswers told lines wanted bytes status

-- The reply to texts of these names: the line where one of their counts of faults rose, or their answers.
pub data RepliesByNames (step : ShelfStep) (names : List (List ℕ)) (wanted : EachText) (bytes : List ℕ) (status : ℕ) : Type 0 where
  one_rose : OneRose step.before step.after names → status ≡ 3 → bytes ≡ codes "cannot read\n" → RepliesByNames step names wanted bytes status
  of_texts : (texts : List (List ℕ)) → status ≡ 0 → AreFilesOf step.files names texts → TextsAnswers names texts wanted bytes
      → RepliesByNames step names wanted bytes status

-- The reply to a list: the line where the count of faults of a text of it rose, or what answers it.
pub data RepliesByLines (step : ShelfStep) (lines : List ℕ) (wanted : EachText) (bytes : List ℕ) (status : ℕ) : Type 0 where
  text_rose : (name : List ℕ) → IsListed lines name → (IsBadList lines → ⊥) → Rose (step.before name) (step.after name) → status ≡ 3 → bytes ≡ codes "cannot read\n"
      → RepliesByLines step lines wanted bytes status
  of_lines : ListAnswers step.files lines wanted bytes status → RepliesByLines step lines wanted bytes status
