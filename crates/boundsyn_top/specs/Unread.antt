-- What is replied where a file that a command takes can't be read (this project's own): that it can't. But where `check`, or `verify` of the system,
-- takes a file to know whether its text is taken as `solve` takes it, and the text has a fault as `synth` takes it, that fault is told, as with each
-- file that isn't one for `solve`.
use Rattle.std.specs.Prelude.{◌≡◌, ⊤, ℕ, List, Contains, codes}
use Rattle.spec_faults.specs.declared.code.SpecCode.{SpecCode}
use Rattle.input_output.specs.Faults.{Rose}
use Rattle.program_replies.specs.Lines.{refusal_line}
use Rattle.program_words.specs.Settings.{Asked, synth, check, expand, expand_solve, lasso, lasso_solve, gen, bench, verify, core, batch, solve}
use Rattle.boundsyn_top.specs.Faults.{HasNoSynthFault, HasNone, HasSynthFault}
use Rattle.boundsyn_top.specs.Files.{HoldsOfFile}
use Rattle.boundsyn_top.specs.Steps.{ShelfStep}
use Rattle.boundsyn_top.specs.Takes.{TakesBehind, first_file}

-- == a file behind a text ==

-- The reply where it can't be read: the line of this fault of the text, or, where the text has none, the line of a file that can't be read.
pub data TellsUnread (Fault : SpecCode → ℕ → Type 0) (bytes : List ℕ) (status : ℕ) : Type 0 where
  of_fault : (code : SpecCode) (place : ℕ) → Fault code place → status ≡ 1 → bytes ≡ refusal_line code place → TellsUnread Fault bytes status
  of_none : HasNone Fault → status ≡ 3 → bytes ≡ codes "cannot read\n" → TellsUnread Fault bytes status

-- The reply that a file of any length gives: where it was due to be taken and its count of faults rose, what is told then; or, with its count as
-- before, what something holds of with its bytes.
pub data RepliesByFile (step : ShelfStep) (name : List ℕ) (Due : Type 0) (Fault : SpecCode → ℕ → Type 0) (P : List ℕ → Type 0) (bytes : List ℕ) (status : ℕ) : Type 0 where
  count_rose : Due → Rose (step.before name) (step.after name) → TellsUnread Fault bytes status → RepliesByFile step name Due Fault P bytes status
  of_file : step.after name ≡ step.before name → HoldsOfFile step.files name P → RepliesByFile step name Due Fault P bytes status

-- == a command ==

-- The count rose of a file that the command takes, and no fault is told in its place: it is the first file, or the text has none.
pub data IsUnread (step : ShelfStep) (asked : Asked) (name : List ℕ) : Type 0 where
  first : Contains (first_file asked) name → Rose (step.before name) (step.after name) → IsUnread step asked name
  behind : TakesBehind step.files asked name → HasNoSynthFault step.files asked → Rose (step.before name) (step.after name) → IsUnread step asked name

-- The count rose of a file that the command takes behind its text, and the text has this fault, which is told in its place.
pub record IsUnreadFault (step : ShelfStep) (asked : Asked) (code : SpecCode) (place : ℕ) : Type 0 where
  pub fault : HasSynthFault step.files asked code place
  pub name : List ℕ
  pub taken : TakesBehind step.files asked name
  pub rose : Rose (step.before name) (step.after name)

-- The count of the file behind the text is as before, so it could be read, or wasn't taken. Of the texts of a list this isn't asked.
abbrev pub IsReadBehind : ShelfStep → Asked → Type 0
IsReadBehind step (synth spec wanted kind) = ⊤
IsReadBehind step (check spec certificate) = step.after certificate ≡ step.before certificate
IsReadBehind step (expand spec) = ⊤
IsReadBehind step (expand_solve spec kind nodes) = ⊤
IsReadBehind step (lasso spec word) = step.after word ≡ step.before word
IsReadBehind step (lasso_solve spec word kind) = step.after word ≡ step.before word
IsReadBehind step (gen clients) = ⊤
IsReadBehind step (bench clients workers) = ⊤
IsReadBehind step (verify side kind spec circuit) = step.after circuit ≡ step.before circuit
IsReadBehind step (core spec wanted kind) = ⊤
IsReadBehind step (batch list wanted) = ⊤
IsReadBehind step (solve spec kind refutations) = ⊤
