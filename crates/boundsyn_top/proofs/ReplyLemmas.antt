-- What makes a reply one of those that a command, and a run, may write.
use Rattle.std.specs.Prelude.{Contains, IfOk, Result, Ok, Err, codes}
use Rattle.std.proofs.Common.{◌≡◌, ◌≢◌, ℕ, Bool, true, false, List, [], ◌∷◌, ◌<◌, ◌≤◌, length, refl, sym, subst, ◌∙◌, arith, Option, Some, None}
use Rattle.text_limits.specs.declared.TheConstants.{SMALL_LIMITS}
use Rattle.letters_and_lassos.specs.declared.kinds.Kind.{Kind}
use Rattle.letters_and_lassos.specs.declared.kinds.Kind.TheVariants.{Mealy}
use Rattle.input_output.specs.Faults.{Rose}
use Rattle.input_output.specs.Files.{Files}
use Rattle.input_output.proofs.EdgeLemmas.{Rose-earlier}
use Rattle.program_replies.specs.declared.replies.Reply.{Reply}
use Rattle.program_replies.specs.declared.replies.Status.{Status}
use Rattle.program_replies.specs.declared.replies.Status.TheVariants.{CannotRead, Done, WordsRefused}
use Rattle.program_replies.specs.Statuses.{status_number}
use Rattle.program_replies.specs.Lines.{refusal_line}
use Rattle.program_replies.specs.Refusals.{RefusedBy}
use Rattle.program_words.specs.Settings.{Asked, EachText, Refutations, settings_of, batch, bench, check, core, expand, expand_solve, lasso, lasso_solve, solve, synth, verify}
use Rattle.document_text.specs.declared.documents.Verdict.{Verdict}
use Rattle.document_text.specs.declared.documents.Verdict.TheVariants as verdict
use Rattle.bench_answer.specs.Bench.{BenchAnswer, HasStatus}
use Rattle.spec_faults.specs.declared.code.SpecCode.{SpecCode}
use Rattle.spec_faults.specs.declared.code.SpecCode.TheVariants.{TooLong}
use Rattle.tlsf_reader.specs.Faults.{IsReadingFault, most_bytes, too_long}
use Rattle.tlsf_expand.specs.FlatText.{FlatText, spec_seen}
use Rattle.flat_text.specs.FlatOf.{IsFlatFault, IsFlatOf, of_reading}
use Rattle.flat_text.specs.Laws.{FlatTextsHaveNoFault}
use Rattle.spec_problems.specs.Laws.{ProblemsOfTextsAreDetermined}
use Rattle.spec_problems.specs.OfText.{IsFirstFault, of_text}
use Rattle.spec_problems.specs.declared.texts.TextProblems.{TextProblems}
use Rattle.synth_engine.specs.declared.settings.Settings.{Settings}
use Rattle.synth_answer.specs.Answer.{Answers, realizable, unrealizable, bounded, no_size, no_entries}
use Rattle.synth_answer.specs.Answer as synthesis
use Rattle.check_answer.specs.Answer.{CheckAnswers, IsTakenBySolve}
use Rattle.check_answer.specs.Answer as certificate
use Rattle.check_answer.specs.Reply.{IsForCheck}
use Rattle.letters_and_lassos.specs.declared.kinds.Side.{Side}
use Rattle.letters_and_lassos.specs.declared.kinds.Side.TheVariants.{Environment, System}
use Rattle.solve_ground.specs.declared.texts.SolveText.{SolveText}
use Rattle.verify_answer.specs.Reply.{IsForVerify, IsTestable}
use Rattle.verify_answer.specs.Answer.{CircuitAnswers, TestAnswers, VerifyAnswers}
use Rattle.verify_answer.specs.Answer as circuits
use Rattle.core_answer.specs.Core.{CoreAnswers}
use Rattle.core_answer.specs.Core as cores
use Rattle.solve_ground.specs.Laws.{SolveTextsAreDetermined}
use Rattle.solve_ground.specs.SolveText as solving
use Rattle.solve_answer.specs.Answer.{LogLimits, SolveAnswers}
use Rattle.solve_answer.specs.Answer as solved
use Rattle.batch_answer.specs.Laws.{ListsAreDetermined}
use Rattle.batch_answer.specs.ListText.{IsFirstBadLineOfList, IsList}
use Rattle.batch_answer.specs.declared.list.ListFault.{ListFault}
use Rattle.batch_answer.specs.declared.list.ListFault.TheVariants as faults
use Rattle.flat_answer.specs.Expand.{ExpandAnswers, written}
use Rattle.flat_answer.specs.Expand as expansion
use Rattle.flat_answer.specs.Lasso.{LassoAnswers}
use Rattle.flat_answer.specs.Lasso as lassos
use Rattle.solved_flat.specs.Expand.{ExpandSolveAnswers}
use Rattle.solved_flat.specs.Expand as solved_expansion
use Rattle.solved_flat.specs.Lasso.{LassoSolveAnswers}
use Rattle.solved_flat.specs.Lasso as solved_lassos
use Rattle.solved_flat.specs.Taken.{IsTaken}
use Rattle.solved_flat.specs.declared.texts.TakenText.{TakenText}
use Rattle.boundsyn_top.specs.declared.output.Output.{Output}
use Rattle.boundsyn_top.specs.declared.output.Output.TheVariants.{Whole}
use Rattle.boundsyn_top.specs.Output.{IsExpansion, IsSolveExpansion, IsWholeOf, bytes_of, status_of}
use Rattle.boundsyn_top.specs.Files as file
use Rattle.boundsyn_top.specs.Files.{AreOfFile, HoldsOfFile, IsUntaken}
use Rattle.boundsyn_top.specs.Commands.{MayAnswer, statuses_of}
use Rattle.boundsyn_top.specs.Batch.{AreFilesOf, IsBadList, IsListRefusal, IsListed, ListAnswers, OneRose, RepliesByLines, RepliesByNames, TextsAnswers}
use Rattle.boundsyn_top.specs.Batch as batches
use Rattle.boundsyn_top.specs.Faults.{HasNoSynthFault, HasNone, HasSynthFault, IsSynthFault, TakesCertificates}
use Rattle.boundsyn_top.specs.Takes as takes
use Rattle.boundsyn_top.specs.Takes.{GoesOn, TakesBehind, TakesFile, first_file}
use Rattle.boundsyn_top.specs.Solving.{limits_by}
use Rattle.boundsyn_top.specs.Steps.{IsUnchanged, ShelfStep}
use Rattle.boundsyn_top.specs.Unread.{IsReadBehind, RepliesByFile, TellsUnread, behind, count_rose, first, of_fault, of_file, of_none}
use Rattle.boundsyn_top.specs.Run.{Asks, IsForeign, IsOutputFor, IsOutputOf, IsReply, RepliesTo, answers, answered, cannot_read, of_files, of_unread, unread, words_refused}
use Rattle.boundsyn_top.proofs.FileLemmas.{of_told, some_bytes, too_long_text}

-- == the words ==

words_unasked : (words : List (List ℕ)) (step : ShelfStep) (bytes : List ℕ) (status : Status) →
    settings_of words ≡ None → bytes ≡ codes "words refused\n" → status ≡ WordsRefused → IsReply words step bytes (status_number status)
words_unasked words step bytes status none is ended = rw ended (words_refused refl (record { none = none }) is)

-- what a command replies is what a run may write
reply_by : (words : List (List ℕ)) (step : ShelfStep) (asked : Asked) (bytes : List ℕ) (status : ℕ) →
    Asks words asked → RepliesTo step asked bytes status → IsReply words step bytes status
reply_by words step asked bytes status asks (unread name failed status_is is) =
    cannot_read status_is (record { asked = asked; asks = asks; name = name; unread = failed }) is
reply_by words step asked bytes status asks (answers status_is answer) =
    answered (record { asked = asked; asks = asks; status_is = status_is; answer = answer })

pub output_by : (words : List (List ℕ)) (step : ShelfStep) (asked : Asked) (output : Output) →
    settings_of words ≡ Some asked → IsOutputOf step asked output → IsOutputFor words step output
output_by words step asked output is o = record {
  reply = reply_by words step asked (bytes_of output) (status_of output) (record { settings = is }) o.replies;
  writable = o.writable;
}

-- a file that is foreign isn't one of the command
pub untaken_by : (words : List (List ℕ)) (told : Option Files) (asked : Asked) (name : List ℕ) → settings_of words ≡ Some asked → IsForeign words told name →
    TakesFile told asked name → ⊥
untaken_by words told asked name is foreign = foreign asked (record { settings = is })

-- a file that isn't taken isn't the first one
pub not_first : (told : Option Files) (asked : Asked) (spec name : List ℕ) → first_file asked ≡ spec ∷ [] → (TakesFile told asked name → ⊥) → name ≢ spec
not_first told asked spec name is other = λ same. other (takes.first (subst (λ xs. Contains xs name) (sym is) (0, omega arith, sym same)))

-- a certificate is taken for a text that `solve` takes
pub takes_certificates : (text : List ℕ) → IsTakenBySolve text → TakesCertificates text
takes_certificates text taken = record { unless = λ r. taken.none r.larger_code r.larger_place r.larger }

-- a text that is taken, or a flat form, has no fault
pub taken_without_fault : (text : List ℕ) (kind : Option Kind) (known : SolveText) → IsTestable text kind known → HasNone (solving.IsSolveFault text kind)
taken_without_fault text kind known taken = record { none = taken.no_fault }

pub solved_without_fault : SolveTextsAreDetermined → (text : List ℕ) (kind : Option Kind) (t : TakenText) → IsTaken text kind t → HasNone (solving.IsSolveFault text kind)
solved_without_fault law text kind t taken = record { none = λ code place fault. law.no_fault text kind t.known code place taken.known fault }

pub flat_without_fault : (text : List ℕ) (flat : FlatText) → FlatTextsHaveNoFault → IsFlatOf SMALL_LIMITS text None flat → HasNone (IsFlatFault SMALL_LIMITS text None)
flat_without_fault text flat law is_flat = record { none = λ code place fault. law SMALL_LIMITS text None flat code place is_flat fault }

-- the text that is taken has none of the command's faults
pub check_goes_on : (told : Option Files) (spec certificate text : List ℕ) → AreOfFile told spec text → TakesCertificates text →
    GoesOn told (check spec certificate)
check_goes_on None spec certificate text are taken = record { unless = tt }
check_goes_on (Some files) spec certificate text are taken = record { unless = λ stops. (subst (λ t. TakesCertificates t) are taken).unless stops }

pub lasso_goes_on : (told : Option Files) (spec word text : List ℕ) → AreOfFile told spec text → HasNone (IsFlatFault SMALL_LIMITS text None) → GoesOn told (lasso spec word)
lasso_goes_on None spec word text are none = record { unless = tt }
lasso_goes_on (Some files) spec word text are none = record {
  unless = λ stops. (subst (λ t. HasNone (IsFlatFault SMALL_LIMITS t None)) are none).none stops.code stops.place stops.fault;
}

pub lasso_solve_goes_on : (kind : Option Kind) (told : Option Files) (spec word text : List ℕ) → AreOfFile told spec text → HasNone (solving.IsSolveFault text kind) →
    GoesOn told (lasso_solve spec word kind)
lasso_solve_goes_on kind None spec word text are none = record { unless = tt }
lasso_solve_goes_on kind (Some files) spec word text are none = record {
  unless = λ stops. (subst (λ t. HasNone (solving.IsSolveFault t kind)) are none).none stops.code stops.place stops.fault;
}

pub verify_goes_on : (side : Side) (kind : Option Kind) (told : Option Files) (spec circuit text : List ℕ) → AreOfFile told spec text →
    HasNone (solving.IsSolveFault text kind) → GoesOn told (verify side kind spec circuit)
verify_goes_on side kind None spec circuit text are none = record { unless = tt }
verify_goes_on side kind (Some files) spec circuit text are none = record {
  unless = λ stops. (subst (λ t. HasNone (solving.IsSolveFault t kind)) are none).none stops.code stops.place stops.fault;
}

-- a text that has no fault as `synth` takes it
pub check_without_fault : (told : Option Files) (spec certificate text : List ℕ) → AreOfFile told spec text → HasNone (IsFirstFault text (Some Mealy)) →
    HasNoSynthFault told (check spec certificate)
check_without_fault None spec certificate text are none = record { none = tt }
check_without_fault (Some files) spec certificate text are none = record {
  none = record {
    none = λ code place fault. none.none code place (subst (λ t. IsFirstFault t (Some Mealy) code place) (sym are)
        (of_told files spec (λ t. IsFirstFault t (Some Mealy) code place) fault));
  };
}

pub verify_without_fault : (side : Side) (kind : Option Kind) (told : Option Files) (spec circuit text : List ℕ) → AreOfFile told spec text →
    HasNone (IsSynthFault side text kind) → HasNoSynthFault told (verify side kind spec circuit)
verify_without_fault side kind None spec circuit text are none = record { none = tt }
verify_without_fault side kind (Some files) spec circuit text are none = record {
  none = record {
    none = λ code place fault. none.none code place (subst (λ t. IsSynthFault side t kind code place) (sym are)
        (of_told files spec (λ t. IsSynthFault side t kind code place) fault));
  };
}

lasso_without_fault : (told : Option Files) (spec word : List ℕ) → HasNoSynthFault told (lasso spec word)
lasso_without_fault None spec word = record { none = tt }
lasso_without_fault (Some files) spec word = record { none = record { none = λ code place fault. fault } }

lasso_solve_without_fault : (kind : Option Kind) (told : Option Files) (spec word : List ℕ) → HasNoSynthFault told (lasso_solve spec word kind)
lasso_solve_without_fault kind None spec word = record { none = tt }
lasso_solve_without_fault kind (Some files) spec word = record { none = record { none = λ code place fault. fault } }

list_without_fault : (told : Option Files) (list : List ℕ) (wanted : EachText) → HasNoSynthFault told (batch list wanted)
list_without_fault None list wanted = record { none = tt }
list_without_fault (Some files) list wanted = record { none = record { none = λ code place fault. fault } }

-- == files that can't be read ==

-- a file that can't be read, behind a text without a fault
pub nothing_told : (Fault : SpecCode → ℕ → Type 0) (bytes : List ℕ) (status : Status) → HasNone Fault → bytes ≡ codes "cannot read\n" → status ≡ CannotRead →
    TellsUnread Fault bytes (status_number status)
nothing_told Fault bytes status none is ended = rw ended (of_none none refl is)

-- or behind one with a fault
pub fault_told : (Fault : SpecCode → ℕ → Type 0) (bytes : List ℕ) (status : ℕ) → RefusedBy Fault bytes status → TellsUnread Fault bytes status
fault_told Fault bytes status refused = of_fault refused.code refused.place refused.fault refused.status_is refused.line

-- problems leave no fault
pub check_has_none : (text : List ℕ) (t : TextProblems) → ProblemsOfTextsAreDetermined → IsForCheck text t → HasNone (IsFirstFault text (Some Mealy))
check_has_none text t law known = record { none = λ code place fault. law.no_fault text (Some Mealy) _ (spec_seen t.spec) t.problems code place known.text_with.are fault }

pub verify_has_none : (text : List ℕ) (kind : Option Kind) (t : TextProblems) → ProblemsOfTextsAreDetermined → IsForVerify text kind t → HasNone (IsSynthFault System text kind)
verify_has_none text kind t law taken = record { none = λ code place fault. law.no_fault text kind _ (spec_seen t.spec) t.problems code place taken.text_with.are fault }

-- a name of a list is taken, where the list has no bad line
pub listed_taken : (told : Option Files) (list : List ℕ) (wanted : EachText) (lines name : List ℕ) → AreOfFile told list lines → IsListed lines name →
    (IsBadList lines → ⊥) → TakesBehind told (batch list wanted) name
listed_taken None list wanted lines name are listed good = (tt, record { unless = tt })
listed_taken (Some files) list wanted lines name are listed good =
    (subst (λ t. IsListed t name) are listed, record { unless = subst (λ t. IsBadList t → ⊥) are good })

-- == outputs ==

-- what holds of the output of a reply
pub whole_is : {E : Type 0} (P : Output → Type 0) (reply : Result Reply E) (result : Result Output E) → IsWholeOf reply result →
    IfOk reply (λ r. P (Whole r)) → IfOk result P
whole_is P (Ok reply) (Ok output) is h = subst P (sym is) h
whole_is P (Ok reply) (Err error) is h = absurd is
whole_is P (Err error) (Ok output) is h = absurd is
whole_is P (Err error) (Err other) is h = tt

-- the output of a command's reply
pub whole_of : (step : ShelfStep) (asked : Asked) (reply : Reply) →
    RepliesTo step asked reply.bytes.items (status_number reply.status) → IsOutputOf step asked (Whole reply)
whole_of step asked reply replies = record { replies = replies; writable = tt }

pub unasked_output : (words : List (List ℕ)) (step : ShelfStep) (reply : Reply) →
    settings_of words ≡ None → reply.bytes.items ≡ codes "words refused\n" → reply.status ≡ WordsRefused →
    IsOutputFor words step (Whole reply)
unasked_output words step reply none is ended = record {
  reply = words_unasked words step reply.bytes.items reply.status none is ended;
  writable = tt;
}

-- == the statuses of answers ==

synth_status : (text : List ℕ) (kind : Option Kind) (settings : Settings) (bytes : List ℕ) (status : ℕ) →
    Answers text kind settings bytes status → Contains (1 ∷ 10 ∷ 11 ∷ 20 ∷ 30 ∷ []) status
synth_status text kind settings bytes status (synthesis.refused code position is fault line) = (0, omega arith, sym is)
synth_status text kind settings bytes status (realizable p n c is holds) = (1, omega arith, sym is)
synth_status text kind settings bytes status (unrealizable p n c is holds) = (3, omega arith, sym is)
synth_status text kind settings bytes status (bounded p side n c is holds) = (2, omega arith, sym is)
synth_status text kind settings bytes status (no_size p is holds) = (4, omega arith, sym is)
synth_status text kind settings bytes status (no_entries p side n is holds) = (4, omega arith, sym is)

check_status : (text document bytes : List ℕ) (status : ℕ) → CheckAnswers text document bytes status → Contains (0 ∷ 1 ∷ 40 ∷ []) status
check_status text document bytes status (certificate.refused code place is fault why line) = (1, omega arith, sym is)
check_status text document bytes status (certificate.bad_line given n is isnt bad line) = (2, omega arith, sym is)
check_status text document bytes status (certificate.accepted given d is isnt holds line) = (0, omega arith, sym is)
check_status text document bytes status (certificate.of_solved given (certificate.line_fails n is bad line)) = (2, omega arith, sym is)
check_status text document bytes status (certificate.of_solved given (certificate.told a is holds line)) = (0, omega arith, sym is)

expand_status : (text bytes : List ℕ) (status : ℕ) → ExpandAnswers text bytes status → Contains (0 ∷ 1 ∷ []) status
expand_status text bytes status (expansion.refused code place is fault line) = (1, omega arith, sym is)
expand_status text bytes status (written spec is flat line) = (0, omega arith, sym is)

lasso_status : (text word bytes : List ℕ) (status : ℕ) → LassoAnswers text word bytes status → Contains (0 ∷ 1 ∷ 40 ∷ []) status
lasso_status text word bytes status (lassos.refused code place is fault line) = (1, omega arith, sym is)
lasso_status text word bytes status (lassos.bad_line spec n is flat bad line) = (2, omega arith, sym is)
lasso_status text word bytes status (lassos.told truth is holds line) = (0, omega arith, sym is)

expand_solve_status : (text : List ℕ) (kind : Option Kind) (nodes : Bool) (bytes : List ℕ) (status : ℕ) → ExpandSolveAnswers text kind nodes bytes status →
    Contains (0 ∷ 1 ∷ []) status
expand_solve_status text kind nodes bytes status (solved_expansion.refused code place is fault line) = (1, omega arith, sym is)
expand_solve_status text kind nodes bytes status (solved_expansion.written known taken is line) = (0, omega arith, sym is)

lasso_solve_status : (text : List ℕ) (kind : Option Kind) (word bytes : List ℕ) (status : ℕ) → LassoSolveAnswers text kind word bytes status →
    Contains (0 ∷ 1 ∷ 40 ∷ []) status
lasso_solve_status text kind word bytes status (solved_lassos.refused code place is fault line) = (1, omega arith, sym is)
lasso_solve_status text kind word bytes status (solved_lassos.bad_line known taken n is bad line) = (2, omega arith, sym is)
lasso_solve_status text kind word bytes status (solved_lassos.told truth is holds line) = (0, omega arith, sym is)

bench_status : (v : Verdict) (status : ℕ) → HasStatus v status → Contains (10 ∷ 20 ∷ 30 ∷ []) status
bench_status (verdict.Machine System n true) status is = (0, omega arith, sym is)
bench_status (verdict.Machine Environment n true) status is = (1, omega arith, sym is)
bench_status (verdict.Machine System n false) status is = absurd is
bench_status (verdict.Machine Environment n false) status is = absurd is
bench_status (verdict.Unknown None) status is = (2, omega arith, sym is)
bench_status (verdict.Unknown (Some place)) status is = absurd is

module _ (text : List ℕ) (kind : Option Kind) (circuit bytes : List ℕ) (status : ℕ) where
  test_status : (side : Side) (t : SolveText) → TestAnswers side text kind circuit t bytes status → Contains (0 ∷ 1 ∷ 40 ∷ []) status
  test_status side t (circuits.line_fails n is bad line) = (2, omega arith, sym is)
  test_status side t (circuits.shown is holds line) = (0, omega arith, sym is)

  system_status : VerifyAnswers text kind circuit bytes status → Contains (0 ∷ 1 ∷ 40 ∷ []) status
  system_status (circuits.refused code place is fault why line) = (1, omega arith, sym is)
  system_status (circuits.bad_line given n is unnamed bad line) = (2, omega arith, sym is)
  system_status (circuits.verified given is unnamed holds line) = (0, omega arith, sym is)
  system_status (circuits.of_states given names tested) = test_status System given.known tested

  verify_status : (side : Side) → CircuitAnswers side text kind circuit bytes status → Contains (0 ∷ 1 ∷ 40 ∷ []) status
  verify_status System answer = system_status answer
  verify_status Environment (circuits.text_refused code place is fault line) = (1, omega arith, sym is)
  verify_status Environment (circuits.of_text given tested) = test_status Environment given.known tested

  -- a text that is too long is refused for either side
  verify_too_long : (side : Side) → IsReadingFault text TooLong most_bytes → bytes ≡ refusal_line TooLong most_bytes → status ≡ 1
      → CircuitAnswers side text kind circuit bytes status
  verify_too_long System fault is ended =
      circuits.refused TooLong most_bytes ended (of_text TooLong most_bytes (of_reading TooLong most_bytes fault))
      (circuits.refused_by_solve TooLong most_bytes (solving.of_reading TooLong most_bytes fault)) is
  verify_too_long Environment fault is ended = circuits.text_refused TooLong most_bytes ended (solving.of_reading TooLong most_bytes fault) is

core_status : (text : List ℕ) (kind : Option Kind) (settings : Settings) (bytes : List ℕ) (status : ℕ) →
    CoreAnswers text kind settings bytes status → Contains (1 ∷ 10 ∷ 11 ∷ 20 ∷ 30 ∷ []) status
core_status text kind settings bytes status (cores.refused code place is fault line) = (0, omega arith, sym is)
core_status text kind settings bytes status (cores.spared flat is_flat few answer is) = synth_status text kind settings bytes status answer
core_status text kind settings bytes status (cores.core is told) = (3, omega arith, sym is)

solve_status : (text : List ℕ) (kind : Option Kind) (limits : LogLimits) (bytes : List ℕ) (status : ℕ) → SolveAnswers text kind limits bytes status →
    Contains (1 ∷ 10 ∷ 20 ∷ 30 ∷ []) status
solve_status text kind limits bytes status (solved.refused code place is fault line) = (0, omega arith, sym is)
solve_status text kind limits bytes status (solved.realizable n is prints) = (1, omega arith, sym is)
solve_status text kind limits bytes status (solved.unrealizable n is prints) = (2, omega arith, sym is)
solve_status text kind limits bytes status (solved.unknown is prints) = (3, omega arith, sym is)

list_status : (told : Option Files) (lines : List ℕ) (wanted : EachText) (bytes : List ℕ) (status : ℕ) →
    ListAnswers told lines wanted bytes status → Contains (0 ∷ 40 ∷ []) status
list_status told lines wanted bytes status (batches.bad_line n is bad line) = (1, omega arith, sym is)
list_status told lines wanted bytes status (batches.answered names texts is list are answer) = (0, omega arith, sym is)

module _ (step : ShelfStep) where
  -- the rest of the step, behind a moment in between
  abbrev pub rest_from : Option Files → (List ℕ → ℕ) → ShelfStep
  rest_from told middle = record { files = told; before = middle; after = step.after }

  replies : (asked : Asked) (bytes : List ℕ) (status : ℕ) → Contains (statuses_of asked) status → MayAnswer step.files asked bytes status →
      IsReadBehind step asked → RepliesTo step asked bytes status
  replies asked bytes status status_is may read = answers status_is (of_files read (record { answer = may }))

  -- a text that isn't taken, where the first fault of a text that is too long answers the command
  untaken_unchanged : (asked : Asked) (spec : List ℕ) (bytes : List ℕ) (status : ℕ) → Contains (first_file asked) spec →
      (IsUnchanged step → (text : List ℕ) → AreOfFile step.files spec text → most_bytes < length text → bytes ≡ refusal_line TooLong most_bytes → status ≡ 1 →
      RepliesTo step asked bytes status) →
      IsUntaken step spec bytes status → RepliesTo step asked bytes status
  untaken_unchanged asked spec bytes status named longer (file.too_long long unchanged ended is) =
      let t = too_long_text step.files spec most_bytes long in longer unchanged t.0 t.1 t.2 is ended
  untaken_unchanged asked spec bytes status named longer (file.unread rose ended is) = unread spec (first named rose) ended is

  untaken : (asked : Asked) (spec : List ℕ) (bytes : List ℕ) (status : ℕ) → Contains (first_file asked) spec →
      ((text : List ℕ) → AreOfFile step.files spec text → most_bytes < length text → bytes ≡ refusal_line TooLong most_bytes → status ≡ 1 →
      RepliesTo step asked bytes status) →
      IsUntaken step spec bytes status → RepliesTo step asked bytes status
  untaken asked spec bytes status named longer = untaken_unchanged asked spec bytes status named (λ unchanged. longer)

  -- == synth ==

  pub synth_answered : (spec text : List ℕ) (wanted : Settings) (kind : Option Kind) (bytes : List ℕ) (status : ℕ) →
      AreOfFile step.files spec text → Answers text kind wanted bytes status →
      RepliesTo step (synth spec wanted kind) bytes status
  synth_answered spec text wanted kind bytes status are answer =
      replies (synth spec wanted kind) bytes status (synth_status text kind wanted bytes status answer)
      (record { bytes = text; are_told = are; holds = answer }) tt

  pub synth_untaken : (spec : List ℕ) (wanted : Settings) (kind : Option Kind) (bytes : List ℕ) (status : ℕ) →
      IsUntaken step spec bytes status → RepliesTo step (synth spec wanted kind) bytes status
  synth_untaken spec wanted kind bytes status =
      untaken (synth spec wanted kind) spec bytes status (0, omega arith, refl)
      (λ text are long is ended. synth_answered spec text wanted kind bytes status are
      (synthesis.refused TooLong most_bytes ended (of_text TooLong most_bytes (of_reading TooLong most_bytes (too_long long))) is))

  -- whatever the other file is
  pub whatever : (name : List ℕ) (Due : Type 0) (Fault : SpecCode → ℕ → Type 0) (P : List ℕ → Type 0) (bytes : List ℕ) (status : ℕ) →
      step.after name ≡ step.before name → ((lines : List ℕ) → P lines) → RepliesByFile step name Due Fault P bytes status
  whatever name Due Fault P bytes status same all = let some = some_bytes step.files name in of_file same (record { bytes = some.0; are_told = some.1; holds = all some.0 })

  pub of_bytes : (name lines : List ℕ) (Due : Type 0) (Fault : SpecCode → ℕ → Type 0) (P : List ℕ → Type 0) (bytes : List ℕ) (status : ℕ) →
      step.after name ≡ step.before name → AreOfFile step.files name lines → P lines → RepliesByFile step name Due Fault P bytes status
  of_bytes name lines Due Fault P bytes status same are holds = of_file same (record { bytes = lines; are_told = are; holds = holds })

  -- == a text and another file ==

  module _ (asked : Asked) (spec other : List ℕ) (A : List ℕ → List ℕ → List ℕ → ℕ → Type 0)
      (may : (bytes : List ℕ) (status : ℕ) → HoldsOfFile step.files spec (λ text. HoldsOfFile step.files other (λ lines. A text lines bytes status)) → MayAnswer step.files asked bytes status)
      (statuses : (text lines bytes : List ℕ) (status : ℕ) → A text lines bytes status → Contains (statuses_of asked) status)
      (read : step.after other ≡ step.before other → IsReadBehind step asked) where
    both_answered : (text lines bytes : List ℕ) (status : ℕ) → step.after other ≡ step.before other → AreOfFile step.files spec text →
        AreOfFile step.files other lines → A text lines bytes status → RepliesTo step asked bytes status
    both_answered text lines bytes status same are are_lines answer =
        replies asked bytes status (statuses text lines bytes status answer)
        (may bytes status (record { bytes = text; are_told = are; holds = record { bytes = lines; are_told = are_lines; holds = answer } }))
        (read same)

    -- the text alone is refused
    text_refused : (text bytes : List ℕ) (status : ℕ) → step.after other ≡ step.before other → AreOfFile step.files spec text →
        ((lines : List ℕ) → A text lines bytes status) → RepliesTo step asked bytes status
    text_refused text bytes status same are answer =
        let some = some_bytes step.files other in both_answered text some.0 bytes status same are some.1 (answer some.0)

    text_untaken : Contains (first_file asked) spec →
        ((text lines bytes : List ℕ) (status : ℕ) → IsReadingFault text TooLong most_bytes → bytes ≡ refusal_line TooLong most_bytes → status ≡ 1 →
        A text lines bytes status) →
        (bytes : List ℕ) (status : ℕ) → IsUntaken step spec bytes status → RepliesTo step asked bytes status
    text_untaken named refuses bytes status =
        untaken_unchanged asked spec bytes status named
        (λ unchanged text are long is ended. text_refused text bytes status (unchanged other) are (λ lines. refuses text lines bytes status (too_long long) is ended))

    -- behind a text that was taken, with its faults as `synth` takes it
    module _ (Due : Type 0) (Fault : List ℕ → SpecCode → ℕ → Type 0) (taken : Due → TakesBehind step.files asked other)
        (has : (code : SpecCode) (place : ℕ) → HoldsOfFile step.files spec (λ text. Fault text code place) → HasSynthFault step.files asked code place)
        (refused : Contains (statuses_of asked) 1) (text : List ℕ) (are : AreOfFile step.files spec text)
        (hasnt : HasNone (Fault text) → HasNoSynthFault step.files asked) where
      unread_here : (bytes : List ℕ) (status : ℕ) → Due → Rose (step.before other) (step.after other) → TellsUnread (Fault text) bytes status → RepliesTo step asked bytes status
      unread_here bytes status due rose (of_fault code place fault ended is) =
          answers (subst (λ k. Contains (statuses_of asked) k) (sym ended) refused)
          (of_unread code place (record {
            fault = has code place (record { bytes = text; are_told = are; holds = fault });
            name = other;
            taken = taken due;
            rose = rose;
          }) ended is)
      unread_here bytes status due rose (of_none none ended is) = unread other (behind (taken due) (hasnt none) rose) ended is

      by_file_here : (middle : List ℕ → ℕ) (bytes : List ℕ) (status : ℕ) → middle other ≡ step.before other →
          RepliesByFile (rest_from step.files middle) other Due (Fault text) (λ lines. A text lines bytes status) bytes status → RepliesTo step asked bytes status
      by_file_here middle bytes status as_before (count_rose due rose tells) =
          unread_here bytes status due (subst (λ n. Rose n (step.after other)) as_before rose) tells
      by_file_here middle bytes status as_before (of_file same h) = both_answered text h.bytes bytes status (same ∙ as_before) are h.are_told h.holds

      by_file : (told : Option Files) (middle : List ℕ → ℕ) (bytes : List ℕ) (status : ℕ) → told ≡ step.files → ((any : List ℕ) → middle any ≡ step.before any) →
          RepliesByFile (rest_from told middle) other Due (Fault text) (λ lines. A text lines bytes status) bytes status → RepliesTo step asked bytes status
      by_file told middle bytes status same as_before replied =
          by_file_here middle bytes status (as_before other)
          (subst (λ o. RepliesByFile (rest_from o middle) other Due (Fault text) (λ lines. A text lines bytes status) bytes status) same replied)

  -- == check ==

  pub check_untaken : (spec document : List ℕ) (bytes : List ℕ) (status : ℕ) →
      IsUntaken step spec bytes status → RepliesTo step (check spec document) bytes status
  check_untaken spec document =
      text_untaken (check spec document) spec document CheckAnswers (λ bytes status h. h) check_status (λ same. same) (0, omega arith, refl)
      (λ text lines bytes status fault is ended.
      certificate.refused TooLong most_bytes ended (of_text TooLong most_bytes (of_reading TooLong most_bytes fault))
      (certificate.refused_by_solve TooLong most_bytes (solving.of_reading TooLong most_bytes fault)) is)

  pub check_by_file : (told : Option Files) (middle : List ℕ → ℕ) (spec document text : List ℕ) (bytes : List ℕ) (status : ℕ) → told ≡ step.files →
      AreOfFile step.files spec text → ((any : List ℕ) → middle any ≡ step.before any) →
      RepliesByFile (rest_from told middle) document (TakesCertificates text) (IsFirstFault text (Some Mealy)) (λ lines. CheckAnswers text lines bytes status) bytes status →
      RepliesTo step (check spec document) bytes status
  check_by_file told middle spec document text bytes status same are =
      by_file (check spec document) spec document CheckAnswers (λ bytes status h. h) check_status (λ read. read)
      (TakesCertificates text) (λ t. IsFirstFault t (Some Mealy)) (λ due. (refl, check_goes_on step.files spec document text are due)) (λ code place h. h)
      (1, omega arith, refl) text are (check_without_fault step.files spec document text are) told middle bytes status same

  -- == expand ==

  pub expand_answered : (spec text : List ℕ) (output : Output) → AreOfFile step.files spec text → IsExpansion text output →
      IsOutputOf step (expand spec) output
  expand_answered spec text output are e = record {
    replies = replies (expand spec) (bytes_of output) (status_of output) (expand_status text (bytes_of output) (status_of output) e.answers)
        (record { bytes = text; are_told = are; holds = e.answers }) tt;
    writable = e.writable;
  }

  pub expand_untaken : (spec : List ℕ) (bytes : List ℕ) (status : ℕ) →
      IsUntaken step spec bytes status → RepliesTo step (expand spec) bytes status
  expand_untaken spec bytes status =
      untaken (expand spec) spec bytes status (0, omega arith, refl)
      (λ text are long is ended. replies (expand spec) bytes status (1, omega arith, sym ended)
      (record { bytes = text; are_told = are; holds = expansion.refused TooLong most_bytes ended (of_reading TooLong most_bytes (too_long long)) is }) tt)

  -- == lasso ==

  pub lasso_untaken : (spec word : List ℕ) (bytes : List ℕ) (status : ℕ) →
      IsUntaken step spec bytes status → RepliesTo step (lasso spec word) bytes status
  lasso_untaken spec word =
      text_untaken (lasso spec word) spec word LassoAnswers (λ bytes status h. h) lasso_status (λ same. same) (0, omega arith, refl)
      (λ text lines bytes status fault is ended. lassos.refused TooLong most_bytes ended (of_reading TooLong most_bytes fault) is)

  pub lasso_by_file : (told : Option Files) (middle : List ℕ → ℕ) (spec word text : List ℕ) (bytes : List ℕ) (status : ℕ) → told ≡ step.files →
      AreOfFile step.files spec text → ((any : List ℕ) → middle any ≡ step.before any) →
      RepliesByFile (rest_from told middle) word (HasNone (IsFlatFault SMALL_LIMITS text None)) (λ code place. ⊥) (λ lines. LassoAnswers text lines bytes status) bytes status →
      RepliesTo step (lasso spec word) bytes status
  lasso_by_file told middle spec word text bytes status same are =
      by_file (lasso spec word) spec word LassoAnswers (λ bytes status h. h) lasso_status (λ read. read)
      (HasNone (IsFlatFault SMALL_LIMITS text None)) (λ t code place. ⊥) (λ due. (refl, lasso_goes_on step.files spec word text are due)) (λ code place h. h.holds)
      (1, omega arith, refl) text are (λ none. lasso_without_fault step.files spec word) told middle bytes status same

  -- == expand and lasso, of a text as `solve` takes it ==

  pub expand_solve_answered : (spec text : List ℕ) (kind : Option Kind) (nodes : Bool) (output : Output) → AreOfFile step.files spec text →
      IsSolveExpansion text kind nodes output → IsOutputOf step (expand_solve spec kind nodes) output
  expand_solve_answered spec text kind nodes output are e = record {
    replies = replies (expand_solve spec kind nodes) (bytes_of output) (status_of output)
        (expand_solve_status text kind nodes (bytes_of output) (status_of output) e.answers) (record { bytes = text; are_told = are; holds = e.answers }) tt;
    writable = e.writable;
  }

  pub expand_solve_untaken : (spec : List ℕ) (kind : Option Kind) (nodes : Bool) (bytes : List ℕ) (status : ℕ) →
      IsUntaken step spec bytes status → RepliesTo step (expand_solve spec kind nodes) bytes status
  expand_solve_untaken spec kind nodes bytes status =
      untaken (expand_solve spec kind nodes) spec bytes status (0, omega arith, refl)
      (λ text are long is ended. replies (expand_solve spec kind nodes) bytes status (1, omega arith, sym ended)
      (record { bytes = text; are_told = are; holds = solved_expansion.refused TooLong most_bytes ended (solving.of_reading TooLong most_bytes (too_long long)) is }) tt)

  pub lasso_solve_untaken : (spec word : List ℕ) (kind : Option Kind) (bytes : List ℕ) (status : ℕ) →
      IsUntaken step spec bytes status → RepliesTo step (lasso_solve spec word kind) bytes status
  lasso_solve_untaken spec word kind =
      text_untaken (lasso_solve spec word kind) spec word (λ text lines bytes status. LassoSolveAnswers text kind lines bytes status) (λ bytes status h. h)
      (λ text lines bytes status answer. lasso_solve_status text kind lines bytes status answer) (λ same. same) (0, omega arith, refl)
      (λ text lines bytes status fault is ended. solved_lassos.refused TooLong most_bytes ended (solving.of_reading TooLong most_bytes fault) is)

  pub lasso_solve_by_file : (kind : Option Kind) (told : Option Files) (middle : List ℕ → ℕ) (spec word text : List ℕ) (bytes : List ℕ) (status : ℕ) → told ≡ step.files →
      AreOfFile step.files spec text → ((any : List ℕ) → middle any ≡ step.before any) →
      RepliesByFile (rest_from told middle) word (HasNone (solving.IsSolveFault text kind)) (λ code place. ⊥) (λ lines. LassoSolveAnswers text kind lines bytes status) bytes status →
      RepliesTo step (lasso_solve spec word kind) bytes status
  lasso_solve_by_file kind told middle spec word text bytes status same are =
      by_file (lasso_solve spec word kind) spec word (λ t lines bytes status. LassoSolveAnswers t kind lines bytes status) (λ bytes status h. h)
      (λ t lines bytes status answer. lasso_solve_status t kind lines bytes status answer) (λ read. read)
      (HasNone (solving.IsSolveFault text kind)) (λ t code place. ⊥) (λ due. (refl, lasso_solve_goes_on kind step.files spec word text are due)) (λ code place h. h.holds)
      (1, omega arith, refl) text are (λ none. lasso_solve_without_fault kind step.files spec word) told middle bytes status same

  -- == gen and bench ==

  pub bench_answered : (clients workers : ℕ) (bytes : List ℕ) (status : ℕ) → BenchAnswer clients workers bytes status →
      RepliesTo step (bench clients workers) bytes status
  bench_answered clients workers bytes status answer =
      replies (bench clients workers) bytes status (bench_status answer.verdict status answer.has_status) answer tt

  -- == verify ==

  pub verify_untaken : (side : Side) (kind : Option Kind) (spec circuit : List ℕ) (bytes : List ℕ) (status : ℕ) →
      IsUntaken step spec bytes status → RepliesTo step (verify side kind spec circuit) bytes status
  verify_untaken side kind spec circuit bytes status =
      text_untaken (verify side kind spec circuit) spec circuit (λ text lines bytes status. CircuitAnswers side text kind lines bytes status) (λ bytes status h. h)
      (λ text lines bytes status answer. verify_status text kind lines bytes status side answer) (λ same. same) (0, omega arith, refl)
      (λ text lines bytes status fault is ended. verify_too_long text kind lines bytes status side fault is ended) bytes status

  pub verify_by_file : (side : Side) (kind : Option Kind) (told : Option Files) (middle : List ℕ → ℕ) (spec circuit text : List ℕ) (bytes : List ℕ) (status : ℕ) → told ≡ step.files →
      AreOfFile step.files spec text → ((any : List ℕ) → middle any ≡ step.before any) →
      RepliesByFile (rest_from told middle) circuit (HasNone (solving.IsSolveFault text kind)) (IsSynthFault side text kind) (λ lines. CircuitAnswers side text kind lines bytes status) bytes status →
      RepliesTo step (verify side kind spec circuit) bytes status
  verify_by_file side kind told middle spec circuit text bytes status same are =
      by_file (verify side kind spec circuit) spec circuit (λ t lines bytes status. CircuitAnswers side t kind lines bytes status) (λ bytes status h. h)
      (λ t lines bytes status answer. verify_status t kind lines bytes status side answer) (λ read. read)
      (HasNone (solving.IsSolveFault text kind)) (λ t. IsSynthFault side t kind) (λ due. (refl, verify_goes_on side kind step.files spec circuit text are due)) (λ code place h. h)
      (1, omega arith, refl) text are (verify_without_fault side kind step.files spec circuit text are) told middle bytes status same

  -- == core ==

  pub core_answered : (spec text : List ℕ) (wanted : Settings) (kind : Option Kind) (bytes : List ℕ) (status : ℕ) →
      AreOfFile step.files spec text → CoreAnswers text kind wanted bytes status → RepliesTo step (core spec wanted kind) bytes status
  core_answered spec text wanted kind bytes status are answer =
      replies (core spec wanted kind) bytes status (core_status text kind wanted bytes status answer)
      (record { bytes = text; are_told = are; holds = answer }) tt

  pub core_untaken : (spec : List ℕ) (wanted : Settings) (kind : Option Kind) (bytes : List ℕ) (status : ℕ) →
      IsUntaken step spec bytes status → RepliesTo step (core spec wanted kind) bytes status
  core_untaken spec wanted kind bytes status =
      untaken (core spec wanted kind) spec bytes status (0, omega arith, refl)
      (λ text are long is ended. core_answered spec text wanted kind bytes status are
      (cores.refused TooLong most_bytes ended
      (cores.of_text TooLong most_bytes (of_text TooLong most_bytes (of_reading TooLong most_bytes (too_long long)))) is))

  -- == solve ==

  pub solve_answered : (spec text : List ℕ) (kind : Option Kind) (refutations : Refutations) (bytes : List ℕ) (status : ℕ) →
      AreOfFile step.files spec text → SolveAnswers text kind (limits_by refutations) bytes status → RepliesTo step (solve spec kind refutations) bytes status
  solve_answered spec text kind refutations bytes status are answer =
      replies (solve spec kind refutations) bytes status (solve_status text kind (limits_by refutations) bytes status answer) (record { bytes = text; are_told = are; holds = answer }) tt

  pub solve_untaken : (spec : List ℕ) (kind : Option Kind) (refutations : Refutations) (bytes : List ℕ) (status : ℕ) →
      IsUntaken step spec bytes status → RepliesTo step (solve spec kind refutations) bytes status
  solve_untaken spec kind refutations bytes status =
      untaken (solve spec kind refutations) spec bytes status (0, omega arith, refl)
      (λ text are long is ended. solve_answered spec text kind refutations bytes status are
      (solved.refused TooLong most_bytes ended (solving.of_reading TooLong most_bytes (too_long long)) is))

  -- == batch ==

  -- the list couldn't be read
  pub list_unread : (list : List ℕ) (wanted : EachText) (bytes : List ℕ) (status : Status) → Rose (step.before list) (step.after list) →
      bytes ≡ codes "cannot read\n" → status ≡ CannotRead → RepliesTo step (batch list wanted) bytes (status_number status)
  list_unread list wanted bytes status rose is ended = rw ended (unread list (first (0, omega arith, refl) rose) refl is)

  by_lines_here : (middle : List ℕ → ℕ) (list : List ℕ) (wanted : EachText) (lines bytes : List ℕ) (status : ℕ) → AreOfFile step.files list lines →
      ((any : List ℕ) → step.before any ≤ middle any) → RepliesByLines (rest_from step.files middle) lines wanted bytes status →
      RepliesTo step (batch list wanted) bytes status
  by_lines_here middle list wanted lines bytes status are more (batches.text_rose name listed good rose ended is) =
      unread name (behind (listed_taken step.files list wanted lines name are listed good) (list_without_fault step.files list wanted)
      (Rose-earlier (step.before name) (middle name) (step.after name) (more name) rose)) ended is
  by_lines_here middle list wanted lines bytes status are more (batches.of_lines answer) =
      replies (batch list wanted) bytes status (list_status step.files lines wanted bytes status answer)
      (record { bytes = lines; are_told = are; holds = answer }) tt

  pub by_lines : (told : Option Files) (middle : List ℕ → ℕ) (list : List ℕ) (wanted : EachText) (lines bytes : List ℕ) (status : ℕ) → told ≡ step.files →
      AreOfFile step.files list lines → ((any : List ℕ) → step.before any ≤ middle any) →
      RepliesByLines (rest_from told middle) lines wanted bytes status → RepliesTo step (batch list wanted) bytes status
  by_lines told middle list wanted lines bytes status same are more replied =
      by_lines_here middle list wanted lines bytes status are more (subst (λ o. RepliesByLines (rest_from o middle) lines wanted bytes status) same replied)

  -- the reply to texts is one to the list that names them
  pub by_names : ListsAreDetermined → (lines : List ℕ) (names : List (List ℕ)) (wanted : EachText) (bytes : List ℕ) (status : ℕ) → IsList lines names →
      RepliesByNames step names wanted bytes status → RepliesByLines step lines wanted bytes status
  by_names law lines names wanted bytes status is_list (batches.one_rose one ended is) =
      batches.text_rose one.name (record { names = names; is_list = is_list; among = one.among })
      (λ bad. law.apart lines names bad.line is_list bad.bad) one.rose ended is
  by_names law lines names wanted bytes status is_list (batches.of_texts texts ended are answer) =
      batches.of_lines (batches.answered names texts ended is_list are answer)

  pub list_refused : (lines : List ℕ) (wanted : EachText) (fault : ListFault) (bytes : List ℕ) (status : Status) →
      ((n : ℕ) → fault ≡ faults.BadLine n → IsFirstBadLineOfList lines n) → IsListRefusal fault bytes status →
      RepliesByLines step lines wanted bytes (status_number status)
  list_refused lines wanted (faults.BadLine n) bytes status bad is = rw is.1 (batches.of_lines (batches.bad_line n refl (bad n refl) is.0))
  list_refused lines wanted faults.NoMemory bytes status bad is = absurd is

  pub names_unread : (names : List (List ℕ)) (wanted : EachText) (bytes : List ℕ) (status : Status) → OneRose step.before step.after names →
      bytes ≡ codes "cannot read\n" → status ≡ CannotRead → RepliesByNames step names wanted bytes (status_number status)
  names_unread names wanted bytes status one is ended = rw ended (batches.one_rose one refl is)

  pub texts_answered : (names texts : List (List ℕ)) (wanted : EachText) (bytes : List ℕ) (status : Status) → AreFilesOf step.files names texts →
      TextsAnswers names texts wanted bytes → status ≡ Done → RepliesByNames step names wanted bytes (status_number status)
  texts_answered names texts wanted bytes status are answer done = rw done (batches.of_texts texts refl are answer)
