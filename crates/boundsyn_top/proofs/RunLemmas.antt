-- What a run promises, from its reply and what became of it.
use Rattle.std.specs.Prelude.{Contains, ◌⊎◌, codes, Result, Ok, Err, OnOk, OnErr, IsErrOf}
use Rattle.std.proofs.Common.{◌≡◌, ◌<◌, ℕ, List, [], ◌∷◌, refl, sym, ◌∙◌, subst, arith, inl, inr, Option, Some, None}
use Rattle.std.proofs.lemmas.List.Elements.{All-contains, All-cons, All-nil, Contains-append_right}
use Rattle.std.specs.List.{All}
use Rattle.input_output.specs.Faults.{Rose}
use Rattle.input_output.specs.Files.{Files}
use Rattle.input_output.specs.Bytes.{Gains, GainsFront}
use Rattle.input_output.specs.declared.sink.SinkFault.{SinkFault}
use Rattle.input_output.specs.declared.sink.SinkFault.TheVariants.{Failed, NoMemory}
use Rattle.input_output.proofs.GainLemmas.{gains_nothing}
use Rattle.spec_faults.specs.declared.code.SpecCode.{SpecCode}
use Rattle.program_replies.specs.Lines.{line_refusal, refusal_line}
use Rattle.program_replies.proofs.RefusalLemmas.{one_refusal}
use Rattle.program_words.specs.Settings.{Asked, synth, check, expand, expand_solve, lasso, lasso_solve, gen, bench, verify, core, batch, solve}
use Rattle.boundsyn_top.specs.Commands.{AnswersAsked, statuses_of}
use Rattle.boundsyn_top.specs.Faults.{HasSynthFault, RefusalsAreDetermined}
use Rattle.boundsyn_top.specs.Run.{AnswersStep, AnswersWords, AskForNothing, Asks, EndsWith, Gained, GainedPart, IsEnding, IsForeign, IsReply, IsStopped, LineFails, ReadFailed, ReadsWell, TextFails, TextFailsUnread, answered, answering, cannot_read, of_files, of_unread, prevented, says, words_refused}
use Rattle.boundsyn_top.specs.Steps.{ShelfStep}
use Rattle.boundsyn_top.specs.Takes.{Stops, TakesBehind, TakesFile, behind, first, first_file}
use Rattle.boundsyn_top.specs.Unread.{IsReadBehind, IsUnread}
use Rattle.boundsyn_top.specs.Unread as reading

-- the clauses of `run` that speak of its result, at plain values
pub record Promise (words : List (List ℕ)) (step : ShelfStep)
    (written later : Option (List ℕ)) (faults faults_after result : ℕ) : Type 0 where
  pub statuses : Contains (2 ∷ 3 ∷ 4 ∷ 5 ∷ answering) result
  pub answered : Contains answering result → Gained written later (λ bytes. AnswersWords words step bytes result)
  pub words_refused : result ≡ 2 → Gained written later (λ bytes. AskForNothing words × (bytes ≡ codes "words refused\n"))
  pub cannot_read : result ≡ 3 → Gained written later (λ bytes. ReadFailed words step × (bytes ≡ codes "cannot read\n"))
  pub cannot_write : result ≡ 4 → Rose faults faults_after
  pub cut_short : (result ≡ 4) ⊎ (result ≡ 5) → GainedPart written later (λ bytes status. IsReply words step bytes status)
  pub bad_words_are_refused : AskForNothing words → Contains (2 ∷ 4 ∷ 5 ∷ []) result
  pub fault_is_refused : (code : SpecCode) (place : ℕ) → TextFails words step.files code place → EndsWith written later (refusal_line code place) 1 result
  pub bad_line_is_refused : (n : ℕ) → LineFails words step.files n → ((code : SpecCode) (place : ℕ) → TextFailsUnread words step code place → ⊥)
      → EndsWith written later (line_refusal n) 40 result
  pub unread_fault_is_refused : (code : SpecCode) (place : ℕ) (fails : TextFailsUnread words step code place) → (IsReadBehind step fails.asked → ⊥)
      → EndsWith written later (refusal_line code place) 1 result
  pub complete : (asked : Asked) → Asks words asked → ReadsWell step asked → (Rose faults faults_after → ⊥) → Contains (5 ∷ statuses_of asked) result

-- words ask for one thing, or for nothing
one_asked : (words : List (List ℕ)) (a b : Asked) → Asks words a → Asks words b → a ≡ b
one_asked words a b x y = let e : Some a ≡ Some b = sym x.settings ∙ y.settings in cc

clash : (words : List (List ℕ)) (a : Asked) → Asks words a → AskForNothing words → ⊥
clash words a x y = let e : Some a ≡ None = sym x.settings ∙ y.none in cc

-- an answer has a status from 0 on that is none of 2, 3, 4, 5
pub record IsAnswering (n : ℕ) : Type 0 where
  pub among : Contains answering n
  pub no_2 : n ≡ 2 → ⊥
  pub no_3 : n ≡ 3 → ⊥
  pub no_4 : n ≡ 4 → ⊥
  pub no_5 : n ≡ 5 → ⊥

answering_0 : IsAnswering 0
answering_0 = record { among = (0, omega arith, refl); no_2 = λ e. omega arith; no_3 = λ e. omega arith; no_4 = λ e. omega arith; no_5 = λ e. omega arith }

answering_1 : IsAnswering 1
answering_1 = record { among = (1, omega arith, refl); no_2 = λ e. omega arith; no_3 = λ e. omega arith; no_4 = λ e. omega arith; no_5 = λ e. omega arith }

answering_10 : IsAnswering 10
answering_10 = record { among = (2, omega arith, refl); no_2 = λ e. omega arith; no_3 = λ e. omega arith; no_4 = λ e. omega arith; no_5 = λ e. omega arith }

answering_11 : IsAnswering 11
answering_11 = record { among = (3, omega arith, refl); no_2 = λ e. omega arith; no_3 = λ e. omega arith; no_4 = λ e. omega arith; no_5 = λ e. omega arith }

answering_20 : IsAnswering 20
answering_20 = record { among = (4, omega arith, refl); no_2 = λ e. omega arith; no_3 = λ e. omega arith; no_4 = λ e. omega arith; no_5 = λ e. omega arith }

answering_30 : IsAnswering 30
answering_30 = record { among = (5, omega arith, refl); no_2 = λ e. omega arith; no_3 = λ e. omega arith; no_4 = λ e. omega arith; no_5 = λ e. omega arith }

answering_40 : IsAnswering 40
answering_40 = record { among = (6, omega arith, refl); no_2 = λ e. omega arith; no_3 = λ e. omega arith; no_4 = λ e. omega arith; no_5 = λ e. omega arith }

-- all statuses of a command are so
all_answering : (asked : Asked) → All IsAnswering (statuses_of asked)
all_answering (synth spec wanted kind) =
    All-cons IsAnswering 1 (10 ∷ 11 ∷ 20 ∷ 30 ∷ []) answering_1
    (All-cons IsAnswering 10 (11 ∷ 20 ∷ 30 ∷ []) answering_10
    (All-cons IsAnswering 11 (20 ∷ 30 ∷ []) answering_11
    (All-cons IsAnswering 20 (30 ∷ []) answering_20
    (All-cons IsAnswering 30 [] answering_30 (All-nil IsAnswering)))))
all_answering (check spec certificate) =
    All-cons IsAnswering 0 (1 ∷ 40 ∷ []) answering_0
    (All-cons IsAnswering 1 (40 ∷ []) answering_1
    (All-cons IsAnswering 40 [] answering_40 (All-nil IsAnswering)))
all_answering (expand spec) =
    All-cons IsAnswering 0 (1 ∷ []) answering_0
    (All-cons IsAnswering 1 [] answering_1 (All-nil IsAnswering))
all_answering (expand_solve spec kind nodes) =
    All-cons IsAnswering 0 (1 ∷ []) answering_0
    (All-cons IsAnswering 1 [] answering_1 (All-nil IsAnswering))
all_answering (lasso_solve spec word kind) =
    All-cons IsAnswering 0 (1 ∷ 40 ∷ []) answering_0
    (All-cons IsAnswering 1 (40 ∷ []) answering_1
    (All-cons IsAnswering 40 [] answering_40 (All-nil IsAnswering)))
all_answering (lasso spec word) =
    All-cons IsAnswering 0 (1 ∷ 40 ∷ []) answering_0
    (All-cons IsAnswering 1 (40 ∷ []) answering_1
    (All-cons IsAnswering 40 [] answering_40 (All-nil IsAnswering)))
all_answering (gen clients) =
    All-cons IsAnswering 0 [] answering_0 (All-nil IsAnswering)
all_answering (bench clients workers) =
    All-cons IsAnswering 10 (20 ∷ 30 ∷ []) answering_10
    (All-cons IsAnswering 20 (30 ∷ []) answering_20
    (All-cons IsAnswering 30 [] answering_30 (All-nil IsAnswering)))
all_answering (verify side kind spec circuit) =
    All-cons IsAnswering 0 (1 ∷ 40 ∷ []) answering_0
    (All-cons IsAnswering 1 (40 ∷ []) answering_1
    (All-cons IsAnswering 40 [] answering_40 (All-nil IsAnswering)))
all_answering (core spec wanted kind) =
    All-cons IsAnswering 1 (10 ∷ 11 ∷ 20 ∷ 30 ∷ []) answering_1
    (All-cons IsAnswering 10 (11 ∷ 20 ∷ 30 ∷ []) answering_10
    (All-cons IsAnswering 11 (20 ∷ 30 ∷ []) answering_11
    (All-cons IsAnswering 20 (30 ∷ []) answering_20
    (All-cons IsAnswering 30 [] answering_30 (All-nil IsAnswering)))))
all_answering (batch list wanted) =
    All-cons IsAnswering 0 (40 ∷ []) answering_0
    (All-cons IsAnswering 40 [] answering_40 (All-nil IsAnswering))
all_answering (solve spec kind refutations) =
    All-cons IsAnswering 1 (10 ∷ 20 ∷ 30 ∷ []) answering_1
    (All-cons IsAnswering 10 (20 ∷ 30 ∷ []) answering_10
    (All-cons IsAnswering 20 (30 ∷ []) answering_20
    (All-cons IsAnswering 30 [] answering_30 (All-nil IsAnswering))))

is_answering : (asked : Asked) (n : ℕ) → Contains (statuses_of asked) n → IsAnswering n
is_answering asked n h = All-contains IsAnswering (statuses_of asked) n (all_answering asked) h

among_all : (n : ℕ) → Contains answering n → Contains (2 ∷ 3 ∷ 4 ∷ 5 ∷ answering) n
among_all n h = Contains-append_right (2 ∷ 3 ∷ 4 ∷ 5 ∷ []) answering n h

among_own : (asked : Asked) (n : ℕ) → Contains (statuses_of asked) n → Contains (5 ∷ statuses_of asked) n
among_own asked n h = Contains-append_right (5 ∷ []) (statuses_of asked) n h

-- 2 to 5 are no statuses of an answer
abbrev pub differs : ℕ → ℕ → Type 0
differs m k = k ≡ m → ⊥

all_else : (m : ℕ) → 1 < m → m < 6 → All (differs m) answering
all_else m more less =
    let zero_differs : differs m 0 = λ e. omega (arith, more, less, e) in
    let one_differs : differs m 1 = λ e. omega (arith, more, less, e) in
    let d10 : differs m 10 = λ e. omega (arith, more, less, e) in
    let d11 : differs m 11 = λ e. omega (arith, more, less, e) in
    let d20 : differs m 20 = λ e. omega (arith, more, less, e) in
    let d30 : differs m 30 = λ e. omega (arith, more, less, e) in
    let d40 : differs m 40 = λ e. omega (arith, more, less, e) in
    All-cons (differs m) 0 (1 ∷ 10 ∷ 11 ∷ 20 ∷ 30 ∷ 40 ∷ []) zero_differs (All-cons (differs m) 1 (10 ∷ 11 ∷ 20 ∷ 30 ∷ 40 ∷ []) one_differs
    (All-cons (differs m) 10 (11 ∷ 20 ∷ 30 ∷ 40 ∷ []) d10 (All-cons (differs m) 11 (20 ∷ 30 ∷ 40 ∷ []) d11
    (All-cons (differs m) 20 (30 ∷ 40 ∷ []) d20 (All-cons (differs m) 30 (40 ∷ []) d30 (All-cons (differs m) 40 [] d40 (All-nil (differs m))))))))

not_answering : (n m : ℕ) → n ≡ m → 1 < m → m < 6 → Contains answering n → ⊥
not_answering n m is more less h = All-contains (differs m) answering n (all_else m more less) h is

no_cut : (n m : ℕ) → n ≡ m → (m ≡ 4 → ⊥) → (m ≡ 5 → ⊥) → (n ≡ 4) ⊎ (n ≡ 5) → ⊥
no_cut n m is four five (inl e) = four (sym is ∙ e)
no_cut n m is four five (inr e) = five (sym is ∙ e)

module _ (words : List (List ℕ)) (step : ShelfStep) (written later : Option (List ℕ)) (faults faults_after : ℕ) where
  whole_words : (bytes : List ℕ) (n : ℕ) → Gains written later bytes → n ≡ 2 → AskForNothing words → bytes ≡ codes "words refused\n" →
      Promise words step written later faults faults_after n
  whole_words bytes n gained n_is none is = record {
    statuses = (0, omega arith, sym n_is);
    answered = λ h. absurd (not_answering n 2 n_is (omega arith) (omega arith) h);
    words_refused = λ e. record { bytes = bytes; gained = gained; holds = (none, is) };
    cannot_read = λ e. absurd (omega (arith, n_is, e));
    cannot_write = λ e. absurd (omega (arith, n_is, e));
    cut_short = λ e. absurd (no_cut n 2 n_is (λ h. omega arith) (λ h. omega arith) e);
    bad_words_are_refused = λ e. (0, omega arith, sym n_is);
    fault_is_refused = λ code place f. absurd (clash words f.asked f.asks none);
    bad_line_is_refused = λ line f plain. absurd (clash words f.asked f.asks none);
    unread_fault_is_refused = λ code place f failed. absurd (clash words f.asked f.asks none);
    complete = λ asked asks well written_all. absurd (clash words asked asks none);
  }

  whole_unread : (bytes : List ℕ) (n : ℕ) → Gains written later bytes → n ≡ 3 → ReadFailed words step → bytes ≡ codes "cannot read\n" →
      Promise words step written later faults faults_after n
  whole_unread bytes n gained n_is rose is = record {
    statuses = (1, omega arith, sym n_is);
    answered = λ h. absurd (not_answering n 3 n_is (omega arith) (omega arith) h);
    words_refused = λ e. absurd (omega (arith, n_is, e));
    cannot_read = λ e. record { bytes = bytes; gained = gained; holds = (rose, is) };
    cannot_write = λ e. absurd (omega (arith, n_is, e));
    cut_short = λ e. absurd (no_cut n 3 n_is (λ h. omega arith) (λ h. omega arith) e);
    bad_words_are_refused = λ e. absurd (clash words rose.asked rose.asks e);
    fault_is_refused = λ code place f. prevented (0, omega arith, sym n_is);
    bad_line_is_refused = λ line f plain. prevented (0, omega arith, sym n_is);
    unread_fault_is_refused = λ code place f failed. prevented (0, omega arith, sym n_is);
    complete = λ asked asks well written_all. absurd (subst (λ a. ReadsWell step a) (one_asked words asked rose.asked asks rose.asks) well rose.name rose.unread);
  }

  -- the answer to the same command, of the files that are told
  answer_to : (bytes : List ℕ) (n : ℕ) (a : AnswersWords words step bytes n) (asked : Asked) → Asks words asked → AnswersStep step asked bytes n
  answer_to bytes n a asked asks = subst (λ x. AnswersStep step x bytes n) (one_asked words a.asked asked a.asks asks) a.answer

  told_answer : (asked : Asked) (bytes : List ℕ) (n : ℕ) (files : Files) → step.files ≡ Some files → AnswersAsked step.files asked bytes n →
      AnswersAsked (Some files) asked bytes n
  told_answer asked bytes n files told answer = subst (λ o. AnswersAsked o asked bytes n) told answer

  told_fault : (asked : Asked) (code : SpecCode) (place : ℕ) (files : Files) → step.files ≡ Some files → HasSynthFault step.files asked code place →
      HasSynthFault (Some files) asked code place
  told_fault asked code place files told fault = subst (λ o. HasSynthFault o asked code place) told fault

  -- the line of a fault that is the one that was told
  same_line : (bytes : List ℕ) (code told : SpecCode) (place at : ℕ) → (code ≡ told) × (place ≡ at) → bytes ≡ refusal_line told at → bytes ≡ refusal_line code place
  same_line bytes code told place at same is = is ∙ sym (one_refusal code told place at same.0 same.1)

  -- the answer, where the text has a fault or the other file a bad line
  fault_by : RefusalsAreDetermined → (bytes : List ℕ) (n : ℕ) (code : SpecCode) (place : ℕ) (f : TextFails words step.files code place) →
      AnswersStep step f.asked bytes n → (n ≡ 1) × (bytes ≡ refusal_line code place)
  fault_by law bytes n code place f (of_files read answer) =
      law.of_text f.files f.asked bytes n code place f.fault (told_answer f.asked bytes n f.files f.are_told answer)
  fault_by law bytes n code place f (of_unread told at unread ended is) = (
    ended,
    same_line bytes code told place at
        (law.of_unread f.files f.asked code told place at f.fault (told_fault f.asked told at f.files f.are_told unread.fault)) is,
  )

  line_by : RefusalsAreDetermined → (bytes : List ℕ) (n line : ℕ) (f : LineFails words step.files line) →
      ((code : SpecCode) (place : ℕ) → TextFailsUnread words step code place → ⊥) → AnswersStep step f.asked bytes n → (n ≡ 40) × (bytes ≡ line_refusal line)
  line_by law bytes n line f plain (of_files read answer) =
      law.of_line f.files f.asked bytes n line f.bad (told_answer f.asked bytes n f.files f.are_told answer)
  line_by law bytes n line f plain (of_unread code place unread ended is) =
      absurd (plain code place (record { asked = f.asked; asks = f.asks; files = f.files; are_told = f.are_told; fault = unread }))

  unread_by : RefusalsAreDetermined → (bytes : List ℕ) (n : ℕ) (code : SpecCode) (place : ℕ) (f : TextFailsUnread words step code place) →
      (IsReadBehind step f.asked → ⊥) → AnswersStep step f.asked bytes n → (n ≡ 1) × (bytes ≡ refusal_line code place)
  unread_by law bytes n code place f failed (of_files read answer) = absurd (failed read)
  unread_by law bytes n code place f failed (of_unread told at unread ended is) = (
    ended,
    same_line bytes code told place at
        (law.one_unread f.files f.asked code told place at (told_fault f.asked code place f.files f.are_told f.fault.fault)
        (told_fault f.asked told at f.files f.are_told unread.fault)) is,
  )

  ends : (bytes line : List ℕ) (n status : ℕ) → Gains written later bytes → (n ≡ status) × (bytes ≡ line) → EndsWith written later line status n
  ends bytes line n status gained e = says e.0 (subst (λ b. Gains written later b) e.1 gained)

  whole_answer : RefusalsAreDetermined → (bytes : List ℕ) (n : ℕ) → Gains written later bytes → AnswersWords words step bytes n →
      Promise words step written later faults faults_after n
  whole_answer law bytes n gained a =
      let is = is_answering a.asked n a.status_is in
      record {
        statuses = among_all n is.among;
        answered = λ h. record { bytes = bytes; gained = gained; holds = a };
        words_refused = λ e. absurd (is.no_2 e);
        cannot_read = λ e. absurd (is.no_3 e);
        cannot_write = λ e. absurd (is.no_4 e);
        cut_short = λ e. absurd (no_cut n n refl is.no_4 is.no_5 e);
        bad_words_are_refused = λ e. absurd (clash words a.asked a.asks e);
        fault_is_refused = λ code place f. ends bytes (refusal_line code place) n 1 gained (fault_by law bytes n code place f (answer_to bytes n a f.asked f.asks));
        bad_line_is_refused = λ line f plain. ends bytes (line_refusal line) n 40 gained (line_by law bytes n line f plain (answer_to bytes n a f.asked f.asks));
        unread_fault_is_refused = λ code place f failed.
            ends bytes (refusal_line code place) n 1 gained (unread_by law bytes n code place f failed (answer_to bytes n a f.asked f.asks));
        complete = λ asked asks well written_all. subst (λ x. Contains (5 ∷ statuses_of x) n) (one_asked words a.asked asked a.asks asks) (among_own a.asked n a.status_is);
      }

  -- all was written
  run_whole : RefusalsAreDetermined → (bytes : List ℕ) (n : ℕ) → IsReply words step bytes n → Gains written later bytes →
      Promise words step written later faults faults_after n
  run_whole law bytes n (words_refused n_is none is) gained = whole_words bytes n gained n_is none is
  run_whole law bytes n (cannot_read n_is rose is) gained = whole_unread bytes n gained n_is rose is
  run_whole law bytes n (answered a) gained = whole_answer law bytes n gained a

  part_of : (bytes : List ℕ) (n : ℕ) → IsReply words step bytes n → GainsFront written later bytes →
      GainedPart written later (λ bytes status. IsReply words step bytes status)
  part_of bytes n reply front = record { front = front.front; gained = front.gained; allowed = inr (bytes, n, front, reply) }

  part_nothing : later ≡ written → GainedPart written later (λ bytes status. IsReply words step bytes status)
  part_nothing same = record { front = []; gained = gains_nothing written later same; allowed = inl refl }

  -- the sink failed
  run_failed : (n : ℕ) → n ≡ 4 → Rose faults faults_after →
      GainedPart written later (λ bytes status. IsReply words step bytes status) →
      Promise words step written later faults faults_after n
  run_failed n n_is rose part = record {
    statuses = (2, omega arith, sym n_is);
    answered = λ h. absurd (not_answering n 4 n_is (omega arith) (omega arith) h);
    words_refused = λ e. absurd (omega (arith, n_is, e));
    cannot_read = λ e. absurd (omega (arith, n_is, e));
    cannot_write = λ e. rose;
    cut_short = λ e. part;
    bad_words_are_refused = λ e. (1, omega arith, sym n_is);
    fault_is_refused = λ code place f. prevented (1, omega arith, sym n_is);
    bad_line_is_refused = λ line f plain. prevented (1, omega arith, sym n_is);
    unread_fault_is_refused = λ code place f failed. prevented (1, omega arith, sym n_is);
    complete = λ asked asks well written_all. absurd (written_all rose);
  }

  -- memory was wanted
  run_wants : (n : ℕ) → n ≡ 5 → GainedPart written later (λ bytes status. IsReply words step bytes status) →
      Promise words step written later faults faults_after n
  run_wants n n_is part = record {
    statuses = (3, omega arith, sym n_is);
    answered = λ h. absurd (not_answering n 5 n_is (omega arith) (omega arith) h);
    words_refused = λ e. absurd (omega (arith, n_is, e));
    cannot_read = λ e. absurd (omega (arith, n_is, e));
    cannot_write = λ e. absurd (omega (arith, n_is, e));
    cut_short = λ e. part;
    bad_words_are_refused = λ e. (2, omega arith, sym n_is);
    fault_is_refused = λ code place f. prevented (2, omega arith, sym n_is);
    bad_line_is_refused = λ line f plain. prevented (2, omega arith, sym n_is);
    unread_fault_is_refused = λ code place f failed. prevented (2, omega arith, sym n_is);
    complete = λ asked asks well written_all. (0, omega arith, sym n_is);
  }

  -- memory was wanted before anything was written
  pub run_silent : (n : ℕ) → n ≡ 5 → later ≡ written → Promise words step written later faults faults_after n
  run_silent n n_is same = run_wants n n_is (part_nothing same)

  -- what became of a reply
  pub run_ended : RefusalsAreDetermined → (bytes : List ℕ) (status : ℕ) → IsReply words step bytes status →
      (put : Result (Unit {0}) SinkFault) → OnOk put (Gains written later bytes) → OnErr put (GainsFront written later bytes) →
      (IsErrOf put Failed → Rose faults faults_after) → (result : ℕ) → IsEnding put status result →
      Promise words step written later faults faults_after result
  run_ended law bytes status reply (Ok u) gained front rose result is =
      run_whole law bytes result (subst (λ k. IsReply words step bytes k) (sym is) reply) gained
  run_ended law bytes status reply (Err Failed) gained front rose result is = run_failed result is (rose refl) (part_of bytes status reply front)
  run_ended law bytes status reply (Err NoMemory) gained front rose result is = run_wants result is (part_of bytes status reply front)

-- == files ==

-- behind a file that is refused none is taken
none_behind : (files : Files) (asked : Asked) (name : List ℕ) → Stops files asked → TakesBehind (Some files) asked name → ⊥
none_behind files (synth spec wanted kind) name stops taken = taken
none_behind files (check spec certificate) name stops taken = taken.1.unless stops
none_behind files (expand spec) name stops taken = taken
none_behind files (expand_solve spec kind nodes) name stops taken = taken
none_behind files (lasso spec word) name stops taken = taken.1.unless stops
none_behind files (lasso_solve spec word kind) name stops taken = taken.1.unless stops
none_behind files (gen clients) name stops taken = taken
none_behind files (bench clients workers) name stops taken = taken
none_behind files (verify side kind spec circuit) name stops taken = taken.1.unless stops
none_behind files (core spec wanted kind) name stops taken = taken
none_behind files (batch list wanted) name stops taken = taken.1.unless stops
none_behind files (solve spec kind refutations) name stops taken = taken

first_alone : (files : Files) (asked : Asked) (name : List ℕ) → Stops files asked → (Contains (first_file asked) name → ⊥) →
    TakesFile (Some files) asked name → ⊥
first_alone files asked name stops other (first taken) = other taken
first_alone files asked name stops other (behind taken) = none_behind files asked name stops taken

-- where the first file is refused, each other one is foreign
pub refused_alone : (words : List (List ℕ)) (told : Option Files) (stopped : IsStopped words told) (name : List ℕ) →
    (Contains (first_file stopped.asked) name → ⊥) → IsForeign words told name
refused_alone words told stopped name other = λ asked asks taken.
    first_alone stopped.files stopped.asked name stopped.stops other
    (subst (λ o. TakesFile o stopped.asked name) stopped.are_told (subst (λ a. TakesFile told a name) (one_asked words asked stopped.asked asks stopped.asks) taken))

-- no count of 0 rose to 0
pub none_rose : Rose 0 0 → ⊥
none_rose (inl lt) = omega arith
none_rose (inr both) = omega (arith, both.0)

-- where no count rose each file could be read
pub none_unread : (step : ShelfStep) (asked : Asked) (name : List ℕ) → step.before name ≡ 0 → step.after name ≡ 0 → IsUnread step asked name → ⊥
none_unread step asked name old new (reading.first named rose) = none_rose (subst (λ n. Rose 0 n) new (subst (λ n. Rose n (step.after name)) old rose))
none_unread step asked name old new (reading.behind taken none rose) = none_rose (subst (λ n. Rose 0 n) new (subst (λ n. Rose n (step.after name)) old rose))
