-- Nothing but its line answers a fault, or a bad line.
use Rattle.std.proofs.Common.{◌≡◌, ◌<◌, ◌≤◌, ℕ, List, ◌∙◌, ap, arith, true, Option, Some, None}
use Rattle.text_limits.specs.declared.TheConstants.{SMALL_LIMITS}
use Rattle.letters_and_lassos.specs.declared.kinds.Kind.{Kind}
use Rattle.letters_and_lassos.specs.declared.kinds.Kind.TheVariants.{Mealy}
use Rattle.spec_faults.specs.declared.code.SpecCode.{SpecCode}
use Rattle.input_output.specs.Files.{Files, bytes_under}
use Rattle.program_replies.specs.Lines.{line_refusal, refusal_line}
use Rattle.program_replies.proofs.RefusalLemmas.{one_refusal}
use Rattle.program_words.specs.Settings.{Asked, EachText, batch, bench, check, core, expand, expand_solve, gen, lasso, lasso_solve, solve, synth, verify}
use Rattle.tlsf_expand.specs.FlatText.{FlatText}
use Rattle.flat_text.specs.FlatOf.{IsFlatOf}
use Rattle.spec_problems.specs.OfText.{IsFirstFault}
use Rattle.spec_problems.specs.Laws.{ProblemsOfTextsAreDetermined}
use Rattle.synth_engine.specs.declared.settings.Settings.{Settings}
use Rattle.synth_answer.specs.Answer.{Answers, defeats, refused, realizable, unrealizable, bounded, no_size, no_entries}
use Rattle.synth_answer.specs.Printed.{Printed}
use Rattle.synth_answer.proofs.Grounds.{printed_problems, printed_spec}
use Rattle.check_answer.specs.Answer.{CheckAnswers}
use Rattle.check_answer.specs.Laws.{ChecksAreDetermined}
use Rattle.flat_answer.specs.Expand.{ExpandAnswers}
use Rattle.flat_answer.specs.Lasso.{LassoAnswers}
use Rattle.flat_answer.specs.Laws.{ExpandAnswersAreDue, LassoAnswersAreDue}
use Rattle.solved_flat.specs.Expand.{ExpandSolveAnswers}
use Rattle.solved_flat.specs.Lasso.{LassoSolveAnswers}
use Rattle.solved_flat.specs.Laws.{ExpandSolveAnswersAreDue, LassoSolveAnswersAreDue}
use Rattle.flat_text.specs.Laws.{FlatTextsAreDetermined}
use Rattle.letters_and_lassos.specs.declared.kinds.Side.{Side}
use Rattle.letters_and_lassos.specs.declared.kinds.Side.TheVariants.{Environment, System}
use Rattle.verify_answer.specs.Answer.{CircuitAnswers}
use Rattle.verify_answer.specs.Laws.{EnvironmentsAreDetermined, VerificationsAreDetermined}
use Rattle.core_answer.specs.Core.{CoreAnswers, IsCoreFault, guarantees_in}
use Rattle.core_answer.specs.Core as cores
use Rattle.core_answer.specs.Laws.{CoreFaultsAreDetermined}
use Rattle.batch_answer.specs.Laws.{ListsAreDetermined}
use Rattle.solve_answer.specs.Answer.{SolveAnswers}
use Rattle.batch_answer.specs.ListText.{IsFirstBadLineOfList}
use Rattle.boundsyn_top.specs.Batch.{ListAnswers}
use Rattle.boundsyn_top.specs.Batch as batches
use Rattle.boundsyn_top.specs.Files.{HoldsOfFile}
use Rattle.boundsyn_top.specs.Commands.{AnswersAsked}
use Rattle.boundsyn_top.specs.Faults as faults_of_check
use Rattle.boundsyn_top.specs.Faults.{HasBadLine, HasFault, HasSynthFault, IsBadCertificate, IsBadCircuit, IsCheckFault, IsSynthFault, IsVerifyFault, RefusalsAreDetermined}
use Rattle.boundsyn_top.specs.Solving.{limits_by}
use Rattle.solve_ground.specs.Laws.{SolveTextsAreDetermined}
use Rattle.boundsyn_top.proofs.FileLemmas.{of_told}
use Rattle.boundsyn_top.proofs.SolveLemmas.{solve_fault}

module _ (problems : ProblemsOfTextsAreDetermined) where
  no_fault : (text : List ℕ) (kind : Option Kind) (settings : Settings) (bytes : List ℕ) (code : SpecCode) (place : ℕ) →
      Printed text kind settings bytes → IsFirstFault text kind code place → ⊥
  no_fault text kind settings bytes code place p fault =
      problems.no_fault text kind _ (printed_spec p) p.problems code place (printed_problems text kind settings bytes p) fault

  synth_fault : (text : List ℕ) (kind : Option Kind) (settings : Settings) (bytes : List ℕ) (status : ℕ) (code : SpecCode) (place : ℕ) →
      Answers text kind settings bytes status → IsFirstFault text kind code place → (status ≡ 1) × (bytes ≡ refusal_line code place)
  synth_fault text kind settings bytes status code place (refused other at ended first line) fault =
      let e = problems.one_fault text kind other code at place first fault in (ended, line ∙ one_refusal other code at place e.0 e.1)
  synth_fault text kind settings bytes status code place (realizable p n c is holds) fault = absurd (no_fault text kind settings bytes code place p fault)
  synth_fault text kind settings bytes status code place (unrealizable p n c is holds) fault = absurd (no_fault text kind settings bytes code place p fault)
  synth_fault text kind settings bytes status code place (bounded p side n c is holds) fault = absurd (no_fault text kind settings bytes code place p fault)
  synth_fault text kind settings bytes status code place (no_size p is holds) fault = absurd (no_fault text kind settings bytes code place p fault)
  synth_fault text kind settings bytes status code place (no_entries p side n is holds) fault = absurd (no_fault text kind settings bytes code place p fault)

  -- a text with a counter-machine has no fault
  defeat_fault : (text : List ℕ) (kind : Option Kind) (settings : Settings) (bytes : List ℕ) (status : ℕ) (code : SpecCode) (place : ℕ) →
      (a : Answers text kind settings bytes status) → defeats a ≡ true → IsFirstFault text kind code place → ⊥
  defeat_fault text kind settings bytes status code place (refused other at ended first line) told fault = cc
  defeat_fault text kind settings bytes status code place (realizable p n c is holds) told fault = cc
  defeat_fault text kind settings bytes status code place (unrealizable p n c is holds) told fault = no_fault text kind settings bytes code place p fault
  defeat_fault text kind settings bytes status code place (bounded p side n c is holds) told fault = no_fault text kind settings bytes code place p fault
  defeat_fault text kind settings bytes status code place (no_size p is holds) told fault = cc
  defeat_fault text kind settings bytes status code place (no_entries p side n is holds) told fault = cc

  module _ (flats : FlatTextsAreDetermined) (faults : CoreFaultsAreDetermined) where
    -- few guarantees aren't many
    not_many : (text : List ℕ) (kind : Option Kind) (flat other : FlatText) → IsFlatOf SMALL_LIMITS text kind flat → IsFlatOf SMALL_LIMITS text kind other → guarantees_in flat ≤ 64 →
        64 < guarantees_in other → ⊥
    not_many text kind flat other is_flat is_other few many =
        let same : guarantees_in flat ≡ guarantees_in other = ap guarantees_in (flats SMALL_LIMITS text kind flat other is_flat is_other) in omega (arith, same, few, many)

    core_fault : (text : List ℕ) (kind : Option Kind) (settings : Settings) (bytes : List ℕ) (status : ℕ) (code : SpecCode) (place : ℕ) →
        CoreAnswers text kind settings bytes status → IsCoreFault text kind code place → (status ≡ 1) × (bytes ≡ refusal_line code place)
    core_fault text kind settings bytes status code place (cores.refused other at ended first line) fault =
        let e = faults text kind other code at place first fault in (ended, line ∙ one_refusal other code at place e.0 e.1)
    core_fault text kind settings bytes status code place (cores.spared flat is_flat few a told) (cores.of_text same at fault) =
        synth_fault text kind settings bytes status same at a fault
    core_fault text kind settings bytes status code place (cores.spared flat is_flat few a told) (cores.too_many other is_other none many) =
        absurd (not_many text kind flat other is_flat is_other few many)
    core_fault text kind settings bytes status code place (cores.core is told) (cores.of_text same at fault) =
        absurd (defeat_fault text kind settings told.whole_bytes told.whole_status same at told.whole told.whole_defeats fault)
    core_fault text kind settings bytes status code place (cores.core is told) (cores.too_many other is_other none many) =
        absurd (not_many text kind told.flat other told.is_flat is_other told.few many)

-- nothing but its line answers a list with a bad line
bad_list : ListsAreDetermined → (told : Option Files) (lines : List ℕ) (wanted : EachText) (bytes : List ℕ) (status n : ℕ) →
    ListAnswers told lines wanted bytes status → IsFirstBadLineOfList lines n → (status ≡ 40) × (bytes ≡ line_refusal n)
bad_list law told lines wanted bytes status n (batches.bad_line m ended first is) bad = (ended, is ∙ ap line_refusal (law.one_line lines m n first bad))
bad_list law told lines wanted bytes status n (batches.answered names texts ended is_list are answer) bad = absurd (law.apart lines names n is_list bad)

module _ (problems : ProblemsOfTextsAreDetermined) (checks : ChecksAreDetermined) (expansions : ExpandAnswersAreDue) (truths : LassoAnswersAreDue)
    (verifications : VerificationsAreDetermined) (flats : FlatTextsAreDetermined) (faults : CoreFaultsAreDetermined) (lists : ListsAreDetermined)
    (solvings : SolveTextsAreDetermined) (environments : EnvironmentsAreDetermined) (solved_expansions : ExpandSolveAnswersAreDue)
    (solved_truths : LassoSolveAnswersAreDue) where
  verify_fault : (side : Side) (text : List ℕ) (kind : Option Kind) (circuit bytes : List ℕ) (status : ℕ) (code : SpecCode) (place : ℕ)
      → CircuitAnswers side text kind circuit bytes status → IsVerifyFault side text kind circuit code place → (status ≡ 1) × (bytes ≡ refusal_line code place)
  verify_fault System text kind circuit bytes status code place a fault =
      verifications.of_fault text kind circuit bytes status code place a fault.fault fault.untested
  verify_fault Environment text kind circuit bytes status code place a fault = environments.of_fault text kind circuit bytes status code place a fault

  bad_circuit : (side : Side) (text : List ℕ) (kind : Option Kind) (circuit bytes : List ℕ) (status n : ℕ) → CircuitAnswers side text kind circuit bytes status
      → IsBadCircuit side text kind circuit n → (status ≡ 40) × (bytes ≡ line_refusal n)
  bad_circuit System text kind circuit bytes status n a (faults_of_check.listed given unnamed first) =
      verifications.of_bad_line text kind circuit bytes status given n a unnamed first
  bad_circuit System text kind circuit bytes status n a (faults_of_check.named given names first) =
      verifications.of_line_with_states text kind circuit bytes status given n a names first
  bad_circuit Environment text kind circuit bytes status n a bad = environments.of_bad_line text kind circuit bytes status bad.given n a bad.bad

  check_fault : (text document bytes : List ℕ) (status : ℕ) (code : SpecCode) (place : ℕ) → CheckAnswers text document bytes status →
      IsCheckFault text document code place → (status ≡ 1) × (bytes ≡ refusal_line code place)
  check_fault text document bytes status code place a (faults_of_check.of_text _ _ fault untested) = checks.of_fault text document bytes status code place a fault untested

  bad_certificate : (text document bytes : List ℕ) (status n : ℕ) → CheckAnswers text document bytes status → IsBadCertificate text document n →
      (status ≡ 40) × (bytes ≡ line_refusal n)
  bad_certificate text document bytes status n a (faults_of_check.earlier given isnt first) = checks.of_bad_line text document bytes status given n a isnt first
  bad_certificate text document bytes status n a (faults_of_check.solved given first) = checks.of_solved_bad_line text document bytes status given n a first

  of_text : (files : Files) (asked : Asked) (bytes : List ℕ) (status : ℕ) (code : SpecCode) (place : ℕ) → HasFault files asked code place →
      AnswersAsked (Some files) asked bytes status → (status ≡ 1) × (bytes ≡ refusal_line code place)
  of_text files (synth spec wanted kind) bytes status code place fault a =
      synth_fault problems (bytes_under files spec) kind wanted bytes status code place
      (of_told files spec (λ text. Answers text kind wanted bytes status) a.answer) fault
  of_text files (check spec document) bytes status code place fault a =
      let h = of_told files spec (λ text. HoldsOfFile (Some files) document (λ lines. CheckAnswers text lines bytes status)) a.answer in
      check_fault (bytes_under files spec) (bytes_under files document) bytes status code place
      (of_told files document (λ lines. CheckAnswers (bytes_under files spec) lines bytes status) h) fault
  of_text files (expand spec) bytes status code place fault a =
      expansions.of_fault (bytes_under files spec) bytes status code place (of_told files spec (λ text. ExpandAnswers text bytes status) a.answer) fault
  of_text files (lasso spec word) bytes status code place fault a =
      let h = of_told files spec (λ text. HoldsOfFile (Some files) word (λ lines. LassoAnswers text lines bytes status)) a.answer in
      truths.of_fault (bytes_under files spec) h.bytes bytes status code place h.holds fault
  of_text files (expand_solve spec kind nodes) bytes status code place fault a =
      solved_expansions.of_fault (bytes_under files spec) kind nodes bytes status code place
      (of_told files spec (λ text. ExpandSolveAnswers text kind nodes bytes status) a.answer) fault
  of_text files (lasso_solve spec word kind) bytes status code place fault a =
      let h = of_told files spec (λ text. HoldsOfFile (Some files) word (λ lines. LassoSolveAnswers text kind lines bytes status)) a.answer in
      solved_truths.of_fault (bytes_under files spec) kind h.bytes bytes status code place h.holds fault
  of_text files (gen clients) bytes status code place fault a = absurd fault
  of_text files (bench clients workers) bytes status code place fault a = absurd fault
  of_text files (verify side kind spec circuit) bytes status code place fault a =
      let h = of_told files spec (λ text. HoldsOfFile (Some files) circuit (λ lines. CircuitAnswers side text kind lines bytes status)) a.answer in
      verify_fault side (bytes_under files spec) kind (bytes_under files circuit) bytes status code place
      (of_told files circuit (λ lines. CircuitAnswers side (bytes_under files spec) kind lines bytes status) h) fault
  of_text files (core spec wanted kind) bytes status code place fault a =
      core_fault problems flats faults (bytes_under files spec) kind wanted bytes status code place
      (of_told files spec (λ text. CoreAnswers text kind wanted bytes status) a.answer) fault
  of_text files (batch list wanted) bytes status code place fault a = absurd fault
  of_text files (solve spec kind refutations) bytes status code place fault a =
      solve_fault solvings (bytes_under files spec) kind (limits_by refutations) bytes status code place
      (of_told files spec (λ text. SolveAnswers text kind (limits_by refutations) bytes status) a.answer) fault

  -- the fault for which a text is refused is the one that it has as `synth` takes it
  check_alike : (text document : List ℕ) (code code' : SpecCode) (place place' : ℕ) → IsCheckFault text document code place →
      IsFirstFault text (Some Mealy) code' place' → (code ≡ code') × (place ≡ place')
  check_alike text document code code' place place' (faults_of_check.of_text _ _ fault untested) own = problems.one_fault text (Some Mealy) code code' place place' fault own

  verify_alike : (side : Side) (text : List ℕ) (kind : Option Kind) (circuit : List ℕ) (code code' : SpecCode) (place place' : ℕ)
      → IsVerifyFault side text kind circuit code place → IsSynthFault side text kind code' place' → (code ≡ code') × (place ≡ place')
  verify_alike System text kind circuit code code' place place' fault own = problems.one_fault text kind code code' place place' fault.fault own
  verify_alike Environment text kind circuit code code' place place' fault own = absurd own

  one_synth : (side : Side) (text : List ℕ) (kind : Option Kind) (code code' : SpecCode) (place place' : ℕ) → IsSynthFault side text kind code place
      → IsSynthFault side text kind code' place' → (code ≡ code') × (place ≡ place')
  one_synth System text kind code code' place place' fault other = problems.one_fault text kind code code' place place' fault other
  one_synth Environment text kind code code' place place' fault other = absurd fault

  of_unread : (files : Files) (asked : Asked) (code code' : SpecCode) (place place' : ℕ) → HasFault files asked code place →
      HasSynthFault (Some files) asked code' place' → (code ≡ code') × (place ≡ place')
  of_unread files (synth spec wanted kind) code code' place place' fault own = absurd own
  of_unread files (check spec document) code code' place place' fault own =
      check_alike (bytes_under files spec) (bytes_under files document) code code' place place' fault
      (of_told files spec (λ text. IsFirstFault text (Some Mealy) code' place') own)
  of_unread files (expand spec) code code' place place' fault own = absurd own
  of_unread files (expand_solve spec kind nodes) code code' place place' fault own = absurd own
  of_unread files (lasso spec word) code code' place place' fault own = absurd own
  of_unread files (lasso_solve spec word kind) code code' place place' fault own = absurd own
  of_unread files (gen clients) code code' place place' fault own = absurd own
  of_unread files (bench clients workers) code code' place place' fault own = absurd own
  of_unread files (verify side kind spec circuit) code code' place place' fault own =
      verify_alike side (bytes_under files spec) kind (bytes_under files circuit) code code' place place' fault
      (of_told files spec (λ text. IsSynthFault side text kind code' place') own)
  of_unread files (core spec wanted kind) code code' place place' fault own = absurd own
  of_unread files (batch list wanted) code code' place place' fault own = absurd own
  of_unread files (solve spec kind refutations) code code' place place' fault own = absurd own

  one_unread : (files : Files) (asked : Asked) (code code' : SpecCode) (place place' : ℕ) → HasSynthFault (Some files) asked code place →
      HasSynthFault (Some files) asked code' place' → (code ≡ code') × (place ≡ place')
  one_unread files (synth spec wanted kind) code code' place place' fault own = absurd own
  one_unread files (check spec document) code code' place place' fault own =
      problems.one_fault (bytes_under files spec) (Some Mealy) code code' place place'
      (of_told files spec (λ text. IsFirstFault text (Some Mealy) code place) fault) (of_told files spec (λ text. IsFirstFault text (Some Mealy) code' place') own)
  one_unread files (expand spec) code code' place place' fault own = absurd own
  one_unread files (expand_solve spec kind nodes) code code' place place' fault own = absurd own
  one_unread files (lasso spec word) code code' place place' fault own = absurd own
  one_unread files (lasso_solve spec word kind) code code' place place' fault own = absurd own
  one_unread files (gen clients) code code' place place' fault own = absurd own
  one_unread files (bench clients workers) code code' place place' fault own = absurd own
  one_unread files (verify side kind spec circuit) code code' place place' fault own =
      one_synth side (bytes_under files spec) kind code code' place place'
      (of_told files spec (λ text. IsSynthFault side text kind code place) fault) (of_told files spec (λ text. IsSynthFault side text kind code' place') own)
  one_unread files (core spec wanted kind) code code' place place' fault own = absurd own
  one_unread files (batch list wanted) code code' place place' fault own = absurd own
  one_unread files (solve spec kind refutations) code code' place place' fault own = absurd own

  of_line : (files : Files) (asked : Asked) (bytes : List ℕ) (status n : ℕ) → HasBadLine files asked n →
      AnswersAsked (Some files) asked bytes status → (status ≡ 40) × (bytes ≡ line_refusal n)
  of_line files (synth spec wanted kind) bytes status n bad a = absurd bad
  of_line files (check spec document) bytes status n bad a =
      let h = of_told files spec (λ text. HoldsOfFile (Some files) document (λ lines. CheckAnswers text lines bytes status)) a.answer in
      bad_certificate (bytes_under files spec) (bytes_under files document) bytes status n
      (of_told files document (λ lines. CheckAnswers (bytes_under files spec) lines bytes status) h) bad
  of_line files (expand spec) bytes status n bad a = absurd bad
  of_line files (lasso spec word) bytes status n bad a =
      let h = of_told files spec (λ text. HoldsOfFile (Some files) word (λ lines. LassoAnswers text lines bytes status)) a.answer in
      truths.of_bad_line (bytes_under files spec) (bytes_under files word) bytes status bad.flat n
      (of_told files word (λ lines. LassoAnswers (bytes_under files spec) lines bytes status) h) bad.is_flat bad.bad
  of_line files (expand_solve spec kind nodes) bytes status n bad a = absurd bad
  of_line files (lasso_solve spec word kind) bytes status n bad a =
      let h = of_told files spec (λ text. HoldsOfFile (Some files) word (λ lines. LassoSolveAnswers text kind lines bytes status)) a.answer in
      solved_truths.of_bad_line (bytes_under files spec) kind (bytes_under files word) bytes status bad.known n
      (of_told files word (λ lines. LassoSolveAnswers (bytes_under files spec) kind lines bytes status) h) bad.is bad.bad
  of_line files (gen clients) bytes status n bad a = absurd bad
  of_line files (bench clients workers) bytes status n bad a = absurd bad
  of_line files (verify side kind spec circuit) bytes status n bad a =
      let h = of_told files spec (λ text. HoldsOfFile (Some files) circuit (λ lines. CircuitAnswers side text kind lines bytes status)) a.answer in
      bad_circuit side (bytes_under files spec) kind (bytes_under files circuit) bytes status n
      (of_told files circuit (λ lines. CircuitAnswers side (bytes_under files spec) kind lines bytes status) h) bad
  of_line files (core spec wanted kind) bytes status n bad a = absurd bad
  of_line files (batch list wanted) bytes status n bad a =
      bad_list lists (Some files) (bytes_under files list) wanted bytes status n
      (of_told files list (λ lines. ListAnswers (Some files) lines wanted bytes status) a.answer) bad
  of_line files (solve spec kind refutations) bytes status n bad a = absurd bad

  pub determined : RefusalsAreDetermined
  determined = record { of_text = of_text; of_line = of_line; of_unread = of_unread; one_unread = one_unread }
