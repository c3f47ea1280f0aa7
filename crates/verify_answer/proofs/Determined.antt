-- A text and a file have one answer.
use Rattle.std.proofs.Common.{◌≡◌, ℕ, ◌⊎◌, inl, inr, Option, List, ap, subst, ◌∙◌}
use Rattle.letters_and_lassos.specs.declared.kinds.Kind.{Kind}
use Rattle.letters_and_lassos.specs.declared.kinds.Side.{Side}
use Rattle.letters_and_lassos.specs.declared.kinds.Side.TheVariants.{System, Environment}
use Rattle.machine_model.specs.declared.counting.Counts.TheVariants.{Whole}
use Rattle.spec_faults.specs.declared.code.SpecCode.{SpecCode}
use Rattle.tlsf_expand.specs.FlatText.{FlatText}
use Rattle.spec_problems.specs.Laws.{AreSameProblems, ProblemsOfTextsAreDetermined}
use Rattle.spec_problems.specs.OfText.{IsFirstFault}
use Rattle.aiger_text.specs.CircuitFile.{File}
use Rattle.aiger_text.specs.FileLaws.{FaultsStateNothing, FilesHaveOneFault, FilesStateOneThing}
use Rattle.annot_check.specs.Pairs.{Listed}
use Rattle.annot_check.specs.Stated.{ReadingsAreApart}
use Rattle.named_annotation.specs.NamedStates.{Named}
use Rattle.program_replies.specs.Lines.{line_refusal, refusal_line}
use Rattle.text_ground.specs.Ground.{given_by}
use Rattle.solve_ground.specs.Laws.{IsSameText, SolveTextsAreDetermined}
use Rattle.solve_ground.specs.SolveText.{IsSolveFault}
use Rattle.circuit_check.specs.Duty.{Owed}
use Rattle.circuit_check.specs.FirstBad as circuits
use Rattle.circuit_check.specs.Forms.{NamesStates}
use Rattle.circuit_check.specs.Laws.{FirstBadLinesAreDetermined}
use Rattle.verify_answer.specs.Answer.{EnvironmentAnswers, GivenToTest, GivenToVerify, IsUntested, TestAnswers, VerifyAnswers, bad_line, facts_to_verify, line_fails, of_states, of_text, owed_to, refused, refused_by_solve, shown, tested_line, text_refused, verified, verified_line, without_states}
use Rattle.verify_answer.specs.FirstBad.{Annotates, IsFirstBadOfCircuit, IsValidFor}
use Rattle.verify_answer.specs.Laws.{EnvironmentsAreDetermined, VerificationsAreDetermined}
use Rattle.verify_answer.proofs.FirstBadLemmas.{first_moved, one_line, valid_has_none}
use Rattle.verify_answer.proofs.SolveTexts.{owed_same}

-- == the test of an annotation that names its states ==

module _ (lines : FirstBadLinesAreDetermined) (solving : SolveTextsAreDetermined) where
  same_of : (text : List ℕ) (given : Option Kind) (g h : GivenToTest text given) → IsSameText g.known h.known
  same_of text given g h = solving.one_text text given g.known h.known g.is_text h.is_text

  bad_there : (side : Side) (text : List ℕ) (given : Option Kind) (circuit : List ℕ) (g h : GivenToTest text given) (n : ℕ) → circuits.IsFirstBad (owed_to g.known side) circuit n
      → circuits.IsFirstBad (owed_to h.known side) circuit n
  bad_there side text given circuit g h n first = subst (λ (o : Owed). circuits.IsFirstBad o circuit n) (owed_same g.known h.known (same_of text given g h) side) first

  test_line : (side : Side) (text : List ℕ) (given : Option Kind) (circuit bytes : List ℕ) (status : ℕ) (g h : GivenToTest text given) (n : ℕ) → TestAnswers side text given circuit g.known bytes status
      → circuits.IsFirstBad (owed_to h.known side) circuit n → (status ≡ 40) × (bytes ≡ line_refusal n)
  test_line side text given circuit bytes status g h n (line_fails m ended other line) first =
      let same : m ≡ n = lines.one_line (owed_to g.known side) circuit m n other (bad_there side text given circuit h g n first) in
      (ended, line ∙ ap line_refusal same)
  test_line side text given circuit bytes status g h n (shown ended is line) first =
      absurd (lines.valid_has_none (owed_to g.known side) circuit is.file is.named n is.annotates is.valid (bad_there side text given circuit h g n first))

  test_shown : (side : Side) (text : List ℕ) (given : Option Kind) (circuit bytes : List ℕ) (status : ℕ) (g h : GivenToTest text given) (file : File) (named : Named)
      → TestAnswers side text given circuit g.known bytes status → circuits.Annotates (owed_to h.known side) circuit file named
      → circuits.IsValidFor (owed_to h.known side) file named → (status ≡ 0) × (bytes ≡ tested_line side h.known.kind h.known.semantics)
  test_shown side text given circuit bytes status g h file named (line_fails m ended other line) annotates valid =
      absurd (lines.valid_has_none (owed_to h.known side) circuit file named m annotates valid (bad_there side text given circuit g h m other))
  test_shown side text given circuit bytes status g h file named (shown ended is line) annotates valid =
      let same = same_of text given g h in
      (ended, line ∙ (λ i. tested_line side (same.kind i) (same.semantics i)))

  test_status : (side : Side) (text : List ℕ) (given : Option Kind) (circuit bytes : List ℕ) (status : ℕ) (g : GivenToTest text given) → TestAnswers side text given circuit g.known bytes status
      → (status ≡ 0) ⊎ ((status ≡ 1) ⊎ (status ≡ 40))
  test_status side text given circuit bytes status g (line_fails m ended other line) = inr (inr ended)
  test_status side text given circuit bytes status g (shown ended is line) = inl ended

  -- a text that is taken has no fault so
  taken_without : (text : List ℕ) (given : Option Kind) (g : GivenToTest text given) (code : SpecCode) (position : ℕ) → IsSolveFault text given code position → ⊥
  taken_without text given g code position fault = solving.no_fault text given g.known code position g.is_text fault

  -- == circuits that play the environment ==

  counter_fault : (text : List ℕ) (given : Option Kind) (circuit bytes : List ℕ) (status : ℕ) (code : SpecCode) (position : ℕ) → EnvironmentAnswers text given circuit bytes status
      → IsSolveFault text given code position → (status ≡ 1) × (bytes ≡ refusal_line code position)
  counter_fault text given circuit bytes status code position (text_refused c p ended first line) fault =
      let same = solving.one_fault text given c code p position first fault in
      (ended, line ∙ (λ i. refusal_line (same.0 i) (same.1 i)))
  counter_fault text given circuit bytes status code position (of_text g is) fault = absurd (taken_without text given g code position fault)

  counter_line : (text : List ℕ) (given : Option Kind) (circuit bytes : List ℕ) (status : ℕ) (g : GivenToTest text given) (n : ℕ) → EnvironmentAnswers text given circuit bytes status
      → circuits.IsFirstBad (owed_to g.known Environment) circuit n → (status ≡ 40) × (bytes ≡ line_refusal n)
  counter_line text given circuit bytes status g n (text_refused c p ended fault line) first = absurd (taken_without text given g c p fault)
  counter_line text given circuit bytes status g n (of_text h is) first = test_line Environment text given circuit bytes status h g n is first

  counter_shown : (text : List ℕ) (given : Option Kind) (circuit bytes : List ℕ) (status : ℕ) (g : GivenToTest text given) (file : File) (named : Named) → EnvironmentAnswers text given circuit bytes status
      → circuits.Annotates (owed_to g.known Environment) circuit file named → circuits.IsValidFor (owed_to g.known Environment) file named
      → (status ≡ 0) × (bytes ≡ tested_line Environment g.known.kind g.known.semantics)
  counter_shown text given circuit bytes status g file named (text_refused c p ended fault line) annotates valid = absurd (taken_without text given g c p fault)
  counter_shown text given circuit bytes status g file named (of_text h is) annotates valid =
      test_shown Environment text given circuit bytes status h g file named is annotates valid

  counter_status : (text : List ℕ) (given : Option Kind) (circuit bytes : List ℕ) (status : ℕ) → EnvironmentAnswers text given circuit bytes status → (status ≡ 0) ⊎ ((status ≡ 1) ⊎ (status ≡ 40))
  counter_status text given circuit bytes status (text_refused c p ended fault line) = inr (inl ended)
  counter_status text given circuit bytes status (of_text g is) = test_status Environment text given circuit bytes status g is

  pub environments : EnvironmentsAreDetermined
  environments = record { of_fault = counter_fault; of_bad_line = counter_line; of_annotation = counter_shown; statuses = counter_status }

-- == circuits that play the system ==

module _ (texts : ProblemsOfTextsAreDetermined) (one_thing : FilesStateOneThing) (one_fault : FilesHaveOneFault) (nothing : FaultsStateNothing) (readings : ReadingsAreApart)
    (lines : FirstBadLinesAreDetermined) (solving : SolveTextsAreDetermined) where
  same_problems : (text : List ℕ) (given : Option Kind) (g h : GivenToVerify text given) → AreSameProblems g.problems h.problems
  same_problems text given g h = texts.one text given Whole g.spec h.spec g.problems h.problems g.are_problems h.are_problems

  one_text : (text : List ℕ) (given : Option Kind) (g h : GivenToVerify text given) → g.spec ≡ h.spec
  one_text text given g h = texts.one_text text given Whole g.spec h.spec g.problems h.problems g.are_problems h.are_problems

  -- what is bad for one form of the text is so for the other
  moved : (text : List ℕ) (given : Option Kind) (circuit : List ℕ) (g h : GivenToVerify text given) (n : ℕ) → IsFirstBadOfCircuit (facts_to_verify g) circuit n → IsFirstBadOfCircuit (facts_to_verify h) circuit n
  moved text given circuit g h n first =
      let same = (same_problems text given g h).of_system in
      subst (λ (x : FlatText). IsFirstBadOfCircuit (given_by x h.problems) circuit n) (one_text text given g h)
      (first_moved g.spec.expanded.inputs g.spec.expanded.outputs g.problems.system h.problems.system g.problems.environment h.problems.environment
      same.kind same.automaton circuit n first)

  without_fault : (text : List ℕ) (given : Option Kind) (g : GivenToVerify text given) (code : SpecCode) (position : ℕ) → IsFirstFault text given code position → ⊥
  without_fault text given g code position fault = texts.no_fault text given Whole g.spec g.problems code position g.are_problems fault

  -- a fault that is answered isn't one of a circuit that is tested
  not_tested : (text : List ℕ) (given : Option Kind) (circuit : List ℕ) (g : GivenToTest text given) → NamesStates circuit → IsUntested text given circuit → ⊥
  not_tested text given circuit g names (without_states unnamed) = unnamed names
  not_tested text given circuit g names (refused_by_solve code position fault) = taken_without lines solving text given g code position fault

  of_fault : (text : List ℕ) (given : Option Kind) (circuit bytes : List ℕ) (status : ℕ) (code : SpecCode) (position : ℕ) → VerifyAnswers text given circuit bytes status
      → IsFirstFault text given code position → IsUntested text given circuit → (status ≡ 1) × (bytes ≡ refusal_line code position)
  of_fault text given circuit bytes status code position (refused c p ended first why line) fault untested =
      let same = texts.one_fault text given c code p position first fault in
      (ended, line ∙ (λ i. refusal_line (same.0 i) (same.1 i)))
  of_fault text given circuit bytes status code position (bad_line g n ended unnamed first line) fault untested = absurd (without_fault text given g code position fault)
  of_fault text given circuit bytes status code position (verified g ended unnamed is line) fault untested = absurd (without_fault text given g code position fault)
  of_fault text given circuit bytes status code position (of_states g names is) fault untested = absurd (not_tested text given circuit g names untested)

  of_bad_line : (text : List ℕ) (given : Option Kind) (circuit bytes : List ℕ) (status : ℕ) (g : GivenToVerify text given) (n : ℕ) → VerifyAnswers text given circuit bytes status
      → (NamesStates circuit → ⊥) → IsFirstBadOfCircuit (facts_to_verify g) circuit n → (status ≡ 40) × (bytes ≡ line_refusal n)
  of_bad_line text given circuit bytes status g n (refused c p ended fault why line) none first = absurd (without_fault text given g c p fault)
  of_bad_line text given circuit bytes status g n (bad_line h m ended unnamed other line) none first =
      let same : m ≡ n = one_line one_thing one_fault nothing readings (facts_to_verify g) circuit m n (moved text given circuit h g m other) first in
      (ended, line ∙ ap line_refusal same)
  of_bad_line text given circuit bytes status g n (verified h ended unnamed is line) none first =
      absurd (valid_has_none one_thing one_fault nothing readings (facts_to_verify h) circuit is.file is.list n is.annotates is.valid (moved text given circuit g h n first))
  of_bad_line text given circuit bytes status g n (of_states h names is) none first = absurd (none names)

  of_annotation : (text : List ℕ) (given : Option Kind) (circuit bytes : List ℕ) (status : ℕ) (g : GivenToVerify text given) (file : File) (list : Listed) → VerifyAnswers text given circuit bytes status
      → (NamesStates circuit → ⊥) → Annotates (facts_to_verify g) circuit file list → IsValidFor (facts_to_verify g) file list
      → (status ≡ 0) × (bytes ≡ verified_line (facts_to_verify g).system.kind)
  of_annotation text given circuit bytes status g file list (refused c p ended fault why line) none annotates valid = absurd (without_fault text given g c p fault)
  of_annotation text given circuit bytes status g file list (bad_line h n ended unnamed first line) none annotates valid =
      absurd (valid_has_none one_thing one_fault nothing readings (facts_to_verify g) circuit file list n annotates valid (moved text given circuit h g n first))
  of_annotation text given circuit bytes status g file list (verified h ended unnamed is line) none annotates valid =
      (ended, line ∙ ap verified_line (same_problems text given h g).of_system.kind)
  of_annotation text given circuit bytes status g file list (of_states h names is) none annotates valid = absurd (none names)

  of_line_with_states : (text : List ℕ) (given : Option Kind) (circuit bytes : List ℕ) (status : ℕ) (g : GivenToTest text given) (n : ℕ) → VerifyAnswers text given circuit bytes status
      → NamesStates circuit → circuits.IsFirstBad (owed_to g.known System) circuit n → (status ≡ 40) × (bytes ≡ line_refusal n)
  of_line_with_states text given circuit bytes status g n (refused c p ended fault why line) names first = absurd (not_tested text given circuit g names why)
  of_line_with_states text given circuit bytes status g n (bad_line h m ended unnamed other line) names first = absurd (unnamed names)
  of_line_with_states text given circuit bytes status g n (verified h ended unnamed is line) names first = absurd (unnamed names)
  of_line_with_states text given circuit bytes status g n (of_states h named is) names first =
      test_line lines solving System text given circuit bytes status h g n is first

  shown_with_states : (text : List ℕ) (given : Option Kind) (circuit bytes : List ℕ) (status : ℕ) (g : GivenToTest text given) (file : File) (named : Named) → VerifyAnswers text given circuit bytes status
      → NamesStates circuit → circuits.Annotates (owed_to g.known System) circuit file named → circuits.IsValidFor (owed_to g.known System) file named
      → (status ≡ 0) × (bytes ≡ tested_line System g.known.kind g.known.semantics)
  shown_with_states text given circuit bytes status g file named (refused c p ended fault why line) names annotates valid = absurd (not_tested text given circuit g names why)
  shown_with_states text given circuit bytes status g file named (bad_line h m ended unnamed other line) names annotates valid = absurd (unnamed names)
  shown_with_states text given circuit bytes status g file named (verified h ended unnamed is line) names annotates valid = absurd (unnamed names)
  shown_with_states text given circuit bytes status g file named (of_states h its is) names annotates valid =
      test_shown lines solving System text given circuit bytes status h g file named is annotates valid

  statuses : (text : List ℕ) (given : Option Kind) (circuit bytes : List ℕ) (status : ℕ) → VerifyAnswers text given circuit bytes status → (status ≡ 0) ⊎ ((status ≡ 1) ⊎ (status ≡ 40))
  statuses text given circuit bytes status (refused c p ended first why line) = inr (inl ended)
  statuses text given circuit bytes status (bad_line g n ended unnamed first line) = inr (inr ended)
  statuses text given circuit bytes status (verified g ended unnamed is line) = inl ended
  statuses text given circuit bytes status (of_states g names is) = test_status lines solving System text given circuit bytes status g is

  pub determined : VerificationsAreDetermined
  determined = record {
    of_fault = of_fault;
    of_bad_line = of_bad_line;
    of_annotation = of_annotation;
    of_line_with_states = of_line_with_states;
    of_states = shown_with_states;
    statuses = statuses;
  }
