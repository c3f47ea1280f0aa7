-- Of a document that holds no line fails, and it has no first bad line.
use Rattle.std.proofs.Common.{◌≡◌, ℕ, ◌+◌, Bool, true, false, cond, Option, Some, None, Ok, List, [], ◌∷◌, length, drop, refl, sym, ap, subst, ◌∙◌}
use Rattle.std.specs.Prelude.{All, MatchOption, is_some, option_and_then, option_map}
use Rattle.std.specs.Option.{option_map_or}
use Rattle.std.proofs.lemmas.List.Elements.{All-head, All-tail}
use Rattle.std_lemmas.proofs.Options.{some_same}
use Rattle.letters_and_lassos.specs.declared.kinds.Kind.{Kind}
use Rattle.letters_and_lassos.specs.declared.kinds.Side.{Side}
use Rattle.letters_and_lassos.specs.declared.kinds.Side.TheVariants.{System, Environment}
use Rattle.aiger_text.specs.Circuit.{Circuit}
use Rattle.aiger_text.specs.CircuitFile.{File}
use Rattle.annot_check.specs.declared.faults.AnnotFault.{AnnotFault}
use Rattle.annot_check.specs.declared.faults.AnnotFault.TheVariants.{NoMemory}
use Rattle.annot_check.proofs.Apart.{causes_are_apart}
use Rattle.document_text.specs.declared.reading.CircuitPart.{CircuitPart}
use Rattle.document_text.specs.declared.reading.CircuitPart.TheVariants.{Absent, Faulty, Stated}
use Rattle.document_text.specs.Reading.{circuit_in}
use Rattle.circuit_names.specs.Lines.{stated_line}
use Rattle.named_annotation.specs.Laws.{IsValidNamed}
use Rattle.named_annotation.specs.NamedStates.{Named}
use Rattle.named_annotation.specs.NamedText.{named_reading}
use Rattle.size_refutations.specs.Ground.{LogGround}
use Rattle.size_refutations.specs.Holds.{LogHolds}
use Rattle.size_refutations.specs.Laws.{LogsAreDetermined}
use Rattle.solve_ground.specs.declared.texts.SolveText.{SolveText}
use Rattle.solved_text.specs.declared.annotation.AnnotationPlace.{AnnotationPlace}
use Rattle.solved_text.specs.declared.documents.Verdict.{Verdict}
use Rattle.solved_text.specs.declared.documents.Verdict.TheVariants.{Realizable, Unrealizable, Unknown}
use Rattle.solved_text.specs.declared.header.Header.{Header}
use Rattle.solved_text.specs.Annotation.{has_head}
use Rattle.solved_text.specs.Header.{has_its_place}
use Rattle.solved_text.specs.Laws.{SolvedAreDetermined}
use Rattle.solved_text.specs.Parts.{Document, SizeLog}
use Rattle.solved_text.specs.Reading.{Reads, ReadsBehind, SolvedLines, annotation_in, commented, named, of_fault, uncommented, unnamed, without_circuit}
use Rattle.solved_text.specs.States.{IsShown, IsShownBy, States}
use Rattle.solve_check.specs.Given.{form_for, is_taken_so, kind_for, names_in}
use Rattle.solve_check.specs.SizeLogs.{LogsFail, ground_for, none_fails, one_good}
use Rattle.solve_check.specs.FirstBad.{Annotated, Counted, HasAnnotation, IsCauseFor, IsFirstBadSolved, LinesFail, NumberFails, NumberFailsIn, annotated_in, annotation_line, circuit_line, circuit_side, counted_in, file_in, of_line, of_pairs, reading_in, refused_line, right, side_in, states_told, taken_line}
use Rattle.circuit_names.specs.Names.{HasNames}
use Rattle.solve_check.specs.Holds.{HasCircuit, HasWhatIsSaid, HoldsSolved}
use Rattle.solve_check.proofs.Determined.{fails_one, named_or}
use Rattle.solve_check.proofs.Held.{HasFile, IsDocumentOf, document_is, file_of, place_of}
use Rattle.circuit_names.proofs.Fitting.{names_pass, none_earliest}

behind_not_faulty : (bytes : List ℕ) (file : File) (comment : List ℕ) (lines : SolvedLines) → ReadsBehind bytes file comment lines → lines.circuit ≡ Faulty → ⊥
behind_not_faulty bytes file comment lines (unnamed e) is = absurd (cc)
behind_not_faulty bytes file comment lines (named body e reads) is = absurd (cc)

-- no line fails, and what the annotation names and lists is valid
record Passes (t : SolveText) (bytes : List ℕ) (lines : SolvedLines) : Type 0 where
  fails : LinesFail t bytes lines None
  annotation : (a : Annotated) (p : Named) → HasAnnotation t bytes lines a p → IsValidNamed a.side a.file.circuit (kind_for t a.side) p

-- a circuit with a fault has a bad line
not_faulty : (bytes : List ℕ) (lines : SolvedLines) → Reads bytes lines → lines.bad ≡ None → lines.circuit ≡ Faulty → ⊥
not_faulty bytes lines (without_circuit body e reads) good is = absurd (cc)
not_faulty bytes lines (of_fault fault e first) good is = absurd (cc)
not_faulty bytes lines (uncommented file e states none) good is = absurd (cc)
not_faulty bytes lines (commented file at l e states some behind) good is = behind_not_faulty bytes file (drop at bytes) l behind is

no_line : (t : SolveText) (bytes : List ℕ) (header : Header) (part : CircuitPart) → circuit_in part ≡ None → (part ≡ Faulty → ⊥) → circuit_line t bytes header part ≡ None
no_line t bytes header Absent none never = refl
no_line t bytes header Faulty none never = absurd (never refl)
no_line t bytes header (Stated file) none never = absurd (cc)

no_file : (part : CircuitPart) → circuit_in part ≡ None → file_in part ≡ None
no_file Absent none = refl
no_file Faulty none = refl
no_file (Stated file) none = absurd (cc)

no_circuit : (o : Option Circuit) → cond (is_some o) false true ≡ true → o ≡ None
no_circuit None there = refl
no_circuit (Some c) there = absurd (cc)

cond_same : (b : Bool) (o : Option ℕ) → o ≡ None → cond b None o ≡ None
cond_same true o none = refl
cond_same false o none = none

logs_pass : LogsAreDetermined → (g : LogGround) (logs : List SizeLog) → All (LogHolds g) logs → LogsFail g logs None
logs_pass law g [] all = none_fails
logs_pass law g (l ∷ logs) all =
    one_good l logs None ((law.holding g l).1 (All-head (LogHolds g) l logs all)) (logs_pass law g logs (All-tail (LogHolds g) l logs all))

module _ (law : LogsAreDetermined) (t : SolveText) (bytes : List ℕ) (lines : SolvedLines) (d : Document) (is : IsDocumentOf bytes lines d) (reads : Reads bytes lines) (good : lines.bad ≡ None)
    (states : States bytes d) (holds : HoldsSolved t d) where
  taken_none : taken_line t lines ≡ None
  taken_none =
      let line : ℕ = lines.verdict_line + 1 + cond lines.header.converted 1 0 in
      ap (λ (o : Option Kind). option_and_then (λ kind. cond (is_taken_so t kind lines.header.converted) None (Some line)) o) is.kind
      ∙ ap (λ b. cond b None (Some line)) (ap (is_taken_so t d.kind) is.converted ∙ holds.taken)

  side_is : side_in lines.header ≡ circuit_side d.verdict
  side_is = ap (λ (o : Option Verdict). option_map_or circuit_side o System) is.verdict

  pass : circuit_line t bytes lines.header lines.circuit ≡ None → NumberFailsIn lines None → annotation_line t bytes lines ≡ None
      → LogsFail (ground_for t (side_in lines.header)) lines.logs None → LinesFail t bytes lines None
  pass circuit number annotation logs = record {
    number = None;
    number_fails = number;
    logs = None;
    logs_fail = logs;
    first_is = sym (none_earliest (circuit_line t bytes lines.header lines.circuit) _ circuit (none_earliest lines.bad _ good
        (none_earliest (taken_line t lines) _ taken_none (none_earliest (annotation_line t bytes lines) None annotation refl))));
  }

  module _ (e : d.verdict ≡ Unknown) where
    none_there : circuit_in lines.circuit ≡ None
    none_there = is.circuit ∙ no_circuit d.circuit (ap (has_its_place (is_some d.circuit)) (sym e) ∙ states.well_formed.circuit)

    none_annotated : annotated_in lines ≡ None
    none_annotated = ap (λ (o : Option File). option_and_then (λ file. option_map (λ (p : AnnotationPlace). let x : Annotated = record { file = file; side = side_in lines.header; place = p } in x) lines.annotation) o)
        (no_file lines.circuit none_there)

    unknown_passes : LinesFail t bytes lines None
    unknown_passes =
        let told : option_and_then states_told lines.header.verdict ≡ None = ap (option_and_then states_told) (is.verdict ∙ ap (λ (v : Verdict). Some v) e) in
        let counted : counted_in lines ≡ None =
        ap (λ (o : Option ℕ). option_and_then (λ states. option_map (λ c. let x : Counted = record { circuit = c; states = states } in x) (circuit_in lines.circuit)) o) told in
        let logs : lines.logs ≡ [] = is.logs ∙ (subst (λ (v : Verdict). IsShownBy v d.logs d.annotation) e states.well_formed.shown).0 in
        pass (no_line t bytes lines.header lines.circuit none_there (not_faulty bytes lines reads good))
        (subst (λ (q : Option Counted). MatchOption q (◌≡◌ {A = Option ℕ} None None) (λ c. NumberFails c.circuit c.states lines.verdict_line None)) (sym counted) refl)
        (cond_same (is_some (circuit_line t bytes lines.header lines.circuit)) _ (ap (option_and_then (λ a. refused_line a (reading_in t bytes a))) none_annotated))
        (subst (λ (ls : List SizeLog). LogsFail (ground_for t (side_in lines.header)) ls None) (sym logs) none_fails)

  module _ (side : Side) (n : ℕ) (same_side : circuit_side d.verdict ≡ side) (told : states_told d.verdict ≡ Some n) (has : HasCircuit t side n d) (shown : IsShown n d.logs d.annotation) where
    abbrev f : HasFile lines.circuit has.circuit
    f = file_of lines.circuit has.circuit (is.circuit ∙ has.circuit_is)

    abbrev place : (place : AnnotationPlace) × (lines.annotation ≡ Some place)
    place = place_of bytes lines.annotation (ap has_head is.annotation ∙ shown.head)

    abbrev a : Annotated
    a = record { file = f.file; side = side_in lines.header; place = place.0 }

    s : side_in lines.header ≡ side
    s = side_is ∙ same_side

    annotated : annotated_in lines ≡ Some a
    annotated =
        ap (λ (part : CircuitPart). option_and_then (λ file. option_map (λ (p : AnnotationPlace). let x : Annotated = record { file = file; side = side_in lines.header; place = p } in x) lines.annotation) (file_in part)) f.part_is
        ∙ ap (λ (o : Option AnnotationPlace). option_map (λ (p : AnnotationPlace). let x : Annotated = record { file = f.file; side = side_in lines.header; place = p } in x) o) place.1

    annotation_is : drop place.0.at bytes ≡ d.annotation
    annotation_is = ap (annotation_in bytes) (sym place.1) ∙ is.annotation

    reading : reading_in t bytes a ≡ Ok has.annotation.named
    reading =
        ap (λ (x : Side). named_reading (length f.file.circuit.latches) (length f.file.circuit.inputs) t.formulas (form_for t x) (drop place.0.at bytes)) s
        ∙ ap (λ (c : Circuit). named_reading (length c.latches) (length c.inputs) t.formulas (form_for t side) (drop place.0.at bytes)) f.circuit_is
        ∙ ap (named_reading (length has.circuit.latches) (length has.circuit.inputs) t.formulas (form_for t side)) annotation_is
        ∙ has.annotation.stated

    valid : IsValidNamed a.side a.file.circuit (kind_for t a.side) has.annotation.named
    valid = subst (λ (x : Side). IsValidNamed x f.file.circuit (kind_for t x) has.annotation.named) (sym s)
        (subst (λ (c : Circuit). IsValidNamed side c (kind_for t side) has.annotation.named) (sym f.circuit_is) has.annotation.valid)

    counted : counted_in lines ≡ Some (record { circuit = has.circuit; states = n })
    counted =
        ap (λ (o : Option Verdict). option_and_then (λ states. option_map (λ c. let x : Counted = record { circuit = c; states = states } in x) (circuit_in lines.circuit)) (option_and_then states_told o)) is.verdict
        ∙ ap (λ (o : Option ℕ). option_and_then (λ states. option_map (λ c. let x : Counted = record { circuit = c; states = states } in x) (circuit_in lines.circuit)) o) told
        ∙ ap (λ (o : Option Circuit). option_map (λ c. let x : Counted = record { circuit = c; states = n } in x) o) (is.circuit ∙ has.circuit_is)

    circuit_none : circuit_line t bytes lines.header lines.circuit ≡ None
    circuit_none =
        ap (circuit_line t bytes lines.header) f.part_is ∙ ap (λ (x : Side). stated_line (names_in t) x f.file) s
        ∙ names_pass (names_in t) side f.file (subst (HasNames (names_in t) side) (sym f.circuit_is) has.names)

    passes : LinesFail t bytes lines None
    passes =
        pass circuit_none
        (subst (λ (q : Option Counted). MatchOption q (◌≡◌ {A = Option ℕ} None None) (λ c. NumberFails c.circuit c.states lines.verdict_line None)) (sym counted) (right has.counted has.states))
        (cond_same (is_some (circuit_line t bytes lines.header lines.circuit)) _
        (ap (option_and_then (λ x. refused_line x (reading_in t bytes x))) annotated ∙ ap (refused_line a) reading))
        (subst (λ (x : Side). LogsFail (ground_for t x) lines.logs None) (sym s)
        (subst (λ (ls : List SizeLog). LogsFail (ground_for t side) ls None) (sym is.logs) (logs_pass law (ground_for t side) d.logs has.logs)))

    its_annotation : (b : Annotated) (q : Named) → HasAnnotation t bytes lines b q → IsValidNamed b.side b.file.circuit (kind_for t b.side) q
    its_annotation b q got =
        let same : a ≡ b = some_same (annotated_in lines) a b annotated got.annotated in
        let read : has.annotation.named ≡ q = ap (named_or q) (sym reading ∙ ap (reading_in t bytes) same ∙ got.stated) in
        subst (λ (x : Annotated). IsValidNamed x.side x.file.circuit (kind_for t x.side) q) same
        (subst (λ (x : Named). IsValidNamed a.side a.file.circuit (kind_for t a.side) x) read valid)

    with_circuit : Passes t bytes lines
    with_circuit = record { fails = passes; annotation = its_annotation }

  without : d.verdict ≡ Unknown → (b : Annotated) (q : Named) → HasAnnotation t bytes lines b q → ⊥
  without e b q got = let none = none_annotated e in let some = got.annotated in absurd (cc)

  by_verdict : (v : Verdict) → d.verdict ≡ v → HasWhatIsSaid t d v → Passes t bytes lines
  by_verdict Unknown e said = record { fails = unknown_passes e; annotation = λ b q got. absurd (without e b q got) }
  by_verdict (Realizable n) e said =
      with_circuit System n (ap circuit_side e) (ap states_told e) said (subst (λ (v : Verdict). IsShownBy v d.logs d.annotation) e states.well_formed.shown)
  by_verdict (Unrealizable n) e said =
      with_circuit Environment n (ap circuit_side e) (ap states_told e) said (subst (λ (v : Verdict). IsShownBy v d.logs d.annotation) e states.well_formed.shown)

module _ (determined : SolvedAreDetermined) (law : LogsAreDetermined) (t : SolveText) (bytes : List ℕ) (d : Document) (states : States bytes d) (holds : HoldsSolved t d) where
  all_pass : (lines : SolvedLines) → Reads bytes lines → Passes t bytes lines
  all_pass lines reads =
      let whole = determined.all_good bytes lines d reads states in
      by_verdict law t bytes lines d (document_is bytes lines d whole.1) reads whole.0 states holds d.verdict refl holds.said

  no_cause : (lines : SolvedLines) (a : Annotated) (p : Named) (fault : AnnotFault) → Passes t bytes lines → HasAnnotation t bytes lines a p → (fault ≡ NoMemory → ⊥)
      → IsCauseFor t a p fault → ⊥
  no_cause lines a p fault passed has some cause =
      some ((causes_are_apart a.file.circuit).valid a.side (kind_for t a.side) p.automaton p.list.pairs fault (passed.annotation a p has) cause)

  no_bad : (lines : SolvedLines) (n : ℕ) → Passes t bytes lines → LinesFail t bytes lines (Some n) → ⊥
  no_bad lines n passed fails = let same : Some n ≡ None = fails_one law t bytes lines (Some n) None fails passed.fails in absurd (cc)

  pub holding_has_none : (n : ℕ) → IsFirstBadSolved t bytes n → ⊥
  holding_has_none _ (of_line lines n reads fails) = no_bad lines n (all_pass lines reads) fails
  holding_has_none _ (of_pairs lines a p fault reads none has some cause) = no_cause lines a p fault (all_pass lines reads) has some cause
