-- A document of whose lines none fails, and whose annotation is valid, holds.
use Rattle.std.proofs.Common.{◌≡◌, ℕ, ◌+◌, Bool, true, false, cond, Option, Some, None, List, [], ◌∷◌, length, drop, refl, sym, ap, subst, ◌∙◌, arith}
use Rattle.std.specs.Prelude.{All, IfSome, MatchOption, is_some, option_and_then, option_map, unwrap_or}
use Rattle.std.specs.Option.{option_map_or}
use Rattle.std.proofs.lemmas.List.Elements.{All-cons}
use Rattle.letters_and_lassos.specs.declared.kinds.Kind.{Kind}
use Rattle.letters_and_lassos.specs.declared.kinds.Side.{Side}
use Rattle.letters_and_lassos.specs.declared.kinds.Side.TheVariants.{System, Environment}
use Rattle.aiger_text.specs.Circuit.{Circuit, HasStates}
use Rattle.aiger_text.specs.CircuitFile.{File}
use Rattle.document_text.specs.declared.reading.CircuitPart.{CircuitPart}
use Rattle.document_text.specs.declared.reading.CircuitPart.TheVariants.{Absent, Faulty, Stated}
use Rattle.document_text.specs.Reading.{all_named, circuit_in}
use Rattle.circuit_names.specs.Lines.{earliest, stated_line}
use Rattle.size_refutations.specs.Ground.{LogGround}
use Rattle.size_refutations.specs.Holds.{LogHolds}
use Rattle.size_refutations.specs.Laws.{LogsAreDetermined}
use Rattle.solve_ground.specs.declared.texts.SolveText.{SolveText}
use Rattle.solved_text.specs.declared.annotation.AnnotationPlace.{AnnotationPlace}
use Rattle.solved_text.specs.declared.documents.Verdict.{Verdict}
use Rattle.solved_text.specs.declared.documents.Verdict.TheVariants.{Realizable, Unrealizable, Unknown}
use Rattle.solved_text.specs.Annotation.{has_head}
use Rattle.solved_text.specs.Header.{has_its_place}
use Rattle.solved_text.specs.Parts.{Document, SizeLog}
use Rattle.solved_text.specs.Reading.{SolvedLines, annotation_in, document_of}
use Rattle.solved_text.specs.States.{IsShown, IsShownBy, States}
use Rattle.solve_check.specs.Given.{is_taken_so, names_in}
use Rattle.solve_check.specs.SizeLogs.{LogsFail, ground_for, none_fails, one_fails, one_good}
use Rattle.solve_check.specs.FirstBad.{Annotated, Counted, LinesFail, NumberFails, annotated_in, annotation_line, circuit_line, circuit_side, counted_in, file_in, may_be_counted, side_in, states_told, taken_line, too_many, another, right}
use Rattle.circuit_names.specs.Names.{HasNames}
use Rattle.solve_check.specs.Holds.{HasCircuit, HasWhatIsSaid, HoldsSolved}
use Rattle.solve_check.specs.Parts.{IsClaimed}
use Rattle.solve_check.specs.Parts as parts
use Rattle.circuit_names.proofs.Fitting.{earliest_none, stated_names}

cond_none : (b : Bool) (n : ℕ) → cond b None (Some n) ≡ None → b ≡ true
cond_none true n none = refl
cond_none false n none = absurd (cc)

-- ---- the document that the lines state

pub record IsDocumentOf (bytes : List ℕ) (lines : SolvedLines) (d : Document) : Type 0 where
  pub verdict : lines.header.verdict ≡ Some d.verdict
  pub kind : lines.header.kind ≡ Some d.kind
  pub converted : lines.header.converted ≡ d.converted
  pub circuit : circuit_in lines.circuit ≡ d.circuit
  pub logs : lines.logs ≡ d.logs
  pub annotation : annotation_in bytes lines.annotation ≡ d.annotation

abbrev pub document_with : List ℕ → SolvedLines → Verdict → Kind → Document
document_with bytes lines verdict kind = record { verdict = verdict; kind = kind; converted = lines.header.converted; circuit = circuit_in lines.circuit; logs = lines.logs; annotation = annotation_in bytes lines.annotation }

document_by : (bytes : List ℕ) (lines : SolvedLines) (d : Document) (v : Option Verdict) (k : Option Kind) → lines.header.verdict ≡ v → lines.header.kind ≡ k
    → option_and_then (λ verdict. option_map (document_with bytes lines verdict) k) v ≡ Some d → IsDocumentOf bytes lines d
document_by bytes lines d None k e f is = absurd (cc)
document_by bytes lines d (Some verdict) None e f is = absurd (cc)
document_by bytes lines d (Some verdict) (Some kind) e f is =
    let same : document_with bytes lines verdict kind ≡ d = ap (λ (o : Option Document). unwrap_or o d) is in
    record {
      verdict = e ∙ ap (λ (x : Document). Some x.verdict) same;
      kind = f ∙ ap (λ (x : Document). Some x.kind) same;
      converted = ap (λ (x : Document). x.converted) same;
      circuit = ap (λ (x : Document). x.circuit) same;
      logs = ap (λ (x : Document). x.logs) same;
      annotation = ap (λ (x : Document). x.annotation) same;
    }

pub document_is : (bytes : List ℕ) (lines : SolvedLines) (d : Document) → document_of bytes lines ≡ Some d → IsDocumentOf bytes lines d
document_is bytes lines d is = document_by bytes lines d lines.header.verdict lines.header.kind refl refl is

-- ---- its parts

-- a circuit that the lines have is that of a file
pub record HasFile (part : CircuitPart) (c : Circuit) : Type 0 where
  pub file : File
  pub part_is : part ≡ Stated file
  pub circuit_is : file.circuit ≡ c

pub file_of : (part : CircuitPart) (c : Circuit) → circuit_in part ≡ Some c → HasFile part c
file_of Absent c is = absurd (cc)
file_of Faulty c is = absurd (cc)
file_of (Stated file) c is = record { file = file; part_is = refl; circuit_is = ap (λ (o : Option Circuit). unwrap_or o c) is }

-- an annotation with a head stands somewhere
pub place_of : (bytes : List ℕ) (o : Option AnnotationPlace) → has_head (annotation_in bytes o) ≡ true → (place : AnnotationPlace) × (o ≡ Some place)
place_of bytes None head = absurd (cc)
place_of bytes (Some place) head = (place, refl)

-- a verdict with a circuit has one
pub circuit_of : (o : Option Circuit) → cond (is_some o) true false ≡ true → (c : Circuit) × (o ≡ Some c)
circuit_of None there = absurd (cc)
circuit_of (Some c) there = (c, refl)

number_right : (c : Circuit) (n line : ℕ) (o : Option ℕ) → NumberFails c n line o → o ≡ None → (may_be_counted n (length c.inputs) ≡ true) × HasStates c n
number_right c n line o (too_many few) none = absurd (cc)
number_right c n line o (another few never) none = absurd (cc)
number_right c n line o (right few states) none = (few, states)

all_hold : LogsAreDetermined → (g : LogGround) (logs : List SizeLog) (o : Option ℕ) → LogsFail g logs o → o ≡ None → All (LogHolds g) logs
all_hold law g [] o none_fails none = λ k d few. absurd (omega (arith, few))
all_hold law g (l ∷ logs) o (one_fails m more n fails) none = absurd (cc)
all_hold law g (l ∷ logs) o (one_good m more first good rest) none =
    All-cons (LogHolds g) l logs ((law.holding g l).0 good) (all_hold law g logs o rest none)

-- ---- where no line fails, it holds

module _ (law : LogsAreDetermined) (t : SolveText) (bytes : List ℕ) (lines : SolvedLines) (d : Document) (is : IsDocumentOf bytes lines d) (fails : LinesFail t bytes lines None) where
  circuit_none : circuit_line t bytes lines.header lines.circuit ≡ None
  circuit_none = (earliest_none (circuit_line t bytes lines.header lines.circuit) _ (sym fails.first_is)).0

  behind_text : earliest fails.number (earliest (taken_line t lines) (earliest (annotation_line t bytes lines) fails.logs)) ≡ None
  behind_text = (earliest_none lines.bad _ (earliest_none (circuit_line t bytes lines.header lines.circuit) _ (sym fails.first_is)).1).1

  number_none : fails.number ≡ None
  number_none = (earliest_none fails.number _ behind_text).0

  behind_number : earliest (taken_line t lines) (earliest (annotation_line t bytes lines) fails.logs) ≡ None
  behind_number = (earliest_none fails.number _ behind_text).1

  logs_none : fails.logs ≡ None
  logs_none = (earliest_none (annotation_line t bytes lines) fails.logs (earliest_none (taken_line t lines) _ behind_number).1).1

  taken_none : taken_line t lines ≡ None
  taken_none = (earliest_none (taken_line t lines) _ behind_number).0

  taken : is_taken_so t d.kind d.converted ≡ true
  taken =
      let line : ℕ = lines.verdict_line + 1 + cond lines.header.converted 1 0 in
      let here : cond (is_taken_so t d.kind lines.header.converted) None (Some line) ≡ None =
      ap (λ (o : Option Kind). option_and_then (λ kind. cond (is_taken_so t kind lines.header.converted) None (Some line)) o) (sym is.kind) ∙ taken_none in
      ap (is_taken_so t d.kind) (sym is.converted) ∙ cond_none (is_taken_so t d.kind lines.header.converted) line here

  side_is : side_in lines.header ≡ circuit_side d.verdict
  side_is = ap (λ (o : Option Verdict). option_map_or circuit_side o System) is.verdict

  -- what a verdict with a circuit wants
  module _ (states : States bytes d) (claimed : IsClaimed t bytes lines None) (side : Side) (n : ℕ)
      (same_side : circuit_side d.verdict ≡ side) (told : states_told d.verdict ≡ Some n)
      (circuit : Circuit) (circuit_is : d.circuit ≡ Some circuit) (shown : IsShown n d.logs d.annotation) where
    abbrev has : HasFile lines.circuit circuit
    has = file_of lines.circuit circuit (is.circuit ∙ circuit_is)

    abbrev place : (place : AnnotationPlace) × (lines.annotation ≡ Some place)
    place = place_of bytes lines.annotation (ap has_head is.annotation ∙ shown.head)

    abbrev a : Annotated
    a = record { file = has.file; side = side_in lines.header; place = place.0 }

    annotated : annotated_in lines ≡ Some a
    annotated =
        ap (λ (part : CircuitPart). option_and_then (λ file. option_map (λ (p : AnnotationPlace). let x : Annotated = record { file = file; side = side_in lines.header; place = p } in x) lines.annotation) (file_in part)) has.part_is
        ∙ ap (λ (o : Option AnnotationPlace). option_map (λ (p : AnnotationPlace). let x : Annotated = record { file = has.file; side = side_in lines.header; place = p } in x) o) place.1

    is_shown : parts.IsShown t bytes lines a None
    is_shown = subst (λ (o : Option Annotated). MatchOption o (◌≡◌ {A = Option ℕ} None None) (λ x. parts.IsShown t bytes lines x None)) annotated claimed

    counted : counted_in lines ≡ Some (record { circuit = circuit; states = n })
    counted =
        ap (λ (o : Option Verdict). option_and_then (λ states. option_map (λ c. let x : Counted = record { circuit = c; states = states } in x) (circuit_in lines.circuit)) (option_and_then states_told o)) is.verdict
        ∙ ap (λ (o : Option ℕ). option_and_then (λ states. option_map (λ c. let x : Counted = record { circuit = c; states = states } in x) (circuit_in lines.circuit)) o) told
        ∙ ap (λ (o : Option Circuit). option_map (λ c. let x : Counted = record { circuit = c; states = n } in x) o) (is.circuit ∙ circuit_is)

    number : (may_be_counted n (length circuit.inputs) ≡ true) × HasStates circuit n
    number = number_right circuit n lines.verdict_line fails.number
        (subst (λ (o : Option Counted). MatchOption o (fails.number ≡ None) (λ c. NumberFails c.circuit c.states lines.verdict_line fails.number)) counted fails.number_fails) number_none

    named : all_named has.file.circuit ≡ true
    named = ap all_named has.circuit_is ∙ subst (λ (o : Option Circuit). IfSome o (λ c. all_named c ≡ true)) circuit_is states.well_formed.named

    stated : stated_line (names_in t) side has.file ≡ None
    stated = ap (λ (s : Side). stated_line (names_in t) s has.file) (sym (side_is ∙ same_side))
        ∙ ap (circuit_line t bytes lines.header) (sym has.part_is) ∙ circuit_none

    annotation_is : drop place.0.at bytes ≡ d.annotation
    annotation_is = ap (annotation_in bytes) (sym place.1) ∙ is.annotation

    pub with_circuit : HasCircuit t side n d
    with_circuit =
        let s : side_in lines.header ≡ side = side_is ∙ same_side in
        record {
          circuit = circuit;
          circuit_is = circuit_is;
          names = subst (HasNames (names_in t) side) has.circuit_is (stated_names (names_in t) side has.file stated named);
          counted = number.0;
          states = number.1;
          annotation = rw (sym s, sym has.circuit_is, sym annotation_is)
              (record { named = is_shown.named; stated = is_shown.annotation.stated; valid = is_shown.told });
          logs = subst (λ (x : Side). All (LogHolds (ground_for t x)) d.logs) s
              (subst (All (LogHolds (ground_for t (side_in lines.header)))) is.logs
              (all_hold law (ground_for t (side_in lines.header)) lines.logs fails.logs fails.logs_fail logs_none));
        }

  said : States bytes d → IsClaimed t bytes lines None → (v : Verdict) → d.verdict ≡ v → HasWhatIsSaid t d v
  said states claimed Unknown e = tt
  said states claimed (Realizable n) e =
      let c = circuit_of d.circuit (ap (has_its_place (is_some d.circuit)) (sym e) ∙ states.well_formed.circuit) in
      with_circuit states claimed System n (ap circuit_side e) (ap states_told e) c.0 c.1
      (subst (λ (v : Verdict). IsShownBy v d.logs d.annotation) e states.well_formed.shown)
  said states claimed (Unrealizable n) e =
      let c = circuit_of d.circuit (ap (has_its_place (is_some d.circuit)) (sym e) ∙ states.well_formed.circuit) in
      with_circuit states claimed Environment n (ap circuit_side e) (ap states_told e) c.0 c.1
      (subst (λ (v : Verdict). IsShownBy v d.logs d.annotation) e states.well_formed.shown)

  pub holds : States bytes d → IsClaimed t bytes lines None → HoldsSolved t d
  holds states claimed = record { taken = taken; said = said states claimed d.verdict refl }
