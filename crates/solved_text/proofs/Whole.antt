-- Documents as a whole: what bytes state, and what is read of them.
use Rattle.std.proofs.Common.{◌≡◌, ℕ, ◌+◌, ◌-◌, ◌<◌, ◌≤◌, Bool, true, false, cond, Option, Some, None, List, [], ◌∷◌, ◌++◌, length, take, drop, refl, sym, ap, subst, ◌∙◌, arith, append_assoc}
use Rattle.std.specs.Prelude.{All, IfSome, is_some, flat_map}
use Rattle.std.proofs.lemmas.Bool.{and_parts, and_from}
use Rattle.std.proofs.lemmas.List.{append-nil, length-append, take-append-drop}
use Rattle.std.proofs.Math.Seq.{drop-append_seam}
use Rattle.std_lemmas.proofs.Options.{some_none, some_same}
use Rattle.letters_and_lassos.specs.declared.kinds.Kind.{Kind}
use Rattle.aiger_text.specs.Circuit.{Circuit}
use Rattle.aiger_text.specs.CircuitFile.{File}
use Rattle.aiger_text.specs.CircuitFile as circuit
use Rattle.document_text.specs.declared.reading.CircuitPart.{CircuitPart}
use Rattle.document_text.specs.declared.reading.CircuitPart.TheVariants.{Absent, Stated}
use Rattle.document_text.specs.Header.{behind}
use Rattle.document_text.specs.Lines.{end_text}
use Rattle.document_text.specs.Reading.{all_named, begins_without_circuit, circuit_in}
use Rattle.document_text.proofs.LineRead.{behind_is}
use Rattle.document_text.proofs.HeaderWhole.{in_range_bounds}
use Rattle.document_text.proofs.CommentLine.{begins_with_circuit}
use Rattle.solved_text.specs.declared.documents.Verdict.{Verdict}
use Rattle.solved_text.specs.declared.documents.Verdict.TheVariants.{Realizable, Unrealizable, Unknown}
use Rattle.solved_text.specs.declared.header.Header.{Header}
use Rattle.solved_text.specs.Parts.{SizeLog, Document}
use Rattle.solved_text.specs.Lines.{body_text, log_part, rest_text}
use Rattle.solved_text.specs.Header.{HeaderRead, has_its_place, header_of, is_number_of_states, may_stand, most_states, tells_states}
use Rattle.solved_text.specs.Logs.{LogsRead, ReadsLogs}
use Rattle.solved_text.specs.Annotation.{AnnotationText, annotation_at, bad_behind_end, bad_of_annotation, has_head, on_end, pieces_of}
use Rattle.solved_text.specs.Reading.{SolvedLines, BodyRead, RestRead, ReadsRest, at_end, with_logs, ReadsBody, of_header, of_rest, ReadsBehind, unnamed, named, Reads, without_circuit, of_fault, uncommented, commented, IsFirstBadLine, IsSixth, alone, commented as sixth_behind, annotation_in, annotation_of, bad_of, begins_sixth, document_of, lines_with, place_in}
use Rattle.solved_text.specs.States.{AreInOrder, HasText, IsShown, IsShownBy, IsSizeLog, IsWellFormed, States, logs_line}
use Rattle.solved_text.specs.Laws.{IsStated}
use Rattle.solved_text.proofs.EndLemmas.{none_anywhere}
use Rattle.solved_text.proofs.HeaderWhole.{GoodHeader, MayBeRefuted, good_header, header_read, header_with, line_behind, lines_before, refuted_part}
use Rattle.solved_text.proofs.LogsWhole.{GoodLogs, good_logs, line_after, logs_read}
use Rattle.solved_text.proofs.ReadingLemmas.{body_reads, reads_same}

-- ---- what is read without a bad line is stated

-- the annotation whose text was read
abbrev IsText : List ℕ → Option AnnotationText → Type 0
IsText annotation None = annotation ≡ []
IsText annotation (Some a) = a.text ≡ annotation

-- logs and an annotation, none of their lines bad
pub record GoodShown (refuted n : ℕ) (bytes : List ℕ) (rest : RestRead) : Type 0 where
  pub annotation : List ℕ
  pub text_is : IsText annotation rest.annotation
  pub logs : GoodLogs refuted 0 n bytes rest.logs annotation
  pub head : has_head annotation ≡ true
  pub nothing_behind : bad_behind_end 0 (pieces_of annotation) ≡ None

-- what stands behind a header, none of it bad
abbrev GoodEnd : Option ℕ → ℕ → List ℕ → RestRead → Type 0
GoodEnd None n bytes rest = (bytes ≡ end_text) × (rest.logs ≡ []) × (rest.annotation ≡ None)
GoodEnd (Some refuted) n bytes rest = GoodShown refuted n bytes rest

end_by : (n : ℕ) (bytes : List ℕ) (o : Option (List ℕ)) → behind end_text bytes ≡ o → on_end n o ≡ None → bytes ≡ end_text
end_by n bytes None e good = absurd (cc)
end_by n bytes (Some []) e good = behind_is end_text bytes [] e
end_by n bytes (Some (b ∷ rest)) e good = absurd (cc)

shown_by : (refuted n line : ℕ) (bytes text : List ℕ) (logs : List SizeLog) (b : Bool) → has_head text ≡ b
    → cond b (bad_behind_end line (pieces_of text)) (Some line) ≡ None → GoodLogs refuted 0 n bytes logs text
    → GoodShown refuted n bytes (record { logs = logs; annotation = cond b (Some (record { line = line; text = text })) None; bad = None })
shown_by refuted n line bytes text logs true e good all =
    record { annotation = text; text_is = refl; logs = all; head = e; nothing_behind = none_anywhere line 0 (pieces_of text) good }
shown_by refuted n line bytes text logs false e good all = absurd (cc)

-- the same whatever is said of a bad line
said : (refuted n : ℕ) (bytes : List ℕ) (logs : List SizeLog) (annotation : Option AnnotationText) (bad other : Option ℕ)
    → GoodShown refuted n bytes (record { logs = logs; annotation = annotation; bad = bad }) → GoodShown refuted n bytes (record { logs = logs; annotation = annotation; bad = other })
said refuted n bytes logs annotation bad other g =
    record { annotation = g.annotation; text_is = g.text_is; logs = g.logs; head = g.head; nothing_behind = g.nothing_behind }

logs_by : (refuted n : ℕ) (bytes : List ℕ) (read : LogsRead) → ReadsLogs refuted 0 n bytes read → (o : Option (List ℕ)) → read.rest ≡ o → bad_of read.line o ≡ None
    → GoodShown refuted n bytes (record { logs = read.logs; annotation = annotation_of read.line o; bad = None })
logs_by refuted n bytes read reads None e good = absurd (cc)
logs_by refuted n bytes read reads (Some text) e good =
    shown_by refuted n read.line bytes text read.logs (has_head text) refl good (good_logs refuted 0 n bytes read reads text e)

good_end : (n : ℕ) (bytes : List ℕ) (refuted : Option ℕ) (rest : RestRead) → ReadsRest n bytes refuted rest → rest.bad ≡ None → GoodEnd refuted n bytes rest
good_end n bytes None rest at_end good = (end_by n bytes (behind end_text bytes) refl good, refl, refl)
good_end n bytes (Some r) rest (with_logs s read reads) good =
    said r n bytes read.logs (annotation_of read.line read.rest) None (bad_of read.line read.rest) (logs_by r n bytes read reads read.rest refl good)

-- the lines behind a circuit, or without one, none of them bad
pub record GoodBody (circuit : Bool) (first : ℕ) (bytes : List ℕ) (body : BodyRead) : Type 0 where
  pub verdict : Verdict
  pub kind : Kind
  pub converted : Bool
  pub refuted : Option ℕ
  pub annotation : List ℕ
  pub stands : may_stand circuit verdict ≡ true
  pub header_is : body.header ≡ header_with verdict kind converted refuted
  pub shown : IsShownBy verdict body.rest.logs annotation
  pub text_is : IsText annotation body.rest.annotation
  pub text : bytes ≡ lines_before verdict kind converted ++ rest_text verdict body.rest.logs annotation
  pub in_order : AreInOrder 0 (logs_line first converted) body.rest.logs

-- what shows a verdict with a number of states
module _ (states refuted n : ℕ) (bytes : List ℕ) (rest : RestRead) (number : is_number_of_states states ≡ true) (within : refuted ≤ states - 1) (g : GoodShown refuted n bytes rest) where
  is_shown : IsShown states rest.logs g.annotation
  is_shown =
      let low = (in_range_bounds 1 most_states states number).0 in
      let so_many = g.logs.so_many in
      record { number = number; fewer = omega (arith, low, so_many, within); all = g.logs.parts; head = g.head; nothing_behind = g.nothing_behind }

  count_is : refuted ≡ length rest.logs
  count_is = let so_many = g.logs.so_many in omega (arith, so_many)

-- the line of the first log
first_log : (first : ℕ) (converted : Bool) (refuted : ℕ) → line_behind first converted (Some refuted) ≡ logs_line first converted
first_log first converted refuted = omega arith

module _ (circuit : Bool) (first : ℕ) (bytes : List ℕ) (kind : Kind) (converted : Bool) (behind_header : List ℕ) (rest : RestRead) where
  abbrev of_body : Verdict → Option ℕ → Type 0
  of_body verdict refuted = GoodBody circuit first bytes (record { header = header_with verdict kind converted refuted; rest = rest })

  with_number : (verdict : Verdict) (states refuted : ℕ) → may_stand circuit verdict ≡ true → is_number_of_states states ≡ true → refuted ≤ states - 1
      → ((annotation : List ℕ) → IsShown states rest.logs annotation → IsShownBy verdict rest.logs annotation)
      → ((annotation : List ℕ) → refuted_part (Some (length rest.logs)) ++ (flat_map log_part rest.logs ++ annotation) ≡ rest_text verdict rest.logs annotation)
      → bytes ≡ lines_before verdict kind converted ++ (refuted_part (Some refuted) ++ behind_header)
      → GoodShown refuted (line_behind first converted (Some refuted)) behind_header rest → of_body verdict (Some refuted)
  with_number verdict states refuted stands number within shows texts text g =
      record {
        verdict = verdict;
        kind = kind;
        converted = converted;
        refuted = Some refuted;
        annotation = g.annotation;
        stands = stands;
        header_is = refl;
        shown = shows g.annotation (is_shown states refuted (line_behind first converted (Some refuted)) behind_header rest number within g);
        text_is = g.text_is;
        text = text ∙ (λ k. lines_before verdict kind converted ++ (refuted_part (Some (count_is states refuted (line_behind first converted (Some refuted)) behind_header rest number within g k)) ++ g.logs.text k))
            ∙ ap (λ (t : List ℕ). lines_before verdict kind converted ++ t) (texts g.annotation);
        in_order = subst (λ (n : ℕ). AreInOrder 0 n rest.logs) (first_log first converted refuted) g.logs.in_order;
      }

  rest_good : (verdict : Verdict) (refuted : Option ℕ) → may_stand circuit verdict ≡ true → MayBeRefuted verdict refuted
      → bytes ≡ lines_before verdict kind converted ++ (refuted_part refuted ++ behind_header) → GoodEnd refuted (line_behind first converted refuted) behind_header rest → of_body verdict refuted
  rest_good (Realizable n) None stands may text g = absurd may
  rest_good (Realizable n) (Some r) stands may text g =
      with_number (Realizable n) n r stands (and_parts (has_its_place circuit (Realizable n)) (tells_states (Realizable n)) stands).1 may (λ a s. s) (λ a. refl) text g
  rest_good (Unrealizable n) None stands may text g = absurd may
  rest_good (Unrealizable n) (Some r) stands may text g =
      with_number (Unrealizable n) n r stands (and_parts (has_its_place circuit (Unrealizable n)) (tells_states (Unrealizable n)) stands).1 may (λ a s. s) (λ a. refl) text g
  rest_good Unknown (Some r) stands may text g = absurd may
  rest_good Unknown None stands may text g =
      record {
        verdict = Unknown;
        kind = kind;
        converted = converted;
        refuted = None;
        annotation = [];
        stands = stands;
        header_is = refl;
        shown = (g.1, refl);
        text_is = subst (λ (o : Option AnnotationText). IsText [] o) (sym g.2) refl;
        text = text ∙ ap (λ (t : List ℕ). lines_before Unknown kind converted ++ t) g.0;
        in_order = subst (λ (logs : List SizeLog). AreInOrder 0 (logs_line first converted) logs) (sym g.1) tt;
      }

module _ (circuit : Bool) (first : ℕ) (bytes : List ℕ) where
  behind_good : (read : HeaderRead) (rest : RestRead) → GoodHeader circuit first bytes read → ReadsRest read.line read.rest read.header.refuted rest → rest.bad ≡ None
      → GoodBody circuit first bytes (record { header = read.header; rest = rest })
  behind_good read rest h reads good =
      let here : ReadsRest (line_behind first h.converted h.refuted) h.rest h.refuted rest =
      subst (λ (x : HeaderRead). ReadsRest x.line x.rest x.header.refuted rest) h.read_is reads in
      subst (λ (x : HeaderRead). GoodBody circuit first bytes (record { header = x.header; rest = rest })) (sym h.read_is)
      (rest_good circuit first bytes h.kind h.converted h.rest rest h.verdict h.refuted h.stands h.may h.text
      (good_end (line_behind first h.converted h.refuted) h.rest h.refuted rest here good))

  pub good_body : (body : BodyRead) → ReadsBody circuit first bytes body → body.rest.bad ≡ None → GoodBody circuit first bytes body
  good_body body (of_header n e) good = absurd (cc)
  good_body body (of_rest rest e reads) good = behind_good (header_of circuit first bytes) rest (good_header circuit first bytes e) reads good

-- ---- the document of what was read

-- the place of an annotation leads back to it
place_by : (whole text : List ℕ) → (before : List ℕ) → whole ≡ before ++ text → drop (length whole - length text) whole ≡ text
place_by whole text before is =
    let n : length whole ≡ length before + length text = ap length is ∙ length-append before text in
    let at : length whole - length text ≡ length before = omega (arith, n) in
    (λ k. drop (at k) (is k)) ∙ drop-append_seam before text

-- these bytes end with those
abbrev pub Ends : List ℕ → List ℕ → Type 0
Ends whole bytes = (before : List ℕ) × (whole ≡ before ++ bytes)

place_is : (whole annotation : List ℕ) (o : Option AnnotationText) → IsText annotation o → Ends whole annotation → annotation_in whole (place_in whole o) ≡ annotation
place_is whole annotation None is ends = sym is
place_is whole annotation (Some a) is ends =
    ap (λ (text : List ℕ). drop (length whole - length text) whole) is ∙ place_by whole annotation ends.0 ends.1

ends_more : (whole bytes before annotation : List ℕ) → Ends whole bytes → bytes ≡ before ++ annotation → Ends whole annotation
ends_more whole bytes before annotation ends is =
    (ends.0 ++ before, ends.1 ∙ ap (λ (b : List ℕ). ends.0 ++ b) is ∙ sym (append_assoc ends.0 before annotation))

-- an annotation ends the lines behind a header
rest_ends : (verdict : Verdict) (logs : List SizeLog) (annotation : List ℕ) → IsShownBy verdict logs annotation → Ends (rest_text verdict logs annotation) annotation
rest_ends (Realizable n) logs annotation shown =
    (refuted_part (Some (length logs)) ++ flat_map log_part logs, sym (append_assoc (refuted_part (Some (length logs))) (flat_map log_part logs) annotation))
rest_ends (Unrealizable n) logs annotation shown =
    (refuted_part (Some (length logs)) ++ flat_map log_part logs, sym (append_assoc (refuted_part (Some (length logs))) (flat_map log_part logs) annotation))
rest_ends Unknown logs annotation shown = (end_text, sym (append-nil end_text) ∙ ap (λ (a : List ℕ). end_text ++ a) (sym shown.1))

module _ {circuit : Bool} {first : ℕ} {bytes : List ℕ} {body : BodyRead} (g : GoodBody circuit first bytes body) where
  abbrev pub document_with : Option Circuit → Document
  document_with c = record { verdict = g.verdict; kind = g.kind; converted = g.converted; circuit = c; logs = body.rest.logs; annotation = g.annotation }

  body_ends : Ends bytes g.annotation
  body_ends =
      let r = rest_ends g.verdict body.rest.logs g.annotation g.shown in (
        lines_before g.verdict g.kind g.converted ++ r.0,
        g.text ∙ ap (λ (t : List ℕ). lines_before g.verdict g.kind g.converted ++ t) r.1 ∙ sym (append_assoc (lines_before g.verdict g.kind g.converted) r.0 g.annotation),
      )

  of_lines : (whole : List ℕ) (part : CircuitPart) (line : ℕ) → Ends whole bytes → document_of whole (lines_with whole part line body) ≡ Some (document_with (circuit_in part))
  of_lines whole part line ends =
      ap (λ (h : Header). document_of whole (lines_with whole part line (record { header = h; rest = body.rest }))) g.header_is
      ∙ ap (λ (a : List ℕ). Some (record { verdict = g.verdict; kind = g.kind; converted = g.converted; circuit = circuit_in part; logs = body.rest.logs; annotation = a }))
      (place_is whole g.annotation body.rest.annotation g.text_is
      (ends_more whole bytes body_ends.0 g.annotation ends body_ends.1))

  well_formed : (c : Option Circuit) → is_some c ≡ circuit → IfSome c (λ c. all_named c ≡ true) → IsWellFormed (document_with c)
  well_formed c is all =
      record {
        circuit = ap (λ b. has_its_place b g.verdict) is ∙ (and_parts (has_its_place circuit g.verdict) (tells_states g.verdict) g.stands).0;
        named = all;
        shown = g.shown;
      }

module _ (bytes : List ℕ) where
  of_absent : (body : BodyRead) → ReadsBody false 1 bytes body → body.rest.bad ≡ None → IsStated bytes (lines_with bytes Absent 2 body)
  of_absent body reads good =
      let g = good_body false 1 bytes body reads good in
      record {
        document = document_with g None;
        of_lines = of_lines g bytes Absent 2 ([], refl);
        states = record { well_formed = well_formed g None refl tt; text = g.text };
      }

  of_stated : (file : File) (at : ℕ) (body : BodyRead) → circuit.States bytes file → file.comment_at ≡ Some at → all_named file.circuit ≡ true
      → ReadsBody true (file.comment_line + 1) (drop at bytes) body → body.rest.bad ≡ None → IsStated bytes (lines_with bytes (Stated file) (file.comment_line + 2) body)
  of_stated file at body states comment all reads good =
      let g = good_body true (file.comment_line + 1) (drop at bytes) body reads good in
      record {
        document = document_with g (Some file.circuit);
        of_lines = of_lines g bytes (Stated file) (file.comment_line + 2) (take at bytes, sym (take-append-drop at bytes));
        states = record {
          well_formed = well_formed g (Some file.circuit) refl all;
          text = record { file = file; states = states; circuit_is = refl; at = at; comment_at = comment; body = g.text; logs = g.in_order };
        };
      }

  of_behind : (file : File) (at : ℕ) (lines : SolvedLines) → circuit.States bytes file → file.comment_at ≡ Some at → ReadsBehind bytes file (drop at bytes) lines
      → lines.bad ≡ None → IsStated bytes lines
  of_behind file at lines states comment (unnamed e) good = absurd (cc)
  of_behind file at lines states comment (named body e reads) good = of_stated file at body states comment e reads good

  pub good_lines : (lines : SolvedLines) → Reads bytes lines → lines.bad ≡ None → IsStated bytes lines
  good_lines lines (without_circuit body e reads) good = of_absent body reads good
  good_lines lines (of_fault fault e x) good = absurd (cc)
  good_lines lines (uncommented file e s n) good = absurd (cc)
  good_lines lines (commented file at lines' e s n reads) good = of_behind file at lines s n reads good

-- ---- what is stated is read

-- the lines that a document is read as
pub record IsReadAs (bytes : List ℕ) (d : Document) : Type 0 where
  pub lines : SolvedLines
  pub reads : Reads bytes lines
  pub good : lines.bad ≡ None
  pub document : document_of bytes lines ≡ Some d

-- a body of which no line is bad, with what was read of it
record BodyIsRead (circuit : Bool) (first : ℕ) (d : Document) : Type 0 where
  body : BodyRead
  reads : ReadsBody circuit first (body_text d) body
  good : body.rest.bad ≡ None
  refuted : Option ℕ
  header_is : body.header ≡ header_with d.verdict d.kind d.converted refuted
  logs_are : body.rest.logs ≡ d.logs
  text_is : IsText d.annotation body.rest.annotation

add_none : (n : ℕ) → 0 + n ≡ n
add_none n = omega arith

-- logs and an annotation are read
shown_read : (n : ℕ) (logs : List SizeLog) (annotation : List ℕ) → AreInOrder 0 n logs → All IsSizeLog logs → has_head annotation ≡ true → bad_behind_end 0 (pieces_of annotation) ≡ None
    → ReadsRest n (flat_map log_part logs ++ annotation) (Some (length logs)) (record { logs = logs; annotation = Some (record { line = line_after n logs; text = annotation }); bad = None })
shown_read n logs annotation in_order all head nothing =
    let m : ℕ = line_after n logs in
    let there : bad_of_annotation (line_after n logs) annotation ≡ None =
    ap (λ b. cond b (bad_behind_end (line_after n logs) (pieces_of annotation)) (Some (line_after n logs))) head ∙ none_anywhere 0 (line_after n logs) (pieces_of annotation) nothing in
    let place : annotation_at (line_after n logs) annotation ≡ Some (record { line = line_after n logs; text = annotation }) =
    ap (λ b. cond b (Some (record { line = line_after n logs; text = annotation })) None) head in
    subst (λ (x : RestRead). ReadsRest n (flat_map log_part logs ++ annotation) (Some (length logs)) x)
    (λ k. record { logs = logs; annotation = place k; bad = there k })
    (with_logs (length logs) (record { logs = logs; line = line_after n logs; rest = Some annotation }) (logs_read (length logs) 0 n logs annotation (add_none (length logs)) in_order all))

module _ (circuit : Bool) (first : ℕ) (d : Document) (number : tells_states d.verdict ≡ true) (place : has_its_place circuit d.verdict ≡ true) where
  stands : may_stand circuit d.verdict ≡ true
  stands = and_from (has_its_place circuit d.verdict) (tells_states d.verdict) place number

  with_states : (states : ℕ) → IsShown states d.logs d.annotation → AreInOrder 0 (logs_line first d.converted) d.logs → MayBeRefuted d.verdict (Some (length d.logs))
      → rest_text d.verdict d.logs d.annotation ≡ refuted_part (Some (length d.logs)) ++ (flat_map log_part d.logs ++ d.annotation) → BodyIsRead circuit first d
  with_states states shown in_order may text =
      let n : ℕ = line_behind first d.converted (Some (length d.logs)) in
      let rest : List ℕ = flat_map log_part d.logs ++ d.annotation in
      let ordered : AreInOrder 0 (line_behind first d.converted (Some (length d.logs))) d.logs =
      subst (λ (n : ℕ). AreInOrder 0 n d.logs) (sym (first_log first d.converted (length d.logs))) in_order in
      let header : header_of circuit first (body_text d) ≡ record { header = header_with d.verdict d.kind d.converted (Some (length d.logs)); line = line_behind first d.converted (Some (length d.logs)); rest = flat_map log_part d.logs ++ d.annotation } =
      ap (λ (t : List ℕ). header_of circuit first (lines_before d.verdict d.kind d.converted ++ t)) text
      ∙ header_read circuit first d.verdict d.kind d.converted (Some (length d.logs)) (flat_map log_part d.logs ++ d.annotation) stands may tt in
      record {
        body = record { header = header_with d.verdict d.kind d.converted (Some (length d.logs)); rest = record { logs = d.logs; annotation = Some (record { line = line_after (line_behind first d.converted (Some (length d.logs))) d.logs; text = d.annotation }); bad = None } };
        reads = body_reads circuit first (body_text d)
            (record { header = header_with d.verdict d.kind d.converted (Some (length d.logs)); line = line_behind first d.converted (Some (length d.logs)); rest = flat_map log_part d.logs ++ d.annotation })
            (record { logs = d.logs; annotation = Some (record { line = line_after (line_behind first d.converted (Some (length d.logs))) d.logs; text = d.annotation }); bad = None })
            header refl (shown_read (line_behind first d.converted (Some (length d.logs))) d.logs d.annotation ordered shown.all shown.head shown.nothing_behind);
        good = refl;
        refuted = Some (length d.logs);
        header_is = refl;
        logs_are = refl;
        text_is = refl;
      }

  without : d.logs ≡ [] → d.annotation ≡ [] → MayBeRefuted d.verdict None → rest_text d.verdict d.logs d.annotation ≡ end_text → BodyIsRead circuit first d
  without no_logs no_annotation may text =
      let header : header_of circuit first (body_text d) ≡ record { header = header_with d.verdict d.kind d.converted None; line = line_behind first d.converted None; rest = end_text } =
      ap (λ (t : List ℕ). header_of circuit first (lines_before d.verdict d.kind d.converted ++ t)) text
      ∙ header_read circuit first d.verdict d.kind d.converted None end_text stands may refl in
      record {
        body = record { header = header_with d.verdict d.kind d.converted None; rest = record { logs = []; annotation = None; bad = None } };
        reads = body_reads circuit first (body_text d)
            (record { header = header_with d.verdict d.kind d.converted None; line = line_behind first d.converted None; rest = end_text })
            (record { logs = []; annotation = None; bad = None }) header refl at_end;
        good = refl;
        refuted = None;
        header_is = refl;
        logs_are = sym no_logs;
        text_is = no_annotation;
      }

-- fewer sizes are refuted than there are states
below_states : (states refuted : ℕ) → refuted < states → refuted ≤ states - 1
below_states states refuted less = omega arith

body_by : (circuit : Bool) (first : ℕ) (d : Document) (v : Verdict) → d.verdict ≡ v → has_its_place circuit d.verdict ≡ true → IsShownBy v d.logs d.annotation
    → AreInOrder 0 (logs_line first d.converted) d.logs → BodyIsRead circuit first d
body_by circuit first d (Realizable n) is place shown in_order =
    with_states circuit first d (ap tells_states is ∙ shown.number) place n shown in_order
    (subst (λ (v : Verdict). MayBeRefuted v (Some (length d.logs))) (sym is) (below_states n (length d.logs) shown.fewer))
    (ap (λ (v : Verdict). rest_text v d.logs d.annotation) is)
body_by circuit first d (Unrealizable n) is place shown in_order =
    with_states circuit first d (ap tells_states is ∙ shown.number) place n shown in_order
    (subst (λ (v : Verdict). MayBeRefuted v (Some (length d.logs))) (sym is) (below_states n (length d.logs) shown.fewer))
    (ap (λ (v : Verdict). rest_text v d.logs d.annotation) is)
body_by circuit first d Unknown is place shown in_order =
    without circuit first d (ap tells_states is) place shown.0 shown.1 (subst (λ (v : Verdict). MayBeRefuted v None) (sym is) tt)
    (ap (λ (v : Verdict). rest_text v d.logs d.annotation) is)

-- without a circuit there are no logs
no_logs : (d : Document) (v : Verdict) → d.verdict ≡ v → has_its_place false v ≡ true → IsShownBy v d.logs d.annotation → d.logs ≡ []
no_logs d (Realizable n) is place shown = absurd (cc)
no_logs d (Unrealizable n) is place shown = absurd (cc)
no_logs d Unknown is place shown = shown.0

-- an annotation ends a document's lines
text_ends : (d : Document) → IsShownBy d.verdict d.logs d.annotation → Ends (body_text d) d.annotation
text_ends d shown =
    let r = rest_ends d.verdict d.logs d.annotation shown in (
      lines_before d.verdict d.kind d.converted ++ r.0,
      ap (λ (t : List ℕ). lines_before d.verdict d.kind d.converted ++ t) r.1 ∙ sym (append_assoc (lines_before d.verdict d.kind d.converted) r.0 d.annotation),
    )

-- the document of a body that was read
document_is : (whole : List ℕ) (circuit : Bool) (first : ℕ) (d : Document) (r : BodyIsRead circuit first d) (part : CircuitPart) (line : ℕ) → Ends whole d.annotation → circuit_in part ≡ d.circuit
    → document_of whole (lines_with whole part line r.body) ≡ Some d
document_is whole circuit first d r part line ends is =
    ap (λ (h : Header). document_of whole (lines_with whole part line (record { header = h; rest = r.body.rest }))) r.header_is
    ∙ (λ k. Some (record { verdict = d.verdict; kind = d.kind; converted = d.converted; circuit = is k; logs = r.logs_are k; annotation = place_is whole d.annotation r.body.rest.annotation r.text_is ends k }))

text_by : (bytes : List ℕ) (d : Document) (c : Option Circuit) → d.circuit ≡ c → IsWellFormed d → HasText bytes c d → IsReadAs bytes d
text_by bytes d None is w text =
    let place : has_its_place false d.verdict ≡ true = ap (λ (o : Option Circuit). has_its_place (is_some o) d.verdict) (sym is) ∙ w.circuit in
    let none : d.logs ≡ [] = no_logs d d.verdict refl place w.shown in
    let r = body_by false 1 d d.verdict refl place w.shown (subst (λ (logs : List SizeLog). AreInOrder 0 (logs_line 1 d.converted) logs) (sym none) tt) in
    let ends : Ends bytes d.annotation = subst (λ (b : List ℕ). Ends b d.annotation) (sym text) (text_ends d w.shown) in
    record {
      lines = lines_with bytes Absent 2 r.body;
      reads = without_circuit r.body (ap begins_without_circuit text) (subst (λ (b : List ℕ). ReadsBody false 1 b r.body) (sym text) r.reads);
      good = r.good;
      document = document_is bytes false 1 d r Absent 2 ends (sym is);
    }
text_by bytes d (Some c) is w text =
    let place : has_its_place true d.verdict ≡ true = ap (λ (o : Option Circuit). has_its_place (is_some o) d.verdict) (sym is) ∙ w.circuit in
    let r = body_by true (text.file.comment_line + 1) d d.verdict refl place w.shown text.logs in
    let all : all_named text.file.circuit ≡ true = ap all_named text.circuit_is ∙ subst (λ (o : Option Circuit). IfSome o (λ c. all_named c ≡ true)) is w.named in
    let t = text_ends d w.shown in
    let ends : Ends bytes d.annotation =
    ends_more bytes (drop text.at bytes) t.0 d.annotation (take text.at bytes, sym (take-append-drop text.at bytes)) (text.body ∙ t.1) in
    record {
      lines = lines_with bytes (Stated text.file) (text.file.comment_line + 2) r.body;
      reads = commented text.file text.at (lines_with bytes (Stated text.file) (text.file.comment_line + 2) r.body)
          (begins_with_circuit bytes text.file text.states) text.states text.comment_at
          (named r.body all (subst (λ (b : List ℕ). ReadsBody true (text.file.comment_line + 1) b r.body) (sym text.body) r.reads));
      good = r.good;
      document = document_is bytes true (text.file.comment_line + 1) d r (Stated text.file) (text.file.comment_line + 2) ends (ap Some text.circuit_is ∙ sym is);
    }

pub is_read_as : (bytes : List ℕ) (d : Document) → States bytes d → IsReadAs bytes d
is_read_as bytes d s = text_by bytes d d.circuit refl s.well_formed s.text

-- ---- the laws

pub all_good : (bytes : List ℕ) (lines : SolvedLines) (d : Document) → Reads bytes lines → States bytes d → (lines.bad ≡ None) × (document_of bytes lines ≡ Some d)
all_good bytes lines d reads states =
    let r = is_read_as bytes d states in
    let same : lines ≡ r.lines = reads_same bytes lines r.lines reads r.reads in
    (ap (λ (x : SolvedLines). x.bad) same ∙ r.good, ap (document_of bytes) same ∙ r.document)

pub one_document : (bytes : List ℕ) (d e : Document) → States bytes d → States bytes e → d ≡ e
one_document bytes d e a b =
    let r = is_read_as bytes d a in
    some_same (document_of bytes r.lines) d e r.document (all_good bytes r.lines e r.reads b).1

pub one_bad_line : (bytes : List ℕ) (n m : ℕ) → IsFirstBadLine bytes n → IsFirstBadLine bytes m → n ≡ m
one_bad_line bytes n m a b = some_same a.lines.bad n m a.bad (ap (λ (x : SolvedLines). x.bad) (reads_same bytes a.lines b.lines a.reads b.reads) ∙ b.bad)

pub stated_not_bad : (bytes : List ℕ) (d : Document) (n : ℕ) → States bytes d → IsFirstBadLine bytes n → ⊥
stated_not_bad bytes d n a b = some_none b.lines.bad n b.bad (all_good bytes b.lines d b.reads a).0

begins : (d : Document) → begins_sixth (body_text d) ≡ true
begins d = refl

version_by : (bytes : List ℕ) (d : Document) (c : Option Circuit) → HasText bytes c d → IsSixth bytes
version_by bytes d None text = alone (ap begins_sixth text ∙ begins d)
version_by bytes d (Some c) text = sixth_behind text.file text.at text.states text.comment_at (ap begins_sixth text.body ∙ begins d)

pub of_version : (bytes : List ℕ) (d : Document) → States bytes d → IsSixth bytes
of_version bytes d s = version_by bytes d d.circuit s.text
