-- Documents as a whole: what bytes state, and what is read of them.
use Rattle.std.proofs.Common.{◌≡◌, ℕ, suc, ◌+◌, Bool, true, false, Option, Some, None, List, [], ◌∷◌, ◌++◌, length, drop, refl, sym, ap, subst, ◌∙◌, arith, append_assoc}
use Rattle.std.specs.Prelude.{All, IfSome, is_some}
use Rattle.std.specs.List.{flat_map}
use Rattle.std.proofs.Math.Seq.{drop-append-add}
use Rattle.std.proofs.lemmas.List.Elements.{All-cons}
use Rattle.std_lemmas.proofs.Options.{some_none, some_same}
use Rattle.letters_and_lassos.specs.declared.kinds.Kind.{Kind}
use Rattle.aiger_text.specs.Circuit.{Circuit}
use Rattle.aiger_text.specs.CircuitText.{circuit_text, comment_text}
use Rattle.aiger_text.specs.CircuitFile.{File}
use Rattle.aiger_text.specs.CircuitFile as circuit
use Rattle.aiger_text.specs.RoundTrip.{IsWritable, CommentsAreRead, written_file}
use Rattle.document_text.specs.declared.documents.Verdict.{Verdict}
use Rattle.document_text.specs.declared.header.Header.{Header}
use Rattle.document_text.specs.declared.order.Order.{Order}
use Rattle.document_text.specs.declared.order.Place.{Place}
use Rattle.document_text.specs.declared.reading.CircuitPart.TheVariants.{Absent, Stated}
use Rattle.document_text.specs.Parts.{LogPart, Document}
use Rattle.document_text.specs.Lines.{part_text, logs_text, body_text, document_text, end_text}
use Rattle.document_text.specs.Order.{AreInOrder, has_its_place, order_of, place, first_place}
use Rattle.document_text.specs.Header.{HeaderRead, header_of}
use Rattle.document_text.specs.Logs.{LogsRead, ReadsLogs}
use Rattle.document_text.specs.Reading.{DocumentLines, BodyRead, ReadsBody, of_header, of_logs, ReadsBehind, unnamed, named, Reads, without_circuit, of_fault, uncommented, commented, IsFirstBadLine, all_named, begins_without_circuit, document_of, line_count, order_in}
use Rattle.document_text.specs.WellFormed.{IsLogPart, IsWellFormed}
use Rattle.document_text.specs.States.{AreAt, HasText, States, logs_at, logs_line, numbered}
use Rattle.document_text.specs.Laws.{WrittenIsRead}
use Rattle.document_text.proofs.HeaderWhole.{GoodHeader, HasRanges, good_header, header_read, header_with, lines_text}
use Rattle.document_text.proofs.LogsWhole.{good_logs, logs_read, no_found}
use Rattle.document_text.proofs.ReadingLemmas.{body_reads, reads_same}
use Rattle.document_text.proofs.CommentLine.{begins_with_circuit}

-- ---- what is read without a bad line is stated

-- the lines behind a circuit, or without one, none of them bad
pub record GoodBody (circuit : Bool) (first : ℕ) (bytes : List ℕ) (body : BodyRead) : Type 0 where
  pub version : ℕ
  pub verdict : Verdict
  pub kind : Kind
  pub max : ℕ
  pub entries : Option ℕ
  pub found : ℕ
  pub ranges : HasRanges circuit version verdict max entries found
  pub header_is : body.header ≡ header_with version verdict kind max entries found
  pub text : bytes ≡ lines_text version verdict kind max entries found ++ logs_text body.logs
  pub in_order : AreInOrder (order_of version verdict max found) (first_place (order_of version verdict max found)) body.logs
  pub at : AreAt (first + line_count (header_with version verdict kind max entries found)) body.logs
  pub parts : All IsLogPart body.logs

module _ (circuit : Bool) (first : ℕ) (bytes : List ℕ) where
  logs_behind : (more : LogsRead) (h : GoodHeader circuit first bytes)
      → ReadsLogs (order_in (header_of circuit first bytes).header) (first_place (order_in (header_of circuit first bytes).header)) (first + line_count (header_of circuit first bytes).header) (header_of circuit first bytes).rest more
      → more.bad ≡ None → GoodBody circuit first bytes (record { header = (header_of circuit first bytes).header; logs = more.logs; bad = more.bad })
  logs_behind more h reads good =
      let here : ReadsLogs (order_of h.version h.verdict h.max h.found) (first_place (order_of h.version h.verdict h.max h.found)) (first + line_count (header_with h.version h.verdict h.kind h.max h.entries h.found)) h.rest more =
      subst (λ (x : HeaderRead). ReadsLogs (order_in x.header) (first_place (order_in x.header)) (first + line_count x.header) x.rest more) h.read reads in
      let logs = good_logs (order_of h.version h.verdict h.max h.found) (first_place (order_of h.version h.verdict h.max h.found))
      (first + line_count (header_with h.version h.verdict h.kind h.max h.entries h.found)) h.rest more here good in
      record {
        version = h.version;
        verdict = h.verdict;
        kind = h.kind;
        max = h.max;
        entries = h.entries;
        found = h.found;
        ranges = h.ranges;
        header_is = ap (λ (x : HeaderRead). x.header) h.read;
        text = h.text ∙ ap (λ (r : List ℕ). lines_text h.version h.verdict h.kind h.max h.entries h.found ++ r) logs.text;
        in_order = logs.in_order;
        at = logs.at;
        parts = logs.parts;
      }

  pub good_body : (body : BodyRead) → ReadsBody circuit first bytes body → body.bad ≡ None → GoodBody circuit first bytes body
  good_body body (of_header n e) good = absurd (cc)
  good_body body (of_logs more e reads) good = logs_behind more (good_header circuit first bytes e) reads good

-- the document of a body
abbrev document_with : {circuit : Bool} {first : ℕ} {bytes : List ℕ} {body : BodyRead} → GoodBody circuit first bytes body → Option Circuit → List ℕ → ℕ → ℕ → Document
document_with {body = body} g c name_lines comment_line verdict_line =
    record { version = g.version; verdict = g.verdict; kind = g.kind; max = g.max; entries = g.entries; found = g.found; circuit = c; logs = body.logs; name_lines = name_lines; comment_line = comment_line; verdict_line = verdict_line }

well_formed : {circuit : Bool} {first : ℕ} {bytes : List ℕ} {body : BodyRead} (g : GoodBody circuit first bytes body) (c : Option Circuit) (name_lines : List ℕ) (comment_line verdict_line : ℕ)
    → is_some c ≡ circuit → IfSome c (λ c. all_named c ≡ true) → IsWellFormed (document_with g c name_lines comment_line verdict_line)
well_formed g c name_lines comment_line verdict_line is all =
    record {
      version = g.ranges.version_in;
      verdict = g.ranges.fits;
      circuit = ap (λ b. has_its_place b g.verdict) is ∙ g.ranges.its_place;
      named = all;
      max = g.ranges.max_in;
      number = g.ranges.number;
      entries = g.ranges.within;
      found = g.ranges.found_number;
      order = g.in_order;
      logs = g.parts;
    }

module _ (bytes : List ℕ) where
  of_absent : (body : BodyRead) (d : Document) → ReadsBody false 1 bytes body → body.bad ≡ None
      → document_of (record { circuit = Absent; header = body.header; verdict_line = 2; logs = body.logs; bad = body.bad }) ≡ Some d → States bytes d
  of_absent body d reads good is =
      let g = good_body false 1 bytes body reads good in
      let same : document_with g None [] 0 2 ≡ d =
      some_same (document_of (record { circuit = Absent; header = body.header; verdict_line = 2; logs = body.logs; bad = body.bad })) (document_with g None [] 0 2) d
      (ap (λ (h : Header). document_of (record { circuit = Absent; header = h; verdict_line = 2; logs = body.logs; bad = body.bad })) g.header_is) is in
      subst (λ (d : Document). States bytes d) same
      (record { well_formed = well_formed g None [] 0 2 refl tt; text = (g.text, refl, refl); verdict_line = refl; logs = g.at })

  of_stated : (file : File) (at : ℕ) (body : BodyRead) (d : Document) → circuit.States bytes file → file.comment_at ≡ Some at → all_named file.circuit ≡ true
      → ReadsBody true (file.comment_line + 1) (drop at bytes) body → body.bad ≡ None
      → document_of (record { circuit = Stated file; header = body.header; verdict_line = file.comment_line + 2; logs = body.logs; bad = body.bad }) ≡ Some d → States bytes d
  of_stated file at body d states comment all reads good is =
      let g = good_body true (file.comment_line + 1) (drop at bytes) body reads good in
      let same : document_with g (Some file.circuit) file.name_lines file.comment_line (file.comment_line + 2) ≡ d =
      some_same (document_of (record { circuit = Stated file; header = body.header; verdict_line = file.comment_line + 2; logs = body.logs; bad = body.bad }))
      (document_with g (Some file.circuit) file.name_lines file.comment_line (file.comment_line + 2)) d
      (ap (λ (h : Header). document_of (record { circuit = Stated file; header = h; verdict_line = file.comment_line + 2; logs = body.logs; bad = body.bad })) g.header_is) is in
      subst (λ (d : Document). States bytes d) same
      (record {
        well_formed = well_formed g (Some file.circuit) file.name_lines file.comment_line (file.comment_line + 2) refl all;
        text = record { file = file; states = states; circuit_is = refl; at = at; comment_at = comment; body = g.text; name_lines = refl; comment_line = refl };
        verdict_line = refl;
        logs = g.at;
      })

  of_behind : (file : File) (at : ℕ) (lines : DocumentLines) (d : Document) → circuit.States bytes file → file.comment_at ≡ Some at → ReadsBehind file (drop at bytes) lines
      → lines.bad ≡ None → document_of lines ≡ Some d → States bytes d
  of_behind file at lines d states comment (unnamed e) good is = absurd (cc)
  of_behind file at lines d states comment (named body e reads) good is = of_stated file at body d states comment e reads good is

  pub good_lines : (lines : DocumentLines) (d : Document) → Reads bytes lines → lines.bad ≡ None → document_of lines ≡ Some d → States bytes d
  good_lines lines d (without_circuit body e reads) good is = of_absent body d reads good is
  good_lines lines d (of_fault fault e x) good is = absurd (cc)
  good_lines lines d (uncommented file e s n) good is = absurd (cc)
  good_lines lines d (commented file at lines' e s n reads) good is = of_behind file at lines d s n reads good is

  -- good lines are a document
  body_document : {circuit : Bool} {first : ℕ} {rest : List ℕ} {body : BodyRead} → GoodBody circuit first rest body → (lines : DocumentLines) → lines.header ≡ body.header
      → document_of lines ≡ None → ⊥
  body_document g lines is none =
      let whole : lines.header ≡ header_with g.version g.verdict g.kind g.max g.entries g.found = is ∙ g.header_is in
      let some : (d : Document) × (document_of lines ≡ Some d) = (_, ap (λ (h : Header). document_of (record lines { header = h })) whole) in
      some_none (document_of lines) some.0 some.1 none

  behind_document : (file : File) (comment : List ℕ) (lines : DocumentLines) → ReadsBehind file comment lines → lines.bad ≡ None → document_of lines ≡ None → ⊥
  behind_document file comment lines (unnamed e) good none = absurd (cc)
  behind_document file comment lines (named body e reads) good none = body_document (good_body true (file.comment_line + 1) comment body reads good) lines refl none

  pub has_document : (lines : DocumentLines) → Reads bytes lines → lines.bad ≡ None → document_of lines ≡ None → ⊥
  has_document lines (without_circuit body e reads) good none = body_document (good_body false 1 bytes body reads good) lines refl none
  has_document lines (of_fault fault e x) good none = absurd (cc)
  has_document lines (uncommented file e s n) good none = absurd (cc)
  has_document lines (commented file at lines' e s n reads) good none = behind_document file (drop at bytes) lines reads good none

-- ---- what is stated is read

-- the lines that a document is read as
pub record IsReadAs (bytes : List ℕ) (d : Document) : Type 0 where
  pub lines : DocumentLines
  pub reads : Reads bytes lines
  pub good : lines.bad ≡ None
  pub document : document_of lines ≡ Some d

module _ (d : Document) (w : IsWellFormed d) where
  abbrev header : Header
  header = header_with d.version d.verdict d.kind d.max d.entries d.found

  ranges : HasRanges (is_some d.circuit) d.version d.verdict d.max d.entries d.found
  ranges = record { version_in = w.version; fits = w.verdict; its_place = w.circuit; max_in = w.max; number = w.number; within = w.entries; found_number = w.found }

  body_is_read : (circuit : Bool) (first : ℕ) → is_some d.circuit ≡ circuit → AreAt (first + line_count header) d.logs
      → ReadsBody circuit first (body_text d) (record { header = header; logs = d.logs; bad = None })
  body_is_read circuit first is at =
      let r : HasRanges circuit d.version d.verdict d.max d.entries d.found = subst (λ b. HasRanges b d.version d.verdict d.max d.entries d.found) is ranges in
      body_reads circuit first (body_text d) (record { header = header_with d.version d.verdict d.kind d.max d.entries d.found; rest = logs_text d.logs }) (record { logs = d.logs; bad = None })
      (header_read circuit first d.version d.verdict d.kind d.max d.entries d.found (logs_text d.logs) r (no_found d.max d.logs w.logs)) refl
      (logs_read (order_of d.version d.verdict d.max d.found) (first_place (order_of d.version d.verdict d.max d.found))
      (first + line_count header) d.logs w.order at w.logs)

-- the text of a document without a circuit begins with the word of its first line
begins : (d : Document) → begins_without_circuit (body_text d) ≡ true
begins d = refl

text_by : (bytes : List ℕ) (d : Document) (c : Option Circuit) → d.circuit ≡ c → IsWellFormed d → HasText bytes c d → d.verdict_line ≡ d.comment_line + 2 → AreAt (logs_line d) d.logs → IsReadAs bytes d
text_by bytes d None is w text verdict at =
    let reads : ReadsBody false 1 bytes (record { header = header d w; logs = d.logs; bad = None }) =
    subst (λ (b : List ℕ). ReadsBody false 1 b (record { header = header d w; logs = d.logs; bad = None })) (sym text.0)
    (body_is_read d w false 1 (ap is_some is) (subst (λ (n : ℕ). AreAt (n + 1 + (line_count (header d w))) d.logs) text.2 at)) in
    record {
      lines = record { circuit = Absent; header = header d w; verdict_line = 2; logs = d.logs; bad = None };
      reads = without_circuit (record { header = header d w; logs = d.logs; bad = None }) (ap begins_without_circuit text.0 ∙ begins d) reads;
      good = refl;
      document = ap Some (λ k. record {
        version = d.version;
        verdict = d.verdict;
        kind = d.kind;
        max = d.max;
        entries = d.entries;
        found = d.found;
        circuit = sym is k;
        logs = d.logs;
        name_lines = sym text.1 k;
        comment_line = sym text.2 k;
        verdict_line = sym (verdict ∙ ap (λ (n : ℕ). n + 2) text.2) k;
      });
    }
text_by bytes d (Some c) is w text verdict at =
    let first : d.comment_line ≡ text.file.comment_line = text.comment_line in
    let all : all_named text.file.circuit ≡ true = ap all_named text.circuit_is ∙ subst (λ (o : Option Circuit). IfSome o (λ c. all_named c ≡ true)) is w.named in
    let reads : ReadsBody true (text.file.comment_line + 1) (drop text.at bytes) (record { header = header d w; logs = d.logs; bad = None }) =
    subst (λ (b : List ℕ). ReadsBody true (text.file.comment_line + 1) b (record { header = header d w; logs = d.logs; bad = None })) (sym text.body)
    (body_is_read d w true (text.file.comment_line + 1) (ap is_some is) (subst (λ (n : ℕ). AreAt (n + 1 + (line_count (header d w))) d.logs) text.comment_line at)) in
    record {
      lines = record { circuit = Stated text.file; header = header d w; verdict_line = text.file.comment_line + 2; logs = d.logs; bad = None };
      reads = commented text.file text.at (record { circuit = Stated text.file; header = header d w; verdict_line = text.file.comment_line + 2; logs = d.logs; bad = None })
          (begins_with_circuit bytes text.file text.states) text.states text.comment_at
          (named (record { header = header d w; logs = d.logs; bad = None }) all reads);
      good = refl;
      document = ap Some (λ k. record {
        version = d.version;
        verdict = d.verdict;
        kind = d.kind;
        max = d.max;
        entries = d.entries;
        found = d.found;
        circuit = sym (is ∙ ap Some (sym text.circuit_is)) k;
        logs = d.logs;
        name_lines = sym text.name_lines k;
        comment_line = sym text.comment_line k;
        verdict_line = sym (verdict ∙ ap (λ (n : ℕ). n + 2) text.comment_line) k;
      });
    }

pub is_read_as : (bytes : List ℕ) (d : Document) → States bytes d → IsReadAs bytes d
is_read_as bytes d s = text_by bytes d d.circuit refl s.well_formed s.text s.verdict_line s.logs

-- ---- the laws

pub all_good : (bytes : List ℕ) (lines : DocumentLines) (d : Document) → Reads bytes lines → States bytes d → (lines.bad ≡ None) × (document_of lines ≡ Some d)
all_good bytes lines d reads states =
    let r = is_read_as bytes d states in
    let same : lines ≡ r.lines = reads_same bytes lines r.lines reads r.reads in
    (ap (λ (x : DocumentLines). x.bad) same ∙ r.good, ap document_of same ∙ r.document)

pub one_document : (bytes : List ℕ) (d e : Document) → States bytes d → States bytes e → d ≡ e
one_document bytes d e a b =
    let r = is_read_as bytes d a in
    some_same (document_of r.lines) d e r.document (all_good bytes r.lines e r.reads b).1

pub one_bad_line : (bytes : List ℕ) (n m : ℕ) → IsFirstBadLine bytes n → IsFirstBadLine bytes m → n ≡ m
one_bad_line bytes n m a b = some_same a.lines.bad n m a.bad (ap (λ (x : DocumentLines). x.bad) (reads_same bytes a.lines b.lines a.reads b.reads) ∙ b.bad)

pub stated_not_bad : (bytes : List ℕ) (d : Document) (n : ℕ) → States bytes d → IsFirstBadLine bytes n → ⊥
stated_not_bad bytes d n a b = some_none b.lines.bad n b.bad (all_good bytes b.lines d b.reads a).0

-- ---- what is written is read

same_texts : (n : ℕ) (logs : List LogPart) → flat_map part_text (logs_at n logs) ≡ flat_map part_text logs
same_texts n [] = refl
same_texts n (l ∷ logs) = ap (λ (t : List ℕ). part_text l ++ t) (same_texts (n + 1 + length l.entries) logs)

same_order : (order : Order) (last : Place) (n : ℕ) (logs : List LogPart) → AreInOrder order last logs → AreInOrder order last (logs_at n logs)
same_order order last n [] is = is
same_order order last n (l ∷ logs) is = (is.0, same_order order (place l.side l.size) (n + 1 + length l.entries) logs is.1)

same_parts : (n : ℕ) (logs : List LogPart) → All IsLogPart logs → All IsLogPart (logs_at n logs)
same_parts n [] all = λ k d less. absurd (omega arith)
same_parts n (l ∷ logs) all =
    let p : IsLogPart l = all 0 l (omega arith) in
    All-cons IsLogPart (record l { line = n }) (logs_at (n + 1 + length l.entries) logs) (record { size = p.size; vars = p.vars; base = p.base; count = p.count; entries = p.entries })
    (same_parts (n + 1 + length l.entries) logs (λ k d less. all (suc k) d (omega arith)))

their_lines : (n : ℕ) (logs : List LogPart) → AreAt n (logs_at n logs)
their_lines n [] = tt
their_lines n (l ∷ logs) = (refl, their_lines (n + 1 + length l.entries) logs)

module _ (d : Document) (w : IsWellFormed d) where
  numbered_well : IsWellFormed (numbered d)
  numbered_well =
      record {
        version = w.version;
        verdict = w.verdict;
        circuit = w.circuit;
        named = w.named;
        max = w.max;
        number = w.number;
        entries = w.entries;
        found = w.found;
        order = same_order (order_of d.version d.verdict d.max d.found) (first_place (order_of d.version d.verdict d.max d.found)) (logs_line (numbered d)) d.logs w.order;
        logs = same_parts (logs_line (numbered d)) d.logs w.logs;
      }

  same_body : body_text (numbered d) ≡ body_text d
  same_body = ap (λ (t : List ℕ). lines_text d.version d.verdict d.kind d.max d.entries d.found ++ (t ++ end_text)) (same_texts (logs_line (numbered d)) d.logs)

  circuit_by : (c : Option Circuit) → d.circuit ≡ c → IfSome c CommentsAreRead → IfSome c IsWritable → HasText (document_text d) c (numbered d)
  circuit_by None is read fits = (
    ap (λ (o : Option Circuit). document_text (record d { circuit = o })) is ∙ sym same_body,
    ap (λ (o : Option Circuit). (numbered (record d { circuit = o })).name_lines) is,
    ap (λ (o : Option Circuit). (numbered (record d { circuit = o })).comment_line) is,
  )
  circuit_by (Some c) is read fits =
      let only = read (body_text d) fits in
      let whole : document_text d ≡ circuit_text c ++ comment_text (Some (body_text d)) =
      ap (λ (o : Option Circuit). document_text (record d { circuit = o })) is ∙ append_assoc (circuit_text c) (comment_text (Some [])) (body_text d) in
      record {
        file = record (written_file c) { comment_at = Some (length (circuit_text c) + 2) };
        states = subst (λ (b : List ℕ). circuit.States b (record (written_file c) { comment_at = Some (length (circuit_text c) + 2) })) (sym whole) only.states;
        circuit_is = refl;
        at = length (circuit_text c) + 2;
        comment_at = refl;
        body = ap (drop (length (circuit_text c) + 2)) whole ∙ drop-append-add (circuit_text c) (comment_text (Some (body_text d))) 2 ∙ sym same_body;
        name_lines = ap (λ (o : Option Circuit). (numbered (record d { circuit = o })).name_lines) is;
        comment_line = ap (λ (o : Option Circuit). (numbered (record d { circuit = o })).comment_line) is;
      }

  pub written_states : IfSome d.circuit CommentsAreRead → IfSome d.circuit IsWritable → States (document_text d) (numbered d)
  written_states read fits =
      record { well_formed = numbered_well; text = circuit_by d.circuit refl read fits; verdict_line = refl; logs = their_lines (logs_line (numbered d)) d.logs }

pub written_is_read : (d : Document) → IfSome d.circuit CommentsAreRead → WrittenIsRead d
written_is_read d read w fits = written_states d w read fits
