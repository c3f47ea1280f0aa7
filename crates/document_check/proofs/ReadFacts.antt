-- What holds of everything that is read of a document.
use Rattle.std.proofs.Common.{◌≡◌, ℕ, ◌+◌, ◌^◌, ◌<◌, ◌≤◌, ◌==◌, Bool, true, false, cond, Option, Some, None, List, [], ◌∷◌, length, drop, refl, sym, ap, subst, ◌∙◌, arith}
use Rattle.std.specs.Prelude.{All, IfSome, codes}
use Rattle.std.proofs.lemmas.List.{length-append}
use Rattle.std.proofs.lemmas.List.Elements.{All-cons}
use Rattle.letters_and_lassos.specs.declared.kinds.Kind.{Kind}
use Rattle.refutation_log.specs.declared.entries.Entry.{Entry}
use Rattle.aiger_text.specs.CircuitFile.{File}
use Rattle.document_text.specs.declared.documents.Verdict.{Verdict}
use Rattle.document_text.specs.declared.header.Header.{Header}
use Rattle.document_text.specs.declared.logs.Head.{Head}
use Rattle.document_text.specs.declared.order.Order.{Order}
use Rattle.document_text.specs.declared.order.Place.{Place}
use Rattle.document_text.specs.Order.{fits_max, has_its_place, may_tell_found, first_place}
use Rattle.document_text.specs.Header.{HeaderRead, entries_in, found_at, found_in, front, header_of, kind_in, max_in, on_entries, on_found, on_kind, on_max, on_verdict, on_version, verdict_in, version_in}
use Rattle.document_text.specs.Logs.{LogsRead, ReadsLogs, ended, no_head, stopped, whole, AreFirstEntries, next_head, part_of}
use Rattle.document_text.specs.Reading.{BodyRead, DocumentLines, ReadsBody, of_header, of_logs, ReadsBehind, unnamed, named, Reads, without_circuit, of_fault, uncommented, commented, line_count, order_in}
use Rattle.document_text.proofs.LineRead.{front_is, range_is}
use Rattle.document_text.proofs.EntriesLemmas.{stated_length}
use Rattle.document_text.proofs.HeaderWhole.{good_header, lines_text}
use Rattle.document_text.proofs.CommentLine.{comment_fits}
use Rattle.document_check.specs.Shown.{IsReadable}

-- ---- logs can be tested

none_readable : All IsReadable []
none_readable = λ k d less. absurd (omega arith)

module _ (order : Order) (last : Place) (n : ℕ) (bytes tail rest : List ℕ) (head : Head) (entries : List Entry) where
  fit : front (next_head order last) bytes ≡ Some (head, tail) → AreFirstEntries head.vars head.count tail entries rest
      → n + 1 + length entries + length rest ≤ n + length bytes
  fit next are =
      let f = front_is (next_head order last) bytes head tail next in
      let size : length bytes ≡ length f.line + length (10 ∷ tail) = ap length f.bytes_are ∙ length-append f.line (10 ∷ tail) in
      let e = stated_length head.vars tail entries rest are.stated in
      omega (arith, size, e)

  part_readable : n + length bytes + 2 < 2 ^ 64 → front (next_head order last) bytes ≡ Some (head, tail) → AreFirstEntries head.vars head.count tail entries rest
      → IsReadable (part_of head entries n)
  part_readable small next are = let f = fit next are in record { entries = are.stated.writable; lines = omega (arith, f, small) }

logs_readable : (order : Order) (last : Place) (n : ℕ) (bytes : List ℕ) (read : LogsRead) → ReadsLogs order last n bytes read → n + length bytes + 2 < 2 ^ 64 → All IsReadable read.logs
logs_readable order last n bytes read (ended l m bs r e) small = none_readable
logs_readable order last n bytes read (no_head l m bs e f) small = none_readable
logs_readable order last n bytes read (stopped l m bs h t xs r e f g few) small =
    All-cons IsReadable (part_of h xs n) [] (part_readable order last n bytes t r h xs small f g) none_readable
logs_readable order last n bytes read (whole l m bs h t xs r more e f g all on) small =
    let le = fit order last n bytes t r h xs f g in
    All-cons IsReadable (part_of h xs n) more.logs (part_readable order last n bytes t r h xs small f g)
    (logs_readable order (record { side = h.side; size = h.size }) (n + 1 + length xs) r more on (omega (arith, le, small)))

few_lines : (h : Header) → line_count h ≤ 6
few_lines h = by (h.found == 0)
  where
    by : (b : Bool) → cond b 5 6 ≤ 6
    by true = omega arith
    by false = omega arith

body_readable : (circuit : Bool) (first : ℕ) (bytes : List ℕ) (body : BodyRead) → ReadsBody circuit first bytes body → first + length bytes + 10 < 2 ^ 64 → All IsReadable body.logs
body_readable circuit first bytes body (of_header n e) small = none_readable
body_readable circuit first bytes body (of_logs more e reads) small =
    let g = good_header circuit first bytes e in
    let n : length bytes ≡ length (lines_text g.version g.verdict g.kind g.max g.entries g.found) + length g.rest =
    ap length g.text ∙ length-append (lines_text g.version g.verdict g.kind g.max g.entries g.found) g.rest in
    let m : length (header_of circuit first bytes).rest ≡ length g.rest = ap (λ (x : HeaderRead). length x.rest) g.read in
    let k = few_lines (header_of circuit first bytes).header in
    logs_readable (order_in (header_of circuit first bytes).header) (first_place (order_in (header_of circuit first bytes).header))
    (first + line_count (header_of circuit first bytes).header) (header_of circuit first bytes).rest more reads (omega (arith, n, m, k, small))

-- ---- the greatest size is at most 8

abbrev IsSmall : Header → Type 0
IsSmall h = IfSome h.max (λ max. max ≤ 8)

small_found : (h : Header) (bytes : List ℕ) (o : Option (ℕ × List ℕ)) → IsSmall h → IsSmall (on_found h bytes o).header
small_found h bytes None is = is
small_found h bytes (Some p) is = is

small_at : (h : Header) (may : Bool) (max : ℕ) (bytes : List ℕ) → IsSmall h → IsSmall (found_at h may max bytes).header
small_at h true max bytes is = small_found h bytes (front (found_in max) bytes) is
small_at h false max bytes is = is

small_entries : (h : Header) (first version : ℕ) (verdict : Verdict) (max : ℕ) (o : Option (Option ℕ × List ℕ)) → IsSmall h → IsSmall (on_entries h first version verdict max o).header
small_entries h first version verdict max None is = is
small_entries h first version verdict max (Some p) is = small_at (record h { entries = Some p.0 }) (may_tell_found version verdict) max p.1 is

small_max : (h : Header) (first version : ℕ) (verdict : Verdict) (bytes : List ℕ) (o : Option (ℕ × List ℕ)) → h.max ≡ None → front max_in bytes ≡ o → IsSmall (on_max h first version verdict o).header
small_max h first version verdict bytes None none e = subst (λ (o : Option ℕ). IfSome o (λ max. max ≤ 8)) (sym none) tt
small_max h first version verdict bytes (Some p) none e = by (fits_max p.0 verdict)
  where
    few : p.0 ≤ 8
    few = let f = front_is max_in bytes p.0 p.1 e in (range_is (codes "max ") f.line 1 8 p.0 (omega arith) f.read).2

    by : (b : Bool) → IsSmall (cond b (on_entries (record h { max = Some p.0 }) first version verdict p.0 (front entries_in p.1)) (record { header = record h { max = Some p.0; bad = Some (first + 1) }; rest = [] })).header
    by true = small_entries (record h { max = Some p.0 }) first version verdict p.0 (front entries_in p.1) few
    by false = few

small_kind : (h : Header) (first version : ℕ) (verdict : Verdict) (o : Option (Kind × List ℕ)) → h.max ≡ None → IsSmall (on_kind h first version verdict o).header
small_kind h first version verdict None none = subst (λ (o : Option ℕ). IfSome o (λ max. max ≤ 8)) (sym none) tt
small_kind h first version verdict (Some p) none = small_max (record h { kind = Some p.0 }) first version verdict p.1 (front max_in p.1) none refl

small_verdict : (h : Header) (circuit : Bool) (first version : ℕ) (o : Option (Verdict × List ℕ)) → h.max ≡ None → IsSmall (on_verdict h circuit first version o).header
small_verdict h circuit first version None none = subst (λ (o : Option ℕ). IfSome o (λ max. max ≤ 8)) (sym none) tt
small_verdict h circuit first version (Some p) none = by (has_its_place circuit p.0)
  where
    by : (b : Bool) → IsSmall (cond b (on_kind (record h { verdict = Some p.0 }) first version p.0 (front kind_in p.1)) (record { header = record h { verdict = Some p.0; bad = Some (first + 1) }; rest = [] })).header
    by true = small_kind (record h { verdict = Some p.0 }) first version p.0 (front kind_in p.1) none
    by false = subst (λ (o : Option ℕ). IfSome o (λ max. max ≤ 8)) (sym none) tt

small_version : (circuit : Bool) (first : ℕ) (o : Option (ℕ × List ℕ)) → IsSmall (on_version circuit first o).header
small_version circuit first None = tt
small_version circuit first (Some p) = small_verdict (record { version = Some p.0; verdict = None; kind = None; max = None; entries = None; found = 0; bad = None }) circuit first p.0 (front (verdict_in p.0) p.1) refl

header_small : (circuit : Bool) (first : ℕ) (bytes : List ℕ) → IsSmall (header_of circuit first bytes).header
header_small circuit first bytes = small_version circuit first (front version_in bytes)

body_small : (circuit : Bool) (first : ℕ) (bytes : List ℕ) (body : BodyRead) → ReadsBody circuit first bytes body → IsSmall body.header
body_small circuit first bytes body (of_header n e) = header_small circuit first bytes
body_small circuit first bytes body (of_logs more e reads) = header_small circuit first bytes

-- ---- the whole

-- the lines of a document are few, its logs can be tested, and its greatest size is at most 8
pub record AreFit (lines : DocumentLines) : Type 0 where
  pub logs : All IsReadable lines.logs
  pub verdict_line : lines.verdict_line + 5 < 2 ^ 64
  pub max : IfSome lines.header.max (λ max. max ≤ 8)

behind_fit : (file : File) (comment : List ℕ) (lines : DocumentLines) → ReadsBehind file comment lines → file.comment_line + length comment + 16 < 2 ^ 64 → AreFit lines
behind_fit file comment lines (unnamed e) small =
    record { logs = none_readable; verdict_line = omega arith; max = header_small true (file.comment_line + 1) comment }
behind_fit file comment lines (named body e reads) small =
    record {
      logs = body_readable true (file.comment_line + 1) comment body reads (omega arith);
      verdict_line = omega arith;
      max = body_small true (file.comment_line + 1) comment body reads;
    }

pub reads_fit : (bytes : List ℕ) (lines : DocumentLines) → length bytes < 2 ^ 63 → Reads bytes lines → AreFit lines
reads_fit bytes lines small (without_circuit body e reads) =
    record { logs = body_readable false 1 bytes body reads (omega arith); verdict_line = omega arith; max = body_small false 1 bytes body reads }
reads_fit bytes lines small (of_fault fault e x) = record { logs = none_readable; verdict_line = omega arith; max = tt }
reads_fit bytes lines small (uncommented file e s n) = record { logs = none_readable; verdict_line = omega arith; max = tt }
reads_fit bytes lines small (commented file at lines' e s n reads) =
    let le = comment_fits bytes file at s n in
    behind_fit file (drop at bytes) lines reads (omega (arith, le, small))
