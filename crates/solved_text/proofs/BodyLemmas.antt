-- What stands behind a header and behind logs is of the bytes.
use Rattle.std.proofs.Common.{◌≡◌, ℕ, ◌+◌, ◌^◌, ◌<◌, ◌≤◌, Bool, true, false, Option, Some, None, List, ◌++◌, length, refl, sym, ap, subst, ◌∙◌, arith, Bor}
use Rattle.std.specs.Prelude.{IfSome}
use Rattle.std.specs.Option.{option_copied}
use Rattle.std.proofs.lemmas.List.{length-append}
use Rattle.aiger_text.specs.CircuitFile.{File}
use Rattle.document_text.specs.declared.reading.CircuitPart.TheVariants.{Stated}
use Rattle.document_text.specs.Reading.{all_named}
use Rattle.solved_text.specs.Header.{HeaderRead, header_of}
use Rattle.solved_text.specs.Logs.{LogsRead, ReadsLogs}
use Rattle.solved_text.specs.Reading.{ReadsBehind, RestRead, SolvedLines, lines_with, no_rest, unnamed}
use Rattle.solved_text.proofs.HeaderWhole.{GoodHeader, good_header, line_behind, lines_before, refuted_lines, refuted_part, semantics_lines}
use Rattle.solved_text.proofs.LogLemmas.{logs_fit}

few_semantics : (converted : Bool) → semantics_lines converted ≤ 1
few_semantics true = omega arith
few_semantics false = omega arith

few_refuted : (refuted : Option ℕ) → refuted_lines refuted ≤ 1
few_refuted None = omega arith
few_refuted (Some refuted) = omega arith

good_fits : (circuit : Bool) (first : ℕ) (bytes : List ℕ) (read : HeaderRead) → GoodHeader circuit first bytes read → read.line + length read.rest ≤ first + length bytes + 5
good_fits circuit first bytes read h =
    let n : length bytes ≡ length (lines_before h.verdict h.kind h.converted) + length (refuted_part h.refuted ++ h.rest) =
    ap length h.text ∙ length-append (lines_before h.verdict h.kind h.converted) (refuted_part h.refuted ++ h.rest) in
    let m : length (refuted_part h.refuted ++ h.rest) ≡ length (refuted_part h.refuted) + length h.rest = length-append (refuted_part h.refuted) h.rest in
    let s = few_semantics h.converted in
    let r = few_refuted h.refuted in
    let here : line_behind first h.converted h.refuted + length h.rest ≤ first + length bytes + 5 = omega (arith, n, m, s, r) in
    subst (λ (x : HeaderRead). x.line + length x.rest ≤ first + length bytes + 5) (sym h.read_is) here

-- what is behind a header is of the bytes
pub header_fits : (circuit : Bool) (first : ℕ) (bytes : List ℕ) (found : HeaderRead) → header_of circuit first bytes ≡ found → found.header.bad ≡ None
    → found.line + length found.rest ≤ first + length bytes + 5
header_fits circuit first bytes found is none =
    subst (λ (x : HeaderRead). x.line + length x.rest ≤ first + length bytes + 5) is
    (good_fits circuit first bytes (header_of circuit first bytes) (good_header circuit first bytes (ap (λ (x : HeaderRead). x.header.bad) is ∙ none)))

-- and so is what is behind logs
room_by : (line most : ℕ) (o : Option (Bor (List ℕ))) → ((text : List ℕ) → option_copied o ≡ Some text → line + length text ≤ most) → most + 1 < 2 ^ 64
    → IfSome o (λ text. line + length text.now + 1 < 2 ^ 64)
room_by line most None fits room = tt
room_by line most (Some text) fits room = let le = fits text.now refl in omega (arith, le, room)

pub logs_room : (refuted n : ℕ) (bytes : List ℕ) (read : LogsRead) (o : Option (Bor (List ℕ))) → ReadsLogs refuted 0 n bytes read → option_copied o ≡ read.rest → n + length bytes + 2 < 2 ^ 64
    → IfSome o (λ text. read.line + length text.now + 1 < 2 ^ 64)
logs_room refuted n bytes read o reads is room =
    room_by read.line (n + length bytes) o (λ text e. logs_fit refuted 0 n bytes read reads text (sym is ∙ e)) (omega (arith, room))

-- what is read of a circuit that lacks a name
pub unnamed_reads : (bytes : List ℕ) (file : File) (comment : List ℕ) (line : ℕ) (header : HeaderRead) (rest : RestRead) → file.comment_line ≡ line → all_named file.circuit ≡ false
    → header ≡ header_of true (line + 1) comment → rest ≡ no_rest line
    → ReadsBehind bytes file comment (lines_with bytes (Stated file) (line + 2) (record { header = header.header; rest = rest }))
unnamed_reads bytes file comment line header rest l e h r =
    let header_is : header_of true (file.comment_line + 1) comment ≡ header = ap (λ (n : ℕ). header_of true (n + 1) comment) l ∙ sym h in
    let rest_is : no_rest file.comment_line ≡ rest = ap no_rest l ∙ sym r in
    subst (λ (x : SolvedLines). ReadsBehind bytes file comment x)
    (λ k. lines_with bytes (Stated file) (l k + 2) (record { header = (header_is k).header; rest = rest_is k })) (unnamed e)
