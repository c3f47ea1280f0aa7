-- The logs as a whole: all of them are there exactly where their text stands there, in order.
use Rattle.std.proofs.Common.{◌≡◌, ℕ, suc, ◌+◌, ◌<◌, Option, Some, List, [], ◌∷◌, ◌++◌, length, refl, sym, ap, subst, ◌∙◌, arith, append_assoc}
use Rattle.std.specs.Prelude.{All, unwrap_or, flat_map}
use Rattle.std.proofs.lemmas.List.Elements.{All-cons}
use Rattle.refutation_log.specs.declared.entries.Entry.{Entry}
use Rattle.refutation_log.specs.Text.{log_text}
use Rattle.aiger_text.specs.CircuitText.{text_of_lines}
use Rattle.document_text.specs.Header.{front}
use Rattle.document_text.specs.Logs.{AreFirstEntries}
use Rattle.document_text.proofs.LineRead.{front_is, front_read}
use Rattle.document_text.proofs.HeaderWhole.{first_line}
use Rattle.solved_text.specs.declared.heads.Head.{Head}
use Rattle.solved_text.specs.Parts.{SizeLog}
use Rattle.solved_text.specs.Lines.{head_line, log_part}
use Rattle.solved_text.specs.Logs.{LogsRead, ReadsLogs, ended, no_head, stopped, whole, head_in, log_of}
use Rattle.solved_text.specs.States.{AreInOrder, IsSizeLog}
use Rattle.solved_text.proofs.HeadLemmas.{line_of, head_is, head_lacks, head_read}

-- ---- what is read is the text

-- logs of which none is missing, with what stands behind them
pub record GoodLogs (refuted last n : ℕ) (bytes : List ℕ) (logs : List SizeLog) (rest : List ℕ) : Type 0 where
  pub text : bytes ≡ flat_map log_part logs ++ rest
  pub so_many : last + length logs ≡ refuted
  pub in_order : AreInOrder last n logs
  pub parts : All IsSizeLog logs

no_parts : All IsSizeLog []
no_parts = λ k d less. absurd (omega arith)

one_log : (refuted last n : ℕ) (bytes tail behind rest : List ℕ) (head : Head) (entries : List Entry) (logs : List SizeLog)
    → front (head_in (last + 1)) bytes ≡ Some (head, tail) → AreFirstEntries head.vars head.count tail entries behind → length entries ≡ head.count
    → GoodLogs refuted (last + 1) (n + 1 + length entries) behind logs rest → GoodLogs refuted last n bytes (log_of head entries n ∷ logs) rest
one_log refuted last n bytes tail behind rest head entries logs next are count more =
    let f = front_is (head_in (last + 1)) bytes head tail next in
    let h = head_is (last + 1) f.line head f.read in
    let size = h.fit.count in
    let so_many = more.so_many in
    let line : f.line ≡ head_line head.size head.letters head.vars head.base (length entries) =
    h.line_is ∙ ap (λ (n : ℕ). head_line head.size head.letters head.vars head.base n) (sym count) in
    let below : tail ≡ log_text entries ++ (flat_map log_part logs ++ rest) = are.stated.text ∙ ap (λ (r : List ℕ). log_text entries ++ r) more.text in
    record {
      text = f.bytes_are ∙ (λ k. line k ++ 10 ∷ below k)
          ∙ first_line (head_line head.size head.letters head.vars head.base (length entries)) [] (log_text entries ++ (flat_map log_part logs ++ rest))
          ∙ sym (append_assoc (text_of_lines (head_line head.size head.letters head.vars head.base (length entries) ∷ [])) (log_text entries) (flat_map log_part logs ++ rest))
          ∙ sym (append_assoc (log_part (log_of head entries n)) (flat_map log_part logs) rest);
      so_many = omega (arith, so_many);
      in_order = (h.size_is, refl, more.in_order);
      parts = All-cons IsSizeLog (log_of head entries n) logs
          (record { size = h.fit.size; letters = h.letters; vars = h.fit.vars; base = h.fit.base; count = omega (arith, count, size); entries = are.stated.writable }) more.parts;
    }

pub good_logs : (refuted last n : ℕ) (bytes : List ℕ) (read : LogsRead) → ReadsLogs refuted last n bytes read → (rest : List ℕ) → read.rest ≡ Some rest → GoodLogs refuted last n bytes read.logs rest
good_logs refuted last n bytes read (ended l m bs e) rest is =
    record { text = ap (λ (o : Option (List ℕ)). unwrap_or o []) is; so_many = omega (arith, e); in_order = tt; parts = no_parts }
good_logs refuted last n bytes read (no_head l m bs e f) rest is = absurd (cc)
good_logs refuted last n bytes read (stopped l m bs h t xs r e f g few) rest is = absurd (cc)
good_logs refuted last n bytes read (whole l m bs h t xs r more e f g all on) rest is =
    one_log refuted last n bytes t r rest h xs more.logs f g all (good_logs refuted (last + 1) (n + 1 + length xs) r more on rest is)

-- ---- the text is read

abbrev head_with : SizeLog → Head
head_with l = record { size = l.size; letters = l.letters; vars = l.vars; base = l.base; count = length l.entries }

-- a log's text and what is behind it
abbrev from_head : SizeLog → List ℕ → List ℕ
from_head l rest = head_line l.size l.letters l.vars l.base (length l.entries) ++ 10 ∷ (log_text l.entries ++ rest)

logs_cons : (l : SizeLog) (logs : List SizeLog) (rest : List ℕ) → flat_map log_part (l ∷ logs) ++ rest ≡ from_head l (flat_map log_part logs ++ rest)
logs_cons l logs rest =
    append_assoc (log_part l) (flat_map log_part logs) rest
    ∙ append_assoc (text_of_lines (head_line l.size l.letters l.vars l.base (length l.entries) ∷ [])) (log_text l.entries) (flat_map log_part logs ++ rest)
    ∙ sym (first_line (head_line l.size l.letters l.vars l.base (length l.entries)) [] (log_text l.entries ++ (flat_map log_part logs ++ rest)))

at_its_line : (l : SizeLog) (n : ℕ) → l.line ≡ n → log_of (head_with l) l.entries n ≡ l
at_its_line l n is = λ k. record { size = l.size; letters = l.letters; vars = l.vars; base = l.base; entries = l.entries; line = sym is k }

-- the line behind logs
abbrev pub line_after : ℕ → List SizeLog → ℕ
line_after n [] = n
line_after n (l ∷ logs) = line_after (n + 1 + length l.entries) logs

next_read : (last : ℕ) (l : SizeLog) (rest : List ℕ) → l.size ≡ last + 1 → IsSizeLog l → front (head_in (last + 1)) (from_head l rest) ≡ Some (head_with l, log_text l.entries ++ rest)
next_read last l rest size part =
    let read : head_in (last + 1) (line_of (head_with l)) ≡ Some (head_with l) =
    ap (λ (n : ℕ). head_in n (line_of (head_with l))) (sym size)
    ∙ head_read (head_with l) (record { size = part.size; vars = part.vars; base = part.base; count = part.count }) part.letters in
    front_read (head_in (last + 1)) (line_of (head_with l)) (log_text l.entries ++ rest) (head_with l)
    (head_lacks (head_with l) (record { size = part.size; vars = part.vars; base = part.base; count = part.count }) part.letters) read

pub logs_read : (refuted last n : ℕ) (logs : List SizeLog) (rest : List ℕ) → last + length logs ≡ refuted → AreInOrder last n logs → All IsSizeLog logs
    → ReadsLogs refuted last n (flat_map log_part logs ++ rest) (record { logs = logs; line = line_after n logs; rest = Some rest })
logs_read refuted last n [] rest so_many in_order parts = ended last n rest (omega (arith, so_many))
logs_read refuted last n (l ∷ logs) rest so_many in_order parts =
    let part : IsSizeLog l = parts 0 l (omega arith) in
    let less : last < refuted = omega (arith, so_many) in
    let later : ReadsLogs refuted (last + 1) (n + 1 + length l.entries) (flat_map log_part logs ++ rest)
    (record { logs = logs; line = line_after (n + 1 + length l.entries) logs; rest = Some rest }) =
    logs_read refuted (last + 1) (n + 1 + length l.entries) logs rest (omega (arith, so_many)) in_order.2 (λ k d less. parts (suc k) d (omega arith)) in
    subst (λ (b : List ℕ). ReadsLogs refuted last n b (record { logs = l ∷ logs; line = line_after n (l ∷ logs); rest = Some rest })) (sym (logs_cons l logs rest))
    (subst (λ (p : SizeLog). ReadsLogs refuted last n (from_head l (flat_map log_part logs ++ rest)) (record { logs = p ∷ logs; line = line_after n (l ∷ logs); rest = Some rest })) (at_its_line l n in_order.1)
    (whole last n (from_head l (flat_map log_part logs ++ rest)) (head_with l) (log_text l.entries ++ (flat_map log_part logs ++ rest)) l.entries (flat_map log_part logs ++ rest)
    (record { logs = logs; line = line_after (n + 1 + length l.entries) logs; rest = Some rest })
    less (next_read last l (flat_map log_part logs ++ rest) in_order.0 part)
    (record { stated = record { writable = part.entries; text = refl }; at_most = omega arith; stop = λ less. absurd (omega arith) }) refl later))
