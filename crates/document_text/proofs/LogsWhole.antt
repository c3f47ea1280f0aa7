-- The logs as a whole: no line of them is bad exactly where their text stands there, in order.
use Rattle.std.proofs.Common.{◌≡◌, ℕ, suc, ◌+◌, Bool, true, false, cond, Option, Some, None, List, [], ◌∷◌, ◌++◌, length, refl, sym, ap, subst, ◌∙◌, arith, append_assoc}
use Rattle.std.specs.Prelude.{All}
use Rattle.std.specs.List.{flat_map}
use Rattle.std.proofs.lemmas.List.Elements.{All-cons}
use Rattle.letters_and_lassos.specs.declared.kinds.Side.{Side}
use Rattle.letters_and_lassos.specs.declared.kinds.Side.TheVariants.{System, Environment}
use Rattle.refutation_log.specs.declared.entries.Entry.{Entry}
use Rattle.refutation_log.specs.Text.{log_text}
use Rattle.aiger_text.specs.CircuitText.{text_of_lines, numbers_line}
use Rattle.document_text.specs.declared.logs.Head.{Head}
use Rattle.document_text.specs.declared.order.Order.{Order}
use Rattle.document_text.specs.declared.order.Place.{Place}
use Rattle.document_text.specs.Parts.{LogPart}
use Rattle.document_text.specs.Lines.{part_text, logs_text, end_text, log_words, head_line}
use Rattle.document_text.specs.Order.{place, may_end, AreInOrder}
use Rattle.document_text.specs.Header.{front, found_in, behind}
use Rattle.document_text.specs.Logs.{LogsRead, ReadsLogs, ended, no_head, stopped, whole, AreFirstEntries, bad_behind, behind_end, next_head, part_of}
use Rattle.document_text.specs.WellFormed.{IsLogPart}
use Rattle.document_text.specs.States.{AreAt}
use Rattle.document_text.proofs.LineRead.{behind_is, front_is, front_read, front_none}
use Rattle.document_text.proofs.HeadRead.{HasSizes, line_of, next_is, next_read, head_lacks}
use Rattle.document_text.proofs.HeaderWhole.{first_line}

-- ---- what is read is the text

-- logs without a bad line
pub record GoodLogs (order : Order) (last : Place) (n : ℕ) (bytes : List ℕ) (logs : List LogPart) : Type 0 where
  pub text : bytes ≡ logs_text logs
  pub in_order : AreInOrder order last logs
  pub at : AreAt n logs
  pub parts : All IsLogPart logs

no_parts : All IsLogPart []
no_parts = λ k d less. absurd (omega arith)

module _ (order : Order) where
  end_by : (last : Place) (bytes rest : List ℕ) (b : Bool) → may_end order last ≡ b → cond b (behind end_text bytes) None ≡ Some rest
      → (may_end order last ≡ true) × (bytes ≡ end_text ++ rest)
  end_by last bytes rest true e is = (e, behind_is end_text bytes rest is)
  end_by last bytes rest false e is = absurd (cc)

  end_is : (last : Place) (n : ℕ) (bytes rest : List ℕ) → behind_end order last bytes ≡ Some rest → bad_behind n rest ≡ None → GoodLogs order last n bytes []
  end_is last n bytes [] is good =
      let k = end_by last bytes [] (may_end order last) refl is in
      record { text = k.1; in_order = k.0; at = tt; parts = no_parts }
  end_is last n bytes (b ∷ rest) is good = absurd (cc)

  one_part : (last : Place) (n : ℕ) (bytes tail rest : List ℕ) (head : Head) (entries : List Entry) (logs : List LogPart)
      → front (next_head order last) bytes ≡ Some (head, tail) → AreFirstEntries head.vars head.count tail entries rest → length entries ≡ head.count
      → GoodLogs order (place head.side head.size) (n + 1 + length entries) rest logs → GoodLogs order last n bytes (part_of head entries n ∷ logs)
  one_part last n bytes tail rest head entries logs next are count more =
      let f = front_is (next_head order last) bytes head tail next in
      let h = next_is order last f.line head f.read in
      let sizes = h.0.sizes in
      let size = sizes.count in
      let line : f.line ≡ head_line head.side head.size head.vars head.base (length entries) =
      h.0.line_is ∙ ap (λ (n : ℕ). head_line head.side head.size head.vars head.base n) (sym count) in
      let behind : tail ≡ log_text entries ++ logs_text logs = are.stated.text ∙ ap (λ (r : List ℕ). log_text entries ++ r) more.text in
      record {
        text = f.bytes_are ∙ (λ k. line k ++ 10 ∷ behind k)
            ∙ first_line (head_line head.side head.size head.vars head.base (length entries)) [] (log_text entries ++ logs_text logs)
            ∙ sym (append_assoc (text_of_lines (head_line head.side head.size head.vars head.base (length entries) ∷ [])) (log_text entries) (logs_text logs))
            ∙ sym (append_assoc (part_text (part_of head entries n)) (flat_map part_text logs) end_text);
        in_order = (h.1, more.in_order);
        at = (refl, more.at);
        parts = All-cons IsLogPart (part_of head entries n) logs
            (record { size = sizes.size; vars = sizes.vars; base = sizes.base; count = omega (arith, count, size); entries = are.stated.writable }) more.parts;
      }

  pub good_logs : (last : Place) (n : ℕ) (bytes : List ℕ) (read : LogsRead) → ReadsLogs order last n bytes read → read.bad ≡ None → GoodLogs order last n bytes read.logs
  good_logs last n bytes read (ended l m bs rest e) good = end_is last n bytes rest e good
  good_logs last n bytes read (no_head l m bs e f) good = absurd (cc)
  good_logs last n bytes read (stopped l m bs h t xs r e f g few) good = absurd (cc)
  good_logs last n bytes read (whole l m bs h t xs r more e f g all on) good =
      one_part last n bytes t r h xs more.logs f g all (good_logs (place h.side h.size) (n + 1 + length xs) r more on good)

-- ---- the text is read

abbrev head_of : LogPart → Head
head_of l = record { side = l.side; size = l.size; vars = l.vars; base = l.base; count = length l.entries }

-- a log's text and what is behind it
abbrev from_head : LogPart → List ℕ → List ℕ
from_head l rest = head_line l.side l.size l.vars l.base (length l.entries) ++ 10 ∷ (log_text l.entries ++ rest)

logs_cons : (l : LogPart) (logs : List LogPart) → logs_text (l ∷ logs) ≡ from_head l (logs_text logs)
logs_cons l logs =
    append_assoc (part_text l) (flat_map part_text logs) end_text
    ∙ append_assoc (text_of_lines (head_line l.side l.size l.vars l.base (length l.entries) ∷ [])) (log_text l.entries) (logs_text logs)
    ∙ sym (first_line (head_line l.side l.size l.vars l.base (length l.entries)) [] (log_text l.entries ++ logs_text logs))

-- no head begins as the line `end`
not_end : (side : Side) (numbers rest : List ℕ) → behind end_text ((log_words side ++ numbers) ++ rest) ≡ None
not_end System numbers rest = refl
not_end Environment numbers rest = refl

none_both : {X : Type 0} (b : Bool) → cond b None None ≡ (let n : Option X = None in n)
none_both true = refl
none_both false = refl

module _ (order : Order) where
  head_not_end : (last : Place) (l : LogPart) (rest : List ℕ) → behind_end order last (from_head l rest) ≡ None
  head_not_end last l rest =
      ap (λ (o : Option (List ℕ)). cond (may_end order last) o None)
      (not_end l.side (numbers_line (l.size ∷ l.vars ∷ l.base ∷ length l.entries ∷ [])) (10 ∷ (log_text l.entries ++ rest)))
      ∙ none_both (may_end order last)

  end_read : (last : Place) → may_end order last ≡ true → behind_end order last end_text ≡ Some []
  end_read last is = ap (λ b. cond b (behind end_text end_text) None) is

  at_its_line : (l : LogPart) (n : ℕ) → l.line ≡ n → part_of (head_of l) l.entries n ≡ l
  at_its_line l n is = λ k. record { side = l.side; size = l.size; vars = l.vars; base = l.base; entries = l.entries; line = sym is k }

  pub logs_read : (last : Place) (n : ℕ) (logs : List LogPart) → AreInOrder order last logs → AreAt n logs → All IsLogPart logs
      → ReadsLogs order last n (logs_text logs) (record { logs = logs; bad = None })
  logs_read last n [] in_order at parts = ended last n end_text [] (end_read last in_order)
  logs_read last n (l ∷ logs) in_order at parts =
      let part : IsLogPart l = parts 0 l (omega arith) in
      let fits : HasSizes (head_of l) = record { size = part.size; vars = part.vars; base = part.base; count = part.count } in
      let rest : ReadsLogs order (place l.side l.size) (n + 1 + length l.entries) (logs_text logs) (record { logs = logs; bad = None }) =
      logs_read (place l.side l.size) (n + 1 + length l.entries) logs in_order.1 at.1 (λ k d less. parts (suc k) d (omega arith)) in
      let next : front (next_head order last) (from_head l (logs_text logs)) ≡ Some (head_of l, log_text l.entries ++ logs_text logs) =
      front_read (next_head order last) (line_of (head_of l)) (log_text l.entries ++ logs_text logs) (head_of l) (head_lacks (head_of l) fits) (next_read order last (head_of l) fits in_order.0) in
      subst (λ (b : List ℕ). ReadsLogs order last n b (record { logs = l ∷ logs; bad = None })) (sym (logs_cons l logs))
      (subst (λ (p : LogPart). ReadsLogs order last n (from_head l (logs_text logs)) (record { logs = p ∷ logs; bad = None })) (at_its_line l n at.0)
      (whole last n (from_head l (logs_text logs)) (head_of l) (log_text l.entries ++ logs_text logs) l.entries (logs_text logs) (record { logs = logs; bad = None })
      (head_not_end last l (logs_text logs)) next
      (record { stated = record { writable = part.entries; text = refl }; at_most = omega arith; stop = λ less. absurd (omega arith) }) refl rest))

-- no line of a log, nor the line `end`, tells of a machine that was found
found_words : (max : ℕ) (side : Side) (numbers : List ℕ) → found_in max (log_words side ++ numbers) ≡ None
found_words max System numbers = refl
found_words max Environment numbers = refl

pub no_found : (max : ℕ) (logs : List LogPart) → All IsLogPart logs → front (found_in max) (logs_text logs) ≡ None
no_found max [] parts = refl
no_found max (l ∷ logs) parts =
    let part : IsLogPart l = parts 0 l (omega arith) in
    let fits : HasSizes (head_of l) = record { size = part.size; vars = part.vars; base = part.base; count = part.count } in
    ap (front (found_in max)) (logs_cons l logs)
    ∙ front_none (found_in max) (line_of (head_of l)) (log_text l.entries ++ logs_text logs) (head_lacks (head_of l) fits)
    (found_words max l.side (numbers_line (l.size ∷ l.vars ∷ l.base ∷ length l.entries ∷ [])))
