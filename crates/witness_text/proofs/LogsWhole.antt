-- The proofs as a whole: all of them are there exactly where their text stands there.
use Rattle.std.proofs.Common.{◌≡◌, ℕ, suc, ◌+◌, ◌<◌, Option, Some, List, [], ◌∷◌, ◌++◌, length, refl, sym, ap, subst, ◌∙◌, arith, append_assoc}
use Rattle.std.specs.Prelude.{All, unwrap_or}
use Rattle.refutation_log.specs.declared.entries.Entry.{Entry}
use Rattle.refutation_log.specs.Text.{log_text}
use Rattle.aiger_text.specs.CircuitText.{text_of_lines}
use Rattle.document_text.specs.Header.{front}
use Rattle.document_text.specs.Logs.{AreFirstEntries}
use Rattle.document_text.proofs.LineRead.{front_is, front_read}
use Rattle.document_text.proofs.HeaderWhole.{first_line}
use Rattle.truth_witness.specs.Logs.{ObligationLog}
use Rattle.witness_text.specs.declared.logs.ProofHead.{ProofHead}
use Rattle.witness_text.specs.Forms.{head_in}
use Rattle.witness_text.specs.Lines.{proof_line, proof_part, proofs_text}
use Rattle.witness_text.specs.Logs.{LogsRead, ReadsLogs, ended, no_head, stopped, whole, log_of}
use Rattle.witness_text.specs.Places.{lines_of_logs}
use Rattle.witness_text.specs.States.{IsLog}
use Rattle.witness_text.proofs.HeadLemmas.{FitHead, head_is, head_lacks, head_read, line_of}

-- ---- what is read is the text

-- proofs of which none is missing, with what stands behind them
pub record GoodLogs (count k : ℕ) (bytes : List ℕ) (logs : List ObligationLog) (rest : List ℕ) : Type 0 where
  pub text : bytes ≡ proofs_text k logs ++ rest
  pub so_many : k + length logs ≡ count

one_log : (count k : ℕ) (bytes tail behind rest : List ℕ) (head : ProofHead) (entries : List Entry) (logs : List ObligationLog)
    → front (head_in k) bytes ≡ Some (head, tail) → AreFirstEntries head.vars head.count tail entries behind → length entries ≡ head.count
    → GoodLogs count (k + 1) behind logs rest → GoodLogs count k bytes (log_of head entries ∷ logs) rest
one_log count k bytes tail behind rest head entries logs next are so_many more =
    let f = front_is (head_in k) bytes head tail next in
    let h = head_is k f.line head f.read in
    let number = more.so_many in
    let line : f.line ≡ proof_line k head.vars head.base (length entries) = h.line_is ∙ ap (λ (n : ℕ). proof_line k head.vars head.base n) (sym so_many) in
    let below : tail ≡ log_text entries ++ (proofs_text (k + 1) logs ++ rest) = are.stated.text ∙ ap (λ (r : List ℕ). log_text entries ++ r) more.text in
    record {
      text = f.bytes_are ∙ (λ i. line i ++ 10 ∷ below i)
          ∙ first_line (proof_line k head.vars head.base (length entries)) [] (log_text entries ++ (proofs_text (k + 1) logs ++ rest))
          ∙ sym (append_assoc (text_of_lines (proof_line k head.vars head.base (length entries) ∷ [])) (log_text entries) (proofs_text (k + 1) logs ++ rest))
          ∙ sym (append_assoc (proof_part k (log_of head entries)) (proofs_text (k + 1) logs) rest);
      so_many = omega (arith, number);
    }

pub good_logs : (count k n : ℕ) (bytes : List ℕ) (read : LogsRead) → ReadsLogs count k n bytes read → (rest : List ℕ) → read.rest ≡ Some rest → GoodLogs count k bytes read.logs rest
good_logs count k n bytes read (ended l m bs e) rest is = record { text = ap (λ (o : Option (List ℕ)). unwrap_or o []) is; so_many = omega (arith, e) }
good_logs count k n bytes read (no_head l m bs e f) rest is = absurd (cc)
good_logs count k n bytes read (stopped l m bs h t xs r e f g few) rest is = absurd (cc)
good_logs count k n bytes read (whole l m bs h t xs r more e f g all on) rest is =
    one_log count k bytes t r rest h xs more.logs f g all (good_logs count (k + 1) (n + 1 + length xs) r more on rest is)

-- ---- the text is read

abbrev head_with : ObligationLog → ProofHead
head_with l = record { vars = l.vars; base = l.base; count = length l.entries }

-- a proof's text and what is behind it
abbrev from_head : ℕ → ObligationLog → List ℕ → List ℕ
from_head k l rest = proof_line k l.vars l.base (length l.entries) ++ 10 ∷ (log_text l.entries ++ rest)

logs_cons : (k : ℕ) (l : ObligationLog) (logs : List ObligationLog) (rest : List ℕ) → proofs_text k (l ∷ logs) ++ rest ≡ from_head k l (proofs_text (k + 1) logs ++ rest)
logs_cons k l logs rest =
    append_assoc (proof_part k l) (proofs_text (k + 1) logs) rest
    ∙ append_assoc (text_of_lines (proof_line k l.vars l.base (length l.entries) ∷ [])) (log_text l.entries) (proofs_text (k + 1) logs ++ rest)
    ∙ sym (first_line (proof_line k l.vars l.base (length l.entries)) [] (log_text l.entries ++ (proofs_text (k + 1) logs ++ rest)))

head_fits : (l : ObligationLog) → IsLog l → FitHead (head_with l)
head_fits l is = record { vars = is.vars; base = is.base; count = is.count }

next_read : (k : ℕ) (l : ObligationLog) (rest : List ℕ) → IsLog l → front (head_in k) (from_head k l rest) ≡ Some (head_with l, log_text l.entries ++ rest)
next_read k l rest is =
    front_read (head_in k) (line_of k (head_with l)) (log_text l.entries ++ rest) (head_with l) (head_lacks k (head_with l) (head_fits l is)) (head_read k (head_with l) (head_fits l is))

-- what is read of proofs that stand there
abbrev pub all_read : ℕ → List ObligationLog → List ℕ → LogsRead
all_read n logs rest = record { logs = logs; whole = length logs; line = n + lines_of_logs logs; rest = Some rest }

pub logs_read : (count k n : ℕ) (logs : List ObligationLog) (rest : List ℕ) → k + length logs ≡ count → All IsLog logs
    → ReadsLogs count k n (proofs_text k logs ++ rest) (all_read n logs rest)
logs_read count k n [] rest so_many all =
    let line : n ≡ n + 0 = omega arith in
    subst (λ (line : ℕ). ReadsLogs count k n rest (record { logs = []; whole = 0; line = line; rest = Some rest })) line (ended k n rest (omega (arith, so_many)))
logs_read count k n (l ∷ logs) rest so_many all =
    let is : IsLog l = all 0 l (omega arith) in
    let less : k < count = omega (arith, so_many) in
    let later : ReadsLogs count (k + 1) (n + 1 + length l.entries) (proofs_text (k + 1) logs ++ rest) (all_read (n + 1 + length l.entries) logs rest) =
    logs_read count (k + 1) (n + 1 + length l.entries) logs rest (omega (arith, so_many)) (λ k d less. all (suc k) d (omega arith)) in
    let line : n + 1 + length l.entries + lines_of_logs logs ≡ n + lines_of_logs (l ∷ logs) = omega arith in
    subst (λ (b : List ℕ). ReadsLogs count k n b (all_read n (l ∷ logs) rest)) (sym (logs_cons k l logs rest))
    (subst (λ (line : ℕ). ReadsLogs count k n (from_head k l (proofs_text (k + 1) logs ++ rest)) (record { logs = l ∷ logs; whole = suc (length logs); line = line; rest = Some rest })) line
    (whole k n (from_head k l (proofs_text (k + 1) logs ++ rest)) (head_with l) (log_text l.entries ++ (proofs_text (k + 1) logs ++ rest)) l.entries (proofs_text (k + 1) logs ++ rest)
    (all_read (n + 1 + length l.entries) logs rest) less (next_read k l (proofs_text (k + 1) logs ++ rest) is)
    (record { stated = record { writable = is.entries; text = refl }; at_most = omega arith; stop = λ less. absurd (omega arith) }) refl later))
