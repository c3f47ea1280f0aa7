-- The proofs read one after the other, in one way.
use Rattle.std.proofs.Common.{◌≡◌, ℕ, suc, ◌+◌, ◌<◌, ◌≤◌, ◌^◌, Option, Some, None, List, [], ◌∷◌, ◌++◌, length, take, drop, get_or, refl, sym, ap, subst, ◌∙◌, arith, append_assoc}
use Rattle.std.specs.Prelude.{All}
use Rattle.std.proofs.lemmas.List.{append-nil, length-append, take-append-drop, take_more}
use Rattle.std.proofs.lemmas.List.Elements.{All-cons}
use Rattle.std_lemmas.proofs.Options.{some_none, some_same}
use Rattle.refutation_log.specs.declared.entries.Entry.{Entry}
use Rattle.document_text.specs.Header.{front}
use Rattle.document_text.specs.Logs.{AreFirstEntries}
use Rattle.document_text.proofs.LineRead.{front_is}
use Rattle.document_text.proofs.EntriesLemmas.{first_same, stated_length}
use Rattle.truth_witness.specs.Logs.{ObligationLog}
use Rattle.witness_text.specs.declared.logs.ProofHead.{ProofHead}
use Rattle.witness_text.specs.Forms.{head_in}
use Rattle.witness_text.specs.Logs.{LogsRead, ReadsLogs, ended, no_head, stopped, whole, log_of}
use Rattle.witness_text.specs.Places.{lines_of_logs}
use Rattle.witness_text.specs.Shown.{IsLogAt}
use Rattle.witness_text.specs.States.{IsLog}
use Rattle.witness_text.proofs.HeadLemmas.{head_is}

-- ---- the way so far

-- the proofs so far were read, and whatever is read from here on stands behind them
pub record Goes (count first : ℕ) (bytes : List ℕ) (done : List ObligationLog) (n : ℕ) (rest : List ℕ) : Type 0 where
  pub on : (more : LogsRead) → ReadsLogs count (length done) n rest more
      → ReadsLogs count 0 first bytes (record { logs = done ++ more.logs; whole = length done + more.whole; line = more.line; rest = more.rest })

pub goes_first : (count first : ℕ) (bytes : List ℕ) → Goes count first bytes [] first bytes
goes_first count first bytes = record {
  on = λ more reads. (
      let none : more.whole ≡ 0 + more.whole = omega arith in
      subst (λ (n : ℕ). ReadsLogs count 0 first bytes (record { logs = more.logs; whole = n; line = more.line; rest = more.rest })) none reads);
}

module _ (count first : ℕ) (bytes : List ℕ) (done : List ObligationLog) (n : ℕ) (rest : List ℕ) (goes : Goes count first bytes done n rest) where
  at_end : (line : ℕ) (behind : Option (List ℕ)) → ReadsLogs count (length done) n rest (record { logs = []; whole = 0; line = line; rest = behind })
      → ReadsLogs count 0 first bytes (record { logs = done; whole = length done; line = line; rest = behind })
  at_end line behind reads =
      let none : length done + 0 ≡ length done = omega arith in
      subst (λ (read : LogsRead). ReadsLogs count 0 first bytes read) (λ i. record { logs = append-nil done i; whole = none i; line = line; rest = behind })
      (goes.on (record { logs = []; whole = 0; line = line; rest = behind }) reads)

  pub goes_ended : length done ≡ count → ReadsLogs count 0 first bytes (record { logs = done; whole = length done; line = n; rest = Some rest })
  goes_ended is = at_end n (Some rest) (ended (length done) n rest is)

  pub goes_no_head : length done < count → front (head_in (length done)) rest ≡ None → ReadsLogs count 0 first bytes (record { logs = done; whole = length done; line = n; rest = None })
  goes_no_head less none = at_end n None (no_head (length done) n rest less none)

  module _ (head : ProofHead) (tail after : List ℕ) (log : ObligationLog) (less : length done < count) (next : front (head_in (length done)) rest ≡ Some (head, tail))
      (are : IsLogAt head tail log after) where
    pub goes_stopped : length log.entries < head.count
        → ReadsLogs count 0 first bytes (record { logs = done ++ log ∷ []; whole = length done; line = n + 1 + length log.entries; rest = None })
    goes_stopped fewer =
        let none : length done + 0 ≡ length done = omega arith in
        subst (λ (read : LogsRead). ReadsLogs count 0 first bytes read)
        (λ i. record { logs = done ++ sym are.log_is i ∷ []; whole = none i; line = n + 1 + length log.entries; rest = None })
        (goes.on (record { logs = log_of head log.entries ∷ []; whole = 0; line = n + 1 + length log.entries; rest = None })
        (stopped (length done) n rest head tail log.entries after less next are.entries fewer))

    pub goes_whole : head.count ≤ length log.entries → Goes count first bytes (done ++ log ∷ []) (n + 1 + length log.entries) after
    goes_whole all =
        let most = are.entries.at_most in
        let so_many : length log.entries ≡ head.count = omega arith in
        let longer : length (done ++ log ∷ []) ≡ length done + 1 = length-append done (log ∷ []) in
        record {
          on = λ more reads. (
              let number : length done + suc more.whole ≡ length (done ++ log ∷ []) + more.whole = omega (arith, longer) in
              let there : ReadsLogs count (length done + 1) (n + 1 + length log.entries) after more =
              subst (λ (k : ℕ). ReadsLogs count k (n + 1 + length log.entries) after more) longer reads in
              let logs : done ++ (log_of head log.entries ∷ more.logs) ≡ (done ++ log ∷ []) ++ more.logs =
              (λ i. done ++ (sym are.log_is i ∷ more.logs)) ∙ sym (append_assoc done (log ∷ []) more.logs) in
              subst (λ (read : LogsRead). ReadsLogs count 0 first bytes read) (λ i. record { logs = logs i; whole = number i; line = more.line; rest = more.rest })
              (goes.on (record { logs = log_of head log.entries ∷ more.logs; whole = suc more.whole; line = more.line; rest = more.rest })
              (whole (length done) n rest head tail log.entries after more less next are.entries so_many there)));
        }

    -- the lines that are read are bytes
    pub lines_fit : n + 1 + length log.entries + length after ≤ n + length rest
    lines_fit =
        let f = front_is (head_in (length done)) rest head tail next in
        let size : length rest ≡ length f.line + length (10 ∷ tail) = ap length f.bytes_are ∙ length-append f.line (10 ∷ tail) in
        let e = stated_length head.vars tail log.entries after are.entries.stated in
        omega (arith, size, e)

-- ---- one way

module _ (count : ℕ) where
  heads_same : (k : ℕ) (bytes : List ℕ) (head other : ProofHead) (tail rest : List ℕ) → front (head_in k) bytes ≡ Some (head, tail)
      → front (head_in k) bytes ≡ Some (other, rest) → (head ≡ other) × (tail ≡ rest)
  heads_same k bytes head other tail rest a b =
      let e : (head, tail) ≡ (other, rest) = some_same (front (head_in k) bytes) (head, tail) (other, rest) a b in
      (λ k. (e k).0, λ k. (e k).1)

  entries_one : (head other : ProofHead) (tail rest : List ℕ) (xs ys : List Entry) (r s : List ℕ) → head ≡ other → tail ≡ rest
      → AreFirstEntries head.vars head.count tail xs r → AreFirstEntries other.vars other.count rest ys s → (xs ≡ ys) × (r ≡ s)
  entries_one head other tail rest xs ys r s h t a b =
      first_same other.vars other.count rest xs ys r s
      (subst (λ (b : List ℕ). AreFirstEntries other.vars other.count b xs r) t (subst (λ (h : ProofHead). AreFirstEntries h.vars h.count tail xs r) h a)) b

  pub logs_same : (k n : ℕ) (bytes : List ℕ) (a b : LogsRead) → ReadsLogs count k n bytes a → ReadsLogs count k n bytes b → a ≡ b
  logs_same k n bytes a b (ended l m bs e) (ended l' m' bs' e') = refl
  logs_same k n bytes a b (ended l m bs e) (no_head l' m' bs' e' f') = absurd (omega (arith, e, e'))
  logs_same k n bytes a b (ended l m bs e) (stopped l' m' bs' h' t' xs' r' e' f' g' few') = absurd (omega (arith, e, e'))
  logs_same k n bytes a b (ended l m bs e) (whole l' m' bs' h' t' xs' r' more' e' f' g' all' on') = absurd (omega (arith, e, e'))
  logs_same k n bytes a b (no_head l m bs e f) (ended l' m' bs' e') = absurd (omega (arith, e, e'))
  logs_same k n bytes a b (no_head l m bs e f) (no_head l' m' bs' e' f') = refl
  logs_same k n bytes a b (no_head l m bs e f) (stopped l' m' bs' h' t' xs' r' e' f' g' few') = absurd (some_none (front (head_in k) bytes) (h', t') f' f)
  logs_same k n bytes a b (no_head l m bs e f) (whole l' m' bs' h' t' xs' r' more' e' f' g' all' on') = absurd (some_none (front (head_in k) bytes) (h', t') f' f)
  logs_same k n bytes a b (stopped l m bs h t xs r e f g few) (ended l' m' bs' e') = absurd (omega (arith, e, e'))
  logs_same k n bytes a b (stopped l m bs h t xs r e f g few) (no_head l' m' bs' e' f') = absurd (some_none (front (head_in k) bytes) (h, t) f f')
  logs_same k n bytes a b (stopped l m bs h t xs r e f g few) (stopped l' m' bs' h' t' xs' r' e' f' g' few') =
      let hs = heads_same k bytes h h' t t' f f' in
      let es = entries_one h h' t t' xs xs' r r' hs.0 hs.1 g g' in
      λ i. record { logs = log_of (hs.0 i) (es.0 i) ∷ []; whole = 0; line = n + 1 + length (es.0 i); rest = None }
  logs_same k n bytes a b (stopped l m bs h t xs r e f g few) (whole l' m' bs' h' t' xs' r' more' e' f' g' all' on') =
      let hs = heads_same k bytes h h' t t' f f' in
      let es = entries_one h h' t t' xs xs' r r' hs.0 hs.1 g g' in
      let same : length xs ≡ length xs' = ap length es.0 in
      let count : h.count ≡ h'.count = ap (λ (h : ProofHead). h.count) hs.0 in
      absurd (omega (arith, same, count, few, all'))
  logs_same k n bytes a b (whole l m bs h t xs r more e f g all on) (ended l' m' bs' e') = absurd (omega (arith, e, e'))
  logs_same k n bytes a b (whole l m bs h t xs r more e f g all on) (no_head l' m' bs' e' f') = absurd (some_none (front (head_in k) bytes) (h, t) f f')
  logs_same k n bytes a b (whole l m bs h t xs r more e f g all on) (stopped l' m' bs' h' t' xs' r' e' f' g' few') =
      let hs = heads_same k bytes h h' t t' f f' in
      let es = entries_one h h' t t' xs xs' r r' hs.0 hs.1 g g' in
      let same : length xs ≡ length xs' = ap length es.0 in
      let count : h.count ≡ h'.count = ap (λ (h : ProofHead). h.count) hs.0 in
      absurd (omega (arith, same, count, few', all))
  logs_same k n bytes a b (whole l m bs h t xs r more e f g all on) (whole l' m' bs' h' t' xs' r' more' e' f' g' all' on') =
      let hs = heads_same k bytes h h' t t' f f' in
      let es = entries_one h h' t t' xs xs' r r' hs.0 hs.1 g g' in
      let there : ReadsLogs count (k + 1) (n + 1 + length xs) r more' =
      subst (λ (r : List ℕ). ReadsLogs count (k + 1) (n + 1 + length xs) r more') (sym es.1)
      (subst (λ (xs : List Entry). ReadsLogs count (k + 1) (n + 1 + length xs) r' more') (sym es.0) on') in
      let rest : more ≡ more' = logs_same (k + 1) (n + 1 + length xs) r more more' on there in
      λ i. record { logs = log_of (hs.0 i) (es.0 i) ∷ (rest i).logs; whole = suc (rest i).whole; line = (rest i).line; rest = (rest i).rest }

-- ---- what was read is such as lines can hold

-- the logs that were read, and the line behind them
pub record AreRead (count k n : ℕ) (bytes : List ℕ) (read : LogsRead) : Type 0 where
  pub few : k + length read.logs ≤ count
  pub all : All IsLog read.logs
  pub line_is : read.line ≡ n + lines_of_logs read.logs
  pub lines : read.line ≤ n + length bytes

no_logs : All IsLog []
no_logs = λ k d less. absurd (omega arith)

module _ (k : ℕ) (bytes : List ℕ) (head : ProofHead) (tail : List ℕ) (entries : List Entry) (rest : List ℕ) (next : front (head_in k) bytes ≡ Some (head, tail))
    (are : AreFirstEntries head.vars head.count tail entries rest) where
  one_is_log : IsLog (log_of head entries)
  one_is_log =
      let h = head_is k (front_is (head_in k) bytes head tail next).line head (front_is (head_in k) bytes head tail next).read in
      let most = are.at_most in
      let small = h.fit.count in
      record { vars = h.fit.vars; base = h.fit.base; count = omega (arith, most, small); entries = are.stated.writable }

  one_fits : 1 + length entries + length rest ≤ length bytes
  one_fits =
      let f = front_is (head_in k) bytes head tail next in
      let size : length bytes ≡ length f.line + length (10 ∷ tail) = ap length f.bytes_are ∙ length-append f.line (10 ∷ tail) in
      let e = stated_length head.vars tail entries rest are.stated in
      omega (arith, size, e)

pub logs_are_read : (count k n : ℕ) (bytes : List ℕ) (read : LogsRead) → k ≤ count → ReadsLogs count k n bytes read → AreRead count k n bytes read
logs_are_read count k n bytes read le (ended l m bs e) = record { few = omega (arith, e); all = no_logs; line_is = omega arith; lines = omega arith }
logs_are_read count k n bytes read le (no_head l m bs e f) = record { few = omega (arith, le); all = no_logs; line_is = omega arith; lines = omega arith }
logs_are_read count k n bytes read le (stopped l m bs h t xs r e f g few) =
    let fits = one_fits k bytes h t xs r f g in
    record {
      few = omega (arith, e);
      all = All-cons IsLog (log_of h xs) [] (one_is_log k bytes h t xs r f g) no_logs;
      line_is = omega arith;
      lines = omega (arith, fits);
    }
logs_are_read count k n bytes read le (whole l m bs h t xs r more e f g all on) =
    let fits = one_fits k bytes h t xs r f g in
    let later = logs_are_read count (k + 1) (n + 1 + length xs) r more (omega (arith, e)) on in
    let few = later.few in
    let line = later.line_is in
    let lines = later.lines in
    record {
      few = omega (arith, few);
      all = All-cons IsLog (log_of h xs) more.logs (one_is_log k bytes h t xs r f g) later.all;
      line_is = omega (arith, line);
      lines = omega (arith, fits, lines);
    }

-- ---- the lines of logs

pub lines_of_logs-append : (xs ys : List ObligationLog) → lines_of_logs (xs ++ ys) ≡ lines_of_logs xs + lines_of_logs ys
lines_of_logs-append [] ys = omega arith
lines_of_logs-append (x ∷ xs) ys =
    let more : lines_of_logs (xs ++ ys) ≡ lines_of_logs xs + lines_of_logs ys = lines_of_logs-append xs ys in
    omega (arith, more)

pub lines_of_first : (k : ℕ) (logs : List ObligationLog) → lines_of_logs (take k logs) ≤ lines_of_logs logs
lines_of_first k logs =
    let both : lines_of_logs logs ≡ lines_of_logs (take k logs) + lines_of_logs (drop k logs) =
    ap lines_of_logs (sym (take-append-drop k logs)) ∙ lines_of_logs-append (take k logs) (drop k logs) in
    omega (arith, both)

pub lines_of_next : (logs : List ObligationLog) (i : ℕ) (d : ObligationLog) → i < length logs
    → lines_of_logs (take (i + 1) logs) ≡ lines_of_logs (take i logs) + (1 + length (get_or logs i d).entries)
lines_of_next logs i d less =
    let one : lines_of_logs (get_or logs i d ∷ []) ≡ 1 + length (get_or logs i d).entries = omega arith in
    ap lines_of_logs (take_more logs i d less) ∙ lines_of_logs-append (take i logs) (get_or logs i d ∷ [])
    ∙ ap (λ n. lines_of_logs (take i logs) + n) one
