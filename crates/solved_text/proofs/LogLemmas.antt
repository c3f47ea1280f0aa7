-- The logs read one after the other, in one way.
use Rattle.std.proofs.Common.{◌≡◌, ℕ, ◌+◌, ◌<◌, ◌≤◌, Option, Some, None, List, [], ◌∷◌, ◌++◌, length, refl, sym, ap, subst, ◌∙◌, arith, append_assoc}
use Rattle.std.proofs.lemmas.List.{append-nil, length-append}
use Rattle.std_lemmas.proofs.Options.{some_none, some_same}
use Rattle.refutation_log.specs.declared.entries.Entry.{Entry}
use Rattle.document_text.specs.Header.{front}
use Rattle.document_text.specs.Logs.{AreFirstEntries}
use Rattle.document_text.proofs.LineRead.{front_is}
use Rattle.document_text.proofs.EntriesLemmas.{first_same, stated_length}
use Rattle.solved_text.specs.declared.heads.Head.{Head}
use Rattle.solved_text.specs.Parts.{SizeLog}
use Rattle.solved_text.specs.Logs.{LogsRead, ReadsLogs, ended, no_head, stopped, whole, head_in, log_of}
use Rattle.solved_text.specs.Shown.{IsLogAt}

-- ---- the way so far

-- the logs so far were read, and whatever is read from here on stands behind them
pub record Goes (refuted first : ℕ) (bytes : List ℕ) (done : List SizeLog) (last n : ℕ) (rest : List ℕ) : Type 0 where
  pub on : (more : LogsRead) → ReadsLogs refuted last n rest more → ReadsLogs refuted 0 first bytes (record { logs = done ++ more.logs; line = more.line; rest = more.rest })

module _ (refuted first : ℕ) (bytes : List ℕ) (done : List SizeLog) (last n : ℕ) (rest : List ℕ) (goes : Goes refuted first bytes done last n rest) where
  at_end : (line : ℕ) (behind : Option (List ℕ)) → ReadsLogs refuted last n rest (record { logs = []; line = line; rest = behind })
      → ReadsLogs refuted 0 first bytes (record { logs = done; line = line; rest = behind })
  at_end line behind reads =
      subst (λ (logs : List SizeLog). ReadsLogs refuted 0 first bytes (record { logs = logs; line = line; rest = behind })) (append-nil done)
      (goes.on (record { logs = []; line = line; rest = behind }) reads)

  pub goes_ended : last ≡ refuted → ReadsLogs refuted 0 first bytes (record { logs = done; line = n; rest = Some rest })
  goes_ended is = at_end n (Some rest) (ended last n rest is)

  pub goes_no_head : last < refuted → front (head_in (last + 1)) rest ≡ None → ReadsLogs refuted 0 first bytes (record { logs = done; line = n; rest = None })
  goes_no_head less none = at_end n None (no_head last n rest less none)

  module _ (head : Head) (tail after : List ℕ) (log : SizeLog) (less : last < refuted) (next : front (head_in (last + 1)) rest ≡ Some (head, tail))
      (are : IsLogAt head n tail log after) where
    pub goes_stopped : length log.entries < head.count
        → ReadsLogs refuted 0 first bytes (record { logs = done ++ log ∷ []; line = n + 1 + length log.entries; rest = None })
    goes_stopped fewer =
        subst (λ (l : SizeLog). ReadsLogs refuted 0 first bytes (record { logs = done ++ l ∷ []; line = n + 1 + length log.entries; rest = None })) (sym are.log_is)
        (goes.on (record { logs = log_of head log.entries n ∷ []; line = n + 1 + length log.entries; rest = None })
        (stopped last n rest head tail log.entries after less next are.entries fewer))

    pub goes_whole : head.count ≤ length log.entries → Goes refuted first bytes (done ++ log ∷ []) (last + 1) (n + 1 + length log.entries) after
    goes_whole all =
        let most = are.entries.at_most in
        let so_many : length log.entries ≡ head.count = omega arith in
        record {
          on = λ more reads.
              subst (λ (l : SizeLog). ReadsLogs refuted 0 first bytes (record { logs = (done ++ l ∷ []) ++ more.logs; line = more.line; rest = more.rest })) (sym are.log_is)
              (subst (λ (logs : List SizeLog). ReadsLogs refuted 0 first bytes (record { logs = logs; line = more.line; rest = more.rest }))
              (sym (append_assoc done (log_of head log.entries n ∷ []) more.logs))
              (goes.on (record { logs = log_of head log.entries n ∷ more.logs; line = more.line; rest = more.rest })
              (whole last n rest head tail log.entries after more less next are.entries so_many reads)));
        }

    -- the lines that are read are bytes
    pub lines_fit : n + 1 + length log.entries + length after ≤ n + length rest
    lines_fit =
        let f = front_is (head_in (last + 1)) rest head tail next in
        let size : length rest ≡ length f.line + length (10 ∷ tail) = ap length f.bytes_are ∙ length-append f.line (10 ∷ tail) in
        let e = stated_length head.vars tail log.entries after are.entries.stated in
        omega (arith, size, e)

-- ---- one way

module _ (refuted : ℕ) where
  heads_same : (last : ℕ) (bytes : List ℕ) (head other : Head) (tail rest : List ℕ) → front (head_in (last + 1)) bytes ≡ Some (head, tail)
      → front (head_in (last + 1)) bytes ≡ Some (other, rest) → (head ≡ other) × (tail ≡ rest)
  heads_same last bytes head other tail rest a b =
      let e : (head, tail) ≡ (other, rest) = some_same (front (head_in (last + 1)) bytes) (head, tail) (other, rest) a b in
      (λ k. (e k).0, λ k. (e k).1)

  entries_one : (head other : Head) (tail rest : List ℕ) (xs ys : List Entry) (r s : List ℕ) → head ≡ other → tail ≡ rest
      → AreFirstEntries head.vars head.count tail xs r → AreFirstEntries other.vars other.count rest ys s → (xs ≡ ys) × (r ≡ s)
  entries_one head other tail rest xs ys r s h t a b =
      first_same other.vars other.count rest xs ys r s
      (subst (λ (b : List ℕ). AreFirstEntries other.vars other.count b xs r) t (subst (λ (h : Head). AreFirstEntries h.vars h.count tail xs r) h a)) b

  pub logs_same : (last n : ℕ) (bytes : List ℕ) (a b : LogsRead) → ReadsLogs refuted last n bytes a → ReadsLogs refuted last n bytes b → a ≡ b
  logs_same last n bytes a b (ended l m bs e) (ended l' m' bs' e') = refl
  logs_same last n bytes a b (ended l m bs e) (no_head l' m' bs' e' f') = absurd (omega (arith, e, e'))
  logs_same last n bytes a b (ended l m bs e) (stopped l' m' bs' h' t' xs' r' e' f' g' few') = absurd (omega (arith, e, e'))
  logs_same last n bytes a b (ended l m bs e) (whole l' m' bs' h' t' xs' r' more' e' f' g' all' on') = absurd (omega (arith, e, e'))
  logs_same last n bytes a b (no_head l m bs e f) (ended l' m' bs' e') = absurd (omega (arith, e, e'))
  logs_same last n bytes a b (no_head l m bs e f) (no_head l' m' bs' e' f') = refl
  logs_same last n bytes a b (no_head l m bs e f) (stopped l' m' bs' h' t' xs' r' e' f' g' few') = absurd (some_none (front (head_in (last + 1)) bytes) (h', t') f' f)
  logs_same last n bytes a b (no_head l m bs e f) (whole l' m' bs' h' t' xs' r' more' e' f' g' all' on') = absurd (some_none (front (head_in (last + 1)) bytes) (h', t') f' f)
  logs_same last n bytes a b (stopped l m bs h t xs r e f g few) (ended l' m' bs' e') = absurd (omega (arith, e, e'))
  logs_same last n bytes a b (stopped l m bs h t xs r e f g few) (no_head l' m' bs' e' f') = absurd (some_none (front (head_in (last + 1)) bytes) (h, t) f f')
  logs_same last n bytes a b (stopped l m bs h t xs r e f g few) (stopped l' m' bs' h' t' xs' r' e' f' g' few') =
      let hs = heads_same last bytes h h' t t' f f' in
      let es = entries_one h h' t t' xs xs' r r' hs.0 hs.1 g g' in
      λ k. record { logs = log_of (hs.0 k) (es.0 k) n ∷ []; line = n + 1 + length (es.0 k); rest = None }
  logs_same last n bytes a b (stopped l m bs h t xs r e f g few) (whole l' m' bs' h' t' xs' r' more' e' f' g' all' on') =
      let hs = heads_same last bytes h h' t t' f f' in
      let es = entries_one h h' t t' xs xs' r r' hs.0 hs.1 g g' in
      let same : length xs ≡ length xs' = ap length es.0 in
      let count : h.count ≡ h'.count = ap (λ (h : Head). h.count) hs.0 in
      absurd (omega (arith, same, count, few, all'))
  logs_same last n bytes a b (whole l m bs h t xs r more e f g all on) (ended l' m' bs' e') = absurd (omega (arith, e, e'))
  logs_same last n bytes a b (whole l m bs h t xs r more e f g all on) (no_head l' m' bs' e' f') = absurd (some_none (front (head_in (last + 1)) bytes) (h, t) f f')
  logs_same last n bytes a b (whole l m bs h t xs r more e f g all on) (stopped l' m' bs' h' t' xs' r' e' f' g' few') =
      let hs = heads_same last bytes h h' t t' f f' in
      let es = entries_one h h' t t' xs xs' r r' hs.0 hs.1 g g' in
      let same : length xs ≡ length xs' = ap length es.0 in
      let count : h.count ≡ h'.count = ap (λ (h : Head). h.count) hs.0 in
      absurd (omega (arith, same, count, few', all))
  logs_same last n bytes a b (whole l m bs h t xs r more e f g all on) (whole l' m' bs' h' t' xs' r' more' e' f' g' all' on') =
      let hs = heads_same last bytes h h' t t' f f' in
      let es = entries_one h h' t t' xs xs' r r' hs.0 hs.1 g g' in
      let there : ReadsLogs refuted (last + 1) (n + 1 + length xs) r more' =
      subst (λ (r : List ℕ). ReadsLogs refuted (last + 1) (n + 1 + length xs) r more') (sym es.1)
      (subst (λ (xs : List Entry). ReadsLogs refuted (last + 1) (n + 1 + length xs) r' more') (sym es.0) on') in
      let rest : more ≡ more' = logs_same (last + 1) (n + 1 + length xs) r more more' on there in
      λ k. record { logs = log_of (hs.0 k) (es.0 k) n ∷ (rest k).logs; line = (rest k).line; rest = (rest k).rest }

-- the lines that were read are bytes
pub logs_fit : (refuted last n : ℕ) (bytes : List ℕ) (read : LogsRead) → ReadsLogs refuted last n bytes read → (rest : List ℕ) → read.rest ≡ Some rest
    → read.line + length rest ≤ n + length bytes
logs_fit refuted last n bytes read (ended l m bs e) rest is = let same : length bs ≡ length rest = ap (λ (o : Option (List ℕ)). length_of o) is in omega (arith, same)
  where
    length_of : Option (List ℕ) → ℕ
    length_of None = 0
    length_of (Some xs) = length xs
logs_fit refuted last n bytes read (no_head l m bs e f) rest is = absurd (cc)
logs_fit refuted last n bytes read (stopped l m bs h t xs r e f g few) rest is = absurd (cc)
logs_fit refuted last n bytes read (whole l m bs h t xs r more e f g all on) rest is =
    let f' = front_is (head_in (last + 1)) bytes h t f in
    let size : length bytes ≡ length f'.line + length (10 ∷ t) = ap length f'.bytes_are ∙ length-append f'.line (10 ∷ t) in
    let s = stated_length h.vars t xs r g.stated in
    let later = logs_fit refuted (last + 1) (n + 1 + length xs) r more on rest is in
    omega (arith, size, s, later)
