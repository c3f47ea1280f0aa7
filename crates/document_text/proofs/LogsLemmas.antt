-- The logs read one after the other, in one way.
use Rattle.std.proofs.Common.{◌≡◌, ℕ, ◌+◌, ◌<◌, ◌≤◌, Option, Some, None, List, [], ◌∷◌, ◌++◌, length, refl, sym, ap, subst, ◌∙◌, arith, append_assoc}
use Rattle.std.proofs.lemmas.List.{append-nil, length-append}
use Rattle.std_lemmas.proofs.Options.{some_none, some_same}
use Rattle.refutation_log.specs.declared.entries.Entry.{Entry}
use Rattle.document_text.specs.declared.logs.Head.{Head}
use Rattle.document_text.specs.declared.order.Order.{Order}
use Rattle.document_text.specs.declared.order.Place.{Place}
use Rattle.document_text.specs.Parts.{LogPart}
use Rattle.document_text.specs.Order.{place, first_place}
use Rattle.document_text.specs.Header.{front}
use Rattle.document_text.specs.Logs.{LogsRead, ReadsLogs, ended, no_head, stopped, whole, AreFirstEntries, bad_behind, behind_end, next_head, part_of}
use Rattle.document_text.proofs.LineRead.{front_is}
use Rattle.document_text.proofs.EntriesLemmas.{first_same, stated_length}

-- ---- the way so far

-- the logs so far were read, and whatever is read from here on stands behind them
pub record Goes (order : Order) (first : ℕ) (bytes : List ℕ) (done : List LogPart) (last : Place) (n : ℕ) (rest : List ℕ) : Type 0 where
  pub on : (more : LogsRead) → ReadsLogs order last n rest more → ReadsLogs order (first_place order) first bytes (record { logs = done ++ more.logs; bad = more.bad })

module _ (order : Order) (first : ℕ) (bytes : List ℕ) (done : List LogPart) (last : Place) (n : ℕ) (rest : List ℕ) (goes : Goes order first bytes done last n rest) where
  at_end : (bad : Option ℕ) → ReadsLogs order last n rest (record { logs = []; bad = bad }) → ReadsLogs order (first_place order) first bytes (record { logs = done; bad = bad })
  at_end bad reads =
      subst (λ (logs : List LogPart). ReadsLogs order (first_place order) first bytes (record { logs = logs; bad = bad })) (append-nil done)
      (goes.on (record { logs = []; bad = bad }) reads)

  pub goes_ended : (after : List ℕ) → behind_end order last rest ≡ Some after → ReadsLogs order (first_place order) first bytes (record { logs = done; bad = bad_behind n after })
  goes_ended after is = at_end (bad_behind n after) (ended last n rest after is)

  pub goes_no_head : behind_end order last rest ≡ None → front (next_head order last) rest ≡ None
      → ReadsLogs order (first_place order) first bytes (record { logs = done; bad = Some n })
  goes_no_head no_end none = at_end (Some n) (no_head last n rest no_end none)

  module _ (head : Head) (tail after : List ℕ) (entries : List Entry) (no_end : behind_end order last rest ≡ None)
      (next : front (next_head order last) rest ≡ Some (head, tail)) (are : AreFirstEntries head.vars head.count tail entries after) where
    pub goes_stopped : length entries < head.count
        → ReadsLogs order (first_place order) first bytes (record { logs = done ++ part_of head entries n ∷ []; bad = Some (n + 1 + length entries) })
    goes_stopped fewer =
        goes.on (record { logs = part_of head entries n ∷ []; bad = Some (n + 1 + length entries) })
        (stopped last n rest head tail entries after no_end next are fewer)

    pub goes_whole : head.count ≤ length entries → Goes order first bytes (done ++ part_of head entries n ∷ []) (place head.side head.size) (n + 1 + length entries) after
    goes_whole all =
        let most = are.at_most in
        let so_many : length entries ≡ head.count = omega arith in
        record {
          on = λ more reads.
              subst (λ (logs : List LogPart). ReadsLogs order (first_place order) first bytes (record { logs = logs; bad = more.bad })) (sym (append_assoc done (part_of head entries n ∷ []) more.logs))
              (goes.on (record { logs = part_of head entries n ∷ more.logs; bad = more.bad }) (whole last n rest head tail entries after more no_end next are so_many reads));
        }

    -- the lines that are read are bytes
    pub lines_fit : n + 1 + length entries + length after ≤ n + length rest
    lines_fit =
        let f = front_is (next_head order last) rest head tail next in
        let size : length rest ≡ length f.line + length (10 ∷ tail) = ap length f.bytes_are ∙ length-append f.line (10 ∷ tail) in
        let e = stated_length head.vars tail entries after are.stated in
        omega (arith, size, e)

-- ---- one way

module _ (order : Order) where
  heads_same : (last : Place) (bytes : List ℕ) (head other : Head) (tail rest : List ℕ) → front (next_head order last) bytes ≡ Some (head, tail)
      → front (next_head order last) bytes ≡ Some (other, rest) → (head ≡ other) × (tail ≡ rest)
  heads_same last bytes head other tail rest a b =
      let e : (head, tail) ≡ (other, rest) = some_same (front (next_head order last) bytes) (head, tail) (other, rest) a b in
      (λ k. (e k).0, λ k. (e k).1)

  entries_one : (head other : Head) (tail rest : List ℕ) (xs ys : List Entry) (r s : List ℕ) → head ≡ other → tail ≡ rest
      → AreFirstEntries head.vars head.count tail xs r → AreFirstEntries other.vars other.count rest ys s → (xs ≡ ys) × (r ≡ s)
  entries_one head other tail rest xs ys r s h t a b =
      first_same other.vars other.count rest xs ys r s
      (subst (λ (b : List ℕ). AreFirstEntries other.vars other.count b xs r) t (subst (λ (h : Head). AreFirstEntries h.vars h.count tail xs r) h a)) b

  pub logs_same : (last : Place) (n : ℕ) (bytes : List ℕ) (a b : LogsRead) → ReadsLogs order last n bytes a → ReadsLogs order last n bytes b → a ≡ b
  logs_same last n bytes a b (ended l m bs r e) (ended l' m' bs' r' e') =
      ap (λ (r : List ℕ). record { logs = []; bad = bad_behind n r }) (some_same (behind_end order last bytes) r r' e e')
  logs_same last n bytes a b (ended l m bs r e) (no_head l' m' bs' e' f') = absurd (some_none (behind_end order last bytes) r e e')
  logs_same last n bytes a b (ended l m bs r e) (stopped l' m' bs' h' t' xs' r' e' f' g' few') = absurd (some_none (behind_end order last bytes) r e e')
  logs_same last n bytes a b (ended l m bs r e) (whole l' m' bs' h' t' xs' r' more' e' f' g' all' on') = absurd (some_none (behind_end order last bytes) r e e')
  logs_same last n bytes a b (no_head l m bs e f) (ended l' m' bs' r' e') = absurd (some_none (behind_end order last bytes) r' e' e)
  logs_same last n bytes a b (no_head l m bs e f) (no_head l' m' bs' e' f') = refl
  logs_same last n bytes a b (no_head l m bs e f) (stopped l' m' bs' h' t' xs' r' e' f' g' few') = absurd (some_none (front (next_head order last) bytes) (h', t') f' f)
  logs_same last n bytes a b (no_head l m bs e f) (whole l' m' bs' h' t' xs' r' more' e' f' g' all' on') = absurd (some_none (front (next_head order last) bytes) (h', t') f' f)
  logs_same last n bytes a b (stopped l m bs h t xs r e f g few) (ended l' m' bs' r' e') = absurd (some_none (behind_end order last bytes) r' e' e)
  logs_same last n bytes a b (stopped l m bs h t xs r e f g few) (no_head l' m' bs' e' f') = absurd (some_none (front (next_head order last) bytes) (h, t) f f')
  logs_same last n bytes a b (stopped l m bs h t xs r e f g few) (stopped l' m' bs' h' t' xs' r' e' f' g' few') =
      let hs = heads_same last bytes h h' t t' f f' in
      let es = entries_one h h' t t' xs xs' r r' hs.0 hs.1 g g' in
      λ k. record { logs = part_of (hs.0 k) (es.0 k) n ∷ []; bad = Some (n + 1 + length (es.0 k)) }
  logs_same last n bytes a b (stopped l m bs h t xs r e f g few) (whole l' m' bs' h' t' xs' r' more' e' f' g' all' on') =
      let hs = heads_same last bytes h h' t t' f f' in
      let es = entries_one h h' t t' xs xs' r r' hs.0 hs.1 g g' in
      let same : length xs ≡ length xs' = ap length es.0 in
      let count : h.count ≡ h'.count = ap (λ (h : Head). h.count) hs.0 in
      absurd (omega (arith, same, count, few, all'))
  logs_same last n bytes a b (whole l m bs h t xs r more e f g all on) (ended l' m' bs' r' e') = absurd (some_none (behind_end order last bytes) r' e' e)
  logs_same last n bytes a b (whole l m bs h t xs r more e f g all on) (no_head l' m' bs' e' f') = absurd (some_none (front (next_head order last) bytes) (h, t) f f')
  logs_same last n bytes a b (whole l m bs h t xs r more e f g all on) (stopped l' m' bs' h' t' xs' r' e' f' g' few') =
      let hs = heads_same last bytes h h' t t' f f' in
      let es = entries_one h h' t t' xs xs' r r' hs.0 hs.1 g g' in
      let same : length xs ≡ length xs' = ap length es.0 in
      let count : h.count ≡ h'.count = ap (λ (h : Head). h.count) hs.0 in
      absurd (omega (arith, same, count, few', all))
  logs_same last n bytes a b (whole l m bs h t xs r more e f g all on) (whole l' m' bs' h' t' xs' r' more' e' f' g' all' on') =
      let hs = heads_same last bytes h h' t t' f f' in
      let es = entries_one h h' t t' xs xs' r r' hs.0 hs.1 g g' in
      let there : ReadsLogs order (place h.side h.size) (n + 1 + length xs) r more' =
      subst (λ (r : List ℕ). ReadsLogs order (place h.side h.size) (n + 1 + length xs) r more') (sym es.1)
      (subst (λ (xs : List Entry). ReadsLogs order (place h.side h.size) (n + 1 + length xs) r' more') (sym es.0)
      (subst (λ (h : Head). ReadsLogs order (place h.side h.size) (n + 1 + length xs') r' more') (sym hs.0) on')) in
      let rest : more ≡ more' = logs_same (place h.side h.size) (n + 1 + length xs) r more more' on there in
      λ k. record { logs = part_of (hs.0 k) (es.0 k) n ∷ (rest k).logs; bad = (rest k).bad }
