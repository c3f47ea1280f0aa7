-- What a turn on a log tells of it.
use Rattle.std.proofs.Common.{◌≡◌, ◌≢◌, ℕ, ◌+◌, ◌-◌, ◌<◌, ◌≤◌, Bool, true, false, nat_lt, nat_eq, cond, ◌==◌, List, [], ◌∷◌, ◌++◌, ◌⊎◌, inl, inr, Option, Some, None, filter, get_or, slice_get, length, length-append, Contains, refl, sym, subst, ap, ◌∙◌, true≢false, arith}
use Rattle.std.specs.Prelude.{AllPairs}
use Rattle.std.specs.Option.{option_map_or}
use Rattle.std.proofs.lemmas.List.{get_or_append_left, length-map, map-append}
use Rattle.std.proofs.lemmas.List.Elements.{Contains-get_or, Contains-append_left, Contains-append_right, Contains-append_cases}
use Rattle.std.proofs.lemmas.List.Quantifiers.{position-Some}
use Rattle.std.proofs.lemmas.Option.{slice_get-get_or}
use borrow.Author.Tests.{ltb-true, ltb-false}
use Rattle.propositional_logic.specs.Literal.{Literal}
use Rattle.propositional_logic.specs.Clause.{clause_eq, IsClause}
use Rattle.propositional_logic.specs.Equality.{Decides-clause_eq}
use Rattle.refutation_log.specs.declared.entries.Entry.{Entry}
use Rattle.refutation_log.specs.declared.turns.Turn.TheVariants.{Append}
use Rattle.refutation_log.specs.declared.turns.Reply.{Reply}
use Rattle.refutation_log.specs.declared.turns.Reply.TheVariants.{Known, Closed, Full, At, Seen}
use Rattle.refutation_log.specs.Entry.{clauses_of}
use Rattle.refutation_log.specs.Log.{is_empty_clause, is_ended, IsLegal}
use Rattle.refutation_log.specs.Teaches.{IsQuietBut, Teaches, entries_by}
use Rattle.refutation_log.specs.Turn.{clause_place, is_at_limit, reply_to_new, reply_of, log_after, log_replied}
use Rattle.refutation_log.proofs.StateLemmas.{is_ended-last, is_empty_clause-length}
use Rattle.refutation_log.proofs.LegalLemmas.{get_or-clauses}
use Rattle.names_and_numbers.specs.Prefix.{IsPrefix}
use Rattle.clause_solver.proofs.NewLemmas.{teaching_clauses_are_new}

-- ---- an entry was offered to a log

pub record IsKnownAt (log : List Entry) (e : Entry) (new : List Entry) (reply : Reply) : Type 0 where
  pub place : ℕ
  pub known : clause_place e.clause log ≡ Some place
  pub same : new ≡ log
  pub says : reply ≡ Known place

pub record IsPastEnd (log new : List Entry) (reply : Reply) : Type 0 where
  pub ended : is_ended log ≡ true
  pub same : new ≡ log
  pub says : reply ≡ Closed

pub record IsPastLimit (limit : Option ℕ) (log new : List Entry) (reply : Reply) : Type 0 where
  pub open' : is_ended log ≡ false
  pub limited : is_at_limit limit log ≡ true
  pub same : new ≡ log
  pub says : reply ≡ Full

pub record IsTaken (log : List Entry) (e : Entry) (new : List Entry) (reply : Reply) : Type 0 where
  pub longer : new ≡ log ++ e ∷ []
  pub says : reply ≡ At (length log)

abbrev Offer : Option ℕ → List Entry → Entry → List Entry → Reply → Type 0
Offer limit log e new reply = IsKnownAt log e new reply ⊎ (IsPastEnd log new reply ⊎ (IsPastLimit limit log new reply ⊎ IsTaken log e new reply))

offer : (limit : Option ℕ) (log : List Entry) (e : Entry) (new : List Entry) (reply : Reply) → reply ≡ reply_of log limit (Append e) → new ≡ log_after log limit (Append e) → Offer limit log e new reply
offer limit log e new reply r n = by (clause_place e.clause log) refl r n
  where
    taken : (a b : Bool) → is_ended log ≡ a → is_at_limit limit log ≡ b → reply ≡ cond a Closed (cond b Full (At (length log)))
        → new ≡ log_replied log e (cond a Closed (cond b Full (At (length log)))) → Offer limit log e new reply
    taken true b p q s t = inr (inl record { ended = p; same = t; says = s })
    taken false true p q s t = inr (inr (inl record { open' = p; limited = q; same = t; says = s }))
    taken false false p q s t = inr (inr (inr record { longer = t; says = s }))

    by : (o : Option ℕ) → clause_place e.clause log ≡ o → reply ≡ option_map_or (λ place. Known place) o (reply_to_new log limit)
        → new ≡ log_replied log e (option_map_or (λ place. Known place) o (reply_to_new log limit)) → Offer limit log e new reply
    by (Some p) u s t = inl record { place = p; known = u; same = t; says = s }
    by None u s t = taken (is_ended log) (is_at_limit limit log) refl refl s t

-- the reply Closed comes of an ended log
pub closed_ends : (limit : Option ℕ) (log : List Entry) (e : Entry) (new : List Entry) → Closed ≡ reply_of log limit (Append e) → new ≡ log_after log limit (Append e) → is_ended new ≡ true
closed_ends limit log e new r n = by (offer limit log e new Closed r n)
  where
    by : Offer limit log e new Closed → is_ended new ≡ true
    by (inl k) = absurd (let s = k.says in cc)
    by (inr (inl p)) = ap is_ended p.same ∙ p.ended
    by (inr (inr (inl p))) = absurd (let s = p.says in cc)
    by (inr (inr (inr p))) = absurd (let s = p.says in cc)

-- ---- a clause that is known

pub record IsThere (log : List Entry) (clause : List Literal) (place : ℕ) : Type 0 where
  pub within : place < length log
  pub same : get_or (clauses_of log) place [] ≡ clause

there : (log : List Entry) (clause : List Literal) (place : ℕ) → clause_place clause log ≡ Some place → IsThere log clause place
there log clause place h =
    let k = position-Some (clause_eq clause) (clauses_of log) place [] h in
    let n : length (clauses_of log) ≡ length log = length-map log (λ (x : Entry). x.clause) in
    record { within = omega (arith, k.0); same = sym ((Decides-clause_eq clause (get_or (clauses_of log) place [])).0 k.1) }

-- a legal log that has the empty clause ends with it
known_ends : (log : List Entry) (e : Entry) (place : ℕ) → AllPairs (λ (d c : Entry). d.clause ≢ []) log → IsThere log [] place → is_ended log ≡ true
known_ends log e place pairs t = by (nat_lt (place + 1) (length log)) refl
  where
    empty : (get_or log place e).clause ≡ []
    empty = sym (get_or-clauses log place e [] t.within) ∙ t.same

    by : (b : Bool) → nat_lt (place + 1) (length log) ≡ b → is_ended log ≡ true
    by true h = absurd (pairs place (place + 1) e (omega arith) (ltb-true (place + 1) (length log) h) empty)
    by false h =
        let le = ltb-false (place + 1) (length log) h in
        let in' = t.within in
        let last : place ≡ length log - 1 = omega arith in
        is_ended-last log (get_or log place e) (ap (slice_get log) (sym last) ∙ slice_get-get_or log place e t.within) ∙ ap is_empty_clause empty

-- after the empty clause was offered, the log is ended or full
pub empty_ends : (vars : ℕ) (base : List (List Literal)) (limit : Option ℕ) (log : List Entry) (e : Entry) (new : List Entry) (reply : Reply)
    → reply ≡ reply_of log limit (Append e) → new ≡ log_after log limit (Append e) → IsLegal vars base limit new → e.clause ≡ [] → reply ≢ Full → is_ended new ≡ true
empty_ends vars base limit log e new reply r n legal empty not_full = by (offer limit log e new reply r n)
  where
    by : Offer limit log e new reply → is_ended new ≡ true
    by (inl k) =
        let t = there log e.clause k.place k.known in
        known_ends new e k.place legal.ended (subst (λ l. IsThere l [] k.place) (sym k.same) (record { within = t.within; same = t.same ∙ empty }))
    by (inr (inl p)) = ap is_ended p.same ∙ p.ended
    by (inr (inr (inl p))) = absurd (not_full p.says)
    by (inr (inr (inr p))) = ap is_ended p.longer ∙ last log
      where
        last : (es : List Entry) → is_ended (es ++ e ∷ []) ≡ true
        last [] = ap is_empty_clause empty
        last (d ∷ []) = ap is_empty_clause empty
        last (d ∷ c ∷ es) = last (c ∷ es)

-- after another clause was offered that teaches, a log that isn't ended or full has grown since it was taught from
pub grown : (base : List (List Literal)) (limit : Option ℕ) (old log : List Entry) (e : Entry) (new : List Entry) (reply : Reply)
    → reply ≡ reply_of log limit (Append e) → new ≡ log_after log limit (Append e) → IsPrefix old log → IsClause e.clause → e.clause ≢ [] → Teaches (base ++ clauses_of old) e.clause
    → reply ≢ Closed → reply ≢ Full → length old < length new
grown base limit old log e new reply r n prefix sorted some teaches not_closed not_full = by (offer limit log e new reply r n)
  where
    long : length log ≡ length old + length prefix.0
    long = ap length prefix.1 ∙ length-append old prefix.0

    by : Offer limit log e new reply → length old < length new
    by (inl k) = after (nat_lt k.place (length old)) refl
      where
        t : IsThere log e.clause k.place
        t = there log e.clause k.place k.known

        clauses : clauses_of log ≡ clauses_of old ++ clauses_of prefix.0
        clauses = ap clauses_of prefix.1 ∙ map-append (λ (x : Entry). x.clause) old prefix.0

        seen : k.place < length old → Contains (clauses_of old) e.clause
        seen lt =
            let m : length (clauses_of old) ≡ length old = length-map old (λ (x : Entry). x.clause) in
            let lt' : k.place < length (clauses_of old) = omega arith in
            let at : get_or (clauses_of old) k.place [] ≡ e.clause =
            sym (get_or_append_left (clauses_of old) (clauses_of prefix.0) [] k.place lt') ∙ ap (λ cs. get_or cs k.place []) (sym clauses) ∙ t.same in
            subst (Contains (clauses_of old)) at (Contains-get_or (clauses_of old) k.place [] lt')

        after : (b : Bool) → nat_lt k.place (length old) ≡ b → length old < length new
        after true h =
            absurd (teaching_clauses_are_new (base ++ clauses_of old) e.clause e.clause teaches
            (Contains-append_right base (clauses_of old) e.clause (seen (ltb-true k.place (length old) h))) sorted some (λ l m. m))
        after false h = let le = ltb-false k.place (length old) h in let in' = t.within in let same = ap length k.same in omega arith
    by (inr (inl p)) = absurd (not_closed p.says)
    by (inr (inr (inl p))) = absurd (not_full p.says)
    by (inr (inr (inr p))) = let more = ap length p.longer ∙ length-append log (e ∷ []) in omega (arith, long)

-- a clause is empty where it has no literal
pub emptied : (b : Bool) (lits clause : List Literal) → b ≡ (length lits == 0) → lits ≡ clause → b ≡ true → clause ≡ []
emptied b lits clause e s t = sym s ∙ by lits (sym (is_empty_clause-length lits ∙ sym e ∙ t))
  where
    by : (xs : List Literal) → true ≡ is_empty_clause xs → xs ≡ []
    by [] h = refl
    by (x ∷ xs) h = absurd (true≢false h)

pub filled : (b : Bool) (lits clause : List Literal) → b ≡ (length lits == 0) → lits ≡ clause → b ≡ false → clause ≢ []
filled b lits clause e s f n = true≢false (ap is_empty_clause (sym (s ∙ n)) ∙ is_empty_clause-length lits ∙ sym e ∙ f)
