-- Legal logs: they stay legal under sound turns, and what stands in them is implied.
use Rattle.std.proofs.Common.{◌≡◌, ◌≢◌, ℕ, suc, zero, ◌+◌, ◌-◌, ◌<◌, ◌≤◌, Bool, true, false, ◌&&◌, nat_lt, cond, List, [], ◌∷◌, ◌++◌, ◌⊎◌, inl, inr, Option, Some, None, take, get_or, slice_get, length, length-append, append_assoc, refl, sym, subst, ap, ◌∙◌, true≢false, arith}
use Rattle.std.specs.Prelude.{AllPairs, position}
use Rattle.std.specs.List.{position_or_len}
use Rattle.std.specs.Cmp.{first_so, second_so}
use Rattle.std.specs.Option.{option_map_or}
use Rattle.std.proofs.lemmas.List.{get_or_append_left, append-nil, length-map, map-append}
use Rattle.std.proofs.lemmas.List.Elements.{All-nil, All-push}
use Rattle.std.proofs.lemmas.List.Folds.{list_all-append}
use Rattle.std.proofs.lemmas.List.Quantifiers.{all_pairs_push}
use Rattle.std.proofs.lemmas.List.Sums.{fails_before_first}
use Rattle.std.proofs.lemmas.Option.{slice_get_cases, slice_get_within, slice_get-get_or}
use Rattle.std.proofs.Math.Seq.{take-suc, take-length}
use Rattle.std.proofs.lemmas.Bool.{cases_lt}
use borrow.Author.Tests.{ltb-false, leb-false}
use Rattle.std_lemmas.proofs.Lists.{slice_get-append, slice_get-push}
use Rattle.propositional_logic.specs.Literal.{Literal}
use Rattle.propositional_logic.specs.Clause.{clause_eq, IsWithinVariables}
use Rattle.propositional_logic.specs.Truth.{is_true_clause, meets}
use Rattle.propositional_logic.specs.Equality.{Decides-clause_eq}
use Rattle.refutation_log.specs.declared.entries.Entry.{Entry}
use Rattle.refutation_log.specs.declared.turns.Turn.{Turn}
use Rattle.refutation_log.specs.declared.turns.Turn.TheVariants.{Append, Read}
use Rattle.refutation_log.specs.declared.turns.Reply.TheVariants.{Known, Closed, Full, At}
use Rattle.refutation_log.specs.Entry.{clauses_of}
use Rattle.refutation_log.specs.Follows.{Follows}
use Rattle.refutation_log.specs.Log.{is_empty_clause, is_ended, IsWithinLimit, IsLegal, IsClosed}
use Rattle.refutation_log.specs.Turn.{clause_place, is_at_limit, reply_to_new, log_replied, log_after, run_of, IsSoundTurn, IsSoundRun}
use Rattle.refutation_log.proofs.Lists.{take-append, take-append_all, take_drop}
use Rattle.refutation_log.proofs.FollowsLemmas.{Follows-append, Follows-implied}
use Rattle.refutation_log.proofs.StateLemmas.{is_ended-last}

pub Follows-in_log : (base : List (List Literal)) (log more : List Entry) (c : List Literal) (hints : List ℕ)
    → Follows (base ++ clauses_of log) c hints → Follows (base ++ clauses_of (log ++ more)) c hints
Follows-in_log base log more c hints h =
    subst (λ cs. Follows cs c hints) (append_assoc base (clauses_of log) (clauses_of more) ∙ ap (λ cs. base ++ cs) (sym (map-append (λ (e : Entry). e.clause) log more)))
    (Follows-append (base ++ clauses_of log) (clauses_of more) c hints h)

-- ---- the empty log, and prefixes

pub legal_empty : (vars : ℕ) (base : List (List Literal)) (limit : Option ℕ) → IsLegal vars base limit []
legal_empty vars base limit = record {
  within = All-nil (λ e. IsWithinVariables vars e.clause);
  follows = λ i e h. absurd (cc);
  different = λ i j d lt high. absurd (omega arith);
  limited = none limit;
  ended = λ i j d lt high. absurd (omega arith);
}
  where
    none : (o : Option ℕ) → IsWithinLimit o []
    none None = tt
    none (Some most) = omega arith

pub legal_prefix : (vars : ℕ) (base : List (List Literal)) (limit : Option ℕ) (log more : List Entry) → IsLegal vars base limit (log ++ more) → IsLegal vars base limit log
legal_prefix vars base limit log more h =
    let len : length (log ++ more) ≡ length log + length more = length-append log more in
    record {
      within = λ k d lt. subst (λ (e : Entry). IsWithinVariables vars e.clause) (get_or_append_left log more d k lt) (h.within k d (omega arith));
      follows = λ i e at.
          let lt : i < length log = slice_get_within log i e at in
          subst (λ es. Follows (base ++ clauses_of es) e.clause e.hints) (take-append i log more (omega arith)) (h.follows i e (slice_get-append log more i e at));
      different = λ i j d lt high.
          subst (λ (e : Entry). (get_or log i d).clause ≢ e.clause) (get_or_append_left log more d j high)
          (subst (λ (e : Entry). e.clause ≢ (get_or (log ++ more) j d).clause) (get_or_append_left log more d i (omega arith)) (h.different i j d lt (omega arith)));
      limited = fewer limit len h.limited;
      ended = λ i j d lt high. subst (λ (e : Entry). e.clause ≢ []) (get_or_append_left log more d i (omega arith)) (h.ended i j d lt (omega arith));
    }
  where
    fewer : (o : Option ℕ) → length (log ++ more) ≡ length log + length more → IsWithinLimit o (log ++ more) → IsWithinLimit o log
    fewer None len l = tt
    fewer (Some most) len l = omega arith

-- ---- one more entry

-- a list where no element passes the test has no place that does
no_position : {X : Type 0} (p : X → Bool) (xs : List X) → position p xs ≡ None → length xs ≤ position_or_len p xs
no_position p xs h = by (nat_lt (position_or_len p xs) (length xs)) refl h
  where
    by : (b : Bool) → nat_lt (position_or_len p xs) (length xs) ≡ b → cond b (Some (position_or_len p xs)) None ≡ None → length xs ≤ position_or_len p xs
    by true e k = absurd (cc)
    by false e k = ltb-false (position_or_len p xs) (length xs) e

pub get_or-clauses : (log : List Entry) (k : ℕ) (d : Entry) (c : List Literal) → k < length log → get_or (clauses_of log) k c ≡ (get_or log k d).clause
get_or-clauses [] k d c lt = absurd (omega arith)
get_or-clauses (e ∷ log) zero d c lt = refl
get_or-clauses (e ∷ log) (suc k) d c lt = get_or-clauses log k d c (omega arith)

unknown_before : (log : List Entry) (c : List Literal) → clause_place c log ≡ None → (k : ℕ) (d : Entry) → k < length log → (get_or log k d).clause ≢ c
unknown_before log c h k d lt e =
    let len : length (clauses_of log) ≡ length log = length-map log (λ (x : Entry). x.clause) in
    let none = no_position (clause_eq c) (clauses_of log) h in
    let miss : clause_eq c (get_or (clauses_of log) k c) ≡ false = fails_before_first (clause_eq c) (clauses_of log) k c (omega arith) in
    let there : get_or (clauses_of log) k c ≡ (get_or log k d).clause = get_or-clauses log k d c lt in
    true≢false (sym ((Decides-clause_eq c (get_or (clauses_of log) k c)).1 (sym (there ∙ e))) ∙ miss)

pub unended_before : (log : List Entry) → AllPairs (λ (d e : Entry). d.clause ≢ []) log → is_ended log ≡ false → (k : ℕ) (d : Entry) → k < length log → (get_or log k d).clause ≢ []
unended_before log pairs open' k d lt e =
    elim (cases_lt (k + 1) (length log)) [
      | inl p ↦ pairs k (k + 1) d (omega arith) p e
      | inr p ↦
          let last : slice_get log k ≡ Some (get_or log k d) = slice_get-get_or log k d lt in
          let j : k ≡ length log - 1 = omega arith in
          let s = is_ended-last log (get_or log k d) (ap (slice_get log) (sym j) ∙ last) in
          true≢false (sym (s ∙ ap is_empty_clause e) ∙ open')
    ]

below_limit : (limit : Option ℕ) (log : List Entry) (e : Entry) → is_at_limit limit log ≡ false → IsWithinLimit limit (log ++ e ∷ [])
below_limit None log e h = tt
below_limit (Some most) log e h =
    let lt = leb-false most (length log) h in
    let len : length (log ++ e ∷ []) ≡ length log + 1 = length-append log (e ∷ []) in
    omega (arith, lt)

pub legal_push : (vars : ℕ) (base : List (List Literal)) (limit : Option ℕ) (log : List Entry) (e : Entry) (n : ℕ) → IsLegal vars base limit log
    → IsWithinVariables vars e.clause → Follows (base ++ clauses_of (take n log)) e.clause e.hints
    → clause_place e.clause log ≡ None → is_ended log ≡ false → is_at_limit limit log ≡ false → IsLegal vars base limit (log ++ e ∷ [])
legal_push vars base limit log e n h within follows unknown open' below = record {
  within = All-push (λ d. IsWithinVariables vars d.clause) log e h.within within;
  follows = λ i d at. by i d (slice_get-push log e i d at);
  different = all_pairs_push (λ d c. d.clause ≢ c.clause) log e h.different (unknown_before log e.clause unknown);
  limited = below_limit limit log e below;
  ended = all_pairs_push (λ d c. d.clause ≢ []) log e h.ended (unended_before log h.ended open');
}
  where
    here : Follows (base ++ clauses_of log) e.clause e.hints
    here = let k = take_drop n log in
        subst (λ es. Follows (base ++ clauses_of es) e.clause e.hints) (sym k.1) (Follows-in_log base (take n log) k.0 e.clause e.hints follows)

    by : (i : ℕ) (d : Entry) → (slice_get log i ≡ Some d) ⊎ ((i ≡ length log) × (e ≡ d)) → Follows (base ++ clauses_of (take i (log ++ e ∷ []))) d.clause d.hints
    by i d (inl at) =
        let lt : i < length log = slice_get_within log i d at in
        subst (λ es. Follows (base ++ clauses_of es) d.clause d.hints) (sym (take-append i log (e ∷ []) (omega arith))) (h.follows i d at)
    by i d (inr p) =
        subst (λ (c : Entry). Follows (base ++ clauses_of (take i (log ++ e ∷ []))) c.clause c.hints) p.1
        (subst (λ es. Follows (base ++ clauses_of es) e.clause e.hints) (sym (ap (λ j. take j (log ++ e ∷ [])) p.0 ∙ take-append_all log (e ∷ []))) here)

pub legal_grows : (vars : ℕ) (base : List (List Literal)) (limit : Option ℕ) (log : List Entry) (e : Entry) → IsLegal vars base limit log → IsWithinVariables vars e.clause
    → Follows (base ++ clauses_of log) e.clause e.hints → clause_place e.clause log ≡ None → is_ended log ≡ false → is_at_limit limit log ≡ false
    → IsLegal vars base limit (log ++ e ∷ [])
legal_grows vars base limit log e h within follows unknown open' below =
    legal_push vars base limit log e (length log) h within (subst (λ es. Follows (base ++ clauses_of es) e.clause e.hints) (sym (take-length log)) follows) unknown open' below

-- ---- runs

pub legal_turn : (vars : ℕ) (base : List (List Literal)) (limit : Option ℕ) (log : List Entry) (turn : Turn) → IsLegal vars base limit log
    → IsSoundTurn vars base log turn → IsLegal vars base limit (log_after log limit turn)
legal_turn vars base limit log Read h s = h
legal_turn vars base limit log (Append e) h s = by (clause_place e.clause log) refl
  where
    taken : (a b : Bool) → is_ended log ≡ a → is_at_limit limit log ≡ b → clause_place e.clause log ≡ None → IsLegal vars base limit (log_replied log e (cond a Closed (cond b Full (At (length log)))))
    taken true b p q u = h
    taken false true p q u = h
    taken false false p q u = legal_push vars base limit log e s.1.0 h s.0 s.1.1 u p q

    by : (o : Option ℕ) → clause_place e.clause log ≡ o → IsLegal vars base limit (log_replied log e (option_map_or (λ place. Known place) o (reply_to_new log limit)))
    by (Some p) u = h
    by None u = taken (is_ended log) (is_at_limit limit log) refl refl u

pub legal_run : (vars : ℕ) (base : List (List Literal)) (limit : Option ℕ) (log : List Entry) (turns : List Turn) → IsLegal vars base limit log
    → IsSoundRun vars base limit log turns → IsLegal vars base limit (run_of log limit turns)
legal_run vars base limit log [] h s = h
legal_run vars base limit log (turn ∷ turns) h s = legal_run vars base limit (log_after log limit turn) turns (legal_turn vars base limit log turn h s.0) s.1

-- ---- what a legal log says

meets-append : (values : List Bool) (xs ys : List (List Literal)) → meets values xs ≡ true → meets values ys ≡ true → meets values (xs ++ ys) ≡ true
meets-append values xs ys p q = list_all-append (is_true_clause values) xs ys ∙ ap (λ b. b && meets values ys) p ∙ q

meets_first : (values : List Bool) (vars : ℕ) (base : List (List Literal)) (limit : Option ℕ) (log : List Entry) → IsLegal vars base limit log → meets values base ≡ true
    → (n : ℕ) → n ≤ length log → meets values (base ++ clauses_of (take n log)) ≡ true
meets_first values vars base limit log h m zero le = ap (meets values) (append-nil base) ∙ m
meets_first values vars base limit log h m (suc n) le =
    elim (slice_get_cases log n).1 [
      | inl p ↦
          let e = p.0 in
          let before = meets_first values vars base limit log h m n (omega arith) in
          let true' = Follows-implied values (base ++ clauses_of (take n log)) e.clause e.hints (h.follows n e p.2) before in
          let more : clauses_of (take (suc n) log) ≡ clauses_of (take n log) ++ e.clause ∷ [] =
          ap clauses_of (take-suc log n e (omega arith) ∙ ap (λ d. take n log ++ d ∷ []) p.3) ∙ map-append (λ (d : Entry). d.clause) (take n log) (e ∷ []) in
          ap (λ cs. meets values (base ++ cs)) more ∙ ap (meets values) (sym (append_assoc base (clauses_of (take n log)) (e.clause ∷ [])))
          ∙ meets-append values (base ++ clauses_of (take n log)) (e.clause ∷ []) before (ap (λ b. b && true) true')
      | inr p ↦ absurd (omega arith)
    ]

pub legal_meets : (values : List Bool) (vars : ℕ) (base : List (List Literal)) (limit : Option ℕ) (log : List Entry) → IsLegal vars base limit log → meets values base ≡ true
    → meets values (base ++ clauses_of log) ≡ true
legal_meets values vars base limit log h m =
    ap (λ es. meets values (base ++ clauses_of es)) (sym (take-length log)) ∙ meets_first values vars base limit log h m (length log) (omega arith)

ended_meets : (values : List Bool) (log : List Entry) → is_ended log ≡ true → meets values (clauses_of log) ≡ true → ⊥
ended_meets values [] e m = true≢false (sym e)
ended_meets values (d ∷ []) e m = by d.clause e (first_so (is_true_clause values d.clause) true m)
  where
    by : (c : List Literal) → is_empty_clause c ≡ true → is_true_clause values c ≡ true → ⊥
    by [] e m = true≢false (sym m)
    by (l ∷ ls) e m = true≢false (sym e)
ended_meets values (d ∷ c ∷ log) e m = ended_meets values (c ∷ log) e (second_so (is_true_clause values d.clause) (meets values (clauses_of (c ∷ log))) m)

pub closed_refutes : (values : List Bool) (vars : ℕ) (base : List (List Literal)) (limit : Option ℕ) (log : List Entry) → IsClosed vars base limit log → meets values base ≡ false
closed_refutes values vars base limit log h = by (meets values base) refl
  where
    by : (b : Bool) → meets values base ≡ b → b ≡ false
    by false e = refl
    by true e =
        let all = legal_meets values vars base limit log h.legal e in
        absurd (ended_meets values log h.refutes (second_so (meets values base) (meets values (clauses_of log)) (sym (list_all-append (is_true_clause values) base (clauses_of log)) ∙ all)))
