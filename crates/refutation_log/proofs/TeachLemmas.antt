-- What teaches over many clauses teaches over fewer, and a taught log stays taught with one more taught entry.
use Rattle.std.proofs.Common.{◌≡◌, ℕ, ◌<◌, inl, inr, ⊎_elim, nat_eq, cond, Bool, true, false, List, [], ◌∷◌, ◌++◌, Some, length, take, slice_get, sym, ap, ◌∙◌, subst, arith}
use Rattle.std.specs.Prelude.{Contains}
use Rattle.std.proofs.lemmas.List.Elements.{Contains-append_left, Contains-append_right, Contains-append_cases}
use Rattle.std.proofs.lemmas.Option.{slice_get_within}
use Rattle.std_lemmas.proofs.Lists.{Contains-head, Contains-later, Contains-cases, slice_get-push}
use Rattle.propositional_logic.specs.Literal.{Literal}
use Rattle.refutation_log.specs.declared.entries.Entry.{Entry}
use Rattle.refutation_log.specs.Entry.{clauses_of}
use Rattle.refutation_log.specs.Teaches.{IsQuietBut, Teaches, entries_by, IsTaught}
use Rattle.refutation_log.proofs.Lists.{take-append, take-append_all}

pub teaches-fewer : (more fewer : List (List Literal)) (clause : List Literal) → ((c : List Literal) → Contains fewer c → Contains more c)
    → Teaches more clause → Teaches fewer clause
teaches-fewer more fewer clause inside (inl empty) = inl empty
teaches-fewer more fewer clause inside (inr found) =
    let quiet : IsQuietBut more clause found.0 found.1 = found.2 in
    inr (
      found.0,
      found.1,
      record {
        member = quiet.member;
        one_sign = quiet.one_sign;
        others_false = quiet.others_false;
        untouched = quiet.untouched;
        not_falsified = λ c at. quiet.not_falsified c (inside c at);
        not_unit = λ c at. quiet.not_unit c (inside c at);
      },
    )

pub teaches-first : (clauses more : List (List Literal)) (clause : List Literal) → Teaches (clauses ++ more) clause → Teaches clauses clause
teaches-first clauses more clause h = teaches-fewer (clauses ++ more) clauses clause (λ c at. Contains-append_left clauses more c at) h

-- a clause of one worker's entries is a clause of the log
own_inside : (worker : ℕ) (log : List Entry) (c : List Literal) → Contains (clauses_of (entries_by worker log)) c → Contains (clauses_of log) c
own_inside worker [] c at = at
own_inside worker (e ∷ log) c at = by (nat_eq e.by worker) (own_inside worker log c) at
  where
    by : (b : Bool) → (Contains (clauses_of (entries_by worker log)) c → Contains (clauses_of log) c)
        → Contains (clauses_of (cond b (e ∷ entries_by worker log) (entries_by worker log))) c → Contains (e.clause ∷ clauses_of log) c
    by true rest m =
        elim (Contains-cases e.clause (clauses_of (entries_by worker log)) c m) [
          | inl same ↦ subst (Contains (e.clause ∷ clauses_of log)) same (Contains-head e.clause (clauses_of log))
          | inr later ↦ Contains-later e.clause (clauses_of log) c (rest later)
        ]
    by false rest m = Contains-later e.clause (clauses_of log) c (rest m)

pub teaches-own : (base : List (List Literal)) (log : List Entry) (worker : ℕ) (clause : List Literal) → Teaches (base ++ clauses_of log) clause
    → Teaches (base ++ clauses_of (entries_by worker log)) clause
teaches-own base log worker clause h = teaches-fewer (base ++ clauses_of log) (base ++ clauses_of (entries_by worker log)) clause inside h
  where
    inside : (c : List Literal) → Contains (base ++ clauses_of (entries_by worker log)) c → Contains (base ++ clauses_of log) c
    inside c at =
        elim (Contains-append_cases base (clauses_of (entries_by worker log)) c at) [
          | inl first ↦ Contains-append_left base (clauses_of log) c first
          | inr own ↦ Contains-append_right base (clauses_of log) c (own_inside worker log c own)
        ]

pub taught-push : (base : List (List Literal)) (log : List Entry) (e : Entry) → IsTaught base log → Teaches (base ++ clauses_of (entries_by e.by log)) e.clause
    → IsTaught base (log ++ e ∷ [])
taught-push base log e taught teaches i d at = ⊎_elim
    (λ (there : slice_get log i ≡ Some d).
    let lt : i < length log = slice_get_within log i d there in
    subst (λ es. Teaches (base ++ clauses_of (entries_by d.by es)) d.clause) (sym (take-append i log (e ∷ []) (omega arith))) (taught i d there))
    (λ (last : (i ≡ length log) × (e ≡ d)).
    subst (λ (x : List Entry × Entry). Teaches (base ++ clauses_of (entries_by x.1.by x.0)) x.1.clause)
    (λ k. (sym (ap (λ j. take j (log ++ e ∷ [])) last.0 ∙ take-append_all log (e ∷ [])) k, last.1 k)) teaches)
    (slice_get-push log e i d at)
