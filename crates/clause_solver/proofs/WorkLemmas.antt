-- What a worker keeps from step to step.
use Rattle.std.proofs.Common.{◌≡◌, ℕ, ◌+◌, ◌<◌, ◌≤◌, List, [], ◌∷◌, ◌++◌, ◌⊎◌, inl, inr, None, filter, nat_le, take, drop, length, length-append, Contains, All, refl, sym, subst, ap, ◌∙◌, arith}
use Rattle.std.proofs.lemmas.List.{append_assoc, map-append, take-append-drop, take_all}
use Rattle.std.proofs.lemmas.List.Elements.{All-contains, All-push, Contains-append_left, Contains-append_cases}
use Rattle.std_lemmas.proofs.Lists.{Contains-head, Contains-later, Contains-none, Contains-cases}
use Rattle.propositional_logic.specs.declared.formula.Cnf.{Cnf}
use Rattle.propositional_logic.specs.Literal.{Literal}
use Rattle.propositional_logic.specs.Clause.{IsWithinVariables}
use Rattle.refutation_log.specs.declared.entries.Entry.{Entry}
use Rattle.refutation_log.specs.Entry.{clauses_of}
use Rattle.refutation_log.proofs.Lists.{take-append}
use Rattle.unit_propagate.specs.declared.marks.Mark.{Mark}
use Rattle.unit_propagate.specs.Trail.{TrailModel, IsFree, highest_level, literals_of}
use Rattle.unit_propagate.specs.Sound.{AreSoundMarks, Extends}
use Rattle.unit_propagate.specs.Quiet.{IsQuiet}
use Rattle.unit_propagate.specs.Watched.{IsWatching}
use Rattle.unit_propagate.proofs.LawsLemmas.{empty_trails_begin, IsSound-append, IsWatching-append, going_back_keeps_sound}
use Rattle.conflict_learn.proofs.AssumeLemmas.{IsSound-assume}
use Rattle.clause_solver.specs.Levels.{up_to, IsQuietBelow, IsIdleBelow}
use Rattle.clause_solver.specs.Worker.{WorkerModel, IsSearching, IsWorkingOn}
use Rattle.clause_solver.specs.Turned.{IsLesson}
use Rattle.clause_solver.specs.Laws.{WorkGoesOn}
use Rattle.clause_solver.specs.Free.{free_count}
use Rattle.clause_solver.proofs.FreeLemmas.{free-longer, free-push}
use Rattle.clause_solver.proofs.LevelLemmas.{quiet_extends, quiet_assume, quiet_back}

longer_clauses : (base : List (List Literal)) (seen more : List Entry) → (base ++ clauses_of seen) ++ clauses_of more ≡ base ++ clauses_of (seen ++ more)
longer_clauses base seen more = append_assoc base (clauses_of seen) (clauses_of more) ∙ ap (λ cs. base ++ cs) (sym (map-append (λ (e : Entry). e.clause) seen more))

pub work_goes_on : WorkGoesOn
work_goes_on = record {
  new = λ base seen number vars. record {
    count = omega arith;
    watching = empty_trails_begin.watching (base ++ clauses_of seen);
    sound = empty_trails_begin.sound (base ++ clauses_of seen);
    quiet = λ level low. absurd (omega arith);
  };
  longer = λ base seen more worker w. record {
    count = (let n : length (seen ++ more) ≡ length seen + length more = length-append seen more in let c : worker.shown ≤ length seen = w.count in omega arith);
    watching = subst (λ cs. IsWatching cs worker.trail.watched) (longer_clauses base seen more) (IsWatching-append (base ++ clauses_of seen) (clauses_of more) worker.trail.watched w.watching);
    sound = subst (λ cs. AreSoundMarks cs worker.trail.marks) (longer_clauses base seen more) (IsSound-append (base ++ clauses_of seen) (clauses_of more) worker.trail.marks w.sound);
    quiet = subst (λ es. IsQuietBelow (highest_level worker.trail.marks) (base ++ clauses_of es) worker.trail.marks) (sym (take-append worker.shown seen more w.count)) w.quiet;
  };
}

-- ---- where all entries were shown

-- A trail that stands over all entries.
pub all_quiet : (base : List (List Literal)) (seen : List Entry) (trail : TrailModel) → IsSearching base seen trail (length seen) → IsQuietBelow (highest_level trail.marks) (base ++ clauses_of seen) trail.marks
all_quiet base seen trail s =
    subst (λ es. IsQuietBelow (highest_level trail.marks) (base ++ clauses_of es) trail.marks) (take_all (length seen) seen (omega arith)) s.quiet

pub searching_all : (base : List (List Literal)) (seen : List Entry) (trail : TrailModel) → IsWatching (base ++ clauses_of seen) trail.watched → AreSoundMarks (base ++ clauses_of seen) trail.marks
    → IsQuietBelow (highest_level trail.marks) (base ++ clauses_of seen) trail.marks → IsSearching base seen trail (length seen)
searching_all base seen trail w s q = record {
  count = omega arith;
  watching = w;
  sound = s;
  quiet = subst (λ es. IsQuietBelow (highest_level trail.marks) (base ++ clauses_of es) trail.marks) (sym (take_all (length seen) seen (omega arith))) q;
}

-- propagation
pub searching_propagate : (base : List (List Literal)) (seen : List Entry) (old new : TrailModel) → IsSearching base seen old (length seen) → Extends (base ++ clauses_of seen) old.marks new.marks
    → (AreSoundMarks (base ++ clauses_of seen) old.marks → AreSoundMarks (base ++ clauses_of seen) new.marks) → IsWatching (base ++ clauses_of seen) new.watched → IsSearching base seen new (length seen)
searching_propagate base seen old new s x sound w =
    searching_all base seen new w (sound s.sound) (quiet_extends (base ++ clauses_of seen) (base ++ clauses_of seen) old.marks new.marks x (all_quiet base seen old s))

-- a decision on a quiet trail
pub searching_assume : (base : List (List Literal)) (seen : List Entry) (old new : TrailModel) (lit : Literal) → IsSearching base seen old (length seen) → IsQuiet (base ++ clauses_of seen) (literals_of old.marks)
    → new ≡ record old { marks = old.marks ++ (record { lit = lit; level = highest_level old.marks + 1; reason = None }) ∷ [] } → IsSearching base seen new (length seen)
searching_assume base seen old new lit s q is =
    subst (λ t. IsSearching base seen t (length seen)) (sym is)
    (searching_all base seen (record old { marks = old.marks ++ (record { lit = lit; level = highest_level old.marks + 1; reason = None }) ∷ [] }) s.watching
    (IsSound-assume (base ++ clauses_of seen) old.marks lit s.sound)
    (quiet_assume (base ++ clauses_of seen) old.marks (record { lit = lit; level = highest_level old.marks + 1; reason = None }) refl q (all_quiet base seen old s)))

-- ---- going back for what is new

clause_of_entry : (es : List Entry) (c : List Literal) → Contains (clauses_of es) c → (e : Entry) × Contains es e × (e.clause ≡ c)
clause_of_entry [] c h = absurd (Contains-none c h)
clause_of_entry (e ∷ es) c h =
    elim (Contains-cases e.clause (clauses_of es) c h) [
      | inl s ↦ (e, Contains-head e es, s)
      | inr r ↦ let k = clause_of_entry es c r in (k.0, Contains-later e es k.0 k.1, k.2)
    ]

pub searching_back : (base : List (List Literal)) (seen : List Entry) (old new : TrailModel) (shown level looked : ℕ) → IsSearching base seen old shown → All (λ e. IsIdleBelow level old.marks e.clause) (drop shown seen)
    → new ≡ record old { marks = filter (λ m. nat_le m.level level) old.marks; looked = looked } → IsSearching base seen new (length seen)
searching_back base seen old new shown level looked s idle is =
    subst (λ t. IsSearching base seen t (length seen)) (sym is)
    (searching_all base seen (record old { marks = up_to level old.marks; looked = looked }) s.watching (going_back_keeps_sound (base ++ clauses_of seen) old.marks level s.sound)
    (quiet_back (base ++ clauses_of (take shown seen)) (base ++ clauses_of seen) old.marks level s.quiet split))
  where
    split : (c : List Literal) → Contains (base ++ clauses_of seen) c → Contains (base ++ clauses_of (take shown seen)) c ⊎ IsIdleBelow level old.marks c
    split c h =
        let parts : base ++ clauses_of seen ≡ (base ++ clauses_of (take shown seen)) ++ clauses_of (drop shown seen) = ap (λ es. base ++ clauses_of es) (sym (take-append-drop shown seen)) ∙ sym (longer_clauses base (take shown seen) (drop shown seen)) in
        elim (Contains-append_cases (base ++ clauses_of (take shown seen)) (clauses_of (drop shown seen)) c (subst (λ cs. Contains cs c) parts h)) [
          | inl k ↦ inl k
          | inr n ↦ (let e = clause_of_entry (drop shown seen) c n in inr (subst (IsIdleBelow level old.marks) e.2 (All-contains (λ (x : Entry). IsIdleBelow level old.marks x.clause) (drop shown seen) e.0 idle e.1)))
        ]

-- ---- what a decision needs and gives

pub quiet_front : (base more : List (List Literal)) (trues : List Literal) → IsQuiet (base ++ more) trues → IsQuiet base trues
quiet_front base more trues q = record {
  not_falsified = λ c h. q.not_falsified c (Contains-append_left base more c h);
  not_unit = λ c h. q.not_unit c (Contains-append_left base more c h);
}

pub fewer_free : (vars : ℕ) (clauses : List (List Literal)) (old middle new : TrailModel) (lit : Literal) (level : ℕ) → Extends clauses old.marks middle.marks → 0 < lit.var → lit.var ≤ vars → IsFree middle.marks lit.var
    → new ≡ record middle { marks = middle.marks ++ (record { lit = lit; level = level; reason = None }) ∷ [] } → free_count vars new.marks < free_count vars old.marks
fewer_free vars clauses old middle new lit level x low high free is =
    let m : Mark = record { lit = lit; level = level; reason = None } in
    let a : free_count vars (middle.marks ++ m ∷ []) < free_count vars middle.marks = free-push vars middle.marks m low high free in
    let b : free_count vars (old.marks ++ x.added) ≤ free_count vars old.marks = free-longer vars old.marks x.added in
    let c : free_count vars middle.marks ≡ free_count vars (old.marks ++ x.added) = ap (free_count vars) x.grown in
    let d : free_count vars new.marks ≡ free_count vars (middle.marks ++ m ∷ []) = ap (λ (t : TrailModel). free_count vars t.marks) is in
    omega arith

-- a caller appends what the worker has learnt, and goes on
pub goes_on_with : (number : ℕ) (base : Cnf) (seen seen' after : List Entry) (worker : WorkerModel) (entry : Entry) → seen' ≡ seen → IsLesson number base.vars (base.clauses.items ++ clauses_of seen') entry
    → after ≡ seen ++ entry ∷ [] → All (λ e. IsWithinVariables base.vars e.clause) seen → IsWorkingOn base.clauses.items seen' worker → All (λ e. IsWithinVariables base.vars e.clause) after × IsWorkingOn base.clauses.items after worker
goes_on_with number base seen seen' after worker entry same lesson is within w = (
  subst (All (λ (e : Entry). IsWithinVariables base.vars e.clause)) (sym is) (All-push (λ (e : Entry). IsWithinVariables base.vars e.clause) seen entry within lesson.within),
  subst (λ es. IsWorkingOn base.clauses.items es worker) (sym is) (work_goes_on.longer base.clauses.items seen (entry ∷ []) worker (subst (λ es. IsWorkingOn base.clauses.items es worker) same w)),
)
