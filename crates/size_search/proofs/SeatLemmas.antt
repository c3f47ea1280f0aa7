-- What a seat keeps from turn to turn.
use Rattle.std.proofs.Common.{◌≡◌, ℕ, List, [], ◌∷◌, ◌++◌, Option, Some, None, slice_get, length, ◌<◌, refl, sym, subst, ap, ◌∙◌, arith}
use Rattle.std.proofs.lemmas.Option.{slice_get_within}
use Rattle.std.specs.Prelude.{IfSome}
use Rattle.propositional_logic.specs.Literal.{Literal}
use Rattle.refutation_log.specs.declared.entries.Entry.{Entry}
use Rattle.names_and_numbers.specs.Prefix.{IsPrefix}
use Rattle.names_and_numbers.proofs.PrefixLemmas.{IsPrefix-refl, IsPrefix-trans}
use Rattle.clause_exchange.specs.SharedLog.{IsAfterTurn, PassView, SharedLog, new_pass}
use Rattle.clause_solver.specs.Worker.{WorkerModel, IsWorkingOn}
use Rattle.clause_solver.proofs.WorkLemmas.{work_goes_on}
use Rattle.size_search.specs.declared.seats.Work.{Work}
use Rattle.size_search.specs.Seat.{GoesOn, IsWorkOf}

pub goes_turn : (p q : PassView) → IsAfterTurn p q → GoesOn p q
goes_turn p q t = record { exchange = t.exchange; number = t.number; seen = t.seen }

-- what a seat has stays its own when its pass goes on
pub work_stays : (p q : PassView) (worker : WorkerModel) (entries : List Entry) → GoesOn p q → IsWorkOf p worker entries → IsWorkOf q worker entries
work_stays p q worker entries g w = record {
  number = w.number ∙ sym g.number;
  vars = w.vars ∙ ap (λ x. x.terms.vars) (sym g.exchange);
  begins = IsPrefix-trans entries p.seen q.seen w.begins g.seen;
  working = subst (λ x. IsWorkingOn x.terms.base entries worker) (sym g.exchange) w.working;
}

pub works_stay : (p q : PassView) (work : Option Work) → IsAfterTurn p q → IfSome work (λ w. IsWorkOf p w.worker w.entries.items) → IfSome work (λ w. IsWorkOf q w.worker w.entries.items)
works_stay p q None t w = tt
works_stay p q (Some work) t w = work_stays p q work.worker work.entries.items (goes_turn p q t) w

-- after the log was read the worker works on all that was seen
pub work_reads : (p q : PassView) (worker : WorkerModel) (entries read : List Entry) → IsAfterTurn p q → read ≡ q.seen → IsWorkOf p worker entries → IsWorkOf q worker read
work_reads p q worker entries read t e w =
    let g = goes_turn p q t in
    let s = work_stays p q worker entries g w in
    record {
      number = s.number;
      vars = s.vars;
      begins = subst (λ l. IsPrefix l q.seen) (sym e) (IsPrefix-refl q.seen);
      working = subst (λ l. IsWorkingOn q.exchange.terms.base l worker) (sym s.begins.1 ∙ sym e) (work_goes_on.longer q.exchange.terms.base entries s.begins.0 worker s.working);
    }

-- and so it does after its own turn
pub work_turns : (p : PassView) (before after : WorkerModel) (entries seen : List Entry) (base : List (List Literal)) → IsWorkOf p before entries → base ≡ p.exchange.terms.base
    → seen ≡ entries → IsWorkingOn base seen after → after.number ≡ before.number → after.trail.vars ≡ before.trail.vars → IsWorkOf p after entries
work_turns p before after entries seen base w b s working number vars = record {
  number = number ∙ w.number;
  vars = vars ∙ w.vars;
  begins = w.begins;
  working = subst (λ l. IsWorkingOn p.exchange.terms.base l after) s (subst (λ cs. IsWorkingOn cs seen after) b working);
}

-- what a seat begins with
pub work_begins : (p : PassView) (number vars : ℕ) (worker : WorkerModel) (entries : List Entry) → worker ≡ record { number = number; trail = record { vars = vars; marks = []; watched = []; looked = 0 }; shown = 0 }
    → entries ≡ [] → number ≡ p.number → vars ≡ p.exchange.terms.vars → IsWorkOf p worker entries
work_begins p number vars worker entries w e n v = record {
  number = ap (λ x. x.number) w ∙ n;
  vars = ap (λ x. x.trail.vars) w ∙ v;
  begins = (p.seen, ap (λ l. l ++ p.seen) (sym e));
  working = subst (λ x. IsWorkingOn p.exchange.terms.base entries x) (sym w) (work_goes_on.new p.exchange.terms.base entries number vars);
}

-- the pass at a place bears that number
pub numbered : (passes before after : List PassView) (pass : PassView) (number : ℕ) → ((i : ℕ) (p : PassView) → slice_get passes i ≡ Some p → p.number ≡ i)
    → passes ≡ before ++ pass ∷ after → number ≡ length before → number ≡ pass.number
numbered passes before after pass number each split n =
    sym (each number pass (ap (λ l. slice_get l number) split ∙ ap (λ k. slice_get (before ++ pass ∷ after) k) n ∙ next before))
  where
    next : (xs : List PassView) → slice_get (xs ++ pass ∷ after) (length xs) ≡ Some pass
    next [] = refl
    next (x ∷ xs) = next xs

-- passes that have just been given out bear their places as numbers
pub fresh_numbers : (exchange : SharedLog) (passes : List PassView) (n : ℕ) → length passes ≡ n → ((i : ℕ) → i < n → slice_get passes i ≡ Some (new_pass exchange i))
    → (i : ℕ) (p : PassView) → slice_get passes i ≡ Some p → p.number ≡ i
fresh_numbers exchange passes n count each i p at =
    let lt = slice_get_within passes i p at in
    let same : Some p ≡ Some (new_pass exchange i) = sym at ∙ each i (omega arith) in
    let same' : p ≡ new_pass exchange i = cc in
    ap (λ (q : PassView). q.number) same'

-- a worker's work, on the lists that its turn is lent
pub work_shows : (p : PassView) (worker : WorkerModel) (entries seen : List Entry) (base : List (List Literal)) → IsWorkOf p worker entries → base ≡ p.exchange.terms.base → seen ≡ entries
    → IsWorkingOn base seen worker
work_shows p worker entries seen base w b s = subst (λ l. IsWorkingOn base l worker) (sym s) (subst (λ cs. IsWorkingOn cs entries worker) (sym b) w.working)
