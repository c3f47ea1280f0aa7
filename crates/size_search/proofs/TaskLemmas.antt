-- What a closed log says of its size.
use Rattle.std.proofs.Common.{◌≡◌, ℕ, ◌-◌, ◌<◌, ◌≤◌, nat_lt, List, [], ◌∷◌, ◌++◌, Option, Some, Bool, true, false, length, length-append, get_or, map, Contains, refl, sym, subst, ap, ◌∙◌, true≢false, arith}
use Rattle.std.proofs.lemmas.List.{append-nil, get_or_append_left}
use Rattle.std.proofs.lemmas.Option.{slice_get-get_or}
use borrow.Author.Tests.{ltb-true, ltb-false}
use Rattle.propositional_logic.specs.Literal.{Literal}
use Rattle.propositional_logic.specs.declared.formula.Cnf.{Cnf}
use Rattle.propositional_logic.specs.Truth.{meets}
use Rattle.propositional_logic.specs.Clause.{IsFormula}
use Rattle.machine_model.specs.Machine.{MachineModel}
use Rattle.machine_model.specs.Automaton.{IsAutomaton}
use Rattle.machine_model.specs.Problem.{IsProblem, automaton_of}
use Rattle.machine_model.specs.declared.problems.Problem.{Problem}
use Rattle.annotation_encode.specs.BaseClauses.{base_clauses}
use Rattle.annotation_encode.specs.Laws.{HasAccepted, IsMetBySome}
use Rattle.annotation_encode.specs.Variables.{variables_of}
use Rattle.refutation_log.specs.declared.entries.Entry.{Entry}
use Rattle.refutation_log.specs.Log.{is_empty_clause, is_ended, IsWithinLimit}
use Rattle.refutation_log.proofs.LegalLemmas.{closed_refutes}
use Rattle.refutation_log.proofs.StateLemmas.{is_ended-last}
use Rattle.clause_exchange.specs.declared.views.Terms.{Terms}
use Rattle.names_and_numbers.specs.Prefix.{IsPrefix}
use Rattle.clause_exchange.specs.SharedLog.{IsAfterTurn, IsLogOn, PassView, SharedLog}
use Rattle.size_search.specs.Task.{SizeTaskModel, IsKeptTask}
use Rattle.size_search.specs.Decided.{IsAcceptedOf, IsClosedOn}
use Rattle.size_search.specs.SizeLog.{HoldsEnded}

-- no machine of the problem is accepted
pub none_accepted : (t : SizeTaskModel) (formula : Cnf) (log : List Entry) → IsKeptTask t formula → IsClosedOn t.exchange.terms log → (m : MachineModel) → IsAcceptedOf t.problem m → ⊥
none_accepted t formula log k closed m a =
    let by = k.met (record { machine = m; made = a.machine; looked_for = a.looked_for; accepted = a.accepted }) in
    let terms = t.exchange.terms in
    true≢false (sym by.met ∙ ap (meets by.values) k.clauses ∙ closed_refutes by.values terms.vars terms.base terms.limit log closed)

-- where the log that was read ends with the empty clause, the size is refuted
pub refuted : (t : SizeTaskModel) (formula : Cnf) (p q : PassView) → IsKeptTask t formula → IsAfterTurn p q → p.exchange ≡ t.exchange → is_ended q.seen ≡ true
    → IsClosedOn t.exchange.terms q.seen × ((m : MachineModel) → IsAcceptedOf t.problem m → ⊥)
refuted t formula p q k turn same ended =
    let closed : IsClosedOn t.exchange.terms q.seen = subst (λ (x : SharedLog). IsClosedOn x.terms q.seen) same record { legal = turn.log.legal; refutes = ended } in
    (closed, none_accepted t formula q.seen k closed)

-- what was seen of a log is the whole log where it is ended, or reaches the limit
nothing_more : (log seen : List Entry) → IsPrefix seen log → length log ≤ length seen → log ≡ seen
nothing_more log seen p short = by p.0 p.1
  where
    by : (more : List Entry) → log ≡ seen ++ more → log ≡ seen
    by [] e = e ∙ append-nil seen
    by (x ∷ more) e = absurd (let n = ap length e ∙ length-append seen (x ∷ more) in omega arith)

ended_last : (terms : Terms) (log seen : List Entry) → IsLogOn terms log → IsPrefix seen log → is_ended seen ≡ true → length log ≤ length seen
ended_last terms log [] on p ended = absurd (true≢false (sym ended))
ended_last terms log (e ∷ es) on p ended = by (nat_lt (length (e ∷ es)) (length log)) refl
  where
    seen : List Entry
    seen = e ∷ es

    last : ℕ
    last = length seen - 1

    empty : (c : List Literal) → is_empty_clause c ≡ true → c ≡ []
    empty [] h = refl
    empty (l ∷ ls) h = absurd (true≢false (sym h))

    at : (get_or seen last e).clause ≡ []
    at = empty (get_or seen last e).clause (sym (is_ended-last seen (get_or seen last e) (slice_get-get_or seen last e (omega arith))) ∙ ended)

    there : (get_or log last e).clause ≡ []
    there = ap (λ l. (get_or l last e).clause) p.1 ∙ ap (λ (x : Entry). x.clause) (get_or_append_left seen p.0 e last (omega arith)) ∙ at

    by : (b : Bool) → nat_lt (length seen) (length log) ≡ b → length log ≤ length seen
    by true h = absurd (on.legal.ended last (length seen) e (omega arith) (ltb-true (length seen) (length log) h) there)
    by false h = ltb-false (length seen) (length log) h

within : (limit : Option ℕ) (log seen : List Entry) → limit ≡ Some (length seen) → IsWithinLimit limit log → length log ≤ length seen
within limit log seen e w = subst (λ l. IsWithinLimit l log) e w

pub holds_ended : (terms : Terms) (log seen : List Entry) → IsLogOn terms log → IsPrefix seen log → HoldsEnded terms log seen
holds_ended terms log seen on p = record {
  closed = λ c. nothing_more log seen p (ended_last terms log seen on p c.refutes);
  full = λ f. nothing_more log seen p (within terms.limit log seen f.at_limit on.legal.limited);
}

-- each number is that of a pass, as it is that of a seat
pub each_closes : (n m : ℕ) (passes seats : List PassView) → n ≡ m → passes ≡ seats → ((k : ℕ) → k < m → Contains (map (λ (p : PassView). p.number) seats) k)
    → (k : ℕ) → k < n → Contains (map (λ (p : PassView). p.number) passes) k
each_closes n m passes seats same e each k lt = subst (λ l. Contains (map (λ (p : PassView). p.number) l) k) (sym e) (each k (omega arith))

abbrev terms_with : Problem → List (List Literal) → Option ℕ → ℕ → Terms
terms_with p base limit seats = record { vars = variables_of p; base = base; limit = limit; seats = seats }

-- a task of a formula that was just made
pub opens : (p : Problem) (x : SharedLog) (cnf formula shared : Cnf) (limit : Option ℕ) (seats : ℕ) → IsProblem p → IsAutomaton (automaton_of p) → cnf.vars ≡ variables_of p → cnf.clauses.items ≡ base_clauses p
    → IsFormula cnf.vars cnf.clauses.items → (HasAccepted p → IsMetBySome cnf.vars cnf.clauses.items) → formula ≡ cnf → shared ≡ formula
    → x.terms ≡ record { vars = shared.vars; base = shared.clauses.items; limit = limit; seats = seats } → IsKeptTask (record { problem = p; exchange = x }) formula
opens p x cnf formula shared limit seats problem automaton vars clauses is met same other terms =
    let v : x.terms.vars ≡ formula.vars = ap (λ (t : Terms). t.vars) terms ∙ ap (λ (f : Cnf). f.vars) other in
    let b : x.terms.base ≡ formula.clauses.items = ap (λ (t : Terms). t.base) terms ∙ ap (λ (f : Cnf). f.clauses.items) other in
    let v' : x.terms.vars ≡ variables_of p = v ∙ ap (λ (f : Cnf). f.vars) same ∙ vars in
    let b' : x.terms.base ≡ base_clauses p = b ∙ ap (λ (f : Cnf). f.clauses.items) same ∙ clauses in
    record {
      task = record {
        of_problem = problem;
        of_automaton = automaton;
        terms = ap (λ n. record { vars = n; base = x.terms.base; limit = x.terms.limit; seats = x.terms.seats }) v' ∙ ap (λ cs. terms_with p cs x.terms.limit x.terms.seats) b';
      };
      vars = sym v;
      clauses = sym b;
      is_formula = subst (λ (f : Cnf). IsFormula f.vars f.clauses.items) (sym same) is;
      met = λ h. subst (λ (f : Cnf). IsMetBySome f.vars f.clauses.items) (sym same) (met h);
    }
