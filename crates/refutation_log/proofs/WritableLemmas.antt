-- The entries of a legal log can stand in lines.
use Rattle.std.proofs.Common.{◌≡◌, ℕ, ◌+◌, ◌^◌, ◌<◌, ◌≤◌, List, ◌++◌, Option, length, take, get_or, map, All, length-append, length-take, arith}
use Rattle.std.proofs.lemmas.List.{length-map}
use Rattle.std.proofs.lemmas.List.Elements.{All-weaker}
use Rattle.std.proofs.lemmas.Option.{slice_get-get_or}
use Rattle.propositional_logic.specs.Literal.{Literal, negated}
use Rattle.refutation_log.specs.declared.entries.Entry.{Entry}
use Rattle.refutation_log.specs.Entry.{clauses_of, AreSorted}
use Rattle.refutation_log.specs.Follows.{Follows}
use Rattle.refutation_log.specs.Log.{IsLegal}
use Rattle.refutation_log.specs.Text.{IsWritable}
use Rattle.refutation_log.proofs.FollowsLemmas.{hints-named}

pub legal-writable : (vars : ℕ) (base : List (List Literal)) (limit : Option ℕ) (log : List Entry) → IsLegal vars base limit log → vars ≤ 2 ^ 30
    → length base + length log ≤ 2 ^ 64 → AreSorted log → All (λ e. e.by < 2 ^ 32) log → All (IsWritable vars) log
legal-writable vars base limit log legal small few sorted workers = λ k d lt. record {
  worker = workers k d lt;
  clause = sorted k d lt;
  within = legal.within k d lt;
  small = All-weaker (λ (l : Literal). l.var ≤ vars) (λ (l : Literal). l.var ≤ 2 ^ 30) (λ l at. omega (arith, at)) (get_or log k d).clause (legal.within k d lt);
  hints = hints_fit k (get_or log k d) lt (legal.follows k (get_or log k d) (slice_get-get_or log k d lt));
}
  where
    hints_fit : (k : ℕ) (e : Entry) → k < length log → Follows (base ++ clauses_of (take k log)) e.clause e.hints → All (λ h. (0 < h) × (h < 2 ^ 64)) e.hints
    hints_fit k e lt follows =
        let all = length-append base (clauses_of (take k log)) in
        let before : length (clauses_of (take k log)) ≡ length (take k log) = length-map (take k log) (λ (x : Entry). x.clause) in
        let first = length-take k log in
        All-weaker (λ h. (0 < h) × (h ≤ length (base ++ clauses_of (take k log)))) (λ h. (0 < h) × (h < 2 ^ 64))
        (λ h at. let some = at.0 in let within = at.1 in (some, omega arith)) e.hints
        (hints-named (base ++ clauses_of (take k log)) (map negated e.clause) e.hints follows)
