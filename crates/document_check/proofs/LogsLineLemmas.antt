-- The first line at which logs fail, one log after the other.
use Rattle.std.proofs.Common.{◌≡◌, ℕ, suc, ◌≤◌, ◌==◌, Bool, true, false, Option, Some, None, List, [], ◌∷◌, refl, sym, ap, subst, arith}
use Rattle.std.specs.Prelude.{All, unwrap_or}
use Rattle.std.proofs.lemmas.Bool.{eqb-true, and_parts}
use Rattle.letters_and_lassos.specs.contracts.kinds.SidePartialEq.TheImpl.{ghosts as side_ghosts}
use Rattle.letters_and_lassos.specs.declared.kinds.Kind.{Kind}
use Rattle.machine_model.specs.declared.problems.Problem.{Problem}
use Rattle.document_text.specs.Parts.{LogPart}
use Rattle.document_text.specs.declared.order.Place.{Place}
use Rattle.document_check.specs.Facts.{Facts, problem_at}
use Rattle.document_check.specs.FirstBad.{is_size_of, LogFails, LogsFail, all_there, one_missing, one_more, another, no_problem, one_fails, one_good}
use Rattle.document_check.specs.Shown.{IsProblemAt, IsSize, line_of_first, uncons}
use Rattle.document_check.proofs.ProblemLemmas.{fails_over}

pub list_is : {X : Type 0} (xs : List X) (x : X) (rest : List X) → uncons xs ≡ Some (x, rest) → xs ≡ x ∷ rest
list_is [] x rest is = absurd (cc)
list_is {X = X} (y ∷ ys) x rest is =
    let same : (y, ys) ≡ (x, rest) = ap (λ (o : Option (X × List X)). unwrap_or o (x, rest)) is in
    λ i. (same i).0 ∷ (same i).1

pub is_empty : {X : Type 0} (xs : List X) → uncons xs ≡ None → xs ≡ []
is_empty [] is = refl
is_empty (x ∷ xs) is = absurd (cc)

pub first_of : {X : Type 0} (P : X → Type 0) (xs : List X) (x : X) (rest : List X) → uncons xs ≡ Some (x, rest) → All P xs → P x × All P rest
first_of {X = X} P xs x rest is all =
    let here : All P (x ∷ rest) = subst (λ (ys : List X). All P ys) (list_is xs x rest is) all in
    (here 0 x (omega arith), λ k d less. here (suc k) d (omega arith))

-- a log of a wanted size has a number of states that a problem may have
pub size_fits : (s : Place) (l : LogPart) → is_size_of s l ≡ true → IsSize s → (1 ≤ l.size) × (l.size ≤ 8)
size_fits s l is size =
    let k : s.size ≡ l.size = eqb-true s.size l.size (and_parts (side_ghosts.eq s.side l.side) (s.size == l.size) is).1 in
    let low = size.some in
    let high = size.few in
    (omega (arith, k, low), omega (arith, k, high))

module _ (facts : Facts) (kind : Kind) (version : ℕ) (full : Bool) (limit : Option ℕ) (end : ℕ) where
  pub no_size : (sizes : List Place) (logs : List LogPart) → uncons sizes ≡ None → LogsFail facts kind version full limit end sizes logs (line_of_first logs)
  no_size sizes logs is = subst (λ (xs : List Place). LogsFail facts kind version full limit end xs logs (line_of_first logs)) (sym (is_empty sizes is)) (by logs)
    where
      by : (logs : List LogPart) → LogsFail facts kind version full limit end [] logs (line_of_first logs)
      by [] = all_there
      by (l ∷ ls) = one_more l ls

  module _ (sizes : List Place) (logs : List LogPart) (s : Place) (ss : List Place) (first : uncons sizes ≡ Some (s, ss)) where
    with_sizes : (o : Option ℕ) → LogsFail facts kind version full limit end (s ∷ ss) logs o → LogsFail facts kind version full limit end sizes logs o
    with_sizes o fails = subst (λ (xs : List Place). LogsFail facts kind version full limit end xs logs o) (sym (list_is sizes s ss first)) fails

    pub no_log : uncons logs ≡ None → LogsFail facts kind version full limit end sizes logs (Some end)
    no_log is = with_sizes (Some end) (subst (λ (xs : List LogPart). LogsFail facts kind version full limit end (s ∷ ss) xs (Some end)) (sym (is_empty logs is)) (one_missing s ss))

    module _ (l : LogPart) (ls : List LogPart) (here : uncons logs ≡ Some (l, ls)) where
      with_logs : (o : Option ℕ) → LogsFail facts kind version full limit end (s ∷ ss) (l ∷ ls) o → LogsFail facts kind version full limit end sizes logs o
      with_logs o fails = with_sizes o (subst (λ (xs : List LogPart). LogsFail facts kind version full limit end (s ∷ ss) xs o) (sym (list_is logs l ls here)) fails)

      pub other_size : is_size_of s l ≡ false → LogsFail facts kind version full limit end sizes logs (Some l.line)
      other_size e = with_logs (Some l.line) (another s ss l ls e)

      pub without_problem : is_size_of s l ≡ true → IsProblemAt (problem_at facts kind version l.side l.size) None → LogsFail facts kind version full limit end sizes logs (Some l.line)
      without_problem e is = with_logs (Some l.line) (by (problem_at facts kind version l.side l.size) refl is)
        where
          by : (o : Option Problem) → problem_at facts kind version l.side l.size ≡ o → IsProblemAt o None → LogsFail facts kind version full limit end (s ∷ ss) (l ∷ ls) (Some l.line)
          by None q is = no_problem s ss l ls e q
          by (Some p) q is = absurd is

      pub fails_at : (q : Problem) (n : ℕ) → is_size_of s l ≡ true → IsProblemAt (problem_at facts kind version l.side l.size) (Some q) → LogFails full limit l q (Some n)
          → LogsFail facts kind version full limit end sizes logs (Some n)
      fails_at q n e is fails = with_logs (Some n) (by (problem_at facts kind version l.side l.size) refl is)
        where
          by : (o : Option Problem) → problem_at facts kind version l.side l.size ≡ o → IsProblemAt o (Some q) → LogsFail facts kind version full limit end (s ∷ ss) (l ∷ ls) (Some n)
          by None r is = absurd is
          by (Some p) r is = one_fails s ss l ls p n e r (fails_over full limit l q p is (Some n) fails)

      pub goes_on : (q : Problem) (o : Option ℕ) → is_size_of s l ≡ true → IsProblemAt (problem_at facts kind version l.side l.size) (Some q) → LogFails full limit l q None
          → LogsFail facts kind version full limit end ss ls o → LogsFail facts kind version full limit end sizes logs o
      goes_on q o e is fails more = with_logs o (by (problem_at facts kind version l.side l.size) refl is)
        where
          by : (x : Option Problem) → problem_at facts kind version l.side l.size ≡ x → IsProblemAt x (Some q) → LogsFail facts kind version full limit end (s ∷ ss) (l ∷ ls) o
          by None r is = absurd is
          by (Some p) r is = one_good s ss l ls p o e r (fails_over full limit l q p is None fails) more
