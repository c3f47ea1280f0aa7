-- The logs tested one after the other.
use Rattle.std.proofs.Common.{◌≡◌, ℕ, ◌+◌, ◌<◌, ◌≤◌, Option, Some, None, List, [], ◌∷◌, length, drop, get_or, sym, ap, subst, ◌∙◌, arith}
use Rattle.std.proofs.lemmas.List.{drop_all, drop_more}
use Rattle.size_refutations.specs.FirstBad.{LogFails}
use Rattle.size_refutations.specs.Ground.{LogGround}
use Rattle.solved_text.specs.Parts.{SizeLog}
use Rattle.solve_check.specs.SizeLogs.{LogsFail, none_fails, one_fails, one_good}

-- whatever is found of the rest of the logs is found of all
pub record Goes (g : LogGround) (logs rest : List SizeLog) : Type 0 where
  pub on : (first : Option ℕ) → LogsFail g rest first → LogsFail g logs first

pub none_there : (g : LogGround) (logs : List SizeLog) → length logs ≡ 0 → LogsFail g logs None
none_there g [] none = none_fails
none_there g (l ∷ logs) none = absurd (omega (arith, none))

module _ (g : LogGround) (logs : List SizeLog) where
  pub goes_first : Goes g logs (drop 0 logs)
  goes_first = record { on = λ first fails. fails }

  module _ (i : ℕ) (goes : Goes g logs (drop i logs)) where
    pub goes_end : length logs ≤ i → LogsFail g logs None
    goes_end all = goes.on None (subst (λ (ls : List SizeLog). LogsFail g ls None) (sym (drop_all i logs all)) none_fails)

    module _ (log : SizeLog) (less : i < length logs) (is : log ≡ get_or logs i log) where
      rest_is : log ∷ drop (i + 1) logs ≡ drop i logs
      rest_is = ap (λ (l : SizeLog). l ∷ drop (i + 1) logs) is ∙ sym (drop_more logs i log less)

      pub goes_on : LogFails g log None → Goes g logs (drop (i + 1) logs)
      goes_on good = record {
        on = λ first fails.
            goes.on first (subst (λ (ls : List SizeLog). LogsFail g ls first) rest_is (one_good log (drop (i + 1) logs) first good fails));
      }

      pub goes_bad : (n : ℕ) → LogFails g log (Some n) → LogsFail g logs (Some n)
      goes_bad n bad =
          goes.on (Some n) (subst (λ (ls : List SizeLog). LogsFail g ls (Some n)) rest_is (one_fails log (drop (i + 1) logs) n bad))
