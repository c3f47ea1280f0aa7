-- The logs of a document are of the sizes from 1 up, one of each.
use Rattle.std.proofs.Common.{◌≡◌, ℕ, ◌+◌, ◌==◌, ◌<◌, ◌≤◌, ◌≢◌, Bool, true, false, List, [], ◌∷◌, length, refl, sym, ◌∙◌, arith}
use Rattle.std.specs.Prelude.{All}
use Rattle.std.proofs.lemmas.Bool.{eqb-true, eqb-false}
use Rattle.std.proofs.lemmas.List.Elements.{All-head, All-tail}
use Rattle.size_refutations.specs.Ground.{LogGround}
use Rattle.size_refutations.specs.Holds.{LogHolds}
use Rattle.solved_text.specs.Parts.{SizeLog}
use Rattle.solved_text.specs.States.{AreInOrder}

-- a log of this size, which holds
pub record HasLog (g : LogGround) (k : ℕ) : Type 0 where
  pub log : SizeLog
  pub size : log.size ≡ k
  pub holds : LogHolds g log

log_by : (g : LogGround) (last k : ℕ) (l : SizeLog) → l.size ≡ last + 1 → LogHolds g l → (k ≢ last + 1 → HasLog g k) → (b : Bool) → (k == last + 1) ≡ b → HasLog g k
log_by g last k l size holds later true e = record { log = l; size = size ∙ sym (eqb-true k (last + 1) e); holds = holds }
log_by g last k l size holds later false e = later (eqb-false k (last + 1) e)

log_from : (g : LogGround) (last n : ℕ) (logs : List SizeLog) → AreInOrder last n logs → All (LogHolds g) logs → (k : ℕ) → last < k → k ≤ last + length logs → HasLog g k
log_from g last n [] order all k low high = absurd (omega (arith, low, high))
log_from g last n (l ∷ logs) order all k low high =
    log_by g last k l order.0 (All-head (LogHolds g) l logs all)
    (λ other. log_from g (last + 1) (n + 1 + length l.entries) logs order.2 (All-tail (LogHolds g) l logs all) k (omega (arith, low, other)) (omega (arith, high)))
    (k == last + 1) refl

pub log_of_size : (g : LogGround) (n : ℕ) (logs : List SizeLog) → AreInOrder 0 n logs → All (LogHolds g) logs → (k : ℕ) → 0 < k → k ≤ length logs → HasLog g k
log_of_size g n logs order all k pos few = log_from g 0 n logs order all k pos (omega (arith, few))
