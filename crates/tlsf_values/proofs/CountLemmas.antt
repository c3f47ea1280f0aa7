-- A window, one count after the other.
use Rattle.std.proofs.Common.{◌≡◌, ℕ, suc, ◌+◌, ◌-◌, ◌<◌, refl, arith}
use Rattle.ltl_formula.specs.declared.nodes.FormulaId.{FormulaId}
use Rattle.tlsf_values.specs.declared.formula.Pairing.{Pairing}
use Rattle.tlsf_values.specs.declared.work.Work.{Work}
use Rattle.tlsf_values.specs.Outcomes.{gives, made}
use Rattle.tlsf_values.specs.Formulas.{pairing_of}
use Rattle.tlsf_values.specs.Counts.{nexts, window_more}

-- the next count's formula is made and joined
pub window_step : (place : ℕ) (p : Pairing) (f : FormulaId) (count last : ℕ) (so_far next joined : FormulaId) (w v u : Work) → count < last →
    nexts place (count + 1) f w ≡ gives next v → made place (pairing_of p so_far next) v ≡ gives joined u →
    window_more place p f (count + 1) (last - count) so_far w ≡ window_more place p f (count + 1 + 1) (last - (count + 1)) joined u
window_step place p f count last so_far next joined w v u below n m =
    let one_more : last - count ≡ suc (last - (count + 1)) = omega arith in rw (one_more, n, m) refl
