-- A circuit with a valid list of pairs satisfies.
use Rattle.std.proofs.Common.{◌≡◌, Bool, true, false, refl}
use Rattle.aiger_text.specs.Circuit.{Circuit}
use Rattle.annot_check.specs.Laws.{ValidListsSatisfy, ValidListsShowKind}
use Rattle.annot_check.proofs.Walks.{valid_lists_show}

pub valid_lists_satisfy : (c : Circuit) → ValidListsShowKind c → ValidListsSatisfy c
valid_lists_satisfy c of_kind side kind means a pairs accepts valid = record {
  kind = of_kind side kind a pairs valid;
  means = λ w values run. by (means w) (λ false_there. (valid_lists_show c side kind a pairs valid).none_accepted w values run (accepts.lassos w run.lasso.ring false_there));
}
  where
    by : (b : Bool) → (b ≡ false → ⊥) → b ≡ true
    by true never = refl
    by false never = absurd (never refl)
