-- Few formulas occur in one.
use Rattle.std.proofs.Common.{◌≡◌, ℕ, zero, suc, ◌+◌, ◌≤◌, cond, List, [], ◌∷◌, length, arith}
use Rattle.std.proofs.lemmas.Bool.{cond_both}
use Rattle.ltl_formula.specs.declared.nodes.FormulaId.{FormulaId}
use Rattle.ltl_formula.specs.declared.nodes.Node.{Node}
use Rattle.truth_witness.specs.Variables.{is_part_of_one, occurring, with_parts}

few_with : (nodes : List Node) (n : ℕ) (ids : List ℕ) → length (with_parts nodes n ids) ≤ n + length ids
few_with nodes zero ids = omega arith
few_with nodes (suc n) ids =
    cond_both (is_part_of_one nodes ids n) (n ∷ ids) ids (λ more. length (with_parts nodes n more) ≤ suc n + length ids)
    (λ _. let h : length (with_parts nodes n (n ∷ ids)) ≤ n + suc (length ids) = few_with nodes n (n ∷ ids) in omega arith)
    (λ _. let h : length (with_parts nodes n ids) ≤ n + length ids = few_with nodes n ids in omega arith)

pub few_occur : (nodes : List Node) (f : FormulaId) → length (occurring nodes f) ≤ f.0 + 1
few_occur nodes f = few_with nodes f.0 (f.0 ∷ [])
