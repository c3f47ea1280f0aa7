use Rattle.std.specs.Prelude.{nat_eq}
use Rattle.std.specs.Cmp.{IsEquivalence, IsPartialEquivalence, nat_eq_equiv, on_equiv, partial_equiv_from_equiv}
use Rattle.std.specs.Cmp.Lexicographic.{lists_equiv}
use Rattle.std.specs.Hash.{Alike, items_Alike, on_Alike, same_Alike, slice, u32}
use Rattle.std.proofs.lemmas.Bool.Decides.{Decides-eqb}
use Rattle.ltl_formula.specs.declared.nodes.FormulaId.{FormulaId}
use Rattle.obligation_sets.specs.Ids.{same_ids}

-- being the same list of ids is an equivalence
pub same_ids_equiv : IsEquivalence same_ids
same_ids_equiv = lists_equiv (on_equiv (λ (f : FormulaId). f.0) nat_eq_equiv)

pub same_ids_per : IsPartialEquivalence same_ids
same_ids_per = partial_equiv_from_equiv same_ids_equiv

-- the same lists of ids are hashed alike
pub ids_Alike : Alike same_ids (slice (λ (f : FormulaId). u32 f.0))
ids_Alike = items_Alike (on_Alike (λ (f : FormulaId). f.0) (same_Alike {E = nat_eq} u32 Decides-eqb))
