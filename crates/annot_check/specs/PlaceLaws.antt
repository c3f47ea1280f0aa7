use Rattle.std.specs.Bool.{beq}
use Rattle.std.specs.Cmp.{IsEquivalence, IsPartialEquivalence, bool_eq_equiv, booleans_Decides, partial_equiv_from_equiv}
use Rattle.std.specs.Cmp.Lexicographic.{lists_equiv}
use Rattle.std.specs.Hash.{Alike, bool, items_Alike, same_Alike, slice}
use Rattle.annot_check.specs.Place.{same_code}

-- being the same code is an equivalence
pub same_code_equiv : IsEquivalence same_code
same_code_equiv = lists_equiv bool_eq_equiv

pub same_code_per : IsPartialEquivalence same_code
same_code_per = partial_equiv_from_equiv same_code_equiv

-- the same codes are hashed alike
pub code_Alike : Alike same_code (slice bool)
code_Alike = items_Alike (same_Alike {E = beq} bool booleans_Decides)
