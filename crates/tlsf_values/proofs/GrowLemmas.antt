-- A list of nodes only grows.
use Rattle.ltl_formula.proofs.Lists.{Grows-refl, Grows-trans}

pub ruleset nodes_grow = (Grows-refl, Grows-trans)
