use Rattle.std.specs.Prelude.{ℕ, Bool, true, false, not, nat_eq, ◌&&◌}

-- A literal: a variable, numbered from 1, or its negation (propositional logic).
pub record Literal : Type 0 where
  pub var : ℕ
  pub positive : Bool

-- The literal of the same variable and the other sign (propositional logic).
abbrev pub negated : Literal → Literal
negated l = record { var = l.var; positive = not l.positive }

-- Whether two signs are the same (this project's own).
abbrev pub sign_eq : Bool → Bool → Bool
sign_eq true b = b
sign_eq false b = not b

-- Whether two literals are the same: one variable and one sign (this project's own).
abbrev pub literal_eq : Literal → Literal → Bool
literal_eq a b = nat_eq a.var b.var && sign_eq a.positive b.positive
