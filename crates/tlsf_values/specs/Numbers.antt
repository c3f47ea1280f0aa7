-- Operations and comparisons of numbers of 64 bits: this project's profile of TLSF 1.1.
use Rattle.std.specs.Prelude.{ℕ, ◌-◌, ◌^◌, Bool, true, false, ◌&&◌, ℤ, pos, negsuc, ◌+ℤ◌, ◌-ℤ◌, ◌*ℤ◌, int_lt, int_le, int_div, int_rem}
use Rattle.std.specs.Ordering.{int_eq}
use Rattle.spec_faults.specs.declared.code.SpecCode.TheVariants.{ZeroDivisor, NumberRange}
use Rattle.tlsf_values.specs.declared.numbers.Arithmetic.{Arithmetic}
use Rattle.tlsf_values.specs.declared.numbers.Arithmetic.TheVariants.{Mul, Div, Rem, Plus, Minus}
use Rattle.tlsf_values.specs.declared.numbers.Comparison.{Comparison}
use Rattle.tlsf_values.specs.declared.numbers.Comparison.TheVariants.{Less, LessEqual, Greater, GreaterEqual}
use Rattle.tlsf_values.specs.declared.numbers.Places.{Places}
use Rattle.tlsf_values.specs.Outcomes.{Checked, fine, faulty}

abbrev pub either : {A : Type 0} → Bool → A → A → A
either true a b = a
either false a b = b

-- from -2^63 to 2^63 - 1
abbrev pub fits : ℤ → Bool
fits z = int_le (negsuc (2 ^ 63 - 1)) z && int_le z (pos (2 ^ 63 - 1))

-- a result of the operation at this byte
abbrev pub in_range : ℕ → ℤ → Checked ℤ
in_range place z = either (fits z) (fine z) (faulty NumberRange place)

-- a divisor isn't 0
abbrev pub divided : Places → ℤ → ℤ → Checked ℤ
divided p y z = either (int_eq y (pos 0)) (faulty ZeroDivisor p.right) (in_range p.own z)

-- the quotient is rounded towards zero, and the remainder has the dividend's sign
abbrev pub computed : Arithmetic → Places → ℤ → ℤ → Checked ℤ
computed Mul p x y = in_range p.own (x *ℤ y)
computed Div p x y = divided p y (int_div x y)
computed Rem p x y = divided p y (int_rem x y)
computed Plus p x y = in_range p.own (x +ℤ y)
computed Minus p x y = in_range p.own (x -ℤ y)

abbrev pub holds_of : Comparison → ℤ → ℤ → Bool
holds_of Less x y = int_lt x y
holds_of LessEqual x y = int_le x y
holds_of Greater x y = int_lt y x
holds_of GreaterEqual x y = int_le y x
