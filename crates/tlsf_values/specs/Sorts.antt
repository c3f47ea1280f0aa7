-- Sorts: what a value must be where an operand at this byte is needed.
use Rattle.std.specs.Prelude.{ℕ, Bool, List, ℤ}
use Rattle.spec_faults.specs.declared.code.SpecCode.TheVariants.{WrongSort}
use Rattle.tlsf_values.specs.declared.formula.Formula.{Formula}
use Rattle.tlsf_values.specs.declared.formula.Formula.TheVariants as formula
use Rattle.tlsf_values.specs.declared.value.Value.{Value}
use Rattle.tlsf_values.specs.declared.value.Value.TheVariants.{Number, Truth, Set, Bus, Flat}
use Rattle.tlsf_values.specs.Outcomes.{Checked, fine, faulty}

abbrev pub number_in : ℕ → Value → Checked ℤ
number_in place (Number z) = fine z
number_in place _ = faulty WrongSort place

abbrev pub truth_in : ℕ → Value → Checked Bool
truth_in place (Truth b) = fine b
truth_in place _ = faulty WrongSort place

abbrev pub set_in : ℕ → Value → Checked (List ℤ)
set_in place (Set zs) = fine zs
set_in place _ = faulty WrongSort place

abbrev pub bus_in : ℕ → Value → Checked ℕ
bus_in place (Bus k) = fine k
bus_in place _ = faulty WrongSort place

-- a truth may stand where a formula is needed
abbrev pub formula_in : ℕ → Value → Checked Formula
formula_in place (Truth b) = fine (formula.Sure b)
formula_in place (Flat id) = fine (formula.Flat id)
formula_in place _ = faulty WrongSort place

abbrev pub formula_value : Formula → Value
formula_value (formula.Sure b) = Truth b
formula_value (formula.Flat id) = Flat id
