use Rattle.std.specs.Prelude.{ℕ, Bool, not, nat_lt, Option, None, Some}
use Rattle.letters_and_lassos.specs.declared.kinds.Kind.{Kind}
use Rattle.letters_and_lassos.specs.declared.kinds.Kind.TheVariants.{Mealy, Moore}
use Rattle.kind_conversion.specs.declared.shifts.Shift.{Shift}
use Rattle.kind_conversion.specs.declared.shifts.Shift.TheVariants.{Inputs, Outputs}

-- how a text of one SEMANTICS is taken for another TARGET: a Moore text speaks to a Mealy machine of the next inputs, and
-- a Mealy text to a Moore machine of the next outputs; nothing is shifted where both are one kind (TLSF 1.1)
abbrev pub shift_of : Kind → Kind → Option Shift
shift_of Moore Mealy = Some Inputs
shift_of Mealy Moore = Some Outputs
shift_of Mealy Mealy = None
shift_of Moore Moore = None

-- whether a signal is one of those that are shifted: of so many inputs, numbers below are inputs and all others outputs
abbrev pub is_shifted : Shift → ℕ → ℕ → Bool
is_shifted Inputs inputs signal = nat_lt signal inputs
is_shifted Outputs inputs signal = not (nat_lt signal inputs)
