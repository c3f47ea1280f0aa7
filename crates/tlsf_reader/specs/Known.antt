-- The faults of a text that are found without its grammar, and the first of them.
use Rattle.std.specs.Prelude.{◌≡◌, ℕ, zero, suc, List, [], ◌∷◌, Option, None, Some, if◌then◌else◌, nat_le}
use Rattle.spec_faults.specs.declared.code.SpecCode.{SpecCode}
use Rattle.spec_faults.specs.declared.code.SpecCode.TheVariants.{Unexpected, TooDeep, Unsupported}
use Rattle.tlsf_syntax.specs.Lexemes.{Lexeme}
use Rattle.tlsf_reader.specs.declared.fault.Fault.{Fault}
use Rattle.tlsf_reader.specs.Least.{IsEarliestBy}
use Rattle.tlsf_reader.specs.Places.{FiniteAt}

-- where the lexeme with this number begins, or where the lexemes stop
abbrev pub place_in : List Lexeme → ℕ → ℕ → ℕ
place_in [] stop k = stop
place_in (l ∷ ls) stop zero = l.start
place_in (l ∷ ls) stop (suc k) = place_in ls stop k

-- the tokens stop, the lexeme of this number is nested too deep, or a word `Finite` stands in the value of SEMANTICS
pub data IsKnown (ls : List Lexeme) (stop : Option SpecCode) (stop_at : ℕ) (deep : Option ℕ) : SpecCode → ℕ → Type 0 where
  stopped : (code : SpecCode) → stop ≡ Some code → IsKnown ls stop stop_at deep code stop_at
  deepened : (k : ℕ) → deep ≡ Some k → IsKnown ls stop stop_at deep TooDeep (place_in ls stop_at k)
  finite : (p : ℕ) → FiniteAt ls p → IsKnown ls stop stop_at deep Unsupported p

-- none of these faults was found, as there is none, or the one at the earliest place
abbrev pub IsEarliest : (SpecCode → ℕ → Type 0) → Option Fault → Type 0
IsEarliest Has found = IsEarliestBy (λ (f : Fault). f.place) (λ f. Has f.code f.place) found

-- a known fault, or the unexpected lexeme where that stands before it
abbrev pub refused_fault : Option Fault → ℕ → Fault
refused_fault None place = record { code = Unexpected; place = place }
refused_fault (Some f) place = if nat_le f.place place then f else record { code = Unexpected; place = place }

-- a fault of this code, where it has a place
abbrev pub fault_at : SpecCode → Option ℕ → Option Fault
fault_at code None = None
fault_at code (Some place) = Some (record { code = code; place = place })

-- why the tokens stop
abbrev pub stop_fault : Option SpecCode → ℕ → Option Fault
stop_fault None stop_at = None
stop_fault (Some code) stop_at = Some (record { code = code; place = stop_at })

-- written nesting that passes the limit at the lexeme of this number
abbrev pub deep_fault : List Lexeme → ℕ → Option ℕ → Option Fault
deep_fault ls stop_at None = None
deep_fault ls stop_at (Some k) = Some (record { code = TooDeep; place = place_in ls stop_at k })
