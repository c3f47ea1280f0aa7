-- The signals that a text declares, with their numbers and flat names, or the first fault of its declarations: this project's
-- profile of TLSF 1.1.
use Rattle.std.specs.Prelude.{ℕ, zero, suc, ◌+◌, ◌-◌, min, ◌==◌, nat_le, if◌then◌else◌, Bool, List, [], ◌∷◌, ◌++◌, length, Option, None, Some, pos, negsuc, codes, decimal}
use Rattle.std.specs.List.{list_any}
use Rattle.text_limits.specs.declared.Limits.{Limits}
use Rattle.spec_faults.specs.declared.code.SpecCode.TheVariants.{UnknownName, WrongSort, NumberRange, TooManySignals}
use Rattle.tlsf_syntax.specs.Tree.{Named, Pattern, Definition, parameter, function, enumeration, Shape, single, bus, typed, Declaration}
use Rattle.tlsf_values.specs.declared.value.Value.{Value}
use Rattle.tlsf_values.specs.declared.value.Value.TheVariants.{Number}
use Rattle.tlsf_values.specs.declared.work.Work.{Work}
use Rattle.tlsf_values.specs.Outcomes.{Outcome, gives, fails, go_on, choose, Checked, fine, faulty, checked}
use Rattle.tlsf_values.specs.Names.{Names, Meaning, an_enumeration, undeclared, same_name, with_signal, with_bus, with_definitions, without_names}
use Rattle.tlsf_values.specs.Patterns.{all_values}
use Rattle.tlsf_values.specs.Values.{span_start, value_at}
use Rattle.tlsf_syntax.specs.Text.{Text}

-- ---- enumerations

-- the values of an enumeration, if it has this name
abbrev pub values_in : List ℕ → Definition → Option (List Pattern)
values_in name (enumeration word ms) = if same_name word.name name then Some (all_values ms) else None
values_in name (parameter word t) = None
values_in name (function word arguments body) = None

abbrev pub or_those : Option (List Pattern) → List Pattern → List Pattern
or_those (Some values) others = values
or_those None others = others

abbrev pub values_named : List ℕ → List Definition → List Pattern
values_named name [] = []
values_named name (d ∷ ds) = or_those (values_in name d) (values_named name ds)

-- the width of an enumeration is that of its first value
abbrev pub width_of : List Pattern → ℕ
width_of [] = 0
width_of (p ∷ ps) = length p.bits

-- the first byte of the first value that isn't so wide
abbrev pub other_width : ℕ → List Pattern → Option ℕ
other_width width [] = None
other_width width (p ∷ ps) = if length p.bits == width then other_width width ps else Some p.span.start

abbrev pub first_of : Option ℕ → Option ℕ → Option ℕ
first_of (Some place) later = Some place
first_of None later = later

abbrev pub uneven_in : Definition → Option ℕ
uneven_in (enumeration word ms) = other_width (width_of (all_values ms)) (all_values ms)
uneven_in (parameter word t) = None
uneven_in (function word arguments body) = None

-- the first of the enumerations' values whose width isn't that of its enumeration
abbrev pub uneven_value : List Definition → Option ℕ
uneven_value [] = None
uneven_value (d ∷ ds) = first_of (uneven_in d) (uneven_value ds)

-- ---- declarations

-- what is declared: a single signal, a bus of this width, or a bus of an enumeration's width with all its values
pub data Extent : Type 0 where
  alone : Extent
  wide : ℕ → Extent
  of_type : List Pattern → Extent

abbrev pub bits_in : Extent → ℕ
bits_in alone = 1
bits_in (wide n) = n
bits_in (of_type values) = width_of values

-- a width isn't negative
abbrev pub width_in : ℕ → Value → Checked Extent
width_in place (Number (pos n)) = fine (wide n)
width_in place (Number (negsuc n)) = faulty NumberRange place
width_in place _ = faulty WrongSort place

-- some declaration is of a signal of this name
abbrev pub declares : List ℕ → List Declaration → Bool
declares name ds = list_any (λ d. same_name d.word.name name) ds

-- the type of a declaration; another declared name, of a signal that comes later too, is of a wrong sort
abbrev pub type_in : Text → Named → Meaning → Checked Extent
type_in text word an_enumeration = fine (of_type (values_named word.name text.definitions))
type_in text word undeclared =
    if declares word.name text.inputs then faulty WrongSort word.span.start
    else (if declares word.name text.outputs then faulty WrongSort word.span.start else faulty UnknownName word.span.start)
type_in text word _ = faulty WrongSort word.span.start

-- a width may name the definitions and the signals that are declared before it
abbrev pub extent_value : Text → Names → Shape → Work → Outcome Extent
extent_value text names single w = gives alone w
extent_value text names (bus t) w = go_on (value_at names [] t 0 w) (λ v w. checked (width_in (span_start t) v) (λ extent w. gives extent w) w)
extent_value text names (typed word) w = checked (type_in text word (names.means word.name)) (λ extent w. gives extent w) w

-- a signal of an enumeration's type: its name's first byte in its declaration, its first bit's number, and the type's values
pub record TypedSignal : Type 0 where
  pub place : ℕ
  pub first : ℕ
  pub values : List Pattern

-- the inputs, or the outputs, that are declared so far: their flat names and those of a type, with all names of the text
pub record Declared : Type 0 where
  pub names : Names
  pub flat : List (List ℕ)
  pub typed : List TypedSignal

abbrev pub bit_name : List ℕ → ℕ → List ℕ
bit_name name k = name ++ codes "[" ++ decimal k ++ codes "]"

-- so many bits from bit k on
abbrev pub bit_names : List ℕ → ℕ → ℕ → List (List ℕ)
bit_names name k zero = []
bit_names name k (suc n) = bit_name name k ∷ bit_names name (k + 1) n

-- one more declaration, whose first signal has this number
abbrev pub declared : Named → ℕ → Extent → Declared → Declared
declared word number alone d = record { names = with_signal d.names word.name number; flat = d.flat ++ word.name ∷ []; typed = d.typed }
declared word number (wide n) d = record { names = with_bus d.names word.name number n; flat = d.flat ++ bit_names word.name 0 n; typed = d.typed }
declared word number (of_type values) d = record {
  names = with_bus d.names word.name number (width_of values);
  flat = d.flat ++ bit_names word.name 0 (width_of values);
  typed = d.typed ++ record { place = word.span.start; first = number; values = values } ∷ [];
}

-- one more declaration of at most so many signals in all, where the first of them has this number; one that passes the limit is
-- refused at its name
abbrev pub declaration_value : ℕ → Text → ℕ → Declared → Declaration → Work → Outcome Declared
declaration_value most text from d x w =
    go_on (extent_value text d.names x.shape w) (λ extent w.
    choose (nat_le (length d.flat + bits_in extent) most)
    (λ w. gives (declared x.word (from + length d.flat) extent d) w) (λ w. fails TooManySignals x.word.span.start) w)

-- the declarations in their order
abbrev pub declarations_value : ℕ → Text → ℕ → Declared → List Declaration → Work → Outcome Declared
declarations_value most text from d [] w = gives d w
declarations_value most text from d (x ∷ xs) w =
    go_on (declaration_value most text from d x w) (λ d w. declarations_value most text from d xs w)

-- ---- all signals

pub record Signals : Type 0 where
  pub names : Names
  pub inputs : List (List ℕ)
  pub outputs : List (List ℕ)
  pub typed_inputs : List TypedSignal
  pub typed_outputs : List TypedSignal

abbrev pub none_yet : Names → Declared
none_yet names = record { names = names; flat = []; typed = [] }

-- how many inputs there may be, or outputs, where so many signals are declared before them
abbrev pub most_behind : Limits → ℕ → ℕ
most_behind limits before = min limits.signals (limits.all_signals - before)

-- at most as many inputs, and as many outputs, as the limits say, and as many of both together
abbrev pub signals_value : Limits → Text → Work → Outcome Signals
signals_value limits text w =
    go_on (declarations_value (most_behind limits 0) text 0 (none_yet (with_definitions without_names text.definitions)) text.inputs w) (λ inputs w.
    go_on (declarations_value (most_behind limits (length inputs.flat)) text (length inputs.flat) (none_yet inputs.names) text.outputs w) (λ outputs w.
    gives (record { names = outputs.names; inputs = inputs.flat; outputs = outputs.flat; typed_inputs = inputs.typed; typed_outputs = outputs.typed }) w))

-- the widths of the enumerations' values come first, and count no evaluation
abbrev pub even_first : Option ℕ → Outcome Signals → Outcome Signals
even_first None signals = signals
even_first (Some place) signals = fails WrongSort place

-- nothing is done yet
abbrev pub work_within : Limits → Work
work_within limits = record { limits = limits; done = 0; formulas = [] }

-- the signals of a text within these limits, with the work that their widths took
abbrev pub signals_of : Limits → Text → Outcome Signals
signals_of limits text = even_first (uneven_value text.definitions) (signals_value limits text (work_within limits))
