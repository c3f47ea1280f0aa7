-- The first line of a witness with a literal out of its bound (this project's own).
use Rattle.std.specs.Prelude.{ℕ, suc, ◌+◌, ◌*◌, Bool, ◌&&◌, Option, Some, None, List, [], ◌∷◌, option_map, nat_le, nat_lt, if◌then◌else◌}
use Rattle.std.specs.List.{list_all}
use Rattle.std.specs.Option.{option_or}
use Rattle.truth_witness.specs.declared.witnesses.Operands.{Operands}
use Rattle.truth_witness.specs.Witness.{Part, Witness}
use Rattle.witness_bounds.specs.declared.bounds.Bounds.{Bounds}
use Rattle.witness_bounds.specs.declared.lines.WitnessPlace.{WitnessPlace}
use Rattle.witness_bounds.specs.declared.lines.WitnessPlace.TheVariants.{Latch, Gate, Always, APart}

-- The lines of a witness that were read, each of a kind behind those of the kind before it. Where one is missing, so is what stands behind it.
pub record Lines : Type 0 where
  pub latches : List ℕ
  pub gates : List Operands
  pub always : Option ℕ
  pub parts : List Part

-- the lines of a whole witness
abbrev pub lines_of : Witness → Lines
lines_of w = record { latches = w.latches; gates = w.gates; always = Some w.always; parts = w.parts }

-- the literal is one of a frame
abbrev pub is_of_frame : Bounds → ℕ → Bool
is_of_frame b l = nat_le l b.top

-- the operands of the gate with this number are below its own literal
abbrev pub are_before : Bounds → ℕ → Operands → Bool
are_before b k operands = nat_lt operands.left (b.first_gate + 2 * k) && nat_lt operands.right (b.first_gate + 2 * k)

abbrev pub is_part_of_frame : Bounds → Part → Bool
is_part_of_frame b p = is_of_frame b p.start && (is_of_frame b p.inv && (list_all (is_of_frame b) p.rank && list_all (is_of_frame b) p.index))

-- the first element that a test of it and of its number refuses, where the list begins with this number
abbrev pub first_refused : {A : Type 0} → (ℕ → A → Bool) → ℕ → List A → Option ℕ
first_refused test n [] = None
first_refused test n (a ∷ more) = if test n a then first_refused test (suc n) more else Some n

abbrev pub always_refused : Bounds → Option ℕ → Option WitnessPlace
always_refused b None = None
always_refused b (Some l) = if is_of_frame b l then None else Some Always

-- The first line with a literal out of its bound.
abbrev pub first_outside : Bounds → Lines → Option WitnessPlace
first_outside b lines =
    option_or (option_map Latch (first_refused (λ _ l. is_of_frame b l) 0 lines.latches))
    (option_or (option_map Gate (first_refused (are_before b) 0 lines.gates))
    (option_or (always_refused b lines.always)
    (option_map APart (first_refused (λ _ p. is_part_of_frame b p) 0 lines.parts))))
