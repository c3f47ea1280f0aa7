-- What the reader of an annotation has so far (this project's own).
use Rattle.std.specs.Prelude.{◌≡◌, ℕ, Bool, List, [], ◌∷◌, ◌++◌, All, Option, Some, None, Result, length, map, option_and_then, if◌then◌else◌}
use Rattle.std.specs.List.{list_any}
use Rattle.annot_check.specs.declared.faults.AnnotFault.{AnnotFault}
use Rattle.annot_check.specs.declared.faults.AnnotFault.TheVariants.{NoMemory, BadLine, NoStart, NotMoore, Broken}
use Rattle.annot_check.specs.declared.numbers.Place.{Place}
use Rattle.annot_check.specs.declared.pairs.Pair.{Pair}
use Rattle.annot_check.specs.declared.reading.Head.{Head}
use Rattle.annot_check.specs.declared.reading.PairLines.{PairLines}
use Rattle.annot_check.specs.declared.reading.Taken.{Taken}
use Rattle.annot_check.specs.Pairs.{Listed}
use Rattle.annot_check.specs.AnnotationText.{Headed, is_taken, listed_in, pair_in, pieces_of}
use Rattle.annot_check.specs.Numbers.{place_eq, pair_place}

-- the refusals of a text
abbrev pub IsReadFault : AnnotFault → Type 0
IsReadFault NoMemory = Unit {0}
IsReadFault (BadLine n) = Unit {0}
IsReadFault NoStart = ⊥
IsReadFault (NotMoore o) = ⊥
IsReadFault (Broken j) = ⊥

-- what a head says
abbrev pub headed_of : Head → Headed
headed_of head = record { word = head.word.now; line = head.line; parts = pieces_of head.rest.now }

-- what the line of a head leaves to read
abbrev pub left_of : ℕ → ℕ → PairLines → Result Listed ℕ
left_of latches states lines = listed_in latches states (pieces_of lines.rest.now) lines.line lines.count

-- the pairs with the one that a line states, where it states one whose place is free
abbrev pub next_of : ℕ → ℕ → List Pair → List ℕ → Option (List Pair)
next_of latches states done line = option_and_then (λ pair. if is_taken pair done then None else Some (done ++ pair ∷ [])) (pair_in latches states line)

-- whether the place of a pair is among these
abbrev pub is_held : Pair → List Place → Bool
is_held pair places = list_any (place_eq (pair_place pair)) places

-- the places are those of the pairs, whose codes are of so many latches
pub record IsIndexed (latches : ℕ) (taken : Taken) : Type 0 where
  pub keys : taken.places.keys ≡ map pair_place taken.pairs.items
  pub codes : All (λ (pair : Pair). length pair.code ≡ latches) taken.pairs.items
