use Rattle.std.specs.Prelude.{◌≡◌, Bool, true, false}
use Rattle.machine_model.specs.Automaton.{AutomatonModel}
use Rattle.machine_model.specs.Components.{AreComponentsOf, ComponentsModel}
use Rattle.machine_model.specs.declared.counting.Counting.{Counting}
use Rattle.machine_model.specs.declared.counting.Counting.TheVariants.{AllRejecting, ByComponent}
use Rattle.machine_model.specs.declared.counting.Counts.{Counts}
use Rattle.machine_model.specs.declared.counting.Counts.TheVariants.{Local, Whole}

-- What the numbers of an annotation count: all rejecting states, or those of the component that a run is in (bounded synthesis of
-- Finkbeiner and Schewe; counting inside a component is usual where it is implemented), and whether the states of machines are
-- numbered (this project's own).

-- whether numbers count by component
abbrev pub is_local : Counting → Bool
is_local (AllRejecting numbered) = false
is_local (ByComponent components) = true

-- whether the states of machines are numbered
abbrev pub is_numbered : Counting → Bool
is_numbered (AllRejecting numbered) = numbered
is_numbered (ByComponent components) = true

-- where numbers count by components, these are the automaton's
pub record CountsIn (a : AutomatonModel) (counting : Counting) : Type 0 where
  pub right : (components : ComponentsModel) → counting ≡ ByComponent components → AreComponentsOf a components

-- numbers count by the automaton's components
pub record CountsBy (a : AutomatonModel) (counting : Counting) : Type 0 where
  pub components : ComponentsModel
  pub by : counting ≡ ByComponent components
  pub right : AreComponentsOf a components

-- numbers count in the automaton what they are to count, and states of machines are numbered
abbrev pub IsCountedAs : Counts → AutomatonModel → Counting → Type 0
IsCountedAs Whole a counting = counting ≡ AllRejecting true
IsCountedAs Local a counting = CountsBy a counting

-- so they count one thing
abbrev pub CountingIsDetermined : Type 0
CountingIsDetermined = (counts : Counts) (a : AutomatonModel) (b c : Counting) → IsCountedAs counts a b → IsCountedAs counts a c → b ≡ c
