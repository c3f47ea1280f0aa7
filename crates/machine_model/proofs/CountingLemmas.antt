-- What numbers count is determined by the automaton.
use Rattle.std.proofs.Common.{◌≡◌, true, false, refl, sym, ap, ◌∙◌, subst}
use Rattle.machine_model.specs.Automaton.{AutomatonModel}
use Rattle.machine_model.specs.Components.{AreComponentsOf, ComponentsModel}
use Rattle.machine_model.specs.Counting.{CountsBy, CountsIn, IsCountedAs, is_local, is_numbered}
use Rattle.machine_model.specs.declared.counting.Counting.{Counting}
use Rattle.machine_model.specs.declared.counting.Counting.TheVariants.{AllRejecting, ByComponent}
use Rattle.machine_model.specs.declared.counting.Counts.{Counts}
use Rattle.machine_model.specs.declared.counting.Counts.TheVariants.{Local, Whole}
use Rattle.machine_model.proofs.Naming.{one_components}

-- the components that a value by component has
abbrev of_components : Counting → ComponentsModel → ComponentsModel
of_components (AllRejecting numbered) other = other
of_components (ByComponent components) other = components

same_components : (b c : ComponentsModel) → ByComponent b ≡ ByComponent c → b ≡ c
same_components b c same = ap (λ counting. of_components counting b) same

-- where numbers count by the automaton's components, those at hand are right
pub counts_in : (counts : Counts) (a : AutomatonModel) (counting : Counting) → IsCountedAs counts a counting → CountsIn a counting
counts_in Whole a counting is = record { right = λ components by. absurd (let e : AllRejecting true ≡ ByComponent components = sym is ∙ by in cc) }
counts_in Local a counting is = record { right = λ components by. subst (AreComponentsOf a) (same_components is.components components (sym is.by ∙ by)) is.right }

pub one_counting : (a : AutomatonModel) (b c : Counting) → CountsBy a b → CountsBy a c → b ≡ c
one_counting a b c first second = first.by ∙ ap ByComponent (one_components a first.components second.components first.right second.right) ∙ sym second.by

pub one_counted : (counts : Counts) (a : AutomatonModel) (b c : Counting) → IsCountedAs counts a b → IsCountedAs counts a c → b ≡ c
one_counted Whole a b c first second = first ∙ sym second
one_counted Local a b c first second = one_counting a b c first second

-- where numbers count by component states are numbered
pub numbered_too : (counting : Counting) → is_local counting ≡ true → is_numbered counting ≡ true
numbered_too (AllRejecting numbered) local = absurd (let e : false ≡ true = local in cc)
numbered_too (ByComponent components) local = refl

pub counts_locally_by : (a : AutomatonModel) (counting : Counting) → CountsBy a counting → is_local counting ≡ true
counts_locally_by a counting counts = ap is_local counts.by

pub counts_in_by : (a : AutomatonModel) (counting : Counting) → CountsBy a counting → CountsIn a counting
counts_in_by a counting counts = counts_in Local a counting counts

-- where numbers count by component and rightly, by these
pub counts_by : (a : AutomatonModel) (counting : Counting) → is_local counting ≡ true → CountsIn a counting → CountsBy a counting
counts_by a (AllRejecting numbered) local rightly = absurd (let e : false ≡ true = local in cc)
counts_by a (ByComponent components) local rightly = record { components = components; by = refl; right = rightly.right components refl }
