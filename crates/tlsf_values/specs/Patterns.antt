-- A bus that is compared with a member of an enumeration: this project's profile of TLSF 1.1. The leftmost character of a value
-- is bit 0.
use Rattle.std.specs.Prelude.{ℕ, ◌+◌, Bool, true, false, ◌==◌, List, [], ◌∷◌, ◌++◌, length, Option, None, Some}
use Rattle.std.specs.List.{list_all}
use Rattle.ltl_formula.specs.declared.nodes.FormulaId.{FormulaId}
use Rattle.ltl_formula.specs.declared.nodes.Node.TheVariants as node
use Rattle.spec_faults.specs.declared.code.SpecCode.TheVariants.{WrongSort}
use Rattle.tlsf_syntax.specs.Tree.{Pattern, Member}
use Rattle.tlsf_values.specs.declared.formula.Formula.{Formula}
use Rattle.tlsf_values.specs.declared.formula.Formula.TheVariants.{Flat}
use Rattle.tlsf_values.specs.declared.formula.Pairing.{Pairing}
use Rattle.tlsf_values.specs.declared.formula.Pairing.TheVariants as pairing
use Rattle.tlsf_values.specs.declared.numbers.Places.{Places}
use Rattle.tlsf_values.specs.declared.work.Work.{Work}
use Rattle.tlsf_values.specs.Outcomes.{Outcome, gives, fails, go_on, choose, made}
use Rattle.tlsf_values.specs.Formulas.{pairing_of, truth_node}

-- joined to those so far, the left one first
abbrev pub joined_to : ℕ → Pairing → Option FormulaId → FormulaId → Work → Outcome FormulaId
joined_to place p None id w = gives id w
joined_to place p (Some so_far) id w = made place (pairing_of p so_far id) w

-- where nothing was joined, a truth stands
abbrev pub or_truth : ℕ → Bool → Option FormulaId → Work → Outcome FormulaId
or_truth place b None w = made place (truth_node b) w
or_truth place b (Some id) w = gives id w

-- a bit of a value: its signal, or the opposite
abbrev pub bit_made : ℕ → ℕ → Bool → Work → Outcome FormulaId
bit_made place signal true w = made place (node.Signal signal) w
bit_made place signal false w = go_on (made place (node.Signal signal) w) (λ id w. made place (node.Not id) w)

-- the bits of a value from this signal on, joined to those before; a star is passed over
abbrev pub bits_made : ℕ → ℕ → List (Option Bool) → Option FormulaId → Work → Outcome FormulaId
bits_made place signal [] so_far w = or_truth place true so_far w
bits_made place signal (None ∷ bits) so_far w = bits_made place (signal + 1) bits so_far w
bits_made place signal (Some b ∷ bits) so_far w =
    go_on (bit_made place signal b w) (λ id w. go_on (joined_to place pairing.And so_far id w) (λ both w. bits_made place (signal + 1) bits (Some both) w))

-- one of these values stands at the signals from this one on, joined to those before
abbrev pub values_made : ℕ → ℕ → List Pattern → Option FormulaId → Work → Outcome FormulaId
values_made place first [] so_far w = or_truth place false so_far w
values_made place first (p ∷ ps) so_far w =
    go_on (bits_made place first p.bits None w) (λ id w. go_on (joined_to place pairing.Or so_far id w) (λ either w. values_made place first ps (Some either) w))

-- these values joined to those so far
abbrev pub values_joined : ℕ → ℕ → List Pattern → Option FormulaId → Work → Outcome (Option FormulaId)
values_joined place first [] so_far w = gives so_far w
values_joined place first (p ∷ ps) so_far w =
    go_on (bits_made place first p.bits None w) (λ id w. go_on (joined_to place pairing.Or so_far id w) (λ either w. values_joined place first ps (Some either) w))

-- all values of all members, in the order written
abbrev pub all_values : List Member → List Pattern
all_values [] = []
all_values (m ∷ ms) = m.values ++ all_values ms

-- each value is so wide
abbrev pub are_wide : ℕ → List Pattern → Bool
are_wide width ps = list_all (λ p. length p.bits == width) ps

-- a bus with this first signal and this width is compared with a member of the same width
abbrev pub matched : Places → ℕ → ℕ → List Pattern → Work → Outcome Formula
matched p first width ps w =
    choose (are_wide width ps) (λ w. go_on (values_made p.own first ps None w) (λ id w. gives (Flat id) w)) (λ w. fails WrongSort p.right) w
