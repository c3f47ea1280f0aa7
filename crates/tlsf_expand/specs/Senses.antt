-- What written expressions stand for on a lasso, without flat formulas: a number, a set, a bus, a member of an enumeration, a truth
-- that no position changes, or a formula, by its truth at each position. Linear temporal logic; sorts by this project's profile of
-- TLSF 1.1. Where evaluation has a fault, what is said here means nothing.
use Rattle.std.specs.Prelude.{ℕ, suc, ◌+◌, ◌-◌, Bool, true, false, not, ◌&&◌, ◌||◌, if◌then◌else◌, List, [], ◌∷◌, Option, None, Some, ℤ, pos, ◌+ℤ◌, ◌-ℤ◌, ◌*ℤ◌, int_lt, int_le, int_div, int_rem, unsigned_abs}
use Rattle.std.specs.Bool.{beq}
use Rattle.std.specs.List.{list_all, list_any}
use Rattle.std.specs.Ordering.{int_eq}
use Rattle.letters_and_lassos.specs.Signals.{has}
use Rattle.letters_and_lassos.specs.Word.{Word, next, after, letter_at}
use Rattle.ltl_formula.specs.Truth.{some_below, until_at, release_at}
use Rattle.letters_and_lassos.specs.Below.{all_below}
use Rattle.tlsf_syntax.specs.declared.expr.Op.{Op}
use Rattle.tlsf_syntax.specs.declared.expr.Op.TheVariants as op
use Rattle.tlsf_syntax.specs.Tree.{Pattern}
use Rattle.tlsf_values.specs.Sets.{is_in, union, intersection, difference, set_of}
use Rattle.tlsf_values.specs.Steps.{stepped}
use Rattle.tlsf_values.specs.Names.{Names, bus_at, patterns_at}

pub data Sense : Type 0 where
  a_number : ℤ → Sense
  a_set : List ℤ → Sense
  a_bus : ℕ → Sense
  a_member : ℕ → Sense
  a_truth : Bool → Sense
  a_formula : (ℕ → Bool) → Sense
  nothing : Sense

-- whether it is true at a position
abbrev pub true_in : Sense → ℕ → Bool
true_in (a_truth b) i = b
true_in (a_formula f) i = f i
true_in _ i = false

abbrev pub is_truth : Sense → Bool
is_truth (a_truth b) = true
is_truth _ = false

-- ---- numbers and sets

abbrev pub arithmetic : (ℤ → ℤ → ℤ) → Sense → Sense → Sense
arithmetic f (a_number x) (a_number y) = a_number (f x y)
arithmetic f _ _ = nothing

abbrev pub comparison : (ℤ → ℤ → Bool) → Sense → Sense → Sense
comparison test (a_number x) (a_number y) = a_truth (test x y)
comparison test _ _ = nothing

abbrev pub of_sets : (List ℤ → List ℤ → List ℤ) → Sense → Sense → Sense
of_sets f (a_set xs) (a_set ys) = a_set (f xs ys)
of_sets f _ _ = nothing

abbrev pub element : Sense → Sense → Sense
element (a_number x) (a_set ys) = a_truth (is_in ys x)
element _ _ = nothing

-- the numbers among the senses
abbrev pub numbers_in : List Sense → List ℤ
numbers_in [] = []
numbers_in (a_number z ∷ ss) = z ∷ numbers_in ss
numbers_in (_ ∷ ss) = numbers_in ss

abbrev pub steps_set : Sense → Sense → Sense → Sense
steps_set (a_number a) (a_number b) (a_number c) = a_set (set_of (stepped a b c))
steps_set _ _ _ = nothing

-- ---- formulas

abbrev pub implies : Bool → Bool → Bool
implies a b = not a || b

-- `G f` and `a W b` at a position
abbrev pub always : Word → (ℕ → Bool) → ℕ → Bool
always w f i = release_at w (λ k. false) f i

abbrev pub weakly : Word → (ℕ → Bool) → (ℕ → Bool) → ℕ → Bool
weakly w a b i = until_at w a b i || always w a i

abbrev pub eventually : Word → (ℕ → Bool) → ℕ → Bool
eventually w f i = until_at w (λ k. true) f i

-- of truths a truth, else at each position by the truths there
abbrev pub connected : (Bool → Bool → Bool) → Sense → Sense → Sense
connected f (a_truth a) (a_truth b) = a_truth (f a b)
connected f a b = a_formula (λ i. f (true_in a i) (true_in b i))

abbrev pub opposite : Sense → Sense
opposite (a_truth b) = a_truth (not b)
opposite a = a_formula (λ i. not (true_in a i))

-- ---- enumerations

-- the letter has these bits at the signals from this one on; a star is either
abbrev pub has_bits : ℕ → ℕ → List (Option Bool) → Bool
has_bits letter signal [] = true
has_bits letter signal (None ∷ bits) = has_bits letter (signal + 1) bits
has_bits letter signal (Some b ∷ bits) = beq (has letter signal) b && has_bits letter (signal + 1) bits

-- one of these values stands at the signals from this one on
abbrev pub has_value : Word → ℕ → List Pattern → ℕ → Bool
has_value w first values i = list_any (λ p. has_bits (letter_at w i).0 first p.bits) values

-- numbers are compared; a bus is compared bit by bit with each value of a member
abbrev pub equality : Word → Names → Sense → Sense → Sense
equality w names (a_number x) (a_number y) = a_truth (int_eq x y)
equality w names (a_bus k) (a_member m) = a_formula (has_value w (bus_at names k).first (patterns_at names m))
equality w names (a_member m) (a_bus k) = a_formula (has_value w (bus_at names k).first (patterns_at names m))
equality w names _ _ = nothing

-- bit number z of a bus
abbrev pub bit : Word → Names → Sense → Sense → Sense
bit w names (a_bus k) (a_number z) = a_formula (λ i. has (letter_at w i).0 ((bus_at names k).first + unsigned_abs z))
bit w names _ _ = nothing

abbrev pub width : Names → Sense → Sense
width names (a_bus k) = a_number (pos (bus_at names k).width)
width names _ = nothing

-- ---- operators

abbrev pub operated : Word → Names → Op → Sense → Sense → Sense
operated w names op.Mul a b = arithmetic (λ x y. x *ℤ y) a b
operated w names op.Div a b = arithmetic int_div a b
operated w names op.Rem a b = arithmetic int_rem a b
operated w names op.Plus a b = arithmetic (λ x y. x +ℤ y) a b
operated w names op.Minus a b = arithmetic (λ x y. x -ℤ y) a b
operated w names op.Difference a b = of_sets difference a b
operated w names op.Meet a b = of_sets intersection a b
operated w names op.Join a b = of_sets union a b
operated w names op.Equal a b = equality w names a b
operated w names op.Unequal a b = opposite (equality w names a b)
operated w names op.Less a b = comparison (λ x y. int_lt x y) a b
operated w names op.LessEqual a b = comparison (λ x y. int_le x y) a b
operated w names op.Greater a b = comparison (λ x y. int_lt y x) a b
operated w names op.GreaterEqual a b = comparison (λ x y. int_le y x) a b
operated w names op.Element a b = element a b
operated w names op.And a b = connected (λ x y. x && y) a b
operated w names op.Or a b = connected (λ x y. x || y) a b
operated w names op.Implies a b = connected implies a b
operated w names op.Equiv a b = connected beq a b
operated w names op.WeakUntil a b = a_formula (weakly w (true_in a) (true_in b))
operated w names op.Until a b = a_formula (until_at w (true_in a) (true_in b))
operated w names op.Release a b = a_formula (release_at w (true_in a) (true_in b))
operated w names _ a b = nothing

abbrev pub prefixed : Word → Op → Sense → Sense
prefixed w op.Not a = opposite a
prefixed w op.Next a = a_formula (λ i. true_in a (next w i))
prefixed w op.Finally a = a_formula (eventually w (true_in a))
prefixed w op.Globally a = a_formula (always w (true_in a))
prefixed w _ a = nothing

-- `X[n] f`: n steps on
abbrev pub steps_on : Word → Sense → Sense → Sense
steps_on w (a_number (pos n)) a = a_formula (λ i. true_in a (after w i n))
steps_on w _ a = nothing

-- `F[m:n] f`, `G[m:n] f`: some j, or each j, from m to n, that many steps on
abbrev pub windowed : Word → Op → Sense → Sense → Sense → Sense
windowed w op.Finally (a_number (pos m)) (a_number (pos n)) a = a_formula (λ i. some_below (suc n - m) (λ j. true_in a (after w i (m + j))))
windowed w op.Globally (a_number (pos m)) (a_number (pos n)) a = a_formula (λ i. all_below (suc n - m) (λ j. true_in a (after w i (m + j))))
windowed w _ m n a = nothing

-- for each member, for some member: a truth where all are truths
abbrev pub if_truths : List Sense → ((Sense → Bool) → Bool) → Sense
if_truths ss test = if list_all is_truth ss then a_truth (test (λ s. true_in s 0)) else a_formula (λ i. test (λ s. true_in s i))

abbrev pub for_members : Op → List Sense → Sense
for_members op.And ss = if_truths ss (λ p. list_all p ss)
for_members op.Or ss = if_truths ss (λ p. list_any p ss)
for_members _ ss = nothing
