-- The ranges of a big operator that are gone over, one inside the other, the innermost first: what comes of what is left of them.
use Rattle.std.specs.Prelude.{ℕ, zero, suc, ◌+◌, ◌*◌, ◌^◌, ◌≡◌, ◌<◌, ◌≤◌, List, [], ◌∷◌, length, drop, Option, None, Some, ℤ}
use Rattle.tlsf_syntax.specs.declared.expr.Range.{Range}
use Rattle.tlsf_syntax.specs.Tree.{Named}
use Rattle.tlsf_syntax.specs.Seen.{expr_seen, range_list_seen, word_seen}
use Rattle.tlsf_values.specs.declared.formula.Formula.{Formula}
use Rattle.tlsf_values.specs.declared.levels.Big.{Big}
use Rattle.tlsf_values.specs.declared.levels.Level.{Level}
use Rattle.tlsf_values.specs.declared.value.Value.TheVariants.{Number}
use Rattle.tlsf_values.specs.declared.work.Work.{Work}
use Rattle.tlsf_values.specs.Counts.{joined_over, joined_with}
use Rattle.tlsf_values.specs.MembersSeen.{members_seen}
use Rattle.tlsf_values.specs.Names.{Binding}
use Rattle.tlsf_values.specs.Outcomes.{Outcome, gives, go_on}
use Rattle.tlsf_values.specs.Values.{Evaluator, big_value, bind}

-- the formulas of the inner ranges for each of these members of a range, joined to those so far; these names are bound outside of it
abbrev pub level_value : Evaluator → Big → List Binding → Named → List Range → List ℤ → Option Formula → Work → Outcome Formula
level_value r b bound word inner zs so_far w =
    joined_over b.place b.connective (λ z w. big_value r b.place b.connective (bind word (Number z) bound) (range_list_seen inner) (expr_seen b.part.now) w) zs so_far w

-- what comes of all ranges that are gone over once the innermost one's member has this formula; a name is bound for each of them
abbrev pub after : Evaluator → Big → List Binding → List Level → Formula → Work → Outcome Formula
after r b bound [] x w = gives x w
after r b bound (l ∷ ls) x w =
    go_on (joined_with b.place b.connective l.so_far x w) (λ joined w. go_on (level_value r b (drop 1 bound) (word_seen l.word.now) l.inner.now (members_seen l.members) (Some joined) w) (λ y w. after r b (drop 1 bound) ls y w))

-- the ranges inside the innermost one that is gone over; where none is, all
abbrev pub inner_of : List Range → List Level → List Range
inner_of ranges [] = ranges
inner_of ranges (l ∷ ls) = l.inner.now

-- what comes of the inner ranges, and then of those that are gone over
abbrev pub onward : Evaluator → Big → List Binding → List Range → List Level → Work → Outcome Formula
onward r b bound ranges ls w = go_on (big_value r b.place b.connective bound (range_list_seen ranges) (expr_seen b.part.now) w) (λ x w. after r b bound ls x w)

-- this is what comes of it: a member is bound, and the inner ranges are next; or the innermost one's member has this formula
abbrev pub IsOnward : Evaluator → Big → Outcome Formula → List Range → Option Formula → List Binding → List Level → Work → Type 0
IsOnward r b whole ranges None bound ls w = whole ≡ onward r b bound (inner_of ranges ls) ls w
IsOnward r b whole ranges (Some x) bound ls w = whole ≡ after r b bound ls x w

-- ---- how much there is left to do

-- steps enough for so many ranges inside each other, of at most 2^65 members each
abbrev pub turns : ℕ → ℕ
turns zero = 1
turns (suc n) = suc (2 ^ 65 * suc (turns n))

abbrev pub pending : List Level → ℕ
pending [] = 0
pending (l ∷ ls) = length (members_seen l.members) * suc (turns (length l.inner.now)) + pending ls

abbrev pub turns_left : List Range → List Level → ℕ
turns_left ranges ls = turns (length (inner_of ranges ls)) + pending ls

-- less than this is left; where a formula is to be joined next, no more than this
abbrev pub IsLess : Option Formula → List Range → List Level → ℕ → Type 0
IsLess None ranges ls most = turns_left ranges ls < most
IsLess (Some x) ranges ls most = pending ls ≤ most
