-- The ranges of a big operator that are gone over: one step, and that less is left after it.
use Rattle.std.proofs.Common.{◌≡◌, ℕ, zero, ℤ, FitsSigned, w64, pos, negsuc, ◌+ℤ◌, ◌-ℤ◌, Option, None, Some, suc, ◌+◌, ◌^◌, ◌*◌, ◌<◌, ◌≤◌, List, [], ◌∷◌, length, drop, refl, sym, ap, subst, ◌∙◌, arith}
use Rattle.std.proofs.Math.Nat.{mul-le-mul_right, suc-mul}
use Rattle.std.proofs.lemmas.Int.{ints}
use Rattle.std.specs.Prelude.{unsigned_abs}
use Rattle.tlsf_syntax.specs.Tree.{Named}
use Rattle.tlsf_syntax.specs.declared.expr.Range.{Range}
use Rattle.tlsf_syntax.specs.Seen.{expr_seen, range_list_seen, word_seen}
use Rattle.tlsf_values.specs.declared.formula.Formula.{Formula}
use Rattle.tlsf_values.specs.declared.levels.Big.{Big}
use Rattle.tlsf_values.specs.declared.value.Value.TheVariants.{Number}
use Rattle.tlsf_values.specs.declared.work.Work.{Work}
use Rattle.tlsf_values.specs.Counts.{joined_with}
use Rattle.tlsf_values.specs.LevelsSeen.{IsLess, IsOnward, after, level_value, pending, turns}
use Rattle.tlsf_values.specs.MembersSeen.{members_seen}
use Rattle.tlsf_values.specs.declared.levels.Level.{Level}
use Rattle.tlsf_syntax.specs.declared.expr.Word.{Word}
use Rattle.tlsf_values.specs.Steps.{numbers_from}
use Rattle.tlsf_values.specs.Names.{Binding}
use Rattle.tlsf_values.specs.Outcomes.{Outcome, fails, gives, go_on}
use Rattle.tlsf_values.specs.Values.{Evaluator, big_value, bind, natural, run_of}
use Rattle.tlsf_values.proofs.OutcomeLemmas.{go_on_assoc}

-- the first member of a level
pub level_step : (r : Evaluator) (b : Big) (bound : List Binding) (word : Named) (inner : List Range) (all rest : List ℤ) (z : ℤ) (so_far : Option Formula) (w : Work) (k : Formula → Work → Outcome Formula) → all ≡ z ∷ rest →
    go_on (level_value r b bound word inner all so_far w) k ≡
    go_on (big_value r b.place b.connective (bind word (Number z) bound) (range_list_seen inner) (expr_seen b.part.now) w)
    (λ x w. go_on (joined_with b.place b.connective so_far x w) (λ joined w. go_on (level_value r b bound word inner rest (Some joined) w) k))
level_step r b bound word inner all rest z so_far w k is =
    let f : ℤ → Work → Outcome Formula = λ z w. big_value r b.place b.connective (bind word (Number z) bound) (range_list_seen inner) (expr_seen b.part.now) w in
    let more : Formula → Work → Outcome Formula = λ joined w. level_value r b bound word inner rest (Some joined) w in
    ap (λ zs. go_on (level_value r b bound word inner zs so_far w) k) is
    ∙ go_on_assoc (f z w) (λ x w. go_on (joined_with b.place b.connective so_far x w) more) k
    ∙ (λ i. go_on (f z w) (λ x w. go_on_assoc (joined_with b.place b.connective so_far x w) more k i))

-- a member that is taken leaves enough for the ranges inside
pub taken_less : (n t p : ℕ) → t + (n * suc t + p) < suc n * suc t + p
taken_less n t p =
    let e : suc n * suc t ≡ n * suc t + suc t = suc-mul n (suc t) in
    omega (arith, e)

pub level_less : (inner : List Range) (all rest : List ℤ) (z : ℤ) (p : ℕ) → all ≡ z ∷ rest →
    turns (length inner) + (length rest * suc (turns (length inner)) + p) < length all * suc (turns (length inner)) + p
level_less inner all rest z p is =
    let e : length all ≡ suc (length rest) = ap length is in
    rw e (taken_less (length rest) (turns (length inner)) p)

pub level_more : (n p : ℕ) → p ≤ n + p
level_more n p = omega arith

-- ---- a level whose member has a formula

-- the level with what was joined to it
abbrev pub with_joined : Level → Option Formula → Level
with_joined l joined = record { word = l.word; members = l.members; inner = l.inner; so_far = joined }

some_given : (o : Outcome Formula) (y : Option Formula) (w : Work) → go_on o (λ x w. gives (Some x) w) ≡ gives y w → (x : Formula) × (y ≡ Some x) × (o ≡ gives x w)
some_given (gives a v) y w is =
    let same : Some a ≡ y = cc in
    let at : v ≡ w = cc in
    (a, sym same, ap (λ u. gives a u) at)
some_given (fails code place) y w is = absurd cc

pub after_step : (r : Evaluator) (b : Big) (bs more : List Binding) (all ls : List Level) (l next : Level) (x : Formula) (w w1 : Work) → all ≡ l ∷ ls → more ≡ drop 1 bs →
    go_on (joined_with b.place b.connective l.so_far x w) (λ x w. gives (Some x) w) ≡ gives next.so_far w1 → next ≡ with_joined l next.so_far →
    after r b bs all x w ≡
    go_on (level_value r b more (word_seen next.word.now) next.inner.now (members_seen next.members) next.so_far w1) (λ x w. after r b more ls x w)
after_step r b bs more all ls l next x w w1 is popped joined same =
    let given = some_given (joined_with b.place b.connective l.so_far x w) next.so_far w1 joined in
    let go : List Binding → Formula → Work → Outcome Formula = λ bound y w. go_on (level_value r b bound (word_seen l.word.now) l.inner.now (members_seen l.members) (Some y) w) (λ x w. after r b bound ls x w) in
    let to : Level → Outcome Formula = λ k. go_on (level_value r b more (word_seen k.word.now) k.inner.now (members_seen k.members) next.so_far w1) (λ x w. after r b more ls x w) in
    let here : after r b bs all x w ≡ go_on (joined_with b.place b.connective l.so_far x w) (go (drop 1 bs)) = ap (λ ks. after r b bs ks x w) is in
    here
    ∙ ap (λ o. go_on o (go (drop 1 bs))) given.2
    ∙ ap (λ bound. go bound given.0 w1) (sym popped)
    ∙ ap (λ y. go_on (level_value r b more (word_seen l.word.now) l.inner.now (members_seen l.members) y w1) (λ x w. after r b more ls x w)) (sym given.1)
    ∙ ap to (sym same)

drop_none : (n : ℕ) → drop {A = Binding} n [] ≡ []
drop_none zero = refl
drop_none (suc n) = refl

pub outer_step : (bs more : List Binding) (all ls : List Level) (l : Level) → all ≡ l ∷ ls → more ≡ drop 1 bs → drop (length ls) more ≡ drop (length all) bs
outer_step [] more all ls l is popped = rw (is, popped) (drop_none (length ls) ∙ sym (drop_none (suc (length ls))))
outer_step (b ∷ bs) more all ls l is popped = rw (is, popped) refl

pub pending_step : (all ls : List Level) (l next : Level) → all ≡ l ∷ ls → next ≡ with_joined l next.so_far → pending (next ∷ ls) ≡ pending all
pending_step all ls l next is same = ap (λ k. pending (k ∷ ls)) same ∙ ap pending (sym is)

-- ---- a range that is opened

numbers_long : (z step : ℤ) (n : ℕ) → length (numbers_from z step n) ≡ n
numbers_long z step zero = refl
numbers_long z step (suc n) = ap suc (numbers_long (z +ℤ step) step n)

natural_least : (z : ℤ) → natural z ≤ unsigned_abs z
natural_least (pos n) = omega arith
natural_least (negsuc n) = omega arith

near : (low high : ℤ) → FitsSigned w64 low → FitsSigned w64 high → unsigned_abs (high +ℤ pos 1 -ℤ low) ≤ 2 ^ 65
near low high l h = grind (arith, ints)

pub run_few : (low high : ℤ) → FitsSigned w64 low → FitsSigned w64 high → length (run_of low high) ≤ 2 ^ 65
run_few low high l h =
    let long = numbers_long low (pos 1) (natural (high +ℤ pos 1 -ℤ low)) in
    let least = natural_least (high +ℤ pos 1 -ℤ low) in
    let few = near low high l h in
    omega (arith, long, least, few)

-- what comes of a range that is opened is what comes of its level
pub opened : (r : Evaluator) (b : Big) (bs more new : List Binding) (ls after_it : List Level) (l : Level) (word : Word) (inner all : List Range) (zs : List ℤ) (o : Outcome Formula) (next : Option Formula) (w : Work) →
    o ≡ level_value r b bs (word_seen word) inner zs None w → more ≡ bs → l.word.now ≡ word → l.inner.now ≡ inner → members_seen l.members ≡ zs → l.so_far ≡ None →
    IsOnward r b (go_on (level_value r b more (word_seen l.word.now) l.inner.now (members_seen l.members) l.so_far w) (λ x w. after r b more ls x w)) all next new after_it w →
    IsOnward r b (go_on o (λ x w. after r b bs ls x w)) all next new after_it w
opened r b bs more new ls after_it l word inner all zs o next w is same of_word of_inner of_members nothing going =
    let whole : go_on (level_value r b more (word_seen l.word.now) l.inner.now (members_seen l.members) l.so_far w) (λ x w. after r b more ls x w) ≡ go_on o (λ x w. after r b bs ls x w) =
    ap (λ bound. go_on (level_value r b bound (word_seen l.word.now) l.inner.now (members_seen l.members) l.so_far w) (λ x w. after r b bound ls x w)) same
    ∙ ap (λ o. go_on o (λ x w. after r b bs ls x w))
    (ap (λ x. level_value r b bs (word_seen x) l.inner.now (members_seen l.members) l.so_far w) of_word
    ∙ ap (λ xs. level_value r b bs (word_seen word) xs (members_seen l.members) l.so_far w) of_inner
    ∙ ap (λ xs. level_value r b bs (word_seen word) inner xs l.so_far w) of_members
    ∙ ap (λ x. level_value r b bs (word_seen word) inner zs x w) nothing
    ∙ sym is) in
    subst (λ o. IsOnward r b o all next new after_it w) whole going

pub less_than : (next : Option Formula) (all : List Range) (ls : List Level) (most more : ℕ) → most ≤ more → IsLess next all ls most → IsLess next all ls more
less_than None all ls most more within less = omega (arith, within, less)
less_than (Some x) all ls most more within less = omega (arith, within, less)

few_pending : (m t p : ℕ) → m ≤ 2 ^ 65 → m * suc t + p ≤ suc (2 ^ 65 * suc t) + p
few_pending m t p few =
    let most : m * suc t ≤ 2 ^ 65 * suc t = mul-le-mul_right (suc t) few in
    omega (arith, most)

pub level_within : (l : Level) (ls : List Level) (rs : List Range) → length (members_seen l.members) ≤ 2 ^ 65 → l.inner.now ≡ drop 1 rs → 1 ≤ length rs → pending (l ∷ ls) ≤ turns (length rs) + pending ls
level_within l ls [] few inner some = absurd (omega (arith, some))
level_within l ls (x ∷ rs) few inner some =
    let is : pending (l ∷ ls) ≡ length (members_seen l.members) * suc (turns (length rs)) + pending ls = ap (λ xs. length (members_seen l.members) * suc (turns (length xs)) + pending ls) inner in
    let most = few_pending (length (members_seen l.members)) (turns (length rs)) (pending ls) few in
    omega (arith, is, most)
