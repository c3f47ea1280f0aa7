-- One step of the loops and of the calls of the evaluation.
use Rattle.std.proofs.Common.{◌≡◌, ℕ, ℤ, Bool, false, None, ◌+◌, ◌<◌, List, [], ◌∷◌, length, map, take, drop, get_or, ◌-◌, refl, sym, ap, ◌∙◌, arith}
use Rattle.std.proofs.lemmas.Bool.{eq-eqb, ne_eqb}
use Rattle.std.proofs.lemmas.List.{length-map, length-drop, take_all, at_drop_more, get_or_default}
use Rattle.tlsf_syntax.specs.declared.expr.Expr.{Expr}
use Rattle.tlsf_syntax.specs.declared.expr.Word.{Word}
use Rattle.tlsf_syntax.specs.declared.expr.Link.{Link}
use Rattle.tlsf_syntax.specs.declared.expr.Range.{Range}
use Rattle.tlsf_syntax.specs.declared.spec.Alternative.{Alternative}
use Rattle.tlsf_values.specs.declared.formula.Connective.{Connective}
use Rattle.tlsf_values.specs.Sorts.{bus_in, formula_in, number_in, set_in}
use Rattle.spec_faults.specs.declared.code.SpecCode.TheVariants.{WrongSort}
use Rattle.tlsf_syntax.specs.Tree.{Body, members, between}
use Rattle.tlsf_values.specs.declared.work.Work.{Work}
use Rattle.tlsf_values.specs.declared.value.Value.{Value}
use Rattle.tlsf_values.specs.Names.{Names, Binding, Meaning, a_definition, bus_at, look_up}
use Rattle.tlsf_values.specs.Operators.{operated}
use Rattle.tlsf_values.specs.Outcomes.{fails, fine, gives, go_on, checked}
use Rattle.tlsf_syntax.specs.Seen.{alternative_seen, expr_seen, word_seen, trees_seen, link_list_seen, range_list_seen}
use Rattle.tlsf_values.specs.Values.{Evaluator, arguments_at, chosen_value, guard_value, big_value, bind, bit_value, index_value, word_value, call_value, chain_value, high_of, low_of, run_of, tree_count}
use Rattle.tlsf_values.specs.Counts.{joined_over}
use Rattle.tlsf_values.specs.declared.value.Value.TheVariants.{Number}
use Rattle.tlsf_values.proofs.SeenLemmas.{start_seen, count_seen}

counted_same : (ws : List Word) (es : List Expr) → length es ≡ length ws → tree_count (trees_seen es) ≡ length (map word_seen ws)
counted_same ws es same = count_seen es ∙ same ∙ sym (length-map ws word_seen)

-- a call with as many arguments as words
pub call_fits : (r : Evaluator) (bound : List Binding) (place at : ℕ) (m : Meaning) (ws : List Word) (b : Body) (es : List Expr) (w : Work) → m ≡ a_definition (map word_seen ws) b → length es ≡ length ws →
    call_value r bound place at m (trees_seen es) w ≡ go_on (arguments_at r bound [] (map word_seen ws) (trees_seen es) w) (λ inner w. r.body inner place b w)
call_fits r bound place at m ws b es w is same =
    rw (is, eq-eqb (tree_count (trees_seen es)) (length (map word_seen ws)) (counted_same ws es same)) refl

-- a call with more or fewer
pub call_misfits : (r : Evaluator) (bound : List Binding) (place at : ℕ) (m : Meaning) (ws : List Word) (b : Body) (es : List Expr) (w : Work) → m ≡ a_definition (map word_seen ws) b → (length es ≡ length ws → ⊥) →
    call_value r bound place at m (trees_seen es) w ≡ fails WrongSort place
call_misfits r bound place at m ws b es w is other =
    rw (is, ne_eqb (tree_count (trees_seen es)) (length (map word_seen ws)) (λ same. other (sym (count_seen es) ∙ same ∙ length-map ws word_seen))) refl

-- the item of a list at a place, and those after it
pub at_item : {X : Type 0} (l : List X) (j : ℕ) (x : X) → j < length l → x ≡ get_or l j x → drop j l ≡ x ∷ drop (j + 1) l
at_item l j x below is = at_drop_more (λ l. l) l j x below ∙ ap (λ y. y ∷ drop (j + 1) l) (sym is)

pub some_item : {X : Type 0} (l : List X) (j : ℕ) → j < length l → (x : X) × (drop j l ≡ x ∷ drop (j + 1) l)
some_item [] j below = absurd (omega arith)
some_item (x ∷ l) j below = (get_or (x ∷ l) j x, at_item (x ∷ l) j (get_or (x ∷ l) j x) below (get_or_default (x ∷ l) j x (get_or (x ∷ l) j x) below))

-- the first argument that is left, and those after it
pub arguments_more : (r : Evaluator) (bound so_far : List Binding) (ws : List Word) (es : List Expr) (i : ℕ) (word : Word) (e : Expr) (w : Work) →
    drop i ws ≡ word ∷ drop (i + 1) ws → drop i es ≡ e ∷ drop (i + 1) es →
    arguments_at r bound so_far (map word_seen (drop i ws)) (trees_seen (drop i es)) w ≡
    go_on (r.value bound (expr_seen e) w) (λ v w. arguments_at r bound (bind (word_seen word) v so_far) (map word_seen (drop (i + 1) ws)) (trees_seen (drop (i + 1) es)) w)
arguments_more r bound so_far ws es i word e w p q = rw (p, q) refl

-- the first link that is left, and those after it
pub chain_more : (names : Names) (r : Evaluator) (bound : List Binding) (own start : ℕ) (v : Value) (ls : List Link) (i : ℕ) (l : Link) (w : Work) →
    drop i ls ≡ l ∷ drop (i + 1) ls →
    chain_value names r bound own start v (link_list_seen (drop i ls)) w ≡
    go_on (r.value bound (expr_seen l.right) w) (λ u w. go_on (operated names l.op (record { own = own; left = start; right = l.right.span.start }) v u w) (λ joined w. chain_value names r bound own start joined (link_list_seen (drop (i + 1) ls)) w))
chain_more names r bound own start v ls i l w p =
    rw p (ap (λ right. go_on (r.value bound (expr_seen l.right) w) (λ u w. go_on (operated names l.op (record { own = own; left = start; right = right }) v u w) (λ joined w. chain_value names r bound own start joined (link_list_seen (drop (i + 1) ls)) w))) (start_seen l.right))

-- no range is left
pub big_empty : (r : Evaluator) (place : ℕ) (j : Connective) (bound : List Binding) (rs : List Range) (t : Expr) (w : Work) → length rs < 1 →
    big_value r place j bound (range_list_seen rs) (expr_seen t) w ≡ go_on (r.value bound (expr_seen t) w) (λ v w. checked (formula_in t.span.start v) (λ x w. gives x w) w)
big_empty r place j bound [] t w none = ap (λ start. go_on (r.value bound (expr_seen t) w) (λ v w. checked (formula_in start v) (λ x w. gives x w) w)) (start_seen t)
big_empty r place j bound (x ∷ rs) t w none = absurd (omega arith)

-- the next range is over a set
pub big_of_set : (r : Evaluator) (place : ℕ) (j : Connective) (bound : List Binding) (rs : List Range) (word : Word) (set : Expr) (more : List Range) (t : Expr) (w w1 : Work) (v : Value) (zs : List ℤ) →
    range_list_seen rs ≡ members (word_seen word) (expr_seen set) (range_list_seen more) → r.value bound (expr_seen set) w ≡ gives v w1 → set_in set.span.start v ≡ fine zs →
    big_value r place j bound (range_list_seen rs) (expr_seen t) w ≡ joined_over place j (λ z w. big_value r place j (bind (word_seen word) (Number z) bound) (range_list_seen more) (expr_seen t) w) zs None w1
big_of_set r place j bound rs word set more t w w1 v zs is value found = rw (is, value, start_seen set, found) refl

-- the next range is over the numbers between two bounds
pub big_of_run : (r : Evaluator) (place : ℕ) (j : Connective) (bound : List Binding) (rs : List Range) (word : Word) (low high : Expr) (low_strict high_strict : Bool) (more : List Range) (t : Expr) (w w1 w2 : Work) (a b : Value) (x y : ℤ) →
    range_list_seen rs ≡ between (expr_seen low) low_strict (word_seen word) high_strict (expr_seen high) (range_list_seen more) →
    r.value bound (expr_seen low) w ≡ gives a w1 → r.value bound (expr_seen high) w1 ≡ gives b w2 → number_in low.span.start a ≡ fine x → number_in high.span.start b ≡ fine y →
    big_value r place j bound (range_list_seen rs) (expr_seen t) w ≡
    joined_over place j (λ z w. big_value r place j (bind (word_seen word) (Number z) bound) (range_list_seen more) (expr_seen t) w) (run_of (low_of low_strict x) (high_of high_strict y)) None w2
big_of_run r place j bound rs word low high low_strict high_strict more t w w1 w2 a b x y is first last from to = rw (is, first, last, start_seen low, start_seen high, from, to) refl

-- all but the first range, as a slice has them
pub rest_whole : (rs : List Range) → take (length rs - 1) (drop 1 rs) ≡ drop 1 rs
rest_whole rs = take_all (length rs - 1) (drop 1 rs) (omega (arith, length-drop 1 rs))

-- a word that is a bus and an index that is a number
pub index_is : (names : Names) (r : Evaluator) (bound : List Binding) (place : ℕ) (word : Word) (i : Expr) (w w1 w2 : Work) (b v : Value) (k : ℕ) (z : ℤ) →
    word_value r word.span.start (look_up names bound word.name) w ≡ gives (bus_in word.span.start b) w1 → r.value bound (expr_seen i) w1 ≡ gives v w2 →
    bus_in word.span.start b ≡ fine k → number_in i.span.start v ≡ fine z →
    index_value names r bound place (word_seen word) (expr_seen i) w ≡ bit_value place i.span.start (bus_at names k) z w2
index_is names r bound place word i w w1 w2 b v k z named value bus number = rw (named, value, bus, start_seen i, number) refl

-- ---- one step of a loop, once its value is known

pub arguments_step : (r : Evaluator) (bound so_far more : List Binding) (ws : List Word) (es : List Expr) (i : ℕ) (word : Word) (e : Expr) (w w1 : Work) (v : Value) →
    drop i ws ≡ word ∷ drop (i + 1) ws → drop i es ≡ e ∷ drop (i + 1) es → r.value bound (expr_seen e) w ≡ gives v w1 → more ≡ bind (word_seen word) v so_far →
    arguments_at r bound so_far (map word_seen (drop i ws)) (trees_seen (drop i es)) w ≡ arguments_at r bound more (map word_seen (drop (i + 1) ws)) (trees_seen (drop (i + 1) es)) w1
arguments_step r bound so_far more ws es i word e w w1 v p q value is = rw (p, q, value, is) refl

pub chosen_step : (r : Evaluator) (bound : List Binding) (place : ℕ) (as' : List Alternative) (i : ℕ) (a : Alternative) (w w1 : Work) →
    drop i as' ≡ a ∷ drop (i + 1) as' → guard_value r bound (alternative_seen a).guard w ≡ gives false w1 →
    chosen_value r bound place (map alternative_seen (drop i as')) w ≡ chosen_value r bound place (map alternative_seen (drop (i + 1) as')) w1
chosen_step r bound place as' i a w w1 p guard = rw (p, guard) refl
