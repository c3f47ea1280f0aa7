-- A list's lines are cut in one way.
use Rattle.std.proofs.Common.{◌≡◌, ◌≢◌, ℕ, ◌+◌, ◌<◌, ◌≤◌, ◌⊎◌, inl, inr, List, [], ◌∷◌, ◌++◌, ◌-◌, All, length, take, drop, refl, sym, ◌∙◌, ap, subst, arith, append_assoc}
use Rattle.std.proofs.lemmas.List.Elements.{All-append, All-cons, All-head, All-nil, All-tail}
use Rattle.std.specs.Prelude.{Option, Some, None, IfNone}
use Rattle.std.proofs.lemmas.Grind.{common_steps}
use Rattle.batch_answer.specs.ListText.{IsBadNext, IsFirstLine, IsName, IsNext, IsOneLine, lines_of, most_lines, one_too_many, not_ended, no_name}
use Rattle.batch_answer.specs.Laws.{ListsAreDetermined}

abbrev is_no_end : ℕ → Type 0
is_no_end byte = byte ≢ 10

pub heads : (x y : ℕ) (xs ys : List ℕ) → x ∷ xs ≡ y ∷ ys → x ≡ y
heads x y xs ys e = cc

pub tails : (x y : ℕ) (xs ys : List ℕ) → x ∷ xs ≡ y ∷ ys → xs ≡ ys
tails x y xs ys e = cc

-- a line is what stands before the first line end
pub cut_same : (a b r s : List ℕ) → IsOneLine a → IsOneLine b → a ++ 10 ∷ r ≡ b ++ 10 ∷ s → (a ≡ b) × (r ≡ s)
cut_same [] [] r s one other e = (refl, tails 10 10 r s e)
cut_same [] (y ∷ b) r s one other e = absurd (All-head is_no_end y b other (sym (heads 10 y r (b ++ 10 ∷ s) e)))
cut_same (x ∷ a) [] r s one other e = absurd (All-head is_no_end x a one (heads x 10 (a ++ 10 ∷ r) s e))
cut_same (x ∷ a) (y ∷ b) r s one other e =
    let first : x ≡ y = heads x y (a ++ 10 ∷ r) (b ++ 10 ∷ s) e in
    let more = cut_same a b r s (All-tail is_no_end x a one) (All-tail is_no_end y b other) (tails x y (a ++ 10 ∷ r) (b ++ 10 ∷ s) e) in
    let whole : x ∷ a ≡ y ∷ b = cc in
    (whole, more.1)

nothing : (a r : List ℕ) → [] ≡ a ++ 10 ∷ r → ⊥
nothing [] r e = cc
nothing (x ∷ a) r e = cc

-- the bytes end, or go on with no line of a list
abbrev pub Stops : ℕ → List ℕ → Type 0
Stops count rest = (rest ≡ []) ⊎ IsBadNext count rest

-- a line of a list that comes next stops nothing
goes_on : (count : ℕ) (rest name behind : List ℕ) → count < most_lines → IsName name → rest ≡ name ++ 10 ∷ behind → Stops count rest → ⊥
goes_on count rest name behind few is_name e (inl ended) = nothing name behind (sym ended ∙ e)
goes_on count rest name behind few is_name e (inr bad) = by bad
  where
    holds_end : (a r : List ℕ) → IsOneLine (a ++ 10 ∷ r) → ⊥
    holds_end [] r one = All-head is_no_end 10 r one refl
    holds_end (x ∷ a) r one = holds_end a r (All-tail is_no_end x (a ++ 10 ∷ r) one)

    by : IsBadNext count rest → ⊥
    by (one_too_many full some) = omega (arith, few, full)
    by (not_ended some one) = holds_end name behind (subst IsOneLine e one)
    by (no_name line more at one is_not) =
        let same = cut_same line name more behind one is_name.one_line (sym at ∙ e) in
        is_not (subst IsName (sym same.0) is_name)

-- Lines that are names, up to where the bytes stop, are determined.
pub one_cut : (base m n : ℕ) (names others : List (List ℕ)) (rest more : List ℕ) → m ≡ base + length names → n ≡ base + length others
    → m ≤ most_lines → n ≤ most_lines → All IsName names → All IsName others → Stops m rest → Stops n more
    → lines_of names ++ rest ≡ lines_of others ++ more → (names ≡ others) × (rest ≡ more)
one_cut base m n [] [] rest more count other few fewer each all stop stops e = (refl, e)
one_cut base m n [] (b ∷ bs) rest more count other few fewer each all stop stops e =
    let left : m < most_lines = omega (arith, count, other, fewer) in
    let at : rest ≡ b ++ 10 ∷ (lines_of bs ++ more) = e ∙ append_assoc b (10 ∷ lines_of bs) more in
    absurd (goes_on m rest b (lines_of bs ++ more) left (All-head IsName b bs all) at stop)
one_cut base m n (a ∷ named) [] rest more count other few fewer each all stop stops e =
    let left : n < most_lines = omega (arith, count, other, few) in
    let at : more ≡ a ++ 10 ∷ (lines_of named ++ rest) = sym e ∙ append_assoc a (10 ∷ lines_of named) rest in
    absurd (goes_on n more a (lines_of named ++ rest) left (All-head IsName a named each) at stops)
one_cut base m n (a ∷ named) (b ∷ bs) rest more count other few fewer each all stop stops e =
    let at : a ++ 10 ∷ (lines_of named ++ rest) ≡ b ++ 10 ∷ (lines_of bs ++ more) =
    sym (append_assoc a (10 ∷ lines_of named) rest) ∙ e ∙ append_assoc b (10 ∷ lines_of bs) more in
    let first = cut_same a b (lines_of named ++ rest) (lines_of bs ++ more) (All-head IsName a named each).one_line (All-head IsName b bs all).one_line at in
    let deeper : m ≡ (base + 1) + length named = omega (arith, count) in
    let deep : n ≡ (base + 1) + length bs = omega (arith, other) in
    let later = one_cut (base + 1) m n named bs rest more deeper deep few fewer (All-tail IsName a named each) (All-tail IsName b bs all) stop stops first.1 in
    let heads_are : a ≡ b = first.0 in
    let tails_are : named ≡ bs = later.0 in
    let whole : a ∷ named ≡ b ∷ bs = cc in
    (whole, later.1)

no_more : (xs : List ℕ) → xs ++ [] ≡ xs
no_more [] = refl
no_more (x ∷ xs) = ap (λ ys. x ∷ ys) (no_more xs)

-- no bad line comes where the bytes end
not_bad : (count : ℕ) → IsBadNext count [] → ⊥
not_bad count (one_too_many full some) = some refl
not_bad count (not_ended some one) = some refl
not_bad count (no_name line more at one is_not) = nothing line more at

pub determined : ListsAreDetermined
determined = record {
  one_list = λ bytes names others a b.
      (one_cut 0 (length names) (length others) names others [] [] (omega arith) (omega arith) a.few b.few a.each b.each (inl refl) (inl refl)
      (no_more (lines_of names) ∙ sym a.text ∙ b.text ∙ sym (no_more (lines_of others)))).0;
  one_line = λ bytes m n a b.
      let same = one_cut 0 (length a.names) (length b.names) a.names b.names a.rest b.rest (omega arith) (omega arith) a.few b.few a.each b.each (inr a.bad) (inr b.bad)
      (sym a.text ∙ b.text) in
      let count : length a.names ≡ length b.names = ap length same.0 in
      let here = a.number in
      let there = b.number in
      omega (arith, count, here, there);
  apart = λ bytes names n a b.
      let same = one_cut 0 (length names) (length b.names) names b.names [] b.rest (omega arith) (omega arith) a.few b.few a.each b.each (inl refl) (inr b.bad)
      (no_more (lines_of names) ∙ sym a.text ∙ b.text) in
      not_bad (length b.names) (subst (IsBadNext (length b.names)) (sym same.1) b.bad);
}

-- == what is read ==

pub lines-push : (names : List (List ℕ)) (name rest : List ℕ) → lines_of (names ++ name ∷ []) ++ rest ≡ lines_of names ++ (name ++ 10 ∷ rest)
lines-push [] name rest = append_assoc name (10 ∷ []) rest
lines-push (a ∷ named) name rest =
    append_assoc a (10 ∷ lines_of (named ++ name ∷ [])) rest ∙ ap (λ l. a ++ 10 ∷ l) (lines-push named name rest)
    ∙ sym (append_assoc a (10 ∷ lines_of named) (name ++ 10 ∷ rest))

-- the lines so far are those of names, and the rest comes behind them
pub record IsRead (bytes : List ℕ) (names : List (List ℕ)) (rest : List ℕ) : Type 0 where
  pub text : bytes ≡ lines_of names ++ rest
  pub each : All IsName names
  pub few : length names ≤ most_lines

pub read-more : (bytes : List ℕ) (names : List (List ℕ)) (rest name : List ℕ) → IsRead bytes names rest → IsNext (length names) rest name
    → IsRead bytes (names ++ name ∷ []) (drop (length name + 1) rest)
read-more bytes names rest name so_far next = record {
  text = so_far.text ∙ ap (λ l. lines_of names ++ l) next.text ∙ sym (lines-push names name (drop (length name + 1) rest));
  each = All-append IsName names (name ∷ []) so_far.each (All-cons IsName name [] next.is_name (All-nil IsName));
  few = let one = next.few in grind (arith, common_steps);
}

-- the first line is no name, and so not the next line of a list
pub no_name_next : {X : Type 0} (name : Option X) (count : ℕ) (rest line : List ℕ) → IsFirstLine rest line → IfNone name (IsName line → ⊥)
    → IfNone name (IsBadNext count rest)
no_name_next (Some x) count rest line first none = tt
no_name_next None count rest line first none = no_name line (drop (length line + 1) rest) first.text first.one_line none

-- the loop's next turn
pub read-next : (bytes : List ℕ) (names later : List (List ℕ)) (rest name : List ℕ) (count : ℕ) → IsRead bytes names rest → count ≡ length names
    → IsNext count rest name → later ≡ names ++ name ∷ [] → IsRead bytes later (take (length rest - (length name + 1)) (drop (length name + 1) rest))
read-next bytes names later rest name count so_far is next more =
    let whole : drop (length name + 1) rest ≡ take (length rest - (length name + 1)) (drop (length name + 1) rest) = grind (arith, common_steps) in
    let here : IsNext (length names) rest name = subst (λ n. IsNext n rest name) is next in
    let then_read : IsRead bytes later (drop (length name + 1) rest) = subst (λ l. IsRead bytes l (drop (length name + 1) rest)) (sym more) (read-more bytes names rest name so_far here) in
    subst (IsRead bytes later) whole then_read
