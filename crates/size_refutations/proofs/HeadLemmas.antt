-- The tests of a head against what they say.
use Rattle.std.proofs.Common.{◌≡◌, ◌≢◌, ℕ, zero, suc, ◌+◌, ◌<◌, ◌≤◌, ◌^◌, ◌==◌, ◌&&◌, Bool, true, false, not, cond, Some, None, List, [], ◌∷◌, ◌++◌, length, refl, ap, arith}
use Rattle.std.specs.Prelude.{All, AllPairs, nat_le, nat_lt, slice_index_or}
use Rattle.std.specs.List.{range_with_len}
use Rattle.std.specs.Option.{option_map_or}
use Rattle.std.proofs.lemmas.Bool.{and_from, and_parts, eq-eqb, eqb-true, eqb-false, le-leb, leb-true, lt-ltb, ltb-true, ne_eqb, not-true, not_from_false}
use Rattle.std.proofs.lemmas.List.Elements.{All-nil, All-cons, All-head, All-tail, All-weaker}
use Rattle.std.proofs.lemmas.List.Kept.{AllPairs-cons}
use Rattle.text_limits.specs.declared.TheConstants.{LARGE_LIMITS}
use Rattle.machine_model.specs.declared.problems.Problem.{Problem}
use Rattle.letter_clauses.specs.BaseClauses.{base_clauses}
use Rattle.letter_clauses.specs.Count.{count_of, is_allowed, most_letters}
use Rattle.letter_clauses.specs.Letters.{IsLetterList}
use Rattle.letter_clauses.specs.Variables.{variables_of}
use Rattle.solved_text.specs.declared.letters.Letters.{Letters}
use Rattle.solved_text.specs.declared.letters.Letters.TheVariants as written
use Rattle.solved_text.specs.Parts.{SizeLog}
use Rattle.size_refutations.specs.Heads.{are_few, are_letters, has_numbers, has_some, is_list, is_number_of_states, rise_below}
use Rattle.size_refutations.specs.Holds.{AreFewLetters, AreLetters}

-- ---- numbers that rise

pub record Rises (all least : ℕ) (letters : List ℕ) : Type 0 where
  pub below : All (λ letter. letter < all) letters
  pub above : All (λ letter. least ≤ letter) letters
  pub rising : AllPairs (λ letter later. letter < later) letters

pub rises : (all least : ℕ) (letters : List ℕ) → rise_below all least letters ≡ true → Rises all least letters
rises all least [] is = record {
  below = All-nil (λ letter. letter < all);
  above = All-nil (λ letter. least ≤ letter);
  rising = λ i j d less within. absurd (omega (arith, within));
}
rises all least (x ∷ xs) is =
    let first = and_parts (nat_le least x) (nat_lt x all && rise_below all (x + 1) xs) is in
    let second = and_parts (nat_lt x all) (rise_below all (x + 1) xs) first.1 in
    let rest = rises all (x + 1) xs second.1 in
    let from : least ≤ x = leb-true least x first.0 in
    record {
      below = All-cons (λ letter. letter < all) x xs (ltb-true x all second.0) rest.below;
      above = All-cons (λ letter. least ≤ letter) x xs from (All-weaker (λ y. x + 1 ≤ y) (λ y. least ≤ y) (λ y h. omega (arith, h, from)) xs rest.above);
      rising = AllPairs-cons (λ letter later. letter < later) x xs (All-weaker (λ y. x + 1 ≤ y) (λ y. x < y) (λ y h. omega (arith, h)) xs rest.above) rest.rising;
    }

later : (x : ℕ) (xs : List ℕ) → AllPairs (λ letter later. letter < later) (x ∷ xs) → All (λ letter. x + 1 ≤ letter) xs
later x xs rising k d h =
    let less : x < slice_index_or xs k d = rising 0 (suc k) d (omega arith) (omega (arith, h)) in
    omega (arith, less)

tail_rises : (x : ℕ) (xs : List ℕ) → AllPairs (λ letter later. letter < later) (x ∷ xs) → AllPairs (λ letter later. letter < later) xs
tail_rises x xs rising i j d less h = rising (suc i) (suc j) d (omega (arith, less)) (omega (arith, h))

pub rise_back : (all least : ℕ) (letters : List ℕ) → Rises all least letters → rise_below all least letters ≡ true
rise_back all least [] r = refl
rise_back all least (x ∷ xs) r =
    let rest : Rises all (x + 1) xs = record {
      below = All-tail (λ letter. letter < all) x xs r.below;
      above = later x xs r.rising;
      rising = tail_rises x xs r.rising;
    } in
    and_from (nat_le least x) (nat_lt x all && rise_below all (x + 1) xs) (le-leb least x (All-head (λ letter. least ≤ letter) x xs r.above))
    (and_from (nat_lt x all) (rise_below all (x + 1) xs) (lt-ltb x all (All-head (λ letter. letter < all) x xs r.below)) (rise_back all (x + 1) xs rest))

-- ---- letters

some_of : (letters : List ℕ) → has_some letters ≡ true → letters ≢ []
some_of [] is none = absurd (cc)
some_of (x ∷ xs) is none = absurd (cc)

some_back : (letters : List ℕ) → letters ≢ [] → has_some letters ≡ true
some_back [] some = absurd (some refl)
some_back (x ∷ xs) some = refl

pub listed : (signals : ℕ) (letters : List ℕ) → is_list signals letters ≡ true → IsLetterList signals letters
listed signals letters is =
    let both = and_parts (has_some letters) (rise_below (2 ^ signals) 0 letters) is in
    let r = rises (2 ^ signals) 0 letters both.1 in
    record { some = some_of letters both.0; below = r.below; rising = r.rising }

listed_back : (signals : ℕ) (letters : List ℕ) → IsLetterList signals letters → is_list signals letters ≡ true
listed_back signals letters list =
    let r : Rises (2 ^ signals) 0 letters = record { below = list.below; above = λ k d h. omega arith; rising = list.rising } in
    and_from (has_some letters) (rise_below (2 ^ signals) 0 letters) (some_back letters list.some) (rise_back (2 ^ signals) 0 letters r)

pub few_letters : (signals : ℕ) (letters : List ℕ) → are_few signals letters ≡ true → AreFewLetters signals letters
few_letters signals letters is =
    let first = and_parts (nat_le (length letters) most_letters) (not (length letters == 2 ^ signals) && is_list signals letters) is in
    let second = and_parts (not (length letters == 2 ^ signals)) (is_list signals letters) first.1 in
    record {
      list = listed signals letters second.1;
      few = leb-true (length letters) most_letters first.0;
      not_all = eqb-false (length letters) (2 ^ signals) (not-true (length letters == 2 ^ signals) second.0);
    }

few_back : (signals : ℕ) (letters : List ℕ) → AreFewLetters signals letters → are_few signals letters ≡ true
few_back signals letters few =
    and_from (nat_le (length letters) most_letters) (not (length letters == 2 ^ signals) && is_list signals letters) (le-leb (length letters) most_letters few.few)
    (and_from (not (length letters == 2 ^ signals)) (is_list signals letters) (not_from_false (length letters == 2 ^ signals) (ne_eqb (length letters) (2 ^ signals) few.not_all))
    (listed_back signals letters few.list))

pub letters_of_test : (signals : ℕ) (letters : Letters) → are_letters signals letters ≡ true → AreLetters signals letters
letters_of_test signals written.All is = tt
letters_of_test signals (written.Few letters) is = few_letters signals letters is

pub letters_back : (signals : ℕ) (letters : Letters) → AreLetters signals letters → are_letters signals letters ≡ true
letters_back signals written.All is = refl
letters_back signals (written.Few letters) is = few_back signals letters is

-- ---- sizes and numbers

pub record AreStates (size : ℕ) : Type 0 where
  pub some : 1 ≤ size
  pub few : size ≤ LARGE_LIMITS.machine

pub states_of_test : (size : ℕ) → is_number_of_states size ≡ true → AreStates size
states_of_test size is =
    let both = and_parts (nat_le 1 size) (nat_le size LARGE_LIMITS.machine) is in
    record { some = leb-true 1 size both.0; few = leb-true size LARGE_LIMITS.machine both.1 }

pub states_back : (size : ℕ) → 1 ≤ size → size ≤ LARGE_LIMITS.machine → is_number_of_states size ≡ true
states_back size some few = and_from (nat_le 1 size) (nat_le size LARGE_LIMITS.machine) (le-leb 1 size some) (le-leb size LARGE_LIMITS.machine few)

pub record HasNumbers (p : Problem) (letters : List ℕ) (l : SizeLog) : Type 0 where
  pub allowed : is_allowed p letters ≡ true
  pub vars : l.vars ≡ variables_of p letters
  pub base : l.base ≡ length (base_clauses p letters)

base_of : (b : Bool) (n m : ℕ) → option_map_or (λ k. m == k) (cond b (Some n) None) false ≡ true → (b ≡ true) × (m ≡ n)
base_of true n m is = (refl, eqb-true m n is)
base_of false n m is = absurd (cc)

base_back : (b : Bool) (n m : ℕ) → b ≡ true → m ≡ n → option_map_or (λ k. m == k) (cond b (Some n) None) false ≡ true
base_back true n m is same = eq-eqb m n same
base_back false n m is same = absurd (cc)

pub numbers_of_test : (p : Problem) (letters : List ℕ) (l : SizeLog) → has_numbers p letters l ≡ true → HasNumbers p letters l
numbers_of_test p letters l is =
    let both = and_parts (option_map_or (λ n. l.base == n) (count_of p letters) false) (l.vars == variables_of p letters) is in
    let base = base_of (is_allowed p letters) (length (base_clauses p letters)) l.base both.0 in
    record { allowed = base.0; vars = eqb-true l.vars (variables_of p letters) both.1; base = base.1 }

pub numbers_back : (p : Problem) (letters : List ℕ) (l : SizeLog) → HasNumbers p letters l → has_numbers p letters l ≡ true
numbers_back p letters l has =
    and_from (option_map_or (λ n. l.base == n) (count_of p letters) false) (l.vars == variables_of p letters)
    (base_back (is_allowed p letters) (length (base_clauses p letters)) l.base has.allowed has.base) (eq-eqb l.vars (variables_of p letters) has.vars)

-- where the clauses are counted the size is allowed
pub counted_allowed : (p : Problem) (letters : List ℕ) (n : ℕ) → count_of p letters ≡ Some n → is_allowed p letters ≡ true
counted_allowed p letters n is = by (is_allowed p letters) is
  where
    by : (b : Bool) → cond b (Some (length (base_clauses p letters))) None ≡ Some n → b ≡ true
    by true e = refl
    by false e = absurd (cc)

-- ---- all letters

pub range_more : (a n j : ℕ) → a + n ≡ j → range_with_len a (suc n) ≡ range_with_len a n ++ j ∷ []
range_more a zero j e =
    let same : a ≡ j = omega (arith, e) in
    ap (λ (k : ℕ). k ∷ []) same
range_more a (suc n) j e = ap (λ (xs : List ℕ). a ∷ xs) (range_more (a + 1) n j (omega (arith, e)))
