-- Where no line has a literal out of its bound.
use Rattle.std.proofs.Common.{◌≡◌, ℕ, zero, suc, ◌+◌, ◌*◌, ◌<◌, ◌≤◌, Bool, true, false, ◌&&◌, cond, Option, Some, None, List, [], ◌∷◌, length, get_or, refl, sym, ap, subst, ◌∙◌, arith}
use Rattle.std.specs.Prelude.{All, option_map, slice_get, nat_le, nat_lt, unwrap_or}
use Rattle.std.specs.List.{list_all}
use Rattle.std.specs.Option.{option_or}
use Rattle.std.proofs.lemmas.Bool.{and_parts, cond-true, leb-true, ltb-true, le-leb, lt-ltb}
use Rattle.std.proofs.lemmas.List.Sums.{AllPass-from_list_all, list_all-from_AllPass}
use Rattle.std.proofs.lemmas.Option.{get_or_from_slice_get, slice_get-get_or, slice_get_within}
use Rattle.truth_witness.specs.declared.witnesses.Operands.{Operands}
use Rattle.truth_witness.specs.Proved.{AreBefore, IsPartFor, IsWitnessFor}
use Rattle.truth_witness.specs.Variables.{gate_literal, top_literal}
use Rattle.truth_witness.specs.Witness.{Claim, Part, Witness}
use Rattle.witness_bounds.specs.declared.bounds.Bounds.{Bounds}
use Rattle.witness_bounds.specs.declared.lines.WitnessPlace.{WitnessPlace}
use Rattle.witness_bounds.specs.declared.lines.WitnessPlace.TheVariants.{Latch, Gate, Always, APart}
use Rattle.witness_bounds.specs.Bounds.{bounds_in}
use Rattle.witness_bounds.specs.Laws.{HasFewBits, HasFewBitsInParts, WitnessesAreBounded}
use Rattle.witness_bounds.specs.Lines.{always_refused, are_before, first_outside, first_refused, is_of_frame, is_part_of_frame, lines_of}

-- ---- the first that a test refuses

kept : (b : Bool) (rest : Option ℕ) (n : ℕ) → cond b rest (Some n) ≡ None → (b ≡ true) × (rest ≡ None)
kept true rest n none = (refl, none)
kept false rest n none = absurd (cc)

-- each passes where none is refused
pub each_passes : {A : Type 0} (test : ℕ → A → Bool) (n : ℕ) (xs : List A) → first_refused test n xs ≡ None
    → (k : ℕ) (x : A) → slice_get xs k ≡ Some x → test (n + k) x ≡ true
each_passes test n [] none k x at = absurd (cc)
each_passes {A} test n (a ∷ more) none zero x at =
    let same : a ≡ x = ap (λ (o : Option A). unwrap_or o a) at in
    let here : n ≡ n + zero = omega arith in
    subst (λ y. test (n + zero) y ≡ true) same
    (subst (λ m. test m a ≡ true) here (kept (test n a) (first_refused test (suc n) more) n none).0)
each_passes test n (a ∷ more) none (suc k) x at =
    let here : suc n + k ≡ n + suc k = omega arith in
    subst (λ m. test m x ≡ true) here
    (each_passes test (suc n) more (kept (test n a) (first_refused test (suc n) more) n none).1 k x at)

pub none_refused : {A : Type 0} (test : ℕ → A → Bool) (n : ℕ) (xs : List A) → ((k : ℕ) (x : A) → slice_get xs k ≡ Some x → test (n + k) x ≡ true)
    → first_refused test n xs ≡ None
none_refused test n [] each = refl
none_refused test n (a ∷ more) each =
    let here : n + zero ≡ n = omega arith in
    cond-true (test n a) (first_refused test (suc n) more) (Some n) (subst (λ m. test m a ≡ true) here (each 0 a refl))
    ∙ none_refused test (suc n) more (λ k x at. let e : n + suc k ≡ suc n + k = omega arith in subst (λ m. test m x ≡ true) e (each (suc k) x at))

-- of elements alone
all_pass : {A : Type 0} (test : A → Bool) (P : A → Type 0) → ((x : A) → test x ≡ true → P x) → (xs : List A) → first_refused (λ _ x. test x) 0 xs ≡ None → All P xs
all_pass test P so xs none = λ k d h. so (get_or xs k d) (each_passes (λ _ x. test x) 0 xs none k (get_or xs k d) (slice_get-get_or xs k d h))

none_of_all : {A : Type 0} (test : A → Bool) (P : A → Type 0) → ((x : A) → P x → test x ≡ true) → (xs : List A) → All P xs → first_refused (λ _ x. test x) 0 xs ≡ None
none_of_all test P so xs all =
    none_refused (λ _ x. test x) 0 xs
    (λ k x at. so x (subst P (get_or_from_slice_get xs k x x at) (all k x (slice_get_within xs k x at))))

-- ---- one line

within : (b : Bounds) (l : ℕ) → is_of_frame b l ≡ true → l ≤ b.top
within b l e = leb-true l b.top e

is_within : (b : Bounds) (l : ℕ) → l ≤ b.top → is_of_frame b l ≡ true
is_within b l h = le-leb l b.top h

all_within : (b : Bounds) (xs : List ℕ) → list_all (is_of_frame b) xs ≡ true → All (λ l. l ≤ b.top) xs
all_within b xs e = λ k d h. within b (get_or xs k d) (AllPass-from_list_all (is_of_frame b) xs e k d h)

are_all_within : (b : Bounds) (xs : List ℕ) → All (λ l. l ≤ b.top) xs → list_all (is_of_frame b) xs ≡ true
are_all_within b xs all = list_all-from_AllPass (is_of_frame b) xs (λ k d h. is_within b (get_or xs k d) (all k d h))

-- both of two are so
both : (b c : Bool) → b ≡ true → c ≡ true → (b && c) ≡ true
both b c p q = ap (λ x. x && c) p ∙ q

always_kept : (b : Bounds) (l : ℕ) (t : Bool) → is_of_frame b l ≡ t → always_refused b (Some l) ≡ None → l ≤ b.top
always_kept b l true e none = within b l e
always_kept b l false e none = absurd (cc)

-- ---- all lines

mapped_none : (f : ℕ → WitnessPlace) (o : Option ℕ) → option_map f o ≡ None → o ≡ None
mapped_none f None none = refl
mapped_none f (Some k) none = absurd (cc)

neither : (o p : Option WitnessPlace) → option_or o p ≡ None → (o ≡ None) × (p ≡ None)
neither None p none = (refl, none)
neither (Some x) p none = absurd (cc)

module _ (x : Claim) where
  abbrev b : Bounds
  b = bounds_in x

  abbrev w : Witness
  w = x.witness

  -- the tests of the four kinds of lines
  abbrev latches_refused : Option ℕ
  latches_refused = first_refused (λ _ l. is_of_frame b l) 0 w.latches

  abbrev gates_refused : Option ℕ
  gates_refused = first_refused (are_before b) 0 w.gates

  abbrev parts_refused : Option ℕ
  parts_refused = first_refused (λ _ p. is_part_of_frame b p) 0 w.parts

  gate_is : (k : ℕ) → b.first_gate + 2 * k ≡ gate_literal x k
  gate_is k = omega arith

  before : (k : ℕ) (operands : Operands) → are_before b k operands ≡ true → AreBefore x k operands
  before k operands e =
      let parts = and_parts (nat_lt operands.left (b.first_gate + 2 * k)) (nat_lt operands.right (b.first_gate + 2 * k)) e in
      record {
        left = subst (λ n. operands.left < n) (gate_is k) (ltb-true operands.left (b.first_gate + 2 * k) parts.0);
        right = subst (λ n. operands.right < n) (gate_is k) (ltb-true operands.right (b.first_gate + 2 * k) parts.1);
      }

  is_before : (k : ℕ) (operands : Operands) → AreBefore x k operands → are_before b k operands ≡ true
  is_before k operands are =
      both (nat_lt operands.left (b.first_gate + 2 * k)) (nat_lt operands.right (b.first_gate + 2 * k))
      (lt-ltb operands.left (b.first_gate + 2 * k) (subst (λ n. operands.left < n) (sym (gate_is k)) are.left))
      (lt-ltb operands.right (b.first_gate + 2 * k) (subst (λ n. operands.right < n) (sym (gate_is k)) are.right))

  part_for : (p : Part) → HasFewBits p → is_part_of_frame b p ≡ true → IsPartFor x p
  part_for p few e =
      let one = and_parts (is_of_frame b p.start) (is_of_frame b p.inv && (list_all (is_of_frame b) p.rank && list_all (is_of_frame b) p.index)) e in
      let two = and_parts (is_of_frame b p.inv) (list_all (is_of_frame b) p.rank && list_all (is_of_frame b) p.index) one.1 in
      let three = and_parts (list_all (is_of_frame b) p.rank) (list_all (is_of_frame b) p.index) two.1 in
      record {
        start = within b p.start one.0;
        inv = within b p.inv two.0;
        rank = all_within b p.rank three.0;
        index = all_within b p.index three.1;
        rank_bits = few.rank;
        index_bits = few.index;
      }

  is_of : (p : Part) → IsPartFor x p → is_part_of_frame b p ≡ true
  is_of p part =
      both (is_of_frame b p.start) (is_of_frame b p.inv && (list_all (is_of_frame b) p.rank && list_all (is_of_frame b) p.index)) (is_within b p.start part.start)
      (both (is_of_frame b p.inv) (list_all (is_of_frame b) p.rank && list_all (is_of_frame b) p.index) (is_within b p.inv part.inv)
      (both (list_all (is_of_frame b) p.rank) (list_all (is_of_frame b) p.index) (are_all_within b p.rank part.rank) (are_all_within b p.index part.index)))

  is_witness : HasFewBitsInParts w → latches_refused ≡ None → gates_refused ≡ None → always_refused b (Some w.always) ≡ None → parts_refused ≡ None → IsWitnessFor x
  is_witness few latches gates always parts = record {
    latches = all_pass (is_of_frame b) (λ l. l ≤ b.top) (within b) w.latches latches;
    gates = λ k operands at. before k operands (let e : 0 + k ≡ k = omega arith in subst (λ m. are_before b m operands ≡ true) e (each_passes (are_before b) 0 w.gates gates k operands at));
    always = always_kept b w.always (is_of_frame b w.always) refl always;
    parts = λ k d h. part_for (get_or w.parts k d) (few.bits k d h)
        (each_passes (λ _ p. is_part_of_frame b p) 0 w.parts parts k (get_or w.parts k d) (slice_get-get_or w.parts k d h));
    some_part = few.some_part;
  }

  pub fits : HasFewBitsInParts w → first_outside b (lines_of w) ≡ None → IsWitnessFor x
  fits few none =
      let one = neither (option_map Latch latches_refused) (option_or (option_map Gate gates_refused) (option_or (always_refused b (Some w.always)) (option_map APart parts_refused))) none in
      let two = neither (option_map Gate gates_refused) (option_or (always_refused b (Some w.always)) (option_map APart parts_refused)) one.1 in
      let three = neither (always_refused b (Some w.always)) (option_map APart parts_refused) two.1 in
      is_witness few (mapped_none Latch latches_refused one.0) (mapped_none Gate gates_refused two.0) three.0 (mapped_none APart parts_refused three.1)

  pub none_outside : IsWitnessFor x → first_outside b (lines_of w) ≡ None
  none_outside is =
      let latches : latches_refused ≡ None = none_of_all (is_of_frame b) (λ l. l ≤ b.top) (is_within b) w.latches is.latches in
      let gates : gates_refused ≡ None = none_refused (are_before b) 0 w.gates (λ k operands at. let e : k ≡ 0 + k = omega arith in subst (λ m. are_before b m operands ≡ true) e (is_before k operands (is.gates k operands at))) in
      let always : always_refused b (Some w.always) ≡ None = cond-true (is_of_frame b w.always) None (Some Always) (is_within b w.always is.always) in
      let parts : parts_refused ≡ None = none_of_all (is_part_of_frame b) (IsPartFor x) is_of w.parts is.parts in
      λ i. option_or (option_map Latch (latches i)) (option_or (option_map Gate (gates i)) (option_or (always i) (option_map APart (parts i))))

  pub few_bits : IsWitnessFor x → HasFewBitsInParts w
  few_bits is = record {
    some_part = is.some_part;
    bits = λ k d h. let p : IsPartFor x (get_or w.parts k d) = is.parts k d h in record { rank = p.rank_bits; index = p.index_bits };
  }

pub are_bounded : WitnessesAreBounded
are_bounded = record {
  bounded = λ x few. (λ none. fits x few none, λ is. none_outside x is);
  few_bits = λ x is. few_bits x is;
}
