-- A letter has the signals that its line names.
use Rattle.std.proofs.Common.{◌≡◌, ◌==◌, ◌||◌, ℕ, ◌<◌, ◌^◌, Bool, true, false, List, [], ◌∷◌, Option, Some, None, max, codes, arith, refl, sym, ap, ◌∙◌, position, bit_or}
use Rattle.std.specs.Prelude.{option_and_then, if◌then◌else◌}
use Rattle.std.specs.Int.{bit_at}
use Rattle.std.specs.List.{list_any}
use Rattle.std.specs.Option.{option_map_or}
use Rattle.std.specs.Str.{bytes_eq}
use Rattle.std.proofs.lemmas.Bool.{eqb-true, eqb-false}
use Rattle.std.proofs.lemmas.Nat.Bits.{bit_at_or, bit_at-lt, bit_at-pow_other, bit_at-pow_same}
use mathlib.Core.Bool.{or-true, or-false, or_assoc}
use Rattle.letters_and_lassos.specs.declared.letters.Letter.{Letter}
use Rattle.letters_and_lassos.specs.Signals.{has}
use Rattle.letters_and_lassos.specs.Word.{no_signals}
use Rattle.letters_and_lassos.proofs.Bits.{has-none}
use Rattle.lasso_word.specs.Lines.{parts_at}
use Rattle.lasso_word.specs.WordText.{with_all_named, with_signal}
use Rattle.lasso_word.specs.Stated.{LettersHaveTheirNames, names_signal}

-- one signal more
has_more : (a s k : ℕ) → has (bit_or a (2 ^ s)) k ≡ (has a k || (s == k))
has_more a s k = by (s == k) refl
  where
    by : (b : Bool) → (s == k) ≡ b → has (bit_or a (2 ^ s)) k ≡ (has a k || b)
    by true same =
        let there : s ≡ k = eqb-true s k same in
        let one : bit_at (2 ^ s) k ≡ 1 = ap (bit_at (2 ^ s)) (sym there) ∙ bit_at-pow_same s in
        let small : bit_at a k < 2 = bit_at-lt a k in
        let most : max (bit_at a k) (bit_at (2 ^ s) k) ≡ 1 = rw one (omega (arith, small)) in
        ap (λ n. n == 1) (bit_at_or a (2 ^ s) k ∙ most) ∙ sym (or-true (has a k))
    by false other =
        let none : bit_at (2 ^ s) k ≡ 0 = bit_at-pow_other s k (λ e. eqb-false s k other (sym e)) in
        let same : max (bit_at a k) (bit_at (2 ^ s) k) ≡ bit_at a k = rw none (omega arith) in
        ap (λ n. n == 1) (bit_at_or a (2 ^ s) k ∙ same) ∙ sym (or-false (has a k))

module _ (names : List (List ℕ)) (k : ℕ) where
  named : (parts : List (List ℕ)) (start letter : Letter) → with_all_named names parts start ≡ Some letter → has letter.0 k ≡ (has start.0 k || list_any (names_signal names k) parts)
  named [] start letter e = let same : start ≡ letter = cc in ap (λ (l : Letter). has l.0 k) (sym same) ∙ sym (or-false (has start.0 k))
  named (part ∷ more) start letter e = by (position (bytes_eq part) names) e (λ s. named more (with_signal start s) letter)
    where
      by : (o : Option ℕ) → option_and_then (with_all_named names more) (option_and_then (λ s. if has start.0 s then None else Some (with_signal start s)) o) ≡ Some letter
          → ((s : ℕ) → with_all_named names more (with_signal start s) ≡ Some letter → has letter.0 k ≡ (has (with_signal start s).0 k || list_any (names_signal names k) more))
          → has letter.0 k ≡ (has start.0 k || (option_map_or (λ place. place == k) o false || list_any (names_signal names k) more))
      by None none later = cc
      by (Some s) some later = twice (has start.0 s) some
        where
          twice : (b : Bool) → option_and_then (with_all_named names more) (if b then None else Some (with_signal start s)) ≡ Some letter
              → has letter.0 k ≡ (has start.0 k || ((s == k) || list_any (names_signal names k) more))
          twice true none = cc
          twice false is = later s is ∙ ap (λ b. b || list_any (names_signal names k) more) (has_more start.0 s k) ∙ or_assoc (has start.0 k) (s == k) (list_any (names_signal names k) more)

pub letters_have_their_names : LettersHaveTheirNames
letters_have_their_names names line letter k e = by (bytes_eq line (codes "-")) e
  where
    by : (b : Bool) → (if b then Some no_signals else with_all_named names (parts_at 32 line) no_signals) ≡ Some letter
        → has letter.0 k ≡ (if b then false else list_any (names_signal names k) (parts_at 32 line))
    by true is = let same : no_signals ≡ letter = cc in ap (λ (l : Letter). has l.0 k) (sym same) ∙ has-none k
    by false is = named names k (parts_at 32 line) no_signals letter is ∙ ap (λ b. b || list_any (names_signal names k) (parts_at 32 line)) (has-none k)
