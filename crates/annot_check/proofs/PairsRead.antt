-- The states of pairs that were read.
use Rattle.std.proofs.Common.{◌≡◌, ℕ, ◌+◌, ◌<◌, Bool, true, false, List, [], ◌∷◌, ◌++◌, length, Option, Some, None, refl, subst, arith, nat_lt}
use Rattle.std.specs.Prelude.{All, Result, Ok, Err, codes, if◌then◌else◌}
use Rattle.std.specs.Option.{option_and_then, option_map_or}
use Rattle.std.specs.Str.{bytes_eq}
use Rattle.std.proofs.lemmas.Bool.{ltb-true}
use Rattle.std.proofs.lemmas.List.Elements.{All-push}
use Rattle.std.proofs.lemmas.Option.{option_and_then_some}
use Rattle.aiger_text.specs.Words.{cut_at}
use Rattle.annot_check.specs.declared.pairs.Pair.{Pair}
use Rattle.annot_check.specs.AnnotationText.{code_of, is_code, is_taken, number_in, pair_in, pair_of, pairs_in, state_in}

-- the pair's state is one of so many
abbrev pub HasStateBelow : ℕ → Pair → Type 0
HasStateBelow states pair = pair.state < states

module _ (latches states : ℕ) (pair : Pair) where
  below_by : (word : ℕ) (b : Bool) (q : ℕ) → nat_lt word states ≡ b → (if b then Some word else None) ≡ Some q → q < states
  below_by word true q e is = subst (λ n. n < states) (let same : word ≡ q = cc in same) (ltb-true word states e)
  below_by word false q e is = absurd (cc)

  state_below : (word : List ℕ) (q : ℕ) → state_in states word ≡ Some q → q < states
  state_below word q is =
      option_and_then_some (λ (state : ℕ). if nat_lt state states then Some state else None) (number_in word) q is
      (λ n _ last. below_by n (nat_lt n states) q refl last)

  coded_by : (code : List ℕ) (q c : ℕ) (b : Bool) → q < states → (if b then Some (record { code = code_of latches code; state = q; number = c }) else None) ≡ Some pair
      → HasStateBelow states pair
  coded_by code q c true h is =
      subst (HasStateBelow states) (let same : record { code = code_of latches code; state = q; number = c } ≡ pair = cc in same) h
  coded_by code q c false h is = absurd (cc)

  of_below : (code state number : List ℕ) → pair_of latches states code state number ≡ Some pair → HasStateBelow states pair
  of_below code state number is =
      option_and_then_some (λ (q : ℕ). option_and_then (λ (c : ℕ). if is_code latches code
      then Some (record { code = code_of latches code; state = q; number = c }) else None) (number_in number)) (state_in states state) pair is (λ q at inner.
      option_and_then_some (λ (c : ℕ). if is_code latches code then Some (record { code = code_of latches code; state = q; number = c }) else None)
      (number_in number) pair inner (λ c _ last. coded_by code q c (is_code latches code) (state_below state q at) last))

  pub in_below : (line : List ℕ) → pair_in latches states line ≡ Some pair → HasStateBelow states pair
  in_below line is =
      option_and_then_some (λ (first : List ℕ × List ℕ). option_and_then (λ (second : List ℕ × List ℕ).
      pair_of latches states first.0 second.0 second.1) (cut_at 32 first.1)) (cut_at 32 line) pair is (λ first _ inner.
      option_and_then_some (λ (second : List ℕ × List ℕ). pair_of latches states first.0 second.0 second.1) (cut_at 32 first.1) pair inner
      (λ second _ last. of_below first.0 second.0 second.1 last))

module _ (latches states count : ℕ) (pairs : List Pair) where
  taken_by : (done : List Pair) (pair : Pair) (n : ℕ) (b : Bool) (more : List Pair → Result (List Pair) ℕ)
      → (more (done ++ pair ∷ []) ≡ Ok pairs → All (HasStateBelow states) pairs) → (if b then Err n else more (done ++ pair ∷ [])) ≡ Ok pairs
      → All (HasStateBelow states) pairs
  taken_by done pair n true more rest is = absurd (cc)
  taken_by done pair n false more rest is = rest is

  ended_by : (done : List Pair) (n : ℕ) (b : Bool) → All (HasStateBelow states) done → (if b then Ok done else Err n) ≡ Ok pairs → All (HasStateBelow states) pairs
  ended_by done n true all is = subst (All (HasStateBelow states)) (let same : done ≡ pairs = cc in same) all
  ended_by done n false all is = absurd (cc)

  line_by : (done : List Pair) (line : List ℕ) (n : ℕ) (b : Bool) (o : Option Pair) → pair_in latches states line ≡ o → All (HasStateBelow states) done
      → (more : List Pair → Result (List Pair) ℕ) → ((after : List Pair) → All (HasStateBelow states) after → more after ≡ Ok pairs → All (HasStateBelow states) pairs)
      → (if b then option_map_or (λ pair. if is_taken pair done then Err n else more (done ++ pair ∷ [])) o (Err n)
      else (if bytes_eq line (codes "end") then Ok done else Err n)) ≡ Ok pairs → All (HasStateBelow states) pairs
  line_by done line n true None at all more rest is = absurd (cc)
  line_by done line n true (Some pair) at all more rest is =
      taken_by done pair n (is_taken pair done) more
      (rest (done ++ pair ∷ []) (All-push (HasStateBelow states) done pair all (in_below latches states pair line at))) is
  line_by done line n false o at all more rest is = ended_by done n (bytes_eq line (codes "end")) all is

  pub pairs_below : (parts : List (List ℕ)) (done : List Pair) (n : ℕ) → All (HasStateBelow states) done → pairs_in latches states count done parts n ≡ Ok pairs
      → All (HasStateBelow states) pairs
  pairs_below [] done n all is = absurd (cc)
  pairs_below (last ∷ []) done n all is = absurd (cc)
  pairs_below (line ∷ next ∷ more) done n all is =
      line_by done line n (nat_lt (length done) count) (pair_in latches states line) refl all
      (λ after. pairs_in latches states count after (next ∷ more) (n + 1)) (λ after below inner. pairs_below (next ∷ more) after (n + 1) below inner) is
