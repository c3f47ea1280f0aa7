-- Lines of latches and gates that were written, read back.
use Rattle.std.proofs.Common.{◌≡◌, ◌≢◌, ℕ, ◌+◌, ◌*◌, ◌%◌, ◌^◌, ◌<◌, ◌≤◌, Bool, true, false, not, ◌&&◌, cond, eqb, Option, Some, None, List, [], ◌∷◌, ◌++◌, refl, sym, ap, ◌∙◌, arith, inl, inr, decimal}
use Rattle.std.specs.Prelude.{option_and_then, option_map, nat_le, Ok, Err}
use Rattle.std.proofs.lemmas.Bool.{eq-eqb, le-leb, ne_eqb}
use Rattle.text_limits.specs.declared.TheConstants.{CIRCUIT_VARIABLES}
use Rattle.aiger_text.specs.declared.circuits.Latch.{Latch}
use Rattle.aiger_text.specs.declared.circuits.Gate.{Gate}
use Rattle.aiger_text.specs.declared.counts.Counts.{Counts}
use Rattle.aiger_text.specs.declared.faults.CircuitFault.TheVariants.{BadLine, Unsupported}
use Rattle.aiger_text.specs.Words.{cut_at}
use Rattle.aiger_text.specs.CircuitText.{numbers_line, latch_line, gate_line, IsLatchLine}
use Rattle.aiger_text.specs.CircuitFile.{literal_in, definable_in, latch_in, latch_of, latch_of_rest, latch_of_words, gate_in}
use Rattle.aiger_text.specs.Sound.{InRange, IsOwn, IsOwnLatch, IsOwnGate}
use Rattle.aiger_text.proofs.Numbers.{number_within-decimal, decimal-lacks, cut_at-seam, cut_at-none}

module _ (counts : Counts) (size : counts.variables ≤ CIRCUIT_VARIABLES) where
  small : (l : ℕ) → InRange counts l → l < 2 ^ 64
  small l range = omega (arith, range, size)

  pub literal_in-decimal : (l : ℕ) → InRange counts l → literal_in counts (decimal l) ≡ Some l
  literal_in-decimal l range = number_within-decimal l (small l range) (2 * counts.variables + 1) range

  pub definable_in-decimal : (l : ℕ) → IsOwn counts l → definable_in counts (decimal l) ≡ Some l
  definable_in-decimal l own =
      let some : l ≢ 0 = own.some in
      ap (option_and_then (λ literal. cond (eqb (literal % 2) 0 && not (eqb literal 0)) (Some literal) None)) (literal_in-decimal l own.within)
      ∙ ap (λ b. cond (b && not (eqb l 0)) (Some l) None) (eq-eqb (l % 2) 0 own.even)
      ∙ ap (λ b. cond (not b) (Some l) None) (ne_eqb l 0 some)

  cut : (l : ℕ) (rest : List ℕ) → InRange counts l → cut_at 32 (decimal l ++ 32 ∷ rest) ≡ Some (decimal l, rest)
  cut l rest range = cut_at-seam 32 (decimal l) rest (decimal-lacks 32 l refl (small l range))

  no_cut : (l : ℕ) → InRange counts l → cut_at 32 (decimal l) ≡ None
  no_cut l range = cut_at-none 32 (decimal l) (decimal-lacks 32 l refl (small l range))

  abbrev gate_by : Option ℕ → Option ℕ → Option ℕ → Option Gate
  gate_by first left right =
      option_and_then (λ (l : ℕ). option_and_then (λ (a : ℕ). option_map (λ (b : ℕ). record { literal = l; left = a; right = b }) right) left) first

  pub gate_in-line : (g : Gate) → IsOwnGate counts g → gate_in counts (gate_line g) ≡ Some g
  gate_in-line g own =
      let first : cut_at 32 (gate_line g) ≡ Some (decimal g.literal, decimal g.left ++ 32 ∷ decimal g.right) = cut g.literal (decimal g.left ++ 32 ∷ decimal g.right) own.own.within in
      let second : cut_at 32 (decimal g.left ++ 32 ∷ decimal g.right) ≡ Some (decimal g.left, decimal g.right) = cut g.left (decimal g.right) own.left in
      ap (option_and_then (λ (words : List ℕ × List ℕ). option_and_then (λ (others : List ℕ × List ℕ). gate_by (definable_in counts words.0) (literal_in counts others.0) (literal_in counts others.1))
      (cut_at 32 words.1))) first
      ∙ ap (option_and_then (λ (others : List ℕ × List ℕ). gate_by (definable_in counts (decimal g.literal)) (literal_in counts others.0) (literal_in counts others.1))) second
      ∙ ap (λ o. gate_by o (literal_in counts (decimal g.left)) (literal_in counts (decimal g.right))) (definable_in-decimal g.literal own.own)
      ∙ ap (λ o. gate_by (Some g.literal) o (literal_in counts (decimal g.right))) (literal_in-decimal g.left own.left)
      ∙ ap (gate_by (Some g.literal) (Some g.left)) (literal_in-decimal g.right own.right)

  latch_by : (n : ℕ) (latch : Latch) (reset : ℕ) → IsOwnLatch counts latch → reset ≤ 1 → eqb reset 1 ≡ latch.reset → latch_of n (Some latch.literal) (Some latch.next) (Some reset) ≡ Ok latch
  latch_by n latch reset own bit is =
      let some : latch.literal ≢ 0 = own.own.some in
      let even : latch.literal % 2 ≡ 0 = own.own.even in
      let other : reset ≢ latch.literal = λ e. absurd (omega (arith, some, even, bit, e)) in
      ap (λ b. cond b (Err (Unsupported n)) (cond (nat_le reset 1) (Ok (record { literal = latch.literal; next = latch.next; reset = eqb reset 1 })) (Err (BadLine n)))) (ne_eqb reset latch.literal other)
      ∙ ap (λ b. cond b (Ok (record { literal = latch.literal; next = latch.next; reset = eqb reset 1 })) (Err (BadLine n))) (le-leb reset 1 bit)
      ∙ ap (λ b. Ok (record { literal = latch.literal; next = latch.next; reset = b })) is

  two_words : (n : ℕ) (latch : Latch) → IsOwnLatch counts latch → latch.reset ≡ false → latch_in counts n (numbers_line (latch.literal ∷ latch.next ∷ [])) ≡ Ok latch
  two_words n latch own off =
      ap (latch_of_words counts n) (cut latch.literal (decimal latch.next) own.own.within)
      ∙ ap (latch_of_rest counts n (decimal latch.literal) (decimal latch.next)) (no_cut latch.next own.next)
      ∙ ap (λ o. latch_of n o (literal_in counts (decimal latch.next)) (Some 0)) (definable_in-decimal latch.literal own.own)
      ∙ ap (λ o. latch_of n (Some latch.literal) o (Some 0)) (literal_in-decimal latch.next own.next)
      ∙ latch_by n latch 0 own (omega arith) (sym off)

  three_words : (n : ℕ) (latch : Latch) (reset : ℕ) → IsOwnLatch counts latch → reset ≤ 1 → eqb reset 1 ≡ latch.reset
      → latch_in counts n (numbers_line (latch.literal ∷ latch.next ∷ reset ∷ [])) ≡ Ok latch
  three_words n latch reset own bit is =
      let range : reset ≤ 2 * counts.variables + 1 = omega (arith, bit) in
      ap (latch_of_words counts n) (cut latch.literal (decimal latch.next ++ 32 ∷ decimal reset) own.own.within)
      ∙ ap (latch_of_rest counts n (decimal latch.literal) (decimal latch.next ++ 32 ∷ decimal reset)) (cut latch.next (decimal reset) own.next)
      ∙ ap (λ o. latch_of n o (literal_in counts (decimal latch.next)) (literal_in counts (decimal reset))) (definable_in-decimal latch.literal own.own)
      ∙ ap (λ o. latch_of n (Some latch.literal) o (literal_in counts (decimal reset))) (literal_in-decimal latch.next own.next)
      ∙ ap (latch_of n (Some latch.literal) (Some latch.next)) (literal_in-decimal reset range)
      ∙ latch_by n latch reset own bit is

  pub latch_in-line : (n : ℕ) (latch : Latch) (line : List ℕ) → IsOwnLatch counts latch → IsLatchLine latch line → latch_in counts n line ≡ Ok latch
  latch_in-line n latch line own (inl short) = ap (latch_in counts n) short.0 ∙ two_words n latch own short.1
  latch_in-line n latch line own (inr long) = ap (latch_in counts n) long ∙ by latch.reset refl
    where
      by : (b : Bool) → latch.reset ≡ b → latch_in counts n (numbers_line (latch.literal ∷ latch.next ∷ cond latch.reset 1 0 ∷ [])) ≡ Ok latch
      by true e =
          ap (λ b. latch_in counts n (numbers_line (latch.literal ∷ latch.next ∷ cond b 1 0 ∷ []))) e ∙ three_words n latch 1 own (omega arith) (sym e)
      by false e =
          ap (λ b. latch_in counts n (numbers_line (latch.literal ∷ latch.next ∷ cond b 1 0 ∷ []))) e ∙ three_words n latch 0 own (omega arith) (sym e)

-- the line that is written of a latch is one of its lines
pub is_latch_line : (latch : Latch) → IsLatchLine latch (latch_line latch)
is_latch_line latch = by latch.reset refl
  where
    by : (b : Bool) → latch.reset ≡ b → IsLatchLine latch (latch_line latch)
    by true e = inr (
        ap (λ b. numbers_line (cond b (latch.literal ∷ latch.next ∷ 1 ∷ []) (latch.literal ∷ latch.next ∷ []))) e
        ∙ ap (λ b. numbers_line (latch.literal ∷ latch.next ∷ cond b 1 0 ∷ [])) (sym e)
        )
    by false e = inl (ap (λ b. numbers_line (cond b (latch.literal ∷ latch.next ∷ 1 ∷ []) (latch.literal ∷ latch.next ∷ []))) e, e)
