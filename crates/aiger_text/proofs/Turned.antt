-- A circuit's run lassos as one side are those as the other, with the two parts of each letter in turn.
use Rattle.std.proofs.Common.{◌≡◌, ℕ, ◌+◌, ◌-◌, ◌*◌, ◌/◌, ◌%◌, ◌^◌, ◌<◌, Bool, List, ◌++◌, length, get_or, refl, sym, ap, ◌∙◌, subst, arith, eqb, cond}
use Rattle.std.specs.Prelude.{map}
use Rattle.std.proofs.Math.Nat.{div-lt_iff_lt-mul, mod-lt}
use Rattle.std.proofs.lemmas.List.{get_or-map, length-append, length-map, map-append}
use Rattle.std.proofs.lemmas.List.Elements.{All-map}
use Rattle.std.proofs.lemmas.Nat.{mul-add-lt, pow-add, pow_pos}
use Rattle.std.proofs.lemmas.Nat.Bits.{bit_at_cat_high, bit_at_cat_low}
use Rattle.letters_and_lassos.specs.declared.kinds.Side.{Side}
use Rattle.letters_and_lassos.specs.declared.kinds.Side.TheVariants.{Environment, System}
use Rattle.letters_and_lassos.specs.declared.letters.Letter.{Letter}
use Rattle.letters_and_lassos.specs.Signals.{has}
use Rattle.letters_and_lassos.specs.Word.{IsLassoOver, Word, lasso_len, letter_at, next, no_signals}
use Rattle.letters_and_lassos.proofs.Positions.{letter_below}
use Rattle.aiger_text.specs.Circuit.{Circuit, HasStatesFor, IsCircuitRun, Occurs, OccursFor, Valuation}
use Rattle.aiger_text.specs.Laws.{EitherSideHasTheStates}
use Rattle.aiger_text.proofs.Bits.{has-div, has-mod}

-- the low `a` bits of a number of a + b bits above the others
abbrev turn : ℕ → ℕ → ℕ → ℕ
turn a b x = x % 2 ^ a * 2 ^ b + x / 2 ^ a

module _ (a b x : ℕ) (small : x < 2 ^ (a + b)) where
  high_small : x / 2 ^ a < 2 ^ b
  high_small =
      let e : 2 ^ (a + b) ≡ 2 ^ a * 2 ^ b = pow-add 2 a b in
      let below : x < 2 ^ b * 2 ^ a = omega (arith, e) in
      (div-lt_iff_lt-mul (pow_pos a)).1 below

  turn_small : turn a b x < 2 ^ (b + a)
  turn_small =
      let h : x % 2 ^ a * 2 ^ b + x / 2 ^ a < 2 ^ b * 2 ^ a = mul-add-lt (x % 2 ^ a) (2 ^ b) (x / 2 ^ a) (2 ^ a) (mod-lt x (pow_pos a)) high_small in
      let e : 2 ^ (b + a) ≡ 2 ^ b * 2 ^ a = pow-add 2 b a in
      rw e h

  turn_low : (k : ℕ) → k < b → has (turn a b x) k ≡ has x (a + k)
  turn_low k h = ap (λ n. eqb n 1) (bit_at_cat_low (x % 2 ^ a) b (x / 2 ^ a) k h) ∙ has-div x a k

  turn_high : (k : ℕ) → k < a → has (turn a b x) (b + k) ≡ has x k
  turn_high k h =
      let back : b + k - b ≡ k = omega arith in
      ap (λ n. eqb n 1) (bit_at_cat_high (x % 2 ^ a) b (x / 2 ^ a) (b + k) high_small (omega arith)) ∙ ap (has (x % 2 ^ a)) back ∙ has-mod x a k h

abbrev turned_letter : ℕ → ℕ → Letter → Letter
turned_letter a b letter = record { 0 = turn a b letter.0 }

abbrev turned : ℕ → ℕ → Word → Word
turned a b w = record { stem = map (turned_letter a b) w.stem; ring = map (turned_letter a b) w.ring }

module _ (a b : ℕ) (w : Word) where
  len-turned : lasso_len (turned a b w) ≡ lasso_len w
  len-turned =
      let s : length (map (turned_letter a b) w.stem) ≡ length w.stem = length-map w.stem (turned_letter a b) in
      let r : length (map (turned_letter a b) w.ring) ≡ length w.ring = length-map w.ring (turned_letter a b) in
      omega (arith, s, r)

  next-turned : (i : ℕ) → next (turned a b w) i ≡ next w i
  next-turned i =
      ap (λ n. cond (eqb (i + 1) n) (length (map (turned_letter a b) w.stem)) (i + 1)) len-turned
      ∙ ap (λ n. cond (eqb (i + 1) (lasso_len w)) n (i + 1)) (length-map w.stem (turned_letter a b))

  letter_at-turned : (i : ℕ) → i < lasso_len w → letter_at (turned a b w) i ≡ turned_letter a b (letter_at w i)
  letter_at-turned i h =
      let within : i < length (w.stem ++ w.ring) = rw length-append h in
      ap (λ (xs : List Letter). get_or xs i no_signals) (sym (map-append (turned_letter a b) w.stem w.ring))
      ∙ get_or-map (turned_letter a b) (w.stem ++ w.ring) i no_signals no_signals within

  over-turned : (n : ℕ) → n ≡ b + a → IsLassoOver (a + b) w → IsLassoOver n (turned a b w)
  over-turned n is over = subst (λ n. IsLassoOver n (turned a b w)) (sym is) (record {
    ring = rw length-map over.ring;
    stem_letters = All-map (λ letter. letter.0 < 2 ^ (b + a)) (turned_letter a b) w.stem (λ k d h. turn_small a b (get_or w.stem k d).0 (over.stem_letters k d h));
    ring_letters = All-map (λ letter. letter.0 < 2 ^ (b + a)) (turned_letter a b) w.ring (λ k d h. turn_small a b (get_or w.ring k d).0 (over.ring_letters k d h));
  })

module _ (c : Circuit) (w : Word) (values : ℕ → Valuation) where
  abbrev ins : ℕ
  ins = length c.inputs

  abbrev outs : ℕ
  outs = length c.outputs

  -- the letters of a run have signals of the circuit alone
  small_at : (n : ℕ) → n ≡ ins + outs → IsLassoOver (ins + outs) w → (i : ℕ) → (letter_at w i).0 < 2 ^ n
  small_at n is over i = rw is (letter_below (ins + outs) w i over)

  from_zero : (x k : ℕ) → has x (0 + k) ≡ has x k
  from_zero x k = let e : 0 + k ≡ k = omega arith in ap (has x) e

  to_environment : IsCircuitRun System c w values → IsCircuitRun Environment c (turned ins outs w) values
  to_environment run = record {
    lasso = over-turned ins outs w (ins + outs) (omega arith) run.lasso;
    resets = run.resets;
    steps = λ i h. rw next-turned (run.steps i (rw len-turned at h));
    gates = λ i h. run.gates i (rw len-turned at h);
    reads = λ i h k within.
        let inside : i < lasso_len w = rw len-turned at h in
        let letter : letter_at (turned ins outs w) i ≡ turned_letter ins outs (letter_at w i) = letter_at-turned ins outs w i inside in
        run.reads i inside k within ∙ from_zero (letter_at w i).0 k
        ∙ sym (ap (λ (l : Letter). has l.0 (outs + k)) letter ∙ turn_high ins outs (letter_at w i).0 (small_at (ins + outs) refl run.lasso i) k within);
    writes = λ i h k within.
        let inside : i < lasso_len w = rw len-turned at h in
        let letter : letter_at (turned ins outs w) i ≡ turned_letter ins outs (letter_at w i) = letter_at-turned ins outs w i inside in
        run.writes i inside k within
        ∙ sym (from_zero (letter_at (turned ins outs w) i).0 k ∙ ap (λ (l : Letter). has l.0 k) letter ∙ turn_low ins outs (letter_at w i).0 (small_at (ins + outs) refl run.lasso i) k within);
  }

  to_system : IsCircuitRun Environment c w values → IsCircuitRun System c (turned outs ins w) values
  to_system run =
      let swapped : outs + ins ≡ ins + outs = omega arith in
      let over : IsLassoOver (outs + ins) w = subst (λ n. IsLassoOver n w) (sym swapped) run.lasso in
      record {
        lasso = over-turned outs ins w (ins + outs) refl over;
        resets = run.resets;
        steps = λ i h. rw next-turned (run.steps i (rw len-turned at h));
        gates = λ i h. run.gates i (rw len-turned at h);
        reads = λ i h k within.
            let inside : i < lasso_len w = rw len-turned at h in
            let letter : letter_at (turned outs ins w) i ≡ turned_letter outs ins (letter_at w i) = letter_at-turned outs ins w i inside in
            run.reads i inside k within
            ∙ sym (from_zero (letter_at (turned outs ins w) i).0 k ∙ ap (λ (l : Letter). has l.0 k) letter ∙ turn_low outs ins (letter_at w i).0 (small_at (outs + ins) swapped run.lasso i) k within);
        writes = λ i h k within.
            let inside : i < lasso_len w = rw len-turned at h in
            let letter : letter_at (turned outs ins w) i ≡ turned_letter outs ins (letter_at w i) = letter_at-turned outs ins w i inside in
            run.writes i inside k within ∙ from_zero (letter_at w i).0 k
            ∙ sym (ap (λ (l : Letter). has l.0 (ins + k)) letter ∙ turn_high outs ins (letter_at w i).0 (small_at (outs + ins) swapped run.lasso i) k within);
      }

-- the same values of the latches occur
occurs_for_system : (side : Side) (c : Circuit) (latches : List Bool) → OccursFor side c latches → Occurs c latches
occurs_for_system System c latches o = o
occurs_for_system Environment c latches o = record {
  word = turned (length c.outputs) (length c.inputs) o.word;
  values = o.values;
  run = to_system c o.word o.values o.run;
  at = o.at;
  within = rw len-turned o.within;
  latches_are = o.latches_are;
}

occurs_for : (side : Side) (c : Circuit) (latches : List Bool) → Occurs c latches → OccursFor side c latches
occurs_for System c latches o = o
occurs_for Environment c latches o = record {
  word = turned (length c.inputs) (length c.outputs) o.word;
  values = o.values;
  run = to_environment c o.word o.values o.run;
  at = o.at;
  within = rw len-turned o.within;
  latches_are = o.latches_are;
}

-- and so as many
same_number : (c : Circuit) (one other : Side) (n : ℕ) → ((latches : List Bool) → OccursFor one c latches → OccursFor other c latches)
    → ((latches : List Bool) → OccursFor other c latches → OccursFor one c latches) → HasStatesFor one c n → HasStatesFor other c n
same_number c one other n to back all = record {
  states = all.states;
  count = all.count;
  different = all.different;
  each_occurs = λ k d h. to (get_or all.states k d) (all.each_occurs k d h);
  all_there = λ latches o. all.all_there latches (back latches o);
}

pub either_side : EitherSideHasTheStates
either_side c = record {
  occurs = λ side latches. (occurs_for_system side c latches, occurs_for side c latches);
  number = λ side n. (same_number c side System n (occurs_for_system side c) (occurs_for side c), same_number c System side n (occurs_for side c) (occurs_for_system side c));
}
