-- The rows that an assignment stands for, as a table, where each has a move.
use Rattle.std.proofs.Common.{◌≡◌, ℕ, zero, suc, ◌+◌, ◌-◌, ◌<◌, inl, inr, Bool, true, false, List, map, cond, refl, sym, ap, ◌∙◌, subst, arith}
use Rattle.std.specs.List.{range_with_len}
use Rattle.std.proofs.lemmas.Bool.{cases_eq}
use Rattle.std.proofs.lemmas.List.FromFn.{get_or-map-range_with_len, length-map-range_with_len}
use Rattle.propositional_logic.specs.Truth.{value_of}
use Rattle.machine_model.specs.declared.machines.Row.{Row}
use Rattle.machine_model.specs.declared.problems.Problem.{Problem}
use Rattle.machine_model.proofs.Tables.{no_row}
use Rattle.annotation_encode.specs.BaseClauses.{row_count, row_move}
use Rattle.machine_decode.specs.Written.{AreRows, HasMove, HasMoves, IsRow, written_of}

-- the least of the first n numbers whose variable, counted from a first one, is true, and n where none is
abbrev pub least_from : List Bool → ℕ → ℕ → ℕ
least_from values first zero = 0
least_from values first (suc n) = cond (value_of values first) 0 (suc (least_from values (first + 1) n))

record IsLeast (values : List Bool) (first n to : ℕ) : Type 0 where
  within : to < n
  here : value_of values (first + to) ≡ true
  least : (s : ℕ) → s < to → value_of values (first + s) ≡ false

least_is : (values : List Bool) (n first to : ℕ) → to < n → value_of values (first + to) ≡ true → IsLeast values first n (least_from values first n)
least_is values zero first to h e = absurd (omega arith)
least_is values (suc n) first to h e = by_first (value_of values first) refl (λ k hk ek. least_is values n (first + 1) k hk ek)
  where
    first_is : value_of values (first + 0) ≡ value_of values first
    first_is = let z : first + 0 ≡ first = omega arith in ap (value_of values) z

    later : value_of values first ≡ false → (k : ℕ) → IsLeast values (first + 1) n k → IsLeast values first (suc n) (suc k)
    later none k behind = record {
      within = (let l : k < n = behind.within in omega (arith, l));
      here = (let z : first + suc k ≡ first + 1 + k = omega arith in ap (value_of values) z) ∙ behind.here;
      least = before;
    }
      where
        before : (s : ℕ) → s < suc k → value_of values (first + s) ≡ false
        before zero less = first_is ∙ none
        before (suc s) less = (let z : first + suc s ≡ first + 1 + s = omega arith in ap (value_of values) z) ∙ behind.least s (omega (arith, less))

    by_first : (b : Bool) → value_of values first ≡ b → ((k : ℕ) → k < n → value_of values (first + 1 + k) ≡ true → IsLeast values (first + 1) n (least_from values (first + 1) n))
        → IsLeast values first (suc n) (cond b 0 (suc (least_from values (first + 1) n)))
    by_first true is behind = record { within = omega arith; here = first_is ∙ is; least = λ s less. absurd (omega (arith, less)) }
    by_first false none behind = elim (cases_eq to 0) [
      | inl zero_is ↦ absurd (let x : true ≡ false = sym e ∙ ap (λ k. value_of values (first + k)) zero_is ∙ first_is ∙ none in cc)
      | inr some ↦
          let back : first + 1 + (to - 1) ≡ first + to = omega (arith, some) in
          later none (least_from values (first + 1) n) (behind (to - 1) (omega (arith, some, h)) (ap (value_of values) back ∙ e))
    ]

module _ (p : Problem) (values : List Bool) where
  abbrev row_at : ℕ → Row
  row_at place = record { next = least_from values (row_move p place 0) p.size; writes = written_of p values place }

  abbrev pub decoded_rows : List Row
  decoded_rows = map row_at (range_with_len 0 (row_count p))

  row_is : (place : ℕ) → HasMove p values place → IsRow p values place (row_at place)
  row_is place move =
      let at : (to : ℕ) → value_of values (row_move p place 0 + to) ≡ value_of values (row_move p place to)
      = λ to. let e : row_move p place 0 + to ≡ row_move p place to = omega arith in ap (value_of values) e in
      let found : IsLeast values (row_move p place 0) p.size (least_from values (row_move p place 0) p.size)
      = least_is values p.size (row_move p place 0) move.to move.within (at move.to ∙ move.moves) in
      record {
        next = record {
          within = found.within;
          moves = sym (at (least_from values (row_move p place 0) p.size)) ∙ found.here;
          least = λ s less. sym (at s) ∙ found.least s less;
        };
        writes = refl;
      }

  pub are_rows : HasMoves p values → AreRows p values (row_count p) decoded_rows
  are_rows moves = record {
    places = length-map-range_with_len row_at 0 (row_count p);
    each = λ place h. subst (IsRow p values place) (sym (get_or-map-range_with_len row_at 0 (row_count p) place place no_row h (omega arith))) (row_is place (moves.each place h));
  }
