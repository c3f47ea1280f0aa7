-- The variables lie where they should, and those of different meaning are different.
use Rattle.std.proofs.Common.{◌≡◌, ℕ, suc, ◌+◌, ◌*◌, ◌/◌, ◌%◌, ◌<◌, ◌≤◌, sym, ap, ◌∙◌, arith}
use Rattle.std.proofs.Math.Nat.{mul_comm, mul-le-mul_right}
use Rattle.std.proofs.lemmas.Nat.{div-mul-add, mod-mul-add, mul-add-lt}
use Rattle.letters_and_lassos.specs.declared.kinds.Kind.{Kind}
use Rattle.letters_and_lassos.specs.declared.kinds.Kind.TheVariants.{Mealy, Moore}
use Rattle.machine_model.specs.Automaton.{states_of}
use Rattle.machine_model.specs.Problem.{automaton_of, writes_of}
use Rattle.machine_model.specs.declared.problems.Problem.{Problem}
use Rattle.product_bound.specs.Annotation.{bound_at}
use Rattle.annotation_encode.specs.Laws.{NumberingsDontMeet}
use Rattle.annotation_encode.specs.Variables.{letter_count, move_count, numbers_before, row_place, state_numbers, var_count, var_move, variables_of, write_count, write_place, write_places}
use Rattle.annotation_encode.proofs.Counted.{number_within, same_number}

-- place a * w + b of h rows of w
pub place_below : (a w b h : ℕ) → a < h → b < w → a * w + b < h * w
place_below a w b h ha hb =
    let e : w * h ≡ h * w = mul_comm w h in
    let l : a * w + b < w * h = mul-add-lt a w b h ha hb in
    omega arith

pub row_end : (a w h : ℕ) → a < h → a * w + w ≤ h * w
row_end a w h ha =
    let e : suc a * w ≡ a * w + w = omega arith in
    let m : suc a * w ≤ h * w = mul-le-mul_right w ha in
    omega (arith, e, m)

same_place : (a w b c d : ℕ) → b < w → d < w → a * w + b ≡ c * w + d → (a ≡ c) × (b ≡ d)
same_place a w b c d hb hd e = (
  sym (div-mul-add a w b hb) ∙ ap (λ v. v / w) e ∙ div-mul-add c w d hd,
  sym (mod-mul-add a w b hb) ∙ ap (λ v. v % w) e ∙ mod-mul-add c w d hd,
)

pub row_below : (p : Problem) (t i : ℕ) → t < p.size → i < letter_count p → row_place p t i < p.size * letter_count p
row_below p t i ht hi = place_below t (letter_count p) i p.size ht hi

pub move_within : (p : Problem) (t i to : ℕ) → t < p.size → i < letter_count p → to < p.size → var_move p t i to ≤ move_count p
move_within p t i to ht hi hto =
    let b : row_place p t i * p.size + to < p.size * letter_count p * p.size = place_below (row_place p t i) p.size to (p.size * letter_count p) (row_below p t i ht hi) hto in
    omega (arith, b)

pub write_below : (kind : Kind) (letters states t i : ℕ) → t < states → i < letters → write_place kind letters t i < write_places kind letters states
write_below Mealy letters states t i ht hi = place_below t letters i states ht hi
write_below Moore letters states t i ht hi = ht

pub writes_within : (p : Problem) (t i : ℕ) → t < p.size → i < letter_count p → write_place p.kind (letter_count p) t i * writes_of p + writes_of p ≤ write_count p
writes_within p t i ht hi = row_end (write_place p.kind (letter_count p) t i) (writes_of p) (write_places p.kind (letter_count p) p.size) (write_below p.kind (letter_count p) p.size t i ht hi)

pub count_below : (p : Problem) (t q c : ℕ) → t < p.size → q < states_of (automaton_of p) → c ≤ bound_at p q
    → t * state_numbers p + (numbers_before p q + c) < p.size * state_numbers p
count_below p t q c ht hq hc = place_below t (state_numbers p) (numbers_before p q + c) p.size ht (number_within p q c hq hc)

pub count_within : (p : Problem) (t q c : ℕ) → t < p.size → q < states_of (automaton_of p) → c ≤ bound_at p q → var_count p t q c ≤ variables_of p
count_within p t q c ht hq hc =
    let b : t * state_numbers p + (numbers_before p q + c) < p.size * state_numbers p = count_below p t q c ht hq hc in
    omega (arith, b)

pub same_count : (p : Problem) (t q c s r d : ℕ) → q < states_of (automaton_of p) → c ≤ bound_at p q → r < states_of (automaton_of p) → d ≤ bound_at p r
    → var_count p t q c ≡ var_count p s r d → (t ≡ s) × (q ≡ r) × (c ≡ d)
same_count p t q c s r d hq hc hr hd e =
    let e' : t * state_numbers p + (numbers_before p q + c) ≡ s * state_numbers p + (numbers_before p r + d) = omega (arith, e) in
    let outer : (t ≡ s) × (numbers_before p q + c ≡ numbers_before p r + d)
    = same_place t (state_numbers p) (numbers_before p q + c) s (numbers_before p r + d) (number_within p q c hq hc) (number_within p r d hr hd) e' in
    let inner : (q ≡ r) × (c ≡ d) = same_number p q c r d hc hd outer.1 in
    (outer.0, inner.0, inner.1)

pub dont_meet : (p : Problem) → NumberingsDontMeet p
dont_meet p = record {
  moves = λ t i to s j on hi hto hj hon e.
      let e' : row_place p t i * p.size + to ≡ row_place p s j * p.size + on = omega (arith, e) in
      let outer : (row_place p t i ≡ row_place p s j) × (to ≡ on) = same_place (row_place p t i) p.size to (row_place p s j) on hto hon e' in
      let inner : (t ≡ s) × (i ≡ j) = same_place t (letter_count p) i s j hi hj outer.0 in
      (inner.0, inner.1, outer.1);
  writes = λ t i s u j r hi hs hj hr e.
      let e' : write_place p.kind (letter_count p) t i * writes_of p + s ≡ write_place p.kind (letter_count p) u j * writes_of p + r = omega (arith, e) in
      same_place (write_place p.kind (letter_count p) t i) (writes_of p) s (write_place p.kind (letter_count p) u j) r hs hr e';
  counts = same_count p;
  moves_first = λ t i to u j s ht hi hto. let b : var_move p t i to ≤ move_count p = move_within p t i to ht hi hto in omega (arith, b);
  then_writes = λ t i s u q c ht hi hs.
      let b : write_place p.kind (letter_count p) t i * writes_of p + writes_of p ≤ write_count p = writes_within p t i ht hi in
      omega (arith, b, hs);
  last = count_within p;
}
