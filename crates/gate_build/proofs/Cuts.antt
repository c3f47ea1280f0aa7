-- A machine can be cut to the states that it meets.
use Rattle.std.proofs.Common.{◌≡◌, ◌≢◌, ℕ, ◌+◌, ◌*◌, ◌/◌, ◌%◌, ◌^◌, ◌<◌, ◌≤◌, ◌⊎◌, List, [], ◌∷◌, length, get_or, refl, sym, ap, subst, ◌∙◌, arith, inl, inr}
use Rattle.std.specs.Prelude.{map, Contains}
use Rattle.std.specs.List.{range_with_len}
use Rattle.std.proofs.Math.Nat.{mul_comm, mul-div_left}
use Rattle.std.proofs.lemmas.Bool.{cases_lt}
use Rattle.std.proofs.lemmas.List.{get_or-map, get_or_default, length-map}
use Rattle.std.proofs.lemmas.List.FromFn.{get_or-map-range_with_len, length-map-range_with_len}
use Rattle.std.proofs.lemmas.Nat.{div-mul-add, mod-mul-add, mul-add-lt, pow_pos}
use Rattle.letters_and_lassos.specs.declared.kinds.Side.{Side}
use Rattle.letters_and_lassos.specs.declared.kinds.Side.TheVariants.{Environment, System}
use Rattle.letters_and_lassos.specs.declared.letters.Letter.{Letter}
use Rattle.letters_and_lassos.specs.Word.{Word, lasso_len, letter_at, next}
use Rattle.letters_and_lassos.proofs.Positions.{after-own, next_within}
use Rattle.machine_model.specs.declared.machines.Row.{Row}
use Rattle.machine_model.specs.Machine.{IsMachine, MachineModel, next_of, row_of, size_of, writes_of}
use Rattle.machine_model.specs.Run.{IsRunLasso, read_part, written_part}
use Rattle.machine_model.proofs.Determined.{stays_within}
use Rattle.gate_build.specs.Laws.{HasCut, MachinesCanBeCut, MeetsStates}
use Rattle.gate_build.proofs.Listing.{IsComplete, complete, is_in, listed_few, listed_first, met_states, reached_within, stays_in}

-- the place where a search found a number, or 0
place_from : (xs : List ℕ) (x : ℕ) → (((k : ℕ) → k < length xs → get_or xs k 0 ≢ x) ⊎ Contains xs x) → ℕ
place_from xs x (inl none) = 0
place_from xs x (inr there) = there.0

-- a number stands at this place
record StandsAt (xs : List ℕ) (x k : ℕ) : Type 0 where
  within : k < length xs
  same : get_or xs k 0 ≡ x

stands_from : (xs : List ℕ) (x : ℕ) (found : ((k : ℕ) → k < length xs → get_or xs k 0 ≢ x) ⊎ Contains xs x) → Contains xs x → StandsAt xs x (place_from xs x found)
unfolding place_from
stands_from xs x (inl none) there = absurd (none there.0 there.1 (get_or_default xs there.0 0 x there.1 ∙ there.2))
stands_from xs x (inr found) there = record { within = found.1; same = get_or_default xs found.0 0 x found.1 ∙ found.2 }

module _ (m : MachineModel) (machine : IsMachine m) (xs : List ℕ) (c : IsComplete m machine xs) where
  place_of : ℕ → ℕ
  place_of s = place_from xs s (is_in xs s)

  stands : (s : ℕ) → Contains xs s → StandsAt xs s (place_of s)
  unfolding place_of
  stands s there = stands_from xs s (is_in xs s) there

  one_place : (i k : ℕ) → i < length xs → k < length xs → get_or xs i 0 ≡ get_or xs k 0 → i ≡ k
  one_place i k hi hk same = elim (cases_lt i k) [
    | inl less ↦ absurd (c.listed.different i k less hk same)
    | inr not_less ↦ elim (cases_lt k i) [
      | inl more ↦ absurd (c.listed.different k i more hi (sym same))
      | inr not_more ↦ let a : k ≤ i = not_less in let b : i ≤ k = not_more in omega (arith, a, b)
    ]
  ]

  place_of_first : place_of 0 ≡ 0
  place_of_first =
      let there : StandsAt xs 0 (place_of 0) = stands 0 (0, c.listed.some, c.listed.first) in
      one_place (place_of 0) 0 there.within c.listed.some (there.same ∙ sym c.listed.first)

  -- each state goes where the one at its place goes
  abbrev row_on : ℕ → ℕ → Row
  row_on t a = record { next = place_of (next_of m (get_or xs t 0) a); writes = writes_of m (get_or xs t 0) a }

  abbrev row_at : ℕ → Row
  row_at p = row_on (p / 2 ^ m.reads) (p % 2 ^ m.reads)

  abbrev cut : MachineModel
  cut = record { kind = m.kind; reads = m.reads; writes = m.writes; table = map row_at (range_with_len 0 (length xs * 2 ^ m.reads)) }

  rows : length cut.table ≡ length xs * 2 ^ m.reads
  rows = length-map-range_with_len row_at 0 (length xs * 2 ^ m.reads)

  size : size_of cut ≡ length xs
  size = ap (λ n. n / 2 ^ m.reads) rows ∙ mul-div_left (length xs) (pow_pos m.reads)

  in_table : (t a : ℕ) → t < length xs → a < 2 ^ m.reads → t * 2 ^ m.reads + a < length xs * 2 ^ m.reads
  in_table t a ht ha = subst (λ (n : ℕ). t * 2 ^ m.reads + a < n) (mul_comm (2 ^ m.reads) (length xs)) (mul-add-lt t (2 ^ m.reads) a (length xs) ht ha)

  row_is : (t a : ℕ) → t < length xs → a < 2 ^ m.reads → row_of cut t a ≡ row_on t a
  row_is t a ht ha =
      get_or-map-range_with_len row_at 0 (length xs * 2 ^ m.reads) (t * 2 ^ m.reads + a) (t * 2 ^ m.reads + a) (record { next = 0; writes = 0 }) (in_table t a ht ha) (omega arith)
      ∙ ap (λ s. row_on s ((t * 2 ^ m.reads + a) % 2 ^ m.reads)) (div-mul-add t (2 ^ m.reads) a ha)
      ∙ ap (row_on t) (mod-mul-add t (2 ^ m.reads) a ha)

  leads : (t a : ℕ) → t < length xs → a < 2 ^ m.reads → StandsAt xs (next_of m (get_or xs t 0) a) (place_of (next_of m (get_or xs t 0) a))
  leads t a ht ha = stands (next_of m (get_or xs t 0) a) (c.closed t a ht ha)

  old_state : (t : ℕ) → t < length xs → get_or xs t 0 < size_of m
  old_state t ht = reached_within m machine (get_or xs t 0) (c.listed.reached t ht)

  is_machine : IsMachine cut
  is_machine = record {
    shape = record {
      some = λ none.
          let empty : length cut.table ≡ 0 = ap length none in
          let first : 0 * 2 ^ m.reads + 0 < length xs * 2 ^ m.reads = in_table 0 0 c.listed.some (pow_pos m.reads) in
          omega (arith, empty, rows, first);
      whole = rows ∙ ap (λ n. n * 2 ^ m.reads) (sym size);
    };
    nexts = λ t a ht ha.
        let inside : t < length xs = rw size at ht in
        subst (λ (row : Row). row.next < size_of cut) (sym (row_is t a inside ha)) (rw size (leads t a inside ha).within);
    letters = λ t a ht ha.
        let inside : t < length xs = rw size at ht in
        subst (λ (row : Row). row.writes < 2 ^ m.writes) (sym (row_is t a inside ha)) (machine.letters (get_or xs t 0) a (old_state t inside) ha);
    moore = λ kind t i j ht hi hj.
        let inside : t < length xs = rw size at ht in
        ap (λ (row : Row). row.writes) (row_is t i inside hi) ∙ machine.moore kind (get_or xs t 0) i j (old_state t inside) hi hj
        ∙ sym (ap (λ (row : Row). row.writes) (row_is t j inside hj));
  }

  -- both read and write the same of a letter
  same_read : (side : Side) (letter : Letter) → read_part side cut letter ≡ read_part side m letter
  same_read System letter = refl
  same_read Environment letter = refl

  same_written : (side : Side) (letter : Letter) → written_part side cut letter ≡ written_part side m letter
  same_written System letter = refl
  same_written Environment letter = refl

  module _ (side : Side) (w : Word) where
    abbrev heard : ℕ → ℕ
    heard i = read_part side m (letter_at w i)

    -- the states that the places stand for
    to_old : (states : List ℕ) → IsRunLasso cut side w states → IsRunLasso m side w (map (λ t. get_or xs t 0) states)
    to_old states run =
        let ring : 0 < length w.ring = run.ring in
        let old : List ℕ = map (λ t. get_or xs t 0) states in
        let at : (i : ℕ) → i < lasso_len w → get_or (map (λ t. get_or xs t 0) states) i 0 ≡ get_or xs (get_or states i 0) 0 = λ i hi. get_or-map (λ t. get_or xs t 0) states i 0 0 (rw run.places hi) in
        let small : (i : ℕ) → i < lasso_len w → heard i < 2 ^ m.reads = λ i hi. subst (λ (a : ℕ). a < 2 ^ m.reads) (same_read side (letter_at w i)) (run.reads i hi) in
        let inside : (i : ℕ) → i < lasso_len w → get_or states i 0 < length xs = λ i hi. rw size at ((stays_within cut side w states is_machine run).in_range i 0 (rw run.places hi)) in
        let row : (i : ℕ) → i < lasso_len w → row_of cut (get_or states i 0) (read_part side cut (letter_at w i)) ≡ row_on (get_or states i 0) (heard i) =
        λ i hi. ap (row_of cut (get_or states i 0)) (same_read side (letter_at w i)) ∙ row_is (get_or states i 0) (heard i) (inside i hi) (small i hi) in
        record {
          ring = run.ring;
          places = length-map states (λ t. get_or xs t 0) ∙ run.places;
          start = at 0 (omega (arith, ring)) ∙ ap (λ t. get_or xs t 0) run.start ∙ c.listed.first;
          reads = small;
          writes = λ i hi.
              sym (same_written side (letter_at w i)) ∙ run.writes i hi ∙ ap (λ (r : Row). r.writes) (row i hi)
              ∙ ap (λ s. writes_of m s (heard i)) (sym (at i hi));
          moves = λ i hi.
              at (next w i) (next_within w i run.ring hi) ∙ ap (λ t. get_or xs t 0) (run.moves i hi ∙ ap (λ (r : Row). r.next) (row i hi))
              ∙ (leads (get_or states i 0) (heard i) (inside i hi) (small i hi)).same ∙ ap (λ s. next_of m s (heard i)) (sym (at i hi));
        }

    -- the places of the states
    to_places : (states : List ℕ) → IsRunLasso m side w states → IsRunLasso cut side w (map place_of states)
    to_places states run =
        let ring : 0 < length w.ring = run.ring in
        let at : (i : ℕ) → i < lasso_len w → get_or (map place_of states) i 0 ≡ place_of (get_or states i 0) = λ i hi. get_or-map place_of states i 0 0 (rw run.places hi) in
        let there : (i : ℕ) → i < lasso_len w → StandsAt xs (get_or states i 0) (place_of (get_or states i 0)) =
        λ i hi. stands (get_or states i 0) (subst (λ (k : ℕ). Contains xs (get_or states k 0)) (after-own w i hi) (stays_in m machine xs c side w states run i)) in
        let small : (i : ℕ) → i < lasso_len w → read_part side cut (letter_at w i) < 2 ^ m.reads = λ i hi. subst (λ (a : ℕ). a < 2 ^ m.reads) (sym (same_read side (letter_at w i))) (run.reads i hi) in
        let row : (i : ℕ) → i < lasso_len w → row_of cut (get_or (map place_of states) i 0) (read_part side cut (letter_at w i)) ≡ row_on (place_of (get_or states i 0)) (heard i) =
        λ i hi. ap (λ t. row_of cut t (read_part side cut (letter_at w i))) (at i hi) ∙ ap (row_of cut (place_of (get_or states i 0))) (same_read side (letter_at w i))
        ∙ row_is (place_of (get_or states i 0)) (heard i) (there i hi).within (run.reads i hi) in
        record {
          ring = run.ring;
          places = length-map states place_of ∙ run.places;
          start = at 0 (omega (arith, ring)) ∙ ap place_of run.start ∙ place_of_first;
          reads = small;
          writes = λ i hi.
              same_written side (letter_at w i) ∙ run.writes i hi ∙ ap (λ s. writes_of m s (heard i)) (sym (there i hi).same)
              ∙ ap (λ (r : Row). r.writes) (sym (row i hi));
          moves = λ i hi.
              at (next w i) (next_within w i run.ring hi) ∙ ap place_of (run.moves i hi)
              ∙ ap (λ s. place_of (next_of m s (heard i))) (sym (there i hi).same) ∙ ap (λ (r : Row). r.next) (sym (row i hi));
        }

  has_cut : HasCut m
  has_cut = record {
    cut = cut;
    is_machine = is_machine;
    kind = refl;
    reads = refl;
    writes = refl;
    meets = subst (λ (n : ℕ). MeetsStates m n) (sym size) (met_states m machine xs c);
    few = rw size (listed_few m machine xs c.listed);
    runs = λ side w. (
      (λ run. (map (λ t. get_or xs t 0) run.0, to_old side w run.0 run.1)),
      (λ run. (map place_of run.0, to_places side w run.0 run.1)),
    );
  }

pub machines_can_be_cut : MachinesCanBeCut
machines_can_be_cut m machine =
    let found : (all : List ℕ) × IsComplete m machine all = complete m machine (size_of m) (0 ∷ []) (listed_first m machine) (omega arith) in
    has_cut m machine found.0 found.1
