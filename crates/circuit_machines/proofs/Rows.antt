-- Machines whose tables are functions.
use Rattle.std.proofs.Common.{◌≡◌, ℕ, ◌+◌, ◌*◌, ◌/◌, ◌%◌, ◌^◌, ◌<◌, List, zero, suc, length, get_or, refl, sym, ap, subst, ◌∙◌, arith}
use Rattle.std.specs.Prelude.{map}
use Rattle.std.specs.List.{range_with_len}
use Rattle.std.proofs.Math.Nat.{mul_comm, mul-div_left}
use Rattle.std.proofs.lemmas.Nat.{div-mul-add, mod-mul-add, mul-add-lt, pow_pos}
use Rattle.std.proofs.lemmas.List.FromFn.{get_or-map-range_with_len, length-map-range_with_len}
use Rattle.letters_and_lassos.specs.declared.kinds.Kind.{Kind}
use Rattle.letters_and_lassos.specs.declared.kinds.Kind.TheVariants.{Moore}
use Rattle.letters_and_lassos.specs.declared.kinds.Side.{Side}
use Rattle.letters_and_lassos.specs.declared.kinds.Side.TheVariants.{Environment, System}
use Rattle.letters_and_lassos.specs.declared.letters.Letter.{Letter}
use Rattle.letters_and_lassos.specs.Word.{Word, after, lasso_len, letter_at}
use Rattle.letters_and_lassos.proofs.Positions.{after-own, after-suc, after_within}
use Rattle.machine_model.specs.declared.machines.Row.{Row}
use Rattle.machine_model.specs.Machine.{IsMachine, MachineModel, row_of, size_of}
use Rattle.machine_model.specs.Run.{IsRunLasso, read_part, written_part}

-- the machine of so many states whose rows a function gives
abbrev pub machine_of : Kind → ℕ → ℕ → ℕ → (ℕ → ℕ → Row) → MachineModel
machine_of kind reads writes size row = record {
  kind = kind;
  reads = reads;
  writes = writes;
  table = map (λ p. row (p / 2 ^ reads) (p % 2 ^ reads)) (range_with_len 0 (size * 2 ^ reads));
}

-- the rows are in range, and those of a Moore machine write the same on every letter
pub record AreRows (kind : Kind) (reads writes size : ℕ) (row : ℕ → ℕ → Row) : Type 0 where
  pub some : 0 < size
  pub next : (t a : ℕ) → t < size → a < 2 ^ reads → (row t a).next < size
  pub writes_in : (t a : ℕ) → t < size → a < 2 ^ reads → (row t a).writes < 2 ^ writes
  pub moore : kind ≡ Moore → (t i k : ℕ) → (row t i).writes ≡ (row t k).writes

module _ (kind : Kind) (reads writes size : ℕ) (row : ℕ → ℕ → Row) where
  abbrev m : MachineModel
  m = machine_of kind reads writes size row

  rows : length m.table ≡ size * 2 ^ reads
  rows = length-map-range_with_len (λ p. row (p / 2 ^ reads) (p % 2 ^ reads)) 0 (size * 2 ^ reads)

  pub size_is : size_of m ≡ size
  size_is = ap (λ n. n / 2 ^ reads) rows ∙ mul-div_left size (pow_pos reads)

  in_table : (t a : ℕ) → t < size → a < 2 ^ reads → t * 2 ^ reads + a < size * 2 ^ reads
  in_table t a ht ha = subst (λ (n : ℕ). t * 2 ^ reads + a < n) (mul_comm (2 ^ reads) size) (mul-add-lt t (2 ^ reads) a size ht ha)

  pub row_is : (t a : ℕ) → t < size → a < 2 ^ reads → row_of m t a ≡ row t a
  row_is t a ht ha =
      get_or-map-range_with_len (λ p. row (p / 2 ^ reads) (p % 2 ^ reads)) 0 (size * 2 ^ reads) (t * 2 ^ reads + a) (t * 2 ^ reads + a) (record { next = 0; writes = 0 }) (in_table t a ht ha) (omega arith)
      ∙ ap (λ s. row s ((t * 2 ^ reads + a) % 2 ^ reads)) (div-mul-add t (2 ^ reads) a ha)
      ∙ ap (row t) (mod-mul-add t (2 ^ reads) a ha)

  pub is_machine : AreRows kind reads writes size row → IsMachine m
  is_machine are = record {
    shape = record {
      some = λ none.
          let empty : length m.table ≡ 0 = ap length none in
          let first : 0 * 2 ^ reads + 0 < size * 2 ^ reads = in_table 0 0 are.some (pow_pos reads) in
          omega (arith, empty, rows, first);
      whole = rows ∙ ap (λ n. n * 2 ^ reads) (sym size_is);
    };
    nexts = λ t a ht ha.
        let inside : t < size = rw size_is at ht in
        subst (λ (r : Row). r.next < size_of m) (sym (row_is t a inside ha)) (rw size_is (are.next t a inside ha));
    letters = λ t a ht ha.
        let inside : t < size = rw size_is at ht in
        subst (λ (r : Row). r.writes < 2 ^ writes) (sym (row_is t a inside ha)) (are.writes_in t a inside ha);
    moore = λ is t i k ht hi hk.
        let inside : t < size = rw size_is at ht in
        ap (λ (r : Row). r.writes) (row_is t i inside hi) ∙ are.moore is t i k ∙ sym (ap (λ (r : Row). r.writes) (row_is t k inside hk));
  }

-- Two such machines have the same runs where their rows are the same in each state of a closed set, in which the first one is.
pub record AgreeOn (P : ℕ → Type 0) (reads size : ℕ) (one other : ℕ → ℕ → Row) : Type 0 where
  pub first : P 0
  pub inside : (t : ℕ) → P t → t < size
  pub closed : (t a : ℕ) → P t → a < 2 ^ reads → P (one t a).next
  pub same : (t a : ℕ) → P t → a < 2 ^ reads → one t a ≡ other t a

module _ (kind other_kind : Kind) (reads writes size : ℕ) (one other : ℕ → ℕ → Row) (P : ℕ → Type 0) (agree : AgreeOn P reads size one other) where
  abbrev first_machine : MachineModel
  first_machine = machine_of kind reads writes size one

  abbrev second_machine : MachineModel
  second_machine = machine_of other_kind reads writes size other

  same_read : (side : Side) (letter : Letter) → read_part side second_machine letter ≡ read_part side first_machine letter
  same_read System letter = refl
  same_read Environment letter = refl

  same_written : (side : Side) (letter : Letter) → written_part side second_machine letter ≡ written_part side first_machine letter
  same_written System letter = refl
  same_written Environment letter = refl

  module _ (side : Side) (w : Word) (states : List ℕ) (run : IsRunLasso first_machine side w states) where
    abbrev heard : ℕ → ℕ
    heard i = read_part side first_machine (letter_at w i)

    step_inside : (j : ℕ) → after w 0 j < lasso_len w
    step_inside j = let ring : 0 < length w.ring = run.ring in after_within w 0 j run.ring (omega (arith, ring))

    row_there : (i : ℕ) → i < lasso_len w → P (get_or states i 0) → row_of first_machine (get_or states i 0) (heard i) ≡ one (get_or states i 0) (heard i)
    row_there i h p = row_is kind reads writes size one (get_or states i 0) (heard i) (agree.inside (get_or states i 0) p) (run.reads i h)

    stays : (j : ℕ) → P (get_or states (after w 0 j) 0)
    stays zero = subst P (sym run.start) agree.first
    stays (suc j) =
        let here : after w 0 j < lasso_len w = step_inside j in
        subst P
        (sym (ap (λ i. get_or states i 0) (after-suc w 0 j) ∙ run.moves (after w 0 j) here ∙ ap (λ (r : Row). r.next) (row_there (after w 0 j) here (stays j))))
        (agree.closed (get_or states (after w 0 j) 0) (heard (after w 0 j)) (stays j) (run.reads (after w 0 j) here))

    stays_at : (i : ℕ) → i < lasso_len w → P (get_or states i 0)
    stays_at i h = subst (λ (k : ℕ). P (get_or states k 0)) (after-own w i h) (stays i)

    small : (i : ℕ) → i < lasso_len w → read_part side second_machine (letter_at w i) < 2 ^ reads
    small i h = subst (λ (a : ℕ). a < 2 ^ reads) (sym (same_read side (letter_at w i))) (run.reads i h)

    row_other : (i : ℕ) → i < lasso_len w → row_of first_machine (get_or states i 0) (heard i) ≡ row_of second_machine (get_or states i 0) (read_part side second_machine (letter_at w i))
    row_other i h =
        row_there i h (stays_at i h) ∙ agree.same (get_or states i 0) (heard i) (stays_at i h) (run.reads i h)
        ∙ ap (other (get_or states i 0)) (sym (same_read side (letter_at w i)))
        ∙ sym (row_is other_kind reads writes size other (get_or states i 0) (read_part side second_machine (letter_at w i)) (agree.inside (get_or states i 0) (stays_at i h)) (small i h))

    pub other_run : IsRunLasso second_machine side w states
    other_run = record {
      ring = run.ring;
      places = run.places;
      start = run.start;
      reads = small;
      writes = λ i h. same_written side (letter_at w i) ∙ run.writes i h ∙ ap (λ (r : Row). r.writes) (row_other i h);
      moves = λ i h. run.moves i h ∙ ap (λ (r : Row). r.next) (row_other i h);
    }
