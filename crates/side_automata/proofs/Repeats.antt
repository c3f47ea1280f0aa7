use Rattle.std.proofs.Common.{◌≡◌, ◌≢◌, ℕ, ◌+◌, ◌*◌, ◌/◌, ◌%◌, ◌^◌, ◌<◌, List, [], length, get_or, refl, sym, ap, subst, ◌∙◌, arith}
use Rattle.std.specs.Prelude.{map}
use Rattle.std.specs.List.{range_with_len}
use Rattle.std.proofs.Math.Nat.{mod-lt, mul_comm, mul-div_left}
use Rattle.std.proofs.lemmas.Nat.{pow_pos, div-mul-add, mul-add-lt}
use Rattle.std.proofs.lemmas.List.FromFn.{get_or-map-range_with_len, get_or-range_with_len, length-map-range_with_len, length-range_with_len}
use Rattle.letters_and_lassos.specs.declared.kinds.Kind.{Kind}
use Rattle.letters_and_lassos.specs.declared.kinds.Kind.TheVariants.{Mealy, Moore}
use Rattle.letters_and_lassos.specs.declared.kinds.Side.TheVariants.{System, Environment}
use Rattle.letters_and_lassos.specs.Word.{Word, lasso_len, letter_at, next}
use Rattle.letters_and_lassos.proofs.Positions.{next_within}
use Rattle.letters_and_lassos.specs.Kinds.{other_kind}
use Rattle.machine_model.specs.declared.machines.Row.{Row}
use Rattle.machine_model.specs.Machine.{MachineModel, IsMachine, size_of, row_of}
use Rattle.machine_model.specs.Run.{ArePartners, IsPlay, IsRunLasso, read_part}

other-differs : (k : Kind) → other_kind k ≢ k
other-differs Mealy e = absurd (let d : Moore ≡ Mealy = e in cc)
other-differs Moore e = absurd (let d : Mealy ≡ Moore = e in cc)

-- A machine of the system that plays a run lasso of a machine of the environment, whatever it reads: its states are the
-- lasso's positions.
module _ (e : MachineModel) (w : Word) (states : List ℕ) (run : IsRunLasso e Environment w states) where
  abbrev row_on : ℕ → Row
  row_on t = record { next = next w t; writes = read_part Environment e (letter_at w t) }

  abbrev row_at : ℕ → Row
  row_at p = row_on (p / 2 ^ e.writes)

  abbrev pub repeats : MachineModel
  repeats = record {
    kind = other_kind e.kind;
    reads = e.writes;
    writes = e.reads;
    table = map row_at (range_with_len 0 (lasso_len w * 2 ^ e.writes));
  }

  rows : length repeats.table ≡ lasso_len w * 2 ^ e.writes
  rows = length-map-range_with_len row_at 0 (lasso_len w * 2 ^ e.writes)

  size : size_of repeats ≡ lasso_len w
  size = ap (λ n. n / 2 ^ e.writes) rows ∙ mul-div_left (lasso_len w) (pow_pos e.writes)

  place_within : (t a : ℕ) → t < lasso_len w → a < 2 ^ e.writes → t * 2 ^ e.writes + a < lasso_len w * 2 ^ e.writes
  place_within t a ht ha =
      subst (λ (n : ℕ). t * 2 ^ e.writes + a < n) (mul_comm (2 ^ e.writes) (lasso_len w)) (mul-add-lt t (2 ^ e.writes) a (lasso_len w) ht ha)

  row_is : (t a : ℕ) → t < lasso_len w → a < 2 ^ e.writes → row_of repeats t a ≡ row_on t
  row_is t a ht ha =
      get_or-map-range_with_len row_at 0 (lasso_len w * 2 ^ e.writes) (t * 2 ^ e.writes + a) (t * 2 ^ e.writes + a) (record { next = 0; writes = 0 }) (place_within t a ht ha) (omega arith)
      ∙ ap row_on (div-mul-add t (2 ^ e.writes) a ha)

  begins : 0 < lasso_len w
  begins = let ring = run.ring in omega arith

  some_row : repeats.table ≢ []
  some_row d =
      let first : 0 * 2 ^ e.writes + 0 < lasso_len w * 2 ^ e.writes = place_within 0 0 begins (pow_pos e.writes) in
      let none : length repeats.table ≡ 0 = ap length d in
      omega (arith, rows)

  pub is_machine : IsMachine repeats
  is_machine = record {
    shape = record { some = some_row; whole = rows ∙ ap (λ n. n * 2 ^ e.writes) (sym size) };
    nexts = λ t a ht ha.
        let state : t < lasso_len w = rw size at ht in
        subst (λ (row : Row). row.next < size_of repeats) (sym (row_is t a state ha))
        (subst (λ (n : ℕ). next w t < n) (sym size) (next_within w t run.ring state));
    letters = λ t a ht ha.
        let state : t < lasso_len w = rw size at ht in
        subst (λ (row : Row). row.writes < 2 ^ e.reads) (sym (row_is t a state ha)) (run.reads t state);
    moore = λ _ t i j ht hi hj.
        let state : t < lasso_len w = rw size at ht in
        ap (λ (row : Row). row.writes) (row_is t i state hi ∙ sym (row_is t j state hj));
  }

  pub are_partners : ArePartners repeats e
  are_partners = record { kinds = other-differs e.kind; inputs = refl; outputs = refl }

  abbrev positions : List ℕ
  positions = range_with_len 0 (lasso_len w)

  position_is : (i : ℕ) → i < lasso_len w → get_or positions i 0 ≡ i
  position_is i h =
      let e : 0 + i ≡ i = omega arith in
      get_or-range_with_len 0 (lasso_len w) i 0 h ∙ e

  read_within : (i : ℕ) → (letter_at w i).0 % 2 ^ e.writes < 2 ^ e.writes
  read_within i = mod-lt (letter_at w i).0 (pow_pos e.writes)

  row_here : (i : ℕ) → i < lasso_len w → row_of repeats (get_or positions i 0) ((letter_at w i).0 % 2 ^ e.writes) ≡ row_on i
  row_here i h =
      ap (λ t. row_of repeats t ((letter_at w i).0 % 2 ^ e.writes)) (position_is i h) ∙ row_is i ((letter_at w i).0 % 2 ^ e.writes) h (read_within i)

  plays_along : IsRunLasso repeats System w positions
  plays_along = record {
    ring = run.ring;
    places = length-range_with_len 0 (lasso_len w);
    start = position_is 0 begins;
    reads = λ i h. read_within i;
    writes = λ i h. sym (ap (λ (row : Row). row.writes) (row_here i h));
    moves = λ i h. position_is (next w i) (next_within w i run.ring h) ∙ sym (ap (λ (row : Row). row.next) (row_here i h));
  }

  pub is_play : IsPlay repeats e w
  is_play = record { of_system = (positions, plays_along); of_environment = (states, run) }
