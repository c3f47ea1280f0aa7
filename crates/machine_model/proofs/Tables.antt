use Rattle.std.proofs.Common.{◌≡◌, ◌≢◌, ℕ, ◌+◌, ◌*◌, ◌/◌, ◌%◌, ◌^◌, ◌<◌, ◌≤◌, [], length, get_or, refl, sym, ap, subst, ◌∙◌, arith, add-zero, inl, inr}
use Rattle.std.proofs.Math.Nat.{mod-lt, div-lt_iff_lt-mul, mul_comm, mul-mod_left, zero-mul}
use Rattle.std.proofs.lemmas.Nat.{mul-add-lt, div-add-mod', div-mul-add, pow_pos}
use Rattle.std.proofs.lemmas.List.{get_or_default, nil_from_length}
use Rattle.std.proofs.lemmas.Bool.{cases_eq}
use Rattle.std.specs.Prelude.{All, Any}
use Rattle.machine_model.specs.declared.machines.Row.{Row}
use Rattle.machine_model.specs.declared.machines.MachineFault.{MachineFault}
use Rattle.machine_model.specs.declared.machines.MachineFault.TheVariants.{WrongShape, NextOut, WriteOut, NotMoore}
use Rattle.machine_model.specs.Machine.{MachineModel, IsMachine, IsRefused, IsMisshaped, HasShape, NextsAreStates, WritesAreLetters, HasNextOut, HasWriteOut, WritesByState, WritesByLetter, size_of, row_of, writes_of, writes_in}

-- a row that a table hasn't
abbrev pub no_row : Row
no_row = record { next = 0; writes = 0 }

-- the row of a state and a letter stands in the table
pub place_in : (m : MachineModel) (t i : ℕ) → HasShape m → t < size_of m → i < 2 ^ m.reads → t * 2 ^ m.reads + i < length m.table
place_in m t i shape ht hi =
    let e : 2 ^ m.reads * size_of m ≡ size_of m * 2 ^ m.reads = mul_comm (2 ^ m.reads) (size_of m) in
    let w : length m.table ≡ size_of m * 2 ^ m.reads = shape.whole in
    let h : t * 2 ^ m.reads + i < 2 ^ m.reads * size_of m = mul-add-lt t (2 ^ m.reads) i (size_of m) ht hi in
    rw (w, ← e) h

-- each place of the table is the row of a state and a letter
pub state_in : (m : MachineModel) (k : ℕ) → HasShape m → k < length m.table → k / 2 ^ m.reads < size_of m
state_in m k shape h =
    let w : length m.table ≡ size_of m * 2 ^ m.reads = shape.whole in
    let b : k < size_of m * 2 ^ m.reads = rw w at h in
    (div-lt_iff_lt-mul (pow_pos m.reads)).1 b

pub letter_in : (m : MachineModel) (k : ℕ) → k % 2 ^ m.reads < 2 ^ m.reads
letter_in m k = mod-lt k (pow_pos m.reads)

-- what holds of each place holds of each state and letter, and the other way round
pub rows_all : (P : Row → Type 0) (m : MachineModel) → HasShape m → All P m.table
    → (t i : ℕ) → t < size_of m → i < 2 ^ m.reads → P (row_of m t i)
rows_all P m shape all t i ht hi = all (t * 2 ^ m.reads + i) no_row (place_in m t i shape ht hi)

pub rows_each : (P : Row → Type 0) (m : MachineModel) → HasShape m
    → ((t i : ℕ) → t < size_of m → i < 2 ^ m.reads → P (row_of m t i)) → All P m.table
rows_each P m shape each k d h =
    let here = each (k / 2 ^ m.reads) (k % 2 ^ m.reads) (state_in m k shape h) (letter_in m k) in
    subst P (get_or_default m.table k no_row d h) (subst (λ n. P (get_or m.table n no_row)) (div-add-mod' k (2 ^ m.reads)) here)

-- some row breaks what each row keeps
pub rows_broken : (P : Row → Type 0) (Q : Row → Type 0) (m : MachineModel) → HasShape m
    → ((t i : ℕ) → t < size_of m → i < 2 ^ m.reads → P (row_of m t i)) → ((row : Row) → P row → Q row → ⊥) → Any Q m.table → ⊥
rows_broken P Q m shape each apart (k, row, h, e, q) = apart row (subst P e (rows_each P m shape each k row h)) q

-- a table whose every row writes as the first row of its state writes by state
pub by_state : (m : MachineModel) → HasShape m
    → ((k : ℕ) → k < length m.table → writes_in m.table k ≡ writes_in m.table (k / 2 ^ m.reads * 2 ^ m.reads)) → WritesByState m
by_state m shape first t i j ht hi hj = as_first i hi ∙ sym (as_first j hj)
  where
    as_first : (i : ℕ) → i < 2 ^ m.reads → writes_of m t i ≡ writes_in m.table (t * 2 ^ m.reads)
    as_first i hi =
        first (t * 2 ^ m.reads + i) (place_in m t i shape ht hi)
        ∙ ap (λ s. writes_in m.table (s * 2 ^ m.reads)) (div-mul-add t (2 ^ m.reads) i hi)

-- a row that writes otherwise than the first row of its state shows that the state writes by letter
pub by_letter : (m : MachineModel) (k : ℕ) → HasShape m → k < length m.table
    → writes_in m.table k ≢ writes_in m.table (k / 2 ^ m.reads * 2 ^ m.reads) → WritesByLetter m
by_letter m k shape h differ = record {
  state = k / 2 ^ m.reads;
  one = k % 2 ^ m.reads;
  other = 0;
  is_state = state_in m k shape h;
  one_is_letter = letter_in m k;
  other_is_letter = pow_pos m.reads;
  differ = λ e. differ (ap (writes_in m.table) (sym (div-add-mod' k (2 ^ m.reads))) ∙ e ∙ ap (writes_in m.table) (add-zero (k / 2 ^ m.reads * 2 ^ m.reads)));
}

pub not_both : (m : MachineModel) → WritesByState m → WritesByLetter m → ⊥
not_both m same w = w.differ (same w.state w.one w.other w.is_state w.one_is_letter w.other_is_letter)

-- a table that isn't empty and ends with a whole state has its shape
pub shape_of : (m : MachineModel) → m.table ≢ [] → length m.table % 2 ^ m.reads ≡ 0 → HasShape m
shape_of m some whole =
    let e : length m.table / 2 ^ m.reads * 2 ^ m.reads + length m.table % 2 ^ m.reads ≡ length m.table = div-add-mod' (length m.table) (2 ^ m.reads) in
    let z : length m.table / 2 ^ m.reads * 2 ^ m.reads + 0 ≡ length m.table / 2 ^ m.reads * 2 ^ m.reads = add-zero (length m.table / 2 ^ m.reads * 2 ^ m.reads) in
    record { some = some; whole = sym e ∙ ap (λ r. length m.table / 2 ^ m.reads * 2 ^ m.reads + r) whole ∙ z }

-- no table has two of the faults, and no machine's table has one
misshaped : (m : MachineModel) → HasShape m → IsMisshaped m → ⊥
misshaped m shape (inl e) = shape.some e
misshaped m shape (inr ne) = ne (ap (λ n. n % 2 ^ m.reads) shape.whole ∙ mul-mod_left (size_of m) (2 ^ m.reads))

next_out : (m : MachineModel) → HasShape m → NextsAreStates m → HasNextOut m → ⊥
next_out m shape nexts = rows_broken (λ row. row.next < size_of m) (λ row. size_of m ≤ row.next) m shape nexts (λ row a b. omega arith)

write_out : (m : MachineModel) → HasShape m → WritesAreLetters m → HasWriteOut m → ⊥
write_out m shape writes = rows_broken (λ row. row.writes < 2 ^ m.writes) (λ row. 2 ^ m.writes ≤ row.writes) m shape writes (λ row a b. omega arith)

pub refusals_apart : (m : MachineModel) (f g : MachineFault) → IsRefused m f → IsRefused m g → f ≡ g
refusals_apart m WrongShape WrongShape p q = refl
refusals_apart m WrongShape NextOut p q = absurd (misshaped m q.0 p)
refusals_apart m WrongShape WriteOut p q = absurd (misshaped m q.0 p)
refusals_apart m WrongShape NotMoore p q = absurd (misshaped m q.0 p)
refusals_apart m NextOut WrongShape p q = absurd (misshaped m p.0 q)
refusals_apart m NextOut NextOut p q = refl
refusals_apart m NextOut WriteOut p q = absurd (next_out m p.0 q.1 p.1)
refusals_apart m NextOut NotMoore p q = absurd (next_out m p.0 q.1 p.1)
refusals_apart m WriteOut WrongShape p q = absurd (misshaped m p.0 q)
refusals_apart m WriteOut NextOut p q = absurd (next_out m p.0 p.1 q.1)
refusals_apart m WriteOut WriteOut p q = refl
refusals_apart m WriteOut NotMoore p q = absurd (write_out m p.0 q.2 p.2)
refusals_apart m NotMoore WrongShape p q = absurd (misshaped m p.0 q)
refusals_apart m NotMoore NextOut p q = absurd (next_out m p.0 p.1 q.1)
refusals_apart m NotMoore WriteOut p q = absurd (write_out m p.0 p.2 q.2)
refusals_apart m NotMoore NotMoore p q = refl

pub never_refused : (m : MachineModel) (f : MachineFault) → IsMachine m → IsRefused m f → ⊥
never_refused m WrongShape h p = misshaped m h.shape p
never_refused m NextOut h p = next_out m h.shape h.nexts p.1
never_refused m WriteOut h p = write_out m h.shape h.letters p.2
never_refused m NotMoore h p = not_both m (h.moore p.3) p.4

-- there is a state
pub size_pos : (m : MachineModel) → HasShape m → 0 < size_of m
size_pos m shape = elim (cases_eq (size_of m) 0) [
  | inl none ↦ absurd (shape.some (nil_from_length m.table (shape.whole ∙ ap (λ n. n * 2 ^ m.reads) none ∙ zero-mul (2 ^ m.reads))))
  | inr some ↦ let apart : size_of m ≡ 0 → ⊥ = some in omega arith
]
