-- Tables of lists, after a write to one list.
use Rattle.std.proofs.Common.{◌≡◌, ◌≢◌, ℕ, suc, ◌+◌, ◌-◌, ◌<◌, ◌≤◌, List, [], ◌∷◌, ◌++◌, inl, inr, map, set, take, drop, get_or, length, Contains, refl, sym, subst, ap, ◌∙◌, arith}
use Rattle.std.specs.List.{copy_within}
use Rattle.std.proofs.Math.Seq.{paste}
use Rattle.std.proofs.lemmas.List.Edits.{take-paste}
use Rattle.std.proofs.lemmas.List.{map-set, set-get_or, length-set, length-map, length-drop, take_all, get_or-set_same, get_or-set_other, get_or-map}
use Rattle.std.proofs.lemmas.List.Elements.{Contains-push, Contains-append_left}
use Rattle.std.proofs.lemmas.Bool.{cases_eq}
use Rattle.unit_propagate.specs.declared.rows.Watcher.{Watcher}
use Rattle.unit_propagate.specs.Rows.{row_at, AddsTo, SetsAt, CutsOut}
use Rattle.unit_propagate.specs.Watches.{RowsGrow}

row_same : (rows : List (List Watcher)) (row : ℕ) (ys : List Watcher) → row < length rows → row_at (set rows row ys) row ≡ ys
row_same rows row ys h = get_or-set_same rows row ys [] h

row_other : (rows : List (List Watcher)) (row other : ℕ) (ys : List Watcher) → other ≢ row → row_at (set rows row ys) other ≡ row_at rows other
row_other rows row other ys n = get_or-set_other rows row other ys [] n

-- an element of a list of vectors
module _ {V : Type 0} (f : V → List Watcher) (vs : List V) (row : ℕ) (v v' : V) (fits : row < length (map f vs)) (there : v ≡ get_or vs row v) where
  within : row < length vs
  within = let e : length (map f vs) ≡ length vs = length-map vs f in omega arith

  pub row_of : row_at (map f vs) row ≡ f v
  row_of = get_or-map f vs row v [] within ∙ ap f (sym there)

  pub same_write : f v' ≡ f v → map f (set vs row v') ≡ map f vs
  same_write e = map-set f vs row v' ∙ ap (set (map f vs) row) (e ∙ ap f there ∙ sym (get_or-map f vs row v [] within)) ∙ set-get_or (map f vs) row []

  pub AddsTo-write : (number : Watcher) → f v' ≡ f v ++ number ∷ [] → AddsTo (map f vs) (map f (set vs row v')) row number
  AddsTo-write number e = subst (λ rows. AddsTo (map f vs) rows row number) (sym (map-set f vs row v')) (record {
    size = length-set (map f vs) row (f v');
    here = row_same (map f vs) row (f v') fits ∙ e ∙ ap (λ xs. xs ++ number ∷ []) (sym row_of);
    others = λ other n. row_other (map f vs) row other (f v') n;
  })

-- a write to one list, and a part taken out of it
module _ {V : Type 0} (f : V → List Watcher) (vs : List V) (row : ℕ) (v v' : V) (fits : row < length (map f vs)) (there : v ≡ get_or vs row v) where
  written : row_at (map f (set vs row v')) row ≡ f v'
  written = ap (λ rows. row_at rows row) (map-set f vs row v') ∙ row_same (map f vs) row (f v') fits

  elsewhere : (other : ℕ) → other ≢ row → row_at (map f (set vs row v')) other ≡ row_at (map f vs) other
  elsewhere other n = ap (λ rows. row_at rows other) (map-set f vs row v') ∙ row_other (map f vs) row other (f v') n

  same_size : length (map f (set vs row v')) ≡ length (map f vs)
  same_size = ap length (map-set f vs row v') ∙ length-set (map f vs) row (f v')

  pub in_row : (n : ℕ) → n ≤ length (row_at (map f vs) row) → n ≤ length (f v)
  in_row n h = let e : length (row_at (map f vs) row) ≡ length (f v) = ap length (row_of f vs row v v' fits there) in omega arith

  pub SetsAt-write : (i : ℕ) (x : Watcher) → f v' ≡ set (f v) i x → SetsAt (map f vs) (map f (set vs row v')) row i x
  SetsAt-write i x e = record { size = same_size; here = written ∙ e ∙ ap (λ xs. set xs i x) (sym (row_of f vs row v v' fits there)); others = elsewhere }

  pub CutsOut-write : (from to : ℕ) → f v' ≡ take from (f v) ++ drop to (f v) → CutsOut (map f vs) (map f (set vs row v')) row from to
  CutsOut-write from to e = record { size = same_size; here = written ∙ e ∙ ap (λ xs. take from xs ++ drop to xs) (sym (row_of f vs row v v' fits there)); others = elsewhere }

-- what is behind is copied to the place of what is taken out, and the end cut off
pub cut_out : (xs ys zs : List Watcher) (from to end behind : ℕ) → from ≤ to → to ≤ length xs → end ≡ length xs → behind ≡ length xs - to
    → ys ≡ copy_within xs to end from → zs ≡ take (from + behind) ys → zs ≡ take from xs ++ drop to xs
cut_out xs ys zs from to end behind le lt e b copied cut =
    let n : end - to ≡ behind = omega arith in
    let len : length (drop to xs) ≡ length xs - to = length-drop to xs in
    cut ∙ ap (take (from + behind)) (copied ∙ ap (paste xs from (drop to xs)) n)
    ∙ take-paste xs from (drop to xs) behind (omega arith) (omega arith) ∙ ap (λ ds. take from xs ++ ds) (take_all behind (drop to xs) (omega arith))

-- ---- lists that only grow
pub RowsGrow-trans : (a b c : List (List Watcher)) → RowsGrow a b → RowsGrow b c → RowsGrow a c
RowsGrow-trans a b c p q = record { size = q.size ∙ p.size; stays = λ row k h. q.stays row k (p.stays row k h) }

pub RowsGrow-adds : (a b : List (List Watcher)) (row : ℕ) (number : Watcher) → AddsTo a b row number → RowsGrow a b
RowsGrow-adds a b row number h = record {
  size = h.size;
  stays = λ r k c. elim (cases_eq r row) [
    | inl s ↦ subst (λ x. Contains (row_at b x) k) (sym s) (subst (λ xs. Contains xs k) (sym h.here) (Contains-append_left (row_at a row) (number ∷ []) k (subst (λ x. Contains (row_at a x) k) s c)))
    | inr n ↦ subst (λ xs. Contains xs k) (sym (h.others r n)) c
  ];
}

pub added_there : (a b : List (List Watcher)) (row : ℕ) (number : Watcher) → AddsTo a b row number → Contains (row_at b row) number
added_there a b row number h = subst (λ xs. Contains xs number) (sym h.here) (Contains-push (row_at a row) number)

-- ---- a watcher that was put last is taken out again
rows_same : (old new : List (List Watcher)) → length new ≡ length old → ((row : ℕ) → row_at new row ≡ row_at old row) → new ≡ old
rows_same [] [] e h = refl
rows_same [] (y ∷ ys) e h = absurd (omega arith)
rows_same (x ∷ xs) [] e h = absurd (omega arith)
rows_same (x ∷ xs) (y ∷ ys) e h =
    let n : length ys ≡ length xs = omega arith in
    let here : y ≡ x = h 0 in
    let rest : ys ≡ xs = rows_same xs ys n (λ k. h (suc k)) in
    λ i. here i ∷ rest i

cut_last : (xs : List Watcher) (x : Watcher) → take (length xs) (xs ++ x ∷ []) ++ drop (suc (length xs)) (xs ++ x ∷ []) ≡ xs
cut_last [] x = refl
cut_last (y ∷ xs) x = ap (λ ys. y ∷ ys) (cut_last xs x)

pub taken_back : (old between same new : List (List Watcher)) (row end : ℕ) (x : Watcher) → AddsTo old between row x → same ≡ between → CutsOut same new row end (end + 1) → end ≡ length (row_at old row) → new ≡ old
taken_back old between same new row end x adds e cuts n = rows_same old new (cuts.size ∙ ap length e ∙ adds.size) (λ r. elim (cases_eq r row) [
  | inl s ↦
      let m : end + 1 ≡ suc (length (row_at old row)) = omega arith in
      subst (λ (k : ℕ). row_at new k ≡ row_at old k) (sym s)
      (cuts.here ∙ (λ i. take (n i) (row_at (e i) row) ++ drop (m i) (row_at (e i) row)) ∙ ap (λ ys. take (length (row_at old row)) ys ++ drop (suc (length (row_at old row))) ys) adds.here ∙ cut_last (row_at old row) x)
  | inr o ↦ cuts.others r o ∙ ap (λ rs. row_at rs r) e ∙ adds.others r o
])
