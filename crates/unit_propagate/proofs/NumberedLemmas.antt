-- Watchers with the places of their clauses, seen by the numbers of these.
use Rattle.std.proofs.Common.{◌≡◌, ◌≢◌, ℕ, suc, zero, ◌+◌, ◌<◌, inl, inr, List, [], ◌∷◌, ◌++◌, Some, All, map, set, take, drop, replicate, length, slice_get, refl, sym, subst, ap, ◌∙◌, arith}
use Rattle.std.specs.List.{take-map, drop-map}
use Rattle.std.specs.Option.{option_map}
use Rattle.std.proofs.lemmas.List.{length-map, length_push, map-set, map_push, map-append}
use Rattle.std.proofs.lemmas.List.Elements.{All-head, All-tail, All-push, All-weaker}
use Rattle.std.proofs.lemmas.Option.{slice_get-map}
use Rattle.std.proofs.lemmas.Bool.{cases_eq}
use Rattle.propositional_logic.specs.Literal.{Literal}
use Rattle.propositional_logic.specs.Codes.{code_of}
use Rattle.unit_propagate.specs.declared.rows.Watcher.{Watcher}
use Rattle.unit_propagate.specs.Arena.{ArenaModel, IsPlace, index_of, AddsClause}
use Rattle.unit_propagate.specs.Rows.{row_at, AddsTo, AddsBoth, SetsAt, CutsOut}
use Rattle.unit_propagate.specs.Watches.{WatchList, numbered, numbered_rows, ArePlaces, Adds, AddsAlone, CanRewatch, Rewatches, Keeps, CutsWatches, ordered, exchanged}
use Rattle.unit_propagate.proofs.Places.{All-slice_get}
use Rattle.unit_propagate.proofs.ArenaLemmas.{index_grown}
use Rattle.unit_propagate.proofs.WatchesLemmas.{Adds-two, Rewatches-of, Keeps-of, Cuts-of}

-- what is seen of an array of clauses and a table of lists
abbrev pub shown : ArenaModel → List (List Watcher) → List ℕ → WatchList
shown a rows units = record { watched = a.clauses; rows = numbered_rows a.starts rows; units = units }

-- ---- what happens to a table happens to what is seen of it
pub row_map : (f : Watcher → Watcher) (rows : List (List Watcher)) (row : ℕ) → row_at (map (map f) rows) row ≡ map f (row_at rows row)
row_map f [] row = refl
row_map f (r ∷ rows) zero = refl
row_map f (r ∷ rows) (suc row) = row_map f rows row

module _ (f : Watcher → Watcher) (old new : List (List Watcher)) (row : ℕ) where
  same_size : length new ≡ length old → length (map (map f) new) ≡ length (map (map f) old)
  same_size e = length-map new (map f) ∙ e ∙ sym (length-map old (map f))

  same_others : ((other : ℕ) → other ≢ row → row_at new other ≡ row_at old other) → (other : ℕ) → other ≢ row → row_at (map (map f) new) other ≡ row_at (map (map f) old) other
  same_others h other n = row_map f new other ∙ ap (map f) (h other n) ∙ sym (row_map f old other)

  pub AddsTo-map : (x : Watcher) → AddsTo old new row x → AddsTo (map (map f) old) (map (map f) new) row (f x)
  AddsTo-map x h = record {
    size = same_size h.size;
    here = row_map f new row ∙ ap (map f) h.here ∙ map_push f (row_at old row) x ∙ ap (λ xs. xs ++ f x ∷ []) (sym (row_map f old row));
    others = same_others h.others;
  }

  pub SetsAt-map : (i : ℕ) (x : Watcher) → SetsAt old new row i x → SetsAt (map (map f) old) (map (map f) new) row i (f x)
  SetsAt-map i x h = record {
    size = same_size h.size;
    here = row_map f new row ∙ ap (map f) h.here ∙ map-set f (row_at old row) i x ∙ ap (λ xs. set xs i (f x)) (sym (row_map f old row));
    others = same_others h.others;
  }

  pub CutsOut-map : (from to : ℕ) → CutsOut old new row from to → CutsOut (map (map f) old) (map (map f) new) row from to
  CutsOut-map from to h = record {
    size = same_size h.size;
    here = row_map f new row ∙ ap (map f) h.here ∙ map-append f (take from (row_at old row)) (drop to (row_at old row))
        ∙ (let front = sym (take-map f from (row_at old row)) in let back = sym (drop-map f to (row_at old row)) in λ i. front i ++ back i)
        ∙ ap (λ xs. take from xs ++ drop to xs) (sym (row_map f old row));
    others = same_others h.others;
  }

no_rows : (f : Watcher → Watcher) (n : ℕ) → map (map f) (replicate n []) ≡ replicate n []
no_rows f zero = refl
no_rows f (suc n) = ap (λ rows. [] ∷ rows) (no_rows f n)

pub shown_empty : (a : ArenaModel) (rows : List (List Watcher)) (units : List ℕ) (n : ℕ) → a ≡ record { clauses = []; starts = []; next = 2 } → rows ≡ replicate n [] → units ≡ []
    → shown a rows units ≡ record { watched = []; rows = replicate n []; units = [] }
shown_empty a rows units n e r u =
    let all : numbered_rows a.starts rows ≡ replicate n [] = ap (numbered_rows a.starts) r ∙ no_rows (numbered a.starts) n in
    λ i. record { watched = (e i).clauses; rows = all i; units = u i }

-- a watcher at a place
pub shown_at : (starts : List ℕ) (rows : List (List Watcher)) (row i : ℕ) (x : Watcher) → slice_get (row_at rows row) i ≡ Some x → slice_get (row_at (numbered_rows starts rows) row) i ≡ Some (numbered starts x)
shown_at starts rows row i x at = ap (λ xs. slice_get xs i) (row_map (numbered starts) rows row) ∙ slice_get-map (numbered starts) (row_at rows row) i ∙ ap (option_map (numbered starts)) at

pub is_shown : (starts : List ℕ) (rows : List (List Watcher)) (row row' i : ℕ) (x y : Watcher) → row ≡ row' → slice_get (row_at rows row) i ≡ Some x → slice_get (row_at (numbered_rows starts rows) row') i ≡ Some y
    → y.clause ≡ index_of starts x.clause
is_shown starts rows row row' i x y e at there =
    let h : slice_get (row_at (numbered_rows starts rows) row') i ≡ Some (numbered starts x) = shown_at starts rows row' i x (subst (λ r. slice_get (row_at rows r) i ≡ Some x) e at) in
    let s : y ≡ numbered starts x = cc in
    ap (λ (z : Watcher). z.clause) s

pub blocker_shown : (starts : List ℕ) (rows : List (List Watcher)) (row row' i : ℕ) (x : Watcher) → row ≡ row' → slice_get (row_at rows row) i ≡ Some x
    → (y : Watcher) × (slice_get (row_at (numbered_rows starts rows) row') i ≡ Some y) × (y.blocker ≡ x.blocker)
blocker_shown starts rows row row' i x e at = (numbered starts x, shown_at starts rows row' i x (subst (λ r. slice_get (row_at rows r) i ≡ Some x) e at), refl)

-- ---- places of clauses
pub place_at : (starts : List ℕ) (rows : List (List Watcher)) (row i : ℕ) (x : Watcher) → ArePlaces starts rows → slice_get (row_at rows row) i ≡ Some x → IsPlace starts x.clause
place_at starts rows row i x h at = All-slice_get (λ (y : Watcher). IsPlace starts y.clause) (row_at rows row) i x (h row) at

pub ArePlaces-adds : (starts : List ℕ) (old new : List (List Watcher)) (row : ℕ) (x : Watcher) → AddsTo old new row x → IsPlace starts x.clause → ArePlaces starts old → ArePlaces starts new
ArePlaces-adds starts old new row x adds p h r = elim (cases_eq r row) [
  | inl s ↦ subst (λ (k : ℕ). All (λ (y : Watcher). IsPlace starts y.clause) (row_at new k)) (sym s) (subst (λ (xs : List Watcher). All (λ (y : Watcher). IsPlace starts y.clause) xs) (sym adds.here) (All-push (λ (y : Watcher). IsPlace starts y.clause) (row_at old row) x (h row) p))
  | inr n ↦ subst (λ (xs : List Watcher). All (λ (y : Watcher). IsPlace starts y.clause) xs) (sym (adds.others r n)) (h r)
]

-- one more place, which was the next one
module _ (starts more : List ℕ) (next : ℕ) (adds : more ≡ starts ++ next ∷ []) where
  same_number : (p : ℕ) → IsPlace starts p → index_of more p ≡ index_of starts p
  same_number p h = ap (λ s. index_of s p) adds ∙ index_grown starts next p (inl h)

  one_more : length more ≡ length starts + 1
  one_more = ap length adds ∙ length_push starts next

  grown_row : (xs : List Watcher) → All (λ x. IsPlace starts x.clause) xs → map (numbered more) xs ≡ map (numbered starts) xs
  grown_row [] h = refl
  grown_row (x ∷ xs) h =
      let here : index_of more x.clause ≡ index_of starts x.clause = same_number x.clause (All-head (λ (y : Watcher). IsPlace starts y.clause) x xs h) in
      let rest = grown_row xs (All-tail (λ (y : Watcher). IsPlace starts y.clause) x xs h) in
      λ i. (record { clause = here i; blocker = x.blocker }) ∷ rest i

  pub grown_rows : (rows : List (List Watcher)) → ArePlaces starts rows → numbered_rows more rows ≡ numbered_rows starts rows
  grown_rows [] h = refl
  grown_rows (r ∷ rows) h =
      let here = grown_row r (h 0) in
      let rest = grown_rows rows (λ k. h (suc k)) in
      λ i. here i ∷ rest i

  place_grown : (p : ℕ) → IsPlace starts p → IsPlace more p
  place_grown p h =
      let e : index_of more p ≡ index_of starts p = same_number p h in
      let n : length more ≡ length starts + 1 = one_more in
      let lt : index_of starts p < length starts = h in
      let l : index_of more p < length more = omega arith in
      l

  pub ArePlaces-grown : (rows : List (List Watcher)) → ArePlaces starts rows → ArePlaces more rows
  ArePlaces-grown rows h row = All-weaker (λ (y : Watcher). IsPlace starts y.clause) (λ (y : Watcher). IsPlace more y.clause) (λ y p. place_grown y.clause p) (row_at rows row) (h row)

  pub next_number : index_of starts next ≡ length starts → index_of more next ≡ length starts
  next_number fresh = ap (λ s. index_of s next) adds ∙ index_grown starts next next (inr refl) ∙ fresh

  pub next_place : index_of starts next ≡ length starts → IsPlace more next
  next_place fresh =
      let e : index_of more next ≡ length starts = next_number fresh in
      let n : length more ≡ length starts + 1 = one_more in
      let l : index_of more next < length more = omega arith in
      l

-- ---- what the calls ensure
pub Cuts-shown : (a : ArenaModel) (rows new : List (List Watcher)) (units : List ℕ) (row row' from to : ℕ) → row ≡ row' → CutsOut rows new row from to → CutsWatches (shown a rows units) (shown a new units) row' from to
Cuts-shown a rows new units row row' from to e cuts =
    Cuts-of (shown a rows units) row row' from to (numbered_rows a.starts new) e (CutsOut-map (numbered a.starts) rows new row from to cuts)

pub Keeps-shown : (a : ArenaModel) (rows new : List (List Watcher)) (units : List ℕ) (first second row to i : ℕ) (x y : Watcher) (b : Literal) → first ≡ row → second ≡ row → slice_get (row_at rows first) i ≡ Some x
    → SetsAt rows new second to (record { clause = x.clause; blocker = b }) → slice_get (row_at (numbered_rows a.starts rows) row) i ≡ Some y
    → Keeps (shown a rows units) (shown a new units) row to (record { clause = y.clause; blocker = b })
Keeps-shown a rows new units first second row to i x y b e s at sets there =
    subst (λ (k : ℕ). Keeps (shown a rows units) (shown a new units) row to (record { clause = k; blocker = b })) (sym (is_shown a.starts rows first row i x y e at there))
    (Keeps-of (shown a rows units) second row to (numbered a.starts (record { clause = x.clause; blocker = b })) (numbered_rows a.starts new) s
    (SetsAt-map (numbered a.starts) rows new second to (record { clause = x.clause; blocker = b }) sets))

-- a clause watches another literal
module _ (a after : ArenaModel) (rows new : List (List Watcher)) (units : List ℕ) (row row' i p j : ℕ) (x : Watcher) (from to b : Literal) (e : row ≡ code_of from) (e' : row' ≡ code_of to) (at : slice_get (row_at rows row) i ≡ Some x)
    (adds : AddsTo rows new row' (record { clause = x.clause; blocker = b }))
    (can : (y : Watcher) × (slice_get (row_at (numbered_rows a.starts rows) (code_of from)) i ≡ Some y) × CanRewatch (shown a rows units) y.clause p j from to)
    (is : (c : List Literal) (y z : Literal) → slice_get a.clauses (index_of a.starts x.clause) ≡ Some c → slice_get c p ≡ Some y → slice_get c j ≡ Some z
    → after ≡ record a { clauses = set a.clauses (index_of a.starts x.clause) (exchanged c p j y z) }) where
  number : can.0.clause ≡ index_of a.starts x.clause
  number = is_shown a.starts rows row (code_of from) i x can.0 e at can.1

  whole : CanRewatch (shown a rows units) (index_of a.starts x.clause) p j from to
  whole = subst (λ (k : ℕ). CanRewatch (shown a rows units) k p j from to) number can.2

  after_is : after ≡ record a { clauses = set a.clauses (index_of a.starts x.clause) (exchanged whole.clause p j from to) }
  after_is = is whole.clause from to whole.there whole.at_p whole.at_j

  pub ArePlaces-rewatched : ArePlaces a.starts rows → ArePlaces after.starts new
  ArePlaces-rewatched h =
      subst (λ (m : ArenaModel). ArePlaces m.starts new) (sym after_is)
      (ArePlaces-adds a.starts rows new row' (record { clause = x.clause; blocker = b }) adds (place_at a.starts rows row i x h at) h)

  pub Rewatches-shown : (y : Watcher) → slice_get (row_at (numbered_rows a.starts rows) (code_of from)) i ≡ Some y → Rewatches (shown a rows units) (shown after new units) (record { clause = y.clause; blocker = b }) p j from to
  Rewatches-shown y there =
      let starts : a.starts ≡ after.starts = sym (ap (λ (m : ArenaModel). m.starts) after_is) in
      subst (λ (k : ℕ). Rewatches (shown a rows units) (shown after new units) (record { clause = k; blocker = b }) p j from to) (sym (is_shown a.starts rows row (code_of from) i x y e at there))
      (subst (λ (s : List ℕ). Rewatches (shown a rows units) (record { watched = after.clauses; rows = numbered_rows s new; units = units }) (numbered a.starts (record { clause = x.clause; blocker = b })) p j from to) starts
      (Rewatches-of (shown a rows units) (numbered a.starts (record { clause = x.clause; blocker = b })) p j from to (numbered_rows a.starts new) row' after.clauses whole e'
      (AddsTo-map (numbered a.starts) rows new row' (record { clause = x.clause; blocker = b }) adds)
      (λ c y' z' f g h. ap (λ (m : ArenaModel). m.clauses) (is c y' z' f g h))))

-- a clause is watched by two literals
module _ (a after : ArenaModel) (rows new : List (List Watcher)) (units : List ℕ) (row row' place : ℕ) (c : List Literal) (first second : Literal) (adds : AddsClause a after (ordered c first second))
    (both : AddsBoth rows new row (record { clause = place; blocker = second }) row' (record { clause = place; blocker = first })) (next : place ≡ a.next) (fresh : index_of a.starts a.next ≡ length a.starts)
    (h : ArePlaces a.starts rows) where
  here : IsPlace after.starts place
  here = subst (IsPlace after.starts) (sym next) (next_place a.starts after.starts a.next adds.starts fresh)

  pub ArePlaces-added : ArePlaces after.starts new
  ArePlaces-added =
      ArePlaces-adds after.starts both.0 new row' (record { clause = place; blocker = first }) both.2 here
      (ArePlaces-adds after.starts rows both.0 row (record { clause = place; blocker = second }) both.1 here (ArePlaces-grown a.starts after.starts a.next adds.starts rows h))

  pub Adds-shown : length a.starts ≡ length a.clauses → row ≡ code_of first → row' ≡ code_of second → Adds (shown a rows units) (shown after new units) (ordered c first second)
  Adds-shown places e e' =
      Adds-two (shown a rows units) c first second (numbered_rows after.starts both.0) (numbered_rows after.starts new) row row' (index_of after.starts place) after.clauses adds.clauses e e'
      (ap (index_of after.starts) next ∙ next_number a.starts after.starts a.next adds.starts fresh ∙ places)
      (subst (λ (rs : List (List Watcher)). AddsTo rs (numbered_rows after.starts both.0) row (numbered after.starts (record { clause = place; blocker = second }))) (grown_rows a.starts after.starts a.next adds.starts rows h)
      (AddsTo-map (numbered after.starts) rows both.0 row (record { clause = place; blocker = second }) both.1))
      (AddsTo-map (numbered after.starts) both.0 new row' (record { clause = place; blocker = first }) both.2)

pub AddsAlone-shown : (a after : ArenaModel) (rows : List (List Watcher)) (old new : List ℕ) (l : Literal) (k : ℕ) → AddsClause a after (l ∷ []) → ArePlaces a.starts rows → new ≡ old ++ k ∷ [] → k ≡ length a.clauses
    → AddsAlone (shown a rows old) (shown after rows new) l
AddsAlone-shown a after rows old new l k ok h u e = record { watched = ok.clauses; rows = grown_rows a.starts after.starts a.next ok.starts rows h; units = u ∙ ap (λ n. old ++ n ∷ []) e }
