-- Watching clauses.
use Rattle.std.proofs.Common.{◌≡◌, ℕ, filter, List, [], ◌∷◌, ◌++◌, inl, inr, Some, slice_get, length, Contains, refl, sym, subst}
use Rattle.std.specs.Prelude.{slice_set}
use Rattle.std_lemmas.proofs.Lists.{Contains-head, Contains-later}
use Rattle.propositional_logic.specs.Literal.{Literal}
use Rattle.unit_propagate.specs.declared.rows.Watcher.{Watcher}
use Rattle.propositional_logic.specs.Codes.{code_of}
use Rattle.unit_propagate.specs.Rows.{row_at, AddsTo, SetsAt, CutsOut}
use Rattle.unit_propagate.specs.Watches.{WatchList, Adds, Rewatches, CanRewatch, Keeps, CutsWatches, ordered, exchanged, IsWatchedIn, differs}
use Rattle.unit_propagate.proofs.RowsLemmas.{RowsGrow-trans, RowsGrow-adds, added_there}
use Rattle.unit_propagate.proofs.RewatchLemmas.{ordered_sides, ordered_more}

pub Adds-two : (w : WatchList) (c : List Literal) (first second : Literal) (between rows : List (List Watcher)) (row row' k : ℕ) (watched : List (List Literal))
    → watched ≡ w.watched ++ (ordered c first second) ∷ []
    → row ≡ code_of first → row' ≡ code_of second → k ≡ length w.watched → AddsTo w.rows between row (record { clause = k; blocker = second }) → AddsTo between rows row' (record { clause = k; blocker = first })
    → Adds w (record { watched = watched; rows = rows; units = w.units }) (ordered c first second)
Adds-two w c first second between rows row row' k watched e r r' s p q = record {
  more = ordered_more c first second;
  watched = e;
  grow = RowsGrow-trans w.rows between rows (RowsGrow-adds w.rows between row a p) (RowsGrow-adds between rows row' b q);
  listed = λ l h. elim (ordered_sides c first second l h) [
    | inl same ↦ subst (λ (x : Literal). IsWatchedIn rows x (length w.watched) (ordered c first second)) (sym same)
        (a, subst (λ x. Contains (row_at rows x) a) r ((RowsGrow-adds between rows row' b q).stays row a (added_there w.rows between row a p)), s, second_in)
    | inr same ↦ subst (λ (x : Literal). IsWatchedIn rows x (length w.watched) (ordered c first second)) (sym same)
        (b, subst (λ x. Contains (row_at rows x) b) r' (added_there between rows row' b q), s, first_in)
  ];
  units = refl;
}
  where
    a : Watcher
    a = record { clause = k; blocker = second }

    b : Watcher
    b = record { clause = k; blocker = first }

    first_in : Contains (ordered c first second) first
    first_in = Contains-head first (second ∷ filter (differs first second) c)

    second_in : Contains (ordered c first second) second
    second_in = Contains-later first (second ∷ filter (differs first second) c) second (Contains-head second (filter (differs first second) c))

pub Rewatches-of : (w : WatchList) (n : Watcher) (p j : ℕ) (from to : Literal) (rows : List (List Watcher)) (row : ℕ) (watched : List (List Literal)) → CanRewatch w n.clause p j from to → row ≡ code_of to
    → AddsTo w.rows rows row n
    → ((c : List Literal) (a b : Literal) → slice_get w.watched n.clause ≡ Some c → slice_get c p ≡ Some a → slice_get c j ≡ Some b → watched ≡ slice_set w.watched n.clause (exchanged c p j a b))
    → Rewatches w (record { watched = watched; rows = rows; units = w.units }) n p j from to
Rewatches-of w n p j from to rows row watched can e adds is = record {
  watched = λ c at. let a = can.there in let s : can.clause ≡ c = cc in is c from to at (subst (λ x. slice_get x p ≡ Some from) s can.at_p) (subst (λ x. slice_get x j ≡ Some to) s can.at_j);
  adds = subst (λ x. AddsTo w.rows rows x n) e adds;
  units = refl;
}

pub Keeps-of : (w : WatchList) (row row' i : ℕ) (x : Watcher) (rows : List (List Watcher)) → row ≡ row' → SetsAt w.rows rows row i x → Keeps w (record { watched = w.watched; rows = rows; units = w.units }) row' i x
Keeps-of w row row' i x rows e sets = record { watched = refl; sets = subst (λ r. SetsAt w.rows rows r i x) e sets; units = refl }

pub Cuts-of : (w : WatchList) (row row' from to : ℕ) (rows : List (List Watcher)) → row ≡ row' → CutsOut w.rows rows row from to → CutsWatches w (record { watched = w.watched; rows = rows; units = w.units }) row' from to
Cuts-of w row row' from to rows e cuts = record { watched = refl; cuts = subst (λ r. CutsOut w.rows rows r from to) e cuts; units = refl }
