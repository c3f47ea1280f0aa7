use Rattle.std.specs.Prelude.{◌≡◌, ℕ, ◌+◌, ◌-◌, ◌^◌, ◌<◌, ◌≤◌, nat_eq, List, [], ◌∷◌, ◌++◌, Some, All, AllPairs, map, take, drop, length, slice_get, slice_set}
use Rattle.std.proofs.Common.{suc, cond}
use Rattle.propositional_logic.specs.Literal.{Literal}
use Rattle.propositional_logic.specs.Codes.{decoded}
use Rattle.unit_propagate.specs.declared.arena.Span.{Span}

-- The literals at a span of an array.
abbrev pub part_at : List Literal → Span → List Literal
part_at lits s = take (s.end - s.start) (drop s.start lits)

-- The clauses that stand at spans of an array.
abbrev pub parts_at : List Literal → List Span → List (List Literal)
parts_at lits spans = map (part_at lits) spans

-- The places at which the literals of the clauses begin.
abbrev pub starts_of : List Span → List ℕ
starts_of spans = map (λ s. s.start) spans

-- Where a number stands in a list first; where it isn't in it, behind all.
abbrev pub index_of : List ℕ → ℕ → ℕ
index_of [] p = 0
index_of (q ∷ qs) p = cond (nat_eq q p) 0 (suc (index_of qs p))

-- What an `Arena` is seen as: the clauses, the places at which they begin, and the place at which the next one will.
pub record ArenaModel : Type 0 where
  pub clauses : List (List Literal)
  pub starts : List ℕ
  pub next : ℕ

-- A place at which a clause begins.
abbrev pub IsPlace : List ℕ → ℕ → Type 0
IsPlace starts p = index_of starts p < length starts

-- Spans stand one behind the other in an array, with two places before each.
pub record AreSpans (size : ℕ) (spans : List Span) : Type 0 where
  pub within : All (λ s. (s.start ≤ s.end) × (s.end ≤ size)) spans
  pub apart : AllPairs (λ s t. s.end + 2 ≤ t.start) spans

-- Before the literals of each clause stand its number, from 0, and their count.
abbrev pub AreHeaded : List Literal → List Span → Type 0
AreHeaded lits spans = (k : ℕ) (s : Span) → slice_get spans k ≡ Some s
    → (2 ≤ s.start) × (slice_get lits (s.start - 2) ≡ Some (decoded (k + 2))) × (slice_get lits (s.start - 1) ≡ Some (decoded (s.end - s.start + 2)))

-- What stands from a place of an array on is one clause more, with its number and the count of its literals before it.
pub record Closes (old new : List Literal) (spans more : List Span) (start : ℕ) : Type 0 where
  pub items : new ≡ slice_set (slice_set old (start - 2) (decoded (length spans + 2))) (start - 1) (decoded (length old - start + 2))
  pub span : more ≡ spans ++ (record { start = start; end = length old }) ∷ []
  pub few : length spans + 1 < 2 ^ 31

-- A clause is put behind the others of an array, its number and the count of its literals before it.
pub record Pushes (old new : List Literal) (spans more : List Span) (clause : List Literal) : Type 0 where
  pub items : new ≡ old ++ decoded (length spans + 2) ∷ decoded (length clause + 2) ∷ clause
  pub span : more ≡ spans ++ (record { start = length old + 2; end = length old + 2 + length clause }) ∷ []
  pub few : length spans + 1 < 2 ^ 31

-- A clause stands behind the others from now on, and begins at the next place.
pub record AddsClause (old new : ArenaModel) (clause : List Literal) : Type 0 where
  pub clauses : new.clauses ≡ old.clauses ++ clause ∷ []
  pub starts : new.starts ≡ old.starts ++ old.next ∷ []

-- The last clause is taken off.
abbrev pub TakesOff : ArenaModel → ArenaModel → Type 0
TakesOff old new = (clauses : List (List Literal)) (clause : List Literal) (starts : List ℕ) (p : ℕ) → old.clauses ≡ clauses ++ clause ∷ [] → old.starts ≡ starts ++ p ∷ [] → (new.clauses ≡ clauses) × (new.starts ≡ starts)
