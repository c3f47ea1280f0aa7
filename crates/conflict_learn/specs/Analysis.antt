use Rattle.std.specs.Prelude.{◌≡◌, ◌≢◌, ℕ, ◌<◌, ◌≤◌, ◌⊎◌, true, List, [], ◌∷◌, Some, All, Contains, length, reverse, slice_get}
use Rattle.propositional_logic.specs.Literal.{Literal, negated}
use Rattle.propositional_logic.specs.Clause.{IsClause}
use Rattle.refutation_log.specs.Follows.{clause_named, leads_to_conflict}
use Rattle.unit_propagate.specs.declared.marks.Mark.{Mark}
use Rattle.unit_propagate.specs.Trail.{literals_of}

-- The literal at a place makes l false, and the place is in the list.
abbrev pub HasFalsifier : List Mark → List ℕ → Literal → Type 0
HasFalsifier marks places l = (q : ℕ) × (m : Mark) × Contains places q × (slice_get marks q ≡ Some m) × (m.lit ≡ negated l)

-- The literal at a place makes a literal of the list false.
abbrev pub FalsifiesOne : List Mark → List Literal → ℕ → Type 0
FalsifiesOne marks lits q = (m : Mark) × (l : Literal) × (slice_get marks q ≡ Some m) × Contains lits l × (m.lit ≡ negated l)

-- The literals at the places are on levels up to top.
abbrev pub AreUpTo : List Mark → ℕ → List ℕ → Type 0
AreUpTo marks top places = (q : ℕ) (m : Mark) → Contains places q → slice_get marks q ≡ Some m → m.level ≤ top

-- The places that make the literals of the clause of that number false are added to a list of places.
pub record Resolves (clauses : List (List Literal)) (marks : List Mark) (old new : List ℕ) (number : ℕ) : Type 0 where
  pub clause : List Literal
  pub named : clause_named clauses number ≡ Some clause
  pub sorted : IsClause clause
  pub keeps : (q : ℕ) → Contains old q → Contains new q
  pub all : (l : Literal) → Contains clause l → Contains (literals_of marks) (negated l) → HasFalsifier marks new l
  pub only : (q : ℕ) → Contains new q → Contains old q ⊎ FalsifiesOne marks clause q

-- The literal at a place is resolved by its reason: it is on level 0, below top, or on top with another place to come there.
pub record IsResolved (marks : List Mark) (places : List ℕ) (place top reason : ℕ) : Type 0 where
  pub mark : Mark
  pub there : slice_get marks place ≡ Some mark
  pub by_reason : mark.reason ≡ Some reason
  pub level : (mark.level ≡ 0) ⊎ ((mark.level < top) ⊎ ((mark.level ≡ top) × ((q : ℕ) × (m : Mark) × Contains places q × (slice_get marks q ≡ Some m) × (m.level ≡ top))))

-- The literal at a place is kept: it isn't on level 0, and where it is on top, no other place to come is.
pub record IsLeft (marks : List Mark) (places : List ℕ) (place top : ℕ) : Type 0 where
  pub mark : Mark
  pub there : slice_get marks place ≡ Some mark
  pub above : 0 < mark.level
  pub alone : mark.level ≡ top → (q : ℕ) (m : Mark) → Contains places q → slice_get marks q ≡ Some m → m.level < top

-- Before the unique implication point a place on top is to come, and no literal kept is of that level.
pub record IsBefore (marks : List Mark) (top : ℕ) (places : List ℕ) (lits : List Literal) : Type 0 where
  pub place : ℕ
  pub mark : Mark
  pub to_come : Contains places place
  pub there : slice_get marks place ≡ Some mark
  pub on_top : mark.level ≡ top
  pub none : (l : Literal) (q : ℕ) (m : Mark) → Contains lits l → slice_get marks q ≡ Some m → m.lit ≡ negated l → m.level < top

-- After it no place on top is to come, and one literal kept is of that level.
pub record IsAfter (marks : List Mark) (top : ℕ) (places : List ℕ) (lits : List Literal) : Type 0 where
  pub below : (q : ℕ) (m : Mark) → Contains places q → slice_get marks q ≡ Some m → m.level < top
  pub point : Literal
  pub place : ℕ
  pub mark : Mark
  pub member : Contains lits point
  pub there : slice_get marks place ≡ Some mark
  pub is : mark.lit ≡ negated point
  pub on_top : mark.level ≡ top
  pub others : (l : Literal) (q : ℕ) (m : Mark) → Contains lits l → slice_get marks q ≡ Some m → m.lit ≡ negated l → l ≢ point → m.level < top

-- What is known at each step of the analysis of a conflict: the places that are still to be looked at stand before a bound, the literals
-- kept are made false from there on, and where all of these are false, the clauses resolved lead to the conflict.
pub record IsAnalysis (clauses : List (List Literal)) (marks : List Mark) (top bound : ℕ) (places : List ℕ) (lits : List Literal) (hints : List ℕ) : Type 0 where
  pub low : All (λ q. q < bound) places
  pub within : bound ≤ length marks
  pub levels : AreUpTo marks top places
  pub kept : (l : Literal) → Contains lits l → (q : ℕ) × (m : Mark) × (bound ≤ q) × (slice_get marks q ≡ Some m) × (m.lit ≡ negated l) × (m.level ≤ top)
  pub some : (h : ℕ) × (hs : List ℕ) × (reverse hints ≡ h ∷ hs)
  pub leads : (trues : List Literal) → ((q : ℕ) (m : Mark) → Contains places q → slice_get marks q ≡ Some m → Contains trues m.lit)
      → ((l : Literal) → Contains lits l → Contains trues (negated l))
      → ((t : Literal) → Contains trues t → ((q : ℕ) × (m : Mark) × (q < bound) × (slice_get marks q ≡ Some m) × (m.lit ≡ t)) ⊎ Contains lits (negated t))
      → leads_to_conflict clauses trues (reverse hints) ≡ true
  pub phase : ((top ≡ 0) × (lits ≡ [])) ⊎ ((0 < top) × (IsBefore marks top places lits ⊎ IsAfter marks top places lits))

-- The place of the literal that makes one false is added, if there is one.
pub record AddsFalsifier (marks : List Mark) (old new : List ℕ) (l : Literal) : Type 0 where
  pub keeps : (q : ℕ) → Contains old q → Contains new q
  pub all : Contains (literals_of marks) (negated l) → HasFalsifier marks new l
  pub only : (q : ℕ) → Contains new q → Contains old q ⊎ ((m : Mark) × (slice_get marks q ≡ Some m) × (m.lit ≡ negated l))
