use Rattle.std.specs.Prelude.{◌≡◌, ℕ, ◌<◌, false, List, None, filter, nat_le}
use Rattle.propositional_logic.specs.Literal.{Literal}
use Rattle.propositional_logic.specs.Partial.{is_falsified, unit_of}
use Rattle.unit_propagate.specs.declared.marks.Mark.{Mark}
use Rattle.unit_propagate.specs.Trail.{literals_of}
use Rattle.unit_propagate.specs.Quiet.{IsQuiet}

-- The literals of a trail up to a level (conflict-driven clause learning).
abbrev pub up_to : ℕ → List Mark → List Mark
up_to level marks = filter (λ m. nat_le m.level level) marks

-- Below a level a trail is quiet over a list of clauses: the literals up to each lower level are, so each of these levels was
-- propagated to its end (unit propagation, conflict-driven clause learning).
abbrev pub IsQuietBelow : ℕ → List (List Literal) → List Mark → Type 0
IsQuietBelow top clauses marks = (level : ℕ) → level < top → IsQuiet clauses (literals_of (up_to level marks))

-- Below a level a clause is idle: the literals up to each lower level neither falsify it nor make it unit (unit propagation).
abbrev pub IsIdleBelow : ℕ → List Mark → List Literal → Type 0
IsIdleBelow top marks clause = (level : ℕ) → level < top
    → (is_falsified (literals_of (up_to level marks)) clause ≡ false) × (unit_of (literals_of (up_to level marks)) clause ≡ None)
