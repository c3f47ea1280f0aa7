-- The obligations of a witness: lists of clauses, none of which can be met where the witness is right (this project's own).
use Rattle.std.specs.Prelude.{ℕ, ◌+◌, ◌*◌, ◌<◌, ⊤, List, [], ◌∷◌, ◌++◌, map, length, slice_index_or}
use Rattle.propositional_logic.specs.Literal.{Literal}
use Rattle.truth_witness.specs.declared.witnesses.Obligation.{Obligation}
use Rattle.truth_witness.specs.declared.witnesses.Obligation.TheVariants.{Base, Keep, Cover, Enter, Stay, Fall}
use Rattle.truth_witness.specs.Clauses.{opposite, base_clauses}
use Rattle.truth_witness.specs.Witness.{Part, Witness, Claim}
use Rattle.truth_witness.specs.Variables.{frame_size, shifted}
use Rattle.truth_witness.specs.Frames.{frame, next_frame, start, step}
use Rattle.truth_witness.specs.Falls.{fall}

-- the part at a place
abbrev pub part_at : Claim → ℕ → Part
part_at x n = slice_index_or x.witness.parts n (record { start = 0; inv = 0; rank = []; index = [] })

-- the obligation is one of this witness: it is of no part, or of one that the witness has
abbrev pub IsObligationOf : Witness → Obligation → Type 0
IsObligationOf w Base = ⊤
IsObligationOf w Keep = ⊤
IsObligationOf w Cover = ⊤
IsObligationOf w (Enter n) = n < length w.parts
IsObligationOf w (Stay n) = n < length w.parts
IsObligationOf w (Fall n) = n < length w.parts

-- a literal as a clause of its own, at this position, and at the next one
abbrev pub now : ℕ → List ℕ
now l = l ∷ []

abbrev pub next : Claim → ℕ → List ℕ
next x l = shifted x l ∷ []

abbrev pub not_next : Claim → ℕ → List ℕ
not_next x l = opposite (shifted x l) ∷ []

-- what is known of the first position, and of two that follow each other: the clauses that obligations share
abbrev pub at_start : Claim → List (List ℕ)
at_start x = frame x ++ start x

abbrev pub in_step : Claim → List (List ℕ)
in_step x = frame x ++ next_frame x ++ step x

abbrev pub shared : Claim → Obligation → List (List ℕ)
shared x Base = at_start x
shared x Keep = in_step x
shared x Cover = at_start x
shared x (Enter n) = at_start x
shared x (Stay n) = in_step x
shared x (Fall n) = in_step x

-- the clauses that are the obligation's own: what is known besides, and the opposite of what has to be shown
abbrev pub own : Claim → Obligation → List (List ℕ)
own x Base = now (opposite x.witness.always) ∷ []
own x Keep = now x.witness.always ∷ not_next x x.witness.always ∷ []
own x Cover = now x.witness.always ∷ map (λ part. now (opposite part.start)) x.witness.parts
own x (Enter n) = now x.witness.always ∷ now (part_at x n).start ∷ now (opposite (part_at x n).inv) ∷ []
own x (Stay n) =
    now x.witness.always ∷ next x x.witness.always ∷ now (part_at x n).inv ∷ not_next x (part_at x n).inv ∷ []
own x (Fall n) =
    now x.witness.always ∷ next x x.witness.always ∷ now (part_at x n).inv ∷ next x (part_at x n).inv ∷ fall x (part_at x n)

-- the obligation's base clauses
abbrev pub clauses_of : Claim → Obligation → List (List Literal)
clauses_of x o = base_clauses (shared x o ++ own x o)

-- the number of its variables
abbrev pub variables_of : Claim → Obligation → ℕ
variables_of x Base = frame_size x
variables_of x Keep = 2 * frame_size x
variables_of x Cover = frame_size x
variables_of x (Enter n) = frame_size x
variables_of x (Stay n) = 2 * frame_size x
variables_of x (Fall n) = 2 * frame_size x + 1 + length (part_at x n).rank
