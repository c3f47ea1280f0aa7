use Rattle.std.specs.Prelude.{ℕ, ◌+◌, ◌*◌, min, List, [], ◌∷◌, Option, Some, None, Result, Ok, Err, IfOk}
use Rattle.std.specs.List.{AllZip, range_with_len}
use Rattle.std.specs.declared.alloc.AllocError.{AllocError}
use Rattle.propositional_logic.specs.Literal.{Literal}
use Rattle.refutation_log.specs.declared.entries.Entry.{Entry}
use Rattle.log_checker.specs.declared.faults.LogFault.{LogFault}
use Rattle.log_checker.specs.Faults.{follow_fault, IsFirstOf}

-- Where a piece of so many entries begins, in a list that ends at `to`; the piece before it ends there.
abbrev pub piece_start : ℕ → ℕ → ℕ → ℕ
piece_start size to piece = min (piece * size) to

-- What was found of a piece: its first fault of hints, if memory was there.
abbrev pub IsOfPiece : List (List Literal) → List Entry → ℕ → ℕ → ℕ → Result (Option LogFault) AllocError → Type 0
IsOfPiece base log size to piece answer = IfOk answer (IsFirstOf (follow_fault base) log (piece_start size to piece) (piece_start size to (piece + 1)))

-- The answers for so many pieces, in their order.
abbrev pub AreOfPieces : List (List Literal) → List Entry → ℕ → ℕ → ℕ → List (Result (Option LogFault) AllocError) → Type 0
AreOfPieces base log size to count answers = AllZip (IsOfPiece base log size to) (range_with_len 0 count) answers

-- The first answer that is a fault or an error; no fault if all say so.
abbrev pub first_answer : List (Result (Option LogFault) AllocError) → Result (Option LogFault) AllocError
first_answer [] = Ok None
first_answer (Err error ∷ answers) = Err error
first_answer (Ok (Some fault) ∷ answers) = Ok (Some fault)
first_answer (Ok None ∷ answers) = first_answer answers
