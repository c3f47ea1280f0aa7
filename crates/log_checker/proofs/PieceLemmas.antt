-- The first fault of a log from those of its pieces.
use Rattle.std.proofs.Common.{◌≡◌, ℕ, zero, suc, ◌+◌, ◌*◌, ◌≤◌, List, [], ◌∷◌, inl, inr, Option, Some, None, Result, Ok, Err, sym, subst, ap, arith}
use Rattle.std.specs.Prelude.{IfOk}
use Rattle.std.specs.List.{AllZip, range_with_len}
use Rattle.std.specs.declared.alloc.AllocError.{AllocError}
use Rattle.std.proofs.Math.Nat.{mul-le-mul_right}
use Rattle.std.proofs.lemmas.Bool.{cases_lt}
use Rattle.propositional_logic.specs.Literal.{Literal}
use Rattle.refutation_log.specs.declared.entries.Entry.{Entry}
use Rattle.log_checker.specs.declared.faults.LogFault.{LogFault}
use Rattle.log_checker.specs.Faults.{follow_fault, FindsNone, IsFoundAt, IsFirstOf}
use Rattle.log_checker.specs.Pieces.{piece_start, IsOfPiece, AreOfPieces, first_answer}

none_along : (test : List Entry → Entry → Option LogFault) (log : List Entry) (b d : ℕ) → FindsNone test log 0 b → FindsNone test log b d → FindsNone test log 0 d
none_along test log b d h k = record { none = λ j low lt. elim (cases_lt j b) [ inl l ↦ h.none j low l | inr g ↦ k.none j g lt ] }

found_along : (test : List Entry → Entry → Option LogFault) (log : List Entry) (b d n place : ℕ) (f : LogFault) → FindsNone test log 0 b → d ≤ n → IsFoundAt test log b d f place → IsFoundAt test log 0 n f place
found_along test log b d n place f h le k =
    let high = k.high in
    record {
      low = omega arith;
      high = omega arith;
      found = k.found;
      none_before = λ j low lt. elim (cases_lt j b) [ inl l ↦ h.none j low l | inr g ↦ k.none_before j g lt ];
    }

pub start_rises : (size to p q : ℕ) → p ≤ q → piece_start size to p ≤ piece_start size to q
start_rises size to p q le = let m : p * size ≤ q * size = mul-le-mul_right size le in omega (arith, m)

first_from : (base : List (List Literal)) (log : List Entry) (size to a n : ℕ) (answers : List (Result (Option LogFault) AllocError)) (o : Option LogFault)
    → AllZip (IsOfPiece base log size to) (range_with_len a n) answers → first_answer answers ≡ Ok o → FindsNone (follow_fault base) log 0 (piece_start size to a)
    → IsFirstOf (follow_fault base) log 0 (piece_start size to (a + n)) o
first_from base log size to a zero [] o z e h =
    let k : None ≡ o = cc in
    let m : piece_start size to a ≡ piece_start size to (a + 0) = ap (piece_start size to) (omega arith) in
    subst (λ p. IsFirstOf (follow_fault base) log 0 (piece_start size to (a + 0)) p) k (subst (λ t. FindsNone (follow_fault base) log 0 t) m h)
first_from base log size to a zero (r ∷ answers) o z e h = absurd z
first_from base log size to a (suc n) [] o z e h = absurd z
first_from base log size to a (suc n) (Err error ∷ answers) o z e h = absurd (cc)
first_from base log size to a (suc n) (Ok (Some f) ∷ answers) o z e h =
    let k : Some f ≡ o = cc in
    let found = found_along (follow_fault base) log (piece_start size to a) (piece_start size to (a + 1)) (piece_start size to (a + suc n)) z.0.0 f h
    (start_rises size to (a + 1) (a + suc n) (omega arith)) z.0.1 in
    subst (λ p. IsFirstOf (follow_fault base) log 0 (piece_start size to (a + suc n)) p) k (z.0.0, found)
first_from base log size to a (suc n) (Ok None ∷ answers) o z e h =
    let rest = first_from base log size to (a + 1) n answers o z.1 e (none_along (follow_fault base) log (piece_start size to a) (piece_start size to (a + 1)) h z.0) in
    let same : a + 1 + n ≡ a + suc n = omega arith in
    subst (λ m. IsFirstOf (follow_fault base) log 0 (piece_start size to m) o) same rest

pub first_of_pieces : (base : List (List Literal)) (log : List Entry) (size to : ℕ) (answers : List (Result (Option LogFault) AllocError)) (o : Option LogFault)
    → AreOfPieces base log size to 64 answers → first_answer answers ≡ Ok o → to ≤ 64 * size → IsFirstOf (follow_fault base) log 0 to o
first_of_pieces base log size to answers o z e le =
    let all : piece_start size to (0 + 64) ≡ to = omega arith in
    subst (λ t. IsFirstOf (follow_fault base) log 0 t o) all
    (first_from base log size to 0 64 answers o z e (record { none = λ j low lt. absurd (let z : piece_start size to 0 ≡ 0 = omega arith in omega arith) }))

pub found_of_pieces : (base : List (List Literal)) (log : List Entry) (size to : ℕ) (answers : List (Result (Option LogFault) AllocError)) (r : Result (Option LogFault) AllocError)
    → AreOfPieces base log size to 64 answers → r ≡ first_answer answers → to ≤ 64 * size → IfOk r (IsFirstOf (follow_fault base) log 0 to)
found_of_pieces base log size to answers (Err error) z e le = tt
found_of_pieces base log size to answers (Ok o) z e le = first_of_pieces base log size to answers o z (sym e) le
