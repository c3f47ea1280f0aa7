use Rattle.std.proofs.Common.{◌≡◌, ℕ, ◌+◌, ◌<◌, List, [], length, get_or, set, replicate, refl, sym, ap, ◌∙◌, arith, inl, inr, Option, Some, None}
use Rattle.std.proofs.lemmas.Bool.{cases_eq}
use Rattle.std.proofs.lemmas.List.{get_or-set_same, get_or-set_other, length-set, length-replicate, get_or-replicate}
use Rattle.letters_and_lassos.specs.declared.letters.Letter.{Letter}
use Rattle.letters_and_lassos.specs.declared.kinds.Side.{Side}
use Rattle.letters_and_lassos.specs.Word.{Word, HasRing, after, lasso_len}
use Rattle.letters_and_lassos.proofs.Positions.{after-own, after-add, after_forward, after_round}
use Rattle.machine_model.specs.Machine.{MachineModel, size_of}
use Rattle.machine_model.specs.Course.{IsCourse, state_after}
use Rattle.machine_model.proofs.Closing.{Closes}

-- what is known of a place where the ring began anew, in state t
pub record IsMet (m : MachineModel) (reads : Word) (letters : List Letter) (t p : ℕ) : Type 0 where
  pub before : p < length letters
  pub position : after reads 0 p ≡ length reads.stem
  pub again : state_after m reads p ≡ t

-- the run stands where the word's ring begins, and for each state that it met there the table has such a place
pub record IsWalk (m : MachineModel) (side : Side) (reads : Word) (letters : List Letter) (states : List ℕ) (state : ℕ) (met : List (Option ℕ)) : Type 0 where
  pub course : IsCourse m side reads letters states state
  pub position : after reads 0 (length letters) ≡ length reads.stem
  pub places : length met ≡ size_of m
  pub known : (t p : ℕ) → t < size_of m → get_or met t None ≡ Some p → IsMet m reads letters t p

-- nothing is read yet
pub course_start : (m : MachineModel) (side : Side) (reads : Word) → 0 < size_of m → IsCourse m side reads [] [] 0
course_start m side reads some = record {
  places = refl;
  letter = λ i h. absurd (omega arith);
  before = λ i h. absurd (omega arith);
  after = refl;
  within = some;
}

-- where the word's ring begins, its positions come in turn
pub along_ring : (reads : Word) (n k : ℕ) → HasRing reads → after reads 0 n ≡ length reads.stem → length reads.stem + k < lasso_len reads
    → after reads 0 (n + k) ≡ length reads.stem + k
along_ring reads n k ring at within = after-add reads 0 n k ∙ ap (λ i. after reads i k) at ∙ after_forward reads (length reads.stem) k within

-- and a time round the ring leads back there
pub round_ring : (reads : Word) (n next : ℕ) → HasRing reads → after reads 0 n ≡ length reads.stem → next + length reads.stem ≡ n + lasso_len reads
    → after reads 0 next ≡ length reads.stem
round_ring reads n next ring at e =
    let sum : next ≡ n + length reads.ring = omega arith in
    ap (after reads 0) sum ∙ after-add reads 0 n (length reads.ring) ∙ ap (λ i. after reads i (length reads.ring)) at
    ∙ after_round reads (length reads.stem) ring (omega arith) (omega arith)

module _ (m : MachineModel) (side : Side) (reads : Word) (letters : List Letter) (states : List ℕ) (state : ℕ) (met : List (Option ℕ)) where
  -- a walk goes once round the ring
  pub walk_more : (letters' : List Letter) (states' : List ℕ) (state' : ℕ) → HasRing reads → IsWalk m side reads letters states state met
      → IsCourse m side reads letters' states' state' → length letters' + length reads.stem ≡ length letters + lasso_len reads
      → IsWalk m side reads letters' states' state' (set met state (Some (length letters)))
  walk_more letters' states' state' ring walk course e = record {
    course = course;
    position = round_ring reads (length letters) (length letters') ring walk.position e;
    places = length-set met state (Some (length letters)) ∙ walk.places;
    known = λ t p h is. elim (cases_eq t state) [
      | inl here ↦
          let stored : get_or (set met state (Some (length letters))) state None ≡ Some p = ap (λ n. get_or (set met state (Some (length letters))) n None) (sym here) ∙ is in
          let within : state < length met = rw walk.places walk.course.within in
          let first : Some (length letters) ≡ Some p = sym (get_or-set_same met state (Some (length letters)) None within) ∙ stored in
          let same : length letters ≡ p = cc in
          record {
            before = omega (arith, same, e);
            position = rw (← same) walk.position;
            again = rw (← same) (sym walk.course.after ∙ sym here);
          }
      | inr other ↦
          let old : IsMet m reads letters t p = walk.known t p h (sym (get_or-set_other met state t (Some (length letters)) None other) ∙ is) in
          record { before = let before : p < length letters = old.before in omega (arith, before, e); position = old.position; again = old.again }
    ];
  }

  -- a place that was met closes the walk
  pub walk_closes : (p : ℕ) → IsWalk m side reads letters states state met → get_or met state None ≡ Some p → Closes m side reads letters states state p
  walk_closes p walk is =
      let old : IsMet m reads letters state p = walk.known state p walk.course.within is in
      record { course = walk.course; before = old.before; position = old.position ∙ sym walk.position; again = sym old.again }

-- nothing is met at first
pub walk_start : (m : MachineModel) (side : Side) (reads : Word) (letters : List Letter) (states : List ℕ) (state : ℕ) (met : List (Option ℕ)) → HasRing reads
    → IsCourse m side reads letters states state → length letters ≡ length reads.stem → met ≡ replicate (size_of m) None → IsWalk m side reads letters states state met
walk_start m side reads letters states state met ring course e none = record {
  course = course;
  position = ap (after reads 0) e ∙ after-own reads (length reads.stem) (omega arith);
  places = ap length none ∙ length-replicate (size_of m) None;
  known = λ t p h is. let never : Some p ≡ None = sym is ∙ ap (λ (xs : List (Option ℕ)). get_or xs t None) none ∙ get_or-replicate (size_of m) t None None h in absurd (cc);
}
