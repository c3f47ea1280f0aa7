use Rattle.std.proofs.Common.{◌≡◌, ℕ, zero, suc, ◌+◌, ◌-◌, ◌<◌, List, [], ◌∷◌, ◌++◌, length, refl, sym, ap, subst, ◌∙◌, arith}
use Rattle.std.proofs.lemmas.List.{length_push}
use Rattle.letters_and_lassos.specs.declared.letters.Letter.{Letter}
use Rattle.letters_and_lassos.specs.declared.kinds.Side.{Side}
use Rattle.letters_and_lassos.specs.Word.{Word, IsLassoOver, after}
use Rattle.letters_and_lassos.proofs.Positions.{after-own}
use Rattle.machine_model.specs.Machine.{MachineModel, IsMachine, size_of}
use Rattle.machine_model.specs.Course.{IsCourse, read_at, state_after, letter_of}
use Rattle.machine_model.specs.Laws.{HasRunOn, EveryReadLassoHasARun}
use Rattle.machine_model.proofs.Tables.{size_pos}
use Rattle.machine_model.proofs.Courses.{course_more}
use Rattle.machine_model.proofs.Closing.{Closes, cut, run-cut, same-cut, state_within}
use Rattle.machine_model.proofs.Walks.{course_start, round_ring}
use Rattle.machine_model.proofs.Pigeonhole.{IsRepeated, pigeonhole}

-- a course of n letters
pub record HasCourse (m : MachineModel) (side : Side) (reads : Word) (n : ℕ) : Type 0 where
  pub letters : List Letter
  pub states : List ℕ
  pub places : length letters ≡ n
  pub course : IsCourse m side reads letters states (state_after m reads n)

module _ (m : MachineModel) (side : Side) (reads : Word) (machine : IsMachine m) (over : IsLassoOver m.reads reads) where
  course_of : (n : ℕ) → HasCourse m side reads n
  course_of zero = record { letters = []; states = []; places = refl; course = course_start m side reads (size_pos m machine.shape) }
  course_of (suc n) =
      let c : HasCourse m side reads n = course_of n in
      let letter : Letter = letter_of side m (state_after m reads n) (read_at reads n) in
      let one : length c.letters + 1 ≡ suc n = omega (arith, c.places) in
      record {
        letters = c.letters ++ letter ∷ [];
        states = c.states ++ state_after m reads n ∷ [];
        places = length_push c.letters letter ∙ one;
        course = course_more m side reads c.letters c.states (state_after m reads n) (read_at reads n) c.course (ap (read_at reads) (sym c.places))
            (state_within m machine reads over (suc n));
      }

  -- the numbers at which the word stands where its ring begins
  abbrev begin : ℕ → ℕ
  begin zero = length reads.stem
  begin (suc k) = begin k + length reads.ring

  begins : (k : ℕ) → after reads 0 (begin k) ≡ length reads.stem
  begins zero = let ring : 0 < length reads.ring = over.ring in after-own reads (length reads.stem) (omega arith)
  begins (suc k) = round_ring reads (begin k) (begin k + length reads.ring) over.ring (begins k) (omega arith)

  begin_rises : (k d : ℕ) → begin k < begin (suc k + d)
  begin_rises k zero =
      let ring : 0 < length reads.ring = over.ring in
      let e : suc k ≡ suc k + 0 = omega arith in
      subst (λ (u : ℕ). begin k < begin u) e (omega arith)
  begin_rises k (suc d) =
      let e : suc (suc k + d) ≡ suc k + suc d = omega arith in
      let before : begin k < begin (suc k + d) = begin_rises k d in
      subst (λ (u : ℕ). begin k < begin u) e (omega arith)

  pub has_run : HasRunOn m side reads
  has_run =
      let repeated : IsRepeated (λ k. state_after m reads (begin k)) (size_of m) =
      pigeonhole (size_of m) (λ k. state_after m reads (begin k)) (λ k h. state_within m machine reads over (begin k)) in
      let p : ℕ = begin repeated.first in
      let n : ℕ = begin repeated.second in
      let c : HasCourse m side reads n = course_of n in
      let d : ℕ = repeated.second - suc repeated.first in
      let sum : suc repeated.first + d ≡ repeated.second = let before : repeated.first < repeated.second = repeated.before in omega (arith, before) in
      let rises : p < n = subst (λ (u : ℕ). begin repeated.first < begin u) sum (begin_rises repeated.first d) in
      let closes : Closes m side reads c.letters c.states (state_after m reads n) p = record {
        course = c.course;
        before = rw c.places rises;
        position = rw c.places (begins repeated.first ∙ sym (begins repeated.second));
        again = sym repeated.same;
      } in
      record {
        word = cut c.letters p;
        states = c.states;
        run = run-cut m side reads c.letters c.states (state_after m reads n) p machine over closes;
        same = same-cut m side reads c.letters c.states (state_after m reads n) p machine over closes;
      }

pub every_read_lasso_has_a_run : EveryReadLassoHasARun
every_read_lasso_has_a_run m side reads machine over = has_run m side reads machine over
