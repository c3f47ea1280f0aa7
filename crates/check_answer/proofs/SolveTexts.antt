-- Two ways in which a document asks for a text as `solve` takes it give the same.
use Rattle.std.proofs.Common.{◌≡◌, ℕ, true, List, Option, Some, None, refl}
use Rattle.std.specs.Prelude.{◌&&◌, is_some}
use Rattle.std.specs.Bool.{beq}
use Rattle.letters_and_lassos.specs.declared.kinds.Kind.{Kind}
use Rattle.letters_and_lassos.specs.contracts.kinds.KindPartialEq.TheImpl.{ghosts as kind_ghosts}
use Rattle.solve_ground.specs.declared.texts.SolveText.{SolveText}
use Rattle.solve_ground.specs.Laws.{IsSameText, SolveTextsAreDetermined}
use Rattle.solve_ground.specs.SolveText.{IsSolveText}
use Rattle.solved_text.specs.declared.header.Header.{Header}
use Rattle.solve_check.specs.Asked.{CannotBeConverted, IsAsked, as_given, converted, faulty, in_vain, kind_said, otherwise}
use Rattle.solve_check.specs.Given.{is_taken_so}

taken_same : (kind : Kind) (t t' : SolveText) → IsSameText t t' → is_taken_so t kind true ≡ is_taken_so t' kind true
taken_same kind t t' same = λ i. kind_ghosts.eq (same.kind i) kind && beq (is_some (same.semantics i)) true

pub record AreAlike (given given' : Option Kind) (t t' : SolveText) : Type 0 where
  pub given_alike : given ≡ given'
  pub same : IsSameText t t'

module _ (texts : SolveTextsAreDetermined) (text : List ℕ) where
  not_both : (kind : Kind) (t : SolveText) → IsSolveText text None t → is_taken_so t kind true ≡ true → CannotBeConverted text kind → ⊥
  not_both kind t is so (faulty code place fault) = texts.no_fault text None t code place is fault
  not_both kind t is so (otherwise t' is' isnt) = let same = taken_same kind t t' (texts.one_text text None t t' is is') in cc

  pub same_asked : (header : Header) (given given' : Option Kind) (t t' : SolveText) → IsAsked text header given t → IsAsked text header given' t' → AreAlike given given' t t'
  same_asked header _ _ _ _ (as_given t unsaid is) (as_given t' unsaid' is') =
      record { given_alike = refl; same = texts.one_text text (Some (kind_said header)) t t' is is' }
  same_asked header _ _ _ _ (as_given t unsaid is) (converted t' said is' so) = absurd cc
  same_asked header _ _ _ _ (as_given t unsaid is) (in_vain t' said cannot is') = absurd cc
  same_asked header _ _ _ _ (converted t said is so) (as_given t' unsaid is') = absurd cc
  same_asked header _ _ _ _ (converted t said is so) (converted t' said' is' so') = record { given_alike = refl; same = texts.one_text text None t t' is is' }
  same_asked header _ _ _ _ (converted t said is so) (in_vain t' said' cannot is') = absurd (not_both (kind_said header) t is so cannot)
  same_asked header _ _ _ _ (in_vain t said cannot is) (as_given t' unsaid is') = absurd cc
  same_asked header _ _ _ _ (in_vain t said cannot is) (converted t' said' is' so) = absurd (not_both (kind_said header) t' is' so cannot)
  same_asked header _ _ _ _ (in_vain t said cannot is) (in_vain t' said' cannot' is') =
      record { given_alike = refl; same = texts.one_text text (Some (kind_said header)) t t' is is' }
