-- What holds of a side's problem, carried to what follows.
use Rattle.std.proofs.Common.{◌≡◌, Option, Some, None, refl, sym, subst}
use Rattle.letters_and_lassos.specs.declared.kinds.Side.{Side}
use Rattle.letters_and_lassos.specs.declared.kinds.Side.TheVariants.{System, Environment}
use Rattle.machine_model.specs.declared.problems.Problem.{Problem}
use Rattle.synth_engine.specs.Outcomes.{OfSide}

-- the problem of a side
abbrev pub IsOf : Problem → Option Problem → Side → Problem → Type 0
IsOf s e System p = s ≡ p
IsOf s e Environment p = e ≡ Some p

pub record Found (s : Problem) (e : Option Problem) (side : Side) (P : Problem → Type 0) : Type 0 where
  pub problem : Problem
  pub of : IsOf s e side problem
  pub holds : P problem

pub find : (s : Problem) (e : Option Problem) (side : Side) (P : Problem → Type 0) → OfSide s e P side → Found s e side P
find s e System P h = record { problem = s; of = refl; holds = h }
find s None Environment P h = absurd h
find s (Some p) Environment P h = record { problem = p; of = refl; holds = h }

pub of_side : (s : Problem) (e : Option Problem) (side : Side) (P : Problem → Type 0) (p : Problem) → IsOf s e side p → P p → OfSide s e P side
of_side s e System P p of h = subst P (sym of) h
of_side s e Environment P p of h = subst (λ o. OfSide s o P Environment) (sym of) h

pub on_side : (s : Problem) (e : Option Problem) (side : Side) (P Q : Problem → Type 0) → ((p : Problem) → P p → Q p) → OfSide s e P side → OfSide s e Q side
on_side s e System P Q f h = f s h
on_side s None Environment P Q f h = h
on_side s (Some p) Environment P Q f h = f p h

pub out_of : (s : Problem) (e : Option Problem) (side : Side) (P : Problem → Type 0) (X : Type 0) → ((p : Problem) → IsOf s e side p → P p → X) → OfSide s e P side → X
out_of s e System P X f h = f s refl h
out_of s None Environment P X f h = absurd h
out_of s (Some p) Environment P X f h = f p refl h

pub at_side : (s : Problem) (e : Option Problem) (side : Side) (P : Problem → Type 0) (p : Problem) → IsOf s e side p → OfSide s e P side → P p
at_side s e System P p of h = subst P of h
at_side s e Environment P p of h = subst (λ o. OfSide s o P Environment) of h

pub on_both_of : (s : Problem) (e : Option Problem) (side : Side) (P Q R : Problem → Type 0) → ((p : Problem) → IsOf s e side p → P p → Q p → R p) → OfSide s e P side → OfSide s e Q side → OfSide s e R side
on_both_of s e System P Q R f h k = f s refl h k
on_both_of s None Environment P Q R f h k = h
on_both_of s (Some p) Environment P Q R f h k = f p refl h k
