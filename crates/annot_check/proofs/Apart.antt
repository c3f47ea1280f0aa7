-- A list of pairs has at most one cause, and a valid one has none.
use Rattle.std.proofs.Common.{◌≡◌, ℕ, ◌<◌, List, refl, ap, subst, arith, inl, inr}
use Rattle.std.proofs.lemmas.Bool.{cases_eq, cases_lt}
use Rattle.letters_and_lassos.specs.declared.kinds.Kind.{Kind}
use Rattle.letters_and_lassos.specs.declared.kinds.Side.{Side}
use Rattle.machine_model.specs.Automaton.{AutomatonModel}
use Rattle.aiger_text.specs.Circuit.{Circuit}
use Rattle.annot_check.specs.declared.pairs.Pair.{Pair}
use Rattle.annot_check.specs.declared.faults.AnnotFault.{AnnotFault}
use Rattle.annot_check.specs.declared.faults.AnnotFault.TheVariants.{NoMemory, BadLine, NoStart, NotMoore, Broken}
use Rattle.annot_check.specs.Valid.{IsValidPairList, KeepsRule}
use Rattle.annot_check.specs.Causes.{BreaksRule, IsCause, IsFirstBroken, IsFirstByInput}
use Rattle.annot_check.specs.Laws.{CausesAreApart}

module _ (side : Side) (c : Circuit) (kind : Kind) (a : AutomatonModel) (pairs : List Pair) where
  -- no pair keeps the rule and breaks it
  clash : (pair : Pair) → KeepsRule side c a pairs pair → BreaksRule side c a pairs pair → ⊥
  clash pair keeps breaks = breaks.missing (keeps.rule breaks.letter breaks.next breaks.state breaks.goes breaks.edge)

  -- two that are both the first are one
  trichotomy : (j k : ℕ) → (j < k → ⊥) → (k < j → ⊥) → j ≡ k
  trichotomy j k not_less not_more =
      elim (cases_lt j k) [
        | inl less ↦ absurd (not_less less)
        | inr more ↦ elim (cases_eq j k) [ inl same ↦ same | inr other ↦ absurd (not_more (let ne : j ≡ k → ⊥ = other in omega arith)) ]
      ]

  one_output : (j k : ℕ) → IsFirstByInput c j → IsFirstByInput c k → j ≡ k
  one_output j k f g = trichotomy j k (λ less. g.first j less f.leads) (λ less. f.first k less g.leads)

  one_pair : (j k : ℕ) → IsFirstBroken side c a pairs j → IsFirstBroken side c a pairs k → j ≡ k
  one_pair j k f g =
      trichotomy j k (λ less. clash f.pair (subst (KeepsRule side c a pairs) f.at (g.first j f.pair less)) f.breaks)
      (λ less. clash g.pair (subst (KeepsRule side c a pairs) g.at (f.first k g.pair less)) g.breaks)

  pub valid_none : (fault : AnnotFault) → IsValidPairList side c kind a pairs → IsCause side c kind a pairs fault → fault ≡ NoMemory
  valid_none NoMemory valid cause = refl
  valid_none (BadLine n) valid cause = absurd cause
  valid_none NoStart valid cause = absurd (cause valid.start)
  valid_none (NotMoore o) valid cause = absurd ((valid.moore cause.1).outputs o cause.2.output cause.2.leads)
  valid_none (Broken j) valid cause =
      absurd (clash cause.2.pair (subst (KeepsRule side c a pairs) cause.2.at (valid.rules j cause.2.pair cause.2.within)) cause.2.breaks)

  pub one_cause : (f g : AnnotFault) → IsCause side c kind a pairs f → IsCause side c kind a pairs g → (f ≡ NoMemory → ⊥) → (g ≡ NoMemory → ⊥) → f ≡ g
  one_cause NoMemory g of_f of_g some_f some_g = absurd (some_f refl)
  one_cause (BadLine n) g of_f of_g some_f some_g = absurd of_f
  one_cause NoStart NoMemory of_f of_g some_f some_g = absurd (some_g refl)
  one_cause NoStart (BadLine n) of_f of_g some_f some_g = absurd of_g
  one_cause NoStart NoStart of_f of_g some_f some_g = refl
  one_cause NoStart (NotMoore o) of_f of_g some_f some_g = absurd (of_f of_g.0)
  one_cause NoStart (Broken j) of_f of_g some_f some_g = absurd (of_f of_g.0)
  one_cause (NotMoore o) NoMemory of_f of_g some_f some_g = absurd (some_g refl)
  one_cause (NotMoore o) (BadLine n) of_f of_g some_f some_g = absurd of_g
  one_cause (NotMoore o) NoStart of_f of_g some_f some_g = absurd (of_g of_f.0)
  one_cause (NotMoore o) (NotMoore p) of_f of_g some_f some_g = ap NotMoore (one_output o p of_f.2 of_g.2)
  one_cause (NotMoore o) (Broken j) of_f of_g some_f some_g = absurd ((of_g.1 of_f.1).outputs o of_f.2.output of_f.2.leads)
  one_cause (Broken j) NoMemory of_f of_g some_f some_g = absurd (some_g refl)
  one_cause (Broken j) (BadLine n) of_f of_g some_f some_g = absurd of_g
  one_cause (Broken j) NoStart of_f of_g some_f some_g = absurd (of_g of_f.0)
  one_cause (Broken j) (NotMoore o) of_f of_g some_f some_g = absurd ((of_f.1 of_g.1).outputs o of_g.2.output of_g.2.leads)
  one_cause (Broken j) (Broken k) of_f of_g some_f some_g = ap Broken (one_pair j k of_f.2 of_g.2)

pub causes_are_apart : (c : Circuit) → CausesAreApart c
causes_are_apart c = record {
  valid = λ side kind a pairs fault valid cause. valid_none side c kind a pairs fault valid cause;
  one = λ side kind a pairs f g of_f of_g some_f some_g. one_cause side c kind a pairs f g of_f of_g some_f some_g;
}
