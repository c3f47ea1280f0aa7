-- What the code keeps of the values of a written set's parts: their numbers, or the first byte of the first that isn't one.
use Rattle.std.specs.Prelude.{ℕ, List, [], ◌∷◌, ◌++◌, Option, None, Some, ℤ}
use Rattle.tlsf_syntax.specs.Tree.{Trees}
use Rattle.spec_faults.specs.declared.code.SpecCode.TheVariants.{WrongSort}
use Rattle.tlsf_values.specs.declared.value.Value.{Value}
use Rattle.tlsf_values.specs.declared.work.Work.{Work}
use Rattle.tlsf_values.specs.Names.{Binding}
use Rattle.tlsf_values.specs.Outcomes.{Outcome, gives, go_on, Checked, fine, faulty, and_then, checked}
use Rattle.tlsf_values.specs.Sorts.{number_in}
use Rattle.tlsf_values.specs.Values.{Evaluator, numbers_in, values_at}

abbrev pub parts_seen : Option ℕ → List ℤ → Checked (List ℤ)
parts_seen None zs = fine zs
parts_seen (Some place) zs = faulty WrongSort place

-- one more part, which must be a number
abbrev pub with_part : Checked (List ℤ) → ℕ → Value → Checked (List ℤ)
with_part so_far place v = and_then so_far (λ zs. and_then (number_in place v) (λ z. fine (zs ++ z ∷ [])))

-- the numbers of the expressions, once all are evaluated
abbrev pub numbers_at : Evaluator → List Binding → Trees → Work → Outcome (List ℤ)
numbers_at r bound ts w = go_on (values_at r bound [] ts w) (λ vs w. checked (numbers_in [] ts vs) (λ zs w. gives zs w) w)
