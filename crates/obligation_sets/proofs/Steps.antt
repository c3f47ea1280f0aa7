use Rattle.std.proofs.Common.{◌≡◌, ℕ, ◌<◌, Bool, List, Option, All, length, map, reverse, sym, ◌∙◌, ap, subst}
use Rattle.std.proofs.lemmas.List.{length-map}
use Rattle.letters_and_lassos.specs.declared.cubes.Cube.{Cube}
use Rattle.ltl_formula.specs.declared.nodes.FormulaId.{FormulaId}
use Rattle.ltl_formula.specs.declared.nodes.Node.{Node}
use Rattle.ltl_formula.specs.declared.nodes.Node.TheVariants.{Signal}
use Rattle.obligation_sets.specs.declared.branches.Mark.{Mark}
use Rattle.obligation_sets.specs.declared.branches.Step.{Step}
use Rattle.obligation_sets.specs.Branch.{Branch}
use Rattle.obligation_sets.specs.Cubes.{forbidding, wanting}
use Rattle.obligation_sets.specs.Steps.{HasPlaces, expanding, joining, opposing}
use Rattle.obligation_sets.proofs.Lists.{All-of_reverse}

pub opposing_is : (b : Branch) (cube : Cube) (k : ℕ) (node : Node) (o : Option Cube) (s : Step) → node ≡ Signal k → cube ≡ b.cube → o ≡ forbidding cube k → s ≡ joining b o → s ≡ opposing b node
opposing_is b cube k node o s is same made joined = joined ∙ ap (joining b) (made ∙ ap (λ (c : Cube). forbidding c k) same) ∙ ap (opposing b) (sym is)

pub expanding_signal_is : (ns : List Node) (b : Branch) (f : FormulaId) (cube : Cube) (k : ℕ) (node : Node) (o : Option Cube) (s : Step) → Signal k ≡ node → cube ≡ b.cube → o ≡ wanting cube k → s ≡ joining b o → s ≡ expanding ns b f node
expanding_signal_is ns b f cube k node o s is same made joined = joined ∙ ap (joining b) (made ∙ ap (λ (c : Cube). wanting c k) same) ∙ ap (expanding ns b f) is

pub work_within : (work : List FormulaId) (done : List Bool) (items : List FormulaId) (marks : List Mark) → All (λ f. f.0 < length done) work → reverse items ≡ work → map (λ mark. mark.done) marks ≡ done → All (λ f. f.0 < length marks) items
work_within work done items marks all is same =
    subst (λ (m : ℕ). All (λ f. f.0 < m) items) (sym (sym (length-map marks (λ mark. mark.done)) ∙ ap length same))
    (All-of_reverse (λ f. f.0 < length done) items (subst (λ (fs : List FormulaId). All (λ f. f.0 < length done) fs) (sym is) all))

pub work_places : (n : ℕ) (b : Branch) → HasPlaces n b → All (λ f. f.0 < length b.done) b.work
work_places n b places = subst (λ (m : ℕ). All (λ f. f.0 < m) b.work) (sym places.done) places.work
