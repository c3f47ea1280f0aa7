use Rattle.std.proofs.Common.{◌≡◌, List, false, length, replicate, reverse, refl, ◌∙◌, ap, rules}
use Rattle.std.proofs.lemmas.List.{reverse-reverse}
use Rattle.ltl_formula.specs.declared.nodes.FormulaId.{FormulaId}
use Rattle.ltl_formula.specs.declared.nodes.Node.{Node}
use Rattle.obligation_sets.specs.declared.branches.Mark.{Mark}
use Rattle.obligation_sets.specs.Branch.{Branch}
use Rattle.obligation_sets.specs.Covers.{start_branch}
use Rattle.obligation_sets.specs.Cubes.{free_cube}
use Rattle.obligation_sets.specs.Marks.{done_of, next_of, postponed_of}
use Rattle.obligation_sets.proofs.Cubes.{same_cube}
use Rattle.obligation_sets.proofs.Marks.{alike}
use Rattle.obligation_sets.proofs.branches.Branch.start.Goals as goal

-- what a formula's mark is at first
abbrev unmarked : Mark
unmarked = record { done = false; next = false; postponed = false }

begins : (ns : List Node) (set : List FormulaId) (b : Branch) (marks : List Mark) → marks ≡ replicate (length ns) unmarked → b.work ≡ set → b.cube ≡ free_cube → b.done ≡ done_of marks → b.next ≡ next_of marks → b.postponed ≡ postponed_of marks → b ≡ start_branch ns set
begins ns set b marks are work cube done next postponed = λ i. record {
  work = work i;
  done = (done ∙ ap (λ (ms : List Mark). done_of ms) are ∙ alike (λ mark. mark.done) (length ns) unmarked refl) i;
  cube = cube i;
  next = (next ∙ ap (λ (ms : List Mark). next_of ms) are ∙ alike (λ mark. mark.next) (length ns) unmarked refl) i;
  postponed = (postponed ∙ ap (λ (ms : List Mark). postponed_of ms) are ∙ alike (λ mark. mark.postponed) (length ns) unmarked refl) i;
}

pub returns-clause-value : goal.returns-clause-value
returns-clause-value c =
    let marks : c.in_ok-vec.field-0.items ≡ replicate (length c.args.formulas.now) unmarked = c.in_ok-vec.ensures.items_if_clones_equal (λ y h. search rules) ∙ ap (λ n. replicate n unmarked) c.len.ensures.value in
    let items : c.reverse.new.self.items ≡ reverse c.args.set.now = c.reverse.ensures.items ∙ ap reverse (c.in_ok-work.ensures.items ∙ c.ids.ensures.value) in
    begins c.args.formulas.now c.args.set.now _ c.in_ok-vec.field-0.items marks (ap reverse items ∙ reverse-reverse c.args.set.now) (same_cube _ free_cube refl refl) refl refl refl
