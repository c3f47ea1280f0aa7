use Rattle.std.proofs.Common.{ap, sym, ◌∙◌, ◌||◌, false, true}
use Rattle.letters_and_lassos.specs.Word.{lasso_len, next}
use Rattle.letters_and_lassos.proofs.Positions.{next_within}
use Rattle.ltl_formula.specs.Nodes.{tree_at}
use Rattle.ltl_formula.specs.Truth.{holds, until_at, release_at}
use Rattle.lasso_eval.specs.Rows.{row_truth}
use Rattle.lasso_eval.proofs.RowFacts.{rows-like, until-same, release-same, row-of-part, until_at-second, release_at-second}
use Rattle.lasso_eval.proofs.evaluate.row_of.Goals as goal

pub returns-in-Next : goal.returns-in-Next
returns-in-Next c =
    let w = c.args.lasso.now in
    let part = c.part-in-Next.result.now in
    let is_part = row-of-part w c.args.formulas.now c.args.rows.now c.args.f c.in-Next.a part c.requires.table c.requires.before c.in-Next.ensures.parts c.part-in-Next.ensures in
    rows-like c.next.result (lasso_len w) (λ k. row_truth part (next w k)) (holds w (tree_at c.args.formulas.now c.args.f))
    (λ i h. is_part.each (next w i) (next_within w i c.len-len.ensures.ring h) ∙ sym (ap (λ t. holds w t i) c.in-Next.ensures.tree)) c.next.ensures

pub returns-in-Finally : goal.returns-in-Finally
returns-in-Finally c =
    let w = c.args.lasso.now in
    let nodes = c.args.formulas.now in
    let part = c.part-in-Finally.result.now in
    let is_part = row-of-part w nodes c.args.rows.now c.args.f c.in-Finally.a part c.requires.table c.requires.before c.in-Finally.ensures.parts c.part-in-Finally.ensures in
    rows-like c.finally.result (lasso_len w) (until_at w (λ k. true) (row_truth part)) (holds w (tree_at nodes c.args.f))
    (λ i h. until_at-second w c.len-len.ensures.ring (λ k. true) (holds w (tree_at nodes c.in-Finally.a)) part is_part i h ∙ sym (ap (λ t. holds w t i) c.in-Finally.ensures.tree)) c.finally.ensures

pub returns-in-Globally : goal.returns-in-Globally
returns-in-Globally c =
    let w = c.args.lasso.now in
    let nodes = c.args.formulas.now in
    let part = c.part-in-Globally.result.now in
    let is_part = row-of-part w nodes c.args.rows.now c.args.f c.in-Globally.a part c.requires.table c.requires.before c.in-Globally.ensures.parts c.part-in-Globally.ensures in
    rows-like c.globally.result (lasso_len w) (release_at w (λ k. false) (row_truth part)) (holds w (tree_at nodes c.args.f))
    (λ i h. release_at-second w c.len-len.ensures.ring (λ k. false) (holds w (tree_at nodes c.in-Globally.a)) part is_part i h ∙ sym (ap (λ t. holds w t i) c.in-Globally.ensures.tree)) c.globally.ensures

pub returns-in-Until : goal.returns-in-Until
returns-in-Until c =
    let w = c.args.lasso.now in
    let nodes = c.args.formulas.now in
    let first = c.part-in-Until.result.now in
    let second = c.part-in-Until-2.result.now in
    let is_first = row-of-part w nodes c.args.rows.now c.args.f c.in-Until.a first c.requires.table c.requires.before c.in-Until.ensures.parts.0 c.part-in-Until.ensures in
    let is_second = row-of-part w nodes c.args.rows.now c.args.f c.in-Until.b second c.requires.table c.requires.before c.in-Until.ensures.parts.1 c.part-in-Until-2.ensures in
    rows-like c.until.result (lasso_len w) (until_at w (row_truth first) (row_truth second)) (holds w (tree_at nodes c.args.f))
    (λ i h. until-same w c.len-len.ensures.ring (holds w (tree_at nodes c.in-Until.a)) (holds w (tree_at nodes c.in-Until.b)) first second is_first is_second i h
    ∙ sym (ap (λ t. holds w t i) c.in-Until.ensures.tree)) c.until.ensures.value

pub returns-in-Release : goal.returns-in-Release
returns-in-Release c =
    let w = c.args.lasso.now in
    let nodes = c.args.formulas.now in
    let first = c.part-in-Release.result.now in
    let second = c.part-in-Release-2.result.now in
    let is_first = row-of-part w nodes c.args.rows.now c.args.f c.in-Release.a first c.requires.table c.requires.before c.in-Release.ensures.parts.0 c.part-in-Release.ensures in
    let is_second = row-of-part w nodes c.args.rows.now c.args.f c.in-Release.b second c.requires.table c.requires.before c.in-Release.ensures.parts.1 c.part-in-Release-2.ensures in
    rows-like c.release.result (lasso_len w) (release_at w (row_truth first) (row_truth second)) (holds w (tree_at nodes c.args.f))
    (λ i h. release-same w c.len-len.ensures.ring (holds w (tree_at nodes c.in-Release.a)) (holds w (tree_at nodes c.in-Release.b)) first second is_first is_second i h
    ∙ sym (ap (λ t. holds w t i) c.in-Release.ensures.tree)) c.release.ensures

pub returns-in-WeakUntil : goal.returns-in-WeakUntil
returns-in-WeakUntil c =
    let w = c.args.lasso.now in
    let nodes = c.args.formulas.now in
    let first = c.part-in-WeakUntil.result.now in
    let second = c.part-in-WeakUntil-2.result.now in
    let is_first = row-of-part w nodes c.args.rows.now c.args.f c.in-WeakUntil.a first c.requires.table c.requires.before c.in-WeakUntil.ensures.parts.0 c.part-in-WeakUntil.ensures in
    let is_second = row-of-part w nodes c.args.rows.now c.args.f c.in-WeakUntil.b second c.requires.table c.requires.before c.in-WeakUntil.ensures.parts.1 c.part-in-WeakUntil-2.ensures in
    rows-like c.weak_until.result (lasso_len w) (λ k. until_at w (row_truth first) (row_truth second) k || release_at w (λ p. false) (row_truth first) k) (holds w (tree_at nodes c.args.f))
    (λ i h. ap (λ x. x || release_at w (λ p. false) (row_truth first) i)
    (until-same w c.len-len.ensures.ring (holds w (tree_at nodes c.in-WeakUntil.a)) (holds w (tree_at nodes c.in-WeakUntil.b)) first second is_first is_second i h)
    ∙ ap (λ y. until_at w (holds w (tree_at nodes c.in-WeakUntil.a)) (holds w (tree_at nodes c.in-WeakUntil.b)) i || y)
    (release_at-second w c.len-len.ensures.ring (λ p. false) (holds w (tree_at nodes c.in-WeakUntil.a)) first is_first i h)
    ∙ sym (ap (λ t. holds w t i) c.in-WeakUntil.ensures.tree)) c.weak_until.ensures
