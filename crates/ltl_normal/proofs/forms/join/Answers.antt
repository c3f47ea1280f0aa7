use Rattle.std.proofs.Common.{◌≡◌, eqb, sym, ap, ◌∙◌}
use Rattle.std.proofs.lemmas.Option.{get_or_from_slice_get}
use Rattle.ltl_formula.specs.declared.nodes.Node.TheVariants.{False}
use Rattle.ltl_formula.specs.Added.{added}
use Rattle.ltl_normal.specs.declared.simplify.Outcome.TheVariants.{First, Second, Whole}
use Rattle.ltl_normal.specs.Simplify.{constant_of, outcome_of}
use Rattle.ltl_normal.specs.NormalNodes.{chosen_step, constant_at, join_ids, whole_node}
use Rattle.ltl_normal.proofs.Performing.{Performs-add, Performs-gives, Performs-like}
use Rattle.ltl_normal.proofs.forms.join.Goals as goal

pub returns-in-First : goal.returns-in-First
returns-in-First c =
    let now = c.args.formulas.now in
    let a = c.args.a in
    let b = c.args.b in
    let joint = c.args.joint in
    let first : constant_at now a ≡ c.constant-first.result = ap constant_of (get_or_from_slice_get now a.0 c.node.result False c.node.ensures.value) ∙ sym c.constant-first.ensures in
    let second : constant_at now b ≡ c.constant-second.result = ap constant_of (get_or_from_slice_get now b.0 c.node-2.result False c.node-2.ensures.value) ∙ sym c.constant-second.ensures in
    let outcome : outcome_of joint (constant_at now a) (constant_at now b) (eqb a.0 b.0) ≡ First =
    ap (λ x. outcome_of joint x (constant_at now b) (eqb a.0 b.0)) first ∙ ap (λ y. outcome_of joint c.constant-first.result y (eqb a.0 b.0)) second
    ∙ ap (outcome_of joint c.constant-first.result c.constant-second.result) (sym c.eq.ensures) ∙ sym c.in-First.ensures in
    Performs-gives (join_ids c.args.most joint a b) now a c.node.ensures.list c.requires.a_stands (ap (λ o. chosen_step c.args.most o a b (whole_node joint a b) now) outcome)

pub returns-in-Second : goal.returns-in-Second
returns-in-Second c =
    let now = c.args.formulas.now in
    let a = c.args.a in
    let b = c.args.b in
    let joint = c.args.joint in
    let first : constant_at now a ≡ c.constant-first.result = ap constant_of (get_or_from_slice_get now a.0 c.node.result False c.node.ensures.value) ∙ sym c.constant-first.ensures in
    let second : constant_at now b ≡ c.constant-second.result = ap constant_of (get_or_from_slice_get now b.0 c.node-2.result False c.node-2.ensures.value) ∙ sym c.constant-second.ensures in
    let outcome : outcome_of joint (constant_at now a) (constant_at now b) (eqb a.0 b.0) ≡ Second =
    ap (λ x. outcome_of joint x (constant_at now b) (eqb a.0 b.0)) first ∙ ap (λ y. outcome_of joint c.constant-first.result y (eqb a.0 b.0)) second
    ∙ ap (outcome_of joint c.constant-first.result c.constant-second.result) (sym c.eq.ensures) ∙ sym c.in-Second.ensures in
    Performs-gives (join_ids c.args.most joint a b) now b c.node.ensures.list c.requires.b_stands (ap (λ o. chosen_step c.args.most o a b (whole_node joint a b) now) outcome)

pub returns-in-Whole : goal.returns-in-Whole
returns-in-Whole c =
    let now = c.args.formulas.now in
    let a = c.args.a in
    let b = c.args.b in
    let joint = c.args.joint in
    let first : constant_at now a ≡ c.constant-first.result = ap constant_of (get_or_from_slice_get now a.0 c.node.result False c.node.ensures.value) ∙ sym c.constant-first.ensures in
    let second : constant_at now b ≡ c.constant-second.result = ap constant_of (get_or_from_slice_get now b.0 c.node-2.result False c.node-2.ensures.value) ∙ sym c.constant-second.ensures in
    let outcome : outcome_of joint (constant_at now a) (constant_at now b) (eqb a.0 b.0) ≡ Whole =
    ap (λ x. outcome_of joint x (constant_at now b) (eqb a.0 b.0)) first ∙ ap (λ y. outcome_of joint c.constant-first.result y (eqb a.0 b.0)) second
    ∙ ap (outcome_of joint c.constant-first.result c.constant-second.result) (sym c.eq.ensures) ∙ sym c.in-Whole.ensures in
    Performs-like (join_ids c.args.most joint a b) (λ ns. added c.args.most ns c.whole.result) now c.add.new.self c.add.result
    (ap (λ o. chosen_step c.args.most o a b (whole_node joint a b) now) outcome ∙ ap (added c.args.most now) (sym c.whole.ensures))
    (Performs-add c.args.most c.whole.result now c.add.new.self c.add.result c.add.ensures.ok c.add.ensures.too_many c.add.ensures.err c.add.ensures.stands c.add.ensures.grows c.add.ensures.list)
