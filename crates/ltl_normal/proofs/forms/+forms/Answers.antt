use Rattle.std.proofs.Common.{◌≤◌, not, true, false, length, sym, subst, Ok, Err, arith}
use Rattle.std.proofs.lemmas.Option.{get_or_from_slice_get}
use Rattle.ltl_formula.specs.declared.nodes.Node.TheVariants.{False}
use Rattle.ltl_formula.specs.declared.nodes.TheConstants.{MAX_SIGNALS}
use Rattle.ltl_formula.proofs.Lists.{Grows-stands}
use Rattle.std.proofs.lemmas.Result.{err_from_is_err_and}
use Rattle.ltl_formula.specs.Nodes.{SignalBelow, tree_at}
use Rattle.ltl_normal.specs.declared.simplify.Joint.TheVariants.{And, Or, Release}
use Rattle.ltl_normal.specs.Simplify.{facing_of}
use Rattle.ltl_normal.specs.NormalNodes.{form_in, join_ids, nodes_to}
use Rattle.ltl_normal.specs.Performs.{Performs, part_bound}
use Rattle.ltl_normal.proofs.Performing.{memo-kept, Performs-join, Performs-join-fails, Performs-found, moved, IsMemo-with, IsMemo-grows, PartsBelow-mono, part_bound-le}
use Rattle.ltl_normal.proofs.forms.+forms.Goals as goal

pub both-returns-in_err-second-clause-performs : goal.both-returns-in_err-second-clause-performs
both-returns-in_err-second-clause-performs t c =
    let p = err_from_is_err_and c.from_residual-in_err-second.result c.from_residual-in_err-second.ensures.1 in
    rw (p.1, p.2)
    (Performs-join-fails c.args.most c.args.joint (form_in c.args.most c.args.a.keep (tree_at c.args.formulas.now c.args.a.id)) (form_in c.args.most c.args.b.keep (tree_at c.args.formulas.now c.args.b.id)) c.args.formulas.now _ _ c.in_ok-first.first _
    c.in_ok-first.ensures.performs
    (moved (λ t u. form_in c.args.most c.args.b.keep u) c.args.a.id c.args.b.id c.args.formulas.now _ _ _ c.in_ok-first.ensures.performs.grows c.requires.a_stands c.requires.b_stands c.in_err-second.ensures.performs))

pub both-returns-clause-performs : goal.both-returns-clause-performs
both-returns-clause-performs t c =
    Performs-join c.args.most c.args.joint (form_in c.args.most c.args.a.keep (tree_at c.args.formulas.now c.args.a.id)) (form_in c.args.most c.args.b.keep (tree_at c.args.formulas.now c.args.b.id)) c.args.formulas.now _ _ _ _ _ _
    c.in_ok-first.ensures.performs
    (moved (λ t u. form_in c.args.most c.args.b.keep u) c.args.a.id c.args.b.id c.args.formulas.now _ _ _ c.in_ok-first.ensures.performs.grows c.requires.a_stands c.requires.b_stands c.in_ok-second.ensures.performs)
    c.join.ensures

pub both-returns-clause-memo : goal.both-returns-clause-memo
both-returns-clause-memo t c = memo-kept c.args.most _ _ _ _ _ c.in_ok-second.ensures.performs.list c.in_ok-second.ensures.memo c.join.ensures

pub build-returns-in-True-clause-memo : goal.build-returns-in-True-clause-memo
build-returns-in-True-clause-memo t c = memo-kept c.args.most _ _ _ _ _ c.requires.list c.requires.memo c.add_constant.ensures

pub build-returns-in-False-clause-memo : goal.build-returns-in-False-clause-memo
build-returns-in-False-clause-memo t c = memo-kept c.args.most _ _ _ _ _ c.requires.list c.requires.memo c.add_constant-in-False.ensures

pub build-returns-in-Signal-clause-memo : goal.build-returns-in-Signal-clause-memo
build-returns-in-Signal-clause-memo t c = memo-kept c.args.most _ _ _ _ _ c.requires.list c.requires.memo c.add_literal.ensures

pub equivalence-returns-in_err-second-clause-performs : goal.equivalence-returns-in_err-second-clause-performs
equivalence-returns-in_err-second-clause-performs t c =
    let p = err_from_is_err_and c.from_residual-in_err-second.result c.from_residual-in_err-second.ensures.1 in
    rw (p.1, p.2)
    (Performs-join-fails c.args.most Or
    ((nodes_to c.args.most).join And (form_in c.args.most true (tree_at c.args.formulas.now c.args.a)) (form_in c.args.most c.args.b.keep (tree_at c.args.formulas.now c.args.b.id)))
    ((nodes_to c.args.most).join And (form_in c.args.most false (tree_at c.args.formulas.now c.args.a)) (form_in c.args.most (not c.args.b.keep) (tree_at c.args.formulas.now c.args.b.id)))
    c.args.formulas.now _ _ c.in_ok-first.first _ c.in_ok-first.ensures.performs
    (moved (λ t u. (nodes_to c.args.most).join And (form_in c.args.most false t) (form_in c.args.most (not c.args.b.keep) u)) c.args.a c.args.b.id c.args.formulas.now _ _ _ c.in_ok-first.ensures.performs.grows c.requires.a_stands c.requires.b_stands c.in_err-second.ensures.performs))

pub equivalence-returns-clause-performs : goal.equivalence-returns-clause-performs
equivalence-returns-clause-performs t c =
    Performs-join c.args.most Or
    ((nodes_to c.args.most).join And (form_in c.args.most true (tree_at c.args.formulas.now c.args.a)) (form_in c.args.most c.args.b.keep (tree_at c.args.formulas.now c.args.b.id)))
    ((nodes_to c.args.most).join And (form_in c.args.most false (tree_at c.args.formulas.now c.args.a)) (form_in c.args.most (not c.args.b.keep) (tree_at c.args.formulas.now c.args.b.id)))
    c.args.formulas.now _ _ _ _ _ _
    c.in_ok-first.ensures.performs
    (moved (λ t u. (nodes_to c.args.most).join And (form_in c.args.most false t) (form_in c.args.most (not c.args.b.keep) u)) c.args.a c.args.b.id c.args.formulas.now _ _ _ c.in_ok-first.ensures.performs.grows c.requires.a_stands c.requires.b_stands c.in_ok-second.ensures.performs)
    c.join.ensures

pub equivalence-returns-clause-memo : goal.equivalence-returns-clause-memo
equivalence-returns-clause-memo t c = memo-kept c.args.most _ _ _ _ _ c.in_ok-second.ensures.performs.list c.in_ok-second.ensures.memo c.join.ensures

pub form-returns-in-Some-clause-performs : goal.form-returns-in-Some-clause-performs
form-returns-in-Some-clause-performs t c =
    Performs-found c.args.most c.args.forms.now c.args.part.keep c.args.part.id c.in-Some.made c.args.formulas.now c.requires.list c.requires.memo (sym c.in-Some.ensures)

pub form-build-requires : goal.form-build-requires
form-build-requires t c =
    let now = c.args.formulas.now in
    let place = c.args.part.id.0 in
    let bound : part_bound c.node.result ≤ place = part_bound-le place c.node.result c.node.ensures.parts in (
      omega arith,
      (
        PartsBelow-mono place (length now) c.node.result (omega arith) c.node.ensures.parts,
        (
          subst (SignalBelow MAX_SIGNALS) (get_or_from_slice_get now place c.node.result False c.node.ensures.value) (c.requires.list.signals place),
          (c.requires.list, (c.requires.memo, c.requires.room)),
        ),
      ),
    )

pub form-returns-clause-memo : goal.form-returns-clause-memo
form-returns-clause-memo t c =
    IsMemo-with c.args.most c.build.new.forms c.args.part.id c.in_ok-made.made c.args.part.keep c.args.formulas.now c.build.new.formulas
    c.requires.list c.requires.stands c.in_ok-made.ensures.performs.list (rw c.node.ensures.tree c.in_ok-made.ensures.performs.ok)
    c.in_ok-made.ensures.memo (let most = c.requires.list.most in omega arith) c.with.result c.with.ensures

pub from_constant-form-requires : goal.from_constant-form-requires
from_constant-form-requires t c =
    let mid = c.add_constant.new.formulas in (
      omega arith,
      (
        Grows-stands c.args.formulas.now mid c.args.a.id c.in_ok-first.ensures.grows c.requires.stands,
        (
          c.in_ok-first.ensures.list,
          (IsMemo-grows c.args.most c.args.forms.now c.args.formulas.now mid c.requires.list c.in_ok-first.ensures.list c.in_ok-first.ensures.grows c.requires.memo, c.requires.room),
        ),
      ),
    )

pub from_constant-returns-in_err-second-clause-performs : goal.from_constant-returns-in_err-second-clause-performs
from_constant-returns-in_err-second-clause-performs t c =
    let p = err_from_is_err_and c.from_residual-in_err-second.result c.from_residual-in_err-second.ensures.1 in
    rw (p.1, p.2)
    (Performs-join-fails c.args.most c.args.joint ((nodes_to c.args.most).constant c.args.value) (form_in c.args.most c.args.a.keep (tree_at c.args.formulas.now c.args.a.id)) c.args.formulas.now _ _ c.in_ok-first.first _ c.in_ok-first.ensures
    (moved (λ t u. form_in c.args.most c.args.a.keep u) c.args.a.id c.args.a.id c.args.formulas.now _ _ _ c.in_ok-first.ensures.grows c.requires.stands c.requires.stands c.in_err-second.ensures.performs))

pub from_constant-returns-clause-performs : goal.from_constant-returns-clause-performs
from_constant-returns-clause-performs t c =
    Performs-join c.args.most c.args.joint ((nodes_to c.args.most).constant c.args.value) (form_in c.args.most c.args.a.keep (tree_at c.args.formulas.now c.args.a.id)) c.args.formulas.now _ _ _ _ _ _
    c.in_ok-first.ensures
    (moved (λ t u. form_in c.args.most c.args.a.keep u) c.args.a.id c.args.a.id c.args.formulas.now _ _ _ c.in_ok-first.ensures.grows c.requires.stands c.requires.stands c.in_ok-second.ensures.performs)
    c.join.ensures

pub from_constant-returns-clause-memo : goal.from_constant-returns-clause-memo
from_constant-returns-clause-memo t c = memo-kept c.args.most _ _ _ _ _ c.in_ok-second.ensures.performs.list c.in_ok-second.ensures.memo c.join.ensures

pub next_of-returns-clause-memo : goal.next_of-returns-clause-memo
next_of-returns-clause-memo t c =
    memo-kept c.args.most _ _ _ _ _ c.in_ok-part.ensures.performs.list c.in_ok-part.ensures.memo c.next.ensures

pub weak_until-returns-in_err-second-clause-performs : goal.weak_until-returns-in_err-second-clause-performs
weak_until-returns-in_err-second-clause-performs t c =
    let p = err_from_is_err_and c.from_residual-in_err-second.result c.from_residual-in_err-second.ensures.1 in
    rw (p.1, p.2)
    (Performs-join-fails c.args.most (facing_of c.args.b.keep Release) (form_in c.args.most c.args.b.keep (tree_at c.args.formulas.now c.args.b.id)) ((nodes_to c.args.most).join (facing_of c.args.b.keep Or) (form_in c.args.most c.args.b.keep (tree_at c.args.formulas.now c.args.a)) (form_in c.args.most c.args.b.keep (tree_at c.args.formulas.now c.args.b.id))) c.args.formulas.now _ _ c.in_ok-first.first _ c.in_ok-first.ensures.performs
    (moved (λ t u. (nodes_to c.args.most).join (facing_of c.args.b.keep Or) (form_in c.args.most c.args.b.keep t) (form_in c.args.most c.args.b.keep u)) c.args.a c.args.b.id c.args.formulas.now _ _ _ c.in_ok-first.ensures.performs.grows c.requires.a_stands c.requires.b_stands
    (subst (λ j. Performs ((nodes_to c.args.most).join j (form_in c.args.most c.args.b.keep (tree_at c.form.new.formulas c.args.a)) (form_in c.args.most c.args.b.keep (tree_at c.form.new.formulas c.args.b.id))) c.form.new.formulas c.both.new.formulas (Err c.in_err-second.field-0.0)) c.facing.ensures c.in_err-second.ensures.performs)))

pub weak_until-returns-clause-performs : goal.weak_until-returns-clause-performs
weak_until-returns-clause-performs t c =
    Performs-join c.args.most (facing_of c.args.b.keep Release) (form_in c.args.most c.args.b.keep (tree_at c.args.formulas.now c.args.b.id)) ((nodes_to c.args.most).join (facing_of c.args.b.keep Or) (form_in c.args.most c.args.b.keep (tree_at c.args.formulas.now c.args.a)) (form_in c.args.most c.args.b.keep (tree_at c.args.formulas.now c.args.b.id))) c.args.formulas.now _ _ _ _ _ _
    c.in_ok-first.ensures.performs
    (moved (λ t u. (nodes_to c.args.most).join (facing_of c.args.b.keep Or) (form_in c.args.most c.args.b.keep t) (form_in c.args.most c.args.b.keep u)) c.args.a c.args.b.id c.args.formulas.now _ _ _ c.in_ok-first.ensures.performs.grows c.requires.a_stands c.requires.b_stands
    (subst (λ j. Performs ((nodes_to c.args.most).join j (form_in c.args.most c.args.b.keep (tree_at c.form.new.formulas c.args.a)) (form_in c.args.most c.args.b.keep (tree_at c.form.new.formulas c.args.b.id))) c.form.new.formulas c.both.new.formulas (Ok c.in_ok-second.second)) c.facing.ensures c.in_ok-second.ensures.performs))
    (subst (λ j. Performs (join_ids c.args.most j c.in_ok-first.first c.in_ok-second.second) c.both.new.formulas c.join.new.formulas c.join.result) c.facing-2.ensures c.join.ensures)

pub weak_until-returns-clause-memo : goal.weak_until-returns-clause-memo
weak_until-returns-clause-memo t c =
    memo-kept c.args.most _ _ _ _ _ c.in_ok-second.ensures.performs.list c.in_ok-second.ensures.memo c.join.ensures
