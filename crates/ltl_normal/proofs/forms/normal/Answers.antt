use Rattle.ltl_normal.proofs.SignalsKept.{signals_kept}
use Rattle.std.proofs.Common.{true}
use Rattle.ltl_formula.specs.Nodes.{tree_at}
use Rattle.ltl_formula.specs.NormalForm.{IsNormal}
use Rattle.ltl_normal.specs.Truths.{HasTruthOf}
use Rattle.ltl_normal.proofs.Performing.{result-tree, result-is}
use Rattle.ltl_normal.proofs.TruthKept.{HasTruthOf-normal_of, IsNormal-table}
use Rattle.ltl_normal.proofs.forms.normal.Goals as goal

pub returns-clause-tree : goal.returns-clause-tree
returns-clause-tree c = result-tree c.args.most true c.args.f c.args.formulas.now c.form_of.new.formulas c.form_of.ensures.list c.requires c.form_of.result c.form_of.ensures.performs

pub returns-clause-truth : goal.returns-clause-truth
returns-clause-truth c =
    result-is c.args.most true c.args.f c.args.formulas.now c.form_of.new.formulas c.form_of.ensures.list c.requires (λ t. HasTruthOf (tree_at c.args.formulas.now c.args.f) t)
    (HasTruthOf-normal_of (tree_at c.args.formulas.now c.args.f)) c.form_of.result c.form_of.ensures.performs

pub returns-clause-shape : goal.returns-clause-shape
returns-clause-shape c =
    result-is c.args.most true c.args.f c.args.formulas.now c.form_of.new.formulas c.form_of.ensures.list c.requires (λ t. IsNormal t)
    (IsNormal-table true (tree_at c.args.formulas.now c.args.f)) c.form_of.result c.form_of.ensures.performs

pub returns-clause-signals : goal.returns-clause-signals
returns-clause-signals c =
    signals_kept c.args.most true c.args.formulas.now c.form_of.new.formulas c.args.f c.form_of.result c.form_of.ensures.list c.requires c.form_of.ensures.performs.ok
