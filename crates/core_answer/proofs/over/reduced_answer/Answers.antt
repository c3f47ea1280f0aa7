use Rattle.std.proofs.Common.{Err, ap, subst}
use Rattle.std.proofs.lemmas.Result.{IfOk-weaker}
use Rattle.ltl_formula.specs.Nodes.{tree_at}
use Rattle.tlsf_expand.specs.FlatText.{spec_seen}
use Rattle.spec_problems.specs.OfFormula.{AreProblemsIn, AreProblemsOver}
use Rattle.text_ground.proofs.Meaning.{problems_for}
use Rattle.core_answer.specs.Reply.{IsReducedReply, IsRefusedReply, reduced_refused}
use Rattle.core_answer.proofs.Replies.{answered_on}
use Rattle.core_answer.proofs.over.reduced_answer.Goals as goal

pub answer_on-requires-clause-problems : goal.answer_on-requires-clause-problems
answer_on-requires-clause-problems g c κs within =
    let e = c.in-Ok.ensures in
    let over = subst (λ i. AreProblemsOver i e.problems.automata c.in-Ok.problems) c.interface.ensures e.problems.problems in
    problems_for c.args.settings.counts (spec_seen c.args.spec.now).expanded e.problems.automata c.in-Ok.problems e.meet over

pub returns-in-Ok : goal.returns-in-Ok
returns-in-Ok g c =
    let x = (spec_seen c.args.spec.now).expanded in
    let r = c.args.reduced in
    let e = c.in-Ok.ensures in
    let are = subst (λ i. AreProblemsIn i (tree_at r.formulas r.whole) r.formulas c.problems_of.new.formulas c.in-Ok.problems) c.interface.ensures e.problems in
    answered_on x r c.args.settings c.in-Ok.problems c.problems_of.new.formulas are e.accept c.answer_on.result c.answer_on.ensures

pub returns : goal.returns
returns g c =
    IfOk-weaker c.refused_over.result
    (λ a. IsRefusedReply c.in-Err.fault a.reply.bytes.items a.reply.status a.defeats)
    (λ a. IsReducedReply (spec_seen c.args.spec.now).expanded c.args.reduced c.args.settings a.reply.bytes.items a.reply.status a.defeats)
    (λ a reply. reduced_refused c.in-Err.fault (λ code place is. c.in-Err.ensures.fault code place (ap Err is)) reply)
    c.refused_over.ensures
