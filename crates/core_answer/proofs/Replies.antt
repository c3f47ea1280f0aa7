-- A document over a formula answers over it, whatever the formula says.
use Rattle.std.proofs.Common.{Bool, List, Result, Ok, Err, IfOk}
use Rattle.ltl_formula.specs.declared.nodes.FormulaId.{FormulaId}
use Rattle.ltl_formula.specs.declared.nodes.Node.{Node}
use Rattle.ltl_formula.specs.Nodes.{tree_at}
use Rattle.letters_and_lassos.specs.Word.{Word}
use Rattle.tlsf_expand.specs.Expansion.{Expanded}
use Rattle.program_replies.specs.Statuses.{status_number}
use Rattle.spec_problems.specs.declared.sides.SideProblems.{SideProblems}
use Rattle.spec_problems.specs.OfFormula.{AcceptBySide, AreProblemsIn}
use Rattle.spec_problems.specs.OfText.{interface_of}
use Rattle.synth_engine.specs.declared.settings.Settings.{Settings}
use Rattle.synth_answer.specs.declared.answering.Answered.{Answered}
use Rattle.synth_answer.specs.Answer.{IsAnswerOn}
use Rattle.text_ground.specs.Ground.{AreGivenOn, ground_with}
use Rattle.unrealizable_core.specs.declared.whole.Reduced.{Reduced}
use Rattle.core_answer.specs.Reply.{IsReducedReply, reduced_answered}

module _ (x : Expanded) (r : Reduced) (settings : Settings) (s : SideProblems) (later : List Node)
    (are : AreProblemsIn (interface_of settings.counts x) (tree_at r.formulas r.whole) r.formulas later s) (accept : AcceptBySide (tree_at r.formulas r.whole) s) where
  pub answered_on : {E : Type 0} (result : Result Answered E)
      → ((truth : Word → Bool) (nodes : List Node) (whole : FormulaId) → AreGivenOn settings.counts (ground_with x truth nodes whole) s
      → IfOk result (λ a. IsAnswerOn (ground_with x truth nodes whole) settings a.reply.bytes.items (status_number a.reply.status) a.defeats))
      → IfOk result (λ a. IsReducedReply x r settings a.reply.bytes.items a.reply.status a.defeats)
  answered_on (Ok a) h = reduced_answered (λ truth says. h truth r.formulas r.whole (record {
    later = later;
    are_problems = are;
    formula = tree_at r.formulas r.whole;
    accept = accept;
    says = says;
  }))
  answered_on (Err e) h = tt
