-- A text that is read before anything else: its problems, or the reply to its first fault (this project's own).
use Rattle.std.specs.Prelude.{ℕ, List, Option}
use Rattle.letters_and_lassos.specs.declared.kinds.Kind.{Kind}
use Rattle.ltl_formula.specs.Nodes.{tree_at}
use Rattle.machine_model.specs.declared.counting.Counts.{Counts}
use Rattle.tlsf_expand.specs.FlatText.{FlatText, spec_seen}
use Rattle.spec_problems.specs.declared.sides.SideProblems.{SideProblems}
use Rattle.spec_problems.specs.declared.texts.TextProblems.{TextProblems}
use Rattle.spec_problems.specs.OfFormula.{AcceptBySide}
use Rattle.spec_problems.specs.OfText.{AreProblemsOf, IsFirstFault, SaysWhat}
use Rattle.program_replies.specs.Refusals.{RefusedBy}
use Rattle.program_replies.specs.Statuses.{status_number}
use Rattle.text_ground.specs.declared.texts.Problems.{Problems}
use Rattle.text_ground.specs.declared.texts.Problems.TheVariants.{Of, Refused}

-- a text's flat form with the problems of its two sides, whose numbers count so, what their automata accept, and what the text
-- says
pub record IsTextWith (counts : Counts) (text : List ℕ) (kind : Option Kind) (spec : FlatText) (s : SideProblems) : Type 0 where
  pub are : AreProblemsOf text kind counts spec s
  pub accept : AcceptBySide (tree_at spec.formulas spec.expanded.whole) s
  pub says : SaysWhat text spec.formulas spec.expanded.whole

-- a text's problems, or the reply to its first fault
abbrev pub AreOfText : Counts → List ℕ → Option Kind → Problems → Type 0
AreOfText counts text kind (Of t) = IsTextWith counts text kind (spec_seen t.spec) t.problems
AreOfText counts text kind (Refused reply) = RefusedBy (IsFirstFault text kind) reply.bytes.items (status_number reply.status)

-- if there are problems, this holds of them
abbrev pub IfProblems : (TextProblems → Type 0) → Problems → Type 0
IfProblems P (Of t) = P t
IfProblems P (Refused reply) = Unit {0}
