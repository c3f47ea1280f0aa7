-- What is replied over the formula of the whole in a list of its own (this project's own).
use Rattle.std.specs.Prelude.{◌≡◌, ℕ, Bool, false, List}
use Rattle.letters_and_lassos.specs.Word.{Word}
use Rattle.ltl_formula.specs.declared.faults.AddFault.{AddFault}
use Rattle.ltl_formula.specs.Nodes.{tree_at}
use Rattle.tlsf_expand.specs.Expansion.{Expanded}
use Rattle.spec_faults.specs.declared.code.SpecCode.{SpecCode}
use Rattle.spec_faults.specs.declared.code.SpecCode.TheVariants.{TooManyNodes}
use Rattle.spec_faults.specs.declared.code.SpecFault.{SpecFault}
use Rattle.program_replies.specs.declared.replies.Status.{Status}
use Rattle.program_replies.specs.Statuses.{status_number}
use Rattle.spec_problems.specs.OfFormula.{IsFormFault}
use Rattle.satisfaction.specs.Wanted.{Says}
use Rattle.synth_engine.specs.declared.settings.Settings.{Settings}
use Rattle.synth_answer.specs.Answer.{IsAnswerOn}
use Rattle.text_ground.specs.Ground.{ground_with}
use Rattle.program_replies.specs.Refusals.{IsRefusal}
use Rattle.unrealizable_core.specs.declared.whole.Reduced.{Reduced}

-- a list without room is refused at byte 0
abbrev pub list_fault : AddFault → SpecFault
list_fault AddFault.TooManyNodes = SpecFault.At TooManyNodes 0
list_fault AddFault.NoMemory = SpecFault.NoMemory

-- the line of a fault, which doesn't defeat
pub record IsRefusedReply (fault : SpecFault) (bytes : List ℕ) (ended : Status) (defeat : Bool) : Type 0 where
  pub refusal : IsRefusal fault bytes ended
  pub told : defeat ≡ false

-- the line of the fault of the formula, or a document that answers over it, whatever it says
pub data IsReducedReply (x : Expanded) (r : Reduced) (settings : Settings) (bytes : List ℕ) (ended : Status) (defeat : Bool) : Type 0 where
  reduced_refused : (fault : SpecFault) → ((code : SpecCode) (place : ℕ) → fault ≡ SpecFault.At code place → IsFormFault (tree_at r.formulas r.whole) r.formulas code place)
      → IsRefusedReply fault bytes ended defeat → IsReducedReply x r settings bytes ended defeat
  reduced_answered : ((truth : Word → Bool) → Says (tree_at r.formulas r.whole) (ground_with x truth r.formulas r.whole).wanted
      → IsAnswerOn (ground_with x truth r.formulas r.whole) settings bytes (status_number ended) defeat) → IsReducedReply x r settings bytes ended defeat
