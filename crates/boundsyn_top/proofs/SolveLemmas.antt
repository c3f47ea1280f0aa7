-- What answers a text as `solve` takes it.
use Rattle.std.proofs.Common.{◌≡◌, ◌∙◌, ℕ, arith, Bool, true, false, List, Option, Some, None, refl, sym, subst, ap, is_some}
use Rattle.std.specs.Bool.{beq}
use Rattle.std.proofs.lemmas.Bool.{and_parts}
use Rattle.letters_and_lassos.specs.declared.kinds.Kind.{Kind}
use Rattle.spec_faults.specs.declared.code.SpecCode.{SpecCode}
use Rattle.program_replies.specs.Lines.{refusal_line}
use Rattle.program_replies.proofs.RefusalLemmas.{one_refusal}
use Rattle.tlsf_reader.specs.Reads.{TreesAreDetermined}
use Rattle.solve_ground.specs.Laws.{SolveTextsAreDetermined}
use Rattle.solve_ground.specs.SolveText.{IsSolveFault}
use Rattle.solve_ground.specs.Taken.{converted_from, taken_kind}
use Rattle.solved_text.specs.Parts.{Document}
use Rattle.solve_check.specs.Accepted.{IsAcceptedSolved}
use Rattle.solve_check.specs.Laws.{NeverBoth, SpeakAlike}
use Rattle.solve_answer.specs.Answer.{LogLimits, SolveAnswers}
use Rattle.solve_answer.specs.Answer as answers
use Rattle.boundsyn_top.specs.Solving.{SolveVerdictsAgree}

module _ (laws : SolveTextsAreDetermined) where
  printed : {A : Type 0} (text : List ℕ) (given : Option Kind) (bytes : List ℕ) (d : Document) (code : SpecCode) (place : ℕ) → IsAcceptedSolved text given bytes d →
      IsSolveFault text given code place → A
  printed text given bytes d code place accepted fault = absurd (laws.no_fault text given accepted.known code place accepted.is_known fault)

  -- nothing but its line answers a fault
  pub solve_fault : (text : List ℕ) (given : Option Kind) (limits : LogLimits) (bytes : List ℕ) (status : ℕ) (code : SpecCode) (place : ℕ) →
      SolveAnswers text given limits bytes status → IsSolveFault text given code place → (status ≡ 1) × (bytes ≡ refusal_line code place)
  solve_fault text given limits bytes status code place (answers.refused other at ended first line) fault =
      let e = laws.one_fault text given other code at place first fault in (ended, line ∙ one_refusal other code at place e.0 e.1)
  solve_fault text given limits bytes status code place (answers.realizable n is p) fault = printed text given bytes p.document code place p.accepted fault
  solve_fault text given limits bytes status code place (answers.unrealizable n is p) fault = printed text given bytes p.document code place p.accepted fault
  solve_fault text given limits bytes status code place (answers.unknown is p) fault = printed text given bytes p.document code place p.accepted fault

-- == verdicts ==

same_bool : (a b : Bool) → beq a b ≡ true → a ≡ b
same_bool true true is = refl
same_bool false false is = refl
same_bool true false is = cc
same_bool false true is = cc

module _ (trees : TreesAreDetermined) (both : NeverBoth) where
  one_tree : (text : List ℕ) (given : Option Kind) (a b : List ℕ) (d e : Document) (x : IsAcceptedSolved text given a d) (y : IsAcceptedSolved text given b e) →
      x.taken.tree ≡ y.taken.tree
  one_tree text given a b d e x y = trees text x.taken.tree y.taken.tree x.taken.read y.taken.read

  converted_is : (text : List ℕ) (given : Option Kind) (bytes : List ℕ) (d : Document) (x : IsAcceptedSolved text given bytes d) →
      d.converted ≡ is_some (converted_from given x.taken.tree)
  converted_is text given bytes d x =
      let said : is_some x.known.semantics ≡ d.converted = same_bool (is_some x.known.semantics) d.converted (and_parts _ _ x.holds.taken).1 in
      let tree : x.is_known.taken.tree ≡ x.taken.tree = trees text x.is_known.taken.tree x.taken.tree x.is_known.taken.read x.taken.read in
      sym said ∙ ap is_some (x.is_known.semantics ∙ ap (converted_from given) tree)

  alike : (text : List ℕ) (given : Option Kind) (a b : List ℕ) (d e : Document) → IsAcceptedSolved text given a d → IsAcceptedSolved text given b e → SpeakAlike d e
  alike text given a b d e x y =
      let tree = one_tree text given a b d e x y in
      record {
        kind = x.kind_is ∙ x.taken.kind_is ∙ ap (taken_kind given) tree ∙ sym y.taken.kind_is ∙ sym y.kind_is;
        converted = converted_is text given a d x ∙ ap (λ t. is_some (converted_from given t)) tree ∙ sym (converted_is text given b e y);
      }

  pub verdicts_agree : SolveVerdictsAgree
  verdicts_agree text given limits more a b one other = by 10 20 refl refl one other
    where
      by : (status status' : ℕ) → status ≡ 10 → status' ≡ 20 → SolveAnswers text given limits a status → SolveAnswers text given more b status' → ⊥
      by status status' is is' (answers.realizable n ended p) (answers.unrealizable m ended' q) =
          both text given given a b p.document q.document n m p.accepted q.accepted (alike text given a b p.document q.document p.accepted q.accepted) p.verdict_is q.verdict_is
      by status status' is is' (answers.realizable n ended p) (answers.refused code at ended' first line) = omega (arith, is', ended')
      by status status' is is' (answers.realizable n ended p) (answers.realizable m ended' q) = omega (arith, is', ended')
      by status status' is is' (answers.realizable n ended p) (answers.unknown ended' q) = omega (arith, is', ended')
      by status status' is is' (answers.refused code at ended first line) y = omega (arith, is, ended)
      by status status' is is' (answers.unrealizable n ended p) y = omega (arith, is, ended)
      by status status' is is' (answers.unknown ended p) y = omega (arith, is, ended)
