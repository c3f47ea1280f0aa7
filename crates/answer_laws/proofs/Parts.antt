-- Documents inside the answers of `core` and of `batch`.
use Rattle.std.proofs.Common.{◌≡◌, ℕ, Bool, true, true≢false, Option, None, List, [], ◌∷◌, sym}
use Rattle.std.specs.Prelude.{◌≢◌}
use Rattle.letters_and_lassos.specs.declared.kinds.Kind.{Kind}
use Rattle.synth_engine.specs.declared.settings.Settings.{Settings}
use Rattle.synth_engine.specs.Settings.{alone}
use Rattle.ltl_formula.specs.declared.nodes.Node.{Node}
use Rattle.spec_problems.specs.declared.sides.SideProblems.{SideProblems}
use Rattle.document_check.specs.Holds.{HoldsFor}
use Rattle.text_ground.specs.Ground.{AreProblemsOn, Ground, facts_on}
use Rattle.synth_answer.specs.Answer.{Answers, AnswersFor, bounded, defeats, no_entries, no_size, realizable, refused, unrealizable}
use Rattle.synth_answer.specs.Printed.{PrintedFor}
use Rattle.batch_run.specs.Answers.{AreAnswers}
use Rattle.batch_answer.specs.Batch.{BatchAnswers}
use Rattle.core_answer.specs.Core as core
use Rattle.core_answer.specs.Core.{CoreAnswers, EachHas, IsCore, numbers, spared, without}
use Rattle.core_answer.specs.Over.{IsFaultOver, IsGroundOver}
use Rattle.answer_laws.specs.Accepted.{HasGoodParts, IsAccepted, IsGoodOver, IsRefusedOrGood, PartIsAccepted, PrintedIsAccepted, of_document, of_refusal}
use Rattle.answer_laws.proofs.Accepted.{LawsHold, is_accepted, printed_in}
use Rattle.answer_laws.proofs.Grounds.{holds_on}
use Rattle.answer_laws.proofs.Texts.{alike_over}
use Rattle.machine_model.specs.declared.counting.Counts.{Counts}

-- each number with other bytes of which something follows
each_has : (P Q : ℕ → List ℕ → Type 0) → ((n : ℕ) (bytes : List ℕ) → P n bytes → Q n bytes) → (ns : List ℕ) (others : List (List ℕ)) → EachHas P ns others → EachHas Q ns others
each_has P Q weaker [] [] have = tt
each_has P Q weaker [] (bytes ∷ others) have = absurd have
each_has P Q weaker (n ∷ ns) [] have = absurd have
each_has P Q weaker (n ∷ ns) (bytes ∷ others) have = (weaker n bytes have.0, each_has P Q weaker ns others have.1)

module _ (laws : LawsHold) where
  -- == with some guarantees ==

  module _ (text : List ℕ) (keep : List Bool) (kind : Option Kind) (settings : Settings) (bytes : List ℕ) where
    good_over : PrintedFor (IsGroundOver text keep) kind settings bytes → IsGoodOver text keep bytes
    good_over p =
        let holds : (given : Option Kind) (counts : Counts) (g : Ground) (later : List Node) (s : SideProblems) → IsGroundOver text keep given g → AreProblemsOn counts g later s
        → HoldsFor (facts_on g s) p.document =
        λ given counts g later s is are. holds_on laws.apart p.ground g (alike_over laws.flats text keep kind given p.ground g p.is_ground is)
        settings.counts counts p.later later p.problems s p.are_problems are p.document p.is_printed.holds in
        record {
          document = p.document;
          states = p.is_printed.states;
          holds = holds;
          no_bad_line = λ given counts g later s n is are first.
              laws.bad_lines.holding_has_none (facts_on g s) bytes p.document n p.is_printed.states (holds given counts g later s is are) first;
        }

    module _ (status : ℕ) where
      abbrev AnswersOver : Type 0
      AnswersOver = AnswersFor (IsFaultOver text keep kind) (IsGroundOver text keep) kind settings bytes status

      refused_or_good : AnswersOver → IsRefusedOrGood text keep bytes
      refused_or_good (refused code position is fault line) = of_refusal code position line
      refused_or_good (realizable p n c is holds) = of_document (good_over p)
      refused_or_good (unrealizable p n c is holds) = of_document (good_over p)
      refused_or_good (bounded p side n c is holds) = of_document (good_over p)
      refused_or_good (no_size p is holds) = of_document (good_over p)
      refused_or_good (no_entries p side n is holds) = of_document (good_over p)

      good_where_defeated : (a : AnswersOver) → defeats a ≡ true → IsGoodOver text keep bytes
      good_where_defeated (refused code position is fault line) told = absurd (true≢false (sym told))
      good_where_defeated (realizable p n c is holds) told = good_over p
      good_where_defeated (unrealizable p n c is holds) told = good_over p
      good_where_defeated (bounded p side n c is holds) told = good_over p
      good_where_defeated (no_size p is holds) told = good_over p
      good_where_defeated (no_entries p side n is holds) told = good_over p

  good_parts : (text : List ℕ) (kind : Option Kind) (settings : Settings) (bytes : List ℕ) (is : IsCore text kind settings bytes) → HasGoodParts text kind settings bytes is
  good_parts text kind settings bytes is =
      let keep = is.told.keep in
      record {
        kept = good_where_defeated text keep kind settings is.told.document is.told.defeated.status is.told.defeated.is_told.answers is.told.defeated.is_told.told;
        others = each_has _ _ (λ n part tells. refused_or_good text (without n keep) kind settings part tells.status tells.is_told.answers) (numbers keep) is.told.others is.told.spared;
      }

  -- == answers ==

  by_synth : (text : List ℕ) (kind : Option Kind) (settings : Settings) (bytes : List ℕ) (status : ℕ) → Answers text kind settings bytes status → status ≢ 1
      → IsAccepted text kind bytes status
  by_synth text kind settings bytes status answers other =
      let with_status = printed_in answers other in
      is_accepted laws text kind settings bytes with_status.printed status with_status.verdict

  by_batch : (names texts : List (List ℕ)) (settings : Settings) (bytes : List ℕ) (b : BatchAnswers names texts settings bytes) → AreAnswers PartIsAccepted texts b.parts
  by_batch names texts settings bytes b = record {
    count = b.each.count;
    each = λ k text part there so. record { accepted = by_synth text None (alone settings) part.lines part.status (b.each.each k text part there so) };
  }

  by_core : (text : List ℕ) (kind : Option Kind) (settings : Settings) (bytes : List ℕ) (status : ℕ) → CoreAnswers text kind settings bytes status → status ≢ 1 → status ≢ 20
      → IsAccepted text kind bytes status
  by_core text kind settings bytes status (core.refused code position is fault line) other less = absurd (other is)
  by_core text kind settings bytes status (spared flat is few answers told) other less = by_synth text kind settings bytes status answers other
  by_core text kind settings bytes status (core.core is told) other less = absurd (less is)

  pub printed_is_accepted : PrintedIsAccepted
  printed_is_accepted = record { by_synth = by_synth; by_batch = by_batch; by_core = by_core; in_core = good_parts }
