-- What is accepted answers the text, and so do that neither was found, which always is, and the line of its first fault.
use Rattle.std.proofs.Common.{◌≡◌, ◌≤◌, ℕ, Bool, true, false, Option, Some, None, IfSome, List, [], length, refl, sym, subst, ap, ◌∙◌, arith}
use Rattle.std.proofs.lemmas.Bool.{and_from}
use Rattle.std.proofs.lemmas.List.Elements.{All-nil}
use Rattle.std.specs.Prelude.{All, is_some, option_and_then, option_map, unwrap_or}
use Rattle.std.specs.Bool.{OnTrue, beq}
use Rattle.solve_check.proofs.Held.{document_with}
use Rattle.letters_and_lassos.specs.declared.kinds.Kind.{Kind}
use Rattle.letters_and_lassos.specs.declared.kinds.Kind.TheVariants.{Mealy, Moore}
use Rattle.letters_and_lassos.specs.contracts.kinds.KindPartialEq.TheImpl.{ghosts as kind_ghosts}
use Rattle.program_replies.specs.Refusals.{RefusedBy}
use Rattle.program_replies.specs.Statuses.{status_number}
use Rattle.solve_ground.specs.declared.texts.SolveText.{SolveText}
use Rattle.solve_ground.specs.SolveText.{IsSolveFault, IsSolveText}
use Rattle.solved_text.specs.declared.documents.Verdict.{Verdict}
use Rattle.solved_text.specs.declared.documents.Verdict.TheVariants.{Realizable, Unrealizable, Unknown}
use Rattle.solved_text.specs.Laws.{SolvedAreDetermined}
use Rattle.solved_text.specs.Lines.{document_text}
use Rattle.solved_text.specs.Parts.{Document, SizeLog}
use Rattle.solved_text.specs.Reading.{SolvedLines}
use Rattle.solved_text.specs.States.{States}
use Rattle.solve_check.specs.declared.acceptance.Acceptance.{Acceptance}
use Rattle.solve_check.specs.Accepted.{IsAcceptedSolved}
use Rattle.solve_check.specs.Checked.{IsAcceptedAs}
use Rattle.solve_check.specs.Given.{is_taken_so}
use Rattle.solve_answer.specs.Answer.{KeepWithin, LogLimits, SolveAnswers, refused, realizable, unrealizable, unknown}
use Rattle.solve_answer.specs.Parts.{AreLogsOf, HaveShortLogs, status_of, unknown_document}

answers : (text : List ℕ) (given : Option Kind) (limits : LogLimits) (bytes : List ℕ) (d : Document) → IsAcceptedSolved text given bytes d → KeepWithin limits d.logs
    → (v : Verdict) → d.verdict ≡ v → SolveAnswers text given limits bytes (status_number (status_of v))
answers text given limits bytes d is few (Realizable n) e = realizable n refl (record { document = d; verdict_is = e; accepted = is; as_asked = few })
answers text given limits bytes d is few (Unrealizable n) e = unrealizable n refl (record { document = d; verdict_is = e; accepted = is; as_asked = few })
answers text given limits bytes d is few Unknown e = unknown refl (record { document = d; verdict_is = e; accepted = is; as_asked = few })

pub accepted_answers : (text : List ℕ) (given : Option Kind) (limits : LogLimits) (bytes : List ℕ) (a : Acceptance) → IsAcceptedAs text given bytes a
    → IfSome limits.max (λ m. a.refuted ≤ m) → HaveShortLogs limits.entries bytes → SolveAnswers text given limits bytes (status_number (status_of a.verdict))
accepted_answers text given limits bytes a is few short =
    answers text given limits bytes is.document is.accepted (record {
      sizes = subst (λ (n : ℕ). IfSome limits.max (λ m. n ≤ m)) (ap (λ (b : Acceptance). b.refuted) is.told) few;
      entries = short is.document is.accepted.states;
    }) a.verdict (sym (ap (λ (b : Acceptance). b.verdict) is.told))

same_kind : (k : Kind) → kind_ghosts.eq k k ≡ true
same_kind Mealy = refl
same_kind Moore = refl

same_bool : (b : Bool) → beq b b ≡ true
same_bool true = refl
same_bool false = refl

taken_as_known : (t : SolveText) → is_taken_so t t.kind (is_some t.semantics) ≡ true
taken_as_known t =
    and_from (kind_ghosts.eq t.kind t.kind) (beq (is_some t.semantics) (is_some t.semantics)) (same_kind t.kind) (same_bool (is_some t.semantics))

unknown_states : (t : SolveText) → States (document_text (unknown_document t)) (unknown_document t)
unknown_states t = record { well_formed = record { circuit = refl; named = tt; shown = (refl, refl) }; text = refl }

unknown_accepted : (text : List ℕ) (given : Option Kind) (t : SolveText) → IsSolveText text given t
    → IsAcceptedSolved text given (document_text (unknown_document t)) (unknown_document t)
unknown_accepted text given t is = record {
  known = t;
  is_known = is;
  states = unknown_states t;
  holds = record { taken = taken_as_known t; said = tt };
  flat = is.flat;
  wanted = is.wanted;
  taken = is.taken;
  kind_is = is.kind_is;
  verdict = tt;
}

none_at_most : (most : Option ℕ) → IfSome most (λ m. 0 ≤ m)
none_at_most None = tt
none_at_most (Some m) = omega arith

none_longer : (most : Option ℕ) → IfSome most (λ m. All (λ (l : SizeLog). length l.entries ≤ m) [])
none_longer None = tt
none_longer (Some m) = All-nil (λ (l : SizeLog). length l.entries ≤ m)

pub unknown_answers : (text : List ℕ) (given : Option Kind) (limits : LogLimits) (t : SolveText) → IsSolveText text given t
    → SolveAnswers text given limits (document_text (unknown_document t)) 30
unknown_answers text given limits t is =
    unknown refl (record {
      document = unknown_document t;
      verdict_is = refl;
      accepted = unknown_accepted text given t is;
      as_asked = record { sizes = none_at_most limits.max; entries = none_longer limits.entries };
    })

pub refused_answers : (text : List ℕ) (given : Option Kind) (limits : LogLimits) (bytes : List ℕ) (status : ℕ) → RefusedBy (IsSolveFault text given) bytes status
    → SolveAnswers text given limits bytes status
refused_answers text given limits bytes status r = refused r.code r.place r.status_is r.fault r.line

-- == the logs that are read ==

-- a document of good lines has the logs that are read of them
same_logs : (bytes : List ℕ) (lines : SolvedLines) (d : Document) (v : Option Verdict) (k : Option Kind)
    → option_and_then (λ verdict. option_map (document_with bytes lines verdict) k) v ≡ Some d → lines.logs ≡ d.logs
same_logs bytes lines d None k is = absurd (cc)
same_logs bytes lines d (Some verdict) None is = absurd (cc)
same_logs bytes lines d (Some verdict) (Some kind) is = ap (λ (o : Option Document). (unwrap_or o d).logs) is

pub short_logs : SolvedAreDetermined → (bytes : List ℕ) (logs : List SizeLog) (most : ℕ) → AreLogsOf bytes logs → All (λ (l : SizeLog). length l.entries ≤ most) logs
    → HaveShortLogs (Some most) bytes
short_logs laws bytes logs most of all d states =
    subst (λ (ls : List SizeLog). All (λ l. length l.entries ≤ most) ls)
    (of.are ∙ same_logs bytes of.lines d of.lines.header.verdict of.lines.header.kind (laws.all_good bytes of.lines d of.reads states).1) all

pub short_where : SolvedAreDetermined → (bytes : List ℕ) (logs slice : List SizeLog) (most : ℕ) → AreLogsOf bytes logs → slice ≡ logs → (result : Bool)
    → OnTrue result (All (λ (l : SizeLog). length l.entries ≤ most) slice) → OnTrue result (HaveShortLogs (Some most) bytes)
short_where laws bytes logs slice most of same true all = short_logs laws bytes logs most of (subst (λ (ls : List SizeLog). All (λ l. length l.entries ≤ most) ls) same all)
short_where laws bytes logs slice most of same false all = tt
