-- What a reply owes to a text, as `solve` answers it.
use Rattle.std.proofs.Common.{◌≡◌, ℕ, List, [], ◌∷◌, ◌++◌, All, length, refl, sym, ◌∙◌, ap, subst, Global, map}
use Rattle.std.proofs.lemmas.List.Elements.{All-rest}
use Rattle.std.specs.Prelude.{IfOk, Result, Ok, Err, Vec}
use Rattle.program_replies.specs.Lines.{refusal_line}
use Rattle.program_replies.specs.Statuses.{status_number}
use Rattle.outcome_news.specs.declared.news.ToldReply.{ToldReply}
use Rattle.program_replies.specs.declared.replies.Status.TheVariants.{Refused}
use Rattle.spec_faults.specs.declared.code.SpecCode.TheVariants as code
use Rattle.tlsf_reader.specs.Faults.{most_bytes, too_long}
use Rattle.solve_ground.specs.SolveText as solving
use Rattle.solve_answer.specs.Answer.{SolveAnswers}
use Rattle.solve_answer.specs.Answer as answers
use Rattle.batch_answer.specs.declared.texts.TakenText.{TakenText}
use Rattle.batch_answer.specs.declared.texts.TakenText.TheVariants.{Whole, TooLong}
use Rattle.batch_answer.specs.Taken.{AreTexts}
use Rattle.batch_answer.specs.Batch.{batch_text, part_of}
use Rattle.batch_answer.proofs.ReplyLemmas.{as_many, parts_many, reply_at, text_at}
use Rattle.batch_run.proofs.AnswerLemmas.{all-first}
use Rattle.batch_run.specs.Answers.{AreAnswers}
use Rattle.solve_batch.specs.SolvedBatch.{AskedOfEach, IsSolvedPart, IsSolvedReply, SolvedBatchAnswers}

module _ {E : Type 0} (asked : AskedOfEach) where
  -- the answer to all bytes of a text
  pub whole_answers : (text : TakenText) (bytes : Vec ℕ Global) (r : Result ToldReply E) → text ≡ Whole bytes
      → IfOk r (λ reply. SolveAnswers bytes.items asked.given asked.limits reply.reply.bytes.items (status_number reply.reply.status)) → IfOk r (IsSolvedReply asked text)
  whole_answers text bytes (Err e) is answers = tt
  whole_answers text bytes (Ok reply) is answers = by text is
    where
      by : (t : TakenText) → t ≡ Whole bytes → IsSolvedReply asked t reply
      by t at = subst (λ u. IsSolvedReply asked u reply) (sym at)
          (λ file same. subst (λ b. SolveAnswers b asked.given asked.limits reply.reply.bytes.items (status_number reply.reply.status)) same answers)

  -- the line of a text that is too long
  pub too_long_answers : (text : TakenText) (r : Result ToldReply E) → text ≡ TooLong
      → IfOk r (λ reply. (reply.reply.bytes.items ≡ refusal_line code.TooLong most_bytes) × (reply.reply.status ≡ Refused)) → IfOk r (IsSolvedReply asked text)
  too_long_answers text (Err e) is line = tt
  too_long_answers text (Ok reply) is line =
      subst (λ u. IsSolvedReply asked u reply) (sym is) (λ file long.
      answers.refused code.TooLong most_bytes (ap status_number line.1) (solving.of_reading code.TooLong most_bytes (too_long long)) line.0)

-- == the answers to all texts ==

pub solved_answers : (names : List (List ℕ)) (texts : List TakenText) (asked job : AskedOfEach) (replies : List ToldReply) (bytes : List ℕ)
    → length names ≡ length texts → job ≡ asked → AreAnswers (IsSolvedReply job) texts replies
    → bytes ≡ batch_text names (map part_of replies) → (files : List (List ℕ)) → AreTexts texts files → SolvedBatchAnswers names files asked bytes
solved_answers names texts asked job replies bytes one_each is answered text files are = record {
  one_each = one_each ∙ as_many texts files are;
  parts = map part_of replies;
  each = record {
    count = parts_many replies ∙ answered.count ∙ as_many texts files are;
    each = λ k file part here there.
        let t = text_at texts files are k file here in
        let r = reply_at replies k part there in
        let answer = answered.each k t.text r.reply t.at r.at file t.is_text in
        subst (IsSolvedPart asked file) r.is
        (subst (λ (a : AskedOfEach). SolveAnswers file a.given a.limits r.reply.reply.bytes.items (status_number r.reply.reply.status)) is answer);
  };
  text = text;
}

-- == what the last of some elements has ==

all-last : {X : Type 0} (P : X → Type 0) (ys : List X) (x : X) → All P (ys ++ x ∷ []) → P x
all-last P [] x all = all-first P (x ∷ []) x [] refl all
all-last P (y ∷ ys) x all = all-last P ys x (All-rest P y (ys ++ x ∷ []) (y ∷ (ys ++ x ∷ [])) refl all)

pub last-holds : {X : Type 0} (P : X → Type 0) (xs ys : List X) (x : X) → xs ≡ ys ++ x ∷ [] → All P xs → P x
last-holds {X} P xs ys x is all =
    let Q : List X → Type 0 = All P in
    all-last P ys x (subst Q is all)
