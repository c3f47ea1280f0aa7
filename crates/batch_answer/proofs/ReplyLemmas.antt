-- What a reply owes to a text.
use Rattle.std.proofs.Common.{◌≡◌, ℕ, List, length, refl, sym, ◌∙◌, ap, subst, Global, zero, suc, map, [], ◌∷◌}
use Rattle.std.specs.Prelude.{IfOk, None, Result, Ok, Err, Vec, Some, slice_get}
use Rattle.std.proofs.lemmas.Option.{same_Some, none-some}
use Rattle.program_replies.specs.Lines.{refusal_line}
use Rattle.program_replies.specs.Statuses.{status_number}
use Rattle.outcome_news.specs.declared.news.ToldReply.{ToldReply}
use Rattle.program_replies.specs.declared.replies.Status.TheVariants.{Refused}
use Rattle.spec_faults.specs.declared.code.SpecCode.TheVariants as code
use Rattle.tlsf_reader.specs.Faults.{most_bytes, too_long}
use Rattle.flat_text.specs.FlatOf.{of_reading}
use Rattle.spec_problems.specs.OfText.{of_text}
use Rattle.synth_engine.specs.declared.settings.Settings.{Settings}
use Rattle.synth_engine.specs.Settings.{alone}
use Rattle.synth_answer.specs.Answer.{Answers, refused}
use Rattle.batch_answer.specs.declared.texts.TakenText.{TakenText}
use Rattle.batch_answer.specs.declared.texts.TakenText.TheVariants.{Whole, TooLong}
use Rattle.batch_answer.specs.Taken.{AreTexts, IsReplyTo, IsText}
use Rattle.batch_run.specs.Answers.{AreAnswers}
use Rattle.batch_answer.specs.Batch.{BatchAnswers, IsPartFor, Part, batch_text, part_of}

module _ {E : Type 0} (bounds : Settings) where
  -- the answer to all bytes of a text
  pub whole_answers : (text : TakenText) (bytes : Vec ℕ Global) (r : Result ToldReply E) → text ≡ Whole bytes
      → IfOk r (λ reply. Answers bytes.items None bounds reply.reply.bytes.items (status_number reply.reply.status)) → IfOk r (IsReplyTo bounds text)
  whole_answers text bytes (Err e) is answers = tt
  whole_answers text bytes (Ok reply) is answers = by text is
    where
      by : (t : TakenText) → t ≡ Whole bytes → IsReplyTo bounds t reply
      by t at = subst (λ u. IsReplyTo bounds u reply) (sym at) (λ file same. subst (λ b. Answers b None bounds reply.reply.bytes.items (status_number reply.reply.status)) same answers)

  -- the line of a text that is too long
  pub too_long_answers : (text : TakenText) (r : Result ToldReply E) → text ≡ TooLong
      → IfOk r (λ reply. (reply.reply.bytes.items ≡ refusal_line code.TooLong most_bytes) × (reply.reply.status ≡ Refused)) → IfOk r (IsReplyTo bounds text)
  too_long_answers text (Err e) is line = tt
  too_long_answers text (Ok reply) is line =
      subst (λ u. IsReplyTo bounds u reply) (sym is) (λ file long.
      refused code.TooLong most_bytes (ap status_number line.1) (of_text code.TooLong most_bytes (of_reading code.TooLong most_bytes (too_long long))) line.0)

-- == the answers to all texts ==

-- the text of a file stands at its place
pub record TextAt (texts : List TakenText) (k : ℕ) (file : List ℕ) : Type 0 where
  pub text : TakenText
  pub at : slice_get texts k ≡ Some text
  pub is_text : IsText text file

pub text_at : (texts : List TakenText) (files : List (List ℕ)) → AreTexts texts files → (k : ℕ) (file : List ℕ) → slice_get files k ≡ Some file → TextAt texts k file
text_at [] [] are k file found = absurd (none-some file found)
text_at [] (f ∷ files) are k file found = absurd are
text_at (t ∷ texts) [] are k file found = absurd are
text_at (t ∷ texts) (f ∷ files) are zero file found = record { text = t; at = refl; is_text = subst (IsText t) (same_Some f file found) are.0 }
text_at (t ∷ texts) (f ∷ files) are (suc k) file found =
    let more = text_at texts files are.1 k file found in
    record { text = more.text; at = more.at; is_text = more.is_text }

pub as_many : (texts : List TakenText) (files : List (List ℕ)) → AreTexts texts files → length texts ≡ length files
as_many [] [] are = refl
as_many [] (f ∷ files) are = absurd are
as_many (t ∷ texts) [] are = absurd are
as_many (t ∷ texts) (f ∷ files) are = ap suc (as_many texts files are.1)

-- the reply of a part stands at its place
pub record ReplyAt (replies : List ToldReply) (k : ℕ) (part : Part) : Type 0 where
  pub reply : ToldReply
  pub at : slice_get replies k ≡ Some reply
  pub is : part_of reply ≡ part

pub reply_at : (replies : List ToldReply) (k : ℕ) (part : Part) → slice_get (map part_of replies) k ≡ Some part → ReplyAt replies k part
reply_at [] k part found = absurd (none-some part found)
reply_at (r ∷ replies) zero part found = record { reply = r; at = refl; is = same_Some (part_of r) part found }
reply_at (r ∷ replies) (suc k) part found =
    let more = reply_at replies k part found in
    record { reply = more.reply; at = more.at; is = more.is }

pub parts_many : (replies : List ToldReply) → length (map part_of replies) ≡ length replies
parts_many [] = refl
parts_many (r ∷ replies) = ap suc (parts_many replies)

pub batch_answers : (names : List (List ℕ)) (texts : List TakenText) (settings bounds : Settings) (replies : List ToldReply) (bytes : List ℕ)
    → length names ≡ length texts → bounds ≡ alone settings → AreAnswers (IsReplyTo bounds) texts replies
    → bytes ≡ batch_text names (map part_of replies) → (files : List (List ℕ)) → AreTexts texts files → BatchAnswers names files settings bytes
batch_answers names texts settings bounds replies bytes one_each is answers text files are = record {
  one_each = one_each ∙ as_many texts files are;
  parts = map part_of replies;
  each = record {
    count = parts_many replies ∙ answers.count ∙ as_many texts files are;
    each = λ k file part here there.
        let t = text_at texts files are k file here in
        let r = reply_at replies k part there in
        let answer = answers.each k t.text r.reply t.at r.at file t.is_text in
        subst (IsPartFor settings file) r.is
        (subst (λ b. Answers file None b r.reply.reply.bytes.items (status_number r.reply.reply.status)) is answer);
  };
  text = text;
}
