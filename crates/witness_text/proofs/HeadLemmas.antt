-- The line of a proof's head.
use Rattle.std.proofs.Common.{◌≡◌, ℕ, ◌-◌, ◌%◌, ◌^◌, ◌<◌, ◌≤◌, Bool, true, false, cond, Option, Some, None, List, [], ◌∷◌, ◌++◌, refl, ap, subst, ◌∙◌, arith, decimal, nat_eq}
use Rattle.std.specs.Prelude.{All, codes, option_and_then}
use Rattle.std.proofs.lemmas.List.Elements.{All-append, All-cons}
use Rattle.std_lemmas.proofs.Options.{chained_some, mapped_some}
use Rattle.aiger_text.specs.Words.{is_byte, cut_at, number_within}
use Rattle.aiger_text.specs.CircuitText.{numbers_line}
use Rattle.aiger_text.proofs.Numbers.{AreSmall, Lacks, cut_at-seam, decimal-lacks, line-lacks, number_within-decimal}
use Rattle.document_text.specs.Header.{behind}
use Rattle.document_text.proofs.LineRead.{cut_is, follows_words, number_is, words_lack, words_read}
use Rattle.witness_text.specs.declared.logs.ProofHead.{ProofHead}
use Rattle.witness_text.specs.Lines.{proof_line, proof_words}
use Rattle.witness_text.specs.Forms.{head_in, head_of}

abbrev pub head_numbers : ProofHead → List ℕ
head_numbers head = head.vars ∷ head.base ∷ head.count ∷ []

abbrev pub line_of : ℕ → ProofHead → List ℕ
line_of k head = proof_line k head.vars head.base head.count

-- the numbers of a head fit it
pub record FitHead (head : ProofHead) : Type 0 where
  pub vars : head.vars < 2 ^ 32
  pub base : head.base < 2 ^ 64
  pub count : head.count < 2 ^ 64

-- ---- what is read is what stands there

small_32 : (n : ℕ) → n ≤ 2 ^ 32 - 1 → n < 2 ^ 32
small_32 n le = omega (arith, le)

small_64 : (n : ℕ) → n ≤ 2 ^ 64 - 1 → n < 2 ^ 64
small_64 n le = omega (arith, le)

record AreNumbersOf (text : List ℕ) (head : ProofHead) : Type 0 where
  text_is : text ≡ numbers_line (head_numbers head)
  fit : FitHead head

head_of_is : (text : List ℕ) (head : ProofHead) → head_of text ≡ Some head → AreNumbersOf text head
head_of_is text head is =
    let a = chained_some _ (cut_at 32 text) head is in
    let b = chained_some _ (cut_at 32 a.0.1) head a.2 in
    let vars = chained_some _ (number_within (2 ^ 32 - 1) a.0.0) head b.2 in
    let base = chained_some _ (number_within (2 ^ 64 - 1) b.0.0) head vars.2 in
    let count = mapped_some _ (number_within (2 ^ 64 - 1) b.0.1) head base.2 in
    let n1 = number_is (2 ^ 32 - 1) vars.0 a.0.0 (omega arith) vars.1 in
    let n2 = number_is (2 ^ 64 - 1) base.0 b.0.0 (omega arith) base.1 in
    let n3 = number_is (2 ^ 64 - 1) count.0 b.0.1 (omega arith) count.1 in
    let second : a.0.1 ≡ decimal base.0 ++ 32 ∷ decimal count.0 = cut_is 32 a.0.1 b.0.0 b.0.1 b.1 ∙ (λ k. n2.word_is k ++ 32 ∷ n3.word_is k) in
    let first : text ≡ decimal vars.0 ++ 32 ∷ (decimal base.0 ++ 32 ∷ decimal count.0) = cut_is 32 text a.0.0 a.0.1 a.1 ∙ (λ k. n1.word_is k ++ 32 ∷ second k) in
    let fit : FitHead (record { vars = vars.0; base = base.0; count = count.0 }) =
    record { vars = small_32 vars.0 n1.within; base = small_64 base.0 n2.within; count = small_64 count.0 n3.within } in
    subst (λ (h : ProofHead). AreNumbersOf text h) count.2 (record { text_is = first; fit = fit })

-- a head of the proof at this place, as its line states it
pub record IsHead (k : ℕ) (line : List ℕ) (head : ProofHead) : Type 0 where
  pub line_is : line ≡ line_of k head
  pub fit : FitHead head

pub head_is : (k : ℕ) (line : List ℕ) (head : ProofHead) → head_in k line ≡ Some head → IsHead k line head
head_is k line head is =
    let t = follows_words (proof_words k) line head_of head is in
    let n = head_of_is t.0 head t.2 in
    record { line_is = t.1 ∙ ap (λ (b : List ℕ). proof_words k ++ b) n.text_is; fit = n.fit }

-- ---- what stands there is read

number_steps : (t0 t1 w1 w2 w3 : List ℕ) (vars base count : ℕ) → cut_at 32 t0 ≡ Some (w1, t1) → cut_at 32 t1 ≡ Some (w2, w3)
    → number_within (2 ^ 32 - 1) w1 ≡ Some vars → number_within (2 ^ 64 - 1) w2 ≡ Some base → number_within (2 ^ 64 - 1) w3 ≡ Some count
    → head_of t0 ≡ Some (record { vars = vars; base = base; count = count })
number_steps t0 t1 w1 w2 w3 vars base count a b d e f = rw (a, b, d, e, f) refl

numbers_read : (head : ProofHead) → FitHead head → head_of (numbers_line (head_numbers head)) ≡ Some head
numbers_read head fit =
    let vars = fit.vars in
    let base = fit.base in
    let count = fit.count in
    number_steps (numbers_line (head_numbers head)) (decimal head.base ++ 32 ∷ decimal head.count) (decimal head.vars) (decimal head.base) (decimal head.count) head.vars head.base head.count
    (cut_at-seam 32 (decimal head.vars) (decimal head.base ++ 32 ∷ decimal head.count) (decimal-lacks 32 head.vars refl (omega arith)))
    (cut_at-seam 32 (decimal head.base) (decimal head.count) (decimal-lacks 32 head.base refl (omega arith)))
    (number_within-decimal head.vars (omega arith) (2 ^ 32 - 1) (omega arith))
    (number_within-decimal head.base (omega arith) (2 ^ 64 - 1) (omega arith))
    (number_within-decimal head.count (omega arith) (2 ^ 64 - 1) (omega arith))

pub head_read : (k : ℕ) (head : ProofHead) → FitHead head → head_in k (line_of k head) ≡ Some head
head_read k head fit = words_read (proof_words k) (numbers_line (head_numbers head)) head_of head (numbers_read head fit)

-- a head's line has no line end
either_lacks : (b : Bool) (x y : List ℕ) → Lacks 10 x → Lacks 10 y → Lacks 10 (cond b x y)
either_lacks true x y none other = none
either_lacks false x y none other = other

words_of_proof_lack : (k : ℕ) → Lacks 10 (proof_words k)
words_of_proof_lack k =
    either_lacks (nat_eq k 0) (codes "proof base ") _ (words_lack (codes "proof base ") refl)
    (either_lacks (nat_eq k 1) (codes "proof keep ") _ (words_lack (codes "proof keep ") refl)
    (either_lacks (nat_eq k 2) (codes "proof cover ") _ (words_lack (codes "proof cover ") refl)
    (either_lacks (nat_eq (k % 3) 0) (codes "proof enter ") _ (words_lack (codes "proof enter ") refl)
    (either_lacks (nat_eq (k % 3) 1) (codes "proof stay ") (codes "proof fall ") (words_lack (codes "proof stay ") refl) (words_lack (codes "proof fall ") refl)))))

pub head_lacks : (k : ℕ) (head : ProofHead) → FitHead head → Lacks 10 (line_of k head)
head_lacks k head fit =
    let vars = fit.vars in
    let small : AreSmall (head_numbers head) =
    All-cons (λ n. n < 2 ^ 64) head.vars (head.base ∷ head.count ∷ []) (omega arith)
    (All-cons (λ n. n < 2 ^ 64) head.base (head.count ∷ []) fit.base (All-cons (λ n. n < 2 ^ 64) head.count [] fit.count (λ k d less. absurd (omega arith)))) in
    All-append (λ b. is_byte 10 b ≡ false) (proof_words k) (numbers_line (head_numbers head)) (words_of_proof_lack k) (line-lacks (head_numbers head) small)
