-- The line of a log's head.
use Rattle.std.proofs.Common.{◌≡◌, ℕ, ◌-◌, ◌^◌, ◌<◌, ◌≤◌, Bool, true, false, cond, eqb, Option, Some, None, List, [], ◌∷◌, ◌++◌, refl, ap, subst, ◌∙◌, arith, decimal}
use Rattle.std.specs.Prelude.{option_map, option_and_then, codes, unwrap_or}
use Rattle.std.proofs.lemmas.Bool.{eq-eqb, eqb-true}
use Rattle.std.proofs.lemmas.List.Elements.{All-append, All-cons}
use Rattle.std_lemmas.proofs.Options.{chained_some, mapped_some}
use Rattle.aiger_text.specs.Words.{is_byte, cut_at, number_within}
use Rattle.aiger_text.specs.CircuitText.{numbers_line}
use Rattle.aiger_text.proofs.Numbers.{Lacks, AreSmall, cut_at-seam, decimal-lacks, number_within-decimal, line-lacks}
use Rattle.document_text.specs.Header.{behind}
use Rattle.document_text.proofs.LineRead.{cut_is, number_is, follows_words, words_read, words_lack}
use Rattle.solved_text.specs.declared.heads.Head.{Head}
use Rattle.solved_text.specs.declared.heads.HeadNumbers.{HeadNumbers}
use Rattle.solved_text.specs.Lines.{head_line, letters_word}
use Rattle.solved_text.specs.Logs.{head_in, head_of, letters_in, numbers_for, numbers_of}
use Rattle.solved_text.specs.States.{AreLetters}
use Rattle.solved_text.proofs.LetterLemmas.{letters_is, letters_lack, letters_read}

-- what stands behind the first word of a head
abbrev pub behind_log : HeadNumbers → List ℕ → List ℕ
behind_log numbers word = decimal numbers.size ++ 32 ∷ (word ++ 32 ∷ numbers_line (numbers.vars ∷ numbers.base ∷ numbers.count ∷ []))

-- the numbers of a head fit it
pub record FitHead (numbers : HeadNumbers) : Type 0 where
  pub size : numbers.size < 2 ^ 32
  pub vars : numbers.vars < 2 ^ 32
  pub base : numbers.base < 2 ^ 64
  pub count : numbers.count < 2 ^ 64

abbrev pub numbers_in_head : Head → HeadNumbers
numbers_in_head head = record { size = head.size; vars = head.vars; base = head.base; count = head.count }

abbrev pub line_of : Head → List ℕ
line_of head = head_line head.size head.letters head.vars head.base head.count

-- ---- what is read is what stands there

small_32 : (n : ℕ) → n ≤ 2 ^ 32 - 1 → n < 2 ^ 32
small_32 n le = omega (arith, le)

small_64 : (n : ℕ) → n ≤ 2 ^ 64 - 1 → n < 2 ^ 64
small_64 n le = omega (arith, le)

pub record AreNumbersOf (text : List ℕ) (read : HeadNumbers × List ℕ) : Type 0 where
  pub text_is : text ≡ behind_log read.0 read.1
  pub fit : FitHead read.0

numbers_of_is : (text : List ℕ) (read : HeadNumbers × List ℕ) → numbers_of text ≡ Some read → AreNumbersOf text read
numbers_of_is text read is =
    let a = chained_some _ (cut_at 32 text) read is in
    let b = chained_some _ (cut_at 32 a.0.1) read a.2 in
    let d = chained_some _ (cut_at 32 b.0.1) read b.2 in
    let e = chained_some _ (cut_at 32 d.0.1) read d.2 in
    let size = chained_some _ (number_within (2 ^ 32 - 1) a.0.0) read e.2 in
    let vars = chained_some _ (number_within (2 ^ 32 - 1) d.0.0) read size.2 in
    let base = chained_some _ (number_within (2 ^ 64 - 1) e.0.0) read vars.2 in
    let count = mapped_some _ (number_within (2 ^ 64 - 1) e.0.1) read base.2 in
    let n1 = number_is (2 ^ 32 - 1) size.0 a.0.0 (omega arith) size.1 in
    let n2 = number_is (2 ^ 32 - 1) vars.0 d.0.0 (omega arith) vars.1 in
    let n3 = number_is (2 ^ 64 - 1) base.0 e.0.0 (omega arith) base.1 in
    let n4 = number_is (2 ^ 64 - 1) count.0 e.0.1 (omega arith) count.1 in
    let fourth : d.0.1 ≡ decimal base.0 ++ 32 ∷ decimal count.0 = cut_is 32 d.0.1 e.0.0 e.0.1 e.1 ∙ (λ k. n3.word_is k ++ 32 ∷ n4.word_is k) in
    let third : b.0.1 ≡ decimal vars.0 ++ 32 ∷ (decimal base.0 ++ 32 ∷ decimal count.0) = cut_is 32 b.0.1 d.0.0 d.0.1 d.1 ∙ (λ k. n2.word_is k ++ 32 ∷ fourth k) in
    let second : a.0.1 ≡ b.0.0 ++ 32 ∷ (decimal vars.0 ++ 32 ∷ (decimal base.0 ++ 32 ∷ decimal count.0)) = cut_is 32 a.0.1 b.0.0 b.0.1 b.1 ∙ (λ k. b.0.0 ++ 32 ∷ third k) in
    let first : text ≡ decimal size.0 ++ 32 ∷ (b.0.0 ++ 32 ∷ (decimal vars.0 ++ 32 ∷ (decimal base.0 ++ 32 ∷ decimal count.0))) =
    cut_is 32 text a.0.0 a.0.1 a.1 ∙ (λ k. n1.word_is k ++ 32 ∷ second k) in
    let fit : FitHead (record { size = size.0; vars = vars.0; base = base.0; count = count.0 }) =
    record { size = small_32 size.0 n1.within; vars = small_32 vars.0 n2.within; base = small_64 base.0 n3.within; count = small_64 count.0 n4.within } in
    subst (λ (r : HeadNumbers × List ℕ). AreNumbersOf text r) count.2 (record { text_is = first; fit = fit })

pub record AreNumbersFor (size : ℕ) (line : List ℕ) (read : HeadNumbers × List ℕ) : Type 0 where
  pub line_is : line ≡ codes "log " ++ behind_log read.0 read.1
  pub fit : FitHead read.0
  pub size_is : read.0.size ≡ size

size_by : (size : ℕ) (read found : HeadNumbers × List ℕ) (b : Bool) → eqb read.0.size size ≡ b → cond b (Some read) None ≡ Some found → (read ≡ found) × (read.0.size ≡ size)
size_by size read found true e is = (ap (λ (o : Option (HeadNumbers × List ℕ)). unwrap_or o read) is, eqb-true read.0.size size e)
size_by size read found false e is = absurd (cc)

numbers_for_is : (size : ℕ) (line : List ℕ) (read : HeadNumbers × List ℕ) → numbers_for size line ≡ Some read → AreNumbersFor size line read
numbers_for_is size line read is =
    let k = chained_some (λ (read : HeadNumbers × List ℕ). cond (eqb read.0.size size) (Some read) None) (option_and_then numbers_of (behind (codes "log ") line)) read is in
    let t = follows_words (codes "log ") line numbers_of k.0 k.1 in
    let n = numbers_of_is t.0 k.0 t.2 in
    let s = size_by size k.0 read (eqb k.0.0.size size) refl k.2 in
    subst (λ (r : HeadNumbers × List ℕ). AreNumbersFor size line r) s.0
    (record { line_is = t.1 ∙ ap (λ (b : List ℕ). codes "log " ++ b) n.text_is; fit = n.fit; size_is = s.1 })

-- a head of this size's log, as its line states it
pub record IsHead (size : ℕ) (line : List ℕ) (head : Head) : Type 0 where
  pub line_is : line ≡ line_of head
  pub fit : FitHead (numbers_in_head head)
  pub letters : AreLetters head.letters
  pub size_is : head.size ≡ size

pub head_is : (size : ℕ) (line : List ℕ) (head : Head) → head_in size line ≡ Some head → IsHead size line head
head_is size line head is =
    let k = chained_some (λ (read : HeadNumbers × List ℕ). option_map (head_of read.0) (letters_in read.1)) (numbers_for size line) head is in
    let l = mapped_some (head_of k.0.0) (letters_in k.0.1) head k.2 in
    let n = numbers_for_is size line k.0 k.1 in
    let w = letters_is k.0.1 l.0 l.1 in
    subst (λ (h : Head). IsHead size line h) l.2
    (record { line_is = n.line_is ∙ ap (λ (word : List ℕ). codes "log " ++ behind_log k.0.0 word) w.word_is; fit = n.fit; letters = w.are; size_is = n.size_is })

-- ---- what stands there is read

number_steps : (t0 t1 t2 t3 w1 w2 w3 w4 w5 : List ℕ) (size vars base count : ℕ)
    → cut_at 32 t0 ≡ Some (w1, t1) → cut_at 32 t1 ≡ Some (w2, t2) → cut_at 32 t2 ≡ Some (w3, t3) → cut_at 32 t3 ≡ Some (w4, w5)
    → number_within (2 ^ 32 - 1) w1 ≡ Some size → number_within (2 ^ 32 - 1) w3 ≡ Some vars → number_within (2 ^ 64 - 1) w4 ≡ Some base → number_within (2 ^ 64 - 1) w5 ≡ Some count
    → numbers_of t0 ≡ Some (record { size = size; vars = vars; base = base; count = count }, w2)
number_steps t0 t1 t2 t3 w1 w2 w3 w4 w5 size vars base count a b d e f g h i = rw (a, b, d, e, f, g, h, i) refl

numbers_read : (numbers : HeadNumbers) (word : List ℕ) → FitHead numbers → Lacks 32 word → numbers_of (behind_log numbers word) ≡ Some (numbers, word)
numbers_read numbers word fit none =
    let size = fit.size in
    let vars = fit.vars in
    let base = fit.base in
    let count = fit.count in
    number_steps (behind_log numbers word) (word ++ 32 ∷ (decimal numbers.vars ++ 32 ∷ (decimal numbers.base ++ 32 ∷ decimal numbers.count)))
    (decimal numbers.vars ++ 32 ∷ (decimal numbers.base ++ 32 ∷ decimal numbers.count)) (decimal numbers.base ++ 32 ∷ decimal numbers.count)
    (decimal numbers.size) word (decimal numbers.vars) (decimal numbers.base) (decimal numbers.count) numbers.size numbers.vars numbers.base numbers.count
    (cut_at-seam 32 (decimal numbers.size) (word ++ 32 ∷ (decimal numbers.vars ++ 32 ∷ (decimal numbers.base ++ 32 ∷ decimal numbers.count))) (decimal-lacks 32 numbers.size refl (omega arith)))
    (cut_at-seam 32 word (decimal numbers.vars ++ 32 ∷ (decimal numbers.base ++ 32 ∷ decimal numbers.count)) none)
    (cut_at-seam 32 (decimal numbers.vars) (decimal numbers.base ++ 32 ∷ decimal numbers.count) (decimal-lacks 32 numbers.vars refl (omega arith)))
    (cut_at-seam 32 (decimal numbers.base) (decimal numbers.count) (decimal-lacks 32 numbers.base refl (omega arith)))
    (number_within-decimal numbers.size (omega arith) (2 ^ 32 - 1) (omega arith))
    (number_within-decimal numbers.vars (omega arith) (2 ^ 32 - 1) (omega arith))
    (number_within-decimal numbers.base (omega arith) (2 ^ 64 - 1) (omega arith))
    (number_within-decimal numbers.count (omega arith) (2 ^ 64 - 1) (omega arith))

no_blank : Lacks 32 (codes "all")
no_blank =
    All-cons (λ b. is_byte 32 b ≡ false) 97 (108 ∷ 108 ∷ []) refl (All-cons (λ b. is_byte 32 b ≡ false) 108 (108 ∷ []) refl
    (All-cons (λ b. is_byte 32 b ≡ false) 108 [] refl (λ k d less. absurd (omega arith))))

pub head_read : (head : Head) → FitHead (numbers_in_head head) → AreLetters head.letters → head_in head.size (line_of head) ≡ Some head
head_read head fit are =
    let read : HeadNumbers × List ℕ = (numbers_in_head head, letters_word head.letters) in
    let numbers : option_and_then numbers_of (behind (codes "log ") (line_of head)) ≡ Some (numbers_in_head head, letters_word head.letters) =
    words_read (codes "log ") (behind_log (numbers_in_head head) (letters_word head.letters)) numbers_of (numbers_in_head head, letters_word head.letters)
    (numbers_read (numbers_in_head head) (letters_word head.letters) fit (letters_lack 32 head.letters refl refl no_blank are)) in
    let this : eqb head.size head.size ≡ true = eq-eqb head.size head.size refl in
    let sized : numbers_for head.size (line_of head) ≡ Some (numbers_in_head head, letters_word head.letters) =
    ap (option_and_then (λ (read : HeadNumbers × List ℕ). cond (eqb read.0.size head.size) (Some read) None)) numbers
    ∙ ap (λ b. cond b (Some (numbers_in_head head, letters_word head.letters)) None) this in
    ap (option_and_then (λ (read : HeadNumbers × List ℕ). option_map (head_of read.0) (letters_in read.1))) sized
    ∙ ap (option_map (head_of (numbers_in_head head))) (letters_read head.letters are)

-- a head's line has no line end
pub head_lacks : (head : Head) → FitHead (numbers_in_head head) → AreLetters head.letters → Lacks 10 (line_of head)
head_lacks head fit are =
    let size = fit.size in
    let vars = fit.vars in
    let base = fit.base in
    let numbers : List ℕ = numbers_line (head.vars ∷ head.base ∷ head.count ∷ []) in
    let small : AreSmall (head.vars ∷ head.base ∷ head.count ∷ []) =
    All-cons (λ n. n < 2 ^ 64) head.vars (head.base ∷ head.count ∷ []) (omega arith)
    (All-cons (λ n. n < 2 ^ 64) head.base (head.count ∷ []) (omega arith) (All-cons (λ n. n < 2 ^ 64) head.count [] fit.count (λ k d less. absurd (omega arith)))) in
    All-append (λ b. is_byte 10 b ≡ false) (codes "log ") (decimal head.size ++ 32 ∷ (letters_word head.letters ++ 32 ∷ numbers_line (head.vars ∷ head.base ∷ head.count ∷ [])))
    (words_lack (codes "log ") refl)
    (All-append (λ b. is_byte 10 b ≡ false) (decimal head.size) (32 ∷ (letters_word head.letters ++ 32 ∷ numbers_line (head.vars ∷ head.base ∷ head.count ∷ [])))
    (decimal-lacks 10 head.size refl (omega arith))
    (All-cons (λ b. is_byte 10 b ≡ false) 32 (letters_word head.letters ++ 32 ∷ numbers_line (head.vars ∷ head.base ∷ head.count ∷ [])) refl
    (All-append (λ b. is_byte 10 b ≡ false) (letters_word head.letters) (32 ∷ numbers_line (head.vars ∷ head.base ∷ head.count ∷ []))
    (letters_lack 10 head.letters refl refl (words_lack (codes "all") refl) are)
    (All-cons (λ b. is_byte 10 b ≡ false) 32 (numbers_line (head.vars ∷ head.base ∷ head.count ∷ [])) refl
    (line-lacks (head.vars ∷ head.base ∷ head.count ∷ []) small)))))
