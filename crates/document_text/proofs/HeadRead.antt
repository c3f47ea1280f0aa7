-- The line of a log's head.
use Rattle.std.proofs.Common.{◌≡◌, ℕ, ◌-◌, ◌^◌, ◌<◌, Bool, true, false, cond, Option, Some, None, List, [], ◌∷◌, ◌++◌, refl, sym, ap, subst, ◌∙◌, arith, decimal}
use Rattle.std.specs.Prelude.{option_and_then, unwrap_or}
use Rattle.std.specs.Option.{option_map_or}
use Rattle.std.proofs.lemmas.List.Elements.{All-append, All-cons}
use Rattle.std_lemmas.proofs.Options.{chained_some, mapped_some}
use Rattle.std_lemmas.proofs.Options.{chained_some, mapped_some}
use Rattle.letters_and_lassos.specs.declared.kinds.Side.{Side}
use Rattle.letters_and_lassos.specs.declared.kinds.Side.TheVariants.{System, Environment}
use Rattle.aiger_text.specs.Words.{is_byte, cut_at, number_within}
use Rattle.aiger_text.specs.CircuitText.{numbers_line}
use Rattle.aiger_text.proofs.Numbers.{Lacks, AreSmall, cut_at-seam, decimal-lacks, number_within-decimal, line-lacks}
use Rattle.document_text.specs.declared.logs.Head.{Head}
use Rattle.document_text.specs.declared.order.Order.{Order}
use Rattle.document_text.specs.declared.order.Place.{Place}
use Rattle.document_text.specs.Lines.{log_words, head_line}
use Rattle.document_text.specs.Order.{place, may_follow}
use Rattle.document_text.specs.Header.{behind}
use Rattle.document_text.specs.Logs.{head_behind, head_in, next_head}
use Rattle.document_text.proofs.LineRead.{behind_is, cut_is, number_is, words_lack}

-- the numbers of a head fit it
pub record HasSizes (head : Head) : Type 0 where
  pub size : head.size < 2 ^ 32
  pub vars : head.vars < 2 ^ 32
  pub base : head.base < 2 ^ 64
  pub count : head.count < 2 ^ 64

abbrev pub line_of : Head → List ℕ
line_of head = head_line head.side head.size head.vars head.base head.count

-- ---- what is read is what stands there

module _ (side : Side) (text : List ℕ) (head : Head) where
  pub record IsBehind : Type 0 where
    pub side_is : head.side ≡ side
    pub text_is : text ≡ numbers_line (head.size ∷ head.vars ∷ head.base ∷ head.count ∷ [])
    pub sizes : HasSizes head

  pub head_behind_is : head_behind side text ≡ Some head → IsBehind
  head_behind_is is =
      let a = chained_some _ (cut_at 32 text) head is in
      let b = chained_some _ (cut_at 32 a.0.1) head a.2 in
      let d = chained_some _ (cut_at 32 b.0.1) head b.2 in
      let size = chained_some _ (number_within (2 ^ 32 - 1) a.0.0) head d.2 in
      let vars = chained_some _ (number_within (2 ^ 32 - 1) b.0.0) head size.2 in
      let base = chained_some _ (number_within (2 ^ 64 - 1) d.0.0) head vars.2 in
      let count = mapped_some _ (number_within (2 ^ 64 - 1) d.0.1) head base.2 in
      let n1 = number_is (2 ^ 32 - 1) size.0 a.0.0 (omega arith) size.1 in
      let n2 = number_is (2 ^ 32 - 1) vars.0 b.0.0 (omega arith) vars.1 in
      let n3 = number_is (2 ^ 64 - 1) base.0 d.0.0 (omega arith) base.1 in
      let n4 = number_is (2 ^ 64 - 1) count.0 d.0.1 (omega arith) count.1 in
      let w1 = n1.within in
      let w2 = n2.within in
      let w3 = n3.within in
      let w4 = n4.within in
      let third : b.0.1 ≡ decimal base.0 ++ 32 ∷ decimal count.0 = cut_is 32 b.0.1 d.0.0 d.0.1 d.1 ∙ (λ k. n3.word_is k ++ 32 ∷ n4.word_is k) in
      let second : a.0.1 ≡ decimal vars.0 ++ 32 ∷ (decimal base.0 ++ 32 ∷ decimal count.0) = cut_is 32 a.0.1 b.0.0 b.0.1 b.1 ∙ (λ k. n2.word_is k ++ 32 ∷ third k) in
      let first : text ≡ decimal size.0 ++ 32 ∷ (decimal vars.0 ++ 32 ∷ (decimal base.0 ++ 32 ∷ decimal count.0)) = cut_is 32 text a.0.0 a.0.1 a.1 ∙ (λ k. n1.word_is k ++ 32 ∷ second k) in
      let sizes : HasSizes (record { side = side; size = size.0; vars = vars.0; base = base.0; count = count.0 }) =
      record { size = omega arith; vars = omega arith; base = omega arith; count = omega arith } in
      record {
        side_is = sym (ap (λ (h : Head). h.side) count.2);
        text_is = first ∙ ap (λ (h : Head). numbers_line (h.size ∷ h.vars ∷ h.base ∷ h.count ∷ [])) count.2;
        sizes = subst (λ (h : Head). HasSizes h) count.2 sizes;
      }

-- a head, as its line states it
pub record IsHead (line : List ℕ) (head : Head) : Type 0 where
  pub line_is : line ≡ line_of head
  pub sizes : HasSizes head

of_words : (side : Side) (line text : List ℕ) (head : Head) → line ≡ log_words side ++ text → head_behind side text ≡ Some head → IsHead line head
of_words side line text head words is =
    let k = head_behind_is side text head is in
    record {
      line_is = words ∙ (λ i. log_words (sym k.side_is i) ++ k.text_is i);
      sizes = k.sizes;
    }

head_by : (line : List ℕ) (head : Head) (o : Option (List ℕ)) → behind (log_words System) line ≡ o
    → option_map_or (head_behind System) o (option_and_then (head_behind Environment) (behind (log_words Environment) line)) ≡ Some head → IsHead line head
head_by line head (Some text) e is = of_words System line text head (behind_is (log_words System) line text e) is
head_by line head None e is =
    let k = chained_some (head_behind Environment) (behind (log_words Environment) line) head is in
    of_words Environment line k.0 head (behind_is (log_words Environment) line k.0 k.1) k.2

pub head_is : (line : List ℕ) (head : Head) → head_in line ≡ Some head → IsHead line head
head_is line head is = head_by line head (behind (log_words System) line) refl is

-- ---- what stands there is read

head_steps : (side : Side) (t0 t1 t2 w1 w2 w3 w4 : List ℕ) (size vars base count : ℕ)
    → cut_at 32 t0 ≡ Some (w1, t1) → cut_at 32 t1 ≡ Some (w2, t2) → cut_at 32 t2 ≡ Some (w3, w4)
    → number_within (2 ^ 32 - 1) w1 ≡ Some size → number_within (2 ^ 32 - 1) w2 ≡ Some vars → number_within (2 ^ 64 - 1) w3 ≡ Some base → number_within (2 ^ 64 - 1) w4 ≡ Some count
    → head_behind side t0 ≡ Some (record { side = side; size = size; vars = vars; base = base; count = count })
head_steps side t0 t1 t2 w1 w2 w3 w4 size vars base count a b d e f g h = rw (a, b, d, e, f, g, h) refl

pub head_behind_read : (head : Head) → HasSizes head → head_behind head.side (numbers_line (head.size ∷ head.vars ∷ head.base ∷ head.count ∷ [])) ≡ Some head
head_behind_read head fits =
    let size = fits.size in
    let vars = fits.vars in
    let base = fits.base in
    let count = fits.count in
    let t2 : List ℕ = decimal head.base ++ 32 ∷ decimal head.count in
    let t1 : List ℕ = decimal head.vars ++ 32 ∷ t2 in
    head_steps head.side (decimal head.size ++ 32 ∷ (decimal head.vars ++ 32 ∷ (decimal head.base ++ 32 ∷ decimal head.count)))
    (decimal head.vars ++ 32 ∷ (decimal head.base ++ 32 ∷ decimal head.count)) (decimal head.base ++ 32 ∷ decimal head.count)
    (decimal head.size) (decimal head.vars) (decimal head.base) (decimal head.count) head.size head.vars head.base head.count
    (cut_at-seam 32 (decimal head.size) (decimal head.vars ++ 32 ∷ (decimal head.base ++ 32 ∷ decimal head.count)) (decimal-lacks 32 head.size refl (omega arith)))
    (cut_at-seam 32 (decimal head.vars) (decimal head.base ++ 32 ∷ decimal head.count) (decimal-lacks 32 head.vars refl (omega arith)))
    (cut_at-seam 32 (decimal head.base) (decimal head.count) (decimal-lacks 32 head.base refl (omega arith)))
    (number_within-decimal head.size (omega arith) (2 ^ 32 - 1) (omega arith))
    (number_within-decimal head.vars (omega arith) (2 ^ 32 - 1) (omega arith))
    (number_within-decimal head.base (omega arith) (2 ^ 64 - 1) (omega arith))
    (number_within-decimal head.count (omega arith) (2 ^ 64 - 1) (omega arith))

by_side : (side : Side) (text : List ℕ) → head_in (log_words side ++ text) ≡ head_behind side text
by_side System text = refl
by_side Environment text = refl

pub head_read : (head : Head) → HasSizes head → head_in (line_of head) ≡ Some head
head_read head fits = by_side head.side (numbers_line (head.size ∷ head.vars ∷ head.base ∷ head.count ∷ [])) ∙ head_behind_read head fits

words_side : (side : Side) → Lacks 10 (log_words side)
words_side System = words_lack (log_words System) refl
words_side Environment = words_lack (log_words Environment) refl

pub head_lacks : (head : Head) → HasSizes head → Lacks 10 (line_of head)
head_lacks head fits =
    All-append (λ b. is_byte 10 b ≡ false) (log_words head.side) (numbers_line (head.size ∷ head.vars ∷ head.base ∷ head.count ∷ [])) (words_side head.side)
    (line-lacks (head.size ∷ head.vars ∷ head.base ∷ head.count ∷ []) small)
  where
    small : AreSmall (head.size ∷ head.vars ∷ head.base ∷ head.count ∷ [])
    small = let size = fits.size in let vars = fits.vars in let base = fits.base in let count = fits.count in
        All-cons (λ n. n < 2 ^ 64) head.size (head.vars ∷ head.base ∷ head.count ∷ []) (omega arith)
        (All-cons (λ n. n < 2 ^ 64) head.vars (head.base ∷ head.count ∷ []) (omega arith)
        (All-cons (λ n. n < 2 ^ 64) head.base (head.count ∷ []) (omega arith) (All-cons (λ n. n < 2 ^ 64) head.count [] fits.count (λ k d less. absurd (omega arith)))))

-- ---- with its place in the order

follow_by : (order : Order) (last : Place) (head other : Head) (b : Bool) → may_follow order last (place head.side head.size) ≡ b → cond b (Some head) None ≡ Some other
    → (head ≡ other) × (may_follow order last (place head.side head.size) ≡ true)
follow_by order last head other true e is = (ap (λ o. unwrap_or o head) is, e)
follow_by order last head other false e is = absurd (cc)

-- a head that may come next
pub next_is : (order : Order) (last : Place) (line : List ℕ) (head : Head) → next_head order last line ≡ Some head
    → IsHead line head × (may_follow order last (place head.side head.size) ≡ true)
next_is order last line head is =
    let k = chained_some (λ (head : Head). cond (may_follow order last (place head.side head.size)) (Some head) None) (head_in line) head is in
    let f = follow_by order last k.0 head (may_follow order last (place k.0.side k.0.size)) refl k.2 in
    (head_is line head (k.1 ∙ ap Some f.0), subst (λ (h : Head). may_follow order last (place h.side h.size) ≡ true) f.0 f.1)

pub next_read : (order : Order) (last : Place) (head : Head) → HasSizes head → may_follow order last (place head.side head.size) ≡ true
    → next_head order last (line_of head) ≡ Some head
next_read order last head fits follows =
    ap (option_and_then (λ (head : Head). cond (may_follow order last (place head.side head.size)) (Some head) None)) (head_read head fits)
    ∙ ap (λ b. cond b (Some head) None) follows
