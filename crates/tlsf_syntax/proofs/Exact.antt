-- Texts are read exactly, and refused at the first unexpected lexeme.
use Rattle.std.proofs.Common.{◌≡◌, ◌≤◌, ◌+◌, ℕ, suc, List, [], ◌∷◌, ◌++◌, length, take, refl, sym, ◌∙◌, ap, subst, arith, append_assoc}
use Rattle.std.proofs.lemmas.List.{append-nil}
use Rattle.tlsf_syntax.specs.Tree.{Written}
use Rattle.tlsf_syntax.specs.Lexemes.{Lexeme}
use Rattle.tlsf_syntax.specs.Texts.{DerivesText, Begins, IsFirstUnexpected, at_lexeme, at_end}
use Rattle.tlsf_syntax.specs.Reading.{Answer, taken, refused}
use Rattle.tlsf_syntax.specs.TextReading.{text_read, AnswersInTheEnd, TextsAreReadExactly}
use Rattle.tlsf_syntax.proofs.Reading.{Eventually}
use Rattle.tlsf_syntax.proofs.Texts.{text_is_read}
use Rattle.tlsf_syntax.proofs.Completes.{Completes, Opens}
use Rattle.tlsf_syntax.proofs.TextSound.{Reads, reads_taken, reads_refused, text_reads}
use Rattle.tlsf_syntax.proofs.TextAgreement.{refused_for_good, left_for_good}

take_front : (front rest : List Lexeme) → take (length front) (front ++ rest) ≡ front
take_front [] rest = refl
take_front (l ∷ front) rest = ap (λ x. l ∷ x) (take_front front rest)

take_next : (front : List Lexeme) (l : Lexeme) (rest : List Lexeme) → take (suc (length front)) (front ++ l ∷ rest) ≡ front ++ l ∷ []
take_next [] l rest = refl
take_next (q ∷ front) l rest = ap (λ x. q ∷ x) (take_next front l rest)

take_more : (front : List Lexeme) (l : Lexeme) (rest : List Lexeme) → take (length front + 1) (front ++ l ∷ rest) ≡ front ++ l ∷ []
take_more front l rest = let more : length front + 1 ≡ suc (length front) = omega arith in ap (λ k. take k (front ++ l ∷ rest)) more ∙ take_next front l rest

length_front : (front rest : List Lexeme) → length (front ++ rest) ≡ length front + length rest
length_front [] rest = omega arith
length_front (l ∷ front) rest = let e : length (front ++ rest) ≡ length front + length rest = length_front front rest in omega (arith, e)

begins_so : (front : List Lexeme) → Completes DerivesText front → Begins front
begins_so front c = (c.more, c.value, c.derived)

-- what was read whole in the end
read_so : (ls : List Lexeme) (w : Written) (x : Answer Written) → Reads DerivesText ls x → x ≡ taken w [] → DerivesText ls w
read_so ls w x (reads_taken v rest front is d) e =
    let same : v ≡ w = cc in let none : rest ≡ [] = cc in subst (DerivesText ls) same (subst (λ y. DerivesText y v) (sym (is ∙ ap (λ y. front ++ y) none ∙ append-nil front)) d)
read_so ls w x _ e = absurd cc

-- a place after this front
placed : (ls front : List Lexeme) (l : Lexeme) (rest : List Lexeme) (at : ℕ) → ls ≡ front ++ l ∷ rest → at ≡ length front → Begins front → ¬ Begins (front ++ l ∷ []) → IsFirstUnexpected ls at
placed ls front l rest at e f b n =
    let long : length ls ≡ length front + suc (length rest) = ap length e ∙ length_front front (l ∷ rest) in
    subst (IsFirstUnexpected ls) (sym f) (at_lexeme ls (length front) (omega (arith, long)) (subst Begins (sym (ap (take (length front)) e ∙ take_front front (l ∷ rest))) b)
    (λ c. n (subst Begins (ap (take (length front + 1)) e ∙ take_more front l rest) c)))

-- no text has the refused lexeme there
none_goes_on : (front : List Lexeme) (l : Lexeme) (rest : List Lexeme) (from : ℕ) → ((depth : ℕ) → from ≤ depth → text_read depth (front ++ l ∷ rest) ≡ refused (suc (length rest))) → ¬ Begins (front ++ l ∷ [])
none_goes_on front l rest from h b =
    let whole : DerivesText (front ++ l ∷ b.0) b.1 = subst (λ x. DerivesText x b.1) (append_assoc front (l ∷ []) b.0) b.2 in
    let a : Eventually text_read (front ++ l ∷ b.0) b.1 [] = text_is_read (front ++ l ∷ b.0) b.1 whole in
    refused_for_good (record { last = l; one = rest; other = b.0 }) (from + a.from) front b.1 (h (from + a.from) (omega arith)) (a.reads (from + a.from) (omega arith))

none_has_more : (front : List Lexeme) (w : Written) (l : Lexeme) (rest : List Lexeme) (from : ℕ) → ((depth : ℕ) → from ≤ depth → text_read depth (front ++ l ∷ rest) ≡ taken w (l ∷ rest)) → ¬ Begins (front ++ l ∷ [])
none_has_more front w l rest from h b =
    let whole : DerivesText (front ++ l ∷ b.0) b.1 = subst (λ x. DerivesText x b.1) (append_assoc front (l ∷ []) b.0) b.2 in
    let a : Eventually text_read (front ++ l ∷ b.0) b.1 [] = text_is_read (front ++ l ∷ b.0) b.1 whole in
    left_for_good (record { last = l; one = rest; other = b.0 }) (from + a.from) front w b.1 (h (from + a.from) (omega arith)) (a.reads (from + a.from) (omega arith))

-- a text isn't refused
not_both : (ls : List Lexeme) (w : Written) (k from : ℕ) → ((depth : ℕ) → from ≤ depth → text_read depth ls ≡ refused k) → DerivesText ls w → ⊥
not_both ls w k from h d =
    let a : Eventually text_read ls w [] = text_is_read ls w d in
    let no : ◌≡◌ {A = Answer Written} (refused k) (taken w []) = sym (h (from + a.from) (omega arith)) ∙ a.reads (from + a.from) (omega arith) in absurd cc

first_refused : (ls : List Lexeme) (at k : ℕ) → AnswersInTheEnd ls (refused k) → at + k ≡ length ls → IsFirstUnexpected ls at
first_refused ls at k h e = by (text_read h.0 ls) (text_reads h.0 ls) (h.1 h.0 (omega arith))
  where
    found : (o : Opens DerivesText ls k) (rest : List Lexeme) → ls ≡ o.front ++ rest → length rest ≡ k → IsFirstUnexpected ls at
    found o [] is n =
        let all : ls ≡ o.front = is ∙ append-nil o.front in
        let end : at ≡ length ls = omega (arith, e, n) in
        subst (IsFirstUnexpected ls) (sym end) (at_end ls (subst Begins (sym all) (begins_so o.front o.completes)) (λ t. not_both ls t.0 k h.0 h.1 t.1))
    found o (l ∷ rest) is n =
        let long : length ls ≡ length o.front + suc (length rest) = ap length is ∙ length_front o.front (l ∷ rest) in
        placed ls o.front l rest at is (omega (arith, e, n, long)) (begins_so o.front o.completes)
        (none_goes_on o.front l rest h.0 (λ depth low. ap (text_read depth) (sym is) ∙ h.1 depth low ∙ ap (λ j. refused j) (sym n)))

    by : (x : Answer Written) → Reads DerivesText ls x → x ≡ refused k → IsFirstUnexpected ls at
    by x (reads_refused j o) f = let same : j ≡ k = cc in let c : Opens DerivesText ls k = subst (Opens DerivesText ls) same o in found c c.rest c.is c.left
    by x _ f = absurd cc

first_left : (ls : List Lexeme) (at : ℕ) (w : Written) (l : Lexeme) (rest : List Lexeme) → AnswersInTheEnd ls (taken w (l ∷ rest)) → at + length (l ∷ rest) ≡ length ls → IsFirstUnexpected ls at
first_left ls at w l rest h e = by (text_read h.0 ls) (text_reads h.0 ls) (h.1 h.0 (omega arith))
  where
    by : (x : Answer Written) → Reads DerivesText ls x → x ≡ taken w (l ∷ rest) → IsFirstUnexpected ls at
    by x (reads_taken v after front is d) f =
        let same : after ≡ l ∷ rest = cc in
        let all : ls ≡ front ++ l ∷ rest = is ∙ ap (λ y. front ++ y) same in
        let long : length ls ≡ length front + suc (length rest) = ap length all ∙ length_front front (l ∷ rest) in
        placed ls front l rest at all (omega (arith, e, long)) ([], v, subst (λ y. DerivesText y v) (sym (append-nil front)) d) (none_has_more front w l rest h.0 (λ depth low. ap (text_read depth) (sym all) ∙ h.1 depth low))
    by x _ f = absurd cc

pub exactly : TextsAreReadExactly
exactly = record {
  sound = λ ls w h. read_so ls w (text_read h.0 ls) (text_reads h.0 ls) (h.1 h.0 (omega arith));
  complete = λ ls w d. let a : Eventually text_read ls w [] = text_is_read ls w d in (a.from, a.reads);
  refused = first_refused;
  left = first_left;
}
