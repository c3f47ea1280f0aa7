-- The first unexpected lexeme is determined.
use Rattle.std.proofs.Common.{◌≡◌, ◌≤◌, ◌+◌, ℕ, zero, suc, List, [], ◌∷◌, ◌++◌, take, drop, refl, sym, ◌∙◌, ap, subst, arith, append_assoc, inl, inr}
use Rattle.std.proofs.lemmas.Bool.{cases_order}
use Rattle.std.proofs.lemmas.List.{append-nil, take-append-drop}
use Rattle.tlsf_syntax.specs.Tree.{Written}
use Rattle.tlsf_syntax.specs.Lexemes.{Lexeme}
use Rattle.tlsf_syntax.specs.Texts.{DerivesText, Begins, IsFirstUnexpected, at_lexeme, at_end, UnexpectedIsDetermined}

pub front_begins : (xs ys : List Lexeme) → Begins (xs ++ ys) → Begins xs
front_begins xs ys b = (ys ++ b.0, b.1, subst (λ ls. DerivesText ls b.1) (append_assoc xs ys b.0) b.2)

take-take_le : (j k : ℕ) (ls : List Lexeme) → j ≤ k → take j (take k ls) ≡ take j ls
take-take_le zero k ls h = refl
take-take_le (suc j) zero ls h = absurd (omega arith)
take-take_le (suc j) (suc k) [] h = refl
take-take_le (suc j) (suc k) (l ∷ ls) h = ap (λ xs. l ∷ xs) (take-take_le j k ls (omega arith))

-- what stands before a later place begins with what stands before an earlier one
earlier : (ls : List Lexeme) (j k : ℕ) → j ≤ k → take j ls ++ drop j (take k ls) ≡ take k ls
earlier ls j k h = ap (λ xs. xs ++ drop j (take k ls)) (sym (take-take_le j k ls h)) ∙ take-append-drop j (take k ls)

begins_earlier : (ls : List Lexeme) (j k : ℕ) → j ≤ k → Begins (take k ls) → Begins (take j ls)
begins_earlier ls j k h b = front_begins (take j ls) (drop j (take k ls)) (subst Begins (sym (earlier ls j k h)) b)

pub begins_before : (ls : List Lexeme) (j : ℕ) → Begins ls → Begins (take j ls)
begins_before ls j b = front_begins (take j ls) (drop j ls) (subst Begins (sym (take-append-drop j ls)) b)

pub text_begins : (ls : List Lexeme) (w : Written) → DerivesText ls w → Begins ls
text_begins ls w d = ([], w, subst (λ xs. DerivesText xs w) (sym (append-nil ls)) d)

one : (ls : List Lexeme) (k k' : ℕ) → IsFirstUnexpected ls k → IsFirstUnexpected ls k' → k ≡ k'
one ls k k' (at_lexeme xs i low b ends) (at_lexeme ys j low' b' ends') = elim (cases_order i j) [
  | inl e ↦ e
  | inr r ↦ elim r [ inl h ↦ absurd (ends (begins_earlier ls (i + 1) j (omega arith) b')) | inr h ↦ absurd (ends' (begins_earlier ls (j + 1) i (omega arith) b)) ]
]
one ls k k' (at_lexeme xs i low b ends) (at_end ys b' none) = absurd (ends (begins_before ls (i + 1) b'))
one ls k k' (at_end xs b none) (at_lexeme ys j low' b' ends) = absurd (ends (begins_before ls (j + 1) b))
one ls k k' (at_end xs b none) (at_end ys b' other) = refl

never : (ls : List Lexeme) (k : ℕ) (w : Written) → IsFirstUnexpected ls k → DerivesText ls w → ⊥
never ls k w (at_lexeme xs i low b ends) d = ends (begins_before ls (i + 1) (text_begins ls w d))
never ls k w (at_end xs b none) d = none (w, d)

pub determined : UnexpectedIsDetermined
determined = record { one = one; never_a_text = never }
