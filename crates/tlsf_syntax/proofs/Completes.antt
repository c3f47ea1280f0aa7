-- Lists that go on to something derived, and the shortest expression.
use Rattle.std.proofs.Common.{◌≡◌, ℕ, true, List, [], ◌∷◌, ◌++◌, length, refl, sym, ◌∙◌, ap, subst, append_assoc, arith}
use Rattle.std.proofs.lemmas.List.{append-nil}
use Rattle.tlsf_tokens.specs.declared.symbol.Symbol.{Symbol}
use Rattle.tlsf_tokens.specs.declared.symbol.Symbol.TheVariants as symbol
use Rattle.tlsf_syntax.specs.Tree.{Tree, truth}
use Rattle.tlsf_syntax.specs.Lexemes.{Lexeme}
use Rattle.tlsf_syntax.specs.declared.level.Level.{Level}
use Rattle.tlsf_syntax.specs.declared.level.Level.TheVariants.{Primary}
use Rattle.tlsf_syntax.specs.Expressions.{Derives, of_true}
use Rattle.tlsf_syntax.specs.Reading.{level_number, from_to}
use Rattle.tlsf_syntax.proofs.Starts.{climb}

-- this list goes on to one that is derived
pub record Completes {A : Type 0} (D : List Lexeme → A → Type 0) (p : List Lexeme) : Type 0 where
  pub more : List Lexeme
  pub value : A
  pub derived : D (p ++ more) value

pub completes : {A : Type 0} {D : List Lexeme → A → Type 0} {p : List Lexeme} (more : List Lexeme) (value : A) → D (p ++ more) value → Completes D p
completes more value derived = record { more = more; value = value; derived = derived }

pub full : {A : Type 0} (D : List Lexeme → A → Type 0) (p : List Lexeme) (a : A) → D p a → Completes D p
full D p a d = completes [] a (subst (λ x. D x a) (sym (append-nil p)) d)

-- what stands in front of a list that goes on goes on too
pub cut : {A : Type 0} (D : List Lexeme → A → Type 0) (p x w : List Lexeme) → w ≡ p ++ x → Completes D w → Completes D p
cut D p x w e c = completes (x ++ c.more) c.value (subst (λ y. D y c.value) (ap (λ y. y ++ c.more) e ∙ append_assoc p x c.more) c.derived)

-- the lexemes before the last k go on so
pub record Opens {A : Type 0} (D : List Lexeme → A → Type 0) (ls : List Lexeme) (k : ℕ) : Type 0 where
  pub front : List Lexeme
  pub rest : List Lexeme
  pub is : ls ≡ front ++ rest
  pub left : length rest ≡ k
  pub completes : Completes D front

pub opens_here : {A : Type 0} (D : List Lexeme → A → Type 0) (input p ls : List Lexeme) → input ≡ p ++ ls → Completes D p → Opens D input (length ls)
opens_here D input p ls e c = record { front = p; rest = ls; is = e; left = refl; completes = c }

-- a part of a form
pub lift : {A B : Type 0} (D : List Lexeme → B → Type 0) (P : List Lexeme → A → Type 0) (input p ls : List Lexeme) (k : ℕ) → input ≡ p ++ ls → ((q : List Lexeme) (a : A) → P q a → Completes D (p ++ q)) → Opens P ls k → Opens D input k
lift D P input p ls k e f o =
    let c : Completes P o.front = o.completes in
    record {
      front = p ++ o.front;
      rest = o.rest;
      is = e ∙ ap (λ x. p ++ x) o.is ∙ sym (append_assoc p o.front o.rest);
      left = o.left;
      completes = cut D (p ++ o.front) c.more (p ++ (o.front ++ c.more)) (sym (append_assoc p o.front c.more)) (f (o.front ++ c.more) c.value c.derived);
    }

-- ---- the shortest expression

abbrev pub sign : Symbol → Lexeme
sign s = record { symbol = s; text = []; start = 0; end = 0 }

abbrev pub ex : Tree
ex = truth (from_to 0 0) true

pub example : (n : Level) → Derives n (sign symbol.True ∷ []) ex
example n = climb (level_number n) Primary n (sign symbol.True ∷ []) ex (omega arith) (of_true (sign symbol.True) refl)

-- nothing at all begins an expression
pub nothing_begins : (n : Level) → Completes (Derives n) []
nothing_begins n = completes (sign symbol.True ∷ []) ex (example n)
