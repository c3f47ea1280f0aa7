-- The first word `Finite` in the value of SEMANTICS.
use Rattle.std.proofs.Common.{◌≡◌, ◌<◌, ◌≤◌, ◌⊎◌, ℕ, Bool, true, false, ◌&&◌, cond, List, [], ◌∷◌, ◌++◌, Option, None, Some, refl, sym, ◌∙◌, ap, subst, arith, inl, inr, length, map, take, drop, ◌-◌}
use Rattle.std.specs.Prelude.{codes}
use Rattle.std.specs.Str.{bytes_eq}
use Rattle.std.proofs.lemmas.List.{take_all}
use Rattle.std.proofs.lemmas.Slice.Eq.{bytes_eq-Decides}
use Rattle.std.proofs.lemmas.Bool.{and_from, and_parts}
use Rattle.tlsf_tokens.specs.declared.symbol.Symbol.TheVariants as symbol
use Rattle.tlsf_syntax.specs.Lexemes.{Lexeme, Is}
use Rattle.tlsf_syntax.specs.Symbols.{symbol_eq}
use Rattle.tlsf_syntax.specs.Reading.{begins}
use Rattle.tlsf_syntax.proofs.Symbols.{same_symbol, is_symbol}
use Rattle.tlsf_reader.specs.declared.lexeme.Lexeme.{Lexeme as CodeLexeme}
use Rattle.tlsf_reader.specs.Seen.{seen}
use Rattle.tlsf_reader.specs.Faults.{IsFinite, first_word, second_word}
use Rattle.tlsf_reader.specs.Least.{IsLeast, least}
use Rattle.tlsf_reader.specs.Places.{FiniteAt}
use Rattle.tlsf_reader.proofs.LeastPlaces.{least_of_both, least_assoc, least_none, none_is_least}
use Rattle.tlsf_reader.specs.Assembly.{is_finite, first_finite_word, second_finite_word, finite_in_front}

finite_is : (l : Lexeme) → is_finite l ≡ true → Is symbol.Ident l × (l.text ≡ codes "Finite")
finite_is l e = by (symbol_eq l.symbol symbol.Ident) refl (bytes_eq l.text (codes "Finite")) refl e
  where
    by : (b : Bool) → symbol_eq l.symbol symbol.Ident ≡ b → (c : Bool) → bytes_eq l.text (codes "Finite") ≡ c → (b && c) ≡ true → Is symbol.Ident l × (l.text ≡ codes "Finite")
    by true i true t f = (same_symbol l.symbol symbol.Ident i, (bytes_eq-Decides l.text (codes "Finite")).0 t)
    by true i false t f = absurd cc
    by false i c t f = absurd cc

is_finite_so : (l : Lexeme) → Is symbol.Ident l → l.text ≡ codes "Finite" → is_finite l ≡ true
is_finite_so l i t = ap (λ s. symbol_eq s symbol.Ident && bytes_eq l.text (codes "Finite")) i ∙ ap (λ x. bytes_eq x (codes "Finite")) t

-- the word SEMANTICS in front, with such a first word behind its colon
record FirstAt (ls : List Lexeme) (place : ℕ) : Type 0 where
  s : Lexeme
  colon : Lexeme
  l : Lexeme
  after : List Lexeme
  is : ls ≡ s ∷ colon ∷ l ∷ after
  semantics : Is symbol.Semantics s
  sign : Is symbol.Colon colon
  name : Is symbol.Ident l
  text : l.text ≡ codes "Finite"
  place_is : l.start ≡ place

-- the same with such a second word behind its comma
record SecondAt (ls : List Lexeme) (place : ℕ) : Type 0 where
  s : Lexeme
  colon : Lexeme
  word : Lexeme
  comma : Lexeme
  l : Lexeme
  after : List Lexeme
  is : ls ≡ s ∷ colon ∷ word ∷ comma ∷ l ∷ after
  semantics : Is symbol.Semantics s
  sign : Is symbol.Colon colon
  separator : Is symbol.Comma comma
  name : Is symbol.Ident l
  text : l.text ≡ codes "Finite"
  place_is : l.start ≡ place

first_least : (ls : List Lexeme) → begins symbol.Semantics ls ≡ true → IsLeast (FirstAt ls) (first_finite_word ls)
first_least [] b = none_is_least (FirstAt []) (λ q h. absurd (let e : [] ≡ h.s ∷ h.colon ∷ h.l ∷ h.after = h.is in cc))
first_least (s ∷ []) b = none_is_least (FirstAt (s ∷ [])) (λ q h. absurd (let e : s ∷ [] ≡ h.s ∷ h.colon ∷ h.l ∷ h.after = h.is in cc))
first_least (s ∷ colon ∷ []) b = none_is_least (FirstAt (s ∷ colon ∷ [])) (λ q h. absurd (let e : s ∷ colon ∷ [] ≡ h.s ∷ h.colon ∷ h.l ∷ h.after = h.is in cc))
first_least (s ∷ colon ∷ l ∷ ls) b = by (symbol_eq colon.symbol symbol.Colon && is_finite l) refl
  where
    holds : (q : ℕ) → FirstAt (s ∷ colon ∷ l ∷ ls) q → ((symbol_eq colon.symbol symbol.Colon && is_finite l) ≡ true) × (l.start ≡ q)
    holds q h =
        let e : s ∷ colon ∷ l ∷ ls ≡ h.s ∷ h.colon ∷ h.l ∷ h.after = h.is in
        let one : colon ≡ h.colon = cc in let other : l ≡ h.l = cc in (
          and_from (symbol_eq colon.symbol symbol.Colon) (is_finite l) (is_symbol colon.symbol symbol.Colon (ap (λ (x : Lexeme). x.symbol) one ∙ h.sign))
              (is_finite_so l (ap (λ (x : Lexeme). x.symbol) other ∙ h.name) (ap (λ (x : Lexeme). x.text) other ∙ h.text)),
          ap (λ (x : Lexeme). x.start) other ∙ h.place_is,
        )

    by : (c : Bool) → (symbol_eq colon.symbol symbol.Colon && is_finite l) ≡ c → IsLeast (FirstAt (s ∷ colon ∷ l ∷ ls)) (cond c (Some l.start) None)
    by true c =
        let t : (symbol_eq colon.symbol symbol.Colon ≡ true) × (is_finite l ≡ true) = and_parts (symbol_eq colon.symbol symbol.Colon) (is_finite l) c in
        let f : Is symbol.Ident l × (l.text ≡ codes "Finite") = finite_is l t.1 in
        record {
          at = λ p e. record { s = s; colon = colon; l = l; after = ls; is = refl; semantics = same_symbol s.symbol symbol.Semantics b; sign = same_symbol colon.symbol symbol.Colon t.0; name = f.0; text = f.1; place_is = cc };
          below = λ q h. let x : ((symbol_eq colon.symbol symbol.Colon && is_finite l) ≡ true) × (l.start ≡ q) = holds q h in let y : l.start ≡ q = x.1 in omega (arith, y);
        }
    by false c = none_is_least (FirstAt (s ∷ colon ∷ l ∷ ls)) (λ q h. let x : ((symbol_eq colon.symbol symbol.Colon && is_finite l) ≡ true) × (l.start ≡ q) = holds q h in let y : (symbol_eq colon.symbol symbol.Colon && is_finite l) ≡ true = x.0 in absurd cc)

second_least : (ls : List Lexeme) → begins symbol.Semantics ls ≡ true → IsLeast (SecondAt ls) (second_finite_word ls)
second_least [] b = none_is_least (SecondAt []) (λ q h. absurd (let e : [] ≡ h.s ∷ h.colon ∷ h.word ∷ h.comma ∷ h.l ∷ h.after = h.is in cc))
second_least (s ∷ []) b = none_is_least (SecondAt (s ∷ [])) (λ q h. absurd (let e : s ∷ [] ≡ h.s ∷ h.colon ∷ h.word ∷ h.comma ∷ h.l ∷ h.after = h.is in cc))
second_least (s ∷ colon ∷ []) b = none_is_least (SecondAt (s ∷ colon ∷ [])) (λ q h. absurd (let e : s ∷ colon ∷ [] ≡ h.s ∷ h.colon ∷ h.word ∷ h.comma ∷ h.l ∷ h.after = h.is in cc))
second_least (s ∷ colon ∷ word ∷ []) b = none_is_least (SecondAt (s ∷ colon ∷ word ∷ [])) (λ q h. absurd (let e : s ∷ colon ∷ word ∷ [] ≡ h.s ∷ h.colon ∷ h.word ∷ h.comma ∷ h.l ∷ h.after = h.is in cc))
second_least (s ∷ colon ∷ word ∷ comma ∷ []) b = none_is_least (SecondAt (s ∷ colon ∷ word ∷ comma ∷ [])) (λ q h. absurd (let e : s ∷ colon ∷ word ∷ comma ∷ [] ≡ h.s ∷ h.colon ∷ h.word ∷ h.comma ∷ h.l ∷ h.after = h.is in cc))
second_least (s ∷ colon ∷ word ∷ comma ∷ l ∷ ls) b = by (symbol_eq colon.symbol symbol.Colon && (symbol_eq comma.symbol symbol.Comma && is_finite l)) refl
  where
    holds : (q : ℕ) → SecondAt (s ∷ colon ∷ word ∷ comma ∷ l ∷ ls) q → ((symbol_eq colon.symbol symbol.Colon && (symbol_eq comma.symbol symbol.Comma && is_finite l)) ≡ true) × (l.start ≡ q)
    holds q h =
        let e : s ∷ colon ∷ word ∷ comma ∷ l ∷ ls ≡ h.s ∷ h.colon ∷ h.word ∷ h.comma ∷ h.l ∷ h.after = h.is in
        let one : colon ≡ h.colon = cc in let two : comma ≡ h.comma = cc in let other : l ≡ h.l = cc in (
          and_from (symbol_eq colon.symbol symbol.Colon) (symbol_eq comma.symbol symbol.Comma && is_finite l) (is_symbol colon.symbol symbol.Colon (ap (λ (x : Lexeme). x.symbol) one ∙ h.sign))
              (and_from (symbol_eq comma.symbol symbol.Comma) (is_finite l) (is_symbol comma.symbol symbol.Comma (ap (λ (x : Lexeme). x.symbol) two ∙ h.separator))
              (is_finite_so l (ap (λ (x : Lexeme). x.symbol) other ∙ h.name) (ap (λ (x : Lexeme). x.text) other ∙ h.text))),
          ap (λ (x : Lexeme). x.start) other ∙ h.place_is,
        )

    by : (c : Bool) → (symbol_eq colon.symbol symbol.Colon && (symbol_eq comma.symbol symbol.Comma && is_finite l)) ≡ c → IsLeast (SecondAt (s ∷ colon ∷ word ∷ comma ∷ l ∷ ls)) (cond c (Some l.start) None)
    by true c =
        let t : (symbol_eq colon.symbol symbol.Colon ≡ true) × ((symbol_eq comma.symbol symbol.Comma && is_finite l) ≡ true) = and_parts (symbol_eq colon.symbol symbol.Colon) (symbol_eq comma.symbol symbol.Comma && is_finite l) c in
        let u : (symbol_eq comma.symbol symbol.Comma ≡ true) × (is_finite l ≡ true) = and_parts (symbol_eq comma.symbol symbol.Comma) (is_finite l) t.1 in
        let f : Is symbol.Ident l × (l.text ≡ codes "Finite") = finite_is l u.1 in
        record {
          at = λ p e. record { s = s; colon = colon; word = word; comma = comma; l = l; after = ls; is = refl; semantics = same_symbol s.symbol symbol.Semantics b; sign = same_symbol colon.symbol symbol.Colon t.0; separator = same_symbol comma.symbol symbol.Comma u.0; name = f.0; text = f.1; place_is = cc };
          below = λ q h. let x : ((symbol_eq colon.symbol symbol.Colon && (symbol_eq comma.symbol symbol.Comma && is_finite l)) ≡ true) × (l.start ≡ q) = holds q h in let y : l.start ≡ q = x.1 in omega (arith, y);
        }
    by false c = none_is_least (SecondAt (s ∷ colon ∷ word ∷ comma ∷ l ∷ ls)) (λ q h. let x : ((symbol_eq colon.symbol symbol.Colon && (symbol_eq comma.symbol symbol.Comma && is_finite l)) ≡ true) × (l.start ≡ q) = holds q h in
        let y : (symbol_eq colon.symbol symbol.Colon && (symbol_eq comma.symbol symbol.Comma && is_finite l)) ≡ true = x.0 in absurd cc)

-- one of both, in front
abbrev FrontAt : List Lexeme → ℕ → Type 0
FrontAt ls p = FirstAt ls p ⊎ SecondAt ls p

no_front : (l : Lexeme) (ls : List Lexeme) → symbol_eq l.symbol symbol.Semantics ≡ false → (q : ℕ) → FrontAt (l ∷ ls) q → ⊥
no_front l ls e q f = elim f [
  | inl h ↦ (let same : l ∷ ls ≡ h.s ∷ h.colon ∷ h.l ∷ h.after = h.is in let one : l ≡ h.s = cc in apart h.s one h.semantics)
  | inr h ↦ (let same : l ∷ ls ≡ h.s ∷ h.colon ∷ h.word ∷ h.comma ∷ h.l ∷ h.after = h.is in let one : l ≡ h.s = cc in apart h.s one h.semantics)
]
  where
    apart : (s : Lexeme) → l ≡ s → Is symbol.Semantics s → ⊥
    apart s one i = let yes : symbol_eq l.symbol symbol.Semantics ≡ true = is_symbol l.symbol symbol.Semantics (ap (λ (x : Lexeme). x.symbol) one ∙ i) in cc

front_least : (l : Lexeme) (ls : List Lexeme) → IsLeast (FrontAt (l ∷ ls)) (finite_in_front (l ∷ ls))
front_least l ls = by (symbol_eq l.symbol symbol.Semantics) refl
  where
    by : (b : Bool) → symbol_eq l.symbol symbol.Semantics ≡ b → IsLeast (FrontAt (l ∷ ls)) (cond b (least (first_finite_word (l ∷ ls)) (second_finite_word (l ∷ ls))) None)
    by true e =
        least_of_both (FirstAt (l ∷ ls)) (SecondAt (l ∷ ls)) (FrontAt (l ∷ ls)) (first_finite_word (l ∷ ls)) (second_finite_word (l ∷ ls)) (first_least (l ∷ ls) e) (second_least (l ∷ ls) e) (λ p h. inl h) (λ p h. inr h) (λ p h. h)
    by false e = none_is_least (FrontAt (l ∷ ls)) (no_front l ls e)

-- in front, or later

later_finite : (l x : Lexeme) (ls : List Lexeme) → IsFinite ls x → IsFinite (l ∷ ls) x
later_finite l x ls (first_word before after s colon y i j k t) = first_word (l ∷ before) after s colon y i j k t
later_finite l x ls (second_word before after s colon word comma y i j k m t) = second_word (l ∷ before) after s colon word comma y i j k m t

here_finite : (l : Lexeme) (ls : List Lexeme) (p : ℕ) → FrontAt (l ∷ ls) p → FiniteAt (l ∷ ls) p
here_finite l ls p f = elim f [
  | inl h ↦ record { lexeme = h.l; is = subst (λ y. IsFinite y h.l) (sym h.is) (first_word [] h.after h.s h.colon h.l h.semantics h.sign h.name h.text); place_is = h.place_is }
  | inr h ↦ record { lexeme = h.l; is = subst (λ y. IsFinite y h.l) (sym h.is) (second_word [] h.after h.s h.colon h.word h.comma h.l h.semantics h.sign h.separator h.name h.text); place_is = h.place_is }
]

split_finite : (xs : List Lexeme) (x : Lexeme) → IsFinite xs x → (l : Lexeme) (ls : List Lexeme) → xs ≡ l ∷ ls → FrontAt (l ∷ ls) x.start ⊎ IsFinite ls x
split_finite xs x (first_word [] after s colon y i j k t) l ls e = inl (inl (record { s = s; colon = colon; l = y; after = after; is = sym e; semantics = i; sign = j; name = k; text = t; place_is = refl }))
split_finite xs x (first_word (b ∷ before) after s colon y i j k t) l ls e = let rest : before ++ s ∷ colon ∷ y ∷ after ≡ ls = cc in inr (subst (λ z. IsFinite z y) rest (first_word before after s colon y i j k t))
split_finite xs x (second_word [] after s colon word comma y i j k m t) l ls e =
    inl (inr (record { s = s; colon = colon; word = word; comma = comma; l = y; after = after; is = sym e; semantics = i; sign = j; separator = k; name = m; text = t; place_is = refl }))
split_finite xs x (second_word (b ∷ before) after s colon word comma y i j k m t) l ls e =
    let rest : before ++ s ∷ colon ∷ word ∷ comma ∷ y ∷ after ≡ ls = cc in inr (subst (λ z. IsFinite z y) rest (second_word before after s colon word comma y i j k m t))

split_at : (l : Lexeme) (ls : List Lexeme) (p : ℕ) → FiniteAt (l ∷ ls) p → FrontAt (l ∷ ls) p ⊎ FiniteAt ls p
split_at l ls p f = elim (split_finite (l ∷ ls) f.lexeme f.is l ls refl) [ inl h ↦ inl (subst (FrontAt (l ∷ ls)) f.place_is h) | inr h ↦ inr (record { lexeme = f.lexeme; is = h; place_is = f.place_is }) ]

-- the place in front, and the least of those behind it, are the least of all
one_more : (l : Lexeme) (ls : List Lexeme) (later : Option ℕ) → IsLeast (FiniteAt ls) later → IsLeast (FiniteAt (l ∷ ls)) (least (finite_in_front (l ∷ ls)) later)
one_more l ls later h =
    least_of_both (FrontAt (l ∷ ls)) (FiniteAt ls) (FiniteAt (l ∷ ls)) (finite_in_front (l ∷ ls)) later (front_least l ls) h (here_finite l ls) (λ p f. record { lexeme = f.lexeme; is = later_finite l f.lexeme ls f.is; place_is = f.place_is }) (split_at l ls)

nowhere : IsLeast (FiniteAt []) None
nowhere = none_is_least (FiniteAt []) (λ q f. never [] f.lexeme f.is refl)
  where
    never : (xs : List Lexeme) (x : Lexeme) → IsFinite xs x → xs ≡ [] → ⊥
    never xs x (first_word [] after s colon y i j k t) e = absurd cc
    never xs x (first_word (b ∷ before) after s colon y i j k t) e = absurd cc
    never xs x (second_word [] after s colon word comma y i j k m t) e = absurd cc
    never xs x (second_word (b ∷ before) after s colon word comma y i j k m t) e = absurd cc

-- what a loop over the lexemes keeps

abbrev pub Keeps : List Lexeme → List Lexeme → Option ℕ → Type 0
Keeps all rest found = (later : Option ℕ) → IsLeast (FiniteAt rest) later → IsLeast (FiniteAt all) (least found later)

pub begins_keeping : (all : List Lexeme) → Keeps all all None
begins_keeping all later h = h

pub keeps_more : (all : List Lexeme) (l : Lexeme) (ls : List Lexeme) (found : Option ℕ) → Keeps all (l ∷ ls) found → Keeps all ls (least found (finite_in_front (l ∷ ls)))
keeps_more all l ls found k later h = subst (IsLeast (FiniteAt all)) (least_assoc found (finite_in_front (l ∷ ls)) later) (k (least (finite_in_front (l ∷ ls)) later) (one_more l ls later h))

pub keeps_all : (all : List Lexeme) (found : Option ℕ) → Keeps all [] found → IsLeast (FiniteAt all) found
keeps_all all found k = subst (IsLeast (FiniteAt all)) (least_none found) (k None nowhere)

-- the same over the code's lexemes, of which the first is passed
pub keeps_passing : (all : List Lexeme) (xs : List CodeLexeme) (found front next : Option ℕ) → 1 ≤ length xs → front ≡ finite_in_front (map seen xs) → next ≡ least found front → Keeps all (map seen xs) found
    → Keeps all (map seen (take (length xs - 1) (drop 1 xs))) next
keeps_passing all [] found front next h e f k = absurd (omega (arith, h))
keeps_passing all (x ∷ xs) found front next h e f k =
    let less : length (x ∷ xs) - 1 ≡ length xs = omega arith in
    let rest : take (length (x ∷ xs) - 1) xs ≡ xs = ap (λ n. take n xs) less ∙ take_all (length xs) xs (omega arith) in
    subst (λ ys. Keeps all (map seen ys) next) (sym rest) (subst (Keeps all (map seen xs)) (ap (least found) (sym e) ∙ sym f) (keeps_more all (seen x) (map seen xs) found k))

pub keeps_to_end : (all : List Lexeme) (xs : List CodeLexeme) (found : Option ℕ) → length xs < 1 → Keeps all (map seen xs) found → IsLeast (FiniteAt all) found
keeps_to_end all [] found h k = keeps_all all found k
keeps_to_end all (x ∷ xs) found h k = absurd (omega (arith, h))
