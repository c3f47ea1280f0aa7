-- Lexemes begin strictly one after another, and the place of a lexeme tells its symbol.
use Rattle.std.proofs.Common.{◌≡◌, ◌<◌, ◌≤◌, ◌-◌, ℕ, zero, suc, Bool, true, false, cond, List, [], ◌∷◌, ◌++◌, length, map, slice_get, Option, Some, refl, sym, ◌∙◌, ap, subst, arith}
use Rattle.std.specs.Prelude.{nat_lt}
use Rattle.tlsf_tokens.specs.Cuts.{IsInOrder}
use Rattle.spec_faults.specs.declared.code.SpecCode.{SpecCode}
use Rattle.tlsf_tokens.specs.declared.token.Token.{Token}
use Rattle.tlsf_tokens.proofs.Cutting.{in_order}
use Rattle.tlsf_tokens.specs.declared.symbol.Symbol.{Symbol}
use Rattle.tlsf_tokens.specs.declared.symbol.Symbol.TheVariants as symbol
use Rattle.tlsf_syntax.specs.declared.nesting.Role.{Role}
use Rattle.tlsf_syntax.specs.Nesting.{role_of, first_of, nesting_of, first_deep}
use Rattle.tlsf_syntax.specs.Lexemes.{Lexeme, Is}
use Rattle.tlsf_reader.specs.Lexed.{IsLexed, lexeme_from}
use Rattle.tlsf_reader.specs.Faults.{symbols_of, start_at}

-- each lexeme begins after the one before it, and before this place
abbrev pub AreApart : ℕ → List Lexeme → ℕ → Type 0
AreApart from [] to = from ≤ to
AreApart from (l ∷ ls) to = (from ≤ l.start) × AreApart (suc l.start) ls to

apart_from : (from nearer to : ℕ) (ls : List Lexeme) → from ≤ nearer → AreApart nearer ls to → AreApart from ls to
apart_from from nearer to [] h r = omega (arith, h, r)
apart_from from nearer to (l ∷ ls) h r = (let low : nearer ≤ l.start = r.0 in omega (arith, h, low), r.1)

lexemes_apart : (text : List ℕ) (from to : ℕ) (tokens : List Token) → IsInOrder from tokens to → AreApart from (map (lexeme_from text) tokens) to
lexemes_apart text from to [] o = o
lexemes_apart text from to (t ∷ ts) o =
    let some : t.start < t.end = o.1 in (o.0, apart_from (suc t.start) t.end to (map (lexeme_from text) ts) (omega (arith, some)) (lexemes_apart text t.end to ts o.2))

pub lexed_apart : (text : List ℕ) (stop : Option SpecCode) (stop_at : ℕ) (ls : List Lexeme) → IsLexed text stop stop_at ls → AreApart 0 ls stop_at
lexed_apart text stop stop_at ls l = subst (λ ms. AreApart 0 ms stop_at) (sym l.are) (lexemes_apart text 0 stop_at l.tokens (in_order text stop stop_at 0 l.tokens l.cut))

above : (ls : List Lexeme) (from to : ℕ) → AreApart from ls to → from ≤ to
above [] from to r = r
above (l ∷ ls) from to r = let low : suc l.start ≤ to = above ls (suc l.start) to r.1 in let first : from ≤ l.start = r.0 in omega (arith, low, first)

-- a lexeme begins from here on
start_from : (ls : List Lexeme) (from to k : ℕ) → AreApart from ls to → k < length ls → from ≤ start_at ls k
start_from [] from to k r h = absurd (omega (arith, h))
start_from (l ∷ ls) from to zero r h = r.0
start_from (l ∷ ls) from to (suc k) r h =
    let low : suc l.start ≤ start_at ls k = start_from ls (suc l.start) to k r.1 (omega (arith, h)) in let first : from ≤ l.start = r.0 in omega (arith, low, first)

-- a lexeme begins before the tokens stop
pub start_before : (ls : List Lexeme) (from to k : ℕ) → AreApart from ls to → k < length ls → start_at ls k < to
start_before [] from to k r h = absurd (omega (arith, h))
start_before (l ∷ ls) from to zero r h = let low : suc l.start ≤ to = above ls (suc l.start) to r.1 in omega (arith, low)
start_before (l ∷ ls) from to (suc k) r h = start_before ls (suc l.start) to k r.1 (omega (arith, h))

-- two lexemes that begin at one place are one
pub same_lexeme : (ls : List Lexeme) (from to j k : ℕ) → AreApart from ls to → j < length ls → k < length ls → start_at ls j ≡ start_at ls k → j ≡ k
same_lexeme [] from to j k r h g e = absurd (omega (arith, h))
same_lexeme (l ∷ ls) from to zero zero r h g e = refl
same_lexeme (l ∷ ls) from to zero (suc k) r h g e = absurd (let low : suc l.start ≤ start_at ls k = start_from ls (suc l.start) to k r.1 (omega (arith, g)) in omega (arith, low, e))
same_lexeme (l ∷ ls) from to (suc j) zero r h g e = absurd (let low : suc l.start ≤ start_at ls j = start_from ls (suc l.start) to j r.1 (omega (arith, h)) in omega (arith, low, e))
same_lexeme (l ∷ ls) from to (suc j) (suc k) r h g e = ap suc (same_lexeme ls (suc l.start) to j k r.1 (omega (arith, h)) (omega (arith, g)) e)

-- a lexeme of this symbol begins at this place
pub record StandsAt (s : Symbol) (ls : List Lexeme) (place : ℕ) : Type 0 where
  pub at : ℕ
  pub within : at < length ls
  pub here : slice_get (symbols_of ls) at ≡ Some s
  pub begins : start_at ls at ≡ place

-- so no other symbol begins there
pub one_symbol : (ls : List Lexeme) (from to place : ℕ) (s t : Symbol) → AreApart from ls to → StandsAt s ls place → StandsAt t ls place → s ≡ t
one_symbol ls from to place s t r a b =
    let at : a.at ≡ b.at = same_lexeme ls from to a.at b.at r a.within b.within (a.begins ∙ sym b.begins) in
    let both : Some s ≡ Some t = sym a.here ∙ ap (slice_get (symbols_of ls)) at ∙ b.here in
    cc

pub stands_first : (s : Symbol) (l : Lexeme) (ls : List Lexeme) → Is s l → StandsAt s (l ∷ ls) l.start
stands_first s l ls is = record { at = 0; within = omega arith; here = ap Some is; begins = refl }

pub stands_later : (s : Symbol) (l : Lexeme) (ls : List Lexeme) (place : ℕ) → StandsAt s ls place → StandsAt s (l ∷ ls) place
stands_later s l ls place a = record { at = suc a.at; within = let low : a.at < length ls = a.within in omega (arith, low); here = a.here; begins = a.begins }

pub stands_behind : (s : Symbol) (ls ms : List Lexeme) (place : ℕ) → StandsAt s ms place → StandsAt s (ls ++ ms) place
stands_behind s [] ms place a = a
stands_behind s (l ∷ ls) ms place a = stands_later s l (ls ++ ms) place (stands_behind s ls ms place a)

pub stands_before : (s : Symbol) (ls ms : List Lexeme) (place : ℕ) → StandsAt s ls place → StandsAt s (ls ++ ms) place
stands_before s ls ms place a = by ls a.at a.within a.here a.begins
  where
    by : (ls : List Lexeme) (k : ℕ) → k < length ls → slice_get (symbols_of ls) k ≡ Some s → start_at ls k ≡ place → StandsAt s (ls ++ ms) place
    by [] k h e f = absurd (omega (arith, h))
    by (l ∷ ls) zero h e f = record { at = 0; within = omega arith; here = e; begins = f }
    by (l ∷ ls) (suc k) h e f = stands_later s l (ls ++ ms) place (by ls k (omega (arith, h)) e f)

deep_from : (limit : ℕ) (before : List Role) (ss : List Symbol) (k : ℕ) → first_deep limit before ss ≡ Some k → length before ≤ k
deep_from limit before [] k e = absurd cc
deep_from limit before (s ∷ ss) k e = by (nat_lt limit (nesting_of (role_of s (first_of ss) ∷ before) zero true true)) e (deep_from limit (role_of s (first_of ss) ∷ before) ss k)
  where
    by : (b : Bool) → cond b (Some (length before)) (first_deep limit (role_of s (first_of ss) ∷ before) ss) ≡ Some k
        → (first_deep limit (role_of s (first_of ss) ∷ before) ss ≡ Some k → suc (length before) ≤ k) → length before ≤ k
    by true f rest = let here_is : length before ≡ k = cc in omega (arith, here_is)
    by false f rest = let low : suc (length before) ≤ k = rest f in omega (arith, low)

-- a name is never the first symbol that is nested too deep, since it counts as the one before it
pub never_deep : (limit : ℕ) (before : List Role) (ss : List Symbol) (k : ℕ) → nat_lt limit (nesting_of before zero true true) ≡ false → first_deep limit before ss ≡ Some k
    → slice_get ss (k - length before) ≡ Some symbol.Ident → length before ≤ k → ⊥
never_deep limit before [] k shallow e here h = absurd cc
never_deep limit before (s ∷ ss) k shallow e here h =
    by (nat_lt limit (nesting_of (role_of s (first_of ss) ∷ before) zero true true)) refl e
    (λ t f g. never_deep limit (role_of s (first_of ss) ∷ before) ss k t f (sym (ap (slice_get (s ∷ ss)) (let e : k - length before ≡ suc (k - suc (length before)) = omega (arith, g) in e)) ∙ here) g)
  where
    by : (b : Bool) → nat_lt limit (nesting_of (role_of s (first_of ss) ∷ before) zero true true) ≡ b → cond b (Some (length before)) (first_deep limit (role_of s (first_of ss) ∷ before) ss) ≡ Some k
        → (nat_lt limit (nesting_of (role_of s (first_of ss) ∷ before) zero true true) ≡ false → first_deep limit (role_of s (first_of ss) ∷ before) ss ≡ Some k → suc (length before) ≤ k → ⊥) → ⊥
    by true t f rest =
        let here_is : length before ≡ k = cc in
        let first : slice_get (s ∷ ss) 0 ≡ Some symbol.Ident = sym (ap (slice_get (s ∷ ss)) (let z : k - length before ≡ 0 = omega (arith, here_is) in z)) ∙ here in
        let ident : s ≡ symbol.Ident = cc in
        let counted : nat_lt limit (nesting_of before zero true true) ≡ true = ap (λ x. nat_lt limit (nesting_of (role_of x (first_of ss) ∷ before) zero true true)) (sym ident) ∙ t in
        let no : false ≡ true = sym shallow ∙ counted in cc
    by false t f rest = rest t f (deep_from limit (role_of s (first_of ss) ∷ before) ss k f)
