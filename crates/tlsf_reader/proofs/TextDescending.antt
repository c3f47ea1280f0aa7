-- How answers of readers of whole texts that go deep enough are put together.
use Rattle.std.proofs.Common.{◌≡◌, ℕ, zero, suc, ◌≤◌, Bool, true, false, cond, List, [], ◌∷◌, ◌++◌, length, map, Result, Ok, Err, refl, ap, ◌∙◌, subst, arith}
use Rattle.std.specs.declared.alloc.Global.{Global}
use Rattle.std.specs.declared.vec.Vec.{Vec}
use Rattle.tlsf_tokens.specs.declared.symbol.Symbol.{Symbol}
use Rattle.tlsf_tokens.specs.declared.symbol.Symbol.TheVariants as symbol
use Rattle.tlsf_syntax.specs.Lexemes.{Lexeme}
use Rattle.tlsf_syntax.specs.Symbols.{symbol_eq}
use Rattle.tlsf_syntax.specs.Reading.{Answer, taken, refused, lost, go_on, begins, expect}
use Rattle.tlsf_reader.specs.declared.rest.Refusal.{Refusal}
use Rattle.tlsf_reader.specs.Descent.{Eventually, IsRead, onto, Builds}
use Rattle.tlsf_reader.specs.TextDescent.{in_front}
use Rattle.tlsf_reader.proofs.Descending.{at_once, goes, stops, built_last}
use Rattle.tlsf_reader.proofs.Climbing.{read_taken}

-- what is read with a depth less
pub deeper : {A : Type 0} (g f : ℕ → Answer A) (a : Answer A) → ((d : ℕ) → g (suc d) ≡ f d) → Eventually f a → Eventually g a
deeper g f a e h = record { from = suc h.from; reads = by }
  where
    by : (depth : ℕ) → suc h.from ≤ depth → g depth ≡ a
    by zero low = absurd (omega arith)
    by (suc depth) low = e depth ∙ h.reads depth (omega arith)

-- what is done with an answer is done with its parts

pub go_expect : {A B : Type 0} (s : Symbol) (ls : List Lexeme) (f : Lexeme → List Lexeme → Answer A) (g : A → List Lexeme → Answer B) → go_on (expect s ls f) g ≡ expect s ls (λ l rest. go_on (f l rest) g)
go_expect s [] f g = refl
go_expect s (l ∷ ls) f g = by (symbol_eq l.symbol s)
  where
    by : (b : Bool) → go_on (cond b (f l ls) (refused (suc (length ls)))) g ≡ cond b (go_on (f l ls) g) (refused (suc (length ls)))
    by true = refl
    by false = refl

pub go_go : {A B C : Type 0} (a : Answer A) (f : A → List Lexeme → Answer B) (g : B → List Lexeme → Answer C) → go_on (go_on a f) g ≡ go_on a (λ x rest. go_on (f x rest) g)
go_go (taken x rest) f g = refl
go_go (refused k) f g = refl
go_go lost f g = refl

pub expect_same : {A : Type 0} (s : Symbol) (ls : List Lexeme) (f g : Lexeme → List Lexeme → Answer A) → ((l : Lexeme) (rest : List Lexeme) → f l rest ≡ g l rest) → expect s ls f ≡ expect s ls g
expect_same s [] f g e = refl
expect_same s (l ∷ ls) f g e = ap (λ x. cond (symbol_eq l.symbol s) x (refused (suc (length ls)))) (e l ls)

pub go_same : {A B : Type 0} (a : Answer A) (f g : A → List Lexeme → Answer B) → ((x : A) (rest : List Lexeme) → f x rest ≡ g x rest) → go_on a f ≡ go_on a g
go_same (taken x rest) f g e = e x rest
go_same (refused k) f g e = refl
go_same lost f g e = refl

-- lists

pub listed : {E X : Type 0} (view : E → X) (es : List E) → onto (in_front view) es [] ≡ map view es
listed view [] = refl
listed view (e ∷ es) = ap (λ xs. view e ∷ xs) (listed view es)

-- a list of what was pushed, where nothing more is read
pub list_read : {E X : Type 0} {view : E → X} {f g : ℕ → Answer (List X)} {after : List Lexeme} {v : Vec E Global} → Builds (in_front view) f v.items g → Eventually g (taken [] after)
    → IsRead (λ (w : Vec E Global). map view w.items) f after (Ok v)
list_read {view = view} {f = f} {after = after} {v = v} b h = read_taken (subst (λ xs. Eventually f (taken xs after)) (listed view v.items) (b.ok [] after h))

-- the same with a last element
pub list_ended : {E X : Type 0} {view : E → X} {f g : ℕ → Answer (List X)} {after : List Lexeme} {done : List E} {e : E} {v : Vec E Global} → v.items ≡ done ++ e ∷ [] → Builds (in_front view) f done g
    → Eventually g (taken (view e ∷ []) after) → IsRead (λ (w : Vec E Global). map view w.items) f after (Ok v)
list_ended {view = view} {f = f} {after = after} {v = v} is b h = read_taken (subst (λ xs. Eventually f (taken xs after)) (listed view v.items) (built_last v.items is b h))

-- a refusal behind what was pushed
pub list_stopped : {E X Y Z : Type 0} {put : E → X → X} {view : Y → X} {seen_as : Z → X} {f g : ℕ → Answer X} {rest after : List Lexeme} {done : List E} {e : Refusal} → Builds put f done g → IsRead view g rest (Err e)
    → IsRead seen_as f after (Err e)
list_stopped b h = record { ok = λ y is. absurd (cc); err = λ k is. b.err k (h.err k (cc)) }

-- a list that ends where a brace closes
pub record Until {X : Type 0} (list : ℕ → List Lexeme → Answer (List X)) (one : ℕ → List Lexeme → Answer X) : Type 0 where
  pub ends : (d : ℕ) (ls : List Lexeme) → begins symbol.CloseBrace ls ≡ true → list (suc d) ls ≡ taken [] ls
  pub goes : (d : ℕ) (ls : List Lexeme) → begins symbol.CloseBrace ls ≡ false → list (suc d) ls ≡ go_on (one d ls) (λ x rest. go_on (list d rest) (λ xs after. taken (x ∷ xs) after))

pub until_end : {X : Type 0} {list : ℕ → List Lexeme → Answer (List X)} {one : ℕ → List Lexeme → Answer X} {ls : List Lexeme} → Until list one → begins symbol.CloseBrace ls ≡ true → Eventually (λ d. list d ls) (taken [] ls)
until_end {list = list} {ls = ls} u e = deeper (λ d. list d ls) (λ d. taken [] ls) (taken [] ls) (λ d. u.ends d ls e) (at_once _ _ (λ d. refl))

pub until_more : {E X : Type 0} {view : E → X} {list : ℕ → List Lexeme → Answer (List X)} {one : ℕ → List Lexeme → Answer X} {ls rest : List Lexeme} {e : E} → Until list one → begins symbol.CloseBrace ls ≡ false
    → IsRead view (λ d. one d ls) rest (Ok e) → Builds (in_front view) (λ d. list d ls) (e ∷ []) (λ d. list d rest)
until_more {X = X} {view = view} {list = list} {one = one} {ls = ls} {rest = rest} {e = e} u other h = record {
  ok = λ xs after on. deeper (λ d. list d ls) (λ d. go_on (one d ls) (step d)) _ (λ d. u.goes d ls other) (goes step (h.ok e refl) (goes (λ d xs after. taken (view e ∷ xs) after) on (at_once _ _ (λ d. refl))));
  err = λ k on. deeper (λ d. list d ls) (λ d. go_on (one d ls) (step d)) _ (λ d. u.goes d ls other) (goes step (h.ok e refl) (stops (λ d xs after. taken (view e ∷ xs) after) on));
}
  where
    step : ℕ → X → List Lexeme → Answer (List X)
    step d x rest = go_on (list d rest) (λ xs after. taken (x ∷ xs) after)

pub until_stopped : {E X Y Z : Type 0} {put : E → List X → List X} {view : Y → X} {seen_as : Z → List X} {list : ℕ → List Lexeme → Answer (List X)} {one : ℕ → List Lexeme → Answer X} {f : ℕ → Answer (List X)} {done : List E}
    {ls rest after : List Lexeme} {e : Refusal} → Until list one → begins symbol.CloseBrace ls ≡ false → Builds put f done (λ d. list d ls) → IsRead view (λ d. one d ls) rest (Err e) → IsRead seen_as f after (Err e)
until_stopped {X = X} {list = list} {one = one} {ls = ls} u other b h = record {
  ok = λ y is. absurd (cc);
  err = λ k is. b.err k (deeper (λ d. list d ls) (λ d. go_on (one d ls) (step d)) _ (λ d. u.goes d ls other) (stops step (h.err k (cc))));
}
  where
    step : ℕ → X → List Lexeme → Answer (List X)
    step d x rest = go_on (list d rest) (λ xs after. taken (x ∷ xs) after)

-- a reader that goes one deeper
pub read_deeper : {Y A : Type 0} {view : Y → A} {f : ℕ → Answer A} {after : List Lexeme} {r : Result Y Refusal} (g : ℕ → Answer A) → ((d : ℕ) → g (suc d) ≡ f d) → IsRead view f after r → IsRead view g after r
read_deeper {f = f} g e h = record { ok = λ y is. deeper g f _ e (h.ok y is); err = λ k is. deeper g f _ e (h.err k is) }
