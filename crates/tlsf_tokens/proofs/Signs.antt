-- Signs: the longest one at the front of a text that begins with nothing else.
use Rattle.std.proofs.Common.{subst, ◌≡◌, ◌<◌, ◌≤◌, ℕ, zero, suc, ◌+◌, ◌==◌, Bool, true, false, nat_le, List, [], ◌∷◌, length, take, get_or, codes, nat_eq, Option, None, Some, refl, sym, ◌∙◌, ap, arith, cond}
use Rattle.std.proofs.lemmas.Slice.Eq.{bytes_eq-Decides}
use Rattle.std.proofs.lemmas.Bool.{leb-true, le-leb, ne_eqb, and_parts, false_from_ne_true}
use Rattle.std.proofs.lemmas.List.{length-take-le}
use Rattle.std.specs.List.{list_all, starts_with}
use Rattle.std.specs.Option.{option_or, option_map}
use Rattle.std.specs.Str.{bytes_eq}
use mathlib.Core.Bool.{and-false}
use Rattle.tlsf_tokens.specs.Words.{symbol_in, signs, unsupported_signs}
use Rattle.tlsf_tokens.specs.Pieces.{piece_of, sign_piece, sign_or, BeginsSign}
use Rattle.tlsf_tokens.specs.Cuts.{longest, longest_within, longest_or, sign_front}
use Rattle.tlsf_tokens.specs.declared.symbol.Symbol.{Symbol}
use Rattle.tlsf_tokens.specs.declared.token.Front.{Front}
use Rattle.tlsf_tokens.specs.declared.token.Piece.TheVariants.{Token, Fault}
use Rattle.spec_faults.specs.declared.code.SpecCode.TheVariants.{Unsupported}
use Rattle.tlsf_tokens.proofs.Longest.{longest_is}

shorter : (text : List ℕ) (x y : ℕ) (m : ℕ) → starts_with nat_eq text (x ∷ y ∷ []) ≡ false → starts_with nat_eq (take m text) (x ∷ y ∷ []) ≡ false
shorter text x y zero f = refl
shorter [] x y (suc m) f = refl
shorter (b ∷ []) x y (suc zero) f = f
shorter (b ∷ []) x y (suc (suc m)) f = f
shorter (b ∷ c ∷ w) x y (suc zero) f = and-false (nat_eq x b)
shorter (b ∷ c ∷ w) x y (suc (suc m)) f = f

sign_form : (x : ℕ) (w : List ℕ) → BeginsSign (x ∷ w) → (m : ℕ) → piece_of (x ∷ take m w) ≡ sign_piece (x ∷ take m w)
unfolding piece_of
sign_form x w b m =
    let line : starts_with nat_eq (x ∷ take m w) (codes "//") ≡ false = shorter (x ∷ w) 47 47 (suc m) b.line in
    let comment : starts_with nat_eq (x ∷ take m w) (codes "/*") ≡ false = shorter (x ∷ w) 47 42 (suc m) b.comment in
    rw (b.name, b.digit, b.quote, b.blank, line, comment) refl

-- ---- `~`, which no sign begins with

tilde_longer : (w : List ℕ) (m : ℕ) → 0 < m → m ≤ length w → sign_piece (126 ∷ take m w) ≡ None
unfolding signs unsupported_signs
tilde_longer w zero l h = absurd (omega arith)
tilde_longer [] (suc m) l h = absurd (omega arith)
tilde_longer (y ∷ w) (suc m) l h = refl

tilde_alone : sign_piece (126 ∷ []) ≡ Some (Fault Unsupported)
unfolding signs unsupported_signs
tilde_alone = refl

tilde_at : (w : List ℕ) → BeginsSign (126 ∷ w) → longest (126 ∷ w) ≡ Some (record { piece = Fault Unsupported; len = 1 })
tilde_at w b = longest_is (126 ∷ w) 1 (Fault Unsupported) (omega arith) (omega arith) (sign_form 126 w b 0 ∙ tilde_alone) longer
  where
    longer : (m : ℕ) → 1 < m → m ≤ length (126 ∷ w) → piece_of (take m (126 ∷ w)) ≡ None
    longer zero low high = absurd (omega arith)
    longer (suc m) low high = let l : 0 < m = omega arith in let h : m ≤ length w = omega arith in sign_form 126 w b m ∙ tilde_longer w m l h

pub longest_tilde : (text : List ℕ) → BeginsSign text → get_or text 0 0 ≡ 126 → longest text ≡ Some (record { piece = Fault Unsupported; len = 1 })
longest_tilde [] b e = absurd (let h : 0 < length {A = ℕ} [] = b.some in omega arith)
longest_tilde (x ∷ w) b e = let f : x ≡ 126 = e in subst (λ y. BeginsSign (y ∷ w) → longest (y ∷ w) ≡ Some (record { piece = Fault Unsupported; len = 1 })) (sym f) (tilde_at w) b

-- ---- the signs

-- a word that is longer than each of the table isn't in it
long_word : (n : ℕ) (table : List (List ℕ × Symbol)) (w : List ℕ) → list_all (λ entry. nat_le (length entry.0) n) table ≡ true → n < length w → symbol_in table w ≡ None
long_word n [] w e l = refl
long_word n (entry ∷ table) w e l =
    let both : (nat_le (length entry.0) n ≡ true) × (list_all (λ entry. nat_le (length entry.0) n) table ≡ true) = and_parts (nat_le (length entry.0) n) (list_all (λ entry. nat_le (length entry.0) n) table) e in
    let other : bytes_eq w entry.0 ≡ false = false_from_ne_true (bytes_eq w entry.0) (λ same. let f : length w ≡ length entry.0 = ap length ((bytes_eq-Decides w entry.0).0 same) in let g : length entry.0 ≤ n = leb-true (length entry.0) n both.0 in omega arith) in
    rw other (long_word n table w both.1 l)

short_signs : list_all (λ entry. nat_le (length entry.0) 3) signs ≡ true
unfolding signs
short_signs = refl

-- the longest of the signs of at most n bytes
abbrev signs_within : ℕ → List ℕ → Option Front
signs_within zero text = None
signs_within (suc n) text = option_or (sign_front (suc n) text) (signs_within n text)

abbrev front_of : ℕ → Option Symbol → Option Front
front_of n o = option_map (λ symbol. record { piece = Token symbol; len = n }) o

long_front : (text : List ℕ) (n : ℕ) → 3 < n → sign_front n text ≡ None
long_front text n l = by (nat_le n (length text)) refl
  where
    by : (fits : Bool) → nat_le n (length text) ≡ fits → cond fits (front_of n (symbol_in signs (take n text))) None ≡ None
    by true f =
        let all : length (take n text) ≡ n = length-take-le n text (leb-true n (length text) f) in
        ap (front_of n) (long_word 3 signs (take n text) short_signs (omega arith))
    by false f = refl

past_front : (text : List ℕ) (n : ℕ) → length text < n → sign_front n text ≡ None
past_front text n l = let e : nat_le n (length text) ≡ false = false_from_ne_true (nat_le n (length text)) (λ fits. let g : n ≤ length text = leb-true n (length text) fits in omega arith) in rw e refl

still : (text : List ℕ) (n : ℕ) → ((m : ℕ) → n < m → sign_front m text ≡ None) → (k : ℕ) → signs_within (k + n) text ≡ signs_within n text
still text n none zero = let e : 0 + n ≡ n = omega arith in ap (λ m. signs_within m text) e
still text n none (suc k) =
    let e : suc k + n ≡ suc (k + n) = omega arith in
    ap (λ m. signs_within m text) e ∙ ap (λ o. option_or o (signs_within (k + n) text)) (none (suc (k + n)) (omega arith)) ∙ still text n none k

-- the signs of at most three bytes are all
three : (text : List ℕ) → signs_within (length text) text ≡ signs_within 3 text
three text =
    let e : length text + 3 ≡ 3 + length text = omega arith in
    sym (still text (length text) (past_front text) 3) ∙ ap (λ n. signs_within n text) (sym e) ∙ still text 3 (long_front text) (length text)

or_first : (o : Option Symbol) (n : ℕ) (shorter : Option Front) → longest_or (option_map Token o) n shorter ≡ option_or (front_of n o) shorter
or_first None n shorter = refl
or_first (Some symbol) n shorter = refl

-- what is no `~` alone is a sign or nothing
sign_or_none : (x : ℕ) (w : List ℕ) → (x == 126) ≡ false → (found : Option Symbol) → sign_or found (x ∷ w) ≡ option_map Token found
unfolding unsupported_signs
sign_or_none x w n None = rw n refl
sign_or_none x w n (Some symbol) = refl

within : (x : ℕ) (w : List ℕ) → BeginsSign (x ∷ w) → (x == 126) ≡ false → (n : ℕ) → n ≤ length (x ∷ w) → longest_within n (x ∷ w) ≡ signs_within n (x ∷ w)
within x w b t zero l = refl
within x w b t (suc n) l =
    let fits : nat_le (suc n) (length (x ∷ w)) ≡ true = le-leb (suc n) (length (x ∷ w)) l in
    let piece : piece_of (x ∷ take n w) ≡ option_map Token (symbol_in signs (x ∷ take n w)) = sign_form x w b n ∙ sign_or_none x (take n w) t (symbol_in signs (x ∷ take n w)) in
    rw (piece, fits, within x w b t n (omega arith)) (or_first (symbol_in signs (x ∷ take n w)) (suc n) (signs_within n (x ∷ w)))

or_three : (a b c : Option Front) → option_or a (option_or b (option_or c None)) ≡ option_or (option_or a b) c
or_three (Some f) b c = refl
or_three None (Some f) c = refl
or_three None None (Some f) = refl
or_three None None None = refl

pub longest_sign : (text : List ℕ) → BeginsSign text → (get_or text 0 0 ≡ 126 → ⊥) → longest text ≡ option_or (option_or (sign_front 3 text) (sign_front 2 text)) (sign_front 1 text)
unfolding longest
longest_sign [] b n = absurd (let h : 0 < length {A = ℕ} [] = b.some in omega arith)
longest_sign (x ∷ w) b n =
    within x w b (ne_eqb x 126 n) (length (x ∷ w)) (omega arith) ∙ three (x ∷ w) ∙ or_three (sign_front 3 (x ∷ w)) (sign_front 2 (x ∷ w)) (sign_front 1 (x ∷ w))
