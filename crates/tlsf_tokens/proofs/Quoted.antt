-- A text in quotes, and one that isn't closed.
use Rattle.std.proofs.Common.{◌≡◌, ◌<◌, ◌≤◌, ℕ, zero, suc, ◌+◌, ◌-◌, ◌==◌, Bool, true, false, not, List, [], ◌∷◌, length, take, drop, get_or, None, Some, refl, ◌∙◌, arith, cond}
use Rattle.std.proofs.lemmas.List.{take_all, length-drop}
use Rattle.std.proofs.lemmas.List.Sums.{prefix_len-le-length}
use Rattle.std.specs.List.{prefix_len}
use Rattle.tlsf_tokens.specs.Pieces.{piece_of, quoted_piece, text_before}
use Rattle.tlsf_tokens.specs.Cuts.{longest}
use Rattle.spec_faults.specs.declared.code.SpecCode.TheVariants.{Unclosed}
use Rattle.tlsf_tokens.specs.declared.symbol.Symbol.TheVariants as symbol
use Rattle.tlsf_tokens.specs.declared.token.Piece.TheVariants.{Token, Fault}
use Rattle.tlsf_tokens.proofs.Longest.{longest_is}

-- the bytes before the first quote
abbrev inner : List ℕ → ℕ
inner w = prefix_len (λ b. not (b == 34)) w

open_step : (b : ℕ) (w : List ℕ) (v : Bool) → (inner w ≡ length w → quoted_piece w ≡ Some (Fault Unclosed)) → cond (not v) (1 + inner w) 0 ≡ suc (length w)
    → cond v (text_before w) (quoted_piece w) ≡ Some (Fault Unclosed)
open_step b w true h e = absurd (omega arith)
open_step b w false h e = let f : inner w ≡ length w = omega arith in h f

is_open : (w : List ℕ) → inner w ≡ length w → quoted_piece w ≡ Some (Fault Unclosed)
is_open [] e = refl
is_open (b ∷ w) e = open_step b w (b == 34) (is_open w) e

closed_step : (b : ℕ) (w : List ℕ) (v : Bool) → (inner w < length w → quoted_piece (take (inner w + 1) w) ≡ Some (Token symbol.Text)) → cond (not v) (1 + inner w) 0 < suc (length w)
    → cond v (text_before (take (cond (not v) (1 + inner w) 0) w)) (quoted_piece (take (cond (not v) (1 + inner w) 0) w)) ≡ Some (Token symbol.Text)
closed_step b w true h l = refl
closed_step b w false h l = let f : inner w < length w = omega arith in let e : 1 + inner w ≡ inner w + 1 = omega arith in rw e (h f)

is_closed : (w : List ℕ) → inner w < length w → quoted_piece (take (inner w + 1) w) ≡ Some (Token symbol.Text)
is_closed [] l = absurd (omega arith)
is_closed (b ∷ w) l =
    let e : inner (b ∷ w) + 1 ≡ suc (inner (b ∷ w)) = omega arith in
    rw e (closed_step b w (b == 34) (is_closed w) l)

longer_step : (b : ℕ) (w : List ℕ) (m : ℕ) (v : Bool) → (inner w + 1 < m → quoted_piece (take m w) ≡ None) → m ≤ length w → cond (not v) (1 + inner w) 0 + 1 < suc m
    → cond v (text_before (take m w)) (quoted_piece (take m w)) ≡ None
longer_step b [] zero true h k l = absurd (omega arith)
longer_step b (c ∷ w) zero true h k l = absurd (omega arith)
longer_step b [] (suc m) true h k l = absurd (omega arith)
longer_step b (c ∷ w) (suc m) true h k l = refl
longer_step b w m false h k l = let f : inner w + 1 < m = omega arith in h f

is_longer : (w : List ℕ) (m : ℕ) → inner w + 1 < m → m ≤ length w → quoted_piece (take m w) ≡ None
is_longer [] m l k = absurd (omega arith)
is_longer (b ∷ w) zero l k = absurd (omega arith)
is_longer (b ∷ w) (suc m) l k = let f : m ≤ length w = omega arith in longer_step b w m (b == 34) (λ g. is_longer w m g f) f l

quote_first : (b : ℕ) (w : List ℕ) → b ≡ 34 → piece_of (b ∷ w) ≡ quoted_piece w
unfolding piece_of
quote_first b w e = rw e refl

pub longest_text : (text : List ℕ) → get_or text 0 0 ≡ 34 → prefix_len (λ b. not (b == 34)) (drop 1 text) + 1 < length text
    → longest text ≡ Some (record { piece = Token symbol.Text; len = prefix_len (λ b. not (b == 34)) (drop 1 text) + 2 })
longest_text [] e l = absurd (omega arith)
longest_text (b ∷ w) e l =
    let n : inner w + 2 ≡ suc (inner w + 1) = omega arith in
    let f : inner w < length w = omega arith in
    let fits : suc (inner w + 1) ≤ length (b ∷ w) = omega arith in
    rw n (longest_is (b ∷ w) (suc (inner w + 1)) (Token symbol.Text) (omega arith) fits (quote_first b (take (inner w + 1) w) e ∙ is_closed w f) longer)
  where
    longer : (m : ℕ) → suc (prefix_len (λ b. not (b == 34)) w + 1) < m → m ≤ length (b ∷ w) → piece_of (take m (b ∷ w)) ≡ None
    longer zero low high = absurd (omega arith)
    longer (suc m) low high =
        let g : prefix_len (λ b. not (b == 34)) w + 1 < m = omega arith in
        let h : m ≤ length w = omega arith in
        quote_first b (take m w) e ∙ is_longer w m g h

pub longest_open : (text : List ℕ) → get_or text 0 0 ≡ 34 → length text ≤ prefix_len (λ b. not (b == 34)) (drop 1 text) + 1 → longest text ≡ Some (record { piece = Fault Unclosed; len = length text })
longest_open [] e l = absurd (cc)
longest_open (b ∷ w) e l =
    let all : inner w ≡ length w = omega (arith, prefix_len-le-length (λ b. not (b == 34)) w) in
    let end : length (b ∷ w) ≤ length (b ∷ w) = omega arith in
    let whole : take (length w) w ≡ w = take_all (length w) w (omega arith) in
    longest_is (b ∷ w) (length (b ∷ w)) (Fault Unclosed) (omega arith) end (rw whole (quote_first b w e ∙ is_open w all))
    (λ m low high. absurd (omega arith))

-- the same, as the code has it: the slice behind the quote, and a name for the number of bytes before the next
tail_is : (text : List ℕ) → take (length text - 1) (drop 1 text) ≡ drop 1 text
tail_is text = let l : length (drop 1 text) ≤ length text - 1 = simp length-drop (omega arith) in take_all (length text - 1) (drop 1 text) l

abbrev IsInner : List ℕ → ℕ → Type 0
IsInner text n = n ≡ prefix_len (λ b. not (b == 34)) (take (length text - 1) (drop 1 text))

named : (text : List ℕ) (n : ℕ) → IsInner text n → n ≡ prefix_len (λ b. not (b == 34)) (drop 1 text)
named text n e = rw tail_is at e

pub inner_fits : (text : List ℕ) (n : ℕ) → 0 < length text → IsInner text n → n < length text
inner_fits text n l e =
    let f : n ≡ prefix_len (λ b. not (b == 34)) (drop 1 text) = named text n e in
    omega (arith, prefix_len-le-length (λ b. not (b == 34)) (drop 1 text), length-drop 1 text)

pub text_found : (text : List ℕ) (n : ℕ) → get_or text 0 0 ≡ 34 → IsInner text n → n + 1 < length text → longest text ≡ Some (record { piece = Token symbol.Text; len = n + 2 })
text_found text n q e l = let f : n ≡ prefix_len (λ b. not (b == 34)) (drop 1 text) = named text n e in rw f (longest_text text q (rw f at l))

pub text_open : (text : List ℕ) (n : ℕ) → get_or text 0 0 ≡ 34 → IsInner text n → length text ≤ n + 1 → longest text ≡ Some (record { piece = Fault Unclosed; len = length text })
text_open text n q e l = longest_open text q (rw (named text n e) at l)
