-- Which piece is the longest at the front of a text.
use Rattle.std.proofs.Common.{◌≡◌, ◌<◌, ◌≤◌, ℕ, zero, suc, ◌+◌, ◌==◌, Bool, true, false, ◌&&◌, List, [], ◌∷◌, length, take, get_or, Option, None, Some, inl, inr, refl, sym, ◌∙◌, ap, subst, arith, cond}
use Rattle.std.proofs.Math.Nat.{eq-or-lt_of_le}
use Rattle.std.proofs.lemmas.List.Sums.{prefix_len-le-length}
use Rattle.std.specs.Char.{is_ascii_digit}
use Rattle.std.specs.List.{prefix_len, list_all}
use Rattle.tlsf_tokens.specs.Words.{is_blank, is_name_start, is_name_part}
use Rattle.tlsf_tokens.specs.Pieces.{piece_of, word_piece}
use Rattle.tlsf_tokens.specs.Cuts.{longest, longest_within, longest_or}
use Rattle.tlsf_tokens.specs.declared.symbol.Symbol.TheVariants as symbol
use Rattle.tlsf_tokens.specs.declared.token.Piece.{Piece}
use Rattle.tlsf_tokens.specs.declared.token.Piece.TheVariants.{Gap, Token}
use Rattle.tlsf_tokens.specs.declared.token.Front.{Front}

-- a beginning that is a piece, while none longer is
within_is : (text : List ℕ) (n : ℕ) (p : Piece) → 0 < n → piece_of (take n text) ≡ Some p
    → (k : ℕ) → n ≤ k → ((m : ℕ) → n < m → m ≤ k → piece_of (take m text) ≡ None) → longest_within k text ≡ Some (record { piece = p; len = n })
within_is text n p pos is zero low none = absurd (omega arith)
within_is text n p pos is (suc k) low none = elim (eq-or-lt_of_le low) [
  | inl e ↦ let at : piece_of (take (suc k) text) ≡ Some p = subst (λ (x : ℕ). piece_of (take x text) ≡ Some p) e is in
      ap (λ (o : Option Piece). longest_or o (suc k) (longest_within k text)) at ∙ ap (λ (x : ℕ). Some (record { piece = p; len = x })) (sym e)
  | inr h ↦ let shorter : n ≤ k = omega arith in
      let last : n < suc k = h in
      let end : suc k ≤ suc k = omega arith in
      ap (λ (o : Option Piece). longest_or o (suc k) (longest_within k text)) (none (suc k) last end)
      ∙ within_is text n p pos is k shorter (λ m a b. let c : m ≤ suc k = omega arith in none m a c)
]

pub longest_is : (text : List ℕ) (n : ℕ) (p : Piece) → 0 < n → n ≤ length text → piece_of (take n text) ≡ Some p
    → ((m : ℕ) → n < m → m ≤ length text → piece_of (take m text) ≡ None) → longest text ≡ Some (record { piece = p; len = n })
unfolding longest
longest_is text n p pos low is none = within_is text n p pos is (length text) low none

bounds_or : (o : Option Piece) (k : ℕ) (shorter : Option Front) (f : Front) → ((e : shorter ≡ Some f) → (0 < f.len) × (f.len ≤ k)) → longest_or o (suc k) shorter ≡ Some f
    → (0 < f.len) × (f.len ≤ suc k)
bounds_or None k shorter f b e = let c : (0 < f.len) × (f.len ≤ k) = b e in (c.0, omega arith)
bounds_or (Some p) k shorter f b e = let l : suc k ≡ f.len = cc in (omega arith, omega arith)

within_bounds : (text : List ℕ) (k : ℕ) (f : Front) → longest_within k text ≡ Some f → (0 < f.len) × (f.len ≤ k)
within_bounds text zero f e = absurd (cc)
within_bounds text (suc k) f e = bounds_or (piece_of (take (suc k) text)) k (longest_within k text) f (within_bounds text k f) e

-- the longest piece has at least a byte, and stands in the text
pub longest_bounds : (text : List ℕ) (f : Front) → longest text ≡ Some f → (0 < f.len) × (f.len ≤ length text)
unfolding longest
longest_bounds text f e = within_bounds text (length text) f e

piece_or : (o : Option Piece) (k : ℕ) (text : List ℕ) (shorter : Option Front) (f : Front) → piece_of (take (suc k) text) ≡ o → (shorter ≡ Some f → piece_of (take f.len text) ≡ Some f.piece)
    → longest_or o (suc k) shorter ≡ Some f → piece_of (take f.len text) ≡ Some f.piece
piece_or None k text shorter f is h e = h e
piece_or (Some p) k text shorter f is h e = let l : suc k ≡ f.len = cc in let q : p ≡ f.piece = cc in rw (← l, ← q) is

within_piece : (text : List ℕ) (k : ℕ) (f : Front) → longest_within k text ≡ Some f → piece_of (take f.len text) ≡ Some f.piece
within_piece text zero f e = absurd (cc)
within_piece text (suc k) f e = piece_or (piece_of (take (suc k) text)) k text (longest_within k text) f refl (within_piece text k f) e

-- the longest piece is one
pub longest_piece : (text : List ℕ) (f : Front) → longest text ≡ Some f → piece_of (take f.len text) ≡ Some f.piece
unfolding longest
longest_piece text f e = within_piece text (length text) f e

-- ---- the longest front whose bytes pass

all_step : (p : ℕ → Bool) (b : ℕ) (w : List ℕ) (v : Bool) → p b ≡ v → list_all p (take (prefix_len p w) w) ≡ true → list_all p (take (cond v (1 + prefix_len p w) 0) (b ∷ w)) ≡ true
all_step p b w true e h = let s : 1 + prefix_len p w ≡ suc (prefix_len p w) = omega arith in rw s (rw e h)
all_step p b w false e h = refl

pub all-prefix_len : (p : ℕ → Bool) (w : List ℕ) → list_all p (take (prefix_len p w) w) ≡ true
all-prefix_len p [] = refl
all-prefix_len p (b ∷ w) = all_step p b w (p b) refl (all-prefix_len p w)

longer_step : (p : ℕ → Bool) (b : ℕ) (w : List ℕ) (m : ℕ) (v : Bool) → p b ≡ v → (prefix_len p w < m → list_all p (take m w) ≡ false)
    → cond v (1 + prefix_len p w) 0 < suc m → (v && list_all p (take m w)) ≡ false
longer_step p b w m true e h low = let l : prefix_len p w < m = omega arith in h l
longer_step p b w m false e h low = refl

pub not_all-longer : (p : ℕ → Bool) (w : List ℕ) (m : ℕ) → prefix_len p w < m → m ≤ length w → list_all p (take m w) ≡ false
not_all-longer p [] m low high = absurd (omega arith)
not_all-longer p (b ∷ w) zero low high = absurd (omega arith)
not_all-longer p (b ∷ w) (suc m) low high =
    let short : m ≤ length w = omega arith in longer_step p b w m (p b) refl (λ l. not_all-longer p w m l short) low

-- ---- each sort of piece

-- a piece whose bytes after the first all pass
run_longest : (p : ℕ → Bool) (made : List ℕ → Piece) (b : ℕ) (w : List ℕ)
    → ((m : ℕ) → piece_of (b ∷ take m w) ≡ cond (list_all p (take m w)) (Some (made (b ∷ take m w))) None)
    → longest (b ∷ w) ≡ Some (record { piece = made (b ∷ take (prefix_len p w) w); len = suc (prefix_len p w) })
run_longest p made b w form =
    let n : ℕ = prefix_len p w in
    let fits : suc n ≤ length (b ∷ w) = omega (arith, prefix_len-le-length p w) in
    let is : piece_of (b ∷ take n w) ≡ Some (made (b ∷ take n w)) = form n ∙ ap (λ (v : Bool). cond v (Some (made (b ∷ take n w))) None) (all-prefix_len p w) in
    longest_is (b ∷ w) (suc n) (made (b ∷ take n w)) (omega arith) fits is longer
  where
    longer : (m : ℕ) → suc (prefix_len p w) < m → m ≤ length (b ∷ w) → piece_of (take m (b ∷ w)) ≡ None
    longer zero low high = absurd (omega arith)
    longer (suc m) low high =
        let l : prefix_len p w < m = omega arith in
        let h : m ≤ length w = omega arith in
        form m ∙ ap (λ (v : Bool). cond v (Some (made (b ∷ take m w))) None) (not_all-longer p w m l h)

first_passes : (p : ℕ → Bool) (b : ℕ) (w : List ℕ) → p b ≡ true → prefix_len p (b ∷ w) ≡ suc (prefix_len p w)
first_passes p b w e = rw e (omega arith)

pub name_part : (b : ℕ) → is_name_start b ≡ true → is_name_part b ≡ true
name_part b e = rw e refl

pub longest_word : (text : List ℕ) → is_name_start (get_or text 0 0) ≡ true
    → longest text ≡ Some (record { piece = word_piece (take (prefix_len is_name_part text) text); len = prefix_len is_name_part text })
unfolding piece_of
longest_word [] e = absurd (cc)
longest_word (b ∷ w) e = rw (first_passes is_name_part b w (name_part b e)) (run_longest is_name_part word_piece b w (λ m. rw e refl))

pub longest_number : (text : List ℕ) → is_name_start (get_or text 0 0) ≡ false → is_ascii_digit (get_or text 0 0) ≡ true
    → longest text ≡ Some (record { piece = Token symbol.Number; len = prefix_len is_ascii_digit text })
unfolding piece_of
longest_number [] a e = absurd (cc)
longest_number (b ∷ w) a e = rw (first_passes is_ascii_digit b w e) (run_longest is_ascii_digit (λ _. Token symbol.Number) b w (λ m. rw (a, e) refl))

none_first : (w : List ℕ) → prefix_len (λ (_ : ℕ). false) w ≡ 0
none_first [] = refl
none_first (b ∷ w) = refl

pub longest_blank : (text : List ℕ) → is_name_start (get_or text 0 0) ≡ false → is_ascii_digit (get_or text 0 0) ≡ false → (get_or text 0 0 == 34) ≡ false → is_blank (get_or text 0 0) ≡ true
    → longest text ≡ Some (record { piece = Gap; len = 1 })
unfolding piece_of
longest_blank [] a b c e = absurd (cc)
longest_blank (x ∷ w) a b c e =
    run_longest (λ _. false) (λ _. Gap) x w (λ m. rw (a, b, c, e) refl)
    ∙ ap (λ (n : ℕ). Some (record { piece = Gap; len = suc n })) (none_first w)

-- the same, where the number of bytes has a name
pub word_found : (text : List ℕ) (n : ℕ) (p : Piece) → is_name_start (get_or text 0 0) ≡ true → n ≡ prefix_len is_name_part text → p ≡ word_piece (take n text)
    → longest text ≡ Some (record { piece = p; len = n })
word_found text n p a e w = rw (w, e) (longest_word text a)

pub number_found : (text : List ℕ) (n : ℕ) → is_name_start (get_or text 0 0) ≡ false → is_ascii_digit (get_or text 0 0) ≡ true → n ≡ prefix_len is_ascii_digit text
    → longest text ≡ Some (record { piece = Token symbol.Number; len = n })
number_found text n a b e = rw e (longest_number text a b)
