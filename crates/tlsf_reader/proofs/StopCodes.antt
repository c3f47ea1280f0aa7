-- Why tokens stop, where they stop, and that lexemes stand one after another.
use Rattle.std.proofs.Common.{◌≡◌, ◌<◌, ◌≤◌, ◌+◌, ℕ, zero, suc, Bool, true, false, cond, ◌&&◌, ◌==◌, List, [], ◌∷◌, length, drop, take, Option, None, Some, refl, sym, ◌∙◌, ap, subst, arith}
use Rattle.std.specs.Prelude.{nat_eq, nat_lt, codes, unwrap_or, map}
use Rattle.std.specs.Char.{is_ascii_digit}
use Rattle.std.specs.List.{list_all, starts_with}
use Rattle.tlsf_tokens.specs.Words.{is_blank, is_name_start, is_name_part, is_among, symbol_in, signs, words, unsupported_words, unsupported_signs}
use Rattle.tlsf_tokens.specs.Pieces.{word_piece, text_before, quoted_piece, comment_piece, sign_or, sign_piece, mark_piece, piece_of}
use Rattle.tlsf_tokens.specs.Cuts.{longest_or, longest_within, longest, fault_of, Stops, CutsText, ends, past_gap, past_token, IsInOrder}
use Rattle.spec_faults.specs.declared.code.SpecCode.{SpecCode}
use Rattle.spec_faults.specs.declared.code.SpecCode.TheVariants.{BadByte, Unclosed, Unsupported}
use Rattle.tlsf_tokens.specs.declared.token.Piece.{Piece}
use Rattle.tlsf_tokens.specs.declared.token.Piece.TheVariants.{Gap, Token as token_piece, Fault}
use Rattle.tlsf_tokens.specs.declared.symbol.Symbol.TheVariants as symbol
use Rattle.tlsf_tokens.specs.declared.token.Token.{Token}
use Rattle.tlsf_tokens.specs.declared.token.Front.{Front}
use Rattle.tlsf_tokens.specs.declared.symbol.Symbol.{Symbol}
use Rattle.tlsf_syntax.specs.declared.nesting.Role.{Role}
use Rattle.tlsf_syntax.specs.Nesting.{role_of, first_of, nesting_of, first_deep}
use Rattle.tlsf_syntax.specs.Lexemes.{Lexeme}
use Rattle.tlsf_tokens.proofs.Cutting.{in_order}
use Rattle.tlsf_reader.specs.Lexed.{IsLexed, lexeme_from}
use Rattle.tlsf_reader.specs.Known.{place_in}
use Rattle.tlsf_reader.specs.Faults.{start_at}

-- the codes by which tokens stop
abbrev pub is_stop : SpecCode → Bool
is_stop BadByte = true
is_stop Unclosed = true
is_stop Unsupported = true
is_stop _ = false

abbrev Right : Option Piece → Type 0
Right None = Unit {0}
Right (Some Gap) = Unit {0}
Right (Some (token_piece k)) = Unit {0}
Right (Some (Fault code)) = is_stop code ≡ true

right_word : (w : List ℕ) → Right (Some (word_piece w))
right_word w = by (is_among unsupported_words w)
  where
    by : (b : Bool) → Right (Some (cond b (Fault Unsupported) (token_piece (unwrap_or (symbol_in words w) symbol.Ident))))
    by true = refl
    by false = tt

right_text : (w : List ℕ) → Right (text_before w)
right_text [] = tt
right_text (b ∷ w) = tt

right_cond : (b : Bool) (x y : Option Piece) → Right x → Right y → Right (cond b x y)
right_cond true x y p q = p
right_cond false x y p q = q

right_quoted : (w : List ℕ) → Right (quoted_piece w)
right_quoted [] = refl
right_quoted (b ∷ w) = right_cond (b == 34) (text_before w) (quoted_piece w) (right_text w) (right_quoted w)

right_comment : (size n : ℕ) (w : List ℕ) → length w ≤ size → Right (comment_piece n w)
right_comment size zero [] h = tt
right_comment size zero (b ∷ w) h = tt
right_comment size (suc n) [] h = refl
right_comment size (suc n) (b ∷ []) h = refl
right_comment zero (suc n) (b ∷ c ∷ w) h = absurd (omega (arith, h))
right_comment (suc size) (suc n) (b ∷ c ∷ w) h =
    right_cond (b == 47 && c == 42) (comment_piece (suc (suc n)) w) (cond (b == 42 && c == 47) (comment_piece n w) (comment_piece (suc n) (c ∷ w))) (right_comment size (suc (suc n)) w (omega (arith, h)))
    (right_cond (b == 42 && c == 47) (comment_piece n w) (comment_piece (suc n) (c ∷ w)) (right_comment size n w (omega (arith, h))) (right_comment size (suc n) (c ∷ w) (omega (arith, h))))

right_sign : (w : List ℕ) → Right (sign_piece w)
right_sign w = by (symbol_in signs w)
  where
    by : (o : Option Symbol) → Right (sign_or o w)
    by None = right_cond (is_among unsupported_signs w) (Some (Fault Unsupported)) None refl tt
    by (Some s) = tt

right_mark : (w : List ℕ) → Right (mark_piece w)
right_mark w =
    right_cond (starts_with nat_eq w (codes "//")) _ _ (right_cond _ (Some Gap) None tt tt)
    (right_cond (starts_with nat_eq w (codes "/*")) (comment_piece 1 (drop 2 w)) (sign_piece w) (right_comment (length (drop 2 w)) 1 (drop 2 w) (omega arith)) (right_sign w))

right_piece : (w : List ℕ) → Right (piece_of w)
unfolding piece_of
right_piece [] = tt
right_piece (b ∷ w) =
    right_cond (is_name_start b) _ _ (right_cond (list_all is_name_part w) (Some (word_piece (b ∷ w))) None (right_word (b ∷ w)) tt)
    (right_cond (is_ascii_digit b) _ _ (right_cond (list_all is_ascii_digit w) (Some (token_piece symbol.Number)) None tt tt)
    (right_cond (b == 34) (quoted_piece w) _ (right_quoted w)
    (right_cond (is_blank b) _ _ (right_cond _ (Some Gap) None tt tt) (right_mark (b ∷ w)))))

abbrev RightFront : Option Front → Type 0
RightFront None = Unit {0}
RightFront (Some front) = Right (Some front.piece)

right_longest : (n : ℕ) (text : List ℕ) → RightFront (longest_within n text)
right_longest zero text = tt
right_longest (suc n) text = by (right_longest n text) (piece_of (take (suc n) text)) (right_piece (take (suc n) text))
  where
    by : RightFront (longest_within n text) → (p : Option Piece) → Right p → RightFront (longest_or p (suc n) (longest_within n text))
    by h None r = h
    by h (Some p) r = r

right_fault : (front : Option Front) (code : SpecCode) → RightFront front → fault_of front ≡ Some code → is_stop code ≡ true
right_fault None code r e = let same : BadByte ≡ code = cc in ap is_stop (sym same)
right_fault (Some front) code r e = by front.piece r e
  where
    by : (p : Piece) → Right (Some p) → fault_of (Some (record { piece = p; len = front.len })) ≡ Some code → is_stop code ≡ true
    by Gap r e = absurd cc
    by (token_piece k) r e = absurd cc
    by (Fault c) r e = let same : c ≡ code = cc in ap is_stop (sym same) ∙ r

stops_right : (text : List ℕ) (at : ℕ) (stop : Option SpecCode) (code : SpecCode) → Stops text at stop → stop ≡ Some code → is_stop code ≡ true
unfolding longest
stops_right text at None code s e = absurd cc
stops_right text at (Some c) code s e = let same : c ≡ code = cc in ap is_stop (sym same) ∙ right_fault (longest (drop at text)) c (right_longest (length (drop at text)) (drop at text)) s.1

pub stop_is_right : (text : List ℕ) (stop : Option SpecCode) (stop_at at : ℕ) (tokens : List Token) (code : SpecCode) → CutsText text stop stop_at at tokens → stop ≡ Some code → is_stop code ≡ true
stop_is_right text stop stop_at at tokens code (ends a e s) f = stops_right text a stop code s f
stop_is_right text stop stop_at at tokens code (past_gap a len rest e cut) f = stop_is_right text stop stop_at (a + len) rest code cut f
stop_is_right text stop stop_at at tokens code (past_token a len k rest e cut) f = stop_is_right text stop stop_at (a + len) rest code cut f

-- without a reason to stop, the tokens reach the text's end
pub reaches_end : (text : List ℕ) (stop : Option SpecCode) (stop_at at : ℕ) (tokens : List Token) → CutsText text stop stop_at at tokens → stop ≡ None → stop_at ≡ length text
reaches_end text stop stop_at at tokens (ends a e s) f = sym e ∙ subst (Stops text a) f s
reaches_end text stop stop_at at tokens (past_gap a len rest e cut) f = reaches_end text stop stop_at (a + len) rest cut f
reaches_end text stop stop_at at tokens (past_token a len k rest e cut) f = reaches_end text stop stop_at (a + len) rest cut f

-- the number of a symbol that is nested too deep
pub deep_within : (limit : ℕ) (before : List Role) (ss : List Symbol) (k : ℕ) → first_deep limit before ss ≡ Some k → k < length before + length ss
deep_within limit before [] k e = absurd cc
deep_within limit before (s ∷ ss) k e = by (nat_lt limit (nesting_of (role_of s (first_of ss) ∷ before) zero true true)) e (λ f. deep_within limit (role_of s (first_of ss) ∷ before) ss k f)
  where
    by : (b : Bool) → cond b (Some (length before)) (first_deep limit (role_of s (first_of ss) ∷ before) ss) ≡ Some k → (first_deep limit (role_of s (first_of ss) ∷ before) ss ≡ Some k → k < suc (length before) + length ss) → k < length before + suc (length ss)
    by true f h = let same : length before ≡ k = cc in omega (arith, same)
    by false f h = let low : k < suc (length before) + length ss = h f in omega (arith, low)

-- lexemes begin one after another, up to this place
abbrev pub IsRising : ℕ → List Lexeme → ℕ → Type 0
IsRising from [] to = from ≤ to
IsRising from (l ∷ ls) to = (from ≤ l.start) × IsRising l.start ls to

rising_from : (from nearer to : ℕ) (ls : List Lexeme) → from ≤ nearer → IsRising nearer ls to → IsRising from ls to
rising_from from nearer to [] h r = omega (arith, h, r)
rising_from from nearer to (l ∷ ls) h r = (let low : nearer ≤ l.start = r.0 in omega (arith, h, low), r.1)

lexemes_rise : (text : List ℕ) (from to : ℕ) (tokens : List Token) → IsInOrder from tokens to → IsRising from (map (lexeme_from text) tokens) to
lexemes_rise text from to [] o = o
lexemes_rise text from to (t ∷ ts) o = (o.0, rising_from t.start t.end to (map (lexeme_from text) ts) (omega (arith, o.1)) (lexemes_rise text t.end to ts o.2))

pub lexed_rise : (text : List ℕ) (stop : Option SpecCode) (stop_at : ℕ) (ls : List Lexeme) → IsLexed text stop stop_at ls → IsRising 0 ls stop_at
lexed_rise text stop stop_at ls l = rw l.are (lexemes_rise text 0 stop_at l.tokens (in_order text stop stop_at 0 l.tokens l.cut))

pub starts_within : (ls : List Lexeme) (from to k : ℕ) → IsRising from ls to → place_in ls to k ≤ to
starts_within [] from to k r = omega arith
starts_within (l ∷ ls) from to zero r = above ls l.start to r.1
  where
    above : (ls : List Lexeme) (from to : ℕ) → IsRising from ls to → from ≤ to
    above [] from to r = r
    above (m ∷ ms) from to r = let low : m.start ≤ to = above ms m.start to r.1 in let first : from ≤ m.start = r.0 in omega (arith, low, first)
starts_within (l ∷ ls) from to (suc k) r = starts_within ls l.start to k r.1

pub starts_rise : (ls : List Lexeme) (from to j k : ℕ) → IsRising from ls to → j ≤ k → k < length ls → start_at ls j ≤ start_at ls k
starts_rise [] from to j k r h g = absurd (omega (arith, g))
starts_rise (l ∷ ls) from to zero zero r h g = omega arith
starts_rise (l ∷ ls) from to zero (suc k) r h g = after ls l.start k r.1 (omega (arith, g))
  where
    after : (ls : List Lexeme) (from k : ℕ) → IsRising from ls to → k < length ls → from ≤ start_at ls k
    after [] from k r h = absurd (omega (arith, h))
    after (m ∷ ms) from zero r h = r.0
    after (m ∷ ms) from (suc k) r h = let low : m.start ≤ start_at ms k = after ms m.start k r.1 (omega (arith, h)) in let first : from ≤ m.start = r.0 in omega (arith, low, first)
starts_rise (l ∷ ls) from to (suc j) zero r h g = absurd (omega (arith, h))
starts_rise (l ∷ ls) from to (suc j) (suc k) r h g = starts_rise ls l.start to j k r.1 (omega (arith, h)) (omega (arith, g))

pub place_within : (ls : List Lexeme) (to k : ℕ) → k < length ls → place_in ls to k ≡ start_at ls k
place_within [] to k h = absurd (omega (arith, h))
place_within (l ∷ ls) to zero h = refl
place_within (l ∷ ls) to (suc k) h = place_within ls to k (omega (arith, h))

pub place_beyond : (ls : List Lexeme) (to : ℕ) → place_in ls to (length ls) ≡ to
place_beyond [] to = refl
place_beyond (l ∷ ls) to = place_beyond ls to
