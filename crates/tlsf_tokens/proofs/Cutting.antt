-- What a loop over the places of a text keeps, and what follows from a cut.
use Rattle.std.proofs.Common.{◌≡◌, ◌<◌, ◌≤◌, ℕ, ◌+◌, ◌-◌, List, [], ◌∷◌, ◌++◌, length, take, drop, slice_range, Option, None, Some, refl, sym, ◌∙◌, ap, subst, arith, append_assoc}
use Rattle.std.proofs.lemmas.List.{length-drop, append-nil, take_all, drop-drop}
use Rattle.std.proofs.Math.Seq.{take-add}
use Rattle.tlsf_tokens.specs.Pieces.{piece_of}
use Rattle.tlsf_tokens.specs.Cuts.{longest, fault_of, Stops, CutsText, ends, past_gap, past_token, IsInOrder, AreFormed, IsGap, none, more, HasGapsAround}
use Rattle.spec_faults.specs.declared.code.SpecCode.{SpecCode}
use Rattle.spec_faults.specs.declared.code.SpecCode.TheVariants.{BadByte}
use Rattle.tlsf_tokens.specs.declared.token.Piece.{Piece}
use Rattle.tlsf_tokens.specs.declared.token.Piece.TheVariants.{Gap, Token as token_piece, Fault}
use Rattle.tlsf_tokens.specs.declared.symbol.Symbol.{Symbol}
use Rattle.tlsf_tokens.specs.declared.token.Front.{Front}
use Rattle.tlsf_tokens.specs.declared.token.Token.{Token}
use Rattle.tlsf_tokens.proofs.Longest.{longest_bounds, longest_piece}

-- however the text is cut from the place on, the tokens so far stand before
pub record HasCut (text : List ℕ) (done : List Token) (at : ℕ) : Type 0 where
  pub on : (stop : Option SpecCode) (stop_at : ℕ) (rest : List Token) → CutsText text stop stop_at at rest → CutsText text stop stop_at 0 (done ++ rest)
  pub within : at ≤ length text

pub bound : (text : List ℕ) (at : ℕ) (front : Front) → at < length text → longest (drop at text) ≡ Some front → at + front.len ≤ length text
bound text at front l e = let b : (0 < front.len) × (front.len ≤ length (drop at text)) = longest_bounds (drop at text) front e in omega (arith, length-drop at text)

pub gap_cut : (text : List ℕ) (done : List Token) (at len : ℕ) → HasCut text done at → at < length text → longest (drop at text) ≡ Some (record { piece = Gap; len = len }) → HasCut text done (at + len)
gap_cut text done at len h l e = record {
  on = λ stop stop_at rest cut. h.on stop stop_at rest (past_gap at len rest e cut);
  within = bound text at (record { piece = Gap; len = len }) l e;
}

pub token_cut : (text : List ℕ) (done : List Token) (at len : ℕ) (symbol : Symbol) → HasCut text done at → at < length text → longest (drop at text) ≡ Some (record { piece = token_piece symbol; len = len })
    → HasCut text (done ++ record { symbol = symbol; start = at; end = at + len } ∷ []) (at + len)
token_cut text done at len symbol h l e = record {
  on = λ stop stop_at rest cut. rw append_assoc (h.on stop stop_at (record { symbol = symbol; start = at; end = at + len } ∷ rest) (past_token at len symbol rest e cut));
  within = bound text at (record { piece = token_piece symbol; len = len }) l e;
}

pub all_cut : (text : List ℕ) (done : List Token) (at : ℕ) (stop : Option SpecCode) → HasCut text done at → Stops text at stop → CutsText text stop at 0 done
all_cut text done at stop h s = let e : done ++ [] ≡ done = append-nil done in rw e at (h.on stop at [] (ends at refl s))

-- ---- the same, as the code has it: the slice from the place on, and a name for what stands there

rest_is : (text : List ℕ) (at : ℕ) → take (length text - at) (drop at text) ≡ drop at text
rest_is text at = let l : length (drop at text) ≤ length text - at = simp length-drop (omega arith) in take_all (length text - at) (drop at text) l

abbrev Finds : List ℕ → ℕ → Option Front → Type 0
Finds text at front = longest (take (length text - at) (drop at text)) ≡ front

found : (text : List ℕ) (at : ℕ) (front : Option Front) → Finds text at front → longest (drop at text) ≡ front
found text at front e = rw rest_is at e

pub found_fits : (text : List ℕ) (at : ℕ) (front : Front) → at < length text → Finds text at (Some front) → (0 < front.len) × (at + front.len ≤ length text)
found_fits text at front l e =
    let f : longest (drop at text) ≡ Some front = found text at (Some front) e in ((longest_bounds (drop at text) front f).0, bound text at front l f)

no_front : (front : Option Front) → ((f : Front) → front ≡ Some f → ⊥) → front ≡ None
no_front None h = refl
no_front (Some f) h = absurd (h f refl)

pub bad_byte : (text : List ℕ) (done : List Token) (at : ℕ) (front : Option Front) → HasCut text done at → at < length text → Finds text at front → ((f : Front) → front ≡ Some f → ⊥)
    → CutsText text (Some BadByte) at 0 done
bad_byte text done at front h l e never =
    all_cut text done at (Some BadByte) h (l, ap fault_of (found text at front e ∙ no_front front never))

pub faulty : (text : List ℕ) (done : List Token) (at : ℕ) (front : Front) (code : SpecCode) → HasCut text done at → at < length text → Finds text at (Some front) → front.piece ≡ Fault code
    → CutsText text (Some code) at 0 done
faulty text done at front code h l e p = all_cut text done at (Some code) h (l, ap fault_of (found text at (Some front) e) ∙ rw p refl)

pub gap_found : (text : List ℕ) (done : List Token) (at : ℕ) (front : Front) → HasCut text done at → at < length text → Finds text at (Some front) → front.piece ≡ Gap → HasCut text done (at + front.len)
gap_found text done at front h l e p =
    gap_cut text done at front.len h l (found text at (Some front) e ∙ ap (λ (x : Piece). Some (record { piece = x; len = front.len })) p)

pub token_found : (text : List ℕ) (done : List Token) (at : ℕ) (front : Front) (symbol : Symbol) → HasCut text done at → at < length text → Finds text at (Some front) → front.piece ≡ token_piece symbol
    → HasCut text (done ++ record { symbol = symbol; start = at; end = at + front.len } ∷ []) (at + front.len)
token_found text done at front symbol h l e p =
    token_cut text done at front.len symbol h l (found text at (Some front) e ∙ ap (λ (x : Piece). Some (record { piece = x; len = front.len })) p)

-- ---- what follows from a cut

earlier : (from nearer to : ℕ) (tokens : List Token) → from ≤ nearer → IsInOrder nearer tokens to → IsInOrder from tokens to
earlier from nearer to [] l h = omega arith
earlier from nearer to (t ∷ ts) l h = let a : from ≤ t.start = omega (arith, h.0) in (a, h.1, h.2)

pub in_order : (text : List ℕ) (stop : Option SpecCode) (stop_at at : ℕ) (tokens : List Token) → CutsText text stop stop_at at tokens → IsInOrder at tokens stop_at
in_order text stop stop_at at tokens (ends from e s) = omega arith
in_order text stop stop_at at tokens (past_gap from len rest e cut) =
    earlier at (at + len) stop_at rest (omega arith) (in_order text stop stop_at (at + len) rest cut)
in_order text stop stop_at at tokens (past_token from len symbol rest e cut) =
    let b : (0 < len) × (len ≤ length (drop at text)) = longest_bounds (drop at text) (record { piece = token_piece symbol; len = len }) e in
    (omega arith, omega arith, in_order text stop stop_at (at + len) rest cut)

slice_at : (text : List ℕ) (at len : ℕ) (piece : Piece) → longest (drop at text) ≡ Some (record { piece = piece; len = len }) → piece_of (slice_range text at (at + len)) ≡ Some piece
slice_at text at len piece e =
    let n : at + len - at ≡ len = omega arith in
    let p : piece_of (take len (drop at text)) ≡ Some piece = longest_piece (drop at text) (record { piece = piece; len = len }) e in
    rw n p

pub formed : (text : List ℕ) (stop : Option SpecCode) (stop_at at : ℕ) (tokens : List Token) → CutsText text stop stop_at at tokens → AreFormed text tokens
formed text stop stop_at at tokens (ends from e s) = tt
formed text stop stop_at at tokens (past_gap from len rest e cut) = formed text stop stop_at (at + len) rest cut
formed text stop stop_at at tokens (past_token from len symbol rest e cut) = (slice_at text at len (token_piece symbol) e, formed text stop stop_at (at + len) rest cut)

range_split : (text : List ℕ) (a b c : ℕ) → a ≤ b → b ≤ c → slice_range text a c ≡ slice_range text a b ++ slice_range text b c
range_split text a b c l m =
    let n : c - a ≡ (b - a) + (c - b) = omega arith in
    let k : a + (b - a) ≡ b = omega arith in
    let d : drop (b - a) (drop a text) ≡ drop b text = drop-drop (b - a) a text ∙ ap (λ (i : ℕ). drop i text) k in
    rw n (take-add (b - a) (c - b) (drop a text) ∙ ap (λ (x : List ℕ). take (b - a) (drop a text) ++ take (c - b) x) d)

gap_more : (text : List ℕ) (at len to : ℕ) → longest (drop at text) ≡ Some (record { piece = Gap; len = len }) → at + len ≤ to → IsGap (slice_range text (at + len) to) → IsGap (slice_range text at to)
gap_more text at len to e l gap =
    more (slice_range text at to) (slice_range text at (at + len)) (slice_range text (at + len) to) (range_split text at (at + len) to (omega arith) l) (slice_at text at len Gap e) gap

gaps_more : (text : List ℕ) (at len to : ℕ) (tokens : List Token) → longest (drop at text) ≡ Some (record { piece = Gap; len = len }) → IsInOrder (at + len) tokens to
    → HasGapsAround text (at + len) tokens to → HasGapsAround text at tokens to
gaps_more text at len to [] e o h = gap_more text at len to e o h
gaps_more text at len to (t ∷ ts) e o h = (gap_more text at len t.start e o.0 h.0, h.1)

no_gap : (text : List ℕ) (at : ℕ) → IsGap (slice_range text at at)
no_gap text at = let n : at - at ≡ 0 = omega arith in rw n none

pub gaps : (text : List ℕ) (stop : Option SpecCode) (stop_at at : ℕ) (tokens : List Token) → CutsText text stop stop_at at tokens → HasGapsAround text at tokens stop_at
gaps text stop stop_at at tokens (ends from e s) = rw (← e) (no_gap text at)
gaps text stop stop_at at tokens (past_gap from len rest e cut) =
    gaps_more text at len stop_at rest e (in_order text stop stop_at (at + len) rest cut) (gaps text stop stop_at (at + len) rest cut)
gaps text stop stop_at at tokens (past_token from len symbol rest e cut) = (no_gap text at, gaps text stop stop_at (at + len) rest cut)

-- ---- a text has one cut

stopped : (text : List ℕ) (at : ℕ) (stop : Option SpecCode) (front : Front) → Stops text at stop → longest (drop at text) ≡ Some front → fault_of (Some front) ≡ None → ⊥
stopped text at None front s e f =
    let b : (0 < front.len) × (front.len ≤ length (drop at text)) = longest_bounds (drop at text) front e in omega (arith, length-drop at text)
stopped text at (Some code) front s e f = let g : fault_of (Some front) ≡ Some code = rw e at s.1 in absurd (cc)

one_stop : (text : List ℕ) (at : ℕ) (s t : Option SpecCode) → Stops text at s → Stops text at t → s ≡ t
one_stop text at None None a b = refl
one_stop text at None (Some d) a b = absurd (omega (arith, b.0))
one_stop text at (Some c) None a b = absurd (omega (arith, a.0))
one_stop text at (Some c) (Some d) a b = sym a.1 ∙ b.1

front_or : Front → Option Front → Front
front_or default None = default
front_or default (Some front) = front

same_front : (x : List ℕ) (f g : Front) → longest x ≡ Some f → longest x ≡ Some g → f ≡ g
unfolding front_or
same_front x f g a b = ap (front_or f) (sym a ∙ b)

gap_or_token : (symbol : Symbol) → Gap ≡ token_piece symbol → ⊥
gap_or_token symbol e = cc

one_kind : (k l : Symbol) → token_piece k ≡ token_piece l → k ≡ l
one_kind k l e = cc

pub one_cut : (text : List ℕ) (s t : Option SpecCode) (s_at t_at at : ℕ) (ts us : List Token) → CutsText text s s_at at ts → CutsText text t t_at at us → (ts ≡ us) × (s ≡ t) × (s_at ≡ t_at)
one_cut text s t s_at t_at at ts us (ends from e x) (ends other f y) = (refl, one_stop text at s t x y, sym e ∙ f)
one_cut text s t s_at t_at at ts us (ends from e x) (past_gap other len rest f cut) = absurd (stopped text at s (record { piece = Gap; len = len }) x f refl)
one_cut text s t s_at t_at at ts us (ends from e x) (past_token other len symbol rest f cut) = absurd (stopped text at s (record { piece = token_piece symbol; len = len }) x f refl)
one_cut text s t s_at t_at at ts us (past_gap from len rest e cut) (ends other f y) = absurd (stopped text at t (record { piece = Gap; len = len }) y e refl)
one_cut text s t s_at t_at at ts us (past_gap from len rest e cut) (past_gap other len' rest' f cut') =
    let same : record { piece = Gap; len = len } ≡ record { piece = Gap; len = len' } = same_front (drop at text) (record { piece = Gap; len = len }) (record { piece = Gap; len = len' }) e f in
    one_cut text s t s_at t_at (at + len) ts us cut (subst (λ (n : ℕ). CutsText text t t_at (at + n) us) (sym (ap (λ (g : Front). g.len) same)) cut')
one_cut text s t s_at t_at at ts us (past_gap from len rest e cut) (past_token other len' symbol rest' f cut') =
    absurd (gap_or_token symbol (ap (λ (g : Front). g.piece) (same_front (drop at text) (record { piece = Gap; len = len }) (record { piece = token_piece symbol; len = len' }) e f)))
one_cut text s t s_at t_at at ts us (past_token from len symbol rest e cut) (ends other f y) = absurd (stopped text at t (record { piece = token_piece symbol; len = len }) y e refl)
one_cut text s t s_at t_at at ts us (past_token from len symbol rest e cut) (past_gap other len' rest' f cut') =
    absurd (gap_or_token symbol (ap (λ (g : Front). g.piece) (same_front (drop at text) (record { piece = Gap; len = len' }) (record { piece = token_piece symbol; len = len }) f e)))
one_cut text s t s_at t_at at ts us (past_token from len symbol rest e cut) (past_token other len' symbol' rest' f cut') =
    let same : record { piece = token_piece symbol; len = len } ≡ record { piece = token_piece symbol'; len = len' } =
    same_front (drop at text) (record { piece = token_piece symbol; len = len }) (record { piece = token_piece symbol'; len = len' }) e f in
    let l : len ≡ len' = ap (λ (g : Front). g.len) same in
    let k : symbol ≡ symbol' = one_kind symbol symbol' (ap (λ (g : Front). g.piece) same) in
    let r : (rest ≡ rest') × (s ≡ t) × (s_at ≡ t_at) = one_cut text s t s_at t_at (at + len) rest rest' cut (subst (λ (n : ℕ). CutsText text t t_at (at + n) rest') (sym l) cut') in (
      ap (λ (n : ℕ). record { symbol = symbol; start = at; end = at + n } ∷ rest) l
          ∙ ap (λ (q : Symbol). record { symbol = q; start = at; end = at + len' } ∷ rest) k
          ∙ ap (λ (x : List Token). record { symbol = symbol'; start = at; end = at + len' } ∷ x) r.0,
      r.1,
      r.2,
    )
