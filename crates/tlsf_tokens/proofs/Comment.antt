-- Comments, which nest.
use Rattle.std.proofs.Common.{◌≡◌, ◌<◌, ◌≤◌, ℕ, zero, suc, ◌+◌, ◌-◌, ◌==◌, Bool, true, false, ◌&&◌, not, List, [], ◌∷◌, ◌++◌, length, take, drop, get_or, codes, nat_eq, None, Some, refl, sym, ◌∙◌, ap, arith, cond}
use Rattle.std.proofs.lemmas.List.{drop-drop, length-drop}
use Rattle.std.proofs.Math.Seq.{drop-cons}
use Rattle.std.proofs.lemmas.List.Sums.{prefix_len-le-length}
use Rattle.std.proofs.lemmas.Slice.Eq.{starts_is}
use Rattle.std.proofs.lemmas.Bool.{eqb-true, and_parts}
use Rattle.std.proofs.lemmas.Bool.Decides.{Decides-eqb}
use Rattle.std.specs.List.{prefix_len, list_all, starts_with}
use Rattle.tlsf_tokens.specs.Pieces.{piece_of, comment_piece}
use Rattle.tlsf_tokens.specs.Cuts.{longest}
use Rattle.spec_faults.specs.declared.code.SpecCode.TheVariants.{Unclosed}
use Rattle.tlsf_tokens.specs.declared.token.Piece.TheVariants.{Gap, Fault}
use Rattle.tlsf_tokens.proofs.Longest.{longest_is, all-prefix_len, not_all-longer}

-- a text that begins so is those bytes and what is left
begins : (text p : List ℕ) → starts_with nat_eq text p ≡ true → text ≡ p ++ drop (length p) text
begins text p e = (starts_is Decides-eqb text p true (sym e)).0 refl

-- ---- `//`

line_form : (w : List ℕ) → piece_of (47 ∷ 47 ∷ w) ≡ cond (list_all (λ b. not (b == 10)) w) (Some Gap) None
unfolding piece_of
line_form w = refl

abbrev before_lf : List ℕ → ℕ
before_lf w = prefix_len (λ b. not (b == 10)) w

line_longest : (w : List ℕ) → longest (47 ∷ 47 ∷ w) ≡ Some (record { piece = Gap; len = suc (suc (before_lf w)) })
line_longest w =
    let fits : suc (suc (before_lf w)) ≤ length (47 ∷ 47 ∷ w) = omega (arith, prefix_len-le-length (λ b. not (b == 10)) w) in
    longest_is (47 ∷ 47 ∷ w) (suc (suc (before_lf w))) Gap (omega arith) fits
    (line_form (take (before_lf w) w) ∙ ap (λ (v : Bool). cond v (Some Gap) None) (all-prefix_len (λ b. not (b == 10)) w)) longer
  where
    longer : (m : ℕ) → suc (suc (prefix_len (λ b. not (b == 10)) w)) < m → m ≤ length (47 ∷ 47 ∷ w) → piece_of (take m (47 ∷ 47 ∷ w)) ≡ None
    longer zero low high = absurd (omega arith)
    longer (suc zero) low high = absurd (omega arith)
    longer (suc (suc m)) low high =
        let l : prefix_len (λ b. not (b == 10)) w < m = omega arith in
        let h : m ≤ length w = omega arith in
        line_form (take m w) ∙ ap (λ (v : Bool). cond v (Some Gap) None) (not_all-longer (λ b. not (b == 10)) w m l h)

line_on : (text w : List ℕ) → text ≡ 47 ∷ 47 ∷ w → longest text ≡ Some (record { piece = Gap; len = before_lf text })
line_on text w e = let n : before_lf (47 ∷ 47 ∷ w) ≡ suc (suc (before_lf w)) = omega arith in rw (e, n) (line_longest w)

pub longest_line : (text : List ℕ) → starts_with nat_eq text (codes "//") ≡ true → longest text ≡ Some (record { piece = Gap; len = prefix_len (λ b. not (b == 10)) text })
longest_line text e = line_on text (drop 2 text) (begins text (codes "//") e)

-- ---- `/*`

comment_form : (w : List ℕ) → piece_of (47 ∷ 42 ∷ w) ≡ comment_piece 1 w
unfolding piece_of
comment_form w = refl

-- Before the place so many comments are open: a longer beginning is judged by what follows the place.
pub record LeavesOpen (text : List ℕ) (at level : ℕ) : Type 0 where
  pub same : (m : ℕ) → piece_of (take (at + m) text) ≡ comment_piece level (take m (drop at text))

opened_on : (text w : List ℕ) → text ≡ 47 ∷ 42 ∷ w → (m : ℕ) → piece_of (take (2 + m) text) ≡ comment_piece 1 (take m (drop 2 text))
opened_on text w e m = let n : 2 + m ≡ suc (suc m) = omega arith in rw (n, e) (comment_form (take m w))

pub opened : (text : List ℕ) → starts_with nat_eq text (codes "/*") ≡ true → LeavesOpen text 2 1
opened text e = record { same = opened_on text (drop 2 text) (begins text (codes "/*") e) }

two_more : (text : List ℕ) (at x y : ℕ) → at + 1 < length text → get_or text at 0 ≡ x → get_or text (at + 1) 0 ≡ y → drop at text ≡ x ∷ y ∷ drop (at + 2) text
two_more text at x y l e f =
    let a : at < length text = omega arith in
    let b : suc at < length text = omega arith in
    let g : get_or text (suc at) 0 ≡ y = let n : suc at ≡ at + 1 = omega arith in rw n f in
    let n : at + 2 ≡ suc (suc at) = omega arith in
    rw n (drop-cons text at 0 a ∙ ap (λ (t : List ℕ). get_or text at 0 ∷ t) (drop-cons text (suc at) 0 b) ∙ ap (λ (p : ℕ). p ∷ get_or text (suc at) 0 ∷ drop (suc (suc at)) text) e
    ∙ ap (λ (q : ℕ). x ∷ q ∷ drop (suc (suc at)) text) g)

further : (text : List ℕ) (at n level : ℕ) (x y : ℕ) → LeavesOpen text at (suc n) → drop at text ≡ x ∷ y ∷ drop (at + 2) text
    → ((w : List ℕ) → comment_piece (suc n) (x ∷ y ∷ w) ≡ comment_piece level w) → LeavesOpen text (at + 2) level
further text at n level x y o d turn = record {
  same = λ m.
      let i : at + 2 + m ≡ at + suc (suc m) = omega arith in
      rw i (o.same (suc (suc m)) ∙ ap (λ (t : List ℕ). comment_piece (suc n) (take (suc (suc m)) t)) d ∙ turn (take m (drop (at + 2) text)));
}

pair_is : (a b x y : ℕ) → (a == x && b == y) ≡ true → (a ≡ x) × (b ≡ y)
pair_is a b x y e = let both : ((a == x) ≡ true) × ((b == y) ≡ true) = and_parts (a == x) (b == y) e in (eqb-true a x both.0, eqb-true b y both.1)

pub nests : (text : List ℕ) (at level : ℕ) → LeavesOpen text at level → 0 < level → at + 1 < length text → (get_or text at 0 == 47 && get_or text (at + 1) 0 == 42) ≡ true
    → LeavesOpen text (at + 2) (level + 1)
nests text at zero o p l e = absurd (omega arith)
nests text at (suc n) o p l e =
    let both : (get_or text at 0 ≡ 47) × (get_or text (at + 1) 0 ≡ 42) = pair_is (get_or text at 0) (get_or text (at + 1) 0) 47 42 e in
    let i : suc n + 1 ≡ suc (suc n) = omega arith in
    rw i (further text at n (suc (suc n)) 47 42 o (two_more text at 47 42 l both.0 both.1) (λ w. refl))

pub closes : (text : List ℕ) (at level : ℕ) → LeavesOpen text at level → 0 < level → at + 1 < length text → (get_or text at 0 == 42 && get_or text (at + 1) 0 == 47) ≡ true
    → LeavesOpen text (at + 2) (level - 1)
closes text at zero o p l e = absurd (omega arith)
closes text at (suc n) o p l e =
    let both : (get_or text at 0 ≡ 42) × (get_or text (at + 1) 0 ≡ 47) = pair_is (get_or text at 0) (get_or text (at + 1) 0) 42 47 e in
    let i : suc n - 1 ≡ n = omega arith in
    rw i (further text at n n 42 47 o (two_more text at 42 47 l both.0 both.1) (λ w. refl))

-- neither sign stands here
plain : (n x y : ℕ) (m : ℕ) (w : List ℕ) → (x == 47 && y == 42) ≡ false → (x == 42 && y == 47) ≡ false → comment_piece (suc n) (x ∷ take m (y ∷ w)) ≡ comment_piece (suc n) (take m (y ∷ w))
plain n x y zero w e f = refl
plain n x y (suc m) w e f = rw (e, f) refl

passes_on : (text : List ℕ) (at n : ℕ) → LeavesOpen text at (suc n) → at + 1 < length text → (get_or text at 0 == 47 && get_or text (at + 1) 0 == 42) ≡ false
    → (get_or text at 0 == 42 && get_or text (at + 1) 0 == 47) ≡ false → LeavesOpen text (at + 1) (suc n)
passes_on text at n o l e f = record {
  same = λ m.
      let i : at + 1 + m ≡ at + suc m = omega arith in
      let d : drop at text ≡ get_or text at 0 ∷ get_or text (at + 1) 0 ∷ drop (at + 2) text = two_more text at (get_or text at 0) (get_or text (at + 1) 0) l refl refl in
      let g : drop (at + 1) text ≡ get_or text (at + 1) 0 ∷ drop (at + 2) text = rw (← drop-drop) (rw d refl) in
      rw (i, g) (o.same (suc m) ∙ ap (λ (t : List ℕ). comment_piece (suc n) (take (suc m) t)) d ∙ plain n (get_or text at 0) (get_or text (at + 1) 0) m (drop (at + 2) text) e f);
}

pub passes : (text : List ℕ) (at level : ℕ) → LeavesOpen text at level → 0 < level → at + 1 < length text → (get_or text at 0 == 47 && get_or text (at + 1) 0 == 42) ≡ false
    → (get_or text at 0 == 42 && get_or text (at + 1) 0 == 47) ≡ false → LeavesOpen text (at + 1) level
passes text at zero o p l e f = absurd (omega arith)
passes text at (suc n) o p l e f = passes_on text at n o l e f

closed_longer : (w : List ℕ) (k : ℕ) → 0 < k → k ≤ length w → comment_piece 0 (take k w) ≡ None
closed_longer w zero a b = absurd (omega arith)
closed_longer [] (suc k) a b = absurd (omega arith)
closed_longer (x ∷ w) (suc k) a b = refl

closed_comment : (text : List ℕ) (at : ℕ) → LeavesOpen text at 0 → 0 < at → at ≤ length text → longest text ≡ Some (record { piece = Gap; len = at })
closed_comment text at o pos low =
    let n : at + 0 ≡ at = omega arith in
    longest_is text at Gap pos low (rw n at (o.same 0)) (λ m l h.
    let i : at + (m - at) ≡ m = omega arith in
    let a : 0 < m - at = omega arith in
    let b : m - at ≤ length (drop at text) = simp length-drop (omega arith) in
    rw i at (o.same (m - at)) ∙ closed_longer (drop at text) (m - at) a b)

pub longest_comment : (text : List ℕ) (at level : ℕ) → LeavesOpen text at level → level ≡ 0 → 0 < at → at ≤ length text → longest text ≡ Some (record { piece = Gap; len = at })
longest_comment text at zero o e pos low = closed_comment text at o pos low
longest_comment text at (suc n) o e pos low = absurd (omega arith)

short_open : (n k : ℕ) (w : List ℕ) → length w ≤ 1 → comment_piece (suc n) (take k w) ≡ Some (Fault Unclosed)
short_open n zero w l = refl
short_open n (suc k) [] l = refl
short_open n (suc zero) (x ∷ []) l = refl
short_open n (suc (suc k)) (x ∷ []) l = refl
short_open n (suc k) (x ∷ y ∷ w) l = absurd (omega arith)

pub longest_unclosed : (text : List ℕ) (at level : ℕ) → LeavesOpen text at level → 0 < level → 0 < at → at ≤ length text → length text ≤ at + 1 → longest text ≡ Some (record { piece = Fault Unclosed; len = length text })
longest_unclosed text at zero o p pos low high = absurd (omega arith)
longest_unclosed text at (suc n) o p pos low high =
    let i : at + (length text - at) ≡ length text = omega arith in
    let a : 0 < length text = omega arith in
    let z : length text ≤ length text = omega arith in
    let b : length (drop at text) ≤ 1 = simp length-drop (omega arith) in
    longest_is text (length text) (Fault Unclosed) a z (rw i at (o.same (length text - at)) ∙ short_open n (length text - at) (drop at text) b)
    (λ m l h. absurd (omega arith))

fits_on : (text w : List ℕ) → text ≡ 47 ∷ 42 ∷ w → 2 ≤ length text
fits_on text w e = rw e (omega arith)

pub opened_fits : (text : List ℕ) → starts_with nat_eq text (codes "/*") ≡ true → 2 ≤ length text
opened_fits text e = fits_on text (drop 2 text) (begins text (codes "/*") e)

pub line_found : (text : List ℕ) (n : ℕ) → starts_with nat_eq text (codes "//") ≡ true → n ≡ prefix_len (λ b. not (b == 10)) text → longest text ≡ Some (record { piece = Gap; len = n })
line_found text n b e = rw e (longest_line text b)
