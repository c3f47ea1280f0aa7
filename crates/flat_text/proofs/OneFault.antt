-- A text has at most one first fault.
use Rattle.std.proofs.Common.{◌≡◌, ◌<◌, ◌≤◌, ℕ, List, [], length, Option, None, Some, refl, sym, ◌∙◌, ap, subst, arith}
use Rattle.text_limits.specs.declared.Limits.{Limits}
use Rattle.letters_and_lassos.specs.declared.kinds.Kind.{Kind}
use Rattle.spec_faults.specs.declared.code.SpecCode.{SpecCode}
use Rattle.tlsf_syntax.specs.Nesting.{first_deep}
use Rattle.tlsf_syntax.specs.Tree.{Written}
use Rattle.tlsf_syntax.specs.Texts.{DerivesText, IsFirstUnexpected}
use Rattle.tlsf_syntax.proofs.Texts.{one_text}
use Rattle.tlsf_syntax.proofs.Unexpected.{determined}
use Rattle.tlsf_reader.specs.Lexed.{Lexed}
use Rattle.tlsf_reader.specs.Faults.{most_nesting, symbols_of, start_at, IsFinite, HasEarlyFault, of_tokens, of_nesting, of_finite, of_lexeme, of_end, HasLateFault, IsFirstOf, IsReadingFault, too_long, early, late}
use Rattle.tlsf_reader.proofs.OneTree.{determined as one_tree}
use Rattle.tlsf_reader.proofs.NoFault.{no_fault, never_in_text, IsSameLexed, same_lexed}
use Rattle.tlsf_expand.specs.Expansion.{Fault, flat_fault}
use Rattle.flat_text.proofs.OneCode.{early_code, late_code}
use Rattle.flat_text.specs.FlatOf.{IsFlatFault, of_reading, of_expansion}

early_too : (text : List ℕ) (a b : Lexed text) (code : SpecCode) (place : ℕ) → HasEarlyFault text a code place → HasEarlyFault text b code place
early_too text a b code place f = by code place f
  where
    s : IsSameLexed text a b
    s = same_lexed text a b

    by : (code : SpecCode) (place : ℕ) → HasEarlyFault text a code place → HasEarlyFault text b code place
    by _ _ (of_tokens c e) = subst (HasEarlyFault text b c) (sym s.stop_at) (of_tokens c (sym s.stop ∙ e))
    by _ _ (of_nesting k e) =
        subst (λ ls. HasEarlyFault text b _ (start_at ls k)) (sym s.lexemes) (of_nesting k (ap (λ ls. first_deep most_nesting [] (symbols_of ls)) (sym s.lexemes) ∙ e))
    by _ _ (of_finite l h) = of_finite l (subst (λ ls. IsFinite ls l) s.lexemes h)
    by _ _ (of_lexeme k u h) =
        subst (λ ls. HasEarlyFault text b _ (start_at ls k)) (sym s.lexemes) (of_lexeme k (subst (λ ls. IsFirstUnexpected ls k) s.lexemes u) (subst (λ ls. k < length ls) s.lexemes h))
    by _ _ (of_end e u) = of_end (sym s.stop ∙ e) (subst (λ ls. IsFirstUnexpected ls (length ls)) s.lexemes u)

-- a text of the grammar has no early fault
never_early : (text : List ℕ) (lexed : Lexed text) (w : Written) (code : SpecCode) (place : ℕ) → lexed.stop ≡ None → DerivesText lexed.lexemes w
    → first_deep most_nesting [] (symbols_of lexed.lexemes) ≡ None → HasEarlyFault text lexed code place → ⊥
never_early text lexed w _ _ stop d shallow (of_tokens c e) = let no : ◌≡◌ {A = Option SpecCode} None (Some c) = sym stop ∙ e in cc
never_early text lexed w _ _ stop d shallow (of_nesting k e) = let no : ◌≡◌ {A = Option ℕ} None (Some k) = sym shallow ∙ e in cc
never_early text lexed w _ _ stop d shallow (of_finite l h) = never_in_text lexed.lexemes l w h d
never_early text lexed w _ _ stop d shallow (of_lexeme k u h) = determined.never_a_text lexed.lexemes k w u d
never_early text lexed w _ _ stop d shallow (of_end e u) = determined.never_a_text lexed.lexemes (length lexed.lexemes) w u d

late_too : (text : List ℕ) (a b : Lexed text) (v w : Written) (code : SpecCode) (place : ℕ) → DerivesText a.lexemes v → DerivesText b.lexemes w
    → HasLateFault a.lexemes v code place → HasLateFault b.lexemes w code place
late_too text a b v w code place dv dw f =
    let s : IsSameLexed text a b = same_lexed text a b in
    let written : v ≡ w = one_text b.lexemes v w (subst (λ ls. DerivesText ls v) s.lexemes dv) dw in
    subst (λ ls. HasLateFault ls w code place) s.lexemes (subst (λ u. HasLateFault a.lexemes u code place) written f)

both_ways : (p q : ℕ) → p ≤ q → q ≤ p → p ≡ q
both_ways p q h g = omega (arith, h, g)

both_earliest : (text : List ℕ) (a b : Lexed text) (code code' : SpecCode) (place place' : ℕ) → IsFirstOf (HasEarlyFault text a) code place → IsFirstOf (HasEarlyFault text b) code' place'
    → (code ≡ code') × (place ≡ place')
both_earliest text a b code code' place place' f g =
    let here : HasEarlyFault text a code' place' = early_too text b a code' place' g.has in
    let there : HasEarlyFault text b code place = early_too text a b code place f.has in
    let same : place ≡ place' = both_ways place place' (f.least code' place' here) (g.least code place there) in
    (early_code text a code code' place place' same f.has here (λ u. f.gives_way u code' (subst (HasEarlyFault text a code') (sym same) here)) (λ u. g.gives_way u code (subst (HasEarlyFault text b code) same there)), same)

both_latest : (text : List ℕ) (a b : Lexed text) (v w : Written) (code code' : SpecCode) (place place' : ℕ) → DerivesText a.lexemes v → DerivesText b.lexemes w
    → IsFirstOf (HasLateFault a.lexemes v) code place → IsFirstOf (HasLateFault b.lexemes w) code' place' → (code ≡ code') × (place ≡ place')
both_latest text a b v w code code' place place' dv dw f g =
    let here : HasLateFault a.lexemes v code' place' = late_too text b a w v code' place' dw dv g.has in
    let there : HasLateFault b.lexemes w code place = late_too text a b v w code place dv dw f.has in
    let same : place ≡ place' = both_ways place place' (f.least code' place' here) (g.least code place there) in
    (late_code text a v code code' place place' same dv f.has here, same)

reading_fault : (text : List ℕ) (code code' : SpecCode) (place place' : ℕ) → IsReadingFault text code place → IsReadingFault text code' place' → (code ≡ code') × (place ≡ place')
reading_fault text _ _ _ _ (too_long h) (too_long h') = (refl, refl)
reading_fault text _ _ _ _ (too_long h) (early lexed c p short f) = absurd (omega (arith, h, short))
reading_fault text _ _ _ _ (too_long h) (late lexed w c p short stop d shallow f) = absurd (omega (arith, h, short))
reading_fault text _ _ _ _ (early lexed c p short f) (too_long h) = absurd (omega (arith, h, short))
reading_fault text _ _ _ _ (late lexed w c p short stop d shallow f) (too_long h) = absurd (omega (arith, h, short))
reading_fault text _ _ _ _ (early a c p short f) (early b c' p' short' f') = both_earliest text a b c c' p p' f f'
reading_fault text _ _ _ _ (early a c p short f) (late b w c' p' short' stop d shallow f') = absurd (never_early text b w c p stop d shallow (early_too text a b c p f.has))
reading_fault text _ _ _ _ (late a w c p short stop d shallow f) (early b c' p' short' f') = absurd (never_early text a w c' p' stop d shallow (early_too text b a c' p' f'.has))
reading_fault text _ _ _ _ (late a v c p short stop dv shallow f) (late b w c' p' short' stop' dw shallow' f') = both_latest text a b v w c c' p p' dv dw f f'

expansion_fault : (f g : Option Fault) (code code' : SpecCode) (place place' : ℕ) → f ≡ g → f ≡ Some (record { code = code; place = place }) → g ≡ Some (record { code = code'; place = place' })
    → (code ≡ code') × (place ≡ place')
expansion_fault f g code code' place place' same a b =
    let x : Fault = record { code = code; place = place } in let y : Fault = record { code = code'; place = place' } in
    let both : Some x ≡ Some y = sym a ∙ same ∙ b in let one : x ≡ y = cc in (ap (λ z. z.code) one, ap (λ z. z.place) one)

pub one_fault : (limits : Limits) (text : List ℕ) (kind : Option Kind) (code code' : SpecCode) (place place' : ℕ) → IsFlatFault limits text kind code place → IsFlatFault limits text kind code' place' → (code ≡ code') × (place ≡ place')
one_fault limits text kind _ _ _ _ (of_reading c p f) (of_reading c' p' f') = reading_fault text c c' p p' f f'
one_fault limits text kind _ _ _ _ (of_reading c p f) (of_expansion tree c' p' reads f') = absurd (no_fault text tree c p reads f)
one_fault limits text kind _ _ _ _ (of_expansion tree c p reads f) (of_reading c' p' f') = absurd (no_fault text tree c' p' reads f')
one_fault limits text kind _ _ _ _ (of_expansion tree c p reads f) (of_expansion tree' c' p' reads' f') =
    expansion_fault (flat_fault limits tree kind) (flat_fault limits tree' kind) c c' p p' (ap (λ t. flat_fault limits t kind) (one_tree text tree tree' reads reads')) f f'
