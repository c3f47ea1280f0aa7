-- A text that has a tree has no fault of reading.
use Rattle.std.proofs.Common.{◌≡◌, ◌≤◌, ℕ, List, [], ◌∷◌, ◌++◌, length, Option, None, Some, refl, sym, ◌∙◌, ap, subst, arith}
use Rattle.spec_faults.specs.declared.code.SpecCode.{SpecCode}
use Rattle.tlsf_syntax.specs.Nesting.{first_deep}
use Rattle.tlsf_syntax.specs.Tree.{Written}
use Rattle.tlsf_syntax.specs.Lexemes.{Lexeme}
use Rattle.tlsf_syntax.specs.Texts.{DerivesText}
use Rattle.tlsf_syntax.proofs.Texts.{one_text}
use Rattle.tlsf_syntax.proofs.Unexpected.{determined}
use Rattle.tlsf_syntax.proofs.SemanticsWords.{never_finite}
use Rattle.tlsf_reader.specs.Lexed.{Lexed}
use Rattle.tlsf_syntax.specs.Text.{Text}
use Rattle.tlsf_reader.specs.Faults.{most_bytes, most_nesting, symbols_of, IsFinite, first_word, second_word, HasEarlyFault, of_tokens, of_nesting, of_finite, of_lexeme, of_end, HasLateFault, too_long, early, late}
use Rattle.tlsf_reader.specs.Reads.{Reads, TreesHaveNoFault}
use Rattle.tlsf_reader.proofs.OneTree.{one_list}

pub never_in_text : (ls : List Lexeme) (l : Lexeme) (w : Written) → IsFinite ls l → DerivesText ls w → ⊥
never_in_text ls l w (first_word before after s colon x i j k t) d = never_finite.first (before ++ s ∷ colon ∷ x ∷ after) w d before after s colon x refl i t
never_in_text ls l w (second_word before after s colon word comma x i j k m t) d = never_finite.second (before ++ s ∷ colon ∷ word ∷ comma ∷ x ∷ after) w d before after s colon word comma x refl i k t

-- the tokens of a text are determined
pub record IsSameLexed (text : List ℕ) (a b : Lexed text) : Type 0 where
  pub lexemes : a.lexemes ≡ b.lexemes
  pub stop : a.stop ≡ b.stop
  pub stop_at : a.stop_at ≡ b.stop_at

pub same_lexed : (text : List ℕ) (a b : Lexed text) → IsSameLexed text a b
same_lexed text a b =
    let all : (a.lexemes ≡ b.lexemes) × (a.stop ≡ b.stop) × (a.stop_at ≡ b.stop_at) = one_list text a.stop b.stop a.stop_at b.stop_at a.lexemes b.lexemes a.is b.is in
    record { lexemes = all.0; stop = all.1; stop_at = all.2 }

no_early : (text : List ℕ) (tree : Text) (lexed : Lexed text) (code : SpecCode) (place : ℕ) → Reads text tree → HasEarlyFault text lexed code place → ⊥
no_early text tree lexed code place r f = by code place f
  where
    s : IsSameLexed text lexed r.lexed
    s = same_lexed text lexed r.lexed

    derived : DerivesText lexed.lexemes r.written
    derived = subst (λ ls. DerivesText ls r.written) (sym s.lexemes) r.derived

    by : (code : SpecCode) (place : ℕ) → HasEarlyFault text lexed code place → ⊥
    by code place (of_tokens c e) = let no : ◌≡◌ {A = Option SpecCode} None (Some c) = sym (s.stop ∙ r.whole) ∙ e in cc
    by code place (of_nesting k e) = let no : ◌≡◌ {A = Option ℕ} None (Some k) = sym (ap (λ ls. first_deep most_nesting [] (symbols_of ls)) s.lexemes ∙ r.shallow) ∙ e in cc
    by code place (of_finite l h) = never_in_text lexed.lexemes l r.written h derived
    by code place (of_lexeme k u h) = determined.never_a_text lexed.lexemes k r.written u derived
    by code place (of_end e u) = determined.never_a_text lexed.lexemes (length lexed.lexemes) r.written u derived

no_late : (text : List ℕ) (tree : Text) (lexed : Lexed text) (w : Written) (code : SpecCode) (place : ℕ) → Reads text tree → DerivesText lexed.lexemes w → HasLateFault lexed.lexemes w code place → ⊥
no_late text tree lexed w code place r d f =
    let s : IsSameLexed text lexed r.lexed = same_lexed text lexed r.lexed in
    let written : w ≡ r.written = one_text r.lexed.lexemes w r.written (subst (λ ls. DerivesText ls w) s.lexemes d) r.derived in
    r.sound code place (subst (λ ls. HasLateFault ls r.written code place) s.lexemes (subst (λ v. HasLateFault lexed.lexemes v code place) written f))

pub no_fault : TreesHaveNoFault
no_fault text tree code place r (too_long h) = let short : length text ≤ most_bytes = r.short in omega (arith, short, h)
no_fault text tree code place r (early lexed c p h first) = no_early text tree lexed c p r first.has
no_fault text tree code place r (late lexed w c p h stop d shallow first) = no_late text tree lexed w c p r d first.has
