-- Reading a whole text.
use Rattle.std.proofs.Common.{◌≡◌, ◌<◌, ◌≤◌, ◌+◌, ◌-◌, ℕ, zero, suc, List, [], ◌∷◌, length, map, take, slice_index_or, Option, None, Some, unwrap_or, Result, Ok, Err, IfOk, refl, sym, ◌∙◌, ap, subst, arith}
use Rattle.std.proofs.lemmas.List.{take-map, length-map, length-take-le}
use Rattle.spec_faults.specs.declared.code.SpecCode.{SpecCode}
use Rattle.spec_faults.specs.declared.code.SpecCode.TheVariants.{TooLong}
use Rattle.spec_faults.specs.declared.code.SpecFault.{SpecFault}
use Rattle.spec_faults.specs.declared.code.SpecFault.TheVariants.{At}
use Rattle.tlsf_syntax.specs.declared.spec.SpecTree.{SpecTree}
use Rattle.tlsf_syntax.specs.Nesting.{first_deep}
use Rattle.tlsf_syntax.specs.Tree.{Written}
use Rattle.tlsf_syntax.specs.Lexemes.{Lexeme}
use Rattle.tlsf_syntax.specs.Texts.{DerivesText, IsFirstUnexpected}
use Rattle.tlsf_reader.specs.Seen.{seen}
use Rattle.tlsf_reader.specs.Lexed.{IsLexed}
use Rattle.tlsf_reader.specs.Known.{place_in, IsKnown, IsEarliest, refused_fault}
use Rattle.tlsf_reader.specs.Faults.{most_bytes, most_nesting, symbols_of, IsReadingFault, too_long}
use Rattle.tlsf_reader.specs.Places.{IsReadResult}
use Rattle.tlsf_reader.specs.Reads.{Reads}
use Rattle.tlsf_syntax.specs.Seen.{text_seen}
use Rattle.tlsf_reader.specs.declared.fault.Fault.{Fault}
use Rattle.tlsf_reader.specs.declared.lexeme.Lexeme.{Lexeme as CodeLexeme}
use Rattle.tlsf_reader.proofs.StopCodes.{deep_within}
use Rattle.tlsf_reader.proofs.FirstFaults.{Scene, cut_of, text_refused, front_refused, text_read, text_faulty}

pub place_there : (ls : List CodeLexeme) (to k : ℕ) (l : CodeLexeme) → k < length ls → l ≡ slice_index_or ls k l → l.start ≡ place_in (map seen ls) to k
place_there [] to k l h e = absurd (omega (arith, h))
place_there (m ∷ ls) to zero l h e = ap (λ (x : CodeLexeme). x.start) e
place_there (m ∷ ls) to (suc k) l h e = place_there ls to k l (omega (arith, h)) e

pub place_gone : (ls : List CodeLexeme) (to k : ℕ) → length ls ≤ k → to ≡ place_in (map seen ls) to k
place_gone [] to k h = refl
place_gone (m ∷ ls) to zero h = absurd (omega (arith, h))
place_gone (m ∷ ls) to (suc k) h = place_gone ls to k (omega (arith, h))

-- what is found of a text before its descent
pub record Found (text : List ℕ) (stop : Option SpecCode) (stop_at : ℕ) (items : List CodeLexeme) (deep : Option ℕ) (known : Option Fault) (cut : ℕ) : Type 0 where
  pub is : IsLexed text stop stop_at (map seen items)
  pub short : length text ≤ most_bytes
  pub deep_is : deep ≡ first_deep most_nesting [] (symbols_of (map seen items))
  pub known_is : IsEarliest (IsKnown (map seen items) stop stop_at deep) known
  pub cut_is : cut ≡ unwrap_or deep (length items)

cut_same : (deep : Option ℕ) (n : ℕ) → unwrap_or deep n ≡ cut_of deep n
cut_same None n = refl
cut_same (Some k) n = refl

-- the cut is within the lexemes
pub cut_within : (items : List CodeLexeme) (deep : Option ℕ) (cut : ℕ) → deep ≡ first_deep most_nesting [] (symbols_of (map seen items)) → cut ≡ unwrap_or deep (length items) → cut ≤ length items
cut_within items None cut e c = omega (arith, c)
cut_within items (Some k) cut e c =
    let low : k < 0 + length (symbols_of (map seen items)) = deep_within most_nesting [] (symbols_of (map seen items)) k (sym e) in
    let same : length (symbols_of (map seen items)) ≡ length items = length-map (map seen items) (λ (l : Lexeme). l.symbol) ∙ length-map items seen in omega (arith, low, same, c)

module _ {text : List ℕ} {stop : Option SpecCode} {stop_at : ℕ} {items : List CodeLexeme} {deep : Option ℕ} {known : Option Fault} {cut : ℕ} (found : Found text stop stop_at items deep known cut) where
  abbrev scene : Scene text
  scene = record { stop = stop; stop_at = stop_at; lexemes = map seen items; is = found.is; short = found.short; deep = deep; deep_is = found.deep_is; known = known; known_is = found.known_is }

  front_is : map seen (take cut items) ≡ take (cut_of deep (length (map seen items))) (map seen items)
  front_is = sym (take-map seen cut items) ∙ ap (λ n. take n (map seen items)) (found.cut_is ∙ cut_same deep (length items) ∙ ap (cut_of deep) (sym (length-map items seen)))

  front_derived : (w : Written) → DerivesText (map seen (take cut items)) w → DerivesText (take (cut_of deep (length (map seen items))) (map seen items)) w
  front_derived w d = subst (λ ls. DerivesText ls w) front_is d

  pub known_refuses : (w : Written) (f : Fault) → DerivesText (map seen (take cut items)) w → known ≡ Some f → IsReadingFault text f.code f.place
  known_refuses w f d e = text_refused text scene w f (front_derived w d) e

  pub front_refuses : (n left number : ℕ) (f : Fault) → n + left ≡ length (map seen (take cut items)) → IsFirstUnexpected (map seen (take cut items)) n → number ≡ cut - left → f ≡ refused_fault known (place_in (map seen items) stop_at number)
      → IsReadingFault text f.code f.place
  front_refuses n left number f s u g e =
      front_refused text scene n f (subst (λ ls. IsFirstUnexpected ls n) front_is u) (e ∙ ap (λ k. refused_fault known (place_in (map seen items) stop_at k)) same)
    where
      whole : length (map seen (take cut items)) ≡ cut
      whole = length-map (take cut items) seen ∙ length-take-le cut items (cut_within items deep cut found.deep_is found.cut_is)

      same : number ≡ n
      same = omega (arith, s, whole, g)

  pub tree_read : (w : Written) (r : Result SpecTree SpecFault) → DerivesText (map seen (take cut items)) w → known ≡ None → IsReadResult (map seen items) w r → IfOk r (λ tree. Reads text (text_seen tree))
  tree_read w r d e a = by r (text_read text scene w r e (front_derived w d) a)
    where
      by : (r : Result SpecTree SpecFault) → ((tree : SpecTree) → r ≡ Ok tree → Reads text (text_seen tree)) → IfOk r (λ tree. Reads text (text_seen tree))
      by (Ok tree) i = i tree refl
      by (Err g) i = tt

  pub fault_read : (w : Written) (r : Result SpecTree SpecFault) → DerivesText (map seen (take cut items)) w → known ≡ None → IsReadResult (map seen items) w r → (code : SpecCode) (place : ℕ) → r ≡ Err (At code place)
      → IsReadingFault text code place
  fault_read w r d e a code place i = text_faulty text scene w r e (front_derived w d) a code place i

-- a fault as it is told
pub told : (text : List ℕ) (f : Fault) (g : SpecFault) → IsReadingFault text f.code f.place → g ≡ At f.code f.place → (code : SpecCode) (place : ℕ) → ◌≡◌ {A = Result SpecTree SpecFault} (Err g) (Err (At code place)) → IsReadingFault text code place
told text f g h e code place i =
    let same : g ≡ At code place = cc in
    let whole : At f.code f.place ≡ At code place = sym e ∙ same in
    let codes : f.code ≡ code = cc in
    let places : f.place ≡ place = cc in subst (λ c. IsReadingFault text c place) codes (subst (IsReadingFault text f.code) places h)

pub too_long_told : (text : List ℕ) → most_bytes < length text → (code : SpecCode) (place : ℕ) → ◌≡◌ {A = Result SpecTree SpecFault} (Err (At TooLong most_bytes)) (Err (At code place)) → IsReadingFault text code place
too_long_told text h code place i =
    let same : At TooLong most_bytes ≡ At code place = cc in
    let codes : TooLong ≡ code = cc in
    let places : most_bytes ≡ place = cc in subst (λ c. IsReadingFault text c place) codes (subst (IsReadingFault text TooLong) places (too_long h))
