-- The first fault of a text.
use Rattle.std.proofs.Common.{◌≡◌, ◌<◌, ◌≤◌, ◌+◌, ◌⊎◌, ℕ, zero, suc, Bool, true, false, cond, List, [], ◌∷◌, length, take, Option, None, Some, Result, Ok, Err, nat_le, refl, sym, ◌∙◌, ap, subst, arith, inl, inr}
use Rattle.std.proofs.lemmas.Bool.{leb-true, leb-false}
use Rattle.std.proofs.lemmas.List.{take-take, take_all}
use Rattle.spec_faults.specs.declared.code.SpecCode.{SpecCode}
use Rattle.spec_faults.specs.declared.code.SpecCode.TheVariants.{Unexpected, TooDeep, Unsupported}
use Rattle.spec_faults.specs.declared.code.SpecFault.{SpecFault}
use Rattle.spec_faults.specs.declared.code.SpecFault.TheVariants.{At}
use Rattle.tlsf_syntax.specs.declared.spec.SpecTree.{SpecTree}
use Rattle.tlsf_syntax.specs.Nesting.{first_deep}
use Rattle.tlsf_syntax.specs.Tree.{Written}
use Rattle.tlsf_syntax.specs.Lexemes.{Lexeme}
use Rattle.tlsf_syntax.specs.Texts.{DerivesText, Begins, IsFirstUnexpected, at_lexeme, at_end}
use Rattle.tlsf_syntax.proofs.Unexpected.{determined, begins_before, text_begins}
use Rattle.tlsf_reader.specs.Lexed.{Lexed, IsLexed}
use Rattle.tlsf_reader.specs.Faults.{most_bytes, most_nesting, symbols_of, start_at, HasEarlyFault, of_tokens, of_nesting, of_finite, of_lexeme, of_end, IsReadingFault, early, late}
use Rattle.tlsf_reader.specs.Known.{place_in, IsKnown, stopped, deepened, finite, IsEarliest, refused_fault}
use Rattle.tlsf_reader.specs.Least.{Reaches}
use Rattle.tlsf_reader.specs.Places.{IsReadResult}
use Rattle.tlsf_reader.specs.Reads.{Reads}
use Rattle.tlsf_syntax.specs.Seen.{text_seen}
use Rattle.tlsf_reader.specs.declared.fault.Fault.{Fault}
use Rattle.tlsf_reader.proofs.StopCodes.{is_stop, stop_is_right, reaches_end, deep_within, IsRising, lexed_rise, starts_within, starts_rise, place_within, place_beyond}

-- how many lexemes the descent sees
abbrev pub cut_of : Option ℕ → ℕ → ℕ
cut_of None n = n
cut_of (Some k) n = k

-- a text as its reader sees it
pub record Scene (text : List ℕ) : Type 0 where
  pub stop : Option SpecCode
  pub stop_at : ℕ
  pub lexemes : List Lexeme
  pub is : IsLexed text stop stop_at lexemes
  pub short : length text ≤ most_bytes
  pub deep : Option ℕ
  pub deep_is : deep ≡ first_deep most_nesting [] (symbols_of lexemes)
  pub known : Option Fault
  pub known_is : IsEarliest (IsKnown lexemes stop stop_at deep) known

length_symbols : (ls : List Lexeme) → length (symbols_of ls) ≡ length ls
length_symbols [] = refl
length_symbols (l ∷ ls) = ap suc (length_symbols ls)

lexed_of : (text : List ℕ) → Scene text → Lexed text
lexed_of text s = record { stop = s.stop; stop_at = s.stop_at; lexemes = s.lexemes; is = s.is }

rises : (text : List ℕ) (s : Scene text) → IsRising 0 s.lexemes s.stop_at
rises text s = lexed_rise text s.stop s.stop_at s.lexemes s.is

deep_in : (text : List ℕ) (s : Scene text) (d : ℕ) → s.deep ≡ Some d → d < length s.lexemes
deep_in text s d e =
    let low : d < 0 + length (symbols_of s.lexemes) = deep_within most_nesting [] (symbols_of s.lexemes) d (sym s.deep_is ∙ e) in let same : length (symbols_of s.lexemes) ≡ length s.lexemes = length_symbols s.lexemes in omega (arith, low, same)

-- known faults are early ones

known_early : (text : List ℕ) (s : Scene text) (code : SpecCode) (place : ℕ) → IsKnown s.lexemes s.stop s.stop_at s.deep code place → HasEarlyFault text (lexed_of text s) code place
unfolding lexed_of
known_early text s code place (stopped c e) = of_tokens c e
known_early text s code place (deepened k e) = subst (HasEarlyFault text (lexed_of text s) TooDeep) (sym (place_within s.lexemes s.stop_at k (deep_in text s k e))) (of_nesting k (sym s.deep_is ∙ e))
known_early text s code place (finite p f) = subst (HasEarlyFault text (lexed_of text s) Unsupported) f.place_is (of_finite f.lexeme f.is)

-- an early fault is known, or stands at an unexpected lexeme or at the end
pub data IsUnexpectedAt (text : List ℕ) (s : Scene text) : SpecCode → ℕ → Type 0 where
  at_number : (k : ℕ) → IsFirstUnexpected s.lexemes k → k < length s.lexemes → IsUnexpectedAt text s Unexpected (start_at s.lexemes k)
  at_text_end : s.stop ≡ None → IsFirstUnexpected s.lexemes (length s.lexemes) → IsUnexpectedAt text s Unexpected (length text)

early_known : (text : List ℕ) (s : Scene text) (code : SpecCode) (place : ℕ) → HasEarlyFault text (lexed_of text s) code place → IsKnown s.lexemes s.stop s.stop_at s.deep code place ⊎ IsUnexpectedAt text s code place
unfolding lexed_of
early_known text s code place (of_tokens c e) = inl (stopped c e)
early_known text s code place (of_nesting k e) =
    let here : s.deep ≡ Some k = s.deep_is ∙ e in inl (subst (IsKnown s.lexemes s.stop s.stop_at s.deep TooDeep) (place_within s.lexemes s.stop_at k (deep_in text s k here)) (deepened k here))
early_known text s code place (of_finite l h) = inl (finite l.start (record { lexeme = l; is = h; place_is = refl }))
early_known text s code place (of_lexeme k u h) = inr (at_number k u h)
early_known text s code place (of_end e u) = inr (at_text_end e u)

known_otherwise : (text : List ℕ) (s : Scene text) (code : SpecCode) (place : ℕ) → IsKnown s.lexemes s.stop s.stop_at s.deep code place → code ≡ Unexpected → ⊥
known_otherwise text s code place (stopped c e) f =
    let right : is_stop c ≡ true = stop_is_right text s.stop s.stop_at 0 s.is.tokens c s.is.cut e in let no : false ≡ true = sym (ap is_stop f) ∙ right in cc
known_otherwise text s code place (deepened k e) f = absurd cc
known_otherwise text s code place (finite p h) f = absurd cc

at_number_so : (text : List ℕ) (s : Scene text) (k : ℕ) → IsFirstUnexpected s.lexemes k → k < length s.lexemes → HasEarlyFault text (lexed_of text s) Unexpected (start_at s.lexemes k)
unfolding lexed_of
at_number_so text s k u h = of_lexeme k u h

ended_so : (text : List ℕ) (s : Scene text) → s.stop ≡ None → IsFirstUnexpected s.lexemes (length s.lexemes) → HasEarlyFault text (lexed_of text s) Unexpected (length text)
unfolding lexed_of
ended_so text s z u = of_end z u

-- fronts

-- what the first unexpected lexeme is
data Parts (ls : List Lexeme) (k : ℕ) : Type 0 where
  inside : k < length ls → Begins (take k ls) → ¬ Begins (take (k + 1) ls) → Parts ls k
  beyond : k ≡ length ls → Begins ls → ¬ ((w : Written) × DerivesText ls w) → Parts ls k

parts : (ls : List Lexeme) (k : ℕ) → IsFirstUnexpected ls k → Parts ls k
parts ls k (at_lexeme xs j h b n) = inside h b n
parts ls k (at_end xs b n) = beyond refl b n

-- an unexpected lexeme is none of a front that begins a text
not_before : (ls : List Lexeme) (d k : ℕ) → Begins (take d ls) → IsFirstUnexpected ls k → k < length ls → k < d → ⊥
not_before ls d k b u h g = by (parts ls k u)
  where
    by : Parts ls k → ⊥
    by (inside i c n) = n (subst Begins (take-take (k + 1) d ls (omega (arith, g))) (begins_before (take d ls) (k + 1) b))
    by (beyond e c n) = omega (arith, e, h)

-- Let the descent see so many lexemes: a lexeme that is unexpected among them is unexpected among all.
lifted : (ls : List Lexeme) (cut n : ℕ) → cut ≤ length ls → n < cut → Begins (take n (take cut ls)) → ¬ Begins (take (n + 1) (take cut ls)) → IsFirstUnexpected ls n
lifted ls cut n h g b m =
    at_lexeme ls n (omega (arith, h, g)) (subst Begins (take-take n cut ls (omega (arith, g))) b) (λ c. m (subst Begins (sym (take-take (n + 1) cut ls (omega (arith, g)))) c))

-- what a known fault says

known_at : (text : List ℕ) (s : Scene text) (f : Fault) → s.known ≡ Some f → IsKnown s.lexemes s.stop s.stop_at s.deep f.code f.place
known_at text s f e = let k : IsEarliest (IsKnown s.lexemes s.stop s.stop_at s.deep) s.known = s.known_is in k.at f e

known_below : (text : List ℕ) (s : Scene text) (f : Fault) → s.known ≡ Some f → (code : SpecCode) (place : ℕ) → IsKnown s.lexemes s.stop s.stop_at s.deep code place → f.place ≤ place
known_below text s f e code place h = let k : IsEarliest (IsKnown s.lexemes s.stop s.stop_at s.deep) s.known = s.known_is in subst (λ x. Reaches (λ (f : Fault). f.place) x place) e (k.below (record { code = code; place = place }) h)

known_none : (text : List ℕ) (s : Scene text) → s.known ≡ None → (code : SpecCode) (place : ℕ) → IsKnown s.lexemes s.stop s.stop_at s.deep code place → ⊥
known_none text s e code place h = let k : IsEarliest (IsKnown s.lexemes s.stop s.stop_at s.deep) s.known = s.known_is in subst (λ x. Reaches (λ (f : Fault). f.place) x place) e (k.below (record { code = code; place = place }) h)

-- a known fault is the first one, where no unexpected lexeme stands before it
known_first : (text : List ℕ) (s : Scene text) (f : Fault) → s.known ≡ Some f → ((code : SpecCode) (place : ℕ) → IsUnexpectedAt text s code place → f.place ≤ place) → IsReadingFault text f.code f.place
known_first text s f e low = early (lexed_of text s) f.code f.place s.short (record {
  has = known_early text s f.code f.place (known_at text s f e);
  least = λ code place h. elim (early_known text s code place h) [ inl k ↦ known_below text s f e code place k | inr u ↦ low code place u ];
  gives_way = λ g. absurd (known_otherwise text s f.code f.place (known_at text s f e) g);
})

-- after a whole text among the lexemes that the descent sees
after_text : (text : List ℕ) (s : Scene text) (w : Written) (f : Fault) → DerivesText (take (cut_of s.deep (length s.lexemes)) s.lexemes) w → s.known ≡ Some f → (code : SpecCode) (place : ℕ) → IsUnexpectedAt text s code place → f.place ≤ place
after_text text s w f d e code place u = by s.deep refl code place u
  where
    whole : s.deep ≡ None → DerivesText s.lexemes w
    whole g = subst (λ ls. DerivesText ls w) (ap (λ x. take (cut_of x (length s.lexemes)) s.lexemes) g ∙ take_all (length s.lexemes) s.lexemes (omega arith)) d

    front : (k : ℕ) → s.deep ≡ Some k → Begins (take k s.lexemes)
    front k g = text_begins (take k s.lexemes) w (subst (λ x. DerivesText (take (cut_of x (length s.lexemes)) s.lexemes) w) g d)

    deep_low : (k : ℕ) → s.deep ≡ Some k → f.place ≤ start_at s.lexemes k
    deep_low k g = let low : f.place ≤ place_in s.lexemes s.stop_at k = known_below text s f e TooDeep (place_in s.lexemes s.stop_at k) (deepened k g) in let same : place_in s.lexemes s.stop_at k ≡ start_at s.lexemes k = place_within s.lexemes s.stop_at k (deep_in text s k g) in omega (arith, low, same)

    by : (deep : Option ℕ) → s.deep ≡ deep → (code : SpecCode) (place : ℕ) → IsUnexpectedAt text s code place → f.place ≤ place
    by None g code place (at_number k u h) = absurd (determined.never_a_text s.lexemes k w u (whole g))
    by None g code place (at_text_end z u) = absurd (determined.never_a_text s.lexemes (length s.lexemes) w u (whole g))
    by (Some k) g code place (at_number j u h) =
        let low : f.place ≤ start_at s.lexemes k = deep_low k g in
        let order : k ≤ j = later (nat_le k j) refl in
        let rise : start_at s.lexemes k ≤ start_at s.lexemes j = starts_rise s.lexemes 0 s.stop_at k j (rises text s) order h in omega (arith, low, rise)
      where
        later : (b : Bool) → nat_le k j ≡ b → k ≤ j
        later true c = leb-true k j c
        later false c = absurd (not_before s.lexemes k j (front k g) u h (leb-false k j c))
    by (Some k) g code place (at_text_end z u) =
        let low : f.place ≤ place_in s.lexemes s.stop_at k = known_below text s f e TooDeep (place_in s.lexemes s.stop_at k) (deepened k g) in
        let high : place_in s.lexemes s.stop_at k ≤ s.stop_at = starts_within s.lexemes 0 s.stop_at k (rises text s) in
        let end : s.stop_at ≡ length text = reaches_end text s.stop s.stop_at 0 s.is.tokens s.is.cut z in omega (arith, low, high, end)

pub text_refused : (text : List ℕ) (s : Scene text) (w : Written) (f : Fault) → DerivesText (take (cut_of s.deep (length s.lexemes)) s.lexemes) w → s.known ≡ Some f → IsReadingFault text f.code f.place
text_refused text s w f d e = known_first text s f e (after_text text s w f d e)

-- the lexeme that the descent refused

cut_within : (text : List ℕ) (s : Scene text) → cut_of s.deep (length s.lexemes) ≤ length s.lexemes
cut_within text s = by s.deep refl
  where
    by : (deep : Option ℕ) → s.deep ≡ deep → cut_of deep (length s.lexemes) ≤ length s.lexemes
    by None e = omega arith
    by (Some k) e = let low : k < length s.lexemes = deep_in text s k e in omega (arith, low)

length_cut : (cut : ℕ) (ls : List Lexeme) → cut ≤ length ls → length (take cut ls) ≡ cut
length_cut zero ls h = refl
length_cut (suc cut) [] h = absurd (omega (arith, h))
length_cut (suc cut) (l ∷ ls) h = ap suc (length_cut cut ls (omega (arith, h)))

-- Where it is no unexpected lexeme of all, it is where the lexemes end, or where they are nested too deep.
pub data IsStop (text : List ℕ) (s : Scene text) (n : ℕ) : Type 0 where
  of_all : IsFirstUnexpected s.lexemes n → n < length s.lexemes → IsStop text s n
  whole_end : s.deep ≡ None → n ≡ length s.lexemes → IsFirstUnexpected s.lexemes (length s.lexemes) → IsStop text s n
  deep_end : s.deep ≡ Some n → Begins (take n s.lexemes) → IsStop text s n

stop_of : (text : List ℕ) (s : Scene text) (n : ℕ) → IsFirstUnexpected (take (cut_of s.deep (length s.lexemes)) s.lexemes) n → IsStop text s n
stop_of text s n u = by s.deep refl (parts (take (cut_of s.deep (length s.lexemes)) s.lexemes) n u)
  where
    size : (cut : ℕ) → cut ≤ length s.lexemes → length (take cut s.lexemes) ≡ cut
    size cut h = length_cut cut s.lexemes h

    all : take (length s.lexemes) s.lexemes ≡ s.lexemes
    all = take_all (length s.lexemes) s.lexemes (omega arith)

    by : (deep : Option ℕ) → s.deep ≡ deep → Parts (take (cut_of s.deep (length s.lexemes)) s.lexemes) n → IsStop text s n
    by deep e (inside h b m) =
        let cut : length (take (cut_of s.deep (length s.lexemes)) s.lexemes) ≡ cut_of s.deep (length s.lexemes) = size (cut_of s.deep (length s.lexemes)) (cut_within text s) in
        let low : cut_of s.deep (length s.lexemes) ≤ length s.lexemes = cut_within text s in
        of_all (lifted s.lexemes (cut_of s.deep (length s.lexemes)) n low (omega (arith, h, cut)) b m) (omega (arith, h, cut, low))
    by None e (beyond g b m) =
        let same : take (cut_of s.deep (length s.lexemes)) s.lexemes ≡ s.lexemes = ap (λ x. take (cut_of x (length s.lexemes)) s.lexemes) e ∙ all in
        whole_end e (g ∙ ap length same) (at_end s.lexemes (subst Begins same b) (λ t. m (t.0, subst (λ ls. DerivesText ls t.0) (sym same) t.1)))
    by (Some k) e (beyond g b m) =
        let same : take (cut_of s.deep (length s.lexemes)) s.lexemes ≡ take k s.lexemes = ap (λ x. take (cut_of x (length s.lexemes)) s.lexemes) e in
        let low : k < length s.lexemes = deep_in text s k e in
        let here : n ≡ k = g ∙ ap length same ∙ size k (omega (arith, low)) in
        deep_end (e ∙ ap (λ x. Some x) (sym here)) (subst (λ x. Begins (take x s.lexemes)) (sym here) (subst Begins same b))

-- no unexpected lexeme stands before the place of this stop
stop_low : (text : List ℕ) (s : Scene text) (n : ℕ) → IsStop text s n → (code : SpecCode) (place : ℕ) → IsUnexpectedAt text s code place → place_in s.lexemes s.stop_at n ≤ place
stop_low text s n (of_all u h) code place (at_number k v g) =
    let same : n ≡ k = determined.one s.lexemes n k u v in let at : place_in s.lexemes s.stop_at n ≡ start_at s.lexemes n = place_within s.lexemes s.stop_at n h in let to : start_at s.lexemes n ≡ start_at s.lexemes k = ap (start_at s.lexemes) same in omega (arith, at, to)
stop_low text s n i code place (at_text_end z v) =
    let high : place_in s.lexemes s.stop_at n ≤ s.stop_at = starts_within s.lexemes 0 s.stop_at n (rises text s) in let end : s.stop_at ≡ length text = reaches_end text s.stop s.stop_at 0 s.is.tokens s.is.cut z in omega (arith, high, end)
stop_low text s n (whole_end e g u) code place (at_number k v h) = let same : length s.lexemes ≡ k = determined.one s.lexemes (length s.lexemes) k u v in absurd (omega (arith, same, h))
stop_low text s n (deep_end e b) code place (at_number k v h) =
    let low : n < length s.lexemes = deep_in text s n e in
    let order : n ≤ k = later (nat_le n k) refl in
    let at : place_in s.lexemes s.stop_at n ≡ start_at s.lexemes n = place_within s.lexemes s.stop_at n low in
    let rise : start_at s.lexemes n ≤ start_at s.lexemes k = starts_rise s.lexemes 0 s.stop_at n k (rises text s) order h in omega (arith, at, rise)
  where
    later : (b : Bool) → nat_le n k ≡ b → n ≤ k
    later true c = leb-true n k c
    later false c = absurd (not_before s.lexemes n k b v h (leb-false n k c))

-- the unexpected lexeme, or the end, is the first fault where no known one stands before it or there
unexpected_first : (text : List ℕ) (s : Scene text) (n : ℕ) → IsStop text s n → ((code : SpecCode) (place : ℕ) → IsKnown s.lexemes s.stop s.stop_at s.deep code place → place_in s.lexemes s.stop_at n < place)
    → IsReadingFault text Unexpected (place_in s.lexemes s.stop_at n)
unexpected_first text s n i above = early (lexed_of text s) Unexpected (place_in s.lexemes s.stop_at n) s.short (record {
  has = there i;
  least = λ code place h. elim (early_known text s code place h) [ inl k ↦ (let low : place_in s.lexemes s.stop_at n < place = above code place k in omega (arith, low)) | inr u ↦ stop_low text s n i code place u ];
  gives_way = λ e code h. elim (early_known text s code (place_in s.lexemes s.stop_at n) h) [ inl k ↦ (let low : place_in s.lexemes s.stop_at n < place_in s.lexemes s.stop_at n = above code (place_in s.lexemes s.stop_at n) k in absurd (omega (arith, low))) | inr u ↦ so code (place_in s.lexemes s.stop_at n) u ];
})
  where
    so : (code : SpecCode) (place : ℕ) → IsUnexpectedAt text s code place → code ≡ Unexpected
    so code place (at_number k u h) = refl
    so code place (at_text_end z u) = refl

    ended : (stop : Option SpecCode) → s.stop ≡ stop → n ≡ length s.lexemes → IsFirstUnexpected s.lexemes (length s.lexemes) → HasEarlyFault text (lexed_of text s) Unexpected (place_in s.lexemes s.stop_at n)
    ended (Some code) z g u =
        let low : place_in s.lexemes s.stop_at n < s.stop_at = above code s.stop_at (stopped code z) in
        let at : place_in s.lexemes s.stop_at n ≡ s.stop_at = ap (place_in s.lexemes s.stop_at) g ∙ place_beyond s.lexemes s.stop_at in absurd (omega (arith, low, at))
    ended None z g u =
        let at : place_in s.lexemes s.stop_at n ≡ length text = ap (place_in s.lexemes s.stop_at) g ∙ place_beyond s.lexemes s.stop_at ∙ reaches_end text s.stop s.stop_at 0 s.is.tokens s.is.cut z in
        subst (HasEarlyFault text (lexed_of text s) Unexpected) (sym at) (at_the_end z u)
      where
        at_the_end : s.stop ≡ None → IsFirstUnexpected s.lexemes (length s.lexemes) → HasEarlyFault text (lexed_of text s) Unexpected (length text)
        at_the_end z u = ended_so text s z u

    there : IsStop text s n → HasEarlyFault text (lexed_of text s) Unexpected (place_in s.lexemes s.stop_at n)
    there (of_all u h) = subst (HasEarlyFault text (lexed_of text s) Unexpected) (sym (place_within s.lexemes s.stop_at n h)) (at_number_so text s n u h)
    there (whole_end e g u) = ended s.stop refl g u
    there (deep_end e b) =
        let low : place_in s.lexemes s.stop_at n < place_in s.lexemes s.stop_at n = above TooDeep (place_in s.lexemes s.stop_at n) (deepened n e) in absurd (omega (arith, low))

pub front_refused : (text : List ℕ) (s : Scene text) (n : ℕ) (f : Fault) → IsFirstUnexpected (take (cut_of s.deep (length s.lexemes)) s.lexemes) n → f ≡ refused_fault s.known (place_in s.lexemes s.stop_at n) → IsReadingFault text f.code f.place
front_refused text s n f u e = subst (λ (g : Fault). IsReadingFault text g.code g.place) (sym e) (by s.known refl)
  where
    i : IsStop text s n
    i = stop_of text s n u

    with_known : (g : Fault) → s.known ≡ Some g → (b : Bool) → nat_le g.place (place_in s.lexemes s.stop_at n) ≡ b
        → (let h : Fault = cond b g (record { code = Unexpected; place = place_in s.lexemes s.stop_at n }) in IsReadingFault text h.code h.place)
    with_known g k true c =
        let low : g.place ≤ place_in s.lexemes s.stop_at n = leb-true g.place (place_in s.lexemes s.stop_at n) c in
        known_first text s g k (λ code place v. let high : place_in s.lexemes s.stop_at n ≤ place = stop_low text s n i code place v in omega (arith, low, high))
    with_known g k false c =
        let low : place_in s.lexemes s.stop_at n < g.place = leb-false g.place (place_in s.lexemes s.stop_at n) c in
        unexpected_first text s n i (λ code place h. let high : g.place ≤ place = known_below text s g k code place h in omega (arith, low, high))

    by : (known : Option Fault) → s.known ≡ known → (let h : Fault = refused_fault known (place_in s.lexemes s.stop_at n) in IsReadingFault text h.code h.place)
    by None k = unexpected_first text s n i (λ code place h. absurd (known_none text s k code place h))
    by (Some g) k = with_known g k (nat_le g.place (place_in s.lexemes s.stop_at n)) refl

-- a text of the grammar without a known fault

nothing_deep : (text : List ℕ) (s : Scene text) → s.known ≡ None → s.deep ≡ None
nothing_deep text s e = by s.deep refl
  where
    by : (deep : Option ℕ) → s.deep ≡ deep → deep ≡ None
    by None g = refl
    by (Some k) g = absurd (known_none text s e TooDeep (place_in s.lexemes s.stop_at k) (deepened k g))

nothing_stops : (text : List ℕ) (s : Scene text) → s.known ≡ None → s.stop ≡ None
nothing_stops text s e = by s.stop refl
  where
    by : (stop : Option SpecCode) → s.stop ≡ stop → stop ≡ None
    by None g = refl
    by (Some code) g = absurd (known_none text s e code s.stop_at (stopped code g))

whole_text : (text : List ℕ) (s : Scene text) (w : Written) → s.known ≡ None → DerivesText (take (cut_of s.deep (length s.lexemes)) s.lexemes) w → DerivesText s.lexemes w
whole_text text s w e d = subst (λ ls. DerivesText ls w) (ap (λ x. take (cut_of x (length s.lexemes)) s.lexemes) (nothing_deep text s e) ∙ take_all (length s.lexemes) s.lexemes (omega arith)) d

pub text_read : (text : List ℕ) (s : Scene text) (w : Written) (result : Result SpecTree SpecFault) → s.known ≡ None → DerivesText (take (cut_of s.deep (length s.lexemes)) s.lexemes) w → IsReadResult s.lexemes w result
    → (tree : SpecTree) → result ≡ Ok tree → Reads text (text_seen tree)
unfolding lexed_of
text_read text s w result e d a tree f = record {
  lexed = lexed_of text s;
  written = w;
  short = s.short;
  whole = nothing_stops text s e;
  derived = whole_text text s w e d;
  shallow = sym s.deep_is ∙ nothing_deep text s e;
  sound = λ code place h. a.sound tree f code place h;
  is = a.tree tree f;
}

pub text_faulty : (text : List ℕ) (s : Scene text) (w : Written) (result : Result SpecTree SpecFault) → s.known ≡ None → DerivesText (take (cut_of s.deep (length s.lexemes)) s.lexemes) w → IsReadResult s.lexemes w result
    → (code : SpecCode) (place : ℕ) → result ≡ Err (At code place) → IsReadingFault text code place
unfolding lexed_of
text_faulty text s w result e d a code place f =
    late (lexed_of text s) w code place s.short (nothing_stops text s e) (whole_text text s w e d) (sym s.deep_is ∙ nothing_deep text s e) (a.fault code place f)
