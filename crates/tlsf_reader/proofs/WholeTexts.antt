-- What the descent answers for all lexemes of a text.
use Rattle.std.proofs.Common.{◌≡◌, ◌<◌, ◌≤◌, ℕ, ◌+◌, List, [], ◌∷◌, ◌++◌, length, length-append, Result, Ok, Err, IsErrAnd, refl, sym, ap, ◌∙◌, subst, arith}
use Rattle.std.proofs.lemmas.Result.{err_from_is_err_and}
use Rattle.tlsf_syntax.specs.Tree as plain
use Rattle.tlsf_syntax.specs.Lexemes.{Lexeme}
use Rattle.tlsf_syntax.specs.Texts.{DerivesText}
use Rattle.tlsf_syntax.specs.Reading.{Answer, taken, refused}
use Rattle.tlsf_syntax.specs.TextReading.{main_read, text_read}
use Rattle.tlsf_syntax.proofs.TextSound.{Reads, reads_taken, reads_refused, reads_lost, text_reads}
use Rattle.tlsf_syntax.proofs.Exact.{exactly}
use Rattle.tlsf_reader.specs.declared.rest.Refusal.{Refusal}
use Rattle.tlsf_reader.specs.declared.rest.Refusal.TheVariants.{At}
use Rattle.tlsf_reader.specs.declared.written.Written.{Written}
use Rattle.tlsf_reader.specs.TextView.{written_view}
use Rattle.tlsf_reader.specs.Descent.{Eventually, IsRead}
use Rattle.tlsf_reader.specs.TextDescent.{IsTextRead}

-- so many lexemes of all are left
record IsLeft (ls : List Lexeme) (k : ℕ) : Type 0 where
  at : ℕ
  all : at + k ≡ length ls

front_of : (ls front rest : List Lexeme) (k : ℕ) → ls ≡ front ++ rest → length rest ≡ k → IsLeft ls k
front_of ls front rest k e h = record { at = length front; all = omega (arith, ap length e, length-append front rest, h) }

refused_left : (ls : List Lexeme) (k : ℕ) (x : Answer plain.Written) → Reads DerivesText ls x → x ≡ refused k → IsLeft ls k
refused_left ls k x (reads_taken w rest front is d) e = absurd (cc)
refused_left ls k x (reads_refused j o) e = let same : j ≡ k = cc in front_of ls o.front o.rest k o.is (o.left ∙ same)
refused_left ls k x reads_lost e = absurd (cc)

taken_left : (ls rest : List Lexeme) (w : plain.Written) (x : Answer plain.Written) → Reads DerivesText ls x → x ≡ taken w rest → IsLeft ls (length rest)
taken_left ls rest w x (reads_taken v after front is d) e = let same : after ≡ rest = cc in front_of ls front after (length rest) is (ap length same)
taken_left ls rest w x (reads_refused j o) e = absurd (cc)
taken_left ls rest w x reads_lost e = absurd (cc)

pub text_refused : {rest : List Lexeme} {e : Refusal} (ls : List Lexeme) (r : Result Written Refusal) → IsErrAnd r (λ x. x ≡ e) → IsRead written_view (λ d. text_read d ls) rest (Err e) → IsTextRead ls r
text_refused {rest = rest} {e = e} ls r is h = let p = err_from_is_err_and r is in subst (λ (x : Result Written Refusal). IsTextRead ls x) (sym (p.1 ∙ ap Err p.2)) here
  where
    here : IsTextRead ls (Err e)
    here = record {
      ok = λ w no_tree. absurd (cc);
      err = λ k at.
          let a : Eventually (λ d. text_read d ls) (refused k) = h.err k at in
          let l : IsLeft ls k = refused_left ls k (text_read a.from ls) (text_reads a.from ls) (a.reads a.from (omega arith)) in
          (l.at, l.all, exactly.refused ls l.at k (a.from, a.reads) l.all);
    }

more_left : (ls rest : List Lexeme) (w : Written) (k : ℕ) → 0 < length rest → length rest ≡ k → Eventually (λ d. text_read d ls) (taken (written_view w) rest) → IsTextRead ls (Err (At k))
more_left ls [] w k some e a = absurd (omega arith)
more_left ls (l ∷ rest) w k some e a = record {
  ok = λ v no_tree. absurd (cc);
  err = λ j at.
      let same : k ≡ j = cc in
      let i : IsLeft ls (length (l ∷ rest)) = taken_left ls (l ∷ rest) (written_view w) (text_read a.from ls) (text_reads a.from ls) (a.reads a.from (omega arith)) in
      (i.at, ap (λ n. i.at + n) (sym (e ∙ same)) ∙ i.all, exactly.left ls i.at (written_view w) l rest (a.from, a.reads) i.all);
}

pub text_longer : {w : Written} {e : Refusal} (ls rest : List Lexeme) → 0 < length rest → e ≡ At (length rest) → IsRead written_view (λ d. text_read d ls) rest (Ok w) → IsTextRead ls (Err e)
text_longer {w = w} {e = e} ls rest some is h = subst (λ (x : Refusal). IsTextRead ls (Err x)) (sym is) (more_left ls rest w (length rest) some refl (h.ok w refl))

nothing_left : (rest : List Lexeme) → length rest ≤ 0 → rest ≡ []
nothing_left [] h = refl
nothing_left (l ∷ rest) h = absurd (omega arith)

pub text_whole : {w : Written} (ls rest : List Lexeme) → length rest ≤ 0 → IsRead written_view (λ d. text_read d ls) rest (Ok w) → IsTextRead ls (Ok w)
text_whole {w = w} ls rest none h = record {
  ok = λ v is.
      let same : w ≡ v = cc in
      let a : Eventually (λ d. text_read d ls) (taken (written_view w) rest) = h.ok w refl in
      let ended : (d : ℕ) → a.from ≤ d → text_read d ls ≡ taken (written_view w) [] = λ d low. a.reads d low ∙ ap (taken (written_view w)) (nothing_left rest none) in
      subst (λ (x : Written). DerivesText ls (written_view x)) same (exactly.sound ls (written_view w) (a.from, ended));
  err = λ k is. absurd (cc);
}

-- MAIN without GLOBAL before it
abbrev pub main_alone : List plain.Field → ℕ → List Lexeme → Answer plain.Written
main_alone fs d ls = main_read d fs [] ls
