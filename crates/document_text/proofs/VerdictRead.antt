-- The line of a verdict.
use Rattle.std.proofs.Common.{◌≡◌, ℕ, ◌-◌, ◌^◌, ◌<◌, Bool, true, false, cond, Option, Some, None, List, ◌++◌, refl, sym, ap, subst, ◌∙◌, arith, decimal, inl, inr}
use Rattle.std.specs.Prelude.{option_map, option_and_then, codes, unwrap_or}
use Rattle.std.specs.Option.{option_or}
use Rattle.std.specs.Str.{bytes_eq}
use Rattle.std.specs.Cmp.Lexicographic.{bytes_decides}
use Rattle.std_lemmas.proofs.Options.{either_some, mapped_some}
use Rattle.letters_and_lassos.specs.declared.kinds.Side.{Side}
use Rattle.letters_and_lassos.specs.declared.kinds.Side.TheVariants.{System, Environment}
use Rattle.aiger_text.proofs.Numbers.{Lacks}
use Rattle.document_text.specs.declared.documents.Verdict.{Verdict}
use Rattle.document_text.specs.declared.documents.Verdict.TheVariants.{Machine, Unknown}
use Rattle.document_text.specs.Lines.{machine_words, unknown_words, verdict_line}
use Rattle.document_text.specs.Order.{fits_version, place}
use Rattle.document_text.specs.Header.{number_behind, any_verdict_in, machine_in, unknown_in, verdict_in}
use Rattle.document_text.proofs.LineRead.{capped_read, number_behind_is, text_lacks, words_lack}

-- the number that a verdict names
abbrev pub number_in : Verdict → ℕ
number_in (Machine side n least) = n
number_in (Unknown None) = 0
number_in (Unknown (Some first)) = first.size

pub any_verdict_read : (verdict : Verdict) → number_in verdict < 2 ^ 32 → any_verdict_in (verdict_line verdict) ≡ Some verdict
any_verdict_read (Machine System n true) small = rw (capped_read n small) refl
any_verdict_read (Machine Environment n true) small = rw (capped_read n small) refl
any_verdict_read (Machine System n false) small = rw (capped_read n small) refl
any_verdict_read (Machine Environment n false) small = rw (capped_read n small) refl
any_verdict_read (Unknown None) small = refl
any_verdict_read (Unknown (Some first)) small = at first.side first.size small
  where
    at : (side : Side) (n : ℕ) → n < 2 ^ 32 → any_verdict_in (verdict_line (Unknown (Some (place side n)))) ≡ Some (Unknown (Some (place side n)))
    at System n small = rw (capped_read n small) refl
    at Environment n small = rw (capped_read n small) refl

-- a verdict with a number, behind its words
one_is : (words line : List ℕ) (f : ℕ → Verdict) (verdict : Verdict) → ((n : ℕ) → verdict_line (f n) ≡ words ++ decimal n) → ((n : ℕ) → number_in (f n) ≡ n)
    → number_in verdict < 2 ^ 32 - 1 → option_map f (number_behind words line) ≡ Some verdict → line ≡ verdict_line verdict
one_is words line f verdict text size small is =
    let k = mapped_some f (number_behind words line) verdict is in
    let n : number_in verdict ≡ k.0 = ap number_in (sym k.2) ∙ size k.0 in
    let less : k.0 < 2 ^ 32 - 1 = subst (λ (m : ℕ). m < 2 ^ 32 - 1) n small in
    number_behind_is words line k.0 less k.1 ∙ sym (text k.0) ∙ ap verdict_line k.2

module _ (line : List ℕ) (verdict : Verdict) (small : number_in verdict < 2 ^ 32 - 1) where
  machine_is : (side : Side) (least : Bool) → machine_in side least line ≡ Some verdict → line ≡ verdict_line verdict
  machine_is side least is = one_is (machine_words side least) line (λ n. Machine side n least) verdict (λ n. refl) (λ n. refl) small is

  unknown_is : (side : Side) → unknown_in side line ≡ Some verdict → line ≡ verdict_line verdict
  unknown_is side is = one_is (unknown_words side) line (λ n. Unknown (Some (place side n))) verdict (λ n. refl) (λ n. refl) small is

  numbered_is : option_or (option_or (machine_in System true line) (machine_in Environment true line))
      (option_or (option_or (machine_in System false line) (machine_in Environment false line)) (option_or (unknown_in System line) (unknown_in Environment line))) ≡ Some verdict
      → line ≡ verdict_line verdict
  numbered_is is = elim (either_some _ _ verdict is) [
    | inl least ↦ elim (either_some _ _ verdict least) [ inl a ↦ machine_is System true a | inr a ↦ machine_is Environment true a ]
    | inr more ↦ elim (either_some _ _ verdict more) [
      | inl bounded ↦ elim (either_some _ _ verdict bounded) [ inl a ↦ machine_is System false a | inr a ↦ machine_is Environment false a ]
      | inr unknown ↦ elim (either_some _ _ verdict unknown) [ inl a ↦ unknown_is System a | inr a ↦ unknown_is Environment a ]
    ]
  ]

  any_by : (b : Bool) → bytes_eq line (codes "verdict unknown sizes") ≡ b → any_verdict_in line ≡ Some verdict → line ≡ verdict_line verdict
  any_by true e is =
      let words : line ≡ codes "verdict unknown sizes" = (bytes_decides line (codes "verdict unknown sizes")).0 e in
      let same : Unknown None ≡ verdict = ap (λ (o : Option Verdict). unwrap_or o (Unknown None)) (ap any_verdict_in (sym words) ∙ is) in
      words ∙ ap verdict_line same
  any_by false e is = numbered_is (rw e at is)

  pub any_verdict_is : any_verdict_in line ≡ Some verdict → line ≡ verdict_line verdict
  any_verdict_is is = any_by (bytes_eq line (codes "verdict unknown sizes")) refl is

-- ---- with its version

fits_by : (version : ℕ) (r verdict : Verdict) (b : Bool) → fits_version version r ≡ b → cond b (Some r) None ≡ Some verdict → (r ≡ verdict) × (fits_version version r ≡ true)
fits_by version r verdict true e is = (ap (λ o. unwrap_or o r) is, e)
fits_by version r verdict false e is = absurd (cc)

verdict_by : (version : ℕ) (line : List ℕ) (verdict : Verdict) (o : Option Verdict) → any_verdict_in line ≡ o
    → option_and_then (λ verdict. cond (fits_version version verdict) (Some verdict) None) o ≡ Some verdict
    → (any_verdict_in line ≡ Some verdict) × (fits_version version verdict ≡ true)
verdict_by version line verdict None e is = absurd (cc)
verdict_by version line verdict (Some r) e is =
    let k = fits_by version r verdict (fits_version version r) refl is in
    (e ∙ ap Some k.0, ap (fits_version version) (sym k.0) ∙ k.1)

pub verdict_parts : (version : ℕ) (line : List ℕ) (verdict : Verdict) → verdict_in version line ≡ Some verdict → (any_verdict_in line ≡ Some verdict) × (fits_version version verdict ≡ true)
verdict_parts version line verdict is = verdict_by version line verdict (any_verdict_in line) refl is

pub verdict_read : (version : ℕ) (verdict : Verdict) → number_in verdict < 2 ^ 32 → fits_version version verdict ≡ true → verdict_in version (verdict_line verdict) ≡ Some verdict
verdict_read version verdict small fits =
    ap (option_and_then (λ verdict. cond (fits_version version verdict) (Some verdict) None)) (any_verdict_read verdict small)
    ∙ ap (λ b. cond b (Some verdict) None) fits

machine_words_lack : (side : Side) (least : Bool) → Lacks 10 (machine_words side least)
machine_words_lack System true = words_lack (machine_words System true) refl
machine_words_lack System false = words_lack (machine_words System false) refl
machine_words_lack Environment true = words_lack (machine_words Environment true) refl
machine_words_lack Environment false = words_lack (machine_words Environment false) refl

unknown_words_lack : (side : Side) → Lacks 10 (unknown_words side)
unknown_words_lack System = words_lack (unknown_words System) refl
unknown_words_lack Environment = words_lack (unknown_words Environment) refl

pub verdict_lacks : (verdict : Verdict) → number_in verdict < 2 ^ 32 → Lacks 10 (verdict_line verdict)
verdict_lacks (Machine side n least) small = text_lacks (machine_words side least) n (machine_words_lack side least) (omega arith)
verdict_lacks (Unknown None) small = words_lack (codes "verdict unknown sizes") refl
verdict_lacks (Unknown (Some first)) small = text_lacks (unknown_words first.side) first.size (unknown_words_lack first.side) (omega arith)
