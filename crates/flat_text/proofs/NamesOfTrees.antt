-- The names that a text declares, and those of its flat form, are words.
use Rattle.std.proofs.Math.Nat.{min-le_left}
use Rattle.std.proofs.Common.{◌≡◌, ℕ, zero, suc, ◌+◌, ◌-◌, ◌^◌, ◌<◌, ◌≤◌, Bool, true, false, List, [], ◌∷◌, ◌++◌, length, Option, None, Some, Result, Ok, Err, All, refl, sym, ap, subst, ◌∙◌, arith}
use Rattle.std.specs.Prelude.{◌≢◌, ◌&&◌, not, nat_le, codes, decimal, IfOk}
use Rattle.std.specs.Char.{is_ascii_digit}
use Rattle.std.specs.List.{list_all}
use Rattle.std.proofs.lemmas.Bool.{false≢true, leb-true}
use Rattle.std.proofs.lemmas.List.Folds.{list_all-append}
use Rattle.std.proofs.lemmas.List.Elements.{All-append, All-cons, All-nil}
use Rattle.text_limits.specs.declared.Limits.{Limits}
use Rattle.letters_and_lassos.specs.declared.kinds.Kind.{Kind}
use Rattle.names_and_numbers.proofs.NumeralLemmas.{decimal_is_numeral, digits_are}
use Rattle.tlsf_tokens.specs.Words.{is_blank}
use Rattle.spec_faults.specs.declared.code.SpecCode.{SpecCode}
use Rattle.spec_faults.specs.declared.code.SpecCode.TheVariants.{TooManySignals}
use Rattle.spec_faults.specs.declared.code.SpecFault.{SpecFault}
use Rattle.tlsf_tokens.proofs.Cutting.{formed}
use Rattle.tlsf_syntax.specs.Tree.{Named, Declaration, Part, Written}
use Rattle.tlsf_syntax.specs.Lexemes.{Lexeme}
use Rattle.tlsf_syntax.specs.Texts.{DerivesDeclarations, of_no_declaration, of_single, of_bus, of_typed, DerivesParts, of_no_part, of_inputs, of_outputs, of_section, DerivesMain, of_main, DerivesText, of_text}
use Rattle.tlsf_values.specs.declared.work.Work.{Work}
use Rattle.tlsf_values.specs.Outcomes.{Outcome, gives, fails, go_on, choose}
use Rattle.tlsf_reader.specs.Parts.{inputs_of, outputs_of, text_of}
use Rattle.tlsf_syntax.specs.Text.{Text}
use Rattle.tlsf_expand.specs.Signals.{Extent, alone, wide, of_type, width_of, bits_in, extent_value, bit_name, bit_names, Declared, declared, declarations_value, Signals, most_behind, none_yet, signals_value, uneven_value, even_first}
use Rattle.tlsf_expand.specs.Sections.{sections_value, whole_value}
use Rattle.tlsf_expand.specs.Expansion.{Expanded, kind_of, expanded_as, expanded}
use Rattle.tlsf_expand.specs.declared.spec.Spec.{Spec as CodeSpec}
use Rattle.tlsf_expand.specs.FlatText.{FlatText, flat_in, spec_seen}
use Rattle.flat_text.specs.FlatNames.{IsOneWord, HasPlainNames, FlatNamesAreWords}
use Rattle.flat_text.specs.FlatOf.{IsFlatOf}
use Rattle.flat_text.proofs.NamesOfTokens.{all_weaker, blank_cases, not_true, one_word, NamesAre, token_names}

-- ---- the declared names

names_before : (P : List ℕ → Type 0) (ls ms : List Lexeme) → NamesAre P (ls ++ ms) → NamesAre P ls
names_before P [] ms h = tt
names_before P (l ∷ ls) ms h = (h.0, names_before P ls ms h.1)

names_behind : (P : List ℕ → Type 0) (ls ms : List Lexeme) → NamesAre P (ls ++ ms) → NamesAre P ms
names_behind P [] ms h = h
names_behind P (l ∷ ls) ms h = names_behind P ls ms h.1

-- each declared name is such
abbrev Declare : (List ℕ → Type 0) → List Declaration → Type 0
Declare P [] = Unit {0}
Declare P (d ∷ ds) = P d.word.name × Declare P ds

module _ (P : List ℕ → Type 0) where
  declarations : (ls : List Lexeme) (ds : List Declaration) → DerivesDeclarations ls ds → NamesAre P ls → Declare P ds
  declarations _ _ of_no_declaration h = tt
  declarations _ _ (of_single l semicolon ms ds i s rest) h = (h.0 i, declarations ms ds rest h.1.1)
  declarations _ _ (of_bus l before after semicolon ls ms t ds i b d a s rest) h = (h.0 i, declarations ms ds rest (names_behind P ls (after ∷ semicolon ∷ ms) h.1.1).1.1)
  declarations _ _ (of_typed t l semicolon ms ds it il s rest) h = (h.1.0 il, declarations ms ds rest h.1.1.1)

  record PartsDeclare (ps : List Part) : Type 0 where
    of_the_inputs : Declare P (inputs_of ps)
    of_the_outputs : Declare P (outputs_of ps)

  parts : (ls : List Lexeme) (ps : List Part) → DerivesParts ls ps → NamesAre P ls → PartsDeclare ps
  parts _ _ of_no_part h = record { of_the_inputs = tt; of_the_outputs = tt }
  parts _ _ (of_inputs l before after ls ms ds ps i b d a rest) h =
      let more = parts ms ps rest (names_behind P ls (after ∷ ms) h.1.1).1 in
      record { of_the_inputs = declarations ls ds d (names_before P ls (after ∷ ms) h.1.1); of_the_outputs = more.of_the_outputs }
  parts _ _ (of_outputs l before after ls ms ds ps i b d a rest) h =
      let more = parts ms ps rest (names_behind P ls (after ∷ ms) h.1.1).1 in
      record { of_the_inputs = more.of_the_inputs; of_the_outputs = declarations ls ds d (names_before P ls (after ∷ ms) h.1.1) }
  parts _ _ (of_section l before after s ls ms ts ps i b d a rest) h =
      let more = parts ms ps rest (names_behind P ls (after ∷ ms) h.1.1).1 in record { of_the_inputs = more.of_the_inputs; of_the_outputs = more.of_the_outputs }

  main_parts : (ls : List Lexeme) (ps : List Part) → DerivesMain ls ps → NamesAre P ls → PartsDeclare ps
  main_parts _ _ (of_main l before after ls ps i b d a) h = parts ls ps d (names_before P ls (after ∷ []) h.1.1)

  text_parts : (ls : List Lexeme) (w : Written) → DerivesText ls w → NamesAre P ls → PartsDeclare w.parts
  text_parts _ _ (of_text is gs ms w info global main) h = main_parts ms w.parts main (names_behind P (is ++ gs) ms h)

-- ---- the flat names

both_pass : (p : ℕ → Bool) (xs ys : List ℕ) → list_all p xs ≡ true → list_all p ys ≡ true → list_all p (xs ++ ys) ≡ true
both_pass p xs ys h g = list_all-append p xs ys ∙ ap (λ b. b && list_all p ys) h ∙ g

digit_no_blank : (b : ℕ) → is_ascii_digit b ≡ true → not (is_blank b) ≡ true
digit_no_blank b digit = not_true (is_blank b) (λ h. blank_cases (λ b. is_ascii_digit b ≡ true → ⊥) false≢true false≢true false≢true false≢true b h digit)

number_no_blank : (k : ℕ) → k < 2 ^ 64 → list_all (λ b. not (is_blank b)) (decimal k) ≡ true
number_no_blank k small =
    all_weaker is_ascii_digit (λ b. not (is_blank b)) digit_no_blank (decimal k) (digits_are (decimal k) ∙ (decimal_is_numeral k small).digits)

some_front : (b : ℕ) (xs ys : List ℕ) → (xs ≢ []) → (xs ++ ys) ≢ []
some_front b [] ys h e = h refl
some_front b (x ∷ xs) ys h e = let never : ⊥ = cc in never

bit_word : (name : List ℕ) (k : ℕ) → k < 2 ^ 64 → IsOneWord name → IsOneWord (bit_name name k)
bit_word name k few h =
    let p : ℕ → Bool = λ b. not (is_blank b) in
    one_word (bit_name name k) (some_front 0 (name ++ codes "[" ++ decimal k) (codes "]") (some_front 0 (name ++ codes "[") (decimal k) (some_front 0 name (codes "[") h.nonempty)))
    (both_pass p (name ++ codes "[" ++ decimal k) (codes "]")
    (both_pass p (name ++ codes "[") (decimal k) (both_pass p name (codes "[") h.no_blank refl) (number_no_blank k few)) refl)

bit_words : (name : List ℕ) (k n : ℕ) → k + n < 2 ^ 64 → IsOneWord name → All IsOneWord (bit_names name k n)
bit_words name k zero few h = All-nil IsOneWord
bit_words name k (suc n) few h =
    All-cons IsOneWord (bit_name name k) (bit_names name (k + 1) n) (bit_word name k (omega arith) h) (bit_words name (k + 1) n (omega arith) h)

declared_words : (word : Named) (number : ℕ) (extent : Extent) (d : Declared) → bits_in extent < 2 ^ 64 → IsOneWord word.name → All IsOneWord d.flat → All IsOneWord (declared word number extent d).flat
declared_words word number alone d few h all = All-append IsOneWord d.flat (word.name ∷ []) all (All-cons IsOneWord word.name [] h (All-nil IsOneWord))
declared_words word number (wide n) d few h all = All-append IsOneWord d.flat (bit_names word.name 0 n) all (bit_words word.name 0 n (omega arith) h)
declared_words word number (of_type values) d few h all =
    All-append IsOneWord d.flat (bit_names word.name 0 (width_of values)) all (bit_words word.name 0 (width_of values) (omega arith) h)

-- the outcome is refused, or gives such
data Gives {A : Type 0} (P : A → Type 0) : Outcome A → Type 0 where
  given : (a : A) (work : Work) → P a → Gives P (gives a work)
  refused : (code : SpecCode) (place : ℕ) → Gives P (fails code place)

gives_any : {A : Type 0} (o : Outcome A) → Gives (λ _. Unit {0}) o
gives_any (gives a work) = given a work tt
gives_any (fails code place) = refused code place

gives_go_on : {A B : Type 0} {P : A → Type 0} {o : Outcome A} (Q : B → Type 0) (f : A → Work → Outcome B) → Gives P o → ((a : A) (work : Work) → P a → Gives Q (f a work)) → Gives Q (go_on o f)
gives_go_on Q f (given a work p) next = next a work p
gives_go_on Q f (refused code place) next = refused code place

abbrev ArePlain : Declared → Type 0
ArePlain d = All IsOneWord d.flat

plain_chosen : (most : ℕ) → most < 2 ^ 64 → (b : Bool) (from : ℕ) (d : Declared) (x : Declaration) (extent : Extent) (work : Work) → nat_le (length d.flat + bits_in extent) most ≡ b → IsOneWord x.word.name → ArePlain d
    → Gives ArePlain (choose b (λ w. gives (declared x.word (from + length d.flat) extent d) w) (λ w. fails TooManySignals x.word.span.start) work)
plain_chosen most below true from d x extent work e h all =
    given _ work (declared_words x.word (from + length d.flat) extent d (let few : length d.flat + bits_in extent ≤ most = leb-true (length d.flat + bits_in extent) most e in omega arith) h all)
plain_chosen most below false from d x extent work e h all = refused _ _

plain_each : (most : ℕ) → most < 2 ^ 64 → (text : Text) (from : ℕ) (d : Declared) (xs : List Declaration) (work : Work) → Declare IsOneWord xs → ArePlain d → Gives ArePlain (declarations_value most text from d xs work)
plain_each most below text from d [] work h all = given d work all
plain_each most below text from d (x ∷ xs) work h all =
    gives_go_on ArePlain _
    (gives_go_on ArePlain _ (gives_any (extent_value text d.names x.shape work)) (λ extent w _. plain_chosen most below (nat_le (length d.flat + bits_in extent) most) from d x extent w refl h.0 all))
    (λ next w1 more. plain_each most below text from next xs w1 h.1 more)

record PlainSignals (s : Signals) : Type 0 where
  of_inputs : All IsOneWord s.inputs
  of_outputs : All IsOneWord s.outputs

few_behind : (limits : Limits) (before : ℕ) → limits.signals < 2 ^ 64 → most_behind limits before < 2 ^ 64
few_behind limits before below = let least = min-le_left limits.signals (limits.all_signals - before) in omega arith

signals_plain : (limits : Limits) → limits.signals < 2 ^ 64 → (text : Text) → Declare IsOneWord text.inputs → Declare IsOneWord text.outputs → (work : Work) → Gives PlainSignals (signals_value limits text work)
signals_plain limits below text ins outs work =
    gives_go_on PlainSignals _ (plain_each (most_behind limits 0) (few_behind limits 0 below) text 0 _ text.inputs work ins (All-nil IsOneWord)) (λ inputs w1 h1.
    gives_go_on PlainSignals _ (plain_each (most_behind limits (length inputs.flat)) (few_behind limits (length inputs.flat) below) text (length inputs.flat) (none_yet inputs.names) text.outputs w1 outs (All-nil IsOneWord)) (λ outputs w2 h2. given _ w2 (record { of_inputs = h1; of_outputs = h2 })))

even_plain : (o : Option ℕ) (s : Outcome Signals) → Gives PlainSignals s → Gives PlainSignals (even_first o s)
even_plain None s h = h
even_plain (Some place) s h = refused _ _

names_of_expanded : (limits : Limits) → limits.signals < 2 ^ 64 → (kind : Option Kind) (text : Text) → Declare IsOneWord text.inputs → Declare IsOneWord text.outputs → Gives HasPlainNames (expanded_as limits kind text)
names_of_expanded limits below None text ins outs = refused _ _
names_of_expanded limits below (Some kind) text ins outs =
    gives_go_on HasPlainNames _ (even_plain (uneven_value text.definitions) _ (signals_plain limits below text ins outs _)) (λ s w1 h.
    gives_go_on HasPlainNames _ (gives_any (sections_value s text.sections w1)) (λ sections w2 _.
    gives_go_on HasPlainNames _ (gives_any (whole_value text.info.strict sections w2)) (λ whole w3 _. given _ w3 (record { inputs_plain = h.of_inputs; outputs_plain = h.of_outputs }))))

plain_flat : (o : Outcome Expanded) (flat : FlatText) → Gives HasPlainNames o → flat_in o ≡ Some flat → HasPlainNames flat.expanded
plain_flat _ flat (given x work h) e =
    let same : ◌≡◌ {A = FlatText} (record { expanded = x; formulas = work.formulas }) flat = cc in subst (λ (f : FlatText). HasPlainNames f.expanded) same h
plain_flat _ flat (refused code place) e = absurd (let never : ⊥ = cc in never)

pub flat_names_are_words : FlatNamesAreWords
flat_names_are_words limits text kind tree flat below reads is =
    let lexed = reads.lexed.is in
    let names : NamesAre IsOneWord reads.lexed.lexemes =
    subst (NamesAre IsOneWord) (sym lexed.are) (token_names text lexed.tokens (formed text reads.lexed.stop reads.lexed.stop_at 0 lexed.tokens lexed.cut)) in
    let h = text_parts IsOneWord reads.lexed.lexemes reads.written reads.derived names in
    plain_flat (expanded limits tree kind) flat
    (subst (λ t. Gives HasPlainNames (expanded limits t kind)) (sym reads.is) (names_of_expanded limits below (kind_of kind (text_of reads.written)) (text_of reads.written) h.of_the_inputs h.of_the_outputs)) is

pub plain_names : (limits : Limits) → limits.signals < 2 ^ 64 → (text : List ℕ) (kind : Option Kind) (r : Result CodeSpec SpecFault) → IfOk r (λ spec. IsFlatOf limits text kind (spec_seen spec)) → IfOk r (λ spec. HasPlainNames (spec_seen spec).expanded)
plain_names limits below text kind (Err fault) h = tt
plain_names limits below text kind (Ok spec) h = flat_names_are_words limits text kind h.tree (spec_seen spec) below h.read h.expanded
