-- The signals of a text, at most as many as the limits say. The names, and the formulas of widths, speak of them alone.
use Rattle.std.proofs.Math.Nat.{min-le_left, min-le_right}
use Rattle.std.proofs.Common.{◌≡◌, ℕ, ◌+◌, ◌-◌, ◌≤◌, Bool, true, false, List, [], ◌∷◌, ◌++◌, length, Option, None, Some, refl, arith}
use Rattle.std.proofs.lemmas.Bool.{leb-true}
use Rattle.std.specs.Prelude.{◌==◌, ◌&&◌, nat_le, if◌then◌else◌, pos, negsuc}
use Rattle.text_limits.specs.declared.Limits.{Limits}
use Rattle.letters_and_lassos.specs.Word.{Word}
use Rattle.ltl_formula.specs.declared.nodes.Node.{Node}
use Rattle.ltl_formula.proofs.ListSignals.{HasSignalsBelow-more}
use Rattle.spec_faults.specs.declared.code.SpecCode.TheVariants.{TooManySignals, UnknownName, WrongSort}
use Rattle.tlsf_syntax.specs.Tree.{Named, Pattern, Definition, parameter, function, enumeration, Shape, single, bus, typed, Declaration}
use Rattle.tlsf_syntax.specs.Text.{Text}
use Rattle.tlsf_values.specs.declared.work.Work.{Work}
use Rattle.tlsf_values.specs.declared.value.Value.{Value}
use Rattle.tlsf_values.specs.declared.value.Value.TheVariants.{Number}
use Rattle.tlsf_values.specs.Outcomes.{gives, fails, Checked, fine, faulty, checked, choose}
use Rattle.tlsf_values.specs.Names.{Names, Meaning, known, a_signal, a_definition, an_enumeration, undeclared, same_name, without_names}
use Rattle.tlsf_values.specs.Patterns.{all_values, are_wide}
use Rattle.tlsf_values.specs.Values.{span_start}
use Rattle.tlsf_expand.specs.Signals.{values_in, or_those, values_named, width_of, other_width, first_of, uneven_in, uneven_value, Extent, alone, wide, of_type, bits_in, width_in, declares, type_in, extent_value, TypedSignal, Declared, declared, declarations_value, Signals, most_behind, none_yet, signals_value, even_first, work_within, signals_of}
use Rattle.tlsf_expand.proofs.Kept.{IsGood, Gives, Anyhow, gives_such, refuses, gives_go_on, Keeps, keeps_go_on, keeps_given, no_nodes}
use Rattle.tlsf_expand.proofs.Named.{HasPlainNames, names-more, plain_with_signal, plain_with_bus, plain_with_definitions, plain_without_names}
use Rattle.tlsf_expand.proofs.Valued.{FitFrom, wide_fit}
use Rattle.tlsf_expand.proofs.Evaluated.{keeps_value_at}
use Rattle.tlsf_expand.proofs.Laying.{length-declared}

-- ---- more signals

pub good-more : (m n : ℕ) (nodes : List Node) → m ≤ n → IsGood m nodes → IsGood n nodes
good-more m n nodes le h = record { list = h.list; below = HasSignalsBelow-more m n nodes le h.below }

fit-more : (m n first : ℕ) (ps : List Pattern) → m ≤ n → FitFrom m first ps → FitFrom n first ps
fit-more m n first [] le h = tt
fit-more m n first (p ∷ ps) le h = (let small : first + length p.bits ≤ m = h.0 in omega arith, fit-more m n first ps le h.1)

-- the values of each signal of a type fit
abbrev pub TypedFit : ℕ → List TypedSignal → Type 0
TypedFit n [] = Unit {0}
TypedFit n (t ∷ ts) = FitFrom n t.first t.values × TypedFit n ts

typed-more : (m n : ℕ) (ts : List TypedSignal) → m ≤ n → TypedFit m ts → TypedFit n ts
typed-more m n [] le h = tt
typed-more m n (t ∷ ts) le h = (fit-more m n t.first t.values le h.0, typed-more m n ts le h.1)

typed_append : (n : ℕ) (ts : List TypedSignal) (t : TypedSignal) → TypedFit n ts → FitFrom n t.first t.values → TypedFit n (ts ++ t ∷ [])
typed_append n [] t h fit = (fit, tt)
typed_append n (x ∷ ts) t h fit = (h.0, typed_append n ts t h.1 fit)

-- ---- the values of an enumeration are even

abbrev AreEven : List Pattern → Type 0
AreEven ps = are_wide (width_of ps) ps ≡ true

all_wide : (width : ℕ) (ps : List Pattern) → other_width width ps ≡ None → are_wide width ps ≡ true
all_wide width [] e = refl
all_wide width (p ∷ ps) e = by (λ rest. all_wide width ps rest) (length p.bits == width) e
  where
    by : (other_width width ps ≡ None → are_wide width ps ≡ true) → (b : Bool) → (if b then other_width width ps else Some p.span.start) ≡ None → (b && are_wide width ps) ≡ true
    by others true e = others e
    by others false e = absurd (let never : ⊥ = cc in never)

first_none : (a b : Option ℕ) → first_of a b ≡ None → (a ≡ None) × (b ≡ None)
first_none None b e = (refl, e)
first_none (Some k) b e = absurd (let never : ⊥ = cc in never)

abbrev EvenIn : Option (List Pattern) → Type 0
EvenIn None = Unit {0}
EvenIn (Some ps) = AreEven ps

values_even : (name : List ℕ) (ds : List Definition) → uneven_value ds ≡ None → AreEven (values_named name ds)
values_even name [] e = refl
values_even name (d ∷ ds) e =
    let both : (uneven_in d ≡ None) × (uneven_value ds ≡ None) = first_none (uneven_in d) (uneven_value ds) e in
    by (values_in name d) (own d both.0) (values_even name ds both.1)
  where
    own : (d : Definition) → uneven_in d ≡ None → EvenIn (values_in name d)
    own (parameter word t) e = tt
    own (function word arguments body) e = tt
    own (enumeration word ms) e = named_so (same_name word.name name)
      where
        named_so : (b : Bool) → EvenIn (if b then Some (all_values ms) else None)
        named_so true = all_wide (width_of (all_values ms)) (all_values ms) e
        named_so false = tt

    by : (o : Option (List Pattern)) → EvenIn o → AreEven (values_named name ds) → AreEven (or_those o (values_named name ds))
    by None h rest = rest
    by (Some ps) h rest = h

-- a type's values are all of its width
abbrev IsEven : Extent → Type 0
IsEven alone = Unit {0}
IsEven (wide n) = Unit {0}
IsEven (of_type values) = AreEven values

abbrev IsEvenChecked : Checked Extent → Type 0
IsEvenChecked (fine extent) = IsEven extent
IsEvenChecked (faulty code place) = Unit {0}

width_even : (place : ℕ) (v : Value) → IsEvenChecked (width_in place v)
width_even place (Number (pos k)) = tt
width_even place (Number (negsuc k)) = tt
width_even place _ = tt

keeps_checked_extent : {top : ℕ} (c : Checked Extent) (work : Work) → IsGood top work.formulas → IsEvenChecked c → Keeps top work.formulas (λ extent nodes. IsEven extent) (checked c (λ extent w. gives extent w) work)
keeps_checked_extent (fine extent) work good even = keeps_given _ extent work good even
keeps_checked_extent (faulty code place) work good even = refuses _ _

-- ---- declarations

-- the signals declared so far, after those of `from`, are all that there are
record IsDeclared (most from : ℕ) (d : Declared) (nodes : List Node) : Type 0 where
  few : length d.flat ≤ most
  good : IsGood (from + length d.flat) nodes
  plain : HasPlainNames (from + length d.flat) d.names
  typed_fit : TypedFit (from + length d.flat) d.typed

-- the text's signals are all that there are
pub record AreSignals (limits : Limits) (s : Signals) (nodes : List Node) : Type 0 where
  pub few_inputs : length s.inputs ≤ limits.signals
  pub few_outputs : length s.outputs ≤ limits.signals
  pub few_signals : length s.inputs + length s.outputs ≤ limits.all_signals
  pub good : IsGood (length s.inputs + length s.outputs) nodes
  pub plain : HasPlainNames (length s.inputs + length s.outputs) s.names
  pub inputs_fit : TypedFit (length s.inputs + length s.outputs) s.typed_inputs
  pub outputs_fit : TypedFit (length s.inputs + length s.outputs) s.typed_outputs

-- so many signals behind so many others keep to both limits
within_most : (limits : Limits) (before n : ℕ) → n ≤ most_behind limits before → (n ≤ limits.signals) × (n ≤ limits.all_signals - before)
within_most limits before n h =
    let one = min-le_left limits.signals (limits.all_signals - before) in
    let other = min-le_right limits.signals (limits.all_signals - before) in
    (omega (arith, one, h), omega (arith, other, h))

-- any word will do: what is kept here doesn't speak of it
pub any_word : Word
any_word = record { stem = []; ring = [] }

module _ (most : ℕ) (text : Text) (even : uneven_value text.definitions ≡ None) where
  type_even : (word : Named) (x : Meaning) → IsEvenChecked (type_in text word x)
  type_even word an_enumeration = values_even word.name text.definitions even
  type_even word undeclared = by (declares word.name text.inputs) (declares word.name text.outputs)
    where
      by : (b c : Bool) → IsEvenChecked (if b then faulty WrongSort word.span.start else (if c then faulty WrongSort word.span.start else faulty UnknownName word.span.start))
      by true c = tt
      by false true = tt
      by false false = tt
  type_even word (known v) = tt
  type_even word (a_signal k) = tt
  type_even word (a_definition words body) = tt

  keeps_extent : {top : ℕ} (names : Names) → HasPlainNames top names → (shape : Shape) (work : Work) → IsGood top work.formulas
      → Keeps top work.formulas (λ extent nodes. IsEven extent) (extent_value text names shape work)
  keeps_extent names plain single work good = keeps_given _ alone work good tt
  keeps_extent names plain (bus t) work good =
      keeps_go_on _ _ (keeps_value_at any_word names plain t 0 work good) (λ v work1 good1 grows1 h. keeps_checked_extent (width_in (span_start t) v) work1 good1 (width_even (span_start t) v))
  keeps_extent names plain (typed word) work good = keeps_checked_extent (type_in text word (names.means word.name)) work good (type_even word (names.means word.name))

  plain_declared : (m : ℕ) (word : Named) (extent : Extent) (d : Declared) → HasPlainNames m d.names → HasPlainNames (m + bits_in extent) (declared word m extent d).names
  plain_declared m word alone d has = plain_with_signal d.names word.name m (omega arith) (names-more m (m + 1) d.names (omega arith) has)
  plain_declared m word (wide k) d has = plain_with_bus d.names word.name m k (omega arith) (names-more m (m + k) d.names (omega arith) has)
  plain_declared m word (of_type values) d has = plain_with_bus d.names word.name m (width_of values) (omega arith) (names-more m (m + width_of values) d.names (omega arith) has)

  typed_declared : (m : ℕ) (word : Named) (extent : Extent) (d : Declared) → IsEven extent → TypedFit m d.typed → TypedFit (m + bits_in extent) (declared word m extent d).typed
  typed_declared m word alone d is h = typed-more m (m + 1) d.typed (omega arith) h
  typed_declared m word (wide k) d is h = typed-more m (m + k) d.typed (omega arith) h
  typed_declared m word (of_type values) d is h =
      let n = m + width_of values in typed_append n d.typed _ (typed-more m n d.typed (omega arith) h) (wide_fit n m (width_of values) values (omega arith) is)

  one_declared : (from : ℕ) (d : Declared) (word : Named) (extent : Extent) (before nodes : List Node) → IsDeclared most from d before → IsGood (from + length d.flat) nodes → IsEven extent
      → length d.flat + bits_in extent ≤ most → IsDeclared most from (declared word (from + length d.flat) extent d) nodes
  one_declared from d word extent before nodes h good is few =
      let m = from + length d.flat in
      let long : length (declared word m extent d).flat ≡ length d.flat + bits_in extent = length-declared word m extent d in
      let more : m + bits_in extent ≤ from + length (declared word m extent d).flat = omega arith in
      record {
        few = omega arith;
        good = good-more m (from + length (declared word m extent d).flat) nodes (omega arith) good;
        plain = names-more (m + bits_in extent) _ _ more (plain_declared m word extent d h.plain);
        typed_fit = typed-more (m + bits_in extent) _ _ more (typed_declared m word extent d is h.typed_fit);
      }

  declares_chosen : (from : ℕ) (d : Declared) (before : List Node) (x : Declaration) (extent : Extent) (work : Work) → IsDeclared most from d before → IsGood (from + length d.flat) work.formulas → IsEven extent
      → (b : Bool) → nat_le (length d.flat + bits_in extent) most ≡ b
      → Gives Anyhow (IsDeclared most from) (choose b (λ w. gives (declared x.word (from + length d.flat) extent d) w) (λ w. fails TooManySignals x.word.span.start) work)
  declares_chosen from d before x extent work h good is true e =
      gives_such _ work (one_declared from d x.word extent before work.formulas h good is (leb-true (length d.flat + bits_in extent) most e))
  declares_chosen from d before x extent work h good is false e = refuses _ _

  declares_each : (from : ℕ) (d : Declared) (xs : List Declaration) (work : Work) → IsDeclared most from d work.formulas → Gives Anyhow (IsDeclared most from) (declarations_value most text from d xs work)
  declares_each from d [] work h = gives_such d work h
  declares_each from d (x ∷ xs) work h =
      gives_go_on _ (IsDeclared most from)
      (gives_go_on _ (IsDeclared most from) (keeps_extent d.names h.plain x.shape work h.good) (λ extent w k.
      declares_chosen from d work.formulas x extent w h k.good k.is (nat_le (length d.flat + bits_in extent) most) refl))
      (λ next w1 h1. declares_each from next xs w1 h1)

  none_declared : (m from : ℕ) (names : Names) (nodes : List Node) → m ≤ from → IsGood m nodes → HasPlainNames m names → IsDeclared most from (none_yet names) nodes
  none_declared m from names nodes le good plain =
      record { few = omega arith; good = good-more m (from + 0) nodes (omega arith) good; plain = names-more m (from + 0) names (omega arith) plain; typed_fit = tt }

module _ (limits : Limits) (text : Text) (even : uneven_value text.definitions ≡ None) where
  gives_signals_value : (work : Work) → IsGood 0 work.formulas → Gives Anyhow (AreSignals limits) (signals_value limits text work)
  gives_signals_value work good =
      gives_go_on _ (AreSignals limits) (declares_each (most_behind limits 0) text even 0 _ text.inputs work (none_declared (most_behind limits 0) text even 0 0 _ work.formulas (omega arith) good (plain_with_definitions without_names text.definitions plain_without_names))) (λ inputs w1 h.
      let n = length inputs.flat in
      gives_go_on _ (AreSignals limits) (declares_each (most_behind limits n) text even n (none_yet inputs.names) text.outputs w1 (none_declared (most_behind limits n) text even (0 + n) n inputs.names w1.formulas (omega arith) h.good h.plain)) (λ outputs w2 g.
      let inputs_few = within_most limits 0 n h.few in
      let outputs_few = within_most limits n (length outputs.flat) g.few in
      gives_such _ w2 (record {
        few_inputs = inputs_few.0;
        few_outputs = outputs_few.0;
        few_signals = let i = inputs_few.1 in let o = outputs_few.1 in omega arith;
        good = g.good;
        plain = g.plain;
        inputs_fit = typed-more (0 + n) (n + length outputs.flat) inputs.typed (omega arith) h.typed_fit;
        outputs_fit = g.typed_fit;
      })))

pub gives_signals : (limits : Limits) (text : Text) → Gives Anyhow (AreSignals limits) (signals_of limits text)
gives_signals limits text = by (uneven_value text.definitions) refl
  where
    by : (o : Option ℕ) → uneven_value text.definitions ≡ o → Gives Anyhow (AreSignals limits) (even_first o (signals_value limits text (work_within limits)))
    by None e = gives_signals_value limits text e (work_within limits) (no_nodes 0)
    by (Some place) e = refuses _ _
