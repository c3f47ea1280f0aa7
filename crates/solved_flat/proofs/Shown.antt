-- A formula in which shifted signals are shown with X is the formula as it is taken, written out.
use Rattle.std.proofs.Common.{◌≡◌, ℕ, ◌+◌, ◌-◌, ◌<◌, ◌≤◌, Bool, true, false, not, cond, ltb, List, [], ◌∷◌, ◌++◌, length, map, Option, None, Some, refl, sym, ap, ◌∙◌, arith, slice_index_or, codes, length-append}
use Rattle.std.proofs.lemmas.Bool.{ltb-false, ltb-true}
use Rattle.std.proofs.lemmas.List.{get_or-append_right, get_or-map, get_or_append_left, length-map}
use Rattle.ltl_formula.specs.Text.{formula_text, infix_text, prefixed}
use Rattle.ltl_formula.specs.Tree.{SignalsBelow, Tree}
use Rattle.ltl_formula.specs.Tree.Tree.{truth, falsity, signal, negation, next_time, finally, globally, conjunction, disjunction, implication, equivalence, until, release, weak_until}
use Rattle.kind_conversion.specs.declared.shifts.Shift.{Shift}
use Rattle.kind_conversion.specs.declared.shifts.Shift.TheVariants.{Inputs, Outputs}
use Rattle.kind_conversion.specs.ShiftedForm.{shifted_form}
use Rattle.kind_conversion.specs.Shifts.{is_shifted}
use Rattle.tlsf_expand.specs.Expansion.{Expanded}
use Rattle.flat_lines.specs.FlatLines.{all_names}
use Rattle.solved_flat.specs.Shown.{ShownFormulasAreTaken, shown_name, shown_names, takes_inputs, takes_outputs}

-- ---- the name of a signal

-- the shown name of a signal, by whether it is shifted
abbrev named : Bool → List (List ℕ) → ℕ → List ℕ
named b names s = shown_name b (slice_index_or names s [])

at_shown : (b : Bool) (names : List (List ℕ)) (s : ℕ) → s < length names → slice_index_or (map (shown_name b) names) s [] ≡ named b names s
at_shown b names s below = get_or-map (shown_name b) names s [] [] below

module _ (a b : Bool) (inputs outputs : List (List ℕ)) where
  abbrev both : List (List ℕ)
  both = map (shown_name a) inputs ++ map (shown_name b) outputs

  at_input : (s : ℕ) → s < length inputs → slice_index_or both s [] ≡ named a (inputs ++ outputs) s
  at_input s below =
      get_or_append_left (map (shown_name a) inputs) (map (shown_name b) outputs) [] s (omega (arith, length-map inputs (shown_name a), below))
      ∙ at_shown a inputs s below ∙ ap (shown_name a) (sym (get_or_append_left inputs outputs [] s below))

  at_output : (s : ℕ) → length inputs ≤ s → s < length inputs + length outputs → slice_index_or both s [] ≡ named b (inputs ++ outputs) s
  at_output s from below =
      get_or-append_right (map (shown_name a) inputs) (map (shown_name b) outputs) (length inputs) s [] (length-map inputs (shown_name a)) from
      ∙ at_shown b outputs (s - length inputs) (omega (arith, from, below))
      ∙ ap (shown_name b) (sym (get_or-append_right inputs outputs (length inputs) s [] refl from))

-- the shown name of a signal of the text
shown_at : (shift : Shift) (x : Expanded) (s : ℕ) → s < length x.inputs + length x.outputs
    → slice_index_or (shown_names (Some shift) x) s [] ≡ named (is_shifted shift (length x.inputs) s) (all_names x) s
shown_at Inputs x s below = by (ltb s (length x.inputs)) refl
  where
    by : (b : Bool) → ltb s (length x.inputs) ≡ b → slice_index_or (shown_names (Some Inputs) x) s [] ≡ named (ltb s (length x.inputs)) (all_names x) s
    by true e = at_input true false x.inputs x.outputs s (ltb-true s (length x.inputs) e) ∙ ap (λ b. named b (all_names x) s) (sym e)
    by false e = at_output true false x.inputs x.outputs s (ltb-false s (length x.inputs) e) below ∙ ap (λ b. named b (all_names x) s) (sym e)
shown_at Outputs x s below = by (ltb s (length x.inputs)) refl
  where
    by : (b : Bool) → ltb s (length x.inputs) ≡ b → slice_index_or (shown_names (Some Outputs) x) s [] ≡ named (not (ltb s (length x.inputs))) (all_names x) s
    by true e = at_input false true x.inputs x.outputs s (ltb-true s (length x.inputs) e) ∙ ap (λ b. named (not b) (all_names x) s) (sym e)
    by false e = at_output false true x.inputs x.outputs s (ltb-false s (length x.inputs) e) below ∙ ap (λ b. named (not b) (all_names x) s) (sym e)

-- ---- the text of a formula

module _ (shift : Shift) (x : Expanded) where
  abbrev shown : List (List ℕ)
  shown = shown_names (Some shift) x

  abbrev taken : Tree → List ℕ
  taken f = formula_text (all_names x) (shifted_form shift (length x.inputs) f)

  abbrev Same : Tree → Type 0
  Same f = formula_text shown f ≡ taken f

  signal_text : (b : Bool) (s : ℕ) → named b (all_names x) s ≡ formula_text (all_names x) (cond b (next_time (signal s)) (signal s))
  signal_text true s = refl
  signal_text false s = refl

  before : (word : List ℕ) (a : Tree) → Same a → prefixed word (formula_text shown a) ≡ prefixed word (taken a)
  before word a same = ap (prefixed word) same

  between : (word : List ℕ) (a b : Tree) → Same a → Same b → infix_text (formula_text shown a) word (formula_text shown b) ≡ infix_text (taken a) word (taken b)
  between word a b left right = ap (λ t. infix_text t word (formula_text shown b)) left ∙ ap (infix_text (taken a) word) right

  abbrev n : ℕ
  n = length x.inputs + length x.outputs

  text_shown : (f : Tree) → SignalsBelow n f → Same f
  text_shown truth below = refl
  text_shown falsity below = refl
  text_shown (signal s) below = shown_at shift x s below ∙ signal_text (is_shifted shift (length x.inputs) s) s
  text_shown (negation a) below = ap (λ t. codes "!" ++ t) (text_shown a below)
  text_shown (next_time a) below = before (codes "X") a (text_shown a below)
  text_shown (finally a) below = before (codes "F") a (text_shown a below)
  text_shown (globally a) below = before (codes "G") a (text_shown a below)
  text_shown (conjunction a b) below = between (codes "&&") a b (text_shown a below.0) (text_shown b below.1)
  text_shown (disjunction a b) below = between (codes "||") a b (text_shown a below.0) (text_shown b below.1)
  text_shown (implication a b) below = between (codes "->") a b (text_shown a below.0) (text_shown b below.1)
  text_shown (equivalence a b) below = between (codes "<->") a b (text_shown a below.0) (text_shown b below.1)
  text_shown (until a b) below = between (codes "U") a b (text_shown a below.0) (text_shown b below.1)
  text_shown (release a b) below = between (codes "R") a b (text_shown a below.0) (text_shown b below.1)
  text_shown (weak_until a b) below = between (codes "W") a b (text_shown a below.0) (text_shown b below.1)

-- where nothing is shifted, names are as they are
unshown : (names : List (List ℕ)) → map (shown_name false) names ≡ names
unshown [] = refl
unshown (name ∷ names) = ap (λ more. name ∷ more) (unshown names)

none_shown : (x : Expanded) → shown_names None x ≡ all_names x
none_shown x = ap (λ names. names ++ map (shown_name false) x.outputs) (unshown x.inputs) ∙ ap (λ names. x.inputs ++ names) (unshown x.outputs)

pub shown_formulas_are_taken : ShownFormulasAreTaken
shown_formulas_are_taken None x f below = ap (λ names. formula_text names f) (none_shown x)
shown_formulas_are_taken (Some shift) x f below = text_shown shift x f below

-- there are as many of them as of names
pub shown_many : (shift : Option Shift) (x : Expanded) → length (shown_names shift x) ≡ length (all_names x)
shown_many shift x =
    let inputs : List (List ℕ) = map (shown_name (takes_inputs shift)) x.inputs in
    let outputs : List (List ℕ) = map (shown_name (takes_outputs shift)) x.outputs in
    omega (arith, length-append inputs outputs, length-append x.inputs x.outputs, length-map x.inputs (shown_name (takes_inputs shift)), length-map x.outputs (shown_name (takes_outputs shift)))
