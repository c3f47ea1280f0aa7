-- The meaning of a written text on a lasso: the standard or the strict formula of TLSF 1.1 at position 0, of the truths of its
-- sections on the written tree.
use Rattle.std.specs.Prelude.{ℕ, Bool, true, false, not, ◌&&◌, List, []}
use Rattle.std.specs.List.{list_all}
use Rattle.text_limits.specs.declared.Limits.{Limits}
use Rattle.letters_and_lassos.specs.Word.{Word}
use Rattle.tlsf_syntax.specs.Tree.{Tree}
use Rattle.tlsf_values.specs.Outcomes.{Outcome, gives, fails}
use Rattle.tlsf_values.specs.Names.{Names}
use Rattle.tlsf_expand.specs.Senses.{implies, always, weakly, has_value}
use Rattle.tlsf_expand.specs.WrittenTruth.{true_at}
use Rattle.tlsf_syntax.specs.declared.sections.Sections.{Sections}
use Rattle.tlsf_syntax.specs.Text.{Text}
use Rattle.tlsf_expand.specs.Signals.{TypedSignal, Signals, signals_of}

-- each formula of a section is true at a position
abbrev pub all_true : Word → Names → List Tree → ℕ → Bool
all_true w names ts i = list_all (λ t. true_at w i names [] t 0) ts

-- each signal of a type has one of the type's values
abbrev pub all_typed : Word → List TypedSignal → ℕ → Bool
all_typed w signals i = list_all (λ s. has_value w s.first s.values i) signals

-- `e -> (s && ((G E && A) -> (G S && H)))`
abbrev pub standard : Word → Sections (ℕ → Bool) → Bool
standard w x = implies (x.initially 0) (x.preset 0 && implies (always w x.require 0 && x.assume 0) (always w x.assert 0 && x.guarantee 0))

-- `e -> (s && (S W !E) && ((G E && A) -> H))`
abbrev pub strict : Word → Sections (ℕ → Bool) → Bool
strict w x = implies (x.initially 0) ((x.preset 0 && weakly w x.assert (λ i. not (x.require i)) 0) && implies (always w x.require 0 && x.assume 0) (x.guarantee 0))

abbrev pub by_semantics : Bool → Word → Sections (ℕ → Bool) → Bool
by_semantics false w x = standard w x
by_semantics true w x = strict w x

-- the truths of the sections at each position, with those of signals of a type
abbrev pub section_truths : Word → Signals → Sections (List Tree) → Sections (ℕ → Bool)
section_truths w signals s = record {
  initially = all_true w signals.names s.initially;
  preset = all_true w signals.names s.preset;
  require = λ i. all_true w signals.names s.require i && all_typed w signals.typed_inputs i;
  assert = λ i. all_true w signals.names s.assert i && all_typed w signals.typed_outputs i;
  assume = all_true w signals.names s.assume;
  guarantee = all_true w signals.names s.guarantee;
}

abbrev pub means_with : Word → Text → Outcome Signals → Bool
means_with w text (gives signals work) = by_semantics text.info.strict w (section_truths w signals text.sections)
means_with w text (fails code place) = false

-- what the text says of a lasso; a text whose signals have a fault within these limits says nothing
abbrev pub means : Limits → Word → Text → Bool
means limits w text = means_with w text (signals_of limits text)
