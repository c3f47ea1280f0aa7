-- Expansion keeps what it gives within wider limits.
use Rattle.std.proofs.Common.{◌≡◌, ℕ, ◌+◌, ◌-◌, ◌≤◌, Bool, true, false, List, [], ◌∷◌, length, Option, None, Some, refl, arith}
use Rattle.std.proofs.Math.Nat.{min-le_left, min-le_right, le-min}
use Rattle.text_limits.specs.declared.Limits.{Limits}
use Rattle.letters_and_lassos.specs.Word.{Word}
use Rattle.letters_and_lassos.specs.declared.kinds.Kind.{Kind}
use Rattle.ltl_formula.specs.declared.nodes.FormulaId.{FormulaId}
use Rattle.ltl_formula.specs.declared.nodes.Node.{Node}
use Rattle.ltl_formula.specs.declared.nodes.Node.TheVariants as node
use Rattle.tlsf_syntax.specs.Tree.{Tree, Shape, single, bus, typed, Declaration}
use Rattle.tlsf_syntax.specs.Text.{Text}
use Rattle.tlsf_syntax.specs.declared.sections.Sections.{Sections}
use Rattle.tlsf_values.specs.declared.work.Work.{Work}
use Rattle.tlsf_values.specs.Outcomes.{Outcome, gives, fails, go_on, made}
use Rattle.tlsf_values.specs.Names.{Names, with_definitions, without_names}
use Rattle.tlsf_values.specs.Values.{span_start}
use Rattle.tlsf_values.specs.SectionValues.{section_value}
use Rattle.tlsf_expand.specs.Signals.{TypedSignal, Signals, Declared, width_in, type_in, extent_value, bits_in, declaration_value, declarations_value, most_behind, none_yet, signals_value, uneven_value, even_first, signals_of}
use Rattle.tlsf_expand.specs.Sections.{in_order, added_value, sections_value, joined_more, conjoined, standard_value, strict_value, whole_value}
use Rattle.tlsf_expand.specs.Expansion.{Expanded, kind_of, expanded_as, expanded, fault_in, flat_fault}
use Rattle.tlsf_expand.specs.FlatText.{flat_in}
use Rattle.tlsf_expand.specs.Meaning.{means_with}
use Rattle.limit_laws.specs.Wider.{AreWider}
use Rattle.limit_laws.specs.Laws.{IsSameText}
use Rattle.limit_laws.proofs.Kept.{Kept, Keeps, same_given, refused_first, kept_go_on, kept_checked, kept_within, kept_made}
use Rattle.limit_laws.proofs.Operated.{kept_values_made}
use Rattle.limit_laws.proofs.Evaluated.{kept_section_value, kept_value_at}

module _ (small large : Limits) (wider : AreWider small large) where
  abbrev Stays : {A : Type 0} → (Work → Outcome A) → Type 0
  Stays f = Keeps small large f

  makes : (n : Node) → Stays (made 0 n)
  makes = kept_made small large wider 0

  -- ---- signals

  kept_extent_value : (text : Text) (names : Names) (shape : Shape) → Stays (extent_value text names shape)
  kept_extent_value text names single = same_given _
  kept_extent_value text names (bus t) = λ done nodes.
      kept_go_on _ _ (kept_value_at small large wider names [] t 0 done nodes) (λ v done nodes. kept_checked (width_in (span_start t) v) _ _ _ _ (λ extent. same_given extent done nodes))
  kept_extent_value text names (typed word) = λ done nodes. kept_checked (type_in text word (names.means word.name)) _ _ _ _ (λ extent. same_given extent done nodes)

  module _ (few many : ℕ) (more : few ≤ many) (text : Text) (from : ℕ) where
    kept_declaration_value : (d : Declared) (x : Declaration) (done : ℕ) (nodes : List Node)
        → Kept small large (declaration_value few text from d x (record { limits = small; done = done; formulas = nodes })) (declaration_value many text from d x (record { limits = large; done = done; formulas = nodes }))
    kept_declaration_value d x done nodes =
        kept_go_on _ _ (kept_extent_value text d.names x.shape done nodes) (λ extent done nodes.
        kept_within (length d.flat + bits_in extent) few many more _ _ _ _ _ _ _ (same_given _ done nodes))

    kept_declarations_value : (d : Declared) (xs : List Declaration) (done : ℕ) (nodes : List Node)
        → Kept small large (declarations_value few text from d xs (record { limits = small; done = done; formulas = nodes })) (declarations_value many text from d xs (record { limits = large; done = done; formulas = nodes }))
    kept_declarations_value d [] = same_given d
    kept_declarations_value d (x ∷ xs) = λ done nodes. kept_go_on _ _ (kept_declaration_value d x done nodes) (λ d. kept_declarations_value d xs)

  more_behind : (before : ℕ) → most_behind small before ≤ most_behind large before
  more_behind before =
      let one = min-le_left small.signals (small.all_signals - before) in
      let other = min-le_right small.signals (small.all_signals - before) in
      let signals = wider.signals in
      let all = wider.all_signals in
      le-min (omega arith) (omega arith)

  kept_signals_value : (text : Text) (done : ℕ) (nodes : List Node)
      → Kept small large (signals_value small text (record { limits = small; done = done; formulas = nodes })) (signals_value large text (record { limits = large; done = done; formulas = nodes }))
  kept_signals_value text done nodes =
      kept_go_on _ _ (kept_declarations_value _ _ (more_behind 0) text 0 (none_yet (with_definitions without_names text.definitions)) text.inputs done nodes) (λ inputs done nodes.
      kept_go_on _ _ (kept_declarations_value _ _ (more_behind (length inputs.flat)) text (length inputs.flat) (none_yet inputs.names) text.outputs done nodes) (λ outputs. same_given _))

  kept_even_first : (uneven : Option ℕ) (o p : Outcome Signals) → Kept small large o p → Kept small large (even_first uneven o) (even_first uneven p)
  kept_even_first None o p h = h
  kept_even_first (Some place) o p h = refused_first _ _ _

  kept_signals_of : (text : Text) → Kept small large (signals_of small text) (signals_of large text)
  kept_signals_of text = kept_even_first (uneven_value text.definitions) _ _ (kept_signals_value text 0 [])

  -- ---- sections

  kept_in_order : {A B : Type 0} (f : A → Work → Outcome B) → ((a : A) → Stays (f a)) → (s : Sections A) → Stays (in_order f s)
  kept_in_order f each s done nodes =
      kept_go_on _ _ (each s.initially done nodes) (λ initially done nodes. kept_go_on _ _ (each s.preset done nodes) (λ preset done nodes. kept_go_on _ _ (each s.require done nodes) (λ require done nodes.
      kept_go_on _ _ (each s.assert done nodes) (λ assert done nodes. kept_go_on _ _ (each s.assume done nodes) (λ assume done nodes. kept_go_on _ _ (each s.guarantee done nodes) (λ guarantee.
      same_given _))))))

  kept_added_value : (ts : List TypedSignal) → Stays (added_value ts)
  kept_added_value [] = same_given []
  kept_added_value (t ∷ ts) = λ done nodes.
      kept_go_on _ _ (kept_values_made small large wider t.place t.first t.values None done nodes) (λ id done nodes. kept_go_on _ _ (kept_added_value ts done nodes) (λ ids. same_given (id ∷ ids)))

  kept_sections_value : (signals : Signals) (s : Sections (List Tree)) → Stays (sections_value signals s)
  kept_sections_value signals s done nodes =
      kept_go_on _ _ (kept_in_order (section_value signals.names) (kept_section_value small large wider signals.names) s done nodes) (λ written done nodes.
      kept_go_on _ _ (kept_added_value signals.typed_inputs done nodes) (λ of_inputs done nodes. kept_go_on _ _ (kept_added_value signals.typed_outputs done nodes) (λ of_outputs. same_given _)))

  -- ---- the whole

  kept_joined_more : (so_far : FormulaId) (ids : List FormulaId) → Stays (joined_more so_far ids)
  kept_joined_more so_far [] = same_given so_far
  kept_joined_more so_far (id ∷ ids) = λ done nodes. kept_go_on _ _ (makes (node.And so_far id) done nodes) (λ both. kept_joined_more both ids)

  kept_conjoined : (ids : List FormulaId) → Stays (conjoined ids)
  kept_conjoined [] = makes node.True
  kept_conjoined (id ∷ ids) = kept_joined_more id ids

  kept_standard_value : (x : Sections (List FormulaId)) → Stays (standard_value x)
  kept_standard_value x done nodes =
      kept_go_on _ _ (kept_conjoined x.initially done nodes) (λ e done nodes. kept_go_on _ _ (kept_conjoined x.preset done nodes) (λ s done nodes.
      kept_go_on _ _ (kept_conjoined x.require done nodes) (λ E done nodes. kept_go_on _ _ (makes (node.Globally E) done nodes) (λ always_E done nodes.
      kept_go_on _ _ (kept_conjoined x.assume done nodes) (λ A done nodes. kept_go_on _ _ (makes (node.And always_E A) done nodes) (λ given done nodes.
      kept_go_on _ _ (kept_conjoined x.assert done nodes) (λ S done nodes. kept_go_on _ _ (makes (node.Globally S) done nodes) (λ always_S done nodes.
      kept_go_on _ _ (kept_conjoined x.guarantee done nodes) (λ H done nodes. kept_go_on _ _ (makes (node.And always_S H) done nodes) (λ owed done nodes.
      kept_go_on _ _ (makes (node.Implies given owed) done nodes) (λ kept done nodes. kept_go_on _ _ (makes (node.And s kept) done nodes) (λ all.
      makes (node.Implies e all)))))))))))))

  kept_strict_value : (x : Sections (List FormulaId)) → Stays (strict_value x)
  kept_strict_value x done nodes =
      kept_go_on _ _ (kept_conjoined x.initially done nodes) (λ e done nodes. kept_go_on _ _ (kept_conjoined x.preset done nodes) (λ s done nodes.
      kept_go_on _ _ (kept_conjoined x.assert done nodes) (λ S done nodes. kept_go_on _ _ (kept_conjoined x.require done nodes) (λ E done nodes.
      kept_go_on _ _ (makes (node.Not E) done nodes) (λ broken done nodes. kept_go_on _ _ (makes (node.WeakUntil S broken) done nodes) (λ until_broken done nodes.
      kept_go_on _ _ (makes (node.And s until_broken) done nodes) (λ both done nodes. kept_go_on _ _ (makes (node.Globally E) done nodes) (λ always_E done nodes.
      kept_go_on _ _ (kept_conjoined x.assume done nodes) (λ A done nodes. kept_go_on _ _ (makes (node.And always_E A) done nodes) (λ given done nodes.
      kept_go_on _ _ (kept_conjoined x.guarantee done nodes) (λ H done nodes. kept_go_on _ _ (makes (node.Implies given H) done nodes) (λ kept done nodes.
      kept_go_on _ _ (makes (node.And both kept) done nodes) (λ all. makes (node.Implies e all))))))))))))))

  kept_whole_value : (strict : Bool) (x : Sections (List FormulaId)) → Stays (whole_value strict x)
  kept_whole_value false x = kept_standard_value x
  kept_whole_value true x = kept_strict_value x

  -- ---- a text

  kept_expanded_as : (kind : Option Kind) (text : Text) → Kept small large (expanded_as small kind text) (expanded_as large kind text)
  kept_expanded_as None text = refused_first _ _ _
  kept_expanded_as (Some kind) text =
      kept_go_on _ _ (kept_signals_of text) (λ signals done nodes. kept_go_on _ _ (kept_sections_value signals text.sections done nodes) (λ sections done nodes.
      kept_go_on _ _ (kept_whole_value text.info.strict sections done nodes) (λ whole. same_given _)))

  same_flat : (o p : Outcome Expanded) → Kept small large o p → fault_in o ≡ None → (fault_in p ≡ None) × (flat_in p ≡ flat_in o)
  same_flat _ _ (same_given x done nodes) sound = (refl, refl)
  same_flat _ _ (refused_first code place p) sound = cc

  no_fault_before : {A : Type 0} (o : Outcome A) (f : A → Work → Outcome Expanded) → fault_in (go_on o f) ≡ None → fault_in o ≡ None
  no_fault_before (gives a w) f sound = refl
  no_fault_before (fails code place) f sound = cc

  signals_sound : (kind : Option Kind) (text : Text) → fault_in (expanded_as small kind text) ≡ None → fault_in (signals_of small text) ≡ None
  signals_sound None text sound = cc
  signals_sound (Some kind) text sound = no_fault_before (signals_of small text) _ sound

  same_meaning : (w : Word) (text : Text) (o p : Outcome Signals) → Kept small large o p → fault_in o ≡ None → means_with w text p ≡ means_with w text o
  same_meaning w text _ _ (same_given signals done nodes) sound = refl
  same_meaning w text _ _ (refused_first code place p) sound = cc

  pub same_text : (text : Text) (kind : Option Kind) → flat_fault small text kind ≡ None → IsSameText small large text kind
  same_text text kind sound =
      let same = same_flat (expanded small text kind) (expanded large text kind) (kept_expanded_as (kind_of kind text) text) sound in
      record {
        no_fault = same.0;
        flat = same.1;
        meaning = λ w. same_meaning w text (signals_of small text) (signals_of large text) (kept_signals_of text) (signals_sound (kind_of kind text) text sound);
      }
