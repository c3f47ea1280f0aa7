-- A text without a first fault is taken within the larger limits, and wants the same.
use Rattle.std.proofs.Common.{◌≡◌, ℕ, List, length, Option, None, Some, inl, inr, ◌⊎◌, refl, sym, ap, subst, ◌∙◌, arith}
use Rattle.letters_and_lassos.specs.Word.{Word}
use Rattle.letters_and_lassos.specs.declared.kinds.Kind.{Kind}
use Rattle.letters_and_lassos.specs.declared.kinds.Kind.TheVariants.{Mealy, Moore}
use Rattle.spec_faults.specs.declared.code.SpecCode.{SpecCode}
use Rattle.spec_faults.specs.declared.code.SpecCode.TheVariants.{TooManyNodes}
use Rattle.text_limits.specs.declared.TheConstants.{LARGE_LIMITS, SMALL_LIMITS}
use Rattle.kind_conversion.specs.Shifts.{shift_of}
use Rattle.satisfaction.specs.Wanted.{Wanted}
use Rattle.tlsf_syntax.specs.Text.{Text}
use Rattle.tlsf_reader.specs.Reads.{Reads, TreesAreDetermined}
use Rattle.tlsf_values.specs.Outcomes.{Outcome, gives, fails}
use Rattle.tlsf_expand.specs.Expansion.{Expanded, Fault, common_kind, kind_of, expanded_as, expanded, fault_in, flat_fault}
use Rattle.tlsf_expand.specs.FlatText.{FlatText, flat_in}
use Rattle.tlsf_expand.specs.Laws.{ExpansionKeepsMeaning}
use Rattle.tlsf_expand.specs.Meaning.{means}
use Rattle.tlsf_expand.specs.Results.{KeepsMeaning}
use Rattle.flat_text.specs.FlatOf.{IsFlatOf, of_reading as flat_of_reading, of_expansion as flat_of_expansion}
use Rattle.spec_problems.specs.OfFormula.{no_room}
use Rattle.spec_problems.specs.OfText.{IsFirstFault, of_text, of_problems}
use Rattle.text_ground.specs.Ground.{IsWantedBy}
use Rattle.solve_ground.specs.Forms.{forms_of, forms_taken}
use Rattle.solve_ground.specs.SolveText.{IsSolveFault, of_reading, of_expansion, of_forms}
use Rattle.solve_ground.specs.Taken.{IsTakenAs, spoken_word, taken_kind, taken_shift}
use Rattle.solve_ground.proofs.Whole.{kind_in}
use Rattle.limit_laws.specs.Wider.{AreWider}
use Rattle.limit_laws.specs.Laws.{IsSameText}
use Rattle.limit_laws.specs.Taken.{IsSameWanted}
use Rattle.limit_laws.proofs.Expanded.{same_text}
use Rattle.limit_laws.proofs.BothFit.{none_fit, one_not}

small_within_large : AreWider SMALL_LIMITS LARGE_LIMITS
small_within_large = record { signals = omega arith; all_signals = omega arith; nodes = omega arith }

-- ---- kinds

-- two kinds that are one
one_kind : (a b : Kind) → (common_kind a b ≡ None) ⊎ ((common_kind a b ≡ Some b) × (shift_of a b ≡ None))
one_kind Mealy Mealy = inr (refl, refl)
one_kind Moore Moore = inr (refl, refl)
one_kind Mealy Moore = inl refl
one_kind Moore Mealy = inl refl

-- where a text is expanded, its kind is the one that is taken, and nothing is shifted
record IsPlain (given : Option Kind) (tree : Text) : Type 0 where
  kind : kind_of given tree ≡ Some (taken_kind given tree)
  shift : taken_shift given tree ≡ None

no_kind : (tree : Text) → fault_in (expanded_as SMALL_LIMITS None tree) ≡ None → ⊥
no_kind tree sound = cc

plain : (given : Option Kind) (tree : Text) → flat_fault SMALL_LIMITS tree given ≡ None → IsPlain given tree
plain (Some kind) tree sound = record { kind = refl; shift = refl }
plain None tree sound =
    elim (one_kind tree.info.semantics tree.info.target) [
      | inl none ↦ absurd (no_kind tree (subst (λ k. fault_in (expanded_as SMALL_LIMITS k tree) ≡ None) none sound))
      | inr both ↦ record { kind = both.0; shift = both.1 }
    ]

-- ---- a text that is expanded within the smaller limits

keeps_meaning : ExpansionKeepsMeaning → (tree : Text) (given : Option Kind) (flat : FlatText) (o : Outcome Expanded) → expanded SMALL_LIMITS tree given ≡ o → flat_in o ≡ Some flat → KeepsMeaning SMALL_LIMITS tree flat.formulas flat.expanded.whole
keeps_meaning law tree given flat (fails code place) is none = cc
keeps_meaning law tree given flat (gives x work) is some =
    let same : (let f : FlatText = record { expanded = x; formulas = work.formulas } in f) ≡ flat = cc in
    subst (λ (f : FlatText). KeepsMeaning SMALL_LIMITS tree f.formulas f.expanded.whole) same
    (record { stands = law.stands SMALL_LIMITS tree given x work is; same = law.meaning SMALL_LIMITS tree given x work is })

sound_where : (o : Outcome Expanded) (flat : FlatText) → flat_in o ≡ Some flat → fault_in o ≡ None
sound_where (gives x work) flat is = refl
sound_where (fails code place) flat is = cc

module _ (given : Option Kind) (tree : Text) (sound : flat_fault SMALL_LIMITS tree given ≡ None) where
  same_within : IsSameText SMALL_LIMITS LARGE_LIMITS tree given
  same_within = same_text SMALL_LIMITS LARGE_LIMITS small_within_large tree given sound

  -- under the kind that is taken
  as_taken : {A : Type 0} (f : Outcome Expanded → A) → f (expanded LARGE_LIMITS tree (Some (taken_kind given tree))) ≡ f (expanded LARGE_LIMITS tree given)
  as_taken f = ap (λ k. f (expanded_as LARGE_LIMITS k tree)) (sym (plain given tree sound).kind)

  pub sound_taken : flat_fault LARGE_LIMITS tree (Some (taken_kind given tree)) ≡ None
  sound_taken = as_taken fault_in ∙ same_within.no_fault

  pub flat_taken : flat_in (expanded LARGE_LIMITS tree (Some (taken_kind given tree))) ≡ flat_in (expanded SMALL_LIMITS tree given)
  flat_taken = as_taken flat_in ∙ same_within.flat

  pub meaning_taken : (inputs : ℕ) (w : Word) → means LARGE_LIMITS (spoken_word (taken_shift given tree) inputs w) tree ≡ means SMALL_LIMITS w tree
  meaning_taken inputs w = ap (λ s. means LARGE_LIMITS (spoken_word s inputs w) tree) (plain given tree sound).shift ∙ same_within.meaning w

-- ---- no fault

module _ (keeps : ExpansionKeepsMeaning) (text : List ℕ) (given : Option Kind) (no_first : (code : SpecCode) (place : ℕ) → IsFirstFault text given code place → ⊥) where
  sound_text : (tree : Text) → Reads text tree → (o : Option Fault) → flat_fault SMALL_LIMITS tree given ≡ o → flat_fault SMALL_LIMITS tree given ≡ None
  sound_text tree read None e = e
  sound_text tree read (Some fault) e = absurd (no_first fault.code fault.place (of_text fault.code fault.place (flat_of_expansion tree fault.code fault.place read e)))

  no_forms_fault : (tree : Text) (flat : FlatText) → Reads text tree → flat_fault SMALL_LIMITS tree given ≡ None → flat_in (expanded SMALL_LIMITS tree given) ≡ Some flat
      → forms_of LARGE_LIMITS.nodes flat.formulas flat.expanded.whole ≡ None → ⊥
  no_forms_fault tree flat read sound is none =
      let is_flat : IsFlatOf SMALL_LIMITS text given flat = record { tree = tree; read = read; expanded = is; meaning = keeps_meaning keeps tree given flat (expanded SMALL_LIMITS tree given) refl is } in
      no_first TooManyNodes 0 (of_problems flat TooManyNodes 0 is_flat (no_room
      (one_not SMALL_LIMITS.nodes flat.formulas flat.expanded.whole (none_fit SMALL_LIMITS.nodes LARGE_LIMITS.nodes small_within_large.nodes flat.formulas flat.expanded.whole none))))

  pub no_solve_fault : (code : SpecCode) (place : ℕ) → IsSolveFault text given code place → ⊥
  no_solve_fault _ _ (of_reading code place h) = no_first code place (of_text code place (flat_of_reading code place h))
  no_solve_fault _ _ (of_expansion tree code place read fault) =
      let sound = sound_text tree read (flat_fault SMALL_LIMITS tree given) refl in
      let clash : None ≡ Some (let f : Fault = record { code = code; place = place } in f) = sym (sound_taken given tree sound) ∙ fault in cc
  no_solve_fault _ _ (of_forms tree flat read is none) =
      let sound = sound_text tree read (flat_fault SMALL_LIMITS tree given) refl in
      no_forms_fault tree flat read sound (sym (flat_taken given tree sound) ∙ is)
      (sym (ap (λ s. forms_taken LARGE_LIMITS.nodes s flat) (plain given tree sound).shift) ∙ none)

-- ---- the same is wanted

module _ (trees : TreesAreDetermined) (text : List ℕ) (given : Option Kind) (x y : Wanted) (flat : FlatText) where
  same_flat : (tree : Text) (small : FlatText) → flat_in (expanded SMALL_LIMITS tree given) ≡ Some small → flat_in (expanded LARGE_LIMITS tree (Some (taken_kind given tree))) ≡ Some flat → small ≡ flat
  same_flat tree small is large =
      let both : Some small ≡ Some flat = sym is ∙ sym (flat_taken given tree (sound_where (expanded SMALL_LIMITS tree given) small is)) ∙ large in cc

  pub same_wanted : IsWantedBy text given x → IsTakenAs text given flat y → IsSameWanted x y
  same_wanted wanted taken =
      let tree : Text = taken.tree in
      let is : flat_in (expanded SMALL_LIMITS tree given) ≡ Some wanted.flat =
      subst (λ t. flat_in (expanded SMALL_LIMITS t given) ≡ Some wanted.flat) (trees text wanted.is_flat.tree tree wanted.is_flat.read taken.read) wanted.is_flat.expanded in
      let large : flat_in (expanded LARGE_LIMITS tree (Some (taken_kind given tree))) ≡ Some flat =
      subst (λ t. flat_in (expanded LARGE_LIMITS t (Some (taken_kind given tree))) ≡ Some flat) (trees text taken.is_flat.tree tree taken.is_flat.read taken.read) taken.is_flat.expanded in
      let same : wanted.flat ≡ flat = same_flat tree wanted.flat is large in
      let sound : flat_fault SMALL_LIMITS tree given ≡ None = sound_where (expanded SMALL_LIMITS tree given) wanted.flat is in
      record {
        inputs = wanted.inputs ∙ ap (λ (f : FlatText). f.expanded.inputs) same ∙ sym taken.inputs;
        outputs = wanted.outputs ∙ ap (λ (f : FlatText). f.expanded.outputs) same ∙ sym taken.outputs;
        kind_is = wanted.kind_is ∙ ap (λ (f : FlatText). f.expanded.kind) same
            ∙ kind_in LARGE_LIMITS tree (taken_kind given tree) flat large ∙ sym taken.kind_is;
        truth = λ w ring. wanted.meaning w ∙ ap (means SMALL_LIMITS w) (trees text wanted.tree tree wanted.read taken.read) ∙ sym (meaning_taken given tree sound (length y.inputs) w) ∙ sym (taken.meaning w ring);
      }
