-- The flat sections have the truths of the written ones.
use Rattle.std.proofs.Common.{◌≡◌, ℕ, Bool, List, [], ◌∷◌, ◌++◌, All, map, refl, sym, ap, ◌∙◌}
use Rattle.std.specs.Prelude.{◌&&◌}
use Rattle.std.specs.List.{list_all}
use Rattle.std.proofs.lemmas.List.Elements.{All-cons, All-nil}
use Rattle.letters_and_lassos.specs.Word.{Word}
use Rattle.ltl_formula.specs.declared.nodes.FormulaId.{FormulaId}
use Rattle.ltl_formula.specs.declared.nodes.Node.{Node}
use Rattle.ltl_formula.specs.Nodes.{Grows, IsNodeIn}
use Rattle.tlsf_syntax.specs.declared.sections.Sections.{Sections}
use Rattle.tlsf_syntax.specs.Tree.{Tree}
use Rattle.tlsf_values.specs.declared.work.Work.{Work}
use Rattle.tlsf_values.specs.declared.value.Value.{Value}
use Rattle.tlsf_values.specs.Names.{Names}
use Rattle.tlsf_values.specs.SectionValues.{section_formula, section_value}
use Rattle.tlsf_values.specs.Values.{span_start}
use Rattle.tlsf_expand.specs.Meaning.{all_true, all_typed, section_truths}
use Rattle.tlsf_expand.specs.Sections.{added_value, sections_value}
use Rattle.tlsf_expand.specs.Senses.{Sense, true_in, has_value}
use Rattle.tlsf_expand.specs.Signals.{TypedSignal, Signals}
use Rattle.tlsf_expand.specs.Standing.{OfEach, SectionsStand, all_hold, formulas_at, section_trees, truths_of}
use Rattle.tlsf_expand.specs.WrittenTruth.{sense_at, true_at}
use Rattle.tlsf_expand.proofs.Alike.{HasTruths, grown_truths, Alike, alike_number, alike_set, alike_bus, alike_member, alike_truth, alike_formula}
use Rattle.tlsf_expand.proofs.Bools.{and_regroup, same_function}
use Rattle.tlsf_expand.proofs.EachSection.{both, each_is, each_of, each_weaker, keeps_in_order, same_where}
use Rattle.tlsf_expand.proofs.Evaluated.{keeps_value_at}
use Rattle.tlsf_expand.proofs.Kept.{IsGood, Keeps, refuses, keeps_go_on, keeps_given}
use Rattle.tlsf_expand.proofs.Laid.{TypedFit}
use Rattle.tlsf_expand.proofs.Made.{keeps_truth_node}
use Rattle.tlsf_expand.proofs.Named.{HasPlainNames}
use Rattle.tlsf_expand.proofs.Valued.{keeps_one_value}

-- each truth of a list at a position
abbrev pub all_at : List (ℕ → Bool) → ℕ → Bool
all_at fs i = list_all (λ f. f i) fs

pub all_at-append : (fs gs : List (ℕ → Bool)) (i : ℕ) → all_at (fs ++ gs) i ≡ (all_at fs i && all_at gs i)
all_at-append [] gs i = refl
all_at-append (f ∷ fs) gs i = ap (λ b. f i && b) (all_at-append fs gs i) ∙ sym (and_regroup (f i) (all_at fs i) (all_at gs i))

abbrev pub written_truths : Word → Names → List Tree → List (ℕ → Bool)
written_truths w names ts = map (λ t. true_in (sense_at w names [] t 0)) ts

abbrev pub typed_truths : Word → List TypedSignal → List (ℕ → Bool)
typed_truths w signals = map (λ s. has_value w s.first s.values) signals

pub all_written : (w : Word) (names : Names) (ts : List Tree) (i : ℕ) → all_at (written_truths w names ts) i ≡ all_true w names ts i
all_written w names [] i = refl
all_written w names (t ∷ ts) i = ap (λ b. true_at w i names [] t 0 && b) (all_written w names ts i)

pub all_are_typed : (w : Word) (signals : List TypedSignal) (i : ℕ) → all_at (typed_truths w signals) i ≡ all_typed w signals i
all_are_typed w [] i = refl
all_are_typed w (s ∷ signals) i = ap (λ b. has_value w s.first s.values i && b) (all_are_typed w signals i)

-- each formula of a list has its truths
pub data AllTruths (w : Word) (nodes : List Node) : List FormulaId → List (ℕ → Bool) → Type 0 where
  all_none : AllTruths w nodes [] []
  all_more : (id : FormulaId) (f : ℕ → Bool) (ids : List FormulaId) (fs : List (ℕ → Bool)) → HasTruths w f id nodes → AllTruths w nodes ids fs → AllTruths w nodes (id ∷ ids) (f ∷ fs)

grown_all : (w : Word) (old new : List Node) (ids : List FormulaId) (fs : List (ℕ → Bool)) → Grows old new → AllTruths w old ids fs → AllTruths w new ids fs
grown_all w old new _ _ grows all_none = all_none
grown_all w old new _ _ grows (all_more id f ids fs h more) = all_more id f ids fs (grown_truths grows h) (grown_all w old new ids fs grows more)

all_append : (w : Word) (nodes : List Node) (ids : List FormulaId) (fs : List (ℕ → Bool)) (js : List FormulaId) (gs : List (ℕ → Bool)) → AllTruths w nodes ids fs → AllTruths w nodes js gs
    → AllTruths w nodes (ids ++ js) (fs ++ gs)
all_append w nodes _ _ js gs all_none h = h
all_append w nodes _ _ js gs (all_more id f ids fs t more) h = all_more id f (ids ++ js) (fs ++ gs) t (all_append w nodes ids fs js gs more h)

-- the formulas of each section have its truths
abbrev pub HaveTruths : Word → Sections (List (ℕ → Bool)) → Sections (List FormulaId) → List Node → Type 0
HaveTruths w fs ids nodes = OfEach (λ p. AllTruths w nodes p.1 p.0) (both fs ids)

pub truths_later : {w : Word} {fs : Sections (List (ℕ → Bool))} {ids : Sections (List FormulaId)} {old new : List Node} → Grows old new → HaveTruths w fs ids old → HaveTruths w fs ids new
truths_later {w = w} {old = old} {new = new} grows h = each_weaker _ _ (λ p. grown_all w old new p.1 p.0 grows) h

-- the truths of the sections, with those of signals of a type
abbrev pub all_lists : Word → Signals → Sections (List Tree) → Sections (List (ℕ → Bool))
all_lists w signals s = record {
  initially = written_truths w signals.names s.initially;
  preset = written_truths w signals.names s.preset;
  require = written_truths w signals.names s.require ++ typed_truths w signals.typed_inputs;
  assert = written_truths w signals.names s.assert ++ typed_truths w signals.typed_outputs;
  assume = written_truths w signals.names s.assume;
  guarantee = written_truths w signals.names s.guarantee;
}

module _ {top : ℕ} (w : Word) where
  keeps_section_formula : (place : ℕ) (v : Value) (s : Sense) (work : Work) → IsGood top work.formulas → Alike w work.formulas v s
      → Keeps top work.formulas (HasTruths w (true_in s)) (section_formula place v work)
  keeps_section_formula place _ _ work list (alike_truth b) = keeps_truth_node w place b work list
  keeps_section_formula place _ _ work list (alike_formula id f h) = keeps_given _ id work list h
  keeps_section_formula place _ _ work list (alike_number z) = refuses _ _
  keeps_section_formula place _ _ work list (alike_set zs) = refuses _ _
  keeps_section_formula place _ _ work list (alike_bus k) = refuses _ _
  keeps_section_formula place _ _ work list (alike_member k) = refuses _ _

  keeps_section : (names : Names) → HasPlainNames top names → (ts : List Tree) (work : Work) → IsGood top work.formulas
      → Keeps top work.formulas (λ ids nodes. AllTruths w nodes ids (written_truths w names ts)) (section_value names ts work)
  keeps_section names has [] work list = keeps_given _ [] work list all_none
  keeps_section names has (t ∷ ts) work list =
      keeps_go_on _ _ (keeps_value_at w names has t 0 work list) (λ v work1 list1 grows1 hv.
      keeps_go_on _ _ (keeps_section_formula (span_start t) v (sense_at w names [] t 0) work1 list1 hv) (λ id work2 list2 grows2 h.
      keeps_go_on _ _ (keeps_section names has ts work2 list2) (λ ids work3 list3 grows3 hs.
      keeps_given _ (id ∷ ids) work3 list3 (all_more id (true_in (sense_at w names [] t 0)) ids (written_truths w names ts) (grown_truths grows3 h) hs))))

  keeps_added : (signals : List TypedSignal) → TypedFit top signals → (work : Work) → IsGood top work.formulas → Keeps top work.formulas (λ ids nodes. AllTruths w nodes ids (typed_truths w signals)) (added_value signals work)
  keeps_added [] fit work list = keeps_given _ [] work list all_none
  keeps_added (s ∷ signals) fit work list =
      keeps_go_on _ _ (keeps_one_value w s.place s.first s.values work list fit.0) (λ id work1 list1 grows1 h.
      keeps_go_on _ _ (keeps_added signals fit.1 work1 list1) (λ ids work2 list2 grows2 hs.
      keeps_given _ (id ∷ ids) work2 list2 (all_more id (has_value w s.first s.values) ids (typed_truths w signals) (grown_truths grows2 h) hs)))

  pub keeps_sections : (signals : Signals) → HasPlainNames top signals.names → TypedFit top signals.typed_inputs → TypedFit top signals.typed_outputs → (s : Sections (List Tree)) (work : Work) → IsGood top work.formulas
      → Keeps top work.formulas (HaveTruths w (all_lists w signals s)) (sections_value signals s work)
  keeps_sections signals has inputs outputs s work list =
      keeps_go_on _ _
      (keeps_in_order (λ ts. Unit {0}) (λ ts ids nodes. AllTruths w nodes ids (written_truths w signals.names ts)) (section_value signals.names) (λ ts ids old new grows h. grown_all w old new ids _ grows h)
      (λ ts _. keeps_section signals.names has ts) s (each_is _ (λ ts. tt) s) work list) (λ x work1 list1 g1 h1.
      keeps_go_on _ _ (keeps_added signals.typed_inputs inputs work1 list1) (λ i2 work2 list2 g2 h2.
      keeps_go_on _ _ (keeps_added signals.typed_outputs outputs work2 list2) (λ i3 work3 list3 g3 h3.
      let h = each_weaker _ (λ p. AllTruths w work3.formulas p.1 (written_truths w signals.names p.0))
      (λ p h. grown_all w work2.formulas work3.formulas p.1 _ g3 (grown_all w work1.formulas work2.formulas p.1 _ g2 h)) h1 in
      keeps_given _ _ work3 list3 (record {
        initially = h.initially;
        preset = h.preset;
        require = all_append w work3.formulas _ _ _ _ h.require (grown_all w _ _ _ _ g3 h2);
        assert = all_append w work3.formulas _ _ _ _ h.assert h3;
        assume = h.assume;
        guarantee = h.guarantee;
      }))))

-- ---- the formulas of the sections

ids_stand : {w : Word} {nodes : List Node} {ids : List FormulaId} {fs : List (ℕ → Bool)} → AllTruths w nodes ids fs → All (IsNodeIn nodes) ids
ids_stand all_none = All-nil _
ids_stand {nodes = nodes} (all_more id f ids fs h more) = All-cons (IsNodeIn nodes) id ids h.stands (ids_stand more)

pub sections_stand : {w : Word} {fs : Sections (List (ℕ → Bool))} {ids : Sections (List FormulaId)} {nodes : List Node} → HaveTruths w fs ids nodes → SectionsStand nodes ids
sections_stand {nodes = nodes} h = each_of _ (All (IsNodeIn nodes)) (λ p. p.1) (λ p. ids_stand) h

module _ (w : Word) (nodes : List Node) where
  all_hold_at : (ids : List FormulaId) (fs : List (ℕ → Bool)) → AllTruths w nodes ids fs → (i : ℕ) → all_hold w (formulas_at nodes ids) i ≡ all_at fs i
  all_hold_at _ _ all_none i = refl
  all_hold_at _ _ (all_more id f ids fs h more) i =
      ap (λ g. g i && all_hold w (formulas_at nodes ids) i) h.same ∙ ap (λ b. f i && b) (all_hold_at ids fs more i)

  plain_section : (names : Names) (ts : List Tree) → all_at (written_truths w names ts) ≡ all_true w names ts
  plain_section names ts = same_function _ _ (λ i. all_written w names ts i)

  typed_section : (names : Names) (ts : List Tree) (signals : List TypedSignal) → all_at (written_truths w names ts ++ typed_truths w signals) ≡ (λ (i : ℕ). all_true w names ts i && all_typed w signals i)
  typed_section names ts signals = same_function _ _ (λ i.
      all_at-append (written_truths w names ts) (typed_truths w signals) i
      ∙ ap (λ b. b && all_at (typed_truths w signals) i) (all_written w names ts i)
      ∙ ap (λ b. all_true w names ts i && b) (all_are_typed w signals i))

  -- they are true where the written ones are
  pub truths_are : (signals : Signals) (s : Sections (List Tree)) (ids : Sections (List FormulaId)) → HaveTruths w (all_lists w signals s) ids nodes → truths_of w (section_trees nodes ids) ≡ section_truths w signals s
  truths_are signals s ids h =
      same_where (λ p. all_hold w (formulas_at nodes p.1)) (λ p. all_at p.0)
      (each_weaker _ (λ p. all_hold w (formulas_at nodes p.1) ≡ all_at p.0) (λ p g. same_function _ _ (all_hold_at p.1 p.0 g)) h)
      ∙ (λ k. record {
        initially = plain_section signals.names s.initially k;
        preset = plain_section signals.names s.preset k;
        require = typed_section signals.names s.require signals.typed_inputs k;
        assert = typed_section signals.names s.assert signals.typed_outputs k;
        assume = plain_section signals.names s.assume k;
        guarantee = plain_section signals.names s.guarantee k;
      })
