-- The list of some guarantees holds the formula of the whole, and is refused for want of room alone.
use Rattle.std.proofs.Common.{◌≡◌, ℕ, ◌≤◌, Bool, true, false, List, [], ◌∷◌, All, length, map, drop, Some, Result, Err, refl, ap, subst, ◌∙◌, arith}
use Rattle.std.proofs.lemmas.List.{drop_all}
use Rattle.std.proofs.lemmas.List.Elements.{All-cons, All-head, All-tail}
use Rattle.std.proofs.lemmas.Option.{same_Some}
use Rattle.text_limits.specs.declared.TheConstants.{SMALL_LIMITS}
use Rattle.ltl_formula.specs.declared.nodes.FormulaId.{FormulaId}
use Rattle.ltl_formula.specs.declared.nodes.Node.{Node}
use Rattle.ltl_formula.specs.declared.nodes.TheConstants.{MAX_SIGNALS}
use Rattle.ltl_formula.specs.ListSignals.{HasSignalsBelow, KeepsSignals}
use Rattle.ltl_formula.specs.Nodes.{IsNodeList, IsNodeIn}
use Rattle.ltl_formula.specs.Tree.{Tree, SignalsBelow}
use Rattle.ltl_formula.specs.Truth.{holds}
use Rattle.ltl_formula.proofs.ListSignals.{signals_of_lists_are_kept}
use Rattle.spec_faults.specs.declared.code.SpecCode.{SpecCode}
use Rattle.spec_faults.specs.declared.code.SpecCode.TheVariants.{TooManyNodes}
use Rattle.ltl_formula.specs.declared.faults.AddFault.{AddFault}
use Rattle.spec_faults.specs.declared.code.SpecFault.{SpecFault}
use Rattle.tlsf_values.specs.Results.{IsFault}
use Rattle.tlsf_values.specs.declared.work.Work.{Work}
use Rattle.tlsf_values.specs.Outcomes.{Outcome, fails}
use Rattle.tlsf_syntax.specs.declared.sections.Sections.{Sections}
use Rattle.tlsf_expand.specs.Signals.{work_within}
use Rattle.tlsf_expand.specs.Standing.{OfEach, SectionsStand, StandsAs, formulas_at}
use Rattle.tlsf_expand.proofs.EachSection.{each_of, keeps_in_order}
use Rattle.tlsf_expand.proofs.Filling.{Fills, is_full, stands_later}
use Rattle.tlsf_expand.proofs.Kept.{IsGood, IsKept, gives_such, keeps_given, keeps_go_on, no_nodes, refused_so}
use Rattle.tlsf_expand.proofs.WholeTree.{AllStandAs, all_later, fills_whole, none_stand, one_stands, whole_holds, whole_tree}
use Rattle.unrealizable_core.specs.declared.whole.Reduced.{Reduced}
use Rattle.unrealizable_core.specs.Put.{put_all}
use Rattle.unrealizable_core.specs.Reduced.{add_fault, kept, kept_sections, reduced, reduced_in}
use Rattle.unrealizable_core.specs.Truths.{SaysWhole}
use Rattle.unrealizable_core.proofs.Putting.{fills_put}

-- ---- those that are kept

pub kept_map : {A B : Type 0} (f : A → B) (keep : List Bool) (xs : List A) → map f (kept keep xs) ≡ kept keep (map f xs)
kept_map f [] xs = refl
kept_map f (b ∷ keep) [] = refl
kept_map f (true ∷ keep) (x ∷ xs) = ap (λ ys. f x ∷ ys) (kept_map f keep xs)
kept_map f (false ∷ keep) (x ∷ xs) = kept_map f keep xs

pub kept_all : {A : Type 0} (P : A → Type 0) (keep : List Bool) (xs : List A) → All P xs → All P (kept keep xs)
kept_all P [] xs h = λ k d less. absurd (omega arith)
kept_all P (b ∷ keep) [] h = λ k d less. absurd (omega arith)
kept_all P (true ∷ keep) (x ∷ xs) h = All-cons P x (kept keep xs) (All-head P x xs h) (kept_all P keep xs (All-tail P x xs h))
kept_all P (false ∷ keep) (x ∷ xs) h = kept_all P keep xs (All-tail P x xs h)

pub kept_none : {A : Type 0} (keep : List Bool) → kept {A = A} keep [] ≡ []
kept_none [] = refl
kept_none (b ∷ keep) = refl

-- past the last formula nothing more is kept
pub kept_past : {A : Type 0} (keep : List Bool) (xs : List A) (n : ℕ) → length xs ≤ n → kept (drop n keep) (drop n xs) ≡ []
kept_past keep xs n h = ap (kept (drop n keep)) (drop_all n xs h) ∙ kept_none (drop n keep)

-- ---- signals

abbrev AllBelow : ℕ → List Tree → Type 0
AllBelow n [] = Unit {0}
AllBelow n (t ∷ ts) = SignalsBelow n t × AllBelow n ts

abbrev SectionsBelow : ℕ → Sections (List Tree) → Type 0
SectionsBelow n s = OfEach (AllBelow n) s

kept_below : (n : ℕ) (keep : List Bool) (ts : List Tree) → AllBelow n ts → AllBelow n (kept keep ts)
kept_below n [] ts h = tt
kept_below n (b ∷ keep) [] h = tt
kept_below n (true ∷ keep) (t ∷ ts) h = (h.0, kept_below n keep ts h.1)
kept_below n (false ∷ keep) (t ∷ ts) h = kept_below n keep ts h.1

module _ (n : ℕ) (nodes : List Node) (list : IsNodeList nodes) (below : HasSignalsBelow n nodes) where
  ids_below : (ids : List FormulaId) → All (IsNodeIn nodes) ids → AllBelow n (formulas_at nodes ids)
  ids_below [] h = tt
  ids_below (id ∷ ids) h = (signals_of_lists_are_kept.of_formulas n nodes id list below (All-head (IsNodeIn nodes) id ids h), ids_below ids (All-tail (IsNodeIn nodes) id ids h))

  sections_below : (keep : List Bool) (ids : Sections (List FormulaId)) → SectionsStand nodes ids → SectionsBelow n (kept_sections nodes keep ids)
  sections_below keep ids h =
      let all = each_of _ (AllBelow n) (formulas_at nodes) ids_below h in record {
        initially = all.initially;
        preset = all.preset;
        require = all.require;
        assert = all.assert;
        assume = all.assume;
        guarantee = kept_below n keep (formulas_at nodes ids.guarantee) all.guarantee;
      }

-- ---- the list

module _ (n : ℕ) where
  -- formulas of signals below n, and below 16
  record AreSmall (ts : List Tree) : Type 0 where
    small : AllBelow MAX_SIGNALS ts
    below : AllBelow n ts

  fills_all : (ts : List Tree) → AllBelow MAX_SIGNALS ts → AllBelow n ts → (work : Work) → IsGood n work.formulas → Fills n work.formulas (λ ids nodes. AllStandAs nodes ts ids) (put_all ts work)
  fills_all [] s b work good = keeps_given _ [] work good none_stand
  fills_all (t ∷ ts) s b work good =
      keeps_go_on _ _ (fills_put t s.0 b.0 work good) (λ id w1 good1 g1 at.
      keeps_go_on _ _ (fills_all ts s.1 b.1 w1 good1) (λ ids w2 good2 g2 more.
      keeps_given _ (id ∷ ids) w2 good2 (one_stands t id ts ids (stands_later g2 at) more)))

  fills_reduced : (s : Sections (List Tree)) → OfEach AreSmall s → (strict : Bool) → Fills n [] (λ id nodes. StandsAs nodes (whole_tree strict s) id) (reduced strict s)
  fills_reduced s h strict =
      keeps_go_on _ _
      (keeps_in_order AreSmall (λ ts ids nodes. AllStandAs nodes ts ids) put_all (λ ts ids old new grows. all_later grows) (λ ts a. fills_all ts a.small a.below) s h (work_within SMALL_LIMITS) (no_nodes n)) (λ ids work good grows all.
      fills_whole s ids strict work good all)

-- ---- what the call answers

reduced_as : (n : ℕ) (Q : FormulaId → List Node → Type 0) (o : Outcome FormulaId) (r : Reduced) → Fills n [] Q o → reduced_in o ≡ Some r → IsKept n [] Q r.whole r.formulas
reduced_as n Q _ r (gives_such whole work k) e =
    let made_here : Reduced = record { formulas = work.formulas; whole = whole } in
    subst (λ (x : Reduced). IsKept n [] Q x.whole x.formulas) (same_Some made_here r e) k
reduced_as n Q _ r (refused_so code place full) e = absurd cc

pub same_err : (a b : AddFault) → ◌≡◌ {A = Result Reduced AddFault} (Err a) (Err b) → a ≡ b
same_err a b e = cc

module _ (from : List Node) (list : IsNodeList from) (keep : List Bool) (ids : Sections (List FormulaId)) (stand : SectionsStand from ids) (strict : Bool) where
  abbrev of : Sections (List Tree)
  of = kept_sections from keep ids

  fills_kept : (n : ℕ) → HasSignalsBelow n from → Fills n [] (λ id nodes. StandsAs nodes (whole_tree strict of) id) (reduced strict of)
  fills_kept n below =
      let small = sections_below MAX_SIGNALS from list (record { nodes_below = list.signals }) keep ids stand in
      let own = sections_below n from list below keep ids stand in
      fills_reduced n of (record {
        initially = record { small = small.initially; below = own.initially };
        preset = record { small = small.preset; below = own.preset };
        require = record { small = small.require; below = own.require };
        assert = record { small = small.assert; below = own.assert };
        assume = record { small = small.assume; below = own.assume };
        guarantee = record { small = small.guarantee; below = own.guarantee };
      }) strict

  full : (code : SpecCode) (place : ℕ) → reduced strict of ≡ fails code place → reduced strict of ≡ fails TooManyNodes 0
  full code place e = is_full (reduced strict of) code place (fills_kept MAX_SIGNALS (record { nodes_below = list.signals })) e

  pub too_many : (fault : SpecFault) → IsFault (reduced strict of) fault → add_fault fault ≡ AddFault.TooManyNodes → reduced strict of ≡ fails TooManyNodes 0
  too_many (SpecFault.At code place) h told = full code place h
  too_many SpecFault.NoMemory h told = absurd cc

  module _ (r : Reduced) (is : reduced_in (reduced strict of) ≡ Some r) where
    got : (n : ℕ) → HasSignalsBelow n from → IsKept n [] (λ id nodes. StandsAs nodes (whole_tree strict of) id) r.whole r.formulas
    got n below = reduced_as n (λ id nodes. StandsAs nodes (whole_tree strict of) id) (reduced strict of) r (fills_kept n below) is

    abbrev by_sixteen : IsKept MAX_SIGNALS [] (λ id nodes. StandsAs nodes (whole_tree strict of) id) r.whole r.formulas
    by_sixteen = got MAX_SIGNALS (record { nodes_below = list.signals })

    pub is_list : IsNodeList r.formulas
    is_list = by_sixteen.good.list

    pub whole_stands : StandsAs r.formulas (whole_tree strict of) r.whole
    whole_stands = by_sixteen.is

    pub says_whole : SaysWhole strict of r.formulas r.whole
    says_whole = record { stands = whole_stands.stands; same = λ w. ap (λ t. holds w t 0) whole_stands.tree ∙ whole_holds strict w of }

    pub keeps_signals : KeepsSignals from r.formulas
    keeps_signals = record { kept = λ n below. (got n below).good.below }
