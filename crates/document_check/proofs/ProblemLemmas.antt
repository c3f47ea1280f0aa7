-- Problems that say the same.
use Rattle.std.proofs.Common.{◌≡◌, ℕ, zero, suc, ◌≤◌, ◌==◌, ◌&&◌, Bool, false, cond, Option, Some, None, List, refl, sym, ap, subst, ◌∙◌}
use Rattle.std.specs.Prelude.{is_some, not, IfSome, option_map, unwrap_or}
use Rattle.std.specs.Option.{option_map_or}
use Rattle.propositional_logic.specs.Literal.{Literal}
use Rattle.letters_and_lassos.specs.declared.kinds.Kind.{Kind}
use Rattle.letters_and_lassos.specs.declared.kinds.Side.{Side}
use Rattle.letters_and_lassos.specs.declared.kinds.Side.TheVariants.{System, Environment}
use Rattle.letters_and_lassos.specs.Kinds.{other_kind}
use Rattle.machine_model.specs.Automaton.{AutomatonModel, IsAutomaton}
use Rattle.machine_model.specs.Components.{AreComponentsOf, components_of}
use Rattle.machine_model.specs.Counting.{CountsBy, CountsIn}
use Rattle.machine_model.specs.declared.counting.Counting.{Counting}
use Rattle.machine_model.specs.declared.counting.Counting.TheVariants.{AllRejecting, ByComponent}
use Rattle.machine_model.specs.declared.counting.Counts.{Counts}
use Rattle.machine_model.specs.declared.counting.Counts.TheVariants.{Local, Whole}
use Rattle.machine_model.specs.declared.problems.Problem.{Problem}
use Rattle.machine_model.proofs.ComponentsOf.{are_components, components_are}
use Rattle.machine_model.proofs.CountingLemmas.{counts_in_by}
use Rattle.machine_model.specs.Problem.{IsProblem, Parts, automaton_of, parts_of, sized}
use Rattle.machine_model.proofs.PartsLemmas.{alike, kept_at}
use Rattle.annotation_encode.specs.BaseClauses.{base_clauses}
use Rattle.annotation_encode.specs.Count.{allowed_sizes, count_of}
use Rattle.annotation_encode.specs.Variables.{variables_of}
use Rattle.annotation_encode.proofs.Further.{equal_clauses}
use Rattle.refutation_log.specs.Log.{IsLegal}
use Rattle.log_checker.specs.Faults.{IsLogFault}
use Rattle.document_text.specs.Parts.{LogPart}
use Rattle.document_check.specs.Facts.{Facts, allowed_at, counting_for, counting_from, counts_for, problem_at}
use Rattle.document_check.specs.FirstBad.{has_numbers, LogFails, other_numbers, bad_entry, left_open, is_good}
use Rattle.document_check.specs.Shown.{AreFactsFor, IsProblemAt, IsReadyFor}

same_count : (p q : Problem) → parts_of p ≡ parts_of q → count_of p ≡ count_of q
same_count p q same = ap (λ parts. count_of (kept_at p parts)) same

sized_same : (p q : Problem) (n : ℕ) → parts_of p ≡ parts_of q → parts_of (sized p n) ≡ parts_of (sized q n)
sized_same p q n same = ap (λ (x : Parts). record x { size = n }) same

same_allowed : (p q : Problem) (max : ℕ) → parts_of p ≡ parts_of q → allowed_sizes p max ≡ allowed_sizes q max
unfolding allowed_sizes
same_allowed p q zero same = refl
same_allowed p q (suc n) same =
    ap (λ (o : Option ℕ). cond (is_some o) (suc n) (allowed_sizes p n)) (same_count (sized p (suc n)) (sized q (suc n)) (sized_same p q (suc n) same))
    ∙ ap (λ (m : ℕ). cond (is_some (count_of (sized q (suc n)))) (suc n) m) (same_allowed p q n same)

allowed_by : (q : Problem) (max : ℕ) (o : Option Problem) → IsProblemAt o (Some q) → Some (allowed_sizes q max) ≡ option_map (λ (p : Problem). allowed_sizes p max) o
allowed_by q max None is = absurd is
allowed_by q max (Some p) is = ap Some (same_allowed q p max is)

allowed_at_by : (n max : ℕ) (o : Option Problem) → Some n ≡ option_map (λ (p : Problem). allowed_sizes p max) o → n ≡ option_map_or (λ (p : Problem). allowed_sizes p max) o 0
allowed_at_by n max None is = absurd (cc)
allowed_at_by n max (Some p) is = ap (λ (o : Option ℕ). unwrap_or o n) is

-- the allowed sizes of a problem that says what the text's does
pub allowed_is : (facts : Facts) (kind : Kind) (version max : ℕ) (side : Side) (q : Problem) → IsProblemAt (problem_at facts kind version side 1) (Some q)
    → allowed_sizes q max ≡ allowed_at facts kind version max side
allowed_is facts kind version max side q is =
    allowed_at_by (allowed_sizes q max) max (problem_at facts kind version side 1) (allowed_by q max (problem_at facts kind version side 1) is)

-- a log fails over two problems that say the same at one line
module _ (full : Bool) (limit : Option ℕ) (l : LogPart) (q p : Problem) (same : parts_of q ≡ parts_of p) where
  numbers_same : has_numbers l q ≡ has_numbers l p
  numbers_same = λ i. (l.vars == (equal_clauses q p same).variables i) && option_map_or (λ n. l.base == n) (same_count q p same i) false

  legal_over : IsLegal (variables_of q) (base_clauses q) limit l.entries → IsLegal (variables_of p) (base_clauses p) limit l.entries
  legal_over g =
      subst (λ (v : ℕ). IsLegal v (base_clauses p) limit l.entries) (equal_clauses q p same).variables
      (subst (λ (b : List (List Literal)). IsLegal (variables_of q) b limit l.entries) (equal_clauses q p same).clauses g)

  pub fails_over : (o : Option ℕ) → LogFails full limit l q o → LogFails full limit l p o
  fails_over o (other_numbers e) = other_numbers (sym numbers_same ∙ e)
  fails_over o (bad_entry f n x) = bad_entry f (sym numbers_same ∙ n) (subst (λ (b : List (List Literal)). IsLogFault b limit l.entries f) (equal_clauses q p same).clauses x)
  fails_over o (left_open n g s) = left_open (sym numbers_same ∙ n) (legal_over g) s
  fails_over o (is_good n g s) = is_good (sym numbers_same ∙ n) (legal_over g) s

-- ---- what numbers count

-- what numbers count by component is what is computed
computed : (a : AutomatonModel) (counting : Counting) → CountsBy a counting → counting ≡ ByComponent (components_of a)
computed a counting by = by.by ∙ ap ByComponent (components_are a by.components by.right)

-- so a problem whose numbers count by component, where those of a document's version do, has what these count
counting_same : (counts : Counts) (numbered : Bool) (a : AutomatonModel) (counting : Counting) → (counts ≡ Local → CountsBy a counting)
    → counting_from counts numbered counting ≡ counting_from counts numbered (ByComponent (components_of a))
counting_same Whole numbered a counting by = refl
counting_same Local numbered a counting by = computed a counting (by refl)

-- the problem of a document, from one of the same size
pub for_document : (p q : Problem) (kind : Kind) (version size : ℕ) (counting : Counting) → (counts_for version ≡ Local → CountsBy (automaton_of p) p.counting)
    → parts_of q ≡ parts_of (sized p size) → counting ≡ counting_from (counts_for version) (not (version == 1)) q.counting
    → parts_of (record q { kind = kind; counting = counting }) ≡ parts_of (record p { kind = kind; size = size; counting = counting_for version (automaton_of p) })
for_document p q kind version size counting by same is =
    let counts : Counts = counts_for version in
    let numbered : Bool = not (version == 1) in
    let made : parts_of (record q { kind = kind; counting = counting }) ≡ record (parts_of q) { kind = kind; counting = counting_from counts numbered q.counting } =
    λ i. record (parts_of q) { kind = kind; counting = is i } in
    let there : record (parts_of q) { kind = kind; counting = counting_from counts numbered q.counting }
    ≡ record (parts_of p) { kind = kind; size = size; counting = counting_from counts numbered p.counting } =
    ap (λ (x : Parts). record x { kind = kind; counting = counting_from counts numbered x.counting }) same in
    let counted : record (parts_of p) { kind = kind; size = size; counting = counting_from counts numbered p.counting }
    ≡ parts_of (record p { kind = kind; size = size; counting = counting_for version (automaton_of p) }) =
    λ i. record (parts_of p) { kind = kind; size = size; counting = counting_same counts numbered (automaton_of p) p.counting by i } in
    made ∙ there ∙ counted

counted_in : (counts : Counts) (numbered : Bool) (a : AutomatonModel) → (counts ≡ Local → AreComponentsOf a (components_of a))
    → CountsIn a (counting_from counts numbered (ByComponent (components_of a)))
counted_in Whole numbered a are = record { right = λ components is. absurd (let e : AllRejecting numbered ≡ ByComponent components = is in cc) }
counted_in Local numbered a are = counts_in_by a (ByComponent (components_of a)) (record { components = components_of a; by = refl; right = are refl })

-- ---- the problems are problems

module _ (kind : Kind) (version size : ℕ) (some : 1 ≤ size) (few : size ≤ 8) where
  again : (p : Problem) → IsProblem p → (counts_for version ≡ Local → AreComponentsOf (automaton_of p) (components_of (automaton_of p)))
      → IsProblem (record p { kind = kind; size = size; counting = counting_for version (automaton_of p) })
  again p is are = record {
    inputs = is.inputs;
    outputs = is.outputs;
    some = some;
    size = few;
    states = is.states;
    signals = is.signals;
    counting = counted_in (counts_for version) (not (version == 1)) (automaton_of p) are;
  }

  -- the problem of a document is one, for a text within the limits
  pub within_limits : (p : Problem) → IsProblem p → IsAutomaton (automaton_of p) → IsProblem (record p { kind = kind; size = size; counting = counting_for version (automaton_of p) })
  within_limits p is whole = again p is (λ local. are_components (automaton_of p) whole)

  ready : (p : Problem) → IsReadyFor version p → IsProblem (record p { kind = kind; size = size; counting = counting_for version (automaton_of p) })
  ready p is = again p is.problem (λ local.
      let by : CountsBy (automaton_of p) p.counting = is.counting local in
      subst (AreComponentsOf (automaton_of p)) (components_are (automaton_of p) by.components by.right) by.right)

  -- a problem that says what this one does, as a document takes it, is one
  pub is_ready : (p q : Problem) → IsReadyFor version p → parts_of q ≡ parts_of (record p { kind = kind; size = size; counting = counting_for version (automaton_of p) }) → IsProblem q
  is_ready p q is same = (alike (record p { kind = kind; size = size; counting = counting_for version (automaton_of p) }) q (sym same)).problem (ready p is)

environment_by : (kind : Kind) (version size : ℕ) → 1 ≤ size → size ≤ 8 → (o : Option Problem) (q : Problem) → IfSome o (IsReadyFor version)
    → IsProblemAt (option_map (λ (p : Problem). record p { kind = other_kind kind; size = size; counting = counting_for version (automaton_of p) }) o) (Some q) → IsProblem q
environment_by kind version size some few None q all is = absurd is
environment_by kind version size some few (Some p) q all is = is_ready (other_kind kind) version size some few p q all is

-- a problem that says what a text's does is one
pub is_problem : (facts : Facts) (kind : Kind) (version : ℕ) (side : Side) (size : ℕ) (q : Problem) → AreFactsFor version facts → 1 ≤ size → size ≤ 8
    → IsProblemAt (problem_at facts kind version side size) (Some q) → IsProblem q
is_problem facts kind version System size q are some few is = is_ready kind version size some few facts.system q are.system is
is_problem facts kind version Environment size q are some few is = environment_by kind version size some few facts.environment q are.environment is
