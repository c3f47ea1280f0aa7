use Rattle.std.proofs.Common.{◌≡◌, ℕ, zero, suc, ◌<◌, inl, inr, true, List, [], ◌∷◌, Option, None, Some, All, length, refl, subst, arith}
use Rattle.std.specs.Prelude.{Contains}
use Rattle.std.proofs.lemmas.List.Elements.{All-cons, All-nil, Contains-append_cases}
use Rattle.std_lemmas.proofs.Lists.{Contains-cases, Contains-none, All-from_contains}
use Rattle.letters_and_lassos.specs.declared.cubes.Cube.{Cube}
use Rattle.ltl_formula.specs.declared.nodes.FormulaId.{FormulaId}
use Rattle.ltl_formula.specs.declared.nodes.Node.{Node}
use Rattle.ltl_formula.specs.declared.nodes.Node.TheVariants.{True, False, Signal, Not, Next, Finally, Globally, And, Or, Implies, Equiv, Until, Release, WeakUntil}
use Rattle.ltl_formula.specs.NormalForm.{IsNormal}
use Rattle.ltl_formula.specs.Nodes.{IsNodeList, PartsBelow, IsNodeIn, node_at, tree_at}
use Rattle.obligation_sets.specs.declared.branches.Step.{Step}
use Rattle.obligation_sets.specs.declared.branches.Step.TheVariants.{Leaf, Dead, On, Split}
use Rattle.obligation_sets.specs.declared.sets.Cover.{Cover}
use Rattle.obligation_sets.specs.declared.sets.Covering.{Covering}
use Rattle.obligation_sets.specs.Branch.{Branch}
use Rattle.obligation_sets.specs.Covers.{leaves_below, leaves_within, set_leaves, start_branch}
use Rattle.obligation_sets.specs.Reduced.{cover_by, covers_by}
use Rattle.obligation_sets.specs.Cubes.{forbidding, wanting}
use Rattle.obligation_sets.specs.Ids.{has_id, with_id}
use Rattle.obligation_sets.specs.NextStep.{AreNormal}
use Rattle.obligation_sets.specs.OpenWork.{open_work}
use Rattle.obligation_sets.specs.Steps.{expanding, in_front, joining, leaving, opposing, postponing, step, step_on, undone}
use Rattle.obligation_sets.proofs.LessAsked.{covers_from, left_from}
use Rattle.obligation_sets.proofs.Flags.{has_id-none, with_id-cases}
use Rattle.obligation_sets.proofs.NextStep.{alive_from}
use Rattle.obligation_sets.proofs.OneStep.{NodeIsNormal, node_normal}
use Rattle.obligation_sets.proofs.Walks.{IsFirstOpen, first_open}

-- what a formula puts on the work list or leaves to the next position
abbrev pub PartsAre : (FormulaId → Type 0) → Node → Type 0
PartsAre P True = Unit {0}
PartsAre P False = Unit {0}
PartsAre P (Signal k) = Unit {0}
PartsAre P (Not g) = Unit {0}
PartsAre P (Next g) = P g
PartsAre P (Finally g) = Unit {0}
PartsAre P (Globally g) = Unit {0}
PartsAre P (And g h) = P g × P h
PartsAre P (Or g h) = P g × P h
PartsAre P (Implies g h) = Unit {0}
PartsAre P (Equiv g h) = Unit {0}
PartsAre P (Until g h) = P g × P h
PartsAre P (Release g h) = P g × P h
PartsAre P (WeakUntil g h) = Unit {0}

-- a fact that parts have with their wholes is kept from a set to what its covers leave to the next position
module _ (ns : List Node) (P : FormulaId → Type 0) (closed : (f : FormulaId) → P f → PartsAre P (node_at ns f.0)) where
  record Inside (b : Branch) : Type 0 where
    work : All P b.work
    next : (f : FormulaId) → has_id b.next f ≡ true → P f

  abbrev StepInside : Step → Type 0
  StepInside (Leaf b) = Inside b
  StepInside Dead = Unit {0}
  StepInside (On b) = Inside b
  StepInside (Split b c) = Inside b × Inside c

  front_inside : (b : Branch) → Inside b → (g : FormulaId) → P g → Inside (in_front (g ∷ []) b)
  front_inside b i g p = record { work = All-cons P g b.work p i.work; next = i.next }

  leaving_inside : (b : Branch) → Inside b → (g : FormulaId) → P g → Inside (leaving g b)
  leaving_inside b i g p = record { work = i.work; next = λ f h. elim (with_id-cases b.next g f h) [ inl same ↦ rw same p | inr before ↦ i.next f before ] }

  postponing_inside : (b : Branch) → Inside b → (g : FormulaId) → P g → Inside (postponing g b)
  postponing_inside b i g p = record { work = i.work; next = λ f h. elim (with_id-cases b.next g f h) [ inl same ↦ rw same p | inr before ↦ i.next f before ] }

  joining_inside : (b : Branch) → Inside b → (o : Option Cube) → StepInside (joining b o)
  joining_inside b i None = tt
  joining_inside b i (Some cube) = record { work = i.work; next = i.next }

  opposing_inside : (b : Branch) → Inside b → (node : Node) → StepInside (opposing b node)
  opposing_inside b i (Signal k) = joining_inside b i (forbidding b.cube k)
  opposing_inside b i _ = tt

  expanding_inside : (b : Branch) → Inside b → (f : FormulaId) → P f → (node : Node) → PartsAre P node → StepInside (expanding ns b f node)
  expanding_inside b i f p True parts = i
  expanding_inside b i f p False parts = tt
  expanding_inside b i f p (Signal k) parts = joining_inside b i (wanting b.cube k)
  expanding_inside b i f p (Not g) parts = opposing_inside b i (node_at ns g.0)
  expanding_inside b i f p (Next g) parts = leaving_inside b i g parts
  expanding_inside b i f p (Finally g) parts = tt
  expanding_inside b i f p (Globally g) parts = tt
  expanding_inside b i f p (And g h) parts = front_inside (in_front (h ∷ []) b) (front_inside b i h parts.1) g parts.0
  expanding_inside b i f p (Or g h) parts = (front_inside b i g parts.0, front_inside b i h parts.1)
  expanding_inside b i f p (Implies g h) parts = tt
  expanding_inside b i f p (Equiv g h) parts = tt
  expanding_inside b i f p (Until g h) parts = (front_inside b i h parts.1, front_inside (postponing f b) (postponing_inside b i f p) g parts.0)
  expanding_inside b i f p (Release g h) parts = (front_inside (in_front (h ∷ []) b) (front_inside b i h parts.1) g parts.0, front_inside (leaving f b) (leaving_inside b i f p) h parts.1)
  expanding_inside b i f p (WeakUntil g h) parts = tt

  step_on_inside : (b : Branch) → Inside b → (work : List FormulaId) → open_work b.done b.work ≡ work → StepInside (step_on ns b work)
  step_on_inside b i [] is = record { work = All-nil P; next = i.next }
  step_on_inside b i (f ∷ rest) is =
      let first : IsFirstOpen P b.done f rest = first_open P b.done b.work f rest is i.work in
      expanding_inside (record b { work = rest; done = with_id b.done f }) (record { work = first.others; next = i.next }) f first.first (node_at ns f.0) (closed f first.first)

  inside_below : (n : ℕ) → ((c : Branch) → Inside c → (leaf : Branch) → Contains (leaves_within n ns c) (Some leaf) → Inside leaf) → (s : Step) → StepInside s → (leaf : Branch) → Contains (leaves_below (leaves_within n ns) s) (Some leaf) → Inside leaf
  inside_below n below (Leaf c) i leaf there =
      elim (Contains-cases (Some c) [] (Some leaf) there) [
        | inl same ↦ (let e : c ≡ leaf = cc in subst (λ (x : Branch). Inside x) e i)
        | inr none ↦ absurd (Contains-none (Some leaf) none)
      ]
  inside_below n below Dead i leaf there =
      elim (Contains-cases None [] (Some leaf) there) [
        | inl wrong ↦ absurd (let contra : ⊥ = cc in contra)
        | inr none ↦ absurd (Contains-none (Some leaf) none)
      ]
  inside_below n below (On c) i leaf there = below c i leaf there
  inside_below n below (Split c d) i leaf there =
      elim (Contains-append_cases (leaves_within n ns c) (leaves_within n ns d) (Some leaf) there) [
        | inl first ↦ below c i.0 leaf first
        | inr second ↦ below d i.1 leaf second
      ]

  leaf_inside : (n : ℕ) (b : Branch) → Inside b → (leaf : Branch) → Contains (leaves_within n ns b) (Some leaf) → Inside leaf
  leaf_inside zero b i leaf there = absurd (Contains-none (Some leaf) there)
  leaf_inside (suc n) b i leaf there = inside_below n (leaf_inside n) (step ns b) (step_on_inside b i (open_work b.done b.work) refl) leaf there

  pub next_kept : (covering : Covering) (set : List FormulaId) → All P set → (c : Cover) → Contains (covers_by covering ns set) c → All P c.next
  next_kept covering set all c there =
      let r : (leaf : Branch) × Contains (set_leaves ns set) (Some leaf) × (cover_by covering ns leaf ≡ c) = alive_from (cover_by covering ns) (set_leaves ns set) c (covers_from covering ns set c there) in
      let i : Inside r.0 =
      leaf_inside (suc (undone (start_branch ns set).done)) (start_branch ns set) (record { work = all; next = λ f h. absurd (has_id-none (length ns) f h) }) r.0 r.1 in
      subst (λ (x : Cover). All P x.next) r.2
      (All-from_contains P (cover_by covering ns r.0).next (λ f h. i.next f (left_from covering ns r.0.next f h)))

-- the formulas of a set, and those that its covers leave, are in normal form
module _ (ns : List Node) (list : IsNodeList ns) where
  abbrev pub StandsNormal : FormulaId → Type 0
  StandsNormal f = IsNodeIn ns f × IsNormal (tree_at ns f)

  stands_normal : (f : FormulaId) → IsNodeIn ns f → (node : Node) → PartsBelow f.0 node → NodeIsNormal ns node → PartsAre StandsNormal node
  stands_normal f h True parts n = tt
  stands_normal f h False parts n = tt
  stands_normal f h (Signal k) parts n = tt
  stands_normal f h (Not g) parts n = tt
  stands_normal f h (Next g) parts n = (let p : g.0 < f.0 = parts in omega arith, n)
  stands_normal f h (Finally g) parts n = tt
  stands_normal f h (Globally g) parts n = tt
  stands_normal f h (And g k) parts n = ((let p : g.0 < f.0 = parts.0 in omega arith, n.0), (let p : k.0 < f.0 = parts.1 in omega arith, n.1))
  stands_normal f h (Or g k) parts n = ((let p : g.0 < f.0 = parts.0 in omega arith, n.0), (let p : k.0 < f.0 = parts.1 in omega arith, n.1))
  stands_normal f h (Implies g k) parts n = tt
  stands_normal f h (Equiv g k) parts n = tt
  stands_normal f h (Until g k) parts n = ((let p : g.0 < f.0 = parts.0 in omega arith, n.0), (let p : k.0 < f.0 = parts.1 in omega arith, n.1))
  stands_normal f h (Release g k) parts n = ((let p : g.0 < f.0 = parts.0 in omega arith, n.0), (let p : k.0 < f.0 = parts.1 in omega arith, n.1))
  stands_normal f h (WeakUntil g k) parts n = tt

  normal_closed : (f : FormulaId) → StandsNormal f → PartsAre StandsNormal (node_at ns f.0)
  normal_closed f h = stands_normal f h.0 (node_at ns f.0) (list.parts_first f.0) (node_normal ns list f h.0 h.1)

  pub next_normal : (covering : Covering) (set : List FormulaId) → AreNormal ns set → (c : Cover) → Contains (covers_by covering ns set) c → AreNormal ns c.next
  next_normal covering set normal c there = next_kept ns StandsNormal normal_closed covering set normal c there
