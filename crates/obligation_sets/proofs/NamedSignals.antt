-- The cubes of a set's leaves name no signals but those of the list.
use Rattle.std.proofs.Common.{◌≡◌, ℕ, zero, suc, ◌^◌, ◌<◌, inl, inr, Bool, true, false, List, [], ◌∷◌, Option, None, Some, refl, sym, subst}
use Rattle.std.specs.Prelude.{Contains, bit_or}
use Rattle.std.proofs.lemmas.List.Elements.{Contains-append_cases}
use Rattle.std.proofs.lemmas.Nat.{or_lt}
use Rattle.std.proofs.Math.Pow.{pow-lt, pow_pos}
use Rattle.std_lemmas.proofs.Lists.{Contains-cases, Contains-none, All-from_contains}
use Rattle.letters_and_lassos.specs.Signals.{has}
use Rattle.letters_and_lassos.specs.declared.cubes.Cube.{Cube}
use Rattle.ltl_formula.specs.declared.nodes.FormulaId.{FormulaId}
use Rattle.ltl_formula.specs.declared.nodes.Node.{Node}
use Rattle.ltl_formula.specs.declared.nodes.Node.TheVariants.{True, False, Signal, Not, Next, Finally, Globally, And, Or, Implies, Equiv, Until, Release, WeakUntil}
use Rattle.ltl_formula.specs.ListSignals.{HasSignalsBelow}
use Rattle.ltl_formula.specs.Nodes.{SignalBelow, node_at}
use Rattle.obligation_sets.specs.declared.branches.Step.{Step}
use Rattle.obligation_sets.specs.declared.branches.Step.TheVariants.{Leaf, Dead, On, Split}
use Rattle.obligation_sets.specs.declared.sets.Cover.{Cover}
use Rattle.obligation_sets.specs.declared.sets.Covering.{Covering}
use Rattle.obligation_sets.specs.Branch.{Branch}
use Rattle.obligation_sets.specs.CoverSignals.{CoversNameSignals, NameSignalsOf, NamesSignals}
use Rattle.obligation_sets.specs.Covers.{leaves_below, leaves_within, set_leaves, start_branch}
use Rattle.obligation_sets.specs.Reduced.{cover_by, covers_by}
use Rattle.obligation_sets.specs.Cubes.{forbidding, forbidding_at, wanting, wanting_at}
use Rattle.obligation_sets.specs.Ids.{with_id}
use Rattle.obligation_sets.specs.OpenWork.{open_work}
use Rattle.obligation_sets.specs.Steps.{expanding, joining, opposing, step, step_on, undone}
use Rattle.obligation_sets.proofs.LessAsked.{covers_from}
use Rattle.obligation_sets.proofs.NextStep.{alive_from}

module _ (n : ℕ) (ns : List Node) (below : HasSignalsBelow n ns) where
  -- the cube names only the first n signals
  record Inside (cube : Cube) : Type 0 where
    must : cube.must < 2 ^ n
    none_of : cube.not < 2 ^ n

  abbrev CubeInside : Option Cube → Type 0
  CubeInside None = Unit {0}
  CubeInside (Some cube) = Inside cube

  abbrev StepInside : Step → Type 0
  StepInside (Leaf b) = Inside b.cube
  StepInside Dead = Unit {0}
  StepInside (On b) = Inside b.cube
  StepInside (Split b c) = Inside b.cube × Inside c.cube

  added : (set k : ℕ) → set < 2 ^ n → k < n → bit_or set (2 ^ k) < 2 ^ n
  added set k h small = or_lt n set (2 ^ k) h (pow-lt small)

  wanting_inside : (cube : Cube) (k : ℕ) → Inside cube → k < n → CubeInside (wanting cube k)
  wanting_inside cube k i small = by (has cube.not k) refl
    where
      by : (forbidden : Bool) (e : has cube.not k ≡ forbidden) → CubeInside (wanting_at cube k forbidden e)
      by true e = tt
      by false e = record { must = added cube.must k i.must small; none_of = i.none_of }

  forbidding_inside : (cube : Cube) (k : ℕ) → Inside cube → k < n → CubeInside (forbidding cube k)
  forbidding_inside cube k i small = by (has cube.must k) refl
    where
      by : (wanted : Bool) (e : has cube.must k ≡ wanted) → CubeInside (forbidding_at cube k wanted e)
      by true e = tt
      by false e = record { must = i.must; none_of = added cube.not k i.none_of small }

  joining_inside : (b : Branch) (o : Option Cube) → CubeInside o → StepInside (joining b o)
  joining_inside b None i = tt
  joining_inside b (Some cube) i = i

  opposing_inside : (b : Branch) → Inside b.cube → (node : Node) → SignalBelow n node → StepInside (opposing b node)
  opposing_inside b i (Signal k) small = joining_inside b (forbidding b.cube k) (forbidding_inside b.cube k i small)
  opposing_inside b i _ small = tt

  expanding_inside : (b : Branch) → Inside b.cube → (f : FormulaId) (node : Node) → SignalBelow n node → StepInside (expanding ns b f node)
  expanding_inside b i f True small = i
  expanding_inside b i f False small = tt
  expanding_inside b i f (Signal k) small = joining_inside b (wanting b.cube k) (wanting_inside b.cube k i small)
  expanding_inside b i f (Not g) small = opposing_inside b i (node_at ns g.0) (below.nodes_below g.0)
  expanding_inside b i f (Next g) small = i
  expanding_inside b i f (Finally g) small = tt
  expanding_inside b i f (Globally g) small = tt
  expanding_inside b i f (And g h) small = i
  expanding_inside b i f (Or g h) small = (i, i)
  expanding_inside b i f (Implies g h) small = tt
  expanding_inside b i f (Equiv g h) small = tt
  expanding_inside b i f (Until g h) small = (i, i)
  expanding_inside b i f (Release g h) small = (i, i)
  expanding_inside b i f (WeakUntil g h) small = tt

  step_on_inside : (b : Branch) → Inside b.cube → (work : List FormulaId) → StepInside (step_on ns b work)
  step_on_inside b i [] = i
  step_on_inside b i (f ∷ rest) = expanding_inside (record b { work = rest; done = with_id b.done f }) i f (node_at ns f.0) (below.nodes_below f.0)

  inside_below : (fuel : ℕ) → ((c : Branch) → Inside c.cube → (leaf : Branch) → Contains (leaves_within fuel ns c) (Some leaf) → Inside leaf.cube) → (s : Step) → StepInside s → (leaf : Branch)
      → Contains (leaves_below (leaves_within fuel ns) s) (Some leaf) → Inside leaf.cube
  inside_below fuel each (Leaf c) i leaf there =
      elim (Contains-cases (Some c) [] (Some leaf) there) [
        | inl same ↦ (let e : c ≡ leaf = cc in subst (λ (x : Branch). Inside x.cube) e i)
        | inr none ↦ absurd (Contains-none (Some leaf) none)
      ]
  inside_below fuel each Dead i leaf there =
      elim (Contains-cases None [] (Some leaf) there) [
        | inl wrong ↦ absurd (let contra : ⊥ = cc in contra)
        | inr none ↦ absurd (Contains-none (Some leaf) none)
      ]
  inside_below fuel each (On c) i leaf there = each c i leaf there
  inside_below fuel each (Split c d) i leaf there =
      elim (Contains-append_cases (leaves_within fuel ns c) (leaves_within fuel ns d) (Some leaf) there) [
        | inl first ↦ each c i.0 leaf first
        | inr second ↦ each d i.1 leaf second
      ]

  leaf_inside : (fuel : ℕ) (b : Branch) → Inside b.cube → (leaf : Branch) → Contains (leaves_within fuel ns b) (Some leaf) → Inside leaf.cube
  leaf_inside zero b i leaf there = absurd (Contains-none (Some leaf) there)
  leaf_inside (suc fuel) b i leaf there = inside_below fuel (leaf_inside fuel) (step ns b) (step_on_inside b i (open_work b.done b.work)) leaf there

  cover_named : (covering : Covering) (set : List FormulaId) (c : Cover) → Contains (covers_by covering ns set) c → NamesSignals n c
  cover_named covering set c there =
      let r : (leaf : Branch) × Contains (set_leaves ns set) (Some leaf) × (cover_by covering ns leaf ≡ c) = alive_from (cover_by covering ns) (set_leaves ns set) c (covers_from covering ns set c there) in
      let i : Inside r.0.cube = leaf_inside (suc (undone (start_branch ns set).done)) (start_branch ns set) (record { must = pow_pos n; none_of = pow_pos n }) r.0 r.1 in
      subst (λ (x : Cover). NamesSignals n x) r.2 (record { must = i.must; none_of = i.none_of })

-- the covers of a set name no signals but those of the list
pub covers_name_signals : CoversNameSignals
covers_name_signals covering ns set = record { named = λ n below. All-from_contains (NamesSignals n) (covers_by covering ns set) (cover_named n ns below covering set) }

pub signals_named : (covering : Covering) (ns : List Node) (set : List FormulaId) (covers : List Cover) → covers ≡ covers_by covering ns set → NameSignalsOf ns covers
signals_named covering ns set covers is = subst (NameSignalsOf ns) (sym is) (covers_name_signals covering ns set)
