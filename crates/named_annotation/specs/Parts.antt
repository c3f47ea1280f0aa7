-- What the reader of an annotation over named states has so far (this project's own).
use Rattle.std.specs.Prelude.{◌≡◌, ◌+◌, ◌^◌, ◌<◌, ◌≤◌, ℕ, List, [], ◌∷◌, ◌++◌, All, Option, Some, None, Err, length, map, option_map, if◌then◌else◌}
use Rattle.ltl_formula.specs.declared.nodes.FormulaId.{FormulaId}
use Rattle.ltl_formula.specs.declared.nodes.Node.{Node}
use Rattle.ltl_formula.specs.Nodes.{IsNodeIn}
use Rattle.obligation_sets.specs.declared.sets.Covering.{Covering}
use Rattle.obligation_sets.specs.Reduced.{covers_by}
use Rattle.cobuchi_build.specs.declared.exploring.State.{State}
use Rattle.cobuchi_build.specs.Explored.{start_state}
use Rattle.cobuchi_build.specs.Occurring.{occurring, untils_of}
use Rattle.annot_check.specs.declared.reading.Head.{Head}
use Rattle.annot_check.specs.AnnotationText.{pairs_in, pieces_of}
use Rattle.named_annotation.specs.declared.formula.OfFormula.{OfFormula}
use Rattle.named_annotation.specs.declared.reading.StatesRead.{StatesRead}
use Rattle.named_annotation.specs.declared.states.NamedStates.{NamedStates}
use Rattle.named_annotation.specs.declared.words.Counts.{Counts}
use Rattle.named_annotation.specs.NamedText.{is_of_formula, most_pairs, most_states, named_in, state_in, state_of, with_pairs}

-- it has the untils of the formula, the nodes that occur in it, and its start
pub record KnowsFormula (of : OfFormula) : Type 0 where
  pub stands : IsNodeIn of.formulas.now of.f
  pub untils : of.untils.items ≡ untils_of of.formulas.now of.f
  pub few : length of.untils.items < 2 ^ 32
  pub occurs : of.occurs.items ≡ occurring of.formulas.now of.f
  pub places : length of.occurs.items ≡ length of.formulas.now
  pub start : of.start ≡ start_state of.f

-- the states with the one that a line names, where it names one
abbrev pub next_of : List Node → FormulaId → List State → List ℕ → Option (List State)
next_of ns f done line = option_map (λ state. done ++ state ∷ []) (state_in ns f done line)

-- the state of these numbers, where it may be one of f
abbrev pub formula_state : List Node → FormulaId → List ℕ → Option State
formula_state ns f numbers = if is_of_formula ns f (state_of numbers) then Some (state_of numbers) else None

-- the covers of each state stand at its number, and the counters are at most the number of untils
pub record HasCovers (ns : List Node) (f : FormulaId) (named : NamedStates) : Type 0 where
  pub covers : map (λ covers. covers.items) named.covers.items ≡ map (λ state. covers_by Covering.Reduced ns state.set) named.states.keys
  pub counters : All (λ state. state.counter ≤ length (untils_of ns f)) named.states.keys

-- so many states were read below a head, and what is left to read gives what the whole gives
pub record StatesAreRead (ns : List Node) (f : FormulaId) (states : ℕ) (head : Head) (read : StatesRead) : Type 0 where
  pub whole : (latches h : ℕ) (counts : Counts) → counts.states ≡ states
      → with_pairs ns f h read.named.states.keys (pairs_in latches states counts.pairs [] (pieces_of read.rest.now) (read.line + 1))
      ≡ named_in latches ns f h counts [] (pieces_of head.rest.now) (head.line + 1)
  pub count : length read.named.states.keys ≡ states
  pub lines : read.line ≡ head.line + length read.named.states.keys
  pub within : read.line + length read.rest.now ≤ head.line + length head.rest.now

-- they end at a line that is refused
pub record StatesEndAt (ns : List Node) (f : FormulaId) (states : ℕ) (head : Head) (n : ℕ) : Type 0 where
  pub refused : (latches h : ℕ) (counts : Counts) → counts.states ≡ states
      → named_in latches ns f h counts [] (pieces_of head.rest.now) (head.line + 1) ≡ Err n
  pub within : n ≤ head.line + length head.rest.now + 1

-- the counts are within their limits
pub record IsWithinLimits (counts : Counts) : Type 0 where
  pub some : 0 < counts.states
  pub states : counts.states ≤ most_states
  pub pairs : counts.pairs ≤ most_pairs
