use Rattle.std.specs.Prelude.{◌≡◌, ◌<◌, ℕ, suc, List, Contains, length}
use Rattle.letters_and_lassos.specs.Cube.{Fits}
use Rattle.letters_and_lassos.specs.Word.{Word, nth_letter}
use Rattle.letters_and_lassos.specs.declared.letters.Letter.{Letter}
use Rattle.ltl_formula.specs.declared.nodes.FormulaId.{FormulaId}
use Rattle.ltl_formula.specs.declared.nodes.Node.{Node}
use Rattle.obligation_sets.specs.declared.sets.Covering.{Covering}
use Rattle.obligation_sets.specs.declared.sets.Cover.{Cover}
use Rattle.obligation_sets.specs.Reduced.{covers_by}
use Rattle.cobuchi_build.specs.declared.exploring.State.{State}
use Rattle.cobuchi_build.specs.Explored.{start_state, state_after}
use Rattle.cobuchi_build.specs.Occurring.{untils_of}

-- a step from a state on a letter: a cover of its set whose cube the letter fits leads to the next state
pub record IsStep (covering : Covering) (ns : List Node) (untils : List FormulaId) (letter : Letter) (from to : State) : Type 0 where
  pub cover : Cover
  pub is_cover : Contains (covers_by covering ns from.set) cover
  pub fits : Fits cover.cube letter
  pub leads : to ≡ state_after untils from.counter cover

-- a later time at which the counter is the number of untils
pub record ComesToEnd (untils : List FormulaId) (state : ℕ → State) (t : ℕ) : Type 0 where
  pub time : ℕ
  pub later : t < time
  pub ended : (state time).counter ≡ length untils

-- a path of the states of f along a word, each state named by its set of obligations and its counter: it begins with
-- ({f}, 0), each step is one on the word's letter, and behind each there is a state whose counter is the number of untils
pub record HasPath (covering : Covering) (ns : List Node) (f : FormulaId) (w : Word) : Type 0 where
  pub state : ℕ → State
  pub starts : state 0 ≡ start_state f
  pub steps : (t : ℕ) → IsStep covering ns (untils_of ns f) (nth_letter w t) (state t) (state (suc t))
  pub ends : (t : ℕ) → ComesToEnd (untils_of ns f) state t
