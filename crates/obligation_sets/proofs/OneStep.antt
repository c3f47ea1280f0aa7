use Rattle.std.proofs.Common.{◌≡◌, ℕ, ◌<◌, Bool, true, false, not, ◌&&◌, ◌||◌, List, refl, sym, ◌∙◌, ap}
use Rattle.letters_and_lassos.specs.Signals.{has}
use Rattle.letters_and_lassos.specs.Word.{Word, HasRing, lasso_len, letter_at, next}
use Rattle.letters_and_lassos.specs.declared.letters.Letter.{Letter}
use Rattle.ltl_formula.specs.declared.nodes.FormulaId.{FormulaId}
use Rattle.ltl_formula.specs.declared.nodes.Node.{Node}
use Rattle.ltl_formula.specs.declared.nodes.Node.TheVariants.{True, False, Signal, Not, Next, Finally, Globally, And, Or, Implies, Equiv, Until, Release, WeakUntil}
use Rattle.ltl_formula.specs.Nodes.{IsNodeList, IsNodeIn, node_at, tree_at, tree_of, trees_of}
use Rattle.ltl_formula.specs.Truth.{holds}
use Rattle.ltl_formula.proofs.Ahead.{until_at-unfold, release_at-unfold}
use Rattle.ltl_formula.proofs.Trees.{tree_at-node}
use Rattle.ltl_formula.specs.NormalForm.{IsNormal, IsSignal}

-- the truth of a formula by that of its parts now, and of what it leaves to the next position
abbrev pub value : Letter → (FormulaId → Bool) → (FormulaId → Bool) → FormulaId → Node → Bool
value letter now later f True = true
value letter now later f False = false
value letter now later f (Signal k) = has letter.0 k
value letter now later f (Not g) = not (now g)
value letter now later f (Next g) = later g
value letter now later f (Finally g) = now f
value letter now later f (Globally g) = now f
value letter now later f (And g h) = now g && now h
value letter now later f (Or g h) = now g || now h
value letter now later f (Implies g h) = now f
value letter now later f (Equiv g h) = now f
value letter now later f (Until g h) = now h || (now g && later f)
value letter now later f (Release g h) = now h && (now g || later f)
value letter now later f (WeakUntil g h) = now f

-- what is true now goes by the letter and by what is true next
pub record IsOneStep (ns : List Node) (letter : Letter) (now later : FormulaId → Bool) : Type 0 where
  pub means : (f : FormulaId) → IsNodeIn ns f → now f ≡ value letter now later f (node_at ns f.0)

module _ (ns : List Node) (w : Word) (ring : HasRing w) (i : ℕ) (within : i < lasso_len w) where
  value_of : (f : FormulaId) (node : Node) → tree_at ns f ≡ tree_of (trees_of ns) node → holds w (tree_at ns f) i ≡ value (letter_at w i) (λ g. holds w (tree_at ns g) i) (λ g. holds w (tree_at ns g) (next w i)) f node
  value_of f True e = ap (λ t. holds w t i) e
  value_of f False e = ap (λ t. holds w t i) e
  value_of f (Signal k) e = ap (λ t. holds w t i) e
  value_of f (Not g) e = ap (λ t. holds w t i) e
  value_of f (Next g) e = ap (λ t. holds w t i) e
  value_of f (Finally g) e = refl
  value_of f (Globally g) e = refl
  value_of f (And g h) e = ap (λ t. holds w t i) e
  value_of f (Or g h) e = ap (λ t. holds w t i) e
  value_of f (Implies g h) e = refl
  value_of f (Equiv g h) e = refl
  value_of f (Until g h) e =
      ap (λ t. holds w t i) e ∙ until_at-unfold w (holds w (tree_at ns g)) (holds w (tree_at ns h)) i ring within
      ∙ ap (λ t. holds w (tree_at ns h) i || (holds w (tree_at ns g) i && holds w t (next w i))) (sym e)
  value_of f (Release g h) e =
      ap (λ t. holds w t i) e ∙ release_at-unfold w (holds w (tree_at ns g)) (holds w (tree_at ns h)) i ring within
      ∙ ap (λ t. holds w (tree_at ns h) i && (holds w (tree_at ns g) i || holds w t (next w i))) (sym e)
  value_of f (WeakUntil g h) e = refl

  -- truth on a lasso is such a step
  pub one_step : IsNodeList ns → IsOneStep ns (letter_at w i) (λ g. holds w (tree_at ns g) i) (λ g. holds w (tree_at ns g) (next w i))
  one_step list = record { means = λ f stands. value_of f (node_at ns f.0) (tree_at-node ns f.0 stands (list.parts_first f.0)) }

-- a node is in normal form, with its parts
abbrev pub NodeIsNormal : List Node → Node → Type 0
NodeIsNormal ns True = Unit {0}
NodeIsNormal ns False = Unit {0}
NodeIsNormal ns (Signal k) = Unit {0}
NodeIsNormal ns (Not g) = IsSignal (tree_at ns g)
NodeIsNormal ns (Next g) = IsNormal (tree_at ns g)
NodeIsNormal ns (Finally g) = ⊥
NodeIsNormal ns (Globally g) = ⊥
NodeIsNormal ns (And g h) = IsNormal (tree_at ns g) × IsNormal (tree_at ns h)
NodeIsNormal ns (Or g h) = IsNormal (tree_at ns g) × IsNormal (tree_at ns h)
NodeIsNormal ns (Implies g h) = ⊥
NodeIsNormal ns (Equiv g h) = ⊥
NodeIsNormal ns (Until g h) = IsNormal (tree_at ns g) × IsNormal (tree_at ns h)
NodeIsNormal ns (Release g h) = IsNormal (tree_at ns g) × IsNormal (tree_at ns h)
NodeIsNormal ns (WeakUntil g h) = ⊥

normal_of : (ns : List Node) (node : Node) → IsNormal (tree_of (trees_of ns) node) → NodeIsNormal ns node
normal_of ns True h = tt
normal_of ns False h = tt
normal_of ns (Signal k) h = tt
normal_of ns (Not g) h = h
normal_of ns (Next g) h = h
normal_of ns (Finally g) h = h
normal_of ns (Globally g) h = h
normal_of ns (And g h) n = n
normal_of ns (Or g h) n = n
normal_of ns (Implies g h) n = n
normal_of ns (Equiv g h) n = n
normal_of ns (Until g h) n = n
normal_of ns (Release g h) n = n
normal_of ns (WeakUntil g h) n = n

pub node_normal : (ns : List Node) → IsNodeList ns → (f : FormulaId) → IsNodeIn ns f → IsNormal (tree_at ns f) → NodeIsNormal ns (node_at ns f.0)
node_normal ns list f stands h = normal_of ns (node_at ns f.0) (rw (tree_at-node ns f.0 stands (list.parts_first f.0)) at h)

-- the node of a signal's id
abbrev pub NodeIsSignal : Node → Type 0
NodeIsSignal (Signal k) = Unit {0}
NodeIsSignal _ = ⊥

signal_of : (ns : List Node) (node : Node) → IsSignal (tree_of (trees_of ns) node) → NodeIsSignal node
signal_of ns (Signal k) h = tt
signal_of ns True h = h
signal_of ns False h = h
signal_of ns (Not g) h = h
signal_of ns (Next g) h = h
signal_of ns (Finally g) h = h
signal_of ns (Globally g) h = h
signal_of ns (And g h) n = n
signal_of ns (Or g h) n = n
signal_of ns (Implies g h) n = n
signal_of ns (Equiv g h) n = n
signal_of ns (Until g h) n = n
signal_of ns (Release g h) n = n
signal_of ns (WeakUntil g h) n = n

pub node_signal : (ns : List Node) → IsNodeList ns → (f : FormulaId) → IsNodeIn ns f → IsSignal (tree_at ns f) → NodeIsSignal (node_at ns f.0)
node_signal ns list f stands h = signal_of ns (node_at ns f.0) (rw (tree_at-node ns f.0 stands (list.parts_first f.0)) at h)
