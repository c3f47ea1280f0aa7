-- What the parts of the code are given (this project's own).
use Rattle.std.specs.Prelude.{◌≡◌, ℕ, ◌+◌, ◌<◌, ◌≤◌, ◌^◌, Option, Some, None, length, if◌then◌else◌}
use Rattle.text_limits.specs.declared.TheConstants.{LARGE_LIMITS}
use Rattle.ltl_formula.specs.NormalForm.{IsNormal}
use Rattle.ltl_formula.specs.Nodes.{IsNodeIn, tree_at}
use Rattle.machine_model.specs.Automaton.{AutomatonModel, states_of}
use Rattle.machine_model.specs.Problem.{automaton_of, parts_of, sized}
use Rattle.machine_model.specs.declared.problems.Problem.{Problem}
use Rattle.refutation_log.specs.Log.{is_ended}
use Rattle.log_checker.specs.declared.faults.LogFault.{LogFault}
use Rattle.log_checker.specs.declared.faults.LogFault.TheVariants.{BadHint, NotFalsified, Repeated, NotClosed, AfterEnd, OverLimit, NoMemory}
use Rattle.log_checker.specs.Hinted.{AreWithin}
use Rattle.solved_text.specs.Parts.{SizeLog}
use Rattle.size_refutations.specs.declared.grounds.Sought.{Sought}
use Rattle.size_refutations.specs.Ground.{HasNoAutomaton, IsAutomatonFor, IsSizeOf, LogGround}

abbrev pub ground_of : Sought → LogGround
ground_of s = record { nodes = s.formulas.now; form = s.form; side = s.side; kind = s.kind; inputs = s.inputs; outputs = s.outputs }

-- the form stands in the list in normal form, and there are few signals
pub record IsSought (g : LogGround) : Type 0 where
  pub stands : IsNodeIn g.nodes g.form
  pub normal : IsNormal (tree_at g.nodes g.form)
  pub few_inputs : g.inputs ≤ LARGE_LIMITS.signals
  pub few_outputs : g.outputs ≤ LARGE_LIMITS.signals

-- the side's automaton, or none where it has none
abbrev pub IsAutomatonOrNone : LogGround → Option AutomatonModel → Type 0
IsAutomatonOrNone g None = HasNoAutomaton g
IsAutomatonOrNone g (Some a) = IsAutomatonFor g a

-- the problem of the ground's machines of one state
pub record IsSearchOf (g : LogGround) (s : Problem) : Type 0 where
  pub few_inputs : g.inputs ≤ LARGE_LIMITS.signals
  pub few_outputs : g.outputs ≤ LARGE_LIMITS.signals
  pub problem : IsSizeOf g 1 s
  pub states : states_of (automaton_of s) ≤ LARGE_LIMITS.automaton.states

-- a problem has the parts of a search's problem, for so many states
abbrev pub IsSizedAs : Problem → ℕ → Problem → Type 0
IsSizedAs s n p = parts_of p ≡ parts_of (sized s n)

-- what is kept of a ground is its search, or none where it has no automaton
abbrev pub IsSearched : LogGround → Option Problem → Type 0
IsSearched g None = HasNoAutomaton g
IsSearched g (Some s) = IsSearchOf g s

-- what is kept of a ground, whose signals are few
pub record IsKeptProblem (g : LogGround) (kept : Option Problem) : Type 0 where
  pub few_inputs : g.inputs ≤ LARGE_LIMITS.signals
  pub few_outputs : g.outputs ≤ LARGE_LIMITS.signals
  pub searched : IsSearched g kept

-- a log that was read: its entries are over its variables, and its lines have numbers
pub record IsReadLog (l : SizeLog) : Type 0 where
  pub entries : AreWithin l.vars l.entries
  pub lines : l.line + 1 + length l.entries < 2 ^ 64

-- the place that a fault of a log names
abbrev pub entry_named : LogFault → ℕ
entry_named (BadHint e) = e
entry_named (NotFalsified e) = e
entry_named (Repeated e) = e
entry_named NotClosed = 0
entry_named (AfterEnd e) = e
entry_named (OverLimit e) = e
entry_named NoMemory = 0

-- the line of the entry that a fault names, which isn't want of memory
pub record NamesEntry (l : SizeLog) (fault : LogFault) (line : Option ℕ) : Type 0 where
  pub some : fault ≡ NoMemory → ⊥
  pub line_is : line ≡ Some (l.line + 1 + entry_named fault)

-- the line behind a legal log's last entry, where that isn't the empty clause
abbrev pub line_behind : SizeLog → Option ℕ
line_behind l = if is_ended l.entries then None else Some (l.line + 1 + length l.entries)
