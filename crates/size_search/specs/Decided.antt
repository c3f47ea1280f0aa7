use Rattle.std.specs.Prelude.{List}
use Rattle.machine_model.specs.Accepts.{SideAccepts}
use Rattle.machine_model.specs.Machine.{IsMachine, MachineModel}
use Rattle.machine_model.specs.Problem.{IsMachineOf, automaton_of}
use Rattle.machine_model.specs.declared.problems.Problem.{Problem}
use Rattle.refutation_log.specs.declared.entries.Entry.{Entry}
use Rattle.refutation_log.specs.Log.{IsClosed, IsFull}
use Rattle.clause_exchange.specs.declared.views.Terms.{Terms}
use Rattle.size_search.specs.declared.decided.Decided.{Decided}
use Rattle.size_search.specs.declared.decided.Decided.TheVariants.{Found, Refuted, Full}

-- A machine that a problem looks for, and that the problem's side accepts (bounded synthesis of Finkbeiner and Schewe).
pub record IsAcceptedOf (p : Problem) (m : MachineModel) : Type 0 where
  pub machine : IsMachine m
  pub looked_for : IsMachineOf p m
  pub accepted : SideAccepts (automaton_of p) p.side m

-- A log on these terms is closed, or full.
abbrev pub IsClosedOn : Terms → List Entry → Type 0
IsClosedOn terms log = IsClosed terms.vars terms.base terms.limit log

abbrev pub IsFullOn : Terms → List Entry → Type 0
IsFullOn terms log = IsFull terms.vars terms.base terms.limit log

-- How a size is decided: a machine was found; or the log that was seen is closed, and there is no machine to be found; or that log is
-- full (this project's own).
abbrev pub IsDecided : Problem → Terms → List Entry → Decided → Type 0
IsDecided p terms seen (Found machine) = IsAcceptedOf p machine
IsDecided p terms seen Refuted = IsClosedOn terms seen × ((m : MachineModel) → IsAcceptedOf p m → ⊥)
IsDecided p terms seen Full = IsFullOn terms seen
