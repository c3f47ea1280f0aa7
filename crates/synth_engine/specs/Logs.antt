use Rattle.std.specs.Prelude.{◌≡◌, ℕ, zero, suc, ◌≤◌, List, [], ◌∷◌, ◌++◌, All, length}
use Rattle.propositional_logic.specs.Literal.{Literal}
use Rattle.letters_and_lassos.specs.declared.kinds.Side.{Side}
use Rattle.machine_model.specs.Machine.{MachineModel}
use Rattle.machine_model.specs.Problem.{sized}
use Rattle.machine_model.specs.declared.problems.Problem.{Problem}
use Rattle.annotation_encode.specs.BaseClauses.{base_clauses}
use Rattle.annotation_encode.specs.Variables.{variables_of}
use Rattle.refutation_log.specs.Entry.{AreSorted}
use Rattle.refutation_log.specs.Log.{IsClosed, IsFull, IsLegal}
use Rattle.refutation_log.specs.Teaches.{IsTaught}
use Rattle.size_board.specs.declared.events.Claim.{Claim}
use Rattle.size_search.specs.declared.size_log.SizeLog.{SizeLog}
use Rattle.size_search.specs.Decided.{IsAcceptedOf}
use Rattle.synth_engine.specs.declared.settings.Settings.{Settings}

-- the sizes 1 to n of a side, in their order
abbrev pub sizes_to : Side → ℕ → List Claim
sizes_to side zero = []
sizes_to side (suc n) = sizes_to side n ++ record { side = side; size = suc n } ∷ []

-- the side and the size of which a log is
abbrev pub log_claim : SizeLog → Claim
log_claim l = record { side = l.side; size = l.size }

-- the base clauses of a problem at some size
abbrev pub base_at : Problem → ℕ → List (List Literal)
base_at p n = base_clauses (sized p n)

-- A log of the problem at the log's size: with the numbers of variables and of base clauses of that problem; legal over
-- these base clauses and under the limit of the settings; taught; each clause in its one written order; and each entry is of a worker that the settings allow,
-- or of the caller, whose number is 0 (this project's own).
pub record IsLogOf (p : Problem) (settings : Settings) (l : SizeLog) : Type 0 where
  pub side : l.side ≡ p.side
  pub vars : l.vars ≡ variables_of (sized p l.size)
  pub base : l.base ≡ length (base_at p l.size)
  pub limit : l.log.limit ≡ settings.entries
  pub legal : IsLegal l.vars (base_at p l.size) settings.entries l.log.entries
  pub taught : IsTaught (base_at p l.size) l.log.entries
  pub sorted : AreSorted l.log.entries
  pub by : All (λ e. e.by ≤ settings.workers) l.log.entries

-- The log is closed over its problem's base clauses.
abbrev pub IsClosedLog : Problem → Settings → SizeLog → Type 0
IsClosedLog p settings l = IsClosed l.vars (base_at p l.size) settings.entries l.log.entries

-- The log is full.
abbrev pub IsFullLog : Problem → Settings → SizeLog → Type 0
IsFullLog p settings l = IsFull l.vars (base_at p l.size) settings.entries l.log.entries

-- The problem's side accepts no machine of this size.
abbrev pub HasNone : Problem → ℕ → Type 0
HasNone p n = (m : MachineModel) → IsAcceptedOf (sized p n) m → ⊥
