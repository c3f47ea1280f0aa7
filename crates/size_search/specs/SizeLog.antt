use Rattle.std.specs.Prelude.{◌≡◌, List, length}
use Rattle.machine_model.specs.declared.problems.Problem.{Problem}
use Rattle.annotation_encode.specs.BaseClauses.{base_clauses}
use Rattle.annotation_encode.specs.Variables.{variables_of}
use Rattle.refutation_log.specs.declared.entries.Entry.{Entry}
use Rattle.refutation_log.specs.Entry.{AreSorted}
use Rattle.clause_exchange.specs.SharedLog.{IsLogOn}
use Rattle.clause_exchange.specs.declared.views.Terms.{Terms}
use Rattle.size_search.specs.declared.size_log.SizeLog.{SizeLog}
use Rattle.size_search.specs.Decided.{IsClosedOn, IsFullOn}

-- The log of a problem's size: with the problem's side, size and numbers of variables and base clauses, legal and taught over these
-- clauses and under the limit, with entries of the log's seats alone, each clause in its one written order (this project's own).
pub record IsSizeLog (p : Problem) (terms : Terms) (l : SizeLog) : Type 0 where
  pub side : l.side ≡ p.side
  pub size : l.size ≡ p.size
  pub vars : l.vars ≡ variables_of p
  pub base : l.base ≡ length (base_clauses p)
  pub limit : l.log.limit ≡ terms.limit
  pub log : IsLogOn terms l.log.entries
  pub sorted : AreSorted l.log.entries

-- Where what was seen of a log was closed or full, it is the whole log.
pub record HoldsEnded (terms : Terms) (log seen : List Entry) : Type 0 where
  pub closed : IsClosedOn terms seen → log ≡ seen
  pub full : IsFullOn terms seen → log ≡ seen
