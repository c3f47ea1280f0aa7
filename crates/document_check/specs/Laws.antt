-- Laws of documents and texts (this project's own).
use Rattle.std.specs.Prelude.{◌≡◌, ℕ, ⊤, true, List, [], ◌∷◌, IfSome}
use Rattle.letters_and_lassos.specs.declared.kinds.Kind.{Kind}
use Rattle.machine_model.specs.Automaton.{IsAutomaton}
use Rattle.machine_model.specs.Problem.{IsProblem, automaton_of}
use Rattle.annotation_encode.specs.Laws.{HasNoAccepted}
use Rattle.refutation_log.specs.Log.{is_ended}
use Rattle.document_text.specs.Parts.{LogPart, Document}
use Rattle.document_text.specs.States.{States}
use Rattle.document_check.specs.Alike.{AreAlike}
use Rattle.document_check.specs.Facts.{Facts, problem_at}
use Rattle.document_check.specs.Holds.{HoldsFor}
use Rattle.document_check.specs.FirstBad.{IsFirstBadFor}

-- Of a text at most one line is the first bad one, and none where the bytes state a document that holds for it.
pub record BadLinesAreDetermined : Type 0 where
  pub one_line : (facts : Facts) (bytes : List ℕ) (n m : ℕ) → IsFirstBadFor facts bytes n → IsFirstBadFor facts bytes m → n ≡ m
  pub holding_has_none : (facts : Facts) (bytes : List ℕ) (d : Document) (n : ℕ) → States bytes d → HoldsFor facts d → IsFirstBadFor facts bytes n → ⊥

-- each of these logs that ends with the empty clause refutes its size: its side accepts no machine of the problem
abbrev pub AllRefute : Facts → Kind → ℕ → List LogPart → Type 0
AllRefute facts kind version [] = ⊤
AllRefute facts kind version (l ∷ logs) =
    (is_ended l.entries ≡ true → IfSome (problem_at facts kind version l.side l.size) (λ p. IsProblem p → IsAutomaton (automaton_of p) → HasNoAccepted p))
    × AllRefute facts kind version logs

-- so do the closed logs of a document that holds (bounded synthesis of Finkbeiner and Schewe; clausal proofs)
abbrev pub ClosedLogsRefuteSizes : Type 0
ClosedLogsRefuteSizes = (facts : Facts) (d : Document) → HoldsFor facts d → AllRefute facts d.kind d.version d.logs

-- that a document holds, and which line is its first bad one, depend on names, and on the sides' automata and signals alone
pub record AlikeTextsCheckAlike : Type 0 where
  pub holds : (facts other : Facts) (d : Document) → AreAlike facts other → HoldsFor facts d → HoldsFor other d
  pub first_bad : (facts other : Facts) (bytes : List ℕ) (n : ℕ) → AreAlike facts other → IsFirstBadFor facts bytes n → IsFirstBadFor other bytes n
