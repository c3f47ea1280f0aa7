-- What a text gives, as the checker is passed it (this project's own).
use Rattle.std.specs.Prelude.{◌≡◌, ◌+◌, ◌<◌, ◌≤◌, ◌^◌, ⊤, List, [], ◌∷◌, ℕ, Option, Some, None, All, IfSome, length}
use Rattle.std.specs.Option.{option_copied, option_map_or}
use Rattle.machine_model.specs.declared.problems.Problem.{Problem}
use Rattle.machine_model.specs.Counting.{CountsBy}
use Rattle.machine_model.specs.Problem.{IsProblem, automaton_of, parts_of}
use Rattle.machine_model.specs.declared.counting.Counts.{Counts}
use Rattle.machine_model.specs.declared.counting.Counts.TheVariants.{Local, Whole}
use Rattle.refutation_log.specs.Text.{IsWritable}
use Rattle.document_text.specs.declared.header.Header.{Header}
use Rattle.document_text.specs.Parts.{LogPart}
use Rattle.document_check.specs.declared.counted.Counted.{Counted}
use Rattle.document_check.specs.declared.facts.TextFacts.{TextFacts}
use Rattle.document_text.specs.declared.order.Place.{Place}
use Rattle.document_check.specs.Alike.{shape_of}
use Rattle.document_check.specs.Facts.{Facts, counts_for}

abbrev pub facts_of : TextFacts → Facts
facts_of t = record { inputs = t.inputs.now; outputs = t.outputs.now; system = t.system.now; environment = option_copied t.environment }

-- both problems are within the limits of the calls that take one
pub record AreFacts (facts : Facts) : Type 0 where
  pub system : IsProblem facts.system
  pub environment : IfSome facts.environment IsProblem

-- a problem within these limits, whose numbers count by component where those of a document of this version do
pub record IsReadyFor (version : ℕ) (p : Problem) : Type 0 where
  pub problem : IsProblem p
  pub counting : counts_for version ≡ Local → CountsBy (automaton_of p) p.counting

-- both problems are such
pub record AreFactsFor (version : ℕ) (facts : Facts) : Type 0 where
  pub system : IsReadyFor version facts.system
  pub environment : IfSome facts.environment (IsReadyFor version)

-- they are such for the version that a header states
abbrev pub AreFactsIn : Header → Facts → Type 0
AreFactsIn header facts = IfSome header.version (λ version. AreFactsFor version facts)

-- what numbers count where a header states a version; without one nothing is tested over base clauses
abbrev pub counts_of : Header → Counts
counts_of header = option_map_or counts_for header.version Whole

-- the problem of the same machines, whose numbers count by component
pub record IsCounted (p q : Problem) : Type 0 where
  pub problem : IsProblem q
  pub counting : CountsBy (automaton_of q) q.counting
  pub shape : shape_of q ≡ shape_of p

-- the same of the environment's, if there is one
abbrev pub IsCountedIfAny : Option Problem → Option Problem → Type 0
IsCountedIfAny None None = ⊤
IsCountedIfAny None (Some q) = ⊥
IsCountedIfAny (Some p) None = ⊥
IsCountedIfAny (Some p) (Some q) = IsCounted p q

pub record AreCounted (facts : Facts) (counted : Counted) : Type 0 where
  pub system : IsCounted facts.system counted.system
  pub environment : IsCountedIfAny facts.environment counted.environment

-- a problem that says the same as this one, if there is one
abbrev pub IsProblemAt : Option Problem → Option Problem → Type 0
IsProblemAt None None = ⊤
IsProblemAt None (Some q) = ⊥
IsProblemAt (Some p) None = ⊥
IsProblemAt (Some p) (Some q) = parts_of q ≡ parts_of p

-- a log that was read: lines may state its entries, and its lines have numbers
pub record IsReadable (l : LogPart) : Type 0 where
  pub entries : All (IsWritable l.vars) l.entries
  pub lines : l.line + 1 + length l.entries < 2 ^ 64

-- a number of states that a problem may have
pub record IsSize (s : Place) : Type 0 where
  pub some : 1 ≤ s.size
  pub few : s.size ≤ 8

-- the first element, and those behind it
abbrev pub uncons : {X : Type 0} → List X → Option (X × List X)
uncons [] = None
uncons (x ∷ xs) = Some (x, xs)

-- the line of the first log
abbrev pub line_of_first : List LogPart → Option ℕ
line_of_first [] = None
line_of_first (l ∷ logs) = Some l.line
