-- How the outcome of a search is written (this project's own).
use Rattle.std.specs.Prelude.{◌≡◌, ℕ, ◌≤◌, ◌<◌, ◌^◌, List, [], Option, Some, None, All, IfSome, length, map, option_map, if◌then◌else◌}
use Rattle.letters_and_lassos.specs.declared.kinds.Kind.{Kind}
use Rattle.letters_and_lassos.specs.declared.kinds.Side.{Side}
use Rattle.letters_and_lassos.specs.declared.kinds.Side.TheVariants.{System, Environment}
use Rattle.machine_model.specs.Machine.{MachineModel, size_of}
use Rattle.machine_model.specs.Components.{ComponentsClass}
use Rattle.aiger_text.specs.Circuit.{Circuit, IsCircuitOfKind, RunsOnEveryInput}
use Rattle.aiger_text.specs.RoundTrip.{IsWritable}
use Rattle.circuit_names.specs.Names.{read_names, written_names}
use Rattle.gate_build.specs.Limits.{IsSmallMachine}
use Rattle.gate_build.specs.Laws.{HasTheRunsOf, HasTheStatesOf, SmallestMeetsAllStates}
use Rattle.annotation_encode.specs.Count.{SizesRise}
use Rattle.refutation_log.specs.Laws.{LegalLogsAreWritable}
use Rattle.size_laws.specs.Refuted.{ClosedLogsRefute}
use Rattle.document_check.specs.Holds.{first_open}
use Rattle.document_check.specs.Laws.{BadLinesAreDetermined}
use Rattle.satisfaction.specs.Laws.{CircuitsDefeat, CircuitsSatisfy}
use Rattle.spec_problems.specs.declared.sides.SideProblems.{SideProblems}
use Rattle.tlsf_expand.specs.Expansion.{Expanded}
use Rattle.size_search.specs.declared.size_log.SizeLog.{SizeLog}
use Rattle.synth_engine.specs.declared.settings.Settings.{Settings}
use Rattle.synth_engine.specs.Settings.{IsWithinBounds}
use Rattle.synth_engine.specs.declared.outcomes.Outcome.{Outcome}
use Rattle.synth_engine.specs.declared.outcomes.Found.{Found}
use Rattle.synth_engine.specs.Outcomes.{IsOutcomeOf}
use Rattle.document_text.specs.declared.documents.Verdict.{Verdict}
use Rattle.document_text.specs.declared.documents.Verdict.TheVariants.{Machine, Unknown}
use Rattle.document_text.specs.declared.order.Place.{Place}
use Rattle.document_text.specs.Order.{place, verdict_of}
use Rattle.document_text.specs.Parts.{Document, LogPart}
use Rattle.document_text.specs.WellFormed.{IsWellFormed}
use Rattle.document_text.specs.States.{States, numbered}
use Rattle.program_replies.specs.declared.replies.Status.{Status}
use Rattle.program_replies.specs.declared.replies.Status.TheVariants as status
use Rattle.text_ground.specs.Laws.{SidesMean}
use Rattle.text_ground.specs.Problems.{HaveAutomata}
use Rattle.synth_answer.specs.Holds.{document_version, text_names}

-- a log as a document has it
abbrev pub part_of : SizeLog → LogPart
part_of l = record { side = l.side; size = l.size; vars = l.vars; base = l.base; entries = l.log.entries; line = 0 }

-- the document that is written, before its lines have numbers
abbrev pub document_of : Kind → Settings → Verdict → Option Circuit → List LogPart → Document
document_of kind settings verdict circuit logs = record {
  version = document_version settings.counts;
  verdict = verdict;
  kind = kind;
  max = settings.max;
  entries = settings.entries;
  found = 0;
  circuit = circuit;
  logs = logs;
  name_lines = [];
  comment_line = 0;
  verdict_line = 0;
}

-- the bytes state a document if it is well formed and a file can hold its circuit
abbrev pub StatesIfGood : List ℕ → Document → Type 0
StatesIfGood bytes d = IsWellFormed d → IfSome d.circuit IsWritable → States bytes (numbered d)

-- the log is as short as memory holds
abbrev pub IsShort : SizeLog → Type 0
IsShort l = length l.log.entries < 2 ^ 63

-- the circuit of a machine, with names of what it reads and of what it writes
pub record IsCircuitWith (m : MachineModel) (reads writes : List (List ℕ)) (c : Circuit) : Type 0 where
  pub kind : IsCircuitOfKind m.kind c
  pub runs : HasTheRunsOf m c
  pub states : HasTheStatesOf m c
  pub variables : c.variables ≤ 67562
  pub inputs : c.input_names ≡ map Some reads
  pub outputs : c.output_names ≡ map Some writes
  pub every : (side : Side) → RunsOnEveryInput side c

-- the same of a side's machine, with the names of a text
abbrev pub IsCircuitFor : Expanded → Side → MachineModel → Circuit → Type 0
IsCircuitFor x side m c = IsCircuitWith m (read_names (text_names x) side) (written_names (text_names x) side) c

-- there is a circuit where a machine was found, and it is that machine's
abbrev pub IsCircuitOfFound : Expanded → Option Found → Option Circuit → Type 0
IsCircuitOfFound x None c = c ≡ None
IsCircuitOfFound x (Some found) None = ⊥
IsCircuitOfFound x (Some found) (Some c) = IsCircuitFor x found.side found.machine c

-- a small machine, with as many signals as there are names
pub record FitsNames (x : Expanded) (side : Side) (m : MachineModel) : Type 0 where
  pub small : IsSmallMachine m
  pub reads : m.reads ≡ length (read_names (text_names x) side)
  pub writes : m.writes ≡ length (written_names (text_names x) side)

-- the machine that was found, if one was, is such a one
abbrev pub FoundFits : Expanded → Option Found → Type 0
FoundFits x found = IfSome found (λ f. FitsNames x f.side f.machine)

-- the side and the number of states of the machine that was found
abbrev pub found_at : Option Found → Option Place
found_at found = option_map (λ f. place f.side (size_of f.machine)) found

-- what is said of an outcome
abbrev pub outcome_verdict : Outcome → Verdict
outcome_verdict outcome = verdict_of (found_at outcome.found) (first_open (map part_of outcome.logs.items))

-- the status of a document with a side's least machine
abbrev pub least_status : Side → Status
least_status System = status.Realizable
least_status Environment = status.Unrealizable

-- the status of a document with this verdict
abbrev pub verdict_status : Verdict → Status
verdict_status (Machine side states least) = if least then least_status side else status.Bounded
verdict_status (Unknown first) = status.Unknown

-- the bytes, the status and the verdict for an outcome
pub record IsReplyTo (x : Expanded) (settings : Settings) (outcome : Outcome) (bytes : List ℕ) (ended : Status) (said : Verdict) : Type 0 where
  pub said_is : said ≡ outcome_verdict outcome
  pub ended_is : ended ≡ verdict_status said
  pub circuit : Option Circuit
  pub of_found : IsCircuitOfFound x outcome.found circuit
  pub short : All IsShort outcome.logs.items
  pub stated : StatesIfGood bytes (document_of x.kind settings said circuit (map part_of outcome.logs.items))

-- the same for some outcome of a search of these problems
pub record IsSearchedReply (x : Expanded) (s : SideProblems) (settings : Settings) (bytes : List ℕ) (ended : Status) (said : Verdict) : Type 0 where
  pub bounds : IsWithinBounds settings
  pub automata : HaveAutomata s
  pub outcome : Outcome
  pub is_outcome : IsOutcomeOf s.system s.environment settings outcome
  pub reply : IsReplyTo x settings outcome bytes ended said

-- == the laws of the layers below ==

pub record LawsHold : Type 0 where
  pub components : ComponentsClass
  pub sizes : SizesRise
  pub all_states : SmallestMeetsAllStates
  pub writable : LegalLogsAreWritable
  pub refute : ClosedLogsRefute
  pub sides : SidesMean
  pub circuits : CircuitsSatisfy
  pub counters : CircuitsDefeat
  pub bad_lines : BadLinesAreDetermined
