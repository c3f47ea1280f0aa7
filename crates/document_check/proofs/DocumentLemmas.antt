-- The parts of a document that was read.
use Rattle.std.proofs.Common.{◌≡◌, ℕ, Option, Some, None, List, ap, ◌∙◌}
use Rattle.std.specs.Prelude.{drop}
use Rattle.aiger_text.specs.CircuitFile.{File}
use Rattle.document_text.specs.declared.reading.CircuitPart.TheVariants.{Faulty}
use Rattle.document_text.specs.Parts.{Document}
use Rattle.document_text.specs.Reading.{DocumentLines, Reads, without_circuit, of_fault, uncommented, commented, ReadsBehind, unnamed, named, circuit_in, document_of}
use Rattle.std_lemmas.proofs.Options.{chained_some, mapped_some}
use Rattle.document_check.specs.declared.facts.Asked.{Asked}
use Rattle.document_check.specs.FirstBad.{asked_in}

-- the document's parts are those of the lines
pub record IsDocumentOf (lines : DocumentLines) (d : Document) : Type 0 where
  pub version : lines.header.version ≡ Some d.version
  pub verdict : lines.header.verdict ≡ Some d.verdict
  pub kind : lines.header.kind ≡ Some d.kind
  pub max : lines.header.max ≡ Some d.max
  pub entries : lines.header.entries ≡ Some d.entries
  pub found : lines.header.found ≡ d.found
  pub circuit : circuit_in lines.circuit ≡ d.circuit
  pub logs : lines.logs ≡ d.logs

pub document_is : (lines : DocumentLines) (d : Document) → document_of lines ≡ Some d → IsDocumentOf lines d
document_is lines d is =
    let v = chained_some _ lines.header.version d is in
    let r = chained_some _ lines.header.verdict d v.2 in
    let k = chained_some _ lines.header.kind d r.2 in
    let m = chained_some _ lines.header.max d k.2 in
    let e = mapped_some _ lines.header.entries d m.2 in
    record {
      version = v.1 ∙ ap (λ (x : Document). Some x.version) e.2;
      verdict = r.1 ∙ ap (λ (x : Document). Some x.verdict) e.2;
      kind = k.1 ∙ ap (λ (x : Document). Some x.kind) e.2;
      max = m.1 ∙ ap (λ (x : Document). Some x.max) e.2;
      entries = e.1 ∙ ap (λ (x : Document). Some x.entries) e.2;
      found = ap (λ (x : Document). x.found) e.2;
      circuit = ap (λ (x : Document). x.circuit) e.2;
      logs = ap (λ (x : Document). x.logs) e.2;
    }

-- what it asks for
abbrev pub asked_by : Document → Asked
asked_by d = record { version = d.version; verdict = d.verdict; kind = d.kind; max = d.max }

pub asked_of_document : (lines : DocumentLines) (d : Document) → IsDocumentOf lines d → asked_in lines.header ≡ Some (asked_by d)
asked_of_document lines d is =
    ap (λ (v : Option ℕ). asked_in (record lines.header { version = v })) is.version
    ∙ ap (λ r. asked_in (record lines.header { version = Some d.version; verdict = r })) is.verdict
    ∙ ap (λ k. asked_in (record lines.header { version = Some d.version; verdict = Some d.verdict; kind = k })) is.kind
    ∙ ap (λ (m : Option ℕ). asked_in (record lines.header { version = Some d.version; verdict = Some d.verdict; kind = Some d.kind; max = m })) is.max

-- a circuit with a fault has a bad line
behind_not_faulty : (file : File) (comment : List ℕ) (lines : DocumentLines) → ReadsBehind file comment lines → lines.circuit ≡ Faulty → ⊥
behind_not_faulty file comment lines (unnamed e) is = absurd (cc)
behind_not_faulty file comment lines (named body e reads) is = absurd (cc)

pub not_faulty : (bytes : List ℕ) (lines : DocumentLines) → Reads bytes lines → lines.bad ≡ None → lines.circuit ≡ Faulty → ⊥
not_faulty bytes lines (without_circuit body e reads) good is = absurd (cc)
not_faulty bytes lines (of_fault fault e x) good is = absurd (cc)
not_faulty bytes lines (uncommented file e s n) good is = absurd (cc)
not_faulty bytes lines (commented file at lines' e s n reads) good is = behind_not_faulty file (drop at bytes) lines reads is
