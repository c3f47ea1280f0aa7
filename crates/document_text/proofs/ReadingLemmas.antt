-- A document's bytes are read in one way.
use Rattle.std.proofs.Common.{◌≡◌, ℕ, ◌+◌, Bool, true, false, Some, None, List, [], drop, refl, sym, ap, subst, ◌∙◌, true≢false}
use Rattle.std_lemmas.proofs.Options.{some_none, some_same}
use Rattle.aiger_text.specs.declared.faults.CircuitFault.{CircuitFault}
use Rattle.aiger_text.specs.CircuitFile.{File}
use Rattle.aiger_text.proofs.FileFacts.{files_state_one_thing, faults_state_nothing, files_have_one_fault}
use Rattle.document_text.specs.declared.reading.CircuitPart.TheVariants.{Absent, Faulty, Stated}
use Rattle.document_text.specs.Order.{first_place}
use Rattle.document_text.specs.Header.{HeaderRead, no_header, header_of}
use Rattle.document_text.specs.Logs.{LogsRead, ReadsLogs}
use Rattle.document_text.specs.Reading.{DocumentLines, BodyRead, ReadsBody, of_header, of_logs, ReadsBehind, unnamed, named, Reads, without_circuit, of_fault, uncommented, commented, order_in, line_count, fault_line}
use Rattle.document_text.proofs.LogsLemmas.{logs_same}

module _ (circuit : Bool) (first : ℕ) (bytes : List ℕ) where
  pub body_same : (a b : BodyRead) → ReadsBody circuit first bytes a → ReadsBody circuit first bytes b → a ≡ b
  body_same a b (of_header n e) (of_header m f) =
      ap (λ n. record { header = (header_of circuit first bytes).header; logs = []; bad = Some n }) (some_same (header_of circuit first bytes).header.bad n m e f)
  body_same a b (of_header n e) (of_logs more f reads) = absurd (some_none (header_of circuit first bytes).header.bad n e f)
  body_same a b (of_logs more e reads) (of_header m f) = absurd (some_none (header_of circuit first bytes).header.bad m f e)
  body_same a b (of_logs more e reads) (of_logs other f reads') =
      ap (λ (m : LogsRead). record { header = (header_of circuit first bytes).header; logs = m.logs; bad = m.bad })
      (logs_same (order_in (header_of circuit first bytes).header) (first_place (order_in (header_of circuit first bytes).header))
      (first + line_count (header_of circuit first bytes).header) (header_of circuit first bytes).rest more other reads reads')

  -- what is read behind a header that is known
  pub body_reads : (found : HeaderRead) (more : LogsRead) → header_of circuit first bytes ≡ found → found.header.bad ≡ None
      → ReadsLogs (order_in found.header) (first_place (order_in found.header)) (first + line_count found.header) found.rest more
      → ReadsBody circuit first bytes (record { header = found.header; logs = more.logs; bad = more.bad })
  body_reads found more is =
      subst (λ (x : HeaderRead). x.header.bad ≡ None → ReadsLogs (order_in x.header) (first_place (order_in x.header)) (first + line_count x.header) x.rest more
      → ReadsBody circuit first bytes (record { header = x.header; logs = more.logs; bad = more.bad })) is (λ none reads. of_logs more none reads)

module _ (file : File) (comment : List ℕ) where
  pub behind_same : (a b : DocumentLines) → ReadsBehind file comment a → ReadsBehind file comment b → a ≡ b
  behind_same a b (unnamed e) (unnamed f) = refl
  behind_same a b (unnamed e) (named body f reads) = absurd (true≢false (sym f ∙ e))
  behind_same a b (named body e reads) (unnamed f) = absurd (true≢false (sym e ∙ f))
  behind_same a b (named body e reads) (named other f reads') =
      ap (λ (b : BodyRead). record { circuit = Stated file; header = b.header; verdict_line = file.comment_line + 2; logs = b.logs; bad = b.bad })
      (body_same true (file.comment_line + 1) comment body other reads reads')

module _ (bytes : List ℕ) where
  both_commented : (f g : File) (at place : ℕ) (a b : DocumentLines) → f ≡ g → f.comment_at ≡ Some at → g.comment_at ≡ Some place
      → ReadsBehind f (drop at bytes) a → ReadsBehind g (drop place bytes) b → a ≡ b
  both_commented f g at place a b same is is' reads reads' =
      let here : at ≡ place = some_same f.comment_at at place is (ap (λ (x : File). x.comment_at) same ∙ is') in
      behind_same f (drop at bytes) a b reads
      (subst (λ (n : ℕ). ReadsBehind f (drop n bytes) b) (sym here) (subst (λ (x : File). ReadsBehind x (drop place bytes) b) (sym same) reads'))

  pub reads_same : (a b : DocumentLines) → Reads bytes a → Reads bytes b → a ≡ b
  reads_same a b (without_circuit body e r) (without_circuit other f r') =
      ap (λ (b : BodyRead). record { circuit = Absent; header = b.header; verdict_line = 2; logs = b.logs; bad = b.bad }) (body_same false 1 bytes body other r r')
  reads_same a b (without_circuit body e r) (of_fault fault f x) = absurd (true≢false (sym e ∙ f))
  reads_same a b (without_circuit body e r) (uncommented file f x y) = absurd (true≢false (sym e ∙ f))
  reads_same a b (without_circuit body e r) (commented file at lines f x y z) = absurd (true≢false (sym e ∙ f))
  reads_same a b (of_fault fault e x) (without_circuit body f r) = absurd (true≢false (sym f ∙ e))
  reads_same a b (of_fault fault e x) (of_fault other f y) =
      ap (λ (c : CircuitFault). record { circuit = Faulty; header = no_header; verdict_line = 0; logs = []; bad = Some (fault_line c) }) (files_have_one_fault bytes fault other x y)
  reads_same a b (of_fault fault e x) (uncommented file f s n) = absurd (faults_state_nothing bytes file fault s x)
  reads_same a b (of_fault fault e x) (commented file at lines f s n r) = absurd (faults_state_nothing bytes file fault s x)
  reads_same a b (uncommented file e s n) (without_circuit body f r) = absurd (true≢false (sym f ∙ e))
  reads_same a b (uncommented file e s n) (of_fault fault f x) = absurd (faults_state_nothing bytes file fault s x)
  reads_same a b (uncommented file e s n) (uncommented other f t m) =
      ap (λ (x : File). record { circuit = Stated x; header = no_header; verdict_line = 0; logs = []; bad = Some x.comment_line }) (files_state_one_thing bytes file other s t)
  reads_same a b (uncommented file e s n) (commented other at lines f t m r) =
      let same = files_state_one_thing bytes file other s t in
      absurd (some_none other.comment_at at m (ap (λ (x : File). x.comment_at) (sym same) ∙ n))
  reads_same a b (commented file at lines e s n r) (without_circuit body f r') = absurd (true≢false (sym f ∙ e))
  reads_same a b (commented file at lines e s n r) (of_fault fault f x) = absurd (faults_state_nothing bytes file fault s x)
  reads_same a b (commented file at lines e s n r) (uncommented other f t m) =
      let same = files_state_one_thing bytes other file t s in
      absurd (some_none file.comment_at at n (ap (λ (x : File). x.comment_at) (sym same) ∙ m))
  reads_same a b (commented file at lines e s n r) (commented other place lines' f t m r') =
      both_commented file other at place a b (files_state_one_thing bytes file other s t) n m r r'
