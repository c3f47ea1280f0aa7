-- A document's bytes are read in one way.
use Rattle.std.proofs.Common.{◌≡◌, ℕ, ◌+◌, Bool, true, false, Option, Some, None, List, drop, refl, sym, ap, subst, ◌∙◌, true≢false}
use Rattle.std_lemmas.proofs.Options.{some_none, some_same}
use Rattle.aiger_text.specs.declared.faults.CircuitFault.{CircuitFault}
use Rattle.aiger_text.specs.CircuitFile.{File}
use Rattle.aiger_text.proofs.FileFacts.{files_state_one_thing, faults_state_nothing, files_have_one_fault}
use Rattle.document_text.specs.declared.reading.CircuitPart.TheVariants.{Absent, Faulty, Stated}
use Rattle.document_text.specs.Reading.{fault_line}
use Rattle.solved_text.specs.Header.{HeaderRead, header_of}
use Rattle.solved_text.specs.Reading.{SolvedLines, BodyRead, RestRead, ReadsRest, at_end, with_logs, ReadsBody, of_header, of_rest, ReadsBehind, unnamed, named, Reads, without_circuit, of_fault, uncommented, commented, circuit_alone, lines_with, no_rest, rest_behind}
use Rattle.solved_text.proofs.LogLemmas.{logs_same}

pub rest_same : (n : ℕ) (bytes : List ℕ) (refuted : Option ℕ) (a b : RestRead) → ReadsRest n bytes refuted a → ReadsRest n bytes refuted b → a ≡ b
rest_same n bytes None a b at_end at_end = refl
rest_same n bytes (Some r) a b (with_logs s read reads) (with_logs t other reads') =
    ap rest_behind (logs_same r 0 n bytes read other reads reads')

module _ (circuit : Bool) (first : ℕ) (bytes : List ℕ) where
  pub body_same : (a b : BodyRead) → ReadsBody circuit first bytes a → ReadsBody circuit first bytes b → a ≡ b
  body_same a b (of_header n e) (of_header m f) =
      ap (λ n. record { header = (header_of circuit first bytes).header; rest = no_rest n }) (some_same (header_of circuit first bytes).header.bad n m e f)
  body_same a b (of_header n e) (of_rest rest f reads) = absurd (some_none (header_of circuit first bytes).header.bad n e f)
  body_same a b (of_rest rest e reads) (of_header m f) = absurd (some_none (header_of circuit first bytes).header.bad m f e)
  body_same a b (of_rest rest e reads) (of_rest other f reads') =
      ap (λ (r : RestRead). record { header = (header_of circuit first bytes).header; rest = r })
      (rest_same (header_of circuit first bytes).line (header_of circuit first bytes).rest (header_of circuit first bytes).header.refuted rest other reads reads')

  -- what is read behind a header that is known
  pub body_reads : (found : HeaderRead) (rest : RestRead) → header_of circuit first bytes ≡ found → found.header.bad ≡ None
      → ReadsRest found.line found.rest found.header.refuted rest
      → ReadsBody circuit first bytes (record { header = found.header; rest = rest })
  body_reads found rest is =
      subst (λ (x : HeaderRead). x.header.bad ≡ None → ReadsRest x.line x.rest x.header.refuted rest
      → ReadsBody circuit first bytes (record { header = x.header; rest = rest })) is (λ none reads. of_rest rest none reads)

  -- and what of a header with a bad line
  pub bad_body : (found : HeaderRead) (n : ℕ) → header_of circuit first bytes ≡ found → found.header.bad ≡ Some n
      → ReadsBody circuit first bytes (record { header = found.header; rest = no_rest n })
  bad_body found n is =
      subst (λ (x : HeaderRead). x.header.bad ≡ Some n → ReadsBody circuit first bytes (record { header = x.header; rest = no_rest n })) is (λ bad. of_header n bad)

module _ (bytes : List ℕ) (file : File) (comment : List ℕ) where
  pub behind_same : (a b : SolvedLines) → ReadsBehind bytes file comment a → ReadsBehind bytes file comment b → a ≡ b
  behind_same a b (unnamed e) (unnamed f) = refl
  behind_same a b (unnamed e) (named body f reads) = absurd (true≢false (sym f ∙ e))
  behind_same a b (named body e reads) (unnamed f) = absurd (true≢false (sym e ∙ f))
  behind_same a b (named body e reads) (named other f reads') =
      ap (λ (b : BodyRead). lines_with bytes (Stated file) (file.comment_line + 2) b) (body_same true (file.comment_line + 1) comment body other reads reads')

module _ (bytes : List ℕ) where
  both_commented : (f g : File) (at place : ℕ) (a b : SolvedLines) → f ≡ g → f.comment_at ≡ Some at → g.comment_at ≡ Some place
      → ReadsBehind bytes f (drop at bytes) a → ReadsBehind bytes g (drop place bytes) b → a ≡ b
  both_commented f g at place a b same is is' reads reads' =
      let here : at ≡ place = some_same f.comment_at at place is (ap (λ (x : File). x.comment_at) same ∙ is') in
      behind_same bytes f (drop at bytes) a b reads
      (subst (λ (n : ℕ). ReadsBehind bytes f (drop n bytes) b) (sym here) (subst (λ (x : File). ReadsBehind bytes x (drop place bytes) b) (sym same) reads'))

  pub reads_same : (a b : SolvedLines) → Reads bytes a → Reads bytes b → a ≡ b
  reads_same a b (without_circuit body e r) (without_circuit other f r') =
      ap (λ (b : BodyRead). lines_with bytes Absent 2 b) (body_same false 1 bytes body other r r')
  reads_same a b (without_circuit body e r) (of_fault fault f x) = absurd (true≢false (sym e ∙ f))
  reads_same a b (without_circuit body e r) (uncommented file f x y) = absurd (true≢false (sym e ∙ f))
  reads_same a b (without_circuit body e r) (commented file at lines f x y z) = absurd (true≢false (sym e ∙ f))
  reads_same a b (of_fault fault e x) (without_circuit body f r) = absurd (true≢false (sym f ∙ e))
  reads_same a b (of_fault fault e x) (of_fault other f y) =
      ap (λ (c : CircuitFault). circuit_alone Faulty (fault_line c)) (files_have_one_fault bytes fault other x y)
  reads_same a b (of_fault fault e x) (uncommented file f s n) = absurd (faults_state_nothing bytes file fault s x)
  reads_same a b (of_fault fault e x) (commented file at lines f s n r) = absurd (faults_state_nothing bytes file fault s x)
  reads_same a b (uncommented file e s n) (without_circuit body f r) = absurd (true≢false (sym f ∙ e))
  reads_same a b (uncommented file e s n) (of_fault fault f x) = absurd (faults_state_nothing bytes file fault s x)
  reads_same a b (uncommented file e s n) (uncommented other f t m) =
      ap (λ (x : File). circuit_alone (Stated x) x.comment_line) (files_state_one_thing bytes file other s t)
  reads_same a b (uncommented file e s n) (commented other at lines f t m r) =
      let same = files_state_one_thing bytes file other s t in
      absurd (some_none other.comment_at at m (ap (λ (x : File). x.comment_at) (sym same) ∙ n))
  reads_same a b (commented file at lines e s n r) (without_circuit body f r') = absurd (true≢false (sym f ∙ e))
  reads_same a b (commented file at lines e s n r) (of_fault fault f x) = absurd (faults_state_nothing bytes file fault s x)
  reads_same a b (commented file at lines e s n r) (uncommented other f t m) =
      let same = files_state_one_thing bytes file other s t in
      absurd (some_none file.comment_at at n (ap (λ (x : File). x.comment_at) same ∙ m))
  reads_same a b (commented file at lines e s n r) (commented other place lines' f t m r') =
      both_commented file other at place a b (files_state_one_thing bytes file other s t) n m r r'
