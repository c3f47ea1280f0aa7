-- The lines of a witness as a whole: none is bad exactly where they are those of one witness with its logs.
use Rattle.std.proofs.Common.{◌≡◌, ℕ, ◌+◌, ◌*◌, ◌<◌, ◌≤◌, Bool, true, false, cond, eqb, Option, Some, None, List, [], ◌∷◌, ◌++◌, length, refl, sym, ap, subst, ◌∙◌, arith, append_assoc}
use Rattle.std.specs.Prelude.{All, option_and_then, option_map}
use Rattle.std.proofs.lemmas.Bool.{eq-eqb}
use Rattle.std.proofs.lemmas.List.{append-nil}
use Rattle.std_lemmas.proofs.Options.{some_none, some_same}
use Rattle.document_text.specs.Header.{behind}
use Rattle.document_text.specs.Lines.{end_text}
use Rattle.document_text.specs.Logs.{bad_behind}
use Rattle.document_text.proofs.LineRead.{behind_is, behind_words}
use Rattle.truth_witness.specs.Witness.{Witness}
use Rattle.truth_witness.specs.Logs.{ObligationLog}
use Rattle.witness_text.specs.declared.lines.Following.{Following}
use Rattle.witness_text.specs.declared.lines.Following.TheVariants.{Nothing, Anything}
use Rattle.witness_text.specs.declared.lines.WitnessCounts.{WitnessCounts}
use Rattle.witness_text.specs.Forms.{most_gates, most_latches, most_parts}
use Rattle.witness_text.specs.Laws.{IsStated}
use Rattle.witness_text.specs.Lines.{proofs_text, statement_text, witness_text}
use Rattle.witness_text.specs.Logs.{LogsRead, ReadsLogs}
use Rattle.witness_text.specs.Places.{lines_of_logs}
use Rattle.witness_text.specs.Reading.{IsFirstBadLine, Reads, WitnessLines, WitnessProof, bad_at_end, bad_behind_logs, bad_following, lines_with, no_logs, obligations, of_logs, of_statement, on_end, witness_of}
use Rattle.witness_text.specs.Statement.{Statement, lines_of, statement_in}
use Rattle.witness_text.specs.States.{IsLog, IsWellFormed, States}
use Rattle.witness_text.proofs.FormLemmas.{AreCounts, AreFew, counts_few, few_counts}
use Rattle.witness_text.proofs.LogLemmas.{AreRead, logs_are_read, logs_same}
use Rattle.witness_text.proofs.LogsWhole.{GoodLogs, all_read, good_logs, logs_read}
use Rattle.witness_text.proofs.StatementLemmas.{FitsLines, IsGood, counts_of_witness, statement_is_read, statement_of, statement_read}

-- ---- one way

module _ (f : Following) (first : ℕ) (bytes : List ℕ) where
  abbrev s : Statement
  s = statement_in bytes

  abbrev n : ℕ
  n = first + lines_of (statement_in bytes)

  abbrev with_logs : LogsRead → WitnessLines
  with_logs read = lines_with first (statement_in bytes) read (bad_behind_logs f read.line read.rest)

  pub reads_same : (a b : WitnessLines) → Reads f first bytes a → Reads f first bytes b → a ≡ b
  reads_same a b (of_statement e) (of_statement e') = refl
  reads_same a b (of_statement e) (of_logs text read e' reads) = absurd (some_none (statement_in bytes).rest text e' e)
  reads_same a b (of_logs text read e reads) (of_statement e') = absurd (some_none (statement_in bytes).rest text e e')
  reads_same a b (of_logs text read e reads) (of_logs other read' e' reads') =
      let same : other ≡ text = some_same (statement_in bytes).rest other text e' e in
      ap with_logs
      (logs_same (obligations (length (statement_in bytes).parts)) 0 (first + lines_of (statement_in bytes)) text read read' reads
      (subst (λ (t : List ℕ). ReadsLogs (obligations (length (statement_in bytes).parts)) 0 (first + lines_of (statement_in bytes)) t read') same reads'))

-- ---- what is read is what stands there

-- whether something may stand there doesn't depend on the line's number
follows_anywhere : (f : Following) (n m : ℕ) (rest : List ℕ) → bad_following f n rest ≡ None → bad_following f m rest ≡ None
follows_anywhere Nothing n m [] is = refl
follows_anywhere Nothing n m (b ∷ rest) is = absurd (cc)
follows_anywhere Anything n m rest is = refl

-- the line `end` stands there, and what may follow it
record IsEnd (f : Following) (bytes : List ℕ) : Type 0 where
  rest : List ℕ
  text : bytes ≡ end_text ++ rest
  follows : bad_following f 0 rest ≡ None

end_by : (f : Following) (n : ℕ) (bytes : List ℕ) (o : Option (List ℕ)) → behind end_text bytes ≡ o → on_end f n o ≡ None → IsEnd f bytes
end_by f n bytes None e is = absurd (cc)
end_by f n bytes (Some rest) e is = record { rest = rest; text = behind_is end_text bytes rest e; follows = follows_anywhere f n 0 rest is }

record AreAll (f : Following) (read : LogsRead) : Type 0 where
  text : List ℕ
  rest_is : read.rest ≡ Some text
  end : IsEnd f text

all_by : (f : Following) (read : LogsRead) (o : Option (List ℕ)) → read.rest ≡ o → bad_behind_logs f read.line o ≡ None → AreAll f read
all_by f read None e is = absurd (cc)
all_by f read (Some text) e is = record { text = text; rest_is = e; end = end_by f read.line text (behind end_text text) refl is }

-- a witness of good lines
good_witness : (first : ℕ) (w : Witness) (rest : List ℕ) (read : LogsRead) (bad : Option ℕ)
    → witness_of (lines_with first (statement_of w rest) read bad) ≡ Some (record { witness = w; logs = read.logs })
good_witness first w rest read bad =
    ap (λ b. cond b (Some (record { witness = w; logs = read.logs })) None) (eq-eqb (length w.parts) (length w.parts) refl)

module _ (f : Following) (first : ℕ) (bytes : List ℕ) where
  module _ (text : List ℕ) (read : LogsRead) (some : (statement_in bytes).rest ≡ Some text)
      (reads : ReadsLogs (obligations (length (statement_in bytes).parts)) 0 (first + lines_of (statement_in bytes)) text read) (all : AreAll f read) where
    abbrev good : IsGood bytes (statement_in bytes) text
    good = ((statement_is_read bytes).whole text some).1

    abbrev proof : WitnessProof
    proof = record { witness = good.witness; logs = read.logs }

    abbrev logs : GoodLogs (obligations (length (statement_in bytes).parts)) 0 text read.logs all.text
    logs = good_logs (obligations (length (statement_in bytes).parts)) 0 (first + lines_of (statement_in bytes)) text read reads all.text all.rest_is

    abbrev are : AreRead (obligations (length (statement_in bytes).parts)) 0 (first + lines_of (statement_in bytes)) text read
    are = logs_are_read (obligations (length (statement_in bytes).parts)) 0 (first + lines_of (statement_in bytes)) text read (omega arith) reads

    stated_text : bytes ≡ witness_text good.witness read.logs ++ all.end.rest
    stated_text =
        good.text ∙ ap (λ (t : List ℕ). statement_text good.witness ++ t) (logs.text ∙ ap (λ (t : List ℕ). proofs_text 0 read.logs ++ t) all.end.text)
        ∙ ap (λ (t : List ℕ). statement_text good.witness ++ t) (sym (append_assoc (proofs_text 0 read.logs) end_text all.end.rest))
        ∙ sym (append_assoc (statement_text good.witness) (proofs_text 0 read.logs ++ end_text) all.end.rest)

    well_formed : IsWellFormed proof
    well_formed =
        let few = few_counts (counts_of_witness good.witness) good.fits.counts in
        let parts : length (statement_in bytes).parts ≡ length good.witness.parts = ap (λ (s : Statement). length s.parts) good.s_is in
        let number : 0 + length read.logs ≡ length read.logs = omega arith in
        record {
          few_latches = few.latches;
          few_gates = few.gates;
          some_part = few.some_part;
          few_parts = few.parts;
          latches = good.fits.latches;
          gates = good.fits.gates;
          always = good.fits.always;
          parts = good.fits.parts;
          so_many = sym number ∙ logs.so_many ∙ ap obligations parts;
          logs = are.all;
        }

    of_good : IsStated f bytes (lines_with first (statement_in bytes) read (bad_behind_logs f read.line read.rest))
    of_good = record {
      proof = proof;
      of_lines = ap (λ (s : Statement). witness_of (lines_with first s read (bad_behind_logs f read.line read.rest))) good.s_is
          ∙ good_witness first good.witness text read (bad_behind_logs f read.line read.rest);
      states = record { well_formed = well_formed; rest = all.end.rest; text = stated_text; follows = all.end.follows };
    }

  pub good_lines : (lines : WitnessLines) → Reads f first bytes lines → lines.bad ≡ None → IsStated f bytes lines
  good_lines lines (of_statement e) is = absurd (cc)
  good_lines lines (of_logs text read e reads) is = of_good text read e reads (all_by f read read.rest refl is)

-- ---- what is stated is read

fits_lines : (p : WitnessProof) → IsWellFormed p → FitsLines p.witness
fits_lines p w = record {
  counts = counts_few (counts_of_witness p.witness) (record { latches = w.few_latches; gates = w.few_gates; some_part = w.some_part; parts = w.few_parts });
  latches = w.latches;
  gates = w.gates;
  always = w.always;
  parts = w.parts;
}

-- the lines that a witness is read as
record IsReadAs (f : Following) (first : ℕ) (bytes : List ℕ) (p : WitnessProof) : Type 0 where
  lines : WitnessLines
  reads : Reads f first bytes lines
  good : lines.bad ≡ None
  proof : witness_of lines ≡ Some p

module _ (f : Following) (first : ℕ) (p : WitnessProof) (w : IsWellFormed p) (rest : List ℕ) (follows : bad_following f 0 rest ≡ None) where
  abbrev tail : List ℕ
  tail = proofs_text 0 p.logs ++ (end_text ++ rest)

  abbrev whole_text : List ℕ
  whole_text = statement_text p.witness ++ tail

  statement_is : statement_in whole_text ≡ statement_of p.witness tail
  statement_is = statement_read p.witness (fits_lines p w) tail

  abbrev line : ℕ
  line = first + lines_of (statement_of p.witness tail)

  abbrev read : LogsRead
  read = all_read line p.logs (end_text ++ rest)

  read_logs : ReadsLogs (obligations (length p.witness.parts)) 0 line tail read
  read_logs =
      let number : 0 + length p.logs ≡ length p.logs = omega arith in
      logs_read (obligations (length p.witness.parts)) 0 line p.logs (end_text ++ rest) (number ∙ w.so_many) w.logs

  no_bad : bad_behind_logs f read.line read.rest ≡ None
  no_bad = ap (on_end f read.line) (behind_words end_text rest) ∙ follows_anywhere f 0 read.line rest follows

  read_whole : Reads f first whole_text (lines_with first (statement_in whole_text) read (bad_behind_logs f read.line read.rest))
  read_whole =
      of_logs tail read (ap (λ (s : Statement). s.rest) statement_is)
      (subst (λ (s : Statement). ReadsLogs (obligations (length s.parts)) 0 (first + lines_of s) tail read) (sym statement_is) read_logs)

  whole_is : whole_text ≡ witness_text p.witness p.logs ++ rest
  whole_is =
      ap (λ (t : List ℕ). statement_text p.witness ++ t) (sym (append_assoc (proofs_text 0 p.logs) end_text rest))
      ∙ sym (append_assoc (statement_text p.witness) (proofs_text 0 p.logs ++ end_text) rest)

  text_read : IsReadAs f first (witness_text p.witness p.logs ++ rest) p
  text_read = record {
    lines = lines_with first (statement_in whole_text) read (bad_behind_logs f read.line read.rest);
    reads = subst (λ (b : List ℕ). Reads f first b (lines_with first (statement_in whole_text) read (bad_behind_logs f read.line read.rest))) whole_is read_whole;
    good = no_bad;
    proof = ap (λ (s : Statement). witness_of (lines_with first s read (bad_behind_logs f read.line read.rest))) statement_is
        ∙ good_witness first p.witness tail read (bad_behind_logs f read.line read.rest);
  }

is_read_as : (f : Following) (first : ℕ) (bytes : List ℕ) (p : WitnessProof) → States f bytes p → IsReadAs f first bytes p
is_read_as f first bytes p s = subst (λ (b : List ℕ). IsReadAs f first b p) (sym s.text) (text_read f first p s.well_formed s.rest s.follows)

-- ---- the laws

pub all_good : (f : Following) (first : ℕ) (bytes : List ℕ) (lines : WitnessLines) (p : WitnessProof) → Reads f first bytes lines → States f bytes p
    → (lines.bad ≡ None) × (witness_of lines ≡ Some p)
all_good f first bytes lines p reads states =
    let r = is_read_as f first bytes p states in
    let same : lines ≡ r.lines = reads_same f first bytes lines r.lines reads r.reads in
    (ap (λ (x : WitnessLines). x.bad) same ∙ r.good, ap witness_of same ∙ r.proof)

pub one_witness : (f : Following) (bytes : List ℕ) (p q : WitnessProof) → States f bytes p → States f bytes q → p ≡ q
one_witness f bytes p q a b =
    let r = is_read_as f 0 bytes p a in
    some_same (witness_of r.lines) p q r.proof (all_good f 0 bytes r.lines q r.reads b).1

pub one_bad_line : (f : Following) (first : ℕ) (bytes : List ℕ) (n m : ℕ) → IsFirstBadLine f first bytes n → IsFirstBadLine f first bytes m → n ≡ m
one_bad_line f first bytes n m a b =
    some_same a.lines.bad n m a.bad (ap (λ (x : WitnessLines). x.bad) (reads_same f first bytes a.lines b.lines a.reads b.reads) ∙ b.bad)

pub stated_not_bad : (f : Following) (first : ℕ) (bytes : List ℕ) (p : WitnessProof) (n : ℕ) → States f bytes p → IsFirstBadLine f first bytes n → ⊥
stated_not_bad f first bytes p n a b = some_none b.lines.bad n b.bad (all_good f first bytes b.lines p b.reads a).0

pub written : (p : WitnessProof) → IsWellFormed p → States Nothing (witness_text p.witness p.logs) p
written p w = record { well_formed = w; rest = []; text = sym (append-nil (witness_text p.witness p.logs)); follows = refl }
