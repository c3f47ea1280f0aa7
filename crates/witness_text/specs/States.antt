-- What the bytes of a witness's lines state (this project's own).
use Rattle.std.specs.Prelude.{◌≡◌, ℕ, ◌<◌, ◌≤◌, ◌^◌, Option, Some, None, List, ◌++◌, length, All, IfSome, IsTrue}
use Rattle.refutation_log.specs.Text.{IsWritable}
use Rattle.truth_witness.specs.declared.witnesses.Operands.{Operands}
use Rattle.truth_witness.specs.declared.witnesses.TheConstants.{MAX_RANK_BITS, MAX_INDEX_BITS}
use Rattle.truth_witness.specs.Witness.{Part, Witness}
use Rattle.truth_witness.specs.Logs.{ObligationLog}
use Rattle.witness_text.specs.declared.lines.Following.{Following}
use Rattle.witness_text.specs.declared.lines.WitnessCounts.{WitnessCounts}
use Rattle.witness_text.specs.Forms.{are_counts, most_gates, most_latches, most_number, most_parts}
use Rattle.witness_text.specs.Lines.{witness_text}
use Rattle.witness_text.specs.Reading.{WitnessLines, WitnessProof, bad_following, obligations}

-- == witnesses that lines can hold ==

abbrev pub IsLiteral : ℕ → Type 0
IsLiteral l = l ≤ most_number

pub record AreOperands (g : Operands) : Type 0 where
  pub left : IsLiteral g.left
  pub right : IsLiteral g.right

pub record IsPart (p : Part) : Type 0 where
  pub start : IsLiteral p.start
  pub inv : IsLiteral p.inv
  pub rank : All IsLiteral p.rank
  pub index : All IsLiteral p.index
  pub rank_bits : length p.rank ≤ MAX_RANK_BITS
  pub index_bits : length p.index ≤ MAX_INDEX_BITS

-- a log whose numbers lines can hold, over whose variables its entries are such as lines may state
pub record IsLog (l : ObligationLog) : Type 0 where
  pub vars : l.vars < 2 ^ 32
  pub base : l.base < 2 ^ 64
  pub count : length l.entries < 2 ^ 64
  pub entries : All (IsWritable l.vars) l.entries

-- A witness of so many latches, gates and parts as a document may have, with a log for each obligation.
pub record IsWellFormed (p : WitnessProof) : Type 0 where
  pub few_latches : length p.witness.latches ≤ most_latches
  pub few_gates : length p.witness.gates ≤ most_gates
  pub some_part : 1 ≤ length p.witness.parts
  pub few_parts : length p.witness.parts ≤ most_parts
  pub latches : All IsLiteral p.witness.latches
  pub gates : All AreOperands p.witness.gates
  pub always : IsLiteral p.witness.always
  pub parts : All IsPart p.witness.parts
  pub so_many : length p.logs ≡ obligations (length p.witness.parts)
  pub logs : All IsLog p.logs

-- == the bytes ==

-- The bytes are the lines of this witness and its logs, behind which nothing stands that may not.
pub record States (following : Following) (bytes : List ℕ) (p : WitnessProof) : Type 0 where
  pub well_formed : IsWellFormed p
  pub rest : List ℕ
  pub text : bytes ≡ witness_text p.witness p.logs ++ rest
  pub follows : bad_following following 0 rest ≡ None

-- == what was read ==

-- What was read fits: there are no more lines than the first one says, and each is such as lines can hold.
pub record IsReadWell (w : WitnessLines) : Type 0 where
  pub counts : IfSome w.counts (λ counts. IsTrue (are_counts counts))
  pub few_latches : length w.latches ≤ most_latches
  pub few_gates : length w.gates ≤ most_gates
  pub few_parts : length w.parts ≤ most_parts
  pub latches : All IsLiteral w.latches
  pub gates : All AreOperands w.gates
  pub parts : All IsPart w.parts
  pub few_logs : length w.logs ≤ obligations (length w.parts)
  pub logs : All IsLog w.logs
