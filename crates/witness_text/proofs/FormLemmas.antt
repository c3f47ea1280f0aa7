-- The lines of a witness up to its last part, each as it is written and as it is read.
use Rattle.std.proofs.Common.{◌≡◌, ℕ, suc, ◌+◌, ◌<◌, ◌≤◌, ◌^◌, Bool, true, false, ◌&&◌, cond, eqb, Option, Some, None, List, [], ◌∷◌, ◌++◌, length, take, drop, refl, sym, ap, subst, ◌∙◌, arith}
use Rattle.std.specs.Prelude.{All, nat_le, option_and_then, unwrap_or, IsTrue}
use Rattle.std.proofs.lemmas.Bool.{and_from, and_parts, eq-eqb, eqb-true, le-leb, leb-true}
use Rattle.std.proofs.lemmas.List.{length-append, length-drop, length-take-le, take-append-drop}
use Rattle.std.proofs.lemmas.List.Elements.{All-append, All-cons, All-drop, All-head, All-tail, All-take}
use Rattle.std.proofs.Math.Seq.{take-append_seam, drop-append_seam}
use Rattle.std_lemmas.proofs.Options.{chained_some}
use Rattle.aiger_text.specs.CircuitText.{numbers_line}
use Rattle.aiger_text.proofs.Numbers.{Lacks}
use Rattle.document_text.specs.Order.{is_in_range}
use Rattle.document_text.proofs.LineRead.{words_lack}
use Rattle.truth_witness.specs.declared.witnesses.Operands.{Operands}
use Rattle.truth_witness.specs.declared.witnesses.TheConstants.{MAX_RANK_BITS, MAX_INDEX_BITS}
use Rattle.truth_witness.specs.Witness.{Part}
use Rattle.witness_text.specs.declared.lines.WitnessCounts.{WitnessCounts}
use Rattle.witness_text.specs.Lines.{always_line, always_words, gate_line, gate_words, latch_line, latch_words, part_line, part_numbers, part_words, witness_words}
use Rattle.witness_text.specs.Forms.{always_in, are_bits, are_counts, counts_if, counts_in, counts_of, gate_in, latch_in, most_number, numbers_behind, one_of, operands_of, part_in, part_of}
use Rattle.witness_text.specs.States.{AreOperands, IsLiteral, IsPart}
use Rattle.witness_text.proofs.NumberLemmas.{IsLineOf, line_lacks, line_of_numbers, line_read}

-- A line of a form, as it is read and as it is written.
pub record IsForm {X : Type 0} (reading : List ℕ → Option X) (line : X → List ℕ) (P : X → Type 0) : Type 0 where
  pub is : (text : List ℕ) (x : X) → reading text ≡ Some x → (text ≡ line x) × P x
  pub read : (x : X) → P x → reading (line x) ≡ Some x
  pub lacks : (x : X) → P x → Lacks 10 (line x)

none_literal : All IsLiteral []
none_literal = λ k d less. absurd (omega arith)

one_literal : (n : ℕ) → IsLiteral n → All IsLiteral (n ∷ [])
one_literal n small = All-cons IsLiteral n [] small none_literal

-- ---- one literal

one_is : (words text numbers : List ℕ) (n : ℕ) → IsLineOf words text numbers → one_of numbers ≡ Some n → IsLineOf words text (n ∷ [])
one_is words text [] n line is = absurd (cc)
one_is words text (m ∷ []) n line is = subst (λ (k : ℕ). IsLineOf words text (k ∷ [])) (ap (λ (o : Option ℕ). unwrap_or o 0) is) line
one_is words text (m ∷ k ∷ more) n line is = absurd (cc)

one_line : (words text : List ℕ) (n : ℕ) → option_and_then one_of (numbers_behind words text) ≡ Some n → IsLineOf words text (n ∷ [])
one_line words text n is =
    let k = chained_some one_of (numbers_behind words text) n is in
    one_is words text k.0 n (line_of_numbers words text k.0 k.1) k.2

pub latch_form : IsForm latch_in latch_line IsLiteral
latch_form = record {
  is = λ text n is. (let k = one_line latch_words text n is in (k.line_is, k.small 0 n (omega arith)));
  read = λ n small. ap (option_and_then one_of) (line_read latch_words n [] (one_literal n small));
  lacks = λ n small. line_lacks latch_words n [] (one_literal n small) (words_lack latch_words refl);
}

pub always_form : IsForm always_in always_line IsLiteral
always_form = record {
  is = λ text n is. (let k = one_line always_words text n is in (k.line_is, k.small 0 n (omega arith)));
  read = λ n small. ap (option_and_then one_of) (line_read always_words n [] (one_literal n small));
  lacks = λ n small. line_lacks always_words n [] (one_literal n small) (words_lack always_words refl);
}

-- ---- two literals

abbrev operand_numbers : Operands → List ℕ
operand_numbers g = g.left ∷ g.right ∷ []

operands_is : (text numbers : List ℕ) (g : Operands) → IsLineOf gate_words text numbers → operands_of numbers ≡ Some g → IsLineOf gate_words text (operand_numbers g)
operands_is text [] g line is = absurd (cc)
operands_is text (m ∷ []) g line is = absurd (cc)
operands_is text (m ∷ n ∷ []) g line is =
    let same : record { left = m; right = n } ≡ g = ap (λ (o : Option Operands). unwrap_or o g) is in
    subst (λ (h : Operands). IsLineOf gate_words text (operand_numbers h)) same line
operands_is text (m ∷ n ∷ k ∷ more) g line is = absurd (cc)

two_literals : (g : Operands) → AreOperands g → All IsLiteral (operand_numbers g)
two_literals g are = All-cons IsLiteral g.left (g.right ∷ []) are.left (one_literal g.right are.right)

pub gate_form : IsForm gate_in gate_line AreOperands
gate_form = record {
  is = λ text g is. (
      let k = chained_some operands_of (numbers_behind gate_words text) g is in
      let l = operands_is text k.0 g (line_of_numbers gate_words text k.0 k.1) k.2 in
      (l.line_is, record { left = l.small 0 0 (omega arith); right = l.small 1 0 (omega arith) }));
  read = λ g are. ap (option_and_then operands_of) (line_read gate_words g.left (g.right ∷ []) (two_literals g are));
  lacks = λ g are. line_lacks gate_words g.left (g.right ∷ []) (two_literals g are) (words_lack gate_words refl);
}

-- ---- counts

abbrev pub count_numbers : WitnessCounts → List ℕ
count_numbers c = c.latches ∷ c.gates ∷ c.parts ∷ []

abbrev pub counts_line : WitnessCounts → List ℕ
counts_line c = witness_words ++ numbers_line (count_numbers c)

-- the counts are within their limits
abbrev pub AreCounts : WitnessCounts → Type 0
AreCounts c = are_counts c ≡ true

counts_by : (c d : WitnessCounts) (b : Bool) → are_counts c ≡ b → cond b (Some c) None ≡ Some d → (c ≡ d) × AreCounts c
counts_by c d true e is = (ap (λ (o : Option WitnessCounts). unwrap_or o c) is, e)
counts_by c d false e is = absurd (cc)

record AreCountsOf (text : List ℕ) (c : WitnessCounts) : Type 0 where
  line : IsLineOf witness_words text (count_numbers c)
  within : AreCounts c

counts_is : (text numbers : List ℕ) (c : WitnessCounts) → IsLineOf witness_words text numbers → counts_of numbers ≡ Some c → AreCountsOf text c
counts_is text [] c line is = absurd (cc)
counts_is text (l ∷ []) c line is = absurd (cc)
counts_is text (l ∷ g ∷ []) c line is = absurd (cc)
counts_is text (l ∷ g ∷ p ∷ []) c line is =
    let here : WitnessCounts = record { latches = l; gates = g; parts = p } in
    let k = counts_by (record { latches = l; gates = g; parts = p }) c (are_counts (record { latches = l; gates = g; parts = p })) refl is in
    subst (λ (d : WitnessCounts). AreCountsOf text d) k.0 (record { line = line; within = k.1 })
counts_is text (l ∷ g ∷ p ∷ k ∷ more) c line is = absurd (cc)

-- what the limits say
pub record AreFew (c : WitnessCounts) : Type 0 where
  pub latches : c.latches ≤ 65536
  pub gates : c.gates ≤ 1000000
  pub some_part : 1 ≤ c.parts
  pub parts : c.parts ≤ 256

pub few_counts : (c : WitnessCounts) → AreCounts c → AreFew c
few_counts c are =
    let a = and_parts (nat_le c.latches 65536) (nat_le c.gates 1000000 && is_in_range 1 256 c.parts) are in
    let b = and_parts (nat_le c.gates 1000000) (is_in_range 1 256 c.parts) a.1 in
    let d = and_parts (nat_le 1 c.parts) (nat_le c.parts 256) b.1 in
    record { latches = leb-true c.latches 65536 a.0; gates = leb-true c.gates 1000000 b.0; some_part = leb-true 1 c.parts d.0; parts = leb-true c.parts 256 d.1 }

pub counts_few : (c : WitnessCounts) → AreFew c → AreCounts c
counts_few c few =
    and_from (nat_le c.latches 65536) (nat_le c.gates 1000000 && is_in_range 1 256 c.parts) (le-leb c.latches 65536 few.latches)
    (and_from (nat_le c.gates 1000000) (is_in_range 1 256 c.parts) (le-leb c.gates 1000000 few.gates)
    (and_from (nat_le 1 c.parts) (nat_le c.parts 256) (le-leb 1 c.parts few.some_part) (le-leb c.parts 256 few.parts)))

three_numbers : (c : WitnessCounts) → AreCounts c → All IsLiteral (count_numbers c)
three_numbers c are =
    let few = few_counts c are in
    let latches = few.latches in
    let gates = few.gates in
    let parts = few.parts in
    All-cons IsLiteral c.latches (c.gates ∷ c.parts ∷ []) (omega (arith, latches))
    (All-cons IsLiteral c.gates (c.parts ∷ []) (omega (arith, gates)) (one_literal c.parts (omega (arith, parts))))

counts_made : (c : WitnessCounts) → AreCounts c → counts_of (count_numbers c) ≡ Some c
counts_made c are = ap (λ b. cond b (Some c) None) are

pub counts_form : IsForm counts_in counts_line AreCounts
counts_form = record {
  is = λ text c is. (
      let k = chained_some counts_of (numbers_behind witness_words text) c is in
      let l = counts_is text k.0 c (line_of_numbers witness_words text k.0 k.1) k.2 in
      (l.line.line_is, l.within));
  read = λ c are. ap (option_and_then counts_of) (line_read witness_words c.latches (c.gates ∷ c.parts ∷ []) (three_numbers c are)) ∙ counts_made c are;
  lacks = λ c are. line_lacks witness_words c.latches (c.gates ∷ c.parts ∷ []) (three_numbers c are) (words_lack witness_words refl);
}

-- ---- parts

record IsPartOf (text : List ℕ) (p : Part) : Type 0 where
  line : text ≡ part_line p
  part : IsPart p

record AreBits (rank index : ℕ) (bits : List ℕ) : Type 0 where
  rank_bits : rank ≤ MAX_RANK_BITS
  index_bits : index ≤ MAX_INDEX_BITS
  so_many : length bits ≡ rank + index

bits_are : (rank index : ℕ) (bits : List ℕ) → are_bits rank index bits ≡ true → AreBits rank index bits
bits_are rank index bits are =
    let a = and_parts (nat_le rank MAX_RANK_BITS) (nat_le index MAX_INDEX_BITS && eqb (length bits) (rank + index)) are in
    let b = and_parts (nat_le index MAX_INDEX_BITS) (eqb (length bits) (rank + index)) a.1 in
    record { rank_bits = leb-true rank MAX_RANK_BITS a.0; index_bits = leb-true index MAX_INDEX_BITS b.0; so_many = eqb-true (length bits) (rank + index) b.1 }

part_made : (text : List ℕ) (start inv rank index : ℕ) (bits : List ℕ) → IsLineOf part_words text (start ∷ inv ∷ rank ∷ index ∷ bits) → AreBits rank index bits
    → IsPartOf text (record { start = start; inv = inv; rank = take rank bits; index = drop rank bits })
part_made text start inv rank index bits line are =
    let n = are.so_many in
    let first : length (take rank bits) ≡ rank = length-take-le rank bits (omega (arith, n)) in
    let second : length (drop rank bits) ≡ index = length-drop rank bits ∙ (omega (arith, n)) in
    let small : All IsLiteral bits = λ k d less. line.small (suc (suc (suc (suc k)))) d (omega arith) in
    record {
      line = line.line_is ∙ (λ i. part_words ++ numbers_line (start ∷ inv ∷ sym first i ∷ sym second i ∷ sym (take-append-drop rank bits) i));
      part = record {
        start = line.small 0 0 (omega arith);
        inv = line.small 1 0 (omega arith);
        rank = All-take IsLiteral rank bits small;
        index = All-drop IsLiteral rank bits small;
        rank_bits = subst (λ n. n ≤ MAX_RANK_BITS) (sym first) are.rank_bits;
        index_bits = subst (λ n. n ≤ MAX_INDEX_BITS) (sym second) are.index_bits;
      };
    }

part_by : (text : List ℕ) (start inv rank index : ℕ) (bits : List ℕ) (p : Part) (b : Bool) → IsLineOf part_words text (start ∷ inv ∷ rank ∷ index ∷ bits) → are_bits rank index bits ≡ b
    → cond b (Some (record { start = start; inv = inv; rank = take rank bits; index = drop rank bits })) None ≡ Some p → IsPartOf text p
part_by text start inv rank index bits p true line e is =
    subst (λ (q : Part). IsPartOf text q) (ap (λ (o : Option Part). unwrap_or o p) is) (part_made text start inv rank index bits line (bits_are rank index bits e))
part_by text start inv rank index bits p false line e is = absurd (cc)

part_is : (text numbers : List ℕ) (p : Part) → IsLineOf part_words text numbers → part_of numbers ≡ Some p → IsPartOf text p
part_is text [] p line is = absurd (cc)
part_is text (start ∷ []) p line is = absurd (cc)
part_is text (start ∷ inv ∷ []) p line is = absurd (cc)
part_is text (start ∷ inv ∷ rank ∷ []) p line is = absurd (cc)
part_is text (start ∷ inv ∷ rank ∷ index ∷ bits) p line is = part_by text start inv rank index bits p (are_bits rank index bits) line refl is

part_literals : (p : Part) → IsPart p → All IsLiteral (part_numbers p)
part_literals p part =
    let rank = part.rank_bits in
    let index = part.index_bits in
    All-cons IsLiteral p.start (p.inv ∷ length p.rank ∷ length p.index ∷ (p.rank ++ p.index)) part.start
    (All-cons IsLiteral p.inv (length p.rank ∷ length p.index ∷ (p.rank ++ p.index)) part.inv
    (All-cons IsLiteral (length p.rank) (length p.index ∷ (p.rank ++ p.index)) (omega (arith, rank))
    (All-cons IsLiteral (length p.index) (p.rank ++ p.index) (omega (arith, index)) (All-append IsLiteral p.rank p.index part.rank part.index))))

part_numbers_read : (p : Part) → IsPart p → part_of (part_numbers p) ≡ Some p
part_numbers_read p part =
    let bits : are_bits (length p.rank) (length p.index) (p.rank ++ p.index) ≡ true =
    and_from (nat_le (length p.rank) MAX_RANK_BITS) (nat_le (length p.index) MAX_INDEX_BITS && eqb (length (p.rank ++ p.index)) (length p.rank + length p.index)) (le-leb (length p.rank) MAX_RANK_BITS part.rank_bits)
    (and_from (nat_le (length p.index) MAX_INDEX_BITS) (eqb (length (p.rank ++ p.index)) (length p.rank + length p.index)) (le-leb (length p.index) MAX_INDEX_BITS part.index_bits)
    (eq-eqb (length (p.rank ++ p.index)) (length p.rank + length p.index) (length-append p.rank p.index))) in
    ap (λ b. cond b (Some (record { start = p.start; inv = p.inv; rank = take (length p.rank) (p.rank ++ p.index); index = drop (length p.rank) (p.rank ++ p.index) })) None) bits
    ∙ (λ i. Some (record { start = p.start; inv = p.inv; rank = take-append_seam p.rank p.index i; index = drop-append_seam p.rank p.index i }))

pub part_form : IsForm part_in part_line IsPart
part_form = record {
  is = λ text p is. (
      let k = chained_some part_of (numbers_behind part_words text) p is in
      let l = part_is text k.0 p (line_of_numbers part_words text k.0 k.1) k.2 in
      (l.line, l.part));
  read = λ p part.
      ap (option_and_then part_of) (line_read part_words p.start (p.inv ∷ length p.rank ∷ length p.index ∷ (p.rank ++ p.index)) (part_literals p part)) ∙ part_numbers_read p part;
  lacks = λ p part. line_lacks part_words p.start (p.inv ∷ length p.rank ∷ length p.index ∷ (p.rank ++ p.index)) (part_literals p part) (words_lack part_words refl);
}
