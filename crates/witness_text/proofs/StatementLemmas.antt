-- The lines of a witness up to its last part: none is missing exactly where their text stands there.
use Rattle.std.proofs.Common.{◌≡◌, ℕ, ◌+◌, ◌<◌, ◌≤◌, true, Option, Some, None, List, [], ◌∷◌, ◌++◌, length, refl, sym, ap, subst, ◌∙◌, arith, append_assoc}
use Rattle.std.specs.Prelude.{All, map, IfSome, IsTrue, unwrap_or}
use Rattle.std.proofs.lemmas.List.{length-append}
use Rattle.aiger_text.specs.CircuitText.{text_of_lines}
use Rattle.document_text.specs.Header.{front}
use Rattle.truth_witness.specs.declared.witnesses.Operands.{Operands}
use Rattle.truth_witness.specs.Witness.{Part, Witness}
use Rattle.witness_text.specs.declared.lines.WitnessCounts.{WitnessCounts}
use Rattle.witness_text.specs.Lines.{always_line, gate_line, head_line, latch_line, part_line, statement_text}
use Rattle.witness_text.specs.Forms.{always_in, are_counts, counts_in, gate_in, latch_in, most_gates, most_latches, most_parts, part_in}
use Rattle.witness_text.specs.Statement.{Statement, always_read, gates_read, group, latches_read, lines_of, on_counts, one_line, parts_read, single, statement_behind, statement_in}
use Rattle.witness_text.specs.States.{AreOperands, IsLiteral, IsPart}
use Rattle.witness_text.proofs.FormLemmas.{AreCounts, always_form, counts_form, counts_line, few_counts, gate_form, latch_form, part_form}
use Rattle.witness_text.proofs.GroupLemmas.{Grouped, Single, group_read, grouped, line_if, lines_length, next_is, next_read, single_is, single_read}

abbrev pub counts_of_witness : Witness → WitnessCounts
counts_of_witness w = record { latches = length w.latches; gates = length w.gates; parts = length w.parts }

-- what is read of a witness
abbrev pub statement_of : Witness → List ℕ → Statement
statement_of w rest = record {
  counts = Some (counts_of_witness w);
  latches = w.latches;
  gates = w.gates;
  always = Some w.always;
  parts = w.parts;
  rest = Some rest;
}

-- the witness's numbers are such as lines can hold
pub record FitsLines (w : Witness) : Type 0 where
  pub counts : AreCounts (counts_of_witness w)
  pub latches : All IsLiteral w.latches
  pub gates : All AreOperands w.gates
  pub always : IsLiteral w.always
  pub parts : All IsPart w.parts

-- no line is missing
pub record IsGood (bytes : List ℕ) (s : Statement) (rest : List ℕ) : Type 0 where
  pub witness : Witness
  pub s_is : s ≡ statement_of witness rest
  pub text : bytes ≡ statement_text witness ++ rest
  pub fits : FitsLines witness

-- what was read, and the bytes that are left
pub record IsRead (bytes : List ℕ) (s : Statement) : Type 0 where
  pub counts : IfSome s.counts (λ c. IsTrue (are_counts c))
  pub few_latches : length s.latches ≤ most_latches
  pub few_gates : length s.gates ≤ most_gates
  pub few_parts : length s.parts ≤ most_parts
  pub latches : All IsLiteral s.latches
  pub gates : All AreOperands s.gates
  pub parts : All IsPart s.parts
  pub left : List ℕ
  pub lines : lines_of s + length left ≤ length bytes
  pub whole : (rest : List ℕ) → s.rest ≡ Some rest → (left ≡ rest) × IsGood bytes s rest

-- five texts before a sixth
five_texts : (a b c d e rest : List ℕ) → (a ++ (b ++ (c ++ (d ++ e)))) ++ rest ≡ a ++ (b ++ (c ++ (d ++ (e ++ rest))))
five_texts a b c d e rest =
    append_assoc a (b ++ (c ++ (d ++ e))) rest
    ∙ ap (λ (t : List ℕ). a ++ t) (append_assoc b (c ++ (d ++ e)) rest
    ∙ ap (λ (t : List ℕ). b ++ t) (append_assoc c (d ++ e) rest ∙ ap (λ (t : List ℕ). c ++ t) (append_assoc d e rest)))

always_length : (o : Option ℕ) → one_line o ≤ length (text_of_lines (line_if always_in always_line IsLiteral always_form o))
always_length None = omega arith
always_length (Some l) = lines_length (always_line l ∷ [])

map_length : {X : Type 0} (f : X → List ℕ) (xs : List X) → length xs ≤ length (text_of_lines (map f xs))
map_length f [] = omega arith
map_length f (x ∷ xs) =
    let a : length (text_of_lines (map f (x ∷ xs))) ≡ length (f x ++ 10 ∷ []) + length (text_of_lines (map f xs)) = length-append (f x ++ 10 ∷ []) (text_of_lines (map f xs)) in
    let b : length (f x ++ 10 ∷ []) ≡ length (f x) + 1 = length-append (f x) (10 ∷ []) in
    let more = map_length f xs in
    omega (arith, a, b, more)

some_is : (x y : List ℕ) → Some x ≡ Some y → x ≡ y
some_is x y is = ap (λ (o : Option (List ℕ)). unwrap_or o x) is

-- ---- what is read is what stands there

module _ (counts : WitnessCounts) (are : AreCounts counts) (bytes behind : List ℕ) (head : bytes ≡ text_of_lines (counts_line counts ∷ []) ++ behind) where
  abbrev latches : Grouped latch_in latch_line IsLiteral latch_form counts.latches (Some behind) behind (latches_read counts behind)
  latches = grouped latch_in latch_line IsLiteral latch_form counts.latches (Some behind) behind (λ b e. some_is behind b e)

  abbrev gates : Grouped gate_in gate_line AreOperands gate_form counts.gates (latches_read counts behind).1 latches.left (gates_read counts behind)
  gates = grouped gate_in gate_line AreOperands gate_form counts.gates (latches_read counts behind).1 latches.left (λ b e. (latches.whole b e).1)

  abbrev always : Single always_in always_line IsLiteral always_form (gates_read counts behind).1 gates.left (always_read counts behind)
  always = single_is always_in always_line IsLiteral always_form (gates_read counts behind).1 gates.left (λ b e. (gates.whole b e).1)

  abbrev parts : Grouped part_in part_line IsPart part_form counts.parts (always_read counts behind).1 always.left (parts_read counts behind)
  parts = grouped part_in part_line IsPart part_form counts.parts (always_read counts behind).1 always.left (λ b e. (always.whole b e).2)

  lines_fit : lines_of (statement_behind counts behind) + length parts.left ≤ length bytes
  lines_fit =
      let a : length bytes ≡ length (text_of_lines (counts_line counts ∷ [])) + length behind = ap length head ∙ length-append (text_of_lines (counts_line counts ∷ [])) behind in
      let b : length behind ≡ length (text_of_lines (map latch_line (latches_read counts behind).0)) + length latches.left =
      ap length latches.text ∙ length-append (text_of_lines (map latch_line (latches_read counts behind).0)) latches.left in
      let c : length latches.left ≡ length (text_of_lines (map gate_line (gates_read counts behind).0)) + length gates.left =
      ap length gates.text ∙ length-append (text_of_lines (map gate_line (gates_read counts behind).0)) gates.left in
      let d : length gates.left ≡ length (text_of_lines (line_if always_in always_line IsLiteral always_form (always_read counts behind).0)) + length always.left =
      ap length always.text ∙ length-append (text_of_lines (line_if always_in always_line IsLiteral always_form (always_read counts behind).0)) always.left in
      let e : length always.left ≡ length (text_of_lines (map part_line (parts_read counts behind).0)) + length parts.left =
      ap length parts.text ∙ length-append (text_of_lines (map part_line (parts_read counts behind).0)) parts.left in
      let f = lines_length (counts_line counts ∷ []) in
      let g = map_length latch_line (latches_read counts behind).0 in
      let h = map_length gate_line (gates_read counts behind).0 in
      let i = always_length (always_read counts behind).0 in
      let j = map_length part_line (parts_read counts behind).0 in
      omega (arith, a, b, c, d, e, f, g, h, i, j)

  good_behind : (rest : List ℕ) → (parts_read counts behind).1 ≡ Some rest → (parts.left ≡ rest) × IsGood bytes (statement_behind counts behind) rest
  good_behind rest is =
      let p = parts.whole rest is in
      let a = always.whole p.2 p.3 in
      let g = gates.whole a.3 a.4 in
      let l = latches.whole g.2 g.3 in
      let w : Witness = record { latches = (latches_read counts behind).0; gates = (gates_read counts behind).0; always = a.0; parts = (parts_read counts behind).0 } in
      let same : counts ≡ record { latches = length (latches_read counts behind).0; gates = length (gates_read counts behind).0; parts = length (parts_read counts behind).0 } =
      (λ i. record { latches = sym l.0 i; gates = sym g.0 i; parts = sym p.0 i }) in
      let t_head : List ℕ = text_of_lines (head_line w ∷ []) in
      let t_latches : List ℕ = text_of_lines (map latch_line w.latches) in
      let t_gates : List ℕ = text_of_lines (map gate_line w.gates) in
      let t_always : List ℕ = text_of_lines (always_line a.0 ∷ []) in
      let t_parts : List ℕ = text_of_lines (map part_line w.parts) in
      let e4 : always.left ≡ text_of_lines (map part_line w.parts) ++ rest = parts.text ∙ ap (λ (r : List ℕ). text_of_lines (map part_line w.parts) ++ r) p.1 in
      let e3 : gates.left ≡ text_of_lines (always_line a.0 ∷ []) ++ (text_of_lines (map part_line w.parts) ++ rest) =
      always.text ∙ (λ i. text_of_lines (line_if always_in always_line IsLiteral always_form (a.1 i)) ++ e4 i) in
      let e2 : latches.left ≡ text_of_lines (map gate_line w.gates) ++ (text_of_lines (always_line a.0 ∷ []) ++ (text_of_lines (map part_line w.parts) ++ rest)) =
      gates.text ∙ ap (λ (r : List ℕ). text_of_lines (map gate_line w.gates) ++ r) e3 in
      let e1 : behind ≡ text_of_lines (map latch_line w.latches) ++ (text_of_lines (map gate_line w.gates) ++ (text_of_lines (always_line a.0 ∷ []) ++ (text_of_lines (map part_line w.parts) ++ rest))) =
      latches.text ∙ ap (λ (r : List ℕ). text_of_lines (map latch_line w.latches) ++ r) e2 in (
        p.1,
        record {
          witness = record { latches = (latches_read counts behind).0; gates = (gates_read counts behind).0; always = a.0; parts = (parts_read counts behind).0 };
          s_is = λ i. record {
            counts = Some (same i);
            latches = (latches_read counts behind).0;
            gates = (gates_read counts behind).0;
            always = a.1 i;
            parts = (parts_read counts behind).0;
            rest = is i;
          };
          text = head ∙ (λ i. text_of_lines (counts_line (same i) ∷ []) ++ e1 i)
              ∙ sym (five_texts (text_of_lines (head_line w ∷ [])) (text_of_lines (map latch_line w.latches)) (text_of_lines (map gate_line w.gates)) (text_of_lines (always_line a.0 ∷ []))
              (text_of_lines (map part_line w.parts)) rest);
          fits = record {
            counts = subst AreCounts same are;
            latches = latches.all;
            gates = gates.all;
            always = subst (λ (o : Option ℕ). IfSome o IsLiteral) a.1 always.fits;
            parts = parts.all;
          };
        },
      )

  behind_is_read : IsRead bytes (statement_behind counts behind)
  behind_is_read =
      let few = few_counts counts are in
      let a = few.latches in
      let b = few.gates in
      let c = few.parts in
      let x = latches.at_most in
      let y = gates.at_most in
      let z = parts.at_most in
      record {
        counts = are;
        few_latches = omega (arith, a, x);
        few_gates = omega (arith, b, y);
        few_parts = omega (arith, c, z);
        latches = latches.all;
        gates = gates.all;
        parts = parts.all;
        left = parts.left;
        lines = lines_fit;
        whole = good_behind;
      }

read_by : (bytes : List ℕ) (o : Option (WitnessCounts × List ℕ)) → front counts_in bytes ≡ o → IsRead bytes (on_counts o)
read_by bytes None e =
    record {
      counts = tt;
      few_latches = omega arith;
      few_gates = omega arith;
      few_parts = omega arith;
      latches = λ k d less. absurd (omega arith);
      gates = λ k d less. absurd (omega arith);
      parts = λ k d less. absurd (omega arith);
      left = bytes;
      lines = omega arith;
      whole = λ rest is. absurd (cc);
    }
read_by bytes (Some read) e =
    let f = next_is counts_in counts_line AreCounts counts_form bytes read.0 read.1 e in
    behind_is_read read.0 f.fits bytes read.1 (f.text [] read.1 refl)

pub statement_is_read : (bytes : List ℕ) → IsRead bytes (statement_in bytes)
statement_is_read bytes = read_by bytes (front counts_in bytes) refl

-- ---- what stands there is read

module _ (w : Witness) (fits : FitsLines w) (rest : List ℕ) where
  abbrev after_always : List ℕ
  after_always = text_of_lines (map part_line w.parts) ++ rest

  abbrev after_gates : List ℕ
  after_gates = text_of_lines (always_line w.always ∷ []) ++ after_always

  abbrev after_latches : List ℕ
  after_latches = text_of_lines (map gate_line w.gates) ++ after_gates

  abbrev after_head : List ℕ
  after_head = text_of_lines (map latch_line w.latches) ++ after_latches

  latches_are : latches_read (counts_of_witness w) after_head ≡ (w.latches, Some after_latches)
  latches_are = group_read latch_in latch_line IsLiteral latch_form w.latches (length w.latches) after_latches refl fits.latches

  gates_are : gates_read (counts_of_witness w) after_head ≡ (w.gates, Some after_gates)
  gates_are =
      ap (λ (x : List ℕ × Option (List ℕ)). group gate_in (length w.gates) x.1) latches_are
      ∙ group_read gate_in gate_line AreOperands gate_form w.gates (length w.gates) after_gates refl fits.gates

  always_is : always_read (counts_of_witness w) after_head ≡ (Some w.always, Some after_always)
  always_is =
      ap (λ (x : List Operands × Option (List ℕ)). single always_in x.1) gates_are
      ∙ single_read always_in always_line IsLiteral always_form w.always after_always fits.always

  parts_are : parts_read (counts_of_witness w) after_head ≡ (w.parts, Some rest)
  parts_are =
      ap (λ (x : Option ℕ × Option (List ℕ)). group part_in (length w.parts) x.1) always_is
      ∙ group_read part_in part_line IsPart part_form w.parts (length w.parts) rest refl fits.parts

  behind_read : statement_behind (counts_of_witness w) after_head ≡ statement_of w rest
  behind_read = λ i. record {
    counts = Some (counts_of_witness w);
    latches = (latches_are i).0;
    gates = (gates_are i).0;
    always = (always_is i).0;
    parts = (parts_are i).0;
    rest = (parts_are i).1;
  }

  pub statement_read : statement_in (statement_text w ++ rest) ≡ statement_of w rest
  statement_read =
      ap statement_in
      (five_texts (text_of_lines (head_line w ∷ [])) (text_of_lines (map latch_line w.latches)) (text_of_lines (map gate_line w.gates)) (text_of_lines (always_line w.always ∷ []))
      (text_of_lines (map part_line w.parts)) rest)
      ∙ ap on_counts (next_read counts_in counts_line AreCounts counts_form (counts_of_witness w) [] after_head fits.counts)
      ∙ behind_read
