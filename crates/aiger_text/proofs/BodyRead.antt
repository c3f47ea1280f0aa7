-- The lines of numbers that were written of a circuit, read back.
use Rattle.std.proofs.Common.{◌≡◌, ◌≢◌, ℕ, suc, ◌+◌, ◌*◌, ◌/◌, ◌%◌, ◌<◌, ◌≤◌, Bool, true, false, not, ◌&&◌, ◌||◌, cond, eqb, None, List, [], ◌∷◌, ◌++◌, length, get_or, refl, sym, ap, subst, ◌∙◌, arith, inl, inr, decimal}
use Rattle.std.specs.Prelude.{map, All, Contains, flat_map, nat_le, nat_lt, Ok, Err}
use Rattle.std.specs.List.{list_any, position_from, AllZip}
use Rattle.std.proofs.lemmas.Bool.{eq-eqb, le-leb, lt-leb, lt-ltb, le-ltb, and_left, and_right, and_from, or_from, or_left, or_right, ne_eqb}
use Rattle.std.proofs.lemmas.List.{append-nil, append_assoc, map-append, length-append, length-map, get_or-map, get_or_append_left, get_or-append-add}
use Rattle.std.proofs.lemmas.List.Elements.{All-cons, All-from_get_or, Contains-append_cases}
use Rattle.std.proofs.lemmas.List.Folds.{list_any_none, list_any_at}
use Rattle.std.proofs.Math.Seq.{get_or-append_seam}
use Rattle.text_limits.specs.declared.TheConstants.{CIRCUIT_VARIABLES}
use Rattle.aiger_text.specs.declared.circuits.Latch.{Latch}
use Rattle.aiger_text.specs.declared.circuits.Gate.{Gate}
use Rattle.aiger_text.specs.declared.counts.Counts.{Counts}
use Rattle.aiger_text.specs.declared.faults.CircuitFault.TheVariants.{DefinedTwice}
use Rattle.aiger_text.specs.Circuit.{Circuit}
use Rattle.aiger_text.specs.CircuitType.{IsCircuit, IsDefined, IsDefinable, defined_literals}
use Rattle.aiger_text.specs.CircuitText.{gate_line, IsLatchLine}
use Rattle.aiger_text.specs.CircuitFile.{Draft, defines, is_known, is_whole, with_line, with_input, with_latch, with_output, with_gate, body_from, on_line, and_then, no_lines, literal_in, definable_in, latch_in, gate_in, undefined_line, found_from}
use Rattle.aiger_text.specs.Sound.{IsOwn, IsOwnLatch, IsOwnGate}
use Rattle.aiger_text.proofs.Firsts.{none_is}
use Rattle.aiger_text.proofs.Scanning.{HasPiece, on_line-more}
use Rattle.aiger_text.proofs.FormsRead.{literal_in-decimal, definable_in-decimal, latch_in-line, gate_in-line}

-- parts of what holds of all
module _ {X : Type 0} (P : X → Type 0) where
  pub front : (xs ys : List X) → All P (xs ++ ys) → All P xs
  front xs ys all k d h =
      let n : length (xs ++ ys) ≡ length xs + length ys = length-append xs ys in
      subst P (get_or_append_left xs ys d k h) (all k d (omega (arith, n, h)))

  pub back : (xs ys : List X) → All P (xs ++ ys) → All P ys
  back xs ys all k d h =
      let n : length (xs ++ ys) ≡ length xs + length ys = length-append xs ys in
      subst P (get_or-append-add xs ys k d) (all (length xs + k) d (omega (arith, n, h)))

  pub of_map : {Y : Type 0} (f : Y → X) (ys : List Y) → All P (map f ys) → All (λ y. P (f y)) ys
  of_map f ys all k d h = subst P (get_or-map f ys k d (f d) h) (all k (f d) (rw length-map h))

  pub at_seam : (whole done : List X) (x : X) (rest : List X) → whole ≡ done ++ x ∷ rest → All P whole → P x
  at_seam whole done x rest e all =
      let n : length (done ++ x ∷ rest) ≡ length done + length (x ∷ rest) = length-append done (x ∷ rest) in
      let within : length done < length whole = omega (arith, n, ap length e) in
      subst P (ap (λ xs. get_or xs (length done) x) e ∙ get_or-append_seam done x rest x) (all (length done) x within)

pub of_operands : (P : ℕ → Type 0) (gates : List Gate) → All P (flat_map (λ gate. gate.left ∷ gate.right ∷ []) gates) → All (λ gate. P gate.left × P gate.right) gates
of_operands P [] all = λ k d h. absurd (omega arith)
of_operands P (g ∷ gates) all =
    All-cons (λ (gate : Gate). P gate.left × P gate.right) g gates (all 0 0 (omega arith), all 1 0 (omega arith))
    (of_operands P gates (λ k d h. all (suc (suc k)) d (omega arith)))

pub has_append : (xs ys : List (List ℕ)) → HasPiece ys → HasPiece (xs ++ ys)
has_append [] ys has = has
has_append (x ∷ xs) ys has = record { first = x; others = xs ++ ys; are = refl }

-- a line that is wanted and states something
body_on : (d more : Draft) (n : ℕ) (line : List ℕ) (rest : List (List ℕ)) → is_whole d ≡ false → HasPiece rest → with_line d n line ≡ Ok more
    → body_from d n (line ∷ rest) ≡ body_from more (n + 1) rest
body_on d more n line rest wanted has states =
    ap (λ b. cond b (Ok (record { draft = d; line = n; rest = line ∷ rest })) (on_line rest n (and_then (λ more. body_from more (n + 1) rest) (with_line d n line)))) wanted
    ∙ on_line-more rest n (and_then (λ more. body_from more (n + 1) rest) (with_line d n line)) has
    ∙ ap (and_then (λ more. body_from more (n + 1) rest)) states

line_by : (d : Draft) (n : ℕ) (line : List ℕ) (a b c : Bool) → nat_lt (length d.inputs) d.counts.inputs ≡ a → nat_lt (length d.latches) d.counts.latches ≡ b → nat_lt (length d.outputs) d.counts.outputs ≡ c
    → with_line d n line ≡ cond a (with_input d n (definable_in d.counts line)) (cond b (and_then (with_latch d n) (latch_in d.counts n line)) (cond c (with_output d n (literal_in d.counts line)) (with_gate d n (gate_in d.counts line))))
line_by d n line a b c ea eb ec =
    λ k. cond (ea k) (with_input d n (definable_in d.counts line)) (cond (eb k) (and_then (with_latch d n) (latch_in d.counts n line)) (cond (ec k) (with_output d n (literal_in d.counts line)) (with_gate d n (gate_in d.counts line))))

abbrev pub literals_of : Draft → List ℕ
literals_of d = d.inputs ++ (map (λ (latch : Latch). latch.literal) d.latches ++ map (λ (gate : Gate). gate.literal) d.gates)

none_defined : (d : Draft) (v : ℕ) → All (λ y. y / 2 ≢ v) (literals_of d) → defines d v ≡ false
none_defined d v all =
    let latches : List ℕ = map (λ (latch : Latch). latch.literal) d.latches in
    let gates : List ℕ = map (λ (gate : Gate). gate.literal) d.gates in
    let others : All (λ y. y / 2 ≢ v) (map (λ (latch : Latch). latch.literal) d.latches ++ map (λ (gate : Gate). gate.literal) d.gates) =
    back (λ y. y / 2 ≢ v) d.inputs (map (λ (latch : Latch). latch.literal) d.latches ++ map (λ (gate : Gate). gate.literal) d.gates) all in
    or_from _ _
    (list_any_none (λ literal. eqb (literal / 2) v) d.inputs (λ k y h. ne_eqb (get_or d.inputs k y / 2) v
    (front (λ y. y / 2 ≢ v) d.inputs (map (λ (latch : Latch). latch.literal) d.latches ++ map (λ (gate : Gate). gate.literal) d.gates) all k y h)))
    (or_from _ _
    (list_any_none (λ (latch : Latch). eqb (latch.literal / 2) v) d.latches (λ k y h. ne_eqb ((get_or d.latches k y).literal / 2) v
    (of_map (λ y. y / 2 ≢ v) (λ (latch : Latch). latch.literal) d.latches (front (λ y. y / 2 ≢ v) (map (λ (latch : Latch). latch.literal) d.latches) (map (λ (gate : Gate). gate.literal) d.gates) others) k y h)))
    (list_any_none (λ (gate : Gate). eqb (gate.literal / 2) v) d.gates (λ k y h. ne_eqb ((get_or d.gates k y).literal / 2) v
    (of_map (λ y. y / 2 ≢ v) (λ (gate : Gate). gate.literal) d.gates (back (λ y. y / 2 ≢ v) (map (λ (latch : Latch). latch.literal) d.latches) (map (λ (gate : Gate). gate.literal) d.gates) others) k y h))))

module _ (c : Circuit) (kept : IsCircuit c) (size : c.variables ≤ CIRCUIT_VARIABLES) where
  abbrev pub counts_of : Counts
  counts_of = record { variables = c.variables; inputs = length c.inputs; latches = length c.latches; outputs = length c.outputs; gates = length c.gates }

  abbrev draft : List ℕ → List Latch → List ℕ → List Gate → Draft
  draft inputs latches outputs gates = record { counts = counts_of; inputs = inputs; latches = latches; outputs = outputs; gates = gates }

  -- the next literal that is defined is a new one
  record Fresh (d : Draft) (x : ℕ) : Type 0 where
    own : IsOwn counts_of x
    new : defines d (x / 2) ≡ false

  pub definable : All (IsOwn counts_of) (defined_literals c)
  definable k y h = let is : IsDefinable c (get_or (defined_literals c) k y) = kept.definable k y h in record { even = is.even; some = is.a_variable; within = is.in_range }

  fresh : (d : Draft) (x : ℕ) (others : List ℕ) → defined_literals c ≡ literals_of d ++ x ∷ others → Fresh d x
  fresh d x others e =
      let n : length (literals_of d ++ x ∷ others) ≡ length (literals_of d) + length (x ∷ others) = length-append (literals_of d) (x ∷ others) in
      let whole : length (defined_literals c) ≡ length (literals_of d ++ x ∷ others) = ap length e in
      let within : length (literals_of d) < length (defined_literals c) = omega (arith, n, whole) in
      let here : get_or (defined_literals c) (length (literals_of d)) 0 ≡ x = ap (λ xs. get_or xs (length (literals_of d)) 0) e ∙ get_or-append_seam (literals_of d) x others 0 in
      let own : IsOwn counts_of x = at_seam (IsOwn counts_of) (defined_literals c) (literals_of d) x others e definable in
      record {
        own = own;
        new = none_defined d (x / 2) (All-from_get_or (λ y. y / 2 ≢ x / 2) (literals_of d) 0 (λ i less same.
            let there : get_or (defined_literals c) i 0 ≡ get_or (literals_of d) i 0 = ap (λ xs. get_or xs i 0) e ∙ get_or_append_left (literals_of d) (x ∷ others) 0 i less in
            let even : get_or (defined_literals c) i 0 % 2 ≡ 0 = (definable i 0 (omega (arith, less, within))).even in
            let even_x : x % 2 ≡ 0 = own.even in
            let equal : get_or (defined_literals c) i 0 ≡ get_or (defined_literals c) (length (literals_of d)) 0 = omega (arith, there, even, even_x, same, here) in
            kept.once i (length (literals_of d)) less within equal));
      }

  pub next_known : All (λ (latch : Latch). IsDefined c latch.next) c.latches
  next_known = of_map (IsDefined c) (λ (latch : Latch). latch.next) c.latches
      (front (IsDefined c) (map (λ (latch : Latch). latch.next) c.latches) (c.outputs ++ flat_map (λ (gate : Gate). gate.left ∷ gate.right ∷ []) c.gates) kept.all_defined)

  others_known : All (IsDefined c) (c.outputs ++ flat_map (λ (gate : Gate). gate.left ∷ gate.right ∷ []) c.gates)
  others_known = back (IsDefined c) (map (λ (latch : Latch). latch.next) c.latches) (c.outputs ++ flat_map (λ (gate : Gate). gate.left ∷ gate.right ∷ []) c.gates) kept.all_defined

  pub outputs_known : All (IsDefined c) c.outputs
  outputs_known = front (IsDefined c) c.outputs (flat_map (λ (gate : Gate). gate.left ∷ gate.right ∷ []) c.gates) others_known

  pub operands_known : All (λ (gate : Gate). IsDefined c gate.left × IsDefined c gate.right) c.gates
  operands_known = of_operands (IsDefined c) c.gates (back (IsDefined c) c.outputs (flat_map (λ (gate : Gate). gate.left ∷ gate.right ∷ []) c.gates) others_known)

  abbrev latch_literals : List Latch → List ℕ
  latch_literals latches = map (λ (latch : Latch). latch.literal) latches

  abbrev gate_literals : List Gate → List ℕ
  gate_literals gates = map (λ (gate : Gate). gate.literal) gates

  -- the lengths of what is done and of what isn't
  shorter : {X : Type 0} (whole done : List X) (x : X) (rest : List X) → whole ≡ done ++ x ∷ rest → length done < length whole
  shorter whole done x rest e =
      let n : length (done ++ x ∷ rest) ≡ length done + length (x ∷ rest) = length-append done (x ∷ rest) in omega (arith, n, ap length e)

  input_taken : (done rest : List ℕ) (x n : ℕ) → c.inputs ≡ done ++ x ∷ rest → with_line (draft done [] [] []) n (decimal x) ≡ Ok (draft (done ++ x ∷ []) [] [] [])
  input_taken done rest x n e =
      let others : List ℕ = latch_literals c.latches ++ gate_literals c.gates in
      let split : defined_literals c ≡ (done ++ []) ++ x ∷ (rest ++ (latch_literals c.latches ++ gate_literals c.gates)) =
      ap (λ (xs : List ℕ). xs ++ (latch_literals c.latches ++ gate_literals c.gates)) e ∙ append_assoc done (x ∷ rest) (latch_literals c.latches ++ gate_literals c.gates)
      ∙ ap (λ (xs : List ℕ). xs ++ x ∷ (rest ++ (latch_literals c.latches ++ gate_literals c.gates))) (sym (append-nil done)) in
      let f : Fresh (draft done [] [] []) x = fresh (draft done [] [] []) x (rest ++ (latch_literals c.latches ++ gate_literals c.gates)) split in
      line_by (draft done [] [] []) n (decimal x) true (nat_lt 0 (length c.latches)) (nat_lt 0 (length c.outputs)) (lt-ltb (length done) (length c.inputs) (shorter c.inputs done x rest e)) refl refl
      ∙ ap (with_input (draft done [] [] []) n) (definable_in-decimal counts_of size x f.own)
      ∙ ap (λ b. cond b (Err (DefinedTwice n)) (Ok (draft (done ++ x ∷ []) [] [] []))) f.new

  inputs_read : (done rest : List ℕ) → c.inputs ≡ done ++ rest → (n : ℕ) (more : List (List ℕ)) → HasPiece more
      → body_from (draft done [] [] []) n (map decimal rest ++ more) ≡ body_from (draft c.inputs [] [] []) (n + length rest) more
  inputs_read done [] e n more has =
      let all : done ≡ c.inputs = sym (e ∙ append-nil done) in
      let same : n ≡ n + 0 = omega arith in
      λ k. body_from (draft (all k) [] [] []) (same k) more
  inputs_read done (x ∷ rest) e n more has =
      let same : n + 1 + length rest ≡ n + suc (length rest) = omega arith in
      body_on (draft done [] [] []) (draft (done ++ x ∷ []) [] [] []) n (decimal x) (map decimal rest ++ more)
      (and_left _ _ (lt-leb (length c.inputs) (length done) (shorter c.inputs done x rest e))) (has_append (map decimal rest) more has) (input_taken done rest x n e)
      ∙ inputs_read (done ++ x ∷ []) rest (e ∙ sym (append_assoc done (x ∷ []) rest)) (n + 1) more has
      ∙ ap (λ n. body_from (draft c.inputs [] [] []) n more) same

  latch_taken : (done rest : List Latch) (x : Latch) (line : List ℕ) (n : ℕ) → c.latches ≡ done ++ x ∷ rest → IsLatchLine x line
      → with_line (draft c.inputs done [] []) n line ≡ Ok (draft c.inputs (done ++ x ∷ []) [] [])
  latch_taken done rest x line n e is =
      let split : defined_literals c ≡ (c.inputs ++ (latch_literals done ++ [])) ++ x.literal ∷ (latch_literals rest ++ gate_literals c.gates) =
      ap (λ (xs : List Latch). c.inputs ++ (latch_literals xs ++ gate_literals c.gates)) e
      ∙ ap (λ (xs : List ℕ). c.inputs ++ (xs ++ gate_literals c.gates)) (map-append (λ (latch : Latch). latch.literal) done (x ∷ rest))
      ∙ ap (λ (xs : List ℕ). c.inputs ++ xs) (append_assoc (latch_literals done) (x.literal ∷ latch_literals rest) (gate_literals c.gates))
      ∙ sym (append_assoc c.inputs (latch_literals done) (x.literal ∷ (latch_literals rest ++ gate_literals c.gates)))
      ∙ ap (λ (xs : List ℕ). (c.inputs ++ xs) ++ x.literal ∷ (latch_literals rest ++ gate_literals c.gates)) (sym (append-nil (latch_literals done))) in
      let f : Fresh (draft c.inputs done [] []) x.literal = fresh (draft c.inputs done [] []) x.literal (latch_literals rest ++ gate_literals c.gates) split in
      let next : IsDefined c x.next = at_seam (λ (latch : Latch). IsDefined c latch.next) c.latches done x rest e next_known in
      let own : IsOwnLatch counts_of x = record { own = f.own; next = next.in_range } in
      line_by (draft c.inputs done [] []) n line false true (nat_lt 0 (length c.outputs)) (le-ltb (length c.inputs) (length c.inputs) (omega arith)) (lt-ltb (length done) (length c.latches) (shorter c.latches done x rest e)) refl
      ∙ ap (and_then (with_latch (draft c.inputs done [] []) n)) (latch_in-line counts_of size n x line own is)
      ∙ ap (λ b. cond b (Err (DefinedTwice n)) (Ok (draft c.inputs (done ++ x ∷ []) [] []))) f.new

  latches_read : (done rest : List Latch) (lines : List (List ℕ)) → c.latches ≡ done ++ rest → AllZip IsLatchLine rest lines → (n : ℕ) (more : List (List ℕ)) → HasPiece more
      → body_from (draft c.inputs done [] []) n (lines ++ more) ≡ body_from (draft c.inputs c.latches [] []) (n + length rest) more
  latches_read done [] [] e are n more has =
      let all : done ≡ c.latches = sym (e ∙ append-nil done) in
      let same : n ≡ n + 0 = omega arith in
      λ k. body_from (draft c.inputs (all k) [] []) (same k) more
  latches_read done [] (line ∷ lines) e are n more has = absurd are
  latches_read done (x ∷ rest) [] e are n more has = absurd are
  latches_read done (x ∷ rest) (line ∷ lines) e are n more has =
      let same : n + 1 + length rest ≡ n + suc (length rest) = omega arith in
      body_on (draft c.inputs done [] []) (draft c.inputs (done ++ x ∷ []) [] []) n line (lines ++ more)
      (and_right _ _ (and_left _ _ (lt-leb (length c.latches) (length done) (shorter c.latches done x rest e)))) (has_append lines more has) (latch_taken done rest x line n e are.0)
      ∙ latches_read (done ++ x ∷ []) rest lines (e ∙ sym (append_assoc done (x ∷ []) rest)) are.1 (n + 1) more has
      ∙ ap (λ n. body_from (draft c.inputs c.latches [] []) n more) same

  output_taken : (done rest : List ℕ) (x n : ℕ) → c.outputs ≡ done ++ x ∷ rest → with_line (draft c.inputs c.latches done []) n (decimal x) ≡ Ok (draft c.inputs c.latches (done ++ x ∷ []) [])
  output_taken done rest x n e =
      let known : IsDefined c x = at_seam (IsDefined c) c.outputs done x rest e outputs_known in
      line_by (draft c.inputs c.latches done []) n (decimal x) false false true (le-ltb (length c.inputs) (length c.inputs) (omega arith)) (le-ltb (length c.latches) (length c.latches) (omega arith)) (lt-ltb (length done) (length c.outputs) (shorter c.outputs done x rest e))
      ∙ ap (with_output (draft c.inputs c.latches done []) n) (literal_in-decimal counts_of size x known.in_range)

  outputs_read : (done rest : List ℕ) → c.outputs ≡ done ++ rest → (n : ℕ) (more : List (List ℕ)) → HasPiece more
      → body_from (draft c.inputs c.latches done []) n (map decimal rest ++ more) ≡ body_from (draft c.inputs c.latches c.outputs []) (n + length rest) more
  outputs_read done [] e n more has =
      let all : done ≡ c.outputs = sym (e ∙ append-nil done) in
      let same : n ≡ n + 0 = omega arith in
      λ k. body_from (draft c.inputs c.latches (all k) []) (same k) more
  outputs_read done (x ∷ rest) e n more has =
      let same : n + 1 + length rest ≡ n + suc (length rest) = omega arith in
      body_on (draft c.inputs c.latches done []) (draft c.inputs c.latches (done ++ x ∷ []) []) n (decimal x) (map decimal rest ++ more)
      (and_right _ _ (and_right _ _ (and_left _ _ (lt-leb (length c.outputs) (length done) (shorter c.outputs done x rest e))))) (has_append (map decimal rest) more has) (output_taken done rest x n e)
      ∙ outputs_read (done ++ x ∷ []) rest (e ∙ sym (append_assoc done (x ∷ []) rest)) (n + 1) more has
      ∙ ap (λ n. body_from (draft c.inputs c.latches c.outputs []) n more) same

  gate_taken : (done rest : List Gate) (x : Gate) (n : ℕ) → c.gates ≡ done ++ x ∷ rest
      → with_line (draft c.inputs c.latches c.outputs done) n (gate_line x) ≡ Ok (draft c.inputs c.latches c.outputs (done ++ x ∷ []))
  gate_taken done rest x n e =
      let split : defined_literals c ≡ (c.inputs ++ (latch_literals c.latches ++ gate_literals done)) ++ x.literal ∷ gate_literals rest =
      ap (λ (xs : List Gate). c.inputs ++ (latch_literals c.latches ++ gate_literals xs)) e
      ∙ ap (λ (xs : List ℕ). c.inputs ++ (latch_literals c.latches ++ xs)) (map-append (λ (gate : Gate). gate.literal) done (x ∷ rest))
      ∙ ap (λ (xs : List ℕ). c.inputs ++ xs) (sym (append_assoc (latch_literals c.latches) (gate_literals done) (x.literal ∷ gate_literals rest)))
      ∙ sym (append_assoc c.inputs (latch_literals c.latches ++ gate_literals done) (x.literal ∷ gate_literals rest)) in
      let f : Fresh (draft c.inputs c.latches c.outputs done) x.literal = fresh (draft c.inputs c.latches c.outputs done) x.literal (gate_literals rest) split in
      let operands = at_seam (λ (gate : Gate). IsDefined c gate.left × IsDefined c gate.right) c.gates done x rest e operands_known in
      let own : IsOwnGate counts_of x = record { own = f.own; left = operands.0.in_range; right = operands.1.in_range } in
      line_by (draft c.inputs c.latches c.outputs done) n (gate_line x) false false false (le-ltb (length c.inputs) (length c.inputs) (omega arith)) (le-ltb (length c.latches) (length c.latches) (omega arith)) (le-ltb (length c.outputs) (length c.outputs) (omega arith))
      ∙ ap (with_gate (draft c.inputs c.latches c.outputs done) n) (gate_in-line counts_of size x own)
      ∙ ap (λ b. cond b (Err (DefinedTwice n)) (Ok (draft c.inputs c.latches c.outputs (done ++ x ∷ [])))) f.new

  gates_read : (done rest : List Gate) → c.gates ≡ done ++ rest → (n : ℕ) (more : List (List ℕ)) → HasPiece more
      → body_from (draft c.inputs c.latches c.outputs done) n (map gate_line rest ++ more) ≡ body_from (draft c.inputs c.latches c.outputs c.gates) (n + length rest) more
  gates_read done [] e n more has =
      let all : done ≡ c.gates = sym (e ∙ append-nil done) in
      let same : n ≡ n + 0 = omega arith in
      λ k. body_from (draft c.inputs c.latches c.outputs (all k)) (same k) more
  gates_read done (x ∷ rest) e n more has =
      let same : n + 1 + length rest ≡ n + suc (length rest) = omega arith in
      body_on (draft c.inputs c.latches c.outputs done) (draft c.inputs c.latches c.outputs (done ++ x ∷ [])) n (gate_line x) (map gate_line rest ++ more)
      (and_right (nat_le (length c.inputs) (length c.inputs)) _ (and_right (nat_le (length c.latches) (length c.latches)) _
      (and_right (nat_le (length c.outputs) (length c.outputs)) _ (lt-leb (length c.gates) (length done) (shorter c.gates done x rest e))))) (has_append (map gate_line rest) more has) (gate_taken done rest x n e)
      ∙ gates_read (done ++ x ∷ []) rest (e ∙ sym (append_assoc done (x ∷ []) rest)) (n + 1) more has
      ∙ ap (λ n. body_from (draft c.inputs c.latches c.outputs c.gates) n more) same

  abbrev pub whole : Draft
  whole = draft c.inputs c.latches c.outputs c.gates

  abbrev pub behind : ℕ
  behind = 2 + length c.inputs + length c.latches + length c.outputs + length c.gates

  whole_read : (n : ℕ) (more : List (List ℕ)) → HasPiece more → body_from whole n more ≡ Ok (record { draft = whole; line = n; rest = more })
  whole_read n more has =
      let all : is_whole whole ≡ true = and_from _ _ (le-leb (length c.inputs) (length c.inputs) (omega arith)) (and_from _ _ (le-leb (length c.latches) (length c.latches) (omega arith))
      (and_from _ _ (le-leb (length c.outputs) (length c.outputs) (omega arith)) (le-leb (length c.gates) (length c.gates) (omega arith)))) in
      subst (λ (ps : List (List ℕ)). body_from whole n ps ≡ Ok (record { draft = whole; line = n; rest = ps })) (sym has.are)
      (ap (λ b. cond b (Ok (record { draft = whole; line = n; rest = has.first ∷ has.others }))
      (on_line has.others n (and_then (λ more. body_from more (n + 1) has.others) (with_line whole n has.first)))) all)

  pub body_read : (latch_lines : List (List ℕ)) → AllZip IsLatchLine c.latches latch_lines → (more : List (List ℕ)) → HasPiece more
      → body_from (no_lines counts_of) 2 (map decimal c.inputs ++ (latch_lines ++ (map decimal c.outputs ++ (map gate_line c.gates ++ more)))) ≡ Ok (record { draft = whole; line = behind; rest = more })
  body_read latch_lines are more has =
      let gates : HasPiece (map gate_line c.gates ++ more) = has_append (map gate_line c.gates) more has in
      let outputs : HasPiece (map decimal c.outputs ++ (map gate_line c.gates ++ more)) = has_append (map decimal c.outputs) (map gate_line c.gates ++ more) gates in
      let latches : HasPiece (latch_lines ++ (map decimal c.outputs ++ (map gate_line c.gates ++ more))) = has_append latch_lines (map decimal c.outputs ++ (map gate_line c.gates ++ more)) outputs in
      inputs_read [] c.inputs refl 2 (latch_lines ++ (map decimal c.outputs ++ (map gate_line c.gates ++ more))) latches
      ∙ latches_read [] c.latches latch_lines refl are (2 + length c.inputs) (map decimal c.outputs ++ (map gate_line c.gates ++ more)) outputs
      ∙ outputs_read [] c.outputs refl (2 + length c.inputs + length c.latches) (map gate_line c.gates ++ more) gates
      ∙ gates_read [] c.gates refl (2 + length c.inputs + length c.latches + length c.outputs) more has
      ∙ whole_read behind more has

  -- each literal that is used is known
  same_half : (y v : ℕ) → y ≡ 2 * v → y / 2 ≡ v
  same_half y v e = omega arith

  abbrev by_input : ℕ → Bool
  by_input v = list_any (λ literal. eqb (literal / 2) v) c.inputs

  abbrev by_latch : ℕ → Bool
  by_latch v = list_any (λ (latch : Latch). eqb (latch.literal / 2) v) c.latches

  abbrev by_gate : ℕ → Bool
  by_gate v = list_any (λ (gate : Gate). eqb (gate.literal / 2) v) c.gates

  defined_known : (v : ℕ) → Contains (defined_literals c) (2 * v) → defines whole v ≡ true
  defined_known v there = elim (Contains-append_cases c.inputs (latch_literals c.latches ++ gate_literals c.gates) (2 * v) there) [
    | inl input ↦ or_left (by_input v) (by_latch v || by_gate v) (list_any_at (λ literal. eqb (literal / 2) v) c.inputs input.0 (2 * v) input.1 (eq-eqb _ v (same_half _ v input.2)))
    | inr other ↦ or_right (by_input v) (by_latch v || by_gate v) (elim (Contains-append_cases (latch_literals c.latches) (gate_literals c.gates) (2 * v) other) [
      | inl latch ↦
          let none : Latch = record { literal = 0; next = 0; reset = false } in
          let within : latch.0 < length c.latches = by_length (λ (latch : Latch). latch.literal) c.latches latch.0 latch.1 in
          or_left (by_latch v) (by_gate v) (list_any_at (λ (latch : Latch). eqb (latch.literal / 2) v) c.latches latch.0 none within
          (eq-eqb _ v (same_half _ v (sym (get_or-map (λ (latch : Latch). latch.literal) c.latches latch.0 none (2 * v) within) ∙ latch.2))))
      | inr gate ↦
          let none : Gate = record { literal = 0; left = 0; right = 0 } in
          let within : gate.0 < length c.gates = by_length (λ (gate : Gate). gate.literal) c.gates gate.0 gate.1 in
          or_right (by_latch v) (by_gate v) (list_any_at (λ (gate : Gate). eqb (gate.literal / 2) v) c.gates gate.0 none within
          (eq-eqb _ v (same_half _ v (sym (get_or-map (λ (gate : Gate). gate.literal) c.gates gate.0 none (2 * v) within) ∙ gate.2))))
    ])
  ]
    where
      by_length : {X : Type 0} (f : X → ℕ) (xs : List X) (k : ℕ) → k < length (map f xs) → k < length xs
      by_length f xs k h = rw length-map at h

  is_known_literal : (literal : ℕ) → IsDefined c literal → is_known whole literal ≡ true
  is_known_literal literal known = elim known.defined [
    | inl constant ↦ or_left (eqb (literal / 2) 0) (defines whole (literal / 2)) (eq-eqb (literal / 2) 0 constant)
    | inr there ↦ or_right (eqb (literal / 2) 0) (defines whole (literal / 2)) (defined_known (literal / 2) there)
  ]

  nothing_found : {X : Type 0} (p : X → Bool) (xs : List X) (d : X) → All (λ x. p x ≡ true) xs → position_from (λ x. not (p x)) 0 xs ≡ None
  nothing_found p xs d all = sym (none_is (λ x. not (p x)) xs (length xs) d (omega arith) (λ k h. ap not (all k d h)))

  pub all_known : undefined_line whole ≡ None
  all_known =
      let latches = nothing_found (λ (latch : Latch). is_known whole latch.next) c.latches (record { literal = 0; next = 0; reset = false }) (λ k x h. is_known_literal _ (next_known k x h)) in
      let outputs = nothing_found (is_known whole) c.outputs 0 (λ k x h. is_known_literal _ (outputs_known k x h)) in
      let gates = nothing_found (λ (gate : Gate). is_known whole gate.left && is_known whole gate.right) c.gates (record { literal = 0; left = 0; right = 0 })
      (λ k x h. and_from _ _ (is_known_literal _ (operands_known k x h).0) (is_known_literal _ (operands_known k x h).1)) in
      λ k. found_from (2 + length c.inputs) (latches k) (found_from (2 + length c.inputs + length c.latches) (outputs k) (found_from (2 + length c.inputs + length c.latches + length c.outputs) (gates k) None))
