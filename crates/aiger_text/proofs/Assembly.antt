use Rattle.std.proofs.Common.{◌≡◌, ℕ, zero, suc, ◌+◌, ◌*◌, ◌/◌, ◌%◌, ◌<◌, ◌≤◌, Bool, true, false, not, ◌&&◌, cond, eqb, Option, Some, None, List, [], ◌∷◌, ◌++◌, length, get_or, refl, sym, ap, subst, ◌∙◌, arith, inl, inr}
use Rattle.std.specs.Prelude.{map, All, Result, Ok, Err, flat_map, codes, slice_index}
use Rattle.std.specs.List.{position_from, join_with_byte}
use Rattle.std.specs.Result.{result_unwrap_or}
use Rattle.std.specs.Str.{bytes_eq}
use Rattle.std.proofs.lemmas.Bool.{eqb-true, not-false, and_parts, or_cases}
use Rattle.std.proofs.lemmas.List.{length-map, get_or-map, length-set, length-replicate}
use Rattle.std.proofs.lemmas.List.Elements.{All-append, All-map}
use Rattle.aiger_text.specs.declared.circuits.Latch.{Latch}
use Rattle.aiger_text.specs.declared.circuits.Gate.{Gate}
use Rattle.aiger_text.specs.declared.faults.CircuitFault.{CircuitFault}
use Rattle.aiger_text.specs.declared.faults.CircuitFault.TheVariants.{BadLine}
use Rattle.aiger_text.specs.declared.symbols.Named.{Named}
use Rattle.aiger_text.specs.declared.symbols.Named.TheVariants.{AnInput, ALatch, AnOutput}
use Rattle.aiger_text.specs.CircuitType.{IsCircuit, IsDefined, DependsOn, defined_literals, used_literals, gate_at}
use Rattle.aiger_text.specs.CircuitText.{Symbol}
use Rattle.aiger_text.specs.CircuitFile.{Draft, Parts, Names, Ending, defines, is_known, circuit_of, undefined_line, and_then, ending_from, with_symbol, symbol_in, named_at, lines_for, is_nil, Body, no_names, counts_in, header_of, circuit_parts, parts_of_lines, parts_behind, on_line, lines_of}
use Rattle.aiger_text.specs.Sound.{InRange, IsOwn, IsSoundDraft, times_by, how_often}
use Rattle.aiger_text.specs.declared.counts.Counts.{Counts}
use Rattle.aiger_text.specs.Words.{cut_at}
use Rattle.aiger_text.specs.Walks.{HaveVariables}
use Rattle.aiger_text.specs.Statements.{IsFaultOf}
use Rattle.aiger_text.proofs.Scanning.{cuts, no_cut, has_piece, on_line-more}
use Rattle.aiger_text.proofs.Firsts.{each_fails, found_none}
use Rattle.aiger_text.proofs.SoundLemmas.{each_own, defined_once, is_defined, times-two, times-map}
use Rattle.aiger_text.proofs.Gates.{no_gate}

-- what holds of both operands of each gate
all_operands : (P : ℕ → Type 0) (gates : List Gate) → All (λ gate. P gate.left) gates → All (λ gate. P gate.right) gates → All P (flat_map (λ gate. gate.left ∷ gate.right ∷ []) gates)
all_operands P [] lefts rights k d h = absurd (omega arith)
all_operands P (g ∷ gates) lefts rights zero d h = lefts 0 g (omega arith)
all_operands P (g ∷ gates) lefts rights (suc zero) d h = rights 0 g (omega arith)
all_operands P (g ∷ gates) lefts rights (suc (suc k)) d h =
    all_operands P gates (λ i x hi. lefts (suc i) x (omega arith)) (λ i x hi. rights (suc i) x (omega arith)) k d (omega arith)

module _ (p : Parts) (sound : IsSoundDraft p.draft) where
  abbrev d : Draft
  d = p.draft

  -- a known literal is defined
  known_defined : (literal : ℕ) → InRange d.counts literal → is_known d literal ≡ true → IsDefined (circuit_of p) literal
  known_defined literal range known = record {
    in_range = range;
    defined = elim (or_cases (eqb (literal / 2) 0) (defines d (literal / 2)) known) [
      | inl constant ↦ inl (eqb-true (literal / 2) 0 constant)
      | inr defined ↦ inr (is_defined d sound (literal / 2) defined)
    ];
  }

  uses_defined : undefined_line d ≡ None → All (IsDefined (circuit_of p)) (used_literals (circuit_of p))
  uses_defined none =
      let first = found_none (2 + length d.inputs) (position_from (λ (latch : Latch). not (is_known d latch.next)) 0 d.latches) _ none in
      let second = found_none (2 + length d.inputs + length d.latches) (position_from (λ literal. not (is_known d literal)) 0 d.outputs) _ first.1 in
      let third = found_none (2 + length d.inputs + length d.latches + length d.outputs)
      (position_from (λ (gate : Gate). not (is_known d gate.left && is_known d gate.right)) 0 d.gates) None second.1 in
      let operands : (k : ℕ) (x : Gate) → k < length d.gates → (is_known d (get_or d.gates k x).left ≡ true) × (is_known d (get_or d.gates k x).right ≡ true) =
      λ k x h. and_parts (is_known d (get_or d.gates k x).left) (is_known d (get_or d.gates k x).right)
      (not-false (is_known d (get_or d.gates k x).left && is_known d (get_or d.gates k x).right)
      (each_fails (λ (gate : Gate). not (is_known d gate.left && is_known d gate.right)) d.gates third.0 k x h)) in
      All-append (IsDefined (circuit_of p)) (map (λ (latch : Latch). latch.next) d.latches) (d.outputs ++ flat_map (λ (gate : Gate). gate.left ∷ gate.right ∷ []) d.gates)
      (All-map (IsDefined (circuit_of p)) (λ (latch : Latch). latch.next) d.latches
      (λ k x h. known_defined (get_or d.latches k x).next (sound.latches k x h).next
      (not-false (is_known d (get_or d.latches k x).next) (each_fails (λ (latch : Latch). not (is_known d latch.next)) d.latches first.0 k x h))))
      (All-append (IsDefined (circuit_of p)) d.outputs (flat_map (λ (gate : Gate). gate.left ∷ gate.right ∷ []) d.gates)
      (λ k x h. known_defined (get_or d.outputs k x) (sound.outputs k x h)
      (not-false (is_known d (get_or d.outputs k x)) (each_fails (λ literal. not (is_known d literal)) d.outputs second.0 k x h)))
      (all_operands (IsDefined (circuit_of p)) d.gates
      (λ k x h. known_defined (get_or d.gates k x).left (sound.gates k x h).left (operands k x h).0)
      (λ k x h. known_defined (get_or d.gates k x).right (sound.gates k x h).right (operands k x h).1)))

  pub circuit_is : undefined_line d ≡ None → d.counts.inputs + (d.counts.latches + d.counts.gates) ≤ d.counts.variables
      → length p.ending.names.inputs ≡ length d.inputs → length p.ending.names.outputs ≡ length d.outputs → ((v : ℕ) → DependsOn d.gates v v → ⊥) → IsCircuit (circuit_of p)
  circuit_is none room inputs outputs acyclic = record {
    room = let a : length d.inputs ≤ d.counts.inputs = sound.input_count in
        let b : length d.latches ≤ d.counts.latches = sound.latch_count in
        let c : length d.gates ≤ d.counts.gates = sound.gate_count in
        omega (arith, room, a, b, c);
    definable = λ k x h.
        let own : IsOwn d.counts (get_or (defined_literals (circuit_of p)) k x) = each_own d sound k x h in
        record { even = own.even; a_variable = own.some; in_range = own.within };
    once = defined_once d sound;
    all_defined = uses_defined none;
    no_cycle = acyclic;
    input_places = inputs;
    output_places = outputs;
  }

-- names keep their places
pub record Keeps (old new : Names) : Type 0 where
  pub inputs : length new.inputs ≡ length old.inputs
  pub outputs : length new.outputs ≡ length old.outputs

keeps_both : (a b c : Names) → Keeps a b → Keeps b c → Keeps a c
keeps_both a b c first second = record { inputs = second.inputs ∙ first.inputs; outputs = second.outputs ∙ first.outputs }

named_keeps : (names : Names) (n : ℕ) (sort : Named) (place : ℕ) (name : List ℕ) → Keeps names (named_at names n sort place name)
named_keeps names n AnInput place name = record { inputs = length-set names.inputs place (Some name); outputs = refl }
named_keeps names n ALatch place name = record { inputs = refl; outputs = refl }
named_keeps names n AnOutput place name = record { inputs = refl; outputs = length-set names.outputs place (Some name) }

symbol_keeps : (names : Names) (n : ℕ) (s : Option Symbol) (more : Names) → with_symbol names n s ≡ Ok more → Keeps names more
symbol_keeps names n None more e = absurd (cc)
symbol_keeps names n (Some s) more e = by (eqb (slice_index (lines_for names s.named) s.place) 0) e
  where
    by : (b : Bool) → cond b (Ok (named_at names n s.named s.place s.name)) (Err (BadLine n)) ≡ Ok more → Keeps names more
    by true e =
        let same : named_at names n s.named s.place s.name ≡ more = ap (λ (r : Result Names CircuitFault). result_unwrap_or r more) e in
        subst (Keeps names) same (named_keeps names n s.named s.place s.name)
    by false e = absurd (cc)

pub ending_keeps : (names : Names) (n : ℕ) (lines : List (List ℕ)) (e : Ending) → ending_from names n lines ≡ Ok e → Keeps names e.names
ending_keeps names n [] e is = absurd (cc)
ending_keeps names n (line ∷ []) e is = by (is_nil line) is
  where
    by : (b : Bool) → cond b (Ok (record { names = names; line = n; comment = None })) (Err (BadLine n)) ≡ Ok e → Keeps names e.names
    by true is =
        let same : names ≡ e.names = ap (λ (r : Result Ending CircuitFault). (result_unwrap_or r e).names) is in
        subst (Keeps names) same (record { inputs = refl; outputs = refl })
    by false is = absurd (cc)
ending_keeps names n (line ∷ next ∷ rest) e is =
    by (bytes_eq line (codes "c")) (with_symbol names n (symbol_in names line)) is (symbol_keeps names n (symbol_in names line)) (λ more on. ending_keeps more (n + 1) (next ∷ rest) e on)
  where
    by : (b : Bool) (r : Result Names CircuitFault)
        → cond b (Ok (record { names = names; line = n; comment = Some (join_with_byte 10 (next ∷ rest)) })) (and_then (λ more. ending_from more (n + 1) (next ∷ rest)) r) ≡ Ok e
        → ((more : Names) → r ≡ Ok more → Keeps names more) → ((more : Names) → ending_from more (n + 1) (next ∷ rest) ≡ Ok e → Keeps more e.names) → Keeps names e.names
    by true r is first others =
        let same : names ≡ e.names = ap (λ (r : Result Ending CircuitFault). (result_unwrap_or r e).names) is in
        subst (Keeps names) same (record { inputs = refl; outputs = refl })
    by false (Ok more) is first others = keeps_both names more e.names (first more refl) (others more is)
    by false (Err fault) is first others = absurd (cc)

-- gates of a sound draft have different variables
pub have_variables : (d : Draft) → IsSoundDraft d → HaveVariables d.gates (d.counts.variables + 1)
have_variables d sound = record {
  room = λ k h. let within : (gate_at d.gates k).literal ≤ 2 * d.counts.variables + 1 = (sound.gates k no_gate h).own.within in omega arith;
  apart = λ i k less h e.
      let first : i < length d.gates = omega arith in
      let even : (gate_at d.gates i).literal % 2 ≡ 0 = (sound.gates i no_gate first).own.even in
      let even' : (gate_at d.gates k).literal % 2 ≡ 0 = (sound.gates k no_gate h).own.even in
      let same : (gate_at d.gates i).literal ≡ (gate_at d.gates k).literal = omega (arith, e, even, even') in
      let literals : List ℕ = map (λ (gate : Gate). gate.literal) d.gates in
      let li : get_or literals i 0 ≡ (gate_at d.gates i).literal = get_or-map (λ (gate : Gate). gate.literal) d.gates i no_gate 0 first in
      let lk : get_or literals k 0 ≡ (gate_at d.gates k).literal = get_or-map (λ (gate : Gate). gate.literal) d.gates k no_gate 0 h in
      let inside : k < length literals = rw length-map h in
      let two : 2 ≤ times_by (λ l. l) (get_or literals k 0 / 2) literals = times-two literals i k less inside (li ∙ same ∙ sym lk) in
      let mapped : times_by (λ l. l) (get_or literals k 0 / 2) literals ≡ times_by (λ (gate : Gate). gate.literal) (get_or literals k 0 / 2) d.gates =
      times-map (λ (gate : Gate). gate.literal) (get_or literals k 0 / 2) d.gates in
      let one : how_often d (get_or literals k 0 / 2) ≤ 1 = sound.once (get_or literals k 0 / 2) in
      omega (arith, two, mapped, one);
}

module _ (bytes : List ℕ) where
  abbrev room : ℕ
  room = length bytes + 1

  pub parts_unended : (counts : Counts) → cut_at 10 bytes ≡ None → counts_in room (header_of bytes) ≡ Ok counts → circuit_parts bytes ≡ Err (BadLine 1)
  parts_unended counts none header =
      ap (parts_of_lines room) (no_cut 10 bytes none) ∙ ap (and_then (λ counts. on_line [] 1 (parts_behind counts []))) header

  pub parts_bad_unended : (fault : CircuitFault) → cut_at 10 bytes ≡ None → counts_in room (header_of bytes) ≡ Err fault → circuit_parts bytes ≡ Err fault
  parts_bad_unended fault none header =
      ap (parts_of_lines room) (no_cut 10 bytes none) ∙ ap (and_then (λ counts. on_line [] 1 (parts_behind counts []))) header

  module _ (line text : List ℕ) (cut : cut_at 10 bytes ≡ Some (line, text)) where
    pub parts_bad : (fault : CircuitFault) → counts_in room (header_of line) ≡ Err fault → circuit_parts bytes ≡ Err fault
    parts_bad fault header =
        ap (parts_of_lines room) (cuts 10 bytes line text cut).pieces ∙ ap (and_then (λ counts. on_line (lines_of text) 1 (parts_behind counts (lines_of text)))) header

    pub parts_ended : (counts : Counts) → counts_in room (header_of line) ≡ Ok counts → circuit_parts bytes ≡ parts_behind counts (lines_of text)
    parts_ended counts header =
        ap (parts_of_lines room) (cuts 10 bytes line text cut).pieces ∙ ap (and_then (λ counts. on_line (lines_of text) 1 (parts_behind counts (lines_of text)))) header
        ∙ on_line-more (lines_of text) 1 (parts_behind counts (lines_of text)) (has_piece text)

abbrev pub with_ending : Draft → Ending → Result Parts CircuitFault
with_ending d ending = Ok (record { draft = d; ending = ending })

abbrev pub behind_body : Body → Result Parts CircuitFault
behind_body body = and_then (with_ending body.draft) (ending_from (no_names body.draft) body.line body.rest)

-- the fault of a header is the file's
pub header_fault : (bytes : List ℕ) (fault : CircuitFault) → cut_at 10 bytes ≡ None → IsFaultOf (counts_in (length bytes + 1) (header_of bytes)) fault → IsFaultOf (circuit_parts bytes) fault
header_fault bytes fault none (inl e) = inl e
header_fault bytes fault none (inr e) = inr (parts_bad_unended bytes fault none e)

pub header_fault_ended : (bytes line text : List ℕ) (fault : CircuitFault) → cut_at 10 bytes ≡ Some (line, text) → IsFaultOf (counts_in (length bytes + 1) (header_of line)) fault
    → IsFaultOf (circuit_parts bytes) fault
header_fault_ended bytes line text fault cut (inl e) = inl e
header_fault_ended bytes line text fault cut (inr e) = inr (parts_bad bytes line text cut fault e)

-- there is a place for a name of each input and each output
pub names_fit : (d : Draft) (n : ℕ) (lines : List (List ℕ)) (e : Ending) → ending_from (no_names d) n lines ≡ Ok e
    → (length e.names.inputs ≡ length d.inputs) × (length e.names.outputs ≡ length d.outputs)
names_fit d n lines e is =
    let kept : Keeps (no_names d) e.names = ending_keeps (no_names d) n lines e is in
    (kept.inputs ∙ length-replicate (length d.inputs) None, kept.outputs ∙ length-replicate (length d.outputs) None)
