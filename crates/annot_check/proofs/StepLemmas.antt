-- One step of a circuit, from given values.
use Rattle.std.proofs.Common.{below_more, set, ◌≡◌, ℕ, zero, suc, ◌+◌, ◌-◌, ◌*◌, ◌/◌, ◌%◌, ◌^◌, ◌<◌, ◌≤◌, Bool, true, false, List, [], ◌∷◌, ◌++◌, length, get_or, drop, refl, sym, ap, subst, ◌∙◌, arith, inl, inr}
use Rattle.std.proofs.lemmas.Bool.{cases_lt}
use Rattle.std.proofs.lemmas.List.{get_or_append_left, length-append, length-drop, get_or-map, get_or-set_other, get_or-set_same, get_or_default, length-map, length-set, same_lists}
use Rattle.std.proofs.Math.Pow.{pow_mono}
use Rattle.std.proofs.Math.Seq.{get_or-append_seam}
use Rattle.letters_and_lassos.specs.declared.kinds.Side.{Side}
use Rattle.letters_and_lassos.specs.declared.letters.Letter.{Letter}
use Rattle.letters_and_lassos.specs.Signals.{has}
use Rattle.aiger_text.specs.declared.circuits.Latch.{Latch}
use Rattle.aiger_text.specs.Circuit.{Circuit, literal_value, literal_values}
use Rattle.aiger_text.specs.CircuitType.{IsCircuit, IsDefined}
use Rattle.aiger_text.specs.Step.{HasValues, IsStep, StateModel}
use Rattle.aiger_text.specs.Laws.{ValuationsAgree}
use Rattle.aiger_text.proofs.Putting.{no_latch}
use Rattle.aiger_text.proofs.Stepping.{next_defined, output_defined}
use Rattle.std.specs.Cmp.{booleans_Decides}
use Rattle.std.specs.Cmp.Lexicographic.{pointwise_decides}
use Rattle.annot_check.specs.declared.steps.Reaction.{Reaction}
use Rattle.annot_check.specs.declared.steps.Reactions.{Reactions}
use Rattle.annot_check.specs.Place.{same_code}
use Rattle.annot_check.specs.Steps.{AreReactions, GivesInputs, IsReaction, read_of, whole_of}
use Rattle.letters_and_lassos.specs.Bits.{binary_value}
use Rattle.letters_and_lassos.proofs.Bits.{same_number, number_of-lt}
use Rattle.annot_check.specs.Valid.{Goes}
use Rattle.annot_check.proofs.Letters.{HasParts, each_signal, read_signals, whole_parts}
use Rattle.annot_check.proofs.Lists.{map-All}

-- the letter of a step, and no other that reads the same
module _ (side : Side) (c : Circuit) (circuit : IsCircuit c) (agree : ValuationsAgree c) (code : List Bool) (read : ℕ) (before after : StateModel)
    (small : read < 2 ^ length c.inputs) (count : length before.inputs ≡ length c.inputs)
    (inputs : (k : ℕ) → k < length c.inputs → get_or before.inputs k false ≡ has read k)
    (latches : before.latches ≡ code) (step : IsStep c before after) where
  abbrev letter : ℕ
  letter = whole_of side c read (binary_value after.outputs)

  outputs-length : length after.outputs ≡ length c.outputs
  outputs-length = ap (λ (xs : List Bool). length xs) step.writes ∙ length-map c.outputs (literal_value step.values)

  parts : HasParts side c letter read after.outputs
  parts = whole_parts side c read after.outputs small outputs-length

  input-value : (k : ℕ) → k < length c.inputs → literal_value step.values (get_or c.inputs k 0) ≡ has read k
  input-value k h =
      sym (get_or-map (λ literal. literal_value step.values literal) c.inputs k 0 false h)
      ∙ ap (λ (bits : List Bool). get_or bits k false) step.before.reads ∙ inputs k h

  output-value : (k : ℕ) → k < length c.outputs → literal_value step.values (get_or c.outputs k 0) ≡ get_or after.outputs k false
  output-value k h =
      sym (get_or-map (λ literal. literal_value step.values literal) c.outputs k 0 false h)
      ∙ ap (λ (bits : List Bool). get_or bits k false) (sym step.writes)

  goes : Goes side c code (record { 0 = letter }) after.latches
  goes = record {
    values = step.values;
    holds = step.before.holds ∙ latches;
    gates = step.before.gates;
    reads = λ k h. input-value k h ∙ sym (parts.reads k h);
    writes = λ k h. output-value k h ∙ sym (parts.writes k h);
    within = parts.within;
    moves = step.moves;
  }

  module _ (other : Letter) (to : List Bool) (g : Goes side c code other to) (same_read : read_of side c other.0 ≡ read) where
    other-read : (k : ℕ) → k < length c.inputs → literal_value g.values (get_or c.inputs k 0) ≡ has read k
    other-read k h = g.reads k h ∙ sym (read_signals side c other.0 k h) ∙ ap (λ m. has m k) same_read

    reads : literal_values g.values c.inputs ≡ before.inputs
    reads = same_lists (literal_values g.values c.inputs) before.inputs (length-map c.inputs (literal_value g.values) ∙ sym count)
        (λ k d h.
        let within : k < length c.inputs = rw length-map at h in
        get_or-map (λ literal. literal_value g.values literal) c.inputs k 0 d within ∙ other-read k within ∙ sym (inputs k within)
        ∙ get_or_default before.inputs k false d (rw count within))

    values : HasValues c before.inputs before.latches g.values
    values = record { reads = reads; holds = g.holds ∙ sym latches; gates = g.gates }

    same_value : (l : ℕ) → IsDefined c l → literal_value g.values l ≡ literal_value step.values l
    same_value l defined = agree before.inputs before.latches g.values step.values values step.before l defined

    same_next : to ≡ after.latches
    same_next =
        g.moves ∙ map-All (λ (latch : Latch). literal_value g.values latch.next) (λ (latch : Latch). literal_value step.values latch.next) c.latches
        (λ k d h. same_value (get_or c.latches k d).next (subst (λ (latch : Latch). IsDefined c latch.next) (get_or_default c.latches k no_latch d h) (next_defined c circuit k h)))
        ∙ sym step.moves

    bits-agree : (k : ℕ) → k < length c.inputs + length c.outputs → has other.0 k ≡ has letter k
    bits-agree = each_signal side c (λ k. has other.0 k ≡ has letter k)
        (λ k h. sym (g.reads k h) ∙ other-read k h ∙ sym (parts.reads k h))
        (λ k h. sym (g.writes k h) ∙ same_value (get_or c.outputs k 0) (output_defined c circuit k 0 h) ∙ output-value k h ∙ sym (parts.writes k h))

    same_letter : other ≡ record { 0 = letter }
    same_letter =
        let e : other.0 ≡ letter = same_number (length c.inputs + length c.outputs) other.0 letter g.within goes.within bits-agree in
        λ i. record { 0 = e i }

  pub reacts : IsReaction side c code read (record { 0 = letter }) after.latches
  reacts = record { goes = goes; only = λ other to g same. (same_letter other to g same, same_next other to g same) }

-- ---- giving values one by one

-- the first n inputs are given
pub record Given (old now : StateModel) (read n : ℕ) : Type 0 where
  pub inputs : (k : ℕ) → k < n → get_or now.inputs k false ≡ has read k
  pub same : now ≡ record old { inputs = now.inputs }
  pub count : length now.inputs ≡ length old.inputs

pub given_none : (old : StateModel) (read : ℕ) → Given old old read 0
given_none old read = record { inputs = λ k h. absurd (omega arith); same = refl; count = refl }

pub given_more : (old now new : StateModel) (read n : ℕ) (bit : Bool) → Given old now read n → n < length old.inputs → bit ≡ has read n
    → new ≡ record now { inputs = set now.inputs n bit } → Given old new read (n + 1)
given_more old now new read n bit g h is e =
    let inputs_are : new.inputs ≡ set now.inputs n bit = ap (λ (s : StateModel). s.inputs) e in
    let room : n < length now.inputs = rw g.count h in
    record {
      inputs = below_more (λ k. get_or new.inputs k false ≡ has read k) n
          (λ k less. ap (λ (xs : List Bool). get_or xs k false) inputs_are ∙ get_or-set_other now.inputs n k bit false (λ same. omega arith) ∙ g.inputs k less)
          (ap (λ (xs : List Bool). get_or xs n false) inputs_are ∙ get_or-set_same now.inputs n bit false room ∙ is);
      same = e ∙ ap (λ (s : StateModel). (let t : StateModel = record s { inputs = set now.inputs n bit } in t)) g.same ∙ ap (λ (xs : List Bool). (let t : StateModel = record old { inputs = xs } in t)) (sym inputs_are);
      count = ap (λ (xs : List Bool). length xs) inputs_are ∙ length-set now.inputs n bit ∙ g.count;
    }

pub given_all : (old now : StateModel) (read n inputs : ℕ) → length old.inputs ≡ inputs → inputs ≤ n → Given old now read n → GivesInputs old now read
given_all old now read n inputs count all g = record { inputs = λ k h. g.inputs k (omega arith); same = g.same; count = g.count }

-- the first n latches are given
pub record SetUpTo (old now : StateModel) (code : List Bool) (n : ℕ) : Type 0 where
  pub latches : (k : ℕ) → k < n → get_or now.latches k false ≡ get_or code k false
  pub same : now ≡ record old { latches = now.latches }
  pub count : length now.latches ≡ length old.latches

pub set_none : (old : StateModel) (code : List Bool) → SetUpTo old old code 0
set_none old code = record { latches = λ k h. absurd (omega arith); same = refl; count = refl }

pub set_more : (old now new : StateModel) (code : List Bool) (n : ℕ) (bit : Bool) → SetUpTo old now code n → n < length old.latches → bit ≡ get_or code n false
    → new ≡ record now { latches = set now.latches n bit } → SetUpTo old new code (n + 1)
set_more old now new code n bit g h is e =
    let latches_are : new.latches ≡ set now.latches n bit = ap (λ (s : StateModel). s.latches) e in
    let room : n < length now.latches = rw g.count h in
    record {
      latches = below_more (λ k. get_or new.latches k false ≡ get_or code k false) n
          (λ k less. ap (λ (xs : List Bool). get_or xs k false) latches_are ∙ get_or-set_other now.latches n k bit false (λ same. omega arith) ∙ g.latches k less)
          (ap (λ (xs : List Bool). get_or xs n false) latches_are ∙ get_or-set_same now.latches n bit false room ∙ is);
      same = e ∙ ap (λ (s : StateModel). (let t : StateModel = record s { latches = set now.latches n bit } in t)) g.same ∙ ap (λ (xs : List Bool). (let t : StateModel = record old { latches = xs } in t)) (sym latches_are);
      count = ap (λ (xs : List Bool). length xs) latches_are ∙ length-set now.latches n bit ∙ g.count;
    }

pub set_all : (old now : StateModel) (code : List Bool) (n : ℕ) → length code ≡ length old.latches → length code ≤ n → SetUpTo old now code n → now ≡ record old { latches = code }
set_all old now code n count all g =
    let one : now.latches ≡ code = same_lists now.latches code (g.count ∙ sym count)
    (λ k d h.
    let within : k < length old.latches = rw (← g.count) h in
    get_or_default now.latches k d false h ∙ g.latches k (omega arith) ∙ get_or_default code k false d (omega arith)) in
    g.same ∙ ap (λ (xs : List Bool). (let t : StateModel = record old { latches = xs } in t)) one

-- a number of few bits is small
pub small_number : (bits : List Bool) (k n : ℕ) → length bits < 17 → n ≡ binary_value (drop k bits) → n < 65536
small_number bits k n few is =
    let less : binary_value (drop k bits) < 2 ^ length (drop k bits) = number_of-lt (drop k bits) in
    let short : length (drop k bits) ≤ 16 = (let d : length (drop k bits) ≡ length bits - k = length-drop k bits in omega (arith, d, few)) in
    let most : 2 ^ length (drop k bits) ≤ 2 ^ 16 = pow_mono short in
    omega (arith, is, less, most)

pub whole_number : (bits : List Bool) (k n count : ℕ) → length bits ≡ count → k ≤ 0 → n ≡ binary_value (drop k bits) → n < 2 ^ count
whole_number bits zero n count is low same = subst (λ m. n < 2 ^ m) is (rw same (number_of-lt bits))
whole_number bits (suc k) n count is low same = absurd (omega arith)

-- one reaction more
pub each_pushed : (side : Side) (c : Circuit) (code : List Bool) (steps : List Reaction) (step : Reaction) → ((k : ℕ) (d : Reaction) → k < length steps → IsReaction side c code k (get_or steps k d).letter (get_or steps k d).next)
    → IsReaction side c code (length steps) step.letter step.next → (k : ℕ) (d : Reaction) → k < length (steps ++ step ∷ [])
    → IsReaction side c code k (get_or (steps ++ step ∷ []) k d).letter (get_or (steps ++ step ∷ []) k d).next
each_pushed side c code steps step each one k d h = elim (cases_lt k (length steps)) [
  | inl less ↦ subst (λ (r : Reaction). IsReaction side c code k r.letter r.next) (sym (get_or_append_left steps (step ∷ []) d k less)) (each k d less)
  | inr more ↦
      let size : length (steps ++ step ∷ []) ≡ length steps + 1 = length-append steps (step ∷ []) in
      let last : length steps ≡ k = omega (arith, h, size, more) in
      subst (λ j. IsReaction side c code j (get_or (steps ++ step ∷ []) j d).letter (get_or (steps ++ step ∷ []) j d).next) last
      (subst (λ (r : Reaction). IsReaction side c code (length steps) r.letter r.next) (sym (get_or-append_seam steps step [] d)) one)
]

-- one of the reactions from a code
pub reaction_at : (side : Side) (c : Circuit) (r : Reactions) → AreReactions side c r → (code : List Bool) → r.code ≡ code → (k : ℕ) (step : Reaction) → k < length r.steps.items
    → step ≡ get_or r.steps.items k step → IsReaction side c code k step.letter step.next
reaction_at side c r are code same k step h is =
    subst (λ (x : List Bool). IsReaction side c x k step.letter step.next) same
    (subst (λ (s : Reaction). IsReaction side c r.code k s.letter s.next) (sym is) (are.each k step h))

-- the same code, as it is compared
pub code_same : (a b : List Bool) → same_code a b ≡ true → a ≡ b
code_same a b e = (pointwise_decides booleans_Decides a b).0 e
