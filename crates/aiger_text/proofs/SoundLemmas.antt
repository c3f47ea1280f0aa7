use Rattle.std.proofs.Common.{◌≡◌, ◌≢◌, ℕ, zero, suc, ◌+◌, ◌*◌, ◌/◌, ◌%◌, ◌<◌, ◌≤◌, Bool, true, false, ◌||◌, cond, eqb, List, [], ◌∷◌, ◌++◌, length, get_or, refl, sym, ap, ◌∙◌, arith, inl, inr}
use Rattle.std.specs.Prelude.{map, All, Contains}
use Rattle.std.specs.List.{list_any}
use Rattle.std.proofs.lemmas.Bool.{eq-eqb, eqb-true, or_parts, or_cases}
use Rattle.std.proofs.lemmas.List.{length_push, length-map, get_or-map}
use Rattle.std.proofs.lemmas.List.Elements.{All-push, All-append, All-map, Contains-append_left, Contains-append_right}
use Rattle.aiger_text.specs.declared.circuits.Latch.{Latch}
use Rattle.aiger_text.specs.declared.circuits.Gate.{Gate}
use Rattle.aiger_text.specs.CircuitFile.{Draft, defines}
use Rattle.aiger_text.specs.Sound.{InRange, IsOwn, IsOwnLatch, IsOwnGate, IsSoundDraft, times_by, how_often}

-- counts of a longer list
times-append : {X : Type 0} (f : X → ℕ) (v : ℕ) (xs ys : List X) → times_by f v (xs ++ ys) ≡ times_by f v xs + times_by f v ys
times-append f v [] ys = let e : times_by f v ys ≡ 0 + times_by f v ys = omega arith in e
times-append f v (x ∷ xs) ys =
    let rest : times_by f v (xs ++ ys) ≡ times_by f v xs + times_by f v ys = times-append f v xs ys in
    let one : ℕ = cond (eqb (f x / 2) v) 1 0 in
    let goal : one + times_by f v (xs ++ ys) ≡ one + times_by f v xs + times_by f v ys = omega (arith, rest) in goal

times-push : {X : Type 0} (f : X → ℕ) (v : ℕ) (xs : List X) (x : X) → times_by f v (xs ++ x ∷ []) ≡ times_by f v xs + cond (eqb (f x / 2) v) 1 0
times-push f v xs x =
    let e : cond (eqb (f x / 2) v) 1 0 + 0 ≡ cond (eqb (f x / 2) v) 1 0 = omega arith in
    times-append f v xs (x ∷ []) ∙ ap (λ n. times_by f v xs + n) e

pub times-map : {X : Type 0} (f : X → ℕ) (v : ℕ) (xs : List X) → times_by (λ l. l) v (map f xs) ≡ times_by f v xs
times-map f v [] = refl
times-map f v (x ∷ xs) = ap (λ n. cond (eqb (f x / 2) v) 1 0 + n) (times-map f v xs)

times-none : {X : Type 0} (f : X → ℕ) (v : ℕ) (xs : List X) → list_any (λ x. eqb (f x / 2) v) xs ≡ false → times_by f v xs ≡ 0
times-none f v [] h = refl
times-none f v (x ∷ xs) h =
    let both = or_parts (eqb (f x / 2) v) (list_any (λ x. eqb (f x / 2) v) xs) h in
    ap (λ b. cond b 1 0 + times_by f v xs) both.0 ∙ ap (λ n. 0 + n) (times-none f v xs both.1)

never-defined : (d : Draft) (v : ℕ) → defines d v ≡ false → how_often d v ≡ 0
never-defined d v h =
    let first = or_parts (list_any (λ literal. eqb (literal / 2) v) d.inputs)
    (list_any (λ (latch : Latch). eqb (latch.literal / 2) v) d.latches || list_any (λ (gate : Gate). eqb (gate.literal / 2) v) d.gates) h in
    let others = or_parts (list_any (λ (latch : Latch). eqb (latch.literal / 2) v) d.latches) (list_any (λ (gate : Gate). eqb (gate.literal / 2) v) d.gates) first.1 in
    let a : times_by (λ literal. literal) v d.inputs ≡ 0 = times-none (λ literal. literal) v d.inputs first.0 in
    let b : times_by (λ (latch : Latch). latch.literal) v d.latches ≡ 0 = times-none (λ (latch : Latch). latch.literal) v d.latches others.0 in
    let c : times_by (λ (gate : Gate). gate.literal) v d.gates ≡ 0 = times-none (λ (gate : Gate). gate.literal) v d.gates others.1 in
    omega (arith, a, b, c)

-- one more definition, of a variable that has none
once_more : (d : Draft) (literal v : ℕ) → defines d (literal / 2) ≡ false → how_often d v ≤ 1 → how_often d v + cond (eqb (literal / 2) v) 1 0 ≤ 1
once_more d literal v new before = by (eqb (literal / 2) v) refl
  where
    by : (b : Bool) → eqb (literal / 2) v ≡ b → how_often d v + cond b 1 0 ≤ 1
    by true e =
        let same : literal / 2 ≡ v = eqb-true (literal / 2) v e in
        let none : how_often d v ≡ 0 = ap (how_often d) (sym same) ∙ never-defined d (literal / 2) new in
        omega (arith, none)
    by false e = omega (arith, before)

module _ (d : Draft) (sound : IsSoundDraft d) where
  pub sound_input : (literal : ℕ) → IsOwn d.counts literal → defines d (literal / 2) ≡ false → length d.inputs < d.counts.inputs → IsSoundDraft (record d { inputs = d.inputs ++ literal ∷ [] })
  sound_input literal own new room = record {
    inputs = All-push (IsOwn d.counts) d.inputs literal sound.inputs own;
    latches = sound.latches;
    outputs = sound.outputs;
    gates = sound.gates;
    once = λ v.
        let more : times_by (λ l. l) v (d.inputs ++ literal ∷ []) ≡ times_by (λ l. l) v d.inputs + cond (eqb (literal / 2) v) 1 0 = times-push (λ l. l) v d.inputs literal in
        let one : how_often d v + cond (eqb (literal / 2) v) 1 0 ≤ 1 = once_more d literal v new (sound.once v) in
        omega (arith, more, one);
    input_count = let n : length (d.inputs ++ literal ∷ []) ≡ length d.inputs + 1 = length_push d.inputs literal in omega (arith, n);
    latch_count = sound.latch_count;
    gate_count = sound.gate_count;
  }

  pub sound_latch : (latch : Latch) → IsOwnLatch d.counts latch → defines d (latch.literal / 2) ≡ false → length d.latches < d.counts.latches → IsSoundDraft (record d { latches = d.latches ++ latch ∷ [] })
  sound_latch latch own new room = record {
    inputs = sound.inputs;
    latches = All-push (IsOwnLatch d.counts) d.latches latch sound.latches own;
    outputs = sound.outputs;
    gates = sound.gates;
    once = λ v.
        let more : times_by (λ (l : Latch). l.literal) v (d.latches ++ latch ∷ []) ≡ times_by (λ (l : Latch). l.literal) v d.latches + cond (eqb (latch.literal / 2) v) 1 0 = times-push (λ (l : Latch). l.literal) v d.latches latch in
        let one : how_often d v + cond (eqb (latch.literal / 2) v) 1 0 ≤ 1 = once_more d latch.literal v new (sound.once v) in
        omega (arith, more, one);
    input_count = sound.input_count;
    latch_count = let n : length (d.latches ++ latch ∷ []) ≡ length d.latches + 1 = length_push d.latches latch in omega (arith, n);
    gate_count = sound.gate_count;
  }

  pub sound_output : (literal : ℕ) → InRange d.counts literal → IsSoundDraft (record d { outputs = d.outputs ++ literal ∷ [] })
  sound_output literal range = record {
    inputs = sound.inputs;
    latches = sound.latches;
    outputs = All-push (InRange d.counts) d.outputs literal sound.outputs range;
    gates = sound.gates;
    once = sound.once;
    input_count = sound.input_count;
    latch_count = sound.latch_count;
    gate_count = sound.gate_count;
  }

  pub sound_gate : (gate : Gate) → IsOwnGate d.counts gate → defines d (gate.literal / 2) ≡ false → length d.gates < d.counts.gates → IsSoundDraft (record d { gates = d.gates ++ gate ∷ [] })
  sound_gate gate own new room = record {
    inputs = sound.inputs;
    latches = sound.latches;
    outputs = sound.outputs;
    gates = All-push (IsOwnGate d.counts) d.gates gate sound.gates own;
    once = λ v.
        let more : times_by (λ (g : Gate). g.literal) v (d.gates ++ gate ∷ []) ≡ times_by (λ (g : Gate). g.literal) v d.gates + cond (eqb (gate.literal / 2) v) 1 0 = times-push (λ (g : Gate). g.literal) v d.gates gate in
        let one : how_often d v + cond (eqb (gate.literal / 2) v) 1 0 ≤ 1 = once_more d gate.literal v new (sound.once v) in
        omega (arith, more, one);
    input_count = sound.input_count;
    latch_count = sound.latch_count;
    gate_count = let n : length (d.gates ++ gate ∷ []) ≡ length d.gates + 1 = length_push d.gates gate in omega (arith, n);
  }

-- equal elements at two places
times-one : (xs : List ℕ) (k : ℕ) → k < length xs → 1 ≤ times_by (λ l. l) (get_or xs k 0 / 2) xs
times-one [] k h = absurd (omega arith)
times-one (x ∷ xs) zero h =
    let e : ◌≡◌ {A = ℕ} (cond (eqb (x / 2) (x / 2)) 1 0) 1 = ap (λ b. cond b 1 0) (eq-eqb (x / 2) (x / 2) refl) in
    let goal : 1 ≤ cond (eqb (x / 2) (x / 2)) 1 0 + times_by (λ l. l) (x / 2) xs = omega (arith, e) in goal
times-one (x ∷ xs) (suc k) h =
    let rest : 1 ≤ times_by (λ l. l) (get_or xs k 0 / 2) xs = times-one xs k (omega arith) in
    let goal : 1 ≤ cond (eqb (x / 2) (get_or xs k 0 / 2)) 1 0 + times_by (λ l. l) (get_or xs k 0 / 2) xs = omega (arith, rest) in goal

pub times-two : (xs : List ℕ) (i k : ℕ) → i < k → k < length xs → get_or xs i 0 ≡ get_or xs k 0 → 2 ≤ times_by (λ l. l) (get_or xs k 0 / 2) xs
times-two [] i k less h e = absurd (omega arith)
times-two (x ∷ xs) zero (suc k) less h e =
    let rest : 1 ≤ times_by (λ l. l) (get_or xs k 0 / 2) xs = times-one xs k (omega arith) in
    let same : x / 2 ≡ get_or xs k 0 / 2 = ap (λ l. l / 2) e in
    let first : ◌≡◌ {A = ℕ} (cond (eqb (x / 2) (get_or xs k 0 / 2)) 1 0) 1 = ap (λ b. cond b 1 0) (eq-eqb (x / 2) (get_or xs k 0 / 2) same) in
    let goal : 2 ≤ cond (eqb (x / 2) (get_or xs k 0 / 2)) 1 0 + times_by (λ l. l) (get_or xs k 0 / 2) xs = omega (arith, rest, first) in goal
times-two (x ∷ xs) i zero less h e = absurd (omega arith)
times-two (x ∷ xs) (suc i) (suc k) less h e =
    let rest : 2 ≤ times_by (λ l. l) (get_or xs k 0 / 2) xs = times-two xs i k (omega arith) (omega arith) e in
    let goal : 2 ≤ cond (eqb (x / 2) (get_or xs k 0 / 2)) 1 0 + times_by (λ l. l) (get_or xs k 0 / 2) xs = omega (arith, rest) in goal

-- an element that passes
found : {X : Type 0} (f : X → ℕ) (v : ℕ) (xs : List X) → list_any (λ x. eqb (f x / 2) v) xs ≡ true → (k : ℕ) × ((k < length xs) × ((d : X) → f (get_or xs k d) / 2 ≡ v))
found f v [] h = absurd (cc)
found {X = X} f v (x ∷ xs) h = by (eqb (f x / 2) v) refl h (λ rest. found f v xs rest)
  where
    by : (b : Bool) → eqb (f x / 2) v ≡ b → (b || list_any (λ x. eqb (f x / 2) v) xs) ≡ true
        → (list_any (λ x. eqb (f x / 2) v) xs ≡ true → (k : ℕ) × ((k < length xs) × ((d : X) → f (get_or xs k d) / 2 ≡ v)))
        → (k : ℕ) × ((k < length (x ∷ xs)) × ((d : X) → f (get_or (x ∷ xs) k d) / 2 ≡ v))
    by true e h rest = (0, (omega arith, λ d. eqb-true (f x / 2) v e))
    by false e h rest =
        let r = rest h in
        let within : r.0 < length xs = r.1.0 in
        (suc r.0, (omega arith, r.1.1))

module _ (d : Draft) (sound : IsSoundDraft d) where
  abbrev latch_literals : List ℕ
  latch_literals = map (λ (latch : Latch). latch.literal) d.latches

  abbrev gate_literals : List ℕ
  gate_literals = map (λ (gate : Gate). gate.literal) d.gates

  abbrev all_literals : List ℕ
  all_literals = d.inputs ++ (latch_literals ++ gate_literals)

  pub each_own : All (IsOwn d.counts) all_literals
  each_own =
      All-append (IsOwn d.counts) d.inputs (latch_literals ++ gate_literals) sound.inputs
      (All-append (IsOwn d.counts) latch_literals gate_literals
      (All-map (IsOwn d.counts) (λ (latch : Latch). latch.literal) d.latches (λ k x h. (sound.latches k x h).own))
      (All-map (IsOwn d.counts) (λ (gate : Gate). gate.literal) d.gates (λ k x h. (sound.gates k x h).own)))

  often : (v : ℕ) → times_by (λ l. l) v all_literals ≡ how_often d v
  often v =
      times-append (λ l. l) v d.inputs (latch_literals ++ gate_literals)
      ∙ ap (λ n. times_by (λ l. l) v d.inputs + n) (times-append (λ l. l) v latch_literals gate_literals
      ∙ ap (λ n. n + times_by (λ l. l) v gate_literals) (times-map (λ (latch : Latch). latch.literal) v d.latches)
      ∙ ap (λ n. times_by (λ (latch : Latch). latch.literal) v d.latches + n) (times-map (λ (gate : Gate). gate.literal) v d.gates))

  pub defined_once : (i k : ℕ) → i < k → k < length all_literals → get_or all_literals i 0 ≢ get_or all_literals k 0
  defined_once i k less h e =
      let two : 2 ≤ times_by (λ l. l) (get_or all_literals k 0 / 2) all_literals = times-two all_literals i k less h e in
      let one : how_often d (get_or all_literals k 0 / 2) ≤ 1 = sound.once (get_or all_literals k 0 / 2) in
      let same : times_by (λ l. l) (get_or all_literals k 0 / 2) all_literals ≡ how_often d (get_or all_literals k 0 / 2) = often (get_or all_literals k 0 / 2) in
      absurd (omega (arith, two, one, same))

  even_is : (literal v : ℕ) → IsOwn d.counts literal → literal / 2 ≡ v → literal ≡ 2 * v
  even_is literal v own e = let even : literal % 2 ≡ 0 = own.even in omega arith

  -- a variable that some line defines
  pub is_defined : (v : ℕ) → defines d v ≡ true → Contains all_literals (2 * v)
  is_defined v h = elim (or_cases (list_any (λ literal. eqb (literal / 2) v) d.inputs)
      (list_any (λ (latch : Latch). eqb (latch.literal / 2) v) d.latches || list_any (λ (gate : Gate). eqb (gate.literal / 2) v) d.gates) h) [
        | inl input ↦
            let p = found (λ l. l) v d.inputs input in
            Contains-append_left d.inputs (latch_literals ++ gate_literals) (2 * v)
            (p.0, p.1.0, even_is (get_or d.inputs p.0 (2 * v)) v (sound.inputs p.0 (2 * v) p.1.0) (p.1.1 (2 * v)))
        | inr other ↦ Contains-append_right d.inputs (latch_literals ++ gate_literals) (2 * v)
            (elim (or_cases (list_any (λ (latch : Latch). eqb (latch.literal / 2) v) d.latches) (list_any (λ (gate : Gate). eqb (gate.literal / 2) v) d.gates) other) [
              | inl latch ↦
                  let p = found (λ (latch : Latch). latch.literal) v d.latches latch in
                  let none : Latch = record { literal = 0; next = 0; reset = false } in
                  Contains-append_left latch_literals gate_literals (2 * v) (
                    p.0,
                    rw length-map p.1.0,
                    get_or-map (λ (latch : Latch). latch.literal) d.latches p.0 none (2 * v) p.1.0
                        ∙ even_is (get_or d.latches p.0 none).literal v (sound.latches p.0 none p.1.0).own (p.1.1 none),
                  )
              | inr gate ↦
                  let p = found (λ (gate : Gate). gate.literal) v d.gates gate in
                  let none : Gate = record { literal = 0; left = 0; right = 0 } in
                  Contains-append_right latch_literals gate_literals (2 * v) (
                    p.0,
                    rw length-map p.1.0,
                    get_or-map (λ (gate : Gate). gate.literal) d.gates p.0 none (2 * v) p.1.0
                        ∙ even_is (get_or d.gates p.0 none).literal v (sound.gates p.0 none p.1.0).own (p.1.1 none),
                  )
            ])
      ]
