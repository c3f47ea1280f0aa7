-- The numbers of the pairs along a run of a circuit.
use Rattle.std.proofs.Common.{◌≡◌, ℕ, zero, suc, ◌+◌, ◌<◌, ◌≤◌, Bool, true, false, IsTrue, cond, List, length, map, refl, subst, sym, arith}
use Rattle.std.specs.Prelude.{sum_by}
use Rattle.letters_and_lassos.specs.declared.kinds.Kind.{Kind}
use Rattle.letters_and_lassos.specs.declared.kinds.Side.{Side}
use Rattle.letters_and_lassos.specs.declared.letters.Letter.{Letter}
use Rattle.letters_and_lassos.specs.Word.{Word, HasRing, lasso_len, letter_at, next}
use Rattle.letters_and_lassos.proofs.Positions.{next_within, letter_below}
use Rattle.machine_model.specs.Automaton.{AutomatonModel, HasEdge, rejects}
use Rattle.machine_model.specs.Accepts.{Accepts, Path}
use Rattle.aiger_text.specs.declared.circuits.Latch.{Latch}
use Rattle.aiger_text.specs.Circuit.{Circuit, Valuation, IsCircuitRun, latch_values, literal_value}
use Rattle.annot_check.specs.declared.pairs.Pair.{Pair}
use Rattle.annot_check.specs.Pairs.{PairStands, weight}
use Rattle.annot_check.specs.Valid.{Goes, IsValidPairList, KeepsRule}
use Rattle.annot_check.specs.Laws.{ValidListsShow}
use Rattle.annot_check.proofs.Lists.{map-All, All-Contains, Contains-sum}

-- a number that is enough for more is enough
pub Stands-less : (pairs : List Pair) (code : List Bool) (state more less : ℕ) → less ≤ more → PairStands pairs code state more → PairStands pairs code state less
Stands-less pairs code state more less le s = record {
  pair = s.pair;
  among = s.among;
  code_is = s.code_is;
  state_is = s.state_is;
  enough = (let enough : more ≤ s.pair.number = s.enough in omega arith);
}

-- no number passes the sum of all
pub Stands-bounded : (pairs : List Pair) (code : List Bool) (state least : ℕ) → PairStands pairs code state least → least ≤ sum_by (λ (p : Pair). p.number) pairs
Stands-bounded pairs code state least s =
    let enough : least ≤ s.pair.number = s.enough in
    let bound : s.pair.number ≤ sum_by (λ (p : Pair). p.number) pairs = Contains-sum (λ (p : Pair). p.number) pairs s.pair s.among in
    omega arith

-- one step of a run lasso of the circuit that plays the side
module _ (side : Side) (c : Circuit) (w : Word) (values : ℕ → Valuation) (run : IsCircuitRun side c w values) where
  pub goes : (i : ℕ) → i < lasso_len w → Goes side c (latch_values c (values i)) (letter_at w i) (latch_values c (values (next w i)))
  goes i h = record {
    values = values i;
    holds = refl;
    gates = run.gates i h;
    reads = run.reads i h;
    writes = run.writes i h;
    within = letter_below (length c.inputs + length c.outputs) w i run.lasso;
    moves = map-All (λ (latch : Latch). literal_value (values (next w i)) latch.literal) (λ (latch : Latch). literal_value (values i) latch.next) c.latches (run.steps i h);
  }

  -- the latches begin with their resets
  pub resets : map (λ (latch : Latch). latch.reset) c.latches ≡ latch_values c (values 0)
  resets = sym (map-All (λ (latch : Latch). literal_value (values 0) latch.literal) (λ (latch : Latch). latch.reset) c.latches run.resets)

-- and of such a step and an edge, from a pair that stands
pub Stands-step : (side : Side) (c : Circuit) (kind : Kind) (a : AutomatonModel) (pairs : List Pair) → IsValidPairList side c kind a pairs
    → (code after : List Bool) (letter : Letter) (q r least : ℕ) → Goes side c code letter after → PairStands pairs code q least → HasEdge a letter q r
    → PairStands pairs after r (least + weight a r)
Stands-step side c kind a pairs valid code after letter q r least goes at edge =
    let from : HasEdge a letter at.pair.state r = subst (λ s. HasEdge a letter s r) (sym at.state_is) edge in
    let move : Goes side c at.pair.code letter after = subst (λ (x : List Bool). Goes side c x letter after) (sym at.code_is) goes in
    let rule = All-Contains (KeepsRule side c a pairs) pairs at.pair valid.rules at.among in
    let enough : least ≤ at.pair.number = at.enough in
    Stands-less pairs after r (at.pair.number + weight a r) (least + weight a r) (omega arith) (rule.rule letter after r move from)

module _ (side : Side) (c : Circuit) (kind : Kind) (a : AutomatonModel) (pairs : List Pair) (valid : IsValidPairList side c kind a pairs)
    (w : Word) (values : ℕ → Valuation) (run : IsCircuitRun side c w values) where
  -- the pair of the latches at a position and of a state stands
  abbrev At : ℕ → ℕ → ℕ → Type 0
  At i q least = PairStands pairs (latch_values c (values i)) q least

  inside : (i : ℕ) → i < lasso_len w → next w i < lasso_len w
  inside i h = next_within w i run.lasso.ring h

  step : (i q r least : ℕ) → i < lasso_len w → At i q least → HasEdge a (letter_at w i) q r → At (next w i) r (least + weight a r)
  step i q r least h at edge =
      Stands-step side c kind a pairs valid (latch_values c (values i)) (latch_values c (values (next w i))) (letter_at w i) q r least
      (goes side c w values run i h) at edge

  along : (n i q j r least : ℕ) → i < lasso_len w → At i q least → Path a w n i q j r → At j r least × (j < lasso_len w)
  along zero i q j r least h at path = (subst (λ s. At j s least) path.1 (subst (λ k. At k q least) path.0 at), subst (λ k. k < lasso_len w) path.0 h)
  along (suc n) i q j r least h at path =
      along n (next w i) path.0 j r least (inside i h)
      (Stands-less pairs (latch_values c (values (next w i))) path.0 (least + weight a path.0) least (omega arith) (step i q path.0 least h at path.1)) path.2

  rises : (n i q j r least : ℕ) → i < lasso_len w → At i q least → Path a w (suc n) i q j r → At j r (least + weight a r)
  rises zero i q j r least h at path =
      subst (λ s. At j s (least + weight a s)) path.2.1
      (subst (λ k. At k path.0 (least + weight a path.0)) path.2.0 (step i q path.0 least h at path.1))
  rises (suc n) i q j r least h at path =
      rises n (next w i) path.0 j r least (inside i h)
      (Stands-less pairs (latch_values c (values (next w i))) path.0 (least + weight a path.0) least (omega arith) (step i q path.0 least h at path.1)) path.2

  start : At 0 0 0
  start =
      Stands-less pairs (latch_values c (values 0)) 0 (weight a 0) 0 (omega arith)
      (subst (λ (code : List Bool). PairStands pairs code 0 (weight a 0)) (resets side c w values run) valid.start)

  module _ (accepted : Accepts a w) where
    counts : weight a accepted.state ≡ 1
    counts = by (rejects a accepted.state) accepted.rejecting
      where
        by : (b : Bool) → IsTrue b → ◌≡◌ {A = ℕ} (cond b 1 0) 1
        by true h = refl
        by false h = absurd (cc)

    there : At accepted.position accepted.state 0 × (accepted.position < lasso_len w)
    there = along accepted.steps 0 0 accepted.position accepted.state 0 (let some : HasRing w = run.lasso.ring in omega arith) start accepted.path

    -- once round the cycle for each number
    round : (k : ℕ) → At accepted.position accepted.state k
    round zero = there.0
    round (suc k) =
        let more : k + weight a accepted.state ≡ suc k = omega (arith, counts) in
        subst (λ n. At accepted.position accepted.state n) more
        (rises accepted.further accepted.position accepted.state accepted.position accepted.state k there.1 (round k) accepted.cycle)

    pub never : ⊥
    never =
        let bound = Stands-bounded pairs (latch_values c (values accepted.position)) accepted.state (suc (sum_by (λ (p : Pair). p.number) pairs))
        (round (suc (sum_by (λ (p : Pair). p.number) pairs))) in
        absurd (omega (arith, bound))

pub valid_lists_show : (c : Circuit) → ValidListsShow c
valid_lists_show c side kind a pairs valid = record { none_accepted = λ w values run accepted. never side c kind a pairs valid w values run accepted }
