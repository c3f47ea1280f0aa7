use Rattle.std.proofs.Common.{◌≡◌, ◌<◌, ◌/◌, ◌+◌, ℕ, List, length, get_or, set, false, refl, subst, ◌∙◌, arith}
use Rattle.std.specs.Prelude.{map}
use Rattle.std.proofs.lemmas.List.{length-set, length-map, get_or-map}
use Rattle.aiger_text.specs.declared.circuits.Latch.{Latch}
use Rattle.aiger_text.proofs.Putting.{IsPut, no_latch, put_none, put_more, put_done}
use Rattle.aiger_text.proofs.states.put_latches.Goals as goal

pub bounds-values-latches : goal.bounds-values-latches
bounds-values-latches c =
    let ls : List ℕ = map (λ (latch : Latch). latch.literal) c.args.latches.now in
    let n : length ls ≡ length c.args.latches.now = length-map c.args.latches.now (λ latch. latch.literal) in
    let h : c.loop-i.i < length ls = rw n c.loop-i-test.true in
    let e : get_or ls c.loop-i.i 0 ≡ (get_or c.args.latches.now c.loop-i.i no_latch).literal = get_or-map (λ latch. latch.literal) c.args.latches.now c.loop-i.i no_latch 0 c.loop-i-test.true in
    let room : get_or ls c.loop-i.i 0 / 2 < length c.args.values.now = c.requires.variables.room c.loop-i.i h in
    omega (arith, subst (λ (l : ℕ). l / 2 < length c.args.values.now) e room, c.loop-i.invariant.1)

pub loop-i-init : goal.loop-i-init
loop-i-init c = (put_none (map (λ (latch : Latch). latch.literal) c.args.latches.now) c.args.bits.now c.args.values.now, refl)

pub loop-i-preserved : goal.loop-i-preserved
loop-i-preserved c =
    let ls : List ℕ = map (λ (latch : Latch). latch.literal) c.args.latches.now in
    let n : length ls ≡ length c.args.latches.now = length-map c.args.latches.now (λ latch. latch.literal) in
    let h : c.loop-i.i < length ls = rw n c.loop-i-test.true in
    let e : get_or ls c.loop-i.i 0 ≡ (get_or c.args.latches.now c.loop-i.i no_latch).literal = get_or-map (λ latch. latch.literal) c.args.latches.now c.loop-i.i no_latch 0 c.loop-i-test.true in (
      subst (λ (l : ℕ). IsPut ls c.args.bits.now c.args.values.now (set c.loop-i.values (l / 2) (get_or c.args.bits.now c.loop-i.i false)) (c.loop-i.i + 1)) e
          (put_more ls c.args.bits.now c.args.values.now c.loop-i.values c.loop-i.i c.requires.variables c.loop-i.invariant.1 h c.loop-i.invariant.0),
      length-set c.loop-i.values ((get_or c.args.latches.now c.loop-i.i no_latch).literal / 2) (get_or c.args.bits.now c.loop-i.i false) ∙ c.loop-i.invariant.1,
    )

pub returns : goal.returns
returns c =
    let ls : List ℕ = map (λ (latch : Latch). latch.literal) c.args.latches.now in
    let n : length ls ≡ length c.args.latches.now = length-map c.args.latches.now (λ latch. latch.literal) in
    put_done ls c.args.bits.now c.args.values.now c.loop-i.values c.loop-i.i (omega (arith, n)) c.loop-i.invariant.0
