use Rattle.std.proofs.Common.{◌≡◌, ℕ, ◌*◌, ◌<◌, ◌≤◌, List, ◌++◌, get_or, refl, sym, ap, subst, ◌∙◌, arith}
use Rattle.machine_model.specs.Machine.{MachineModel, size_of}
use Rattle.gate_build.specs.Bits.{IsSplit}
use Rattle.gate_build.specs.Table.{first_gate, latches_for, latches_of, literals_from, split_literals}
use Rattle.gate_build.proofs.Whole.{split_early, length-split, codes-split, few_latches}
use Rattle.gate_build.proofs.circuits.split_literals.Goals as goal

is_split : (m : MachineModel) (xs : List ℕ) → m.reads ≤ 8 → xs ≡ split_literals m → IsSplit m xs
is_split m xs reads is =
    let latches : latches_of m ≤ 3 = few_latches (size_of m) in
    subst (λ (l : List ℕ). IsSplit m l) (sym is) (record {
      value = refl;
      early = λ k d h. let low : get_or (split_literals m) k d < 2 * first_gate m = split_early m k d h in omega (arith, reads, latches, low);
      few = omega (arith, reads, latches, length-split m);
      whole = codes-split m;
    })

pub returns-clause-split : goal.returns-clause-split
returns-clause-split c =
    is_split c.args.machine.now _ c.requires.reads
    (c.in_ok-extend_from_slice.ensures.items
    ∙ ap (λ xs. xs ++ c.deref.result.now) (c.in_ok-split_on.ensures ∙ ap (λ n. literals_from n c.latches_for-latches.result) c.reads-reads.ensures.value ∙ ap (literals_from c.args.machine.now.reads) (c.latches_for-latches.ensures.value ∙ ap latches_for c.size.ensures.value))
    ∙ ap (λ xs. literals_from c.args.machine.now.reads (latches_of c.args.machine.now) ++ xs) (c.deref.ensures.value ∙ c.in_ok-inputs.ensures ∙ ap (literals_from 0) c.reads-reads.ensures.value))
