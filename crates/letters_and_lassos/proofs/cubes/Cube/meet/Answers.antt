use Rattle.std.proofs.Common.{ℕ, inl, inr, refl}
use Rattle.std.specs.Prelude.{IsTrue}
use Rattle.std.proofs.lemmas.Bool.{true≢false}
use Rattle.letters_and_lassos.specs.Signals.{has}
use Rattle.letters_and_lassos.proofs.Meets.{FitsBoth-meet, NoneFitsBoth-clash}
use Rattle.letters_and_lassos.proofs.Sets.{apart, apart-unions, has-bit_or, has-either, not_apart}
use Rattle.letters_and_lassos.proofs.cubes.Cube.meet.Goals as goal
use Rattle.letters_and_lassos.proofs.cubes.Cube.meet.Goals.{then-self-other-ne0-via-then-self-other-ne0, then-self-other-ne0-via-else-self-other-ne0+then-self-other-ne0-2}

pub returns-then-self-other-ne0-clause-clash : goal.returns-then-self-other-ne0-clause-clash
returns-then-self-other-ne0-clause-clash c = (
  λ _. elim c.then-self-other-ne0.branch [
    | then-self-other-ne0-via-then-self-other-ne0 w ↦
        let k : (k : ℕ) × (IsTrue (has c.args.self.must k) × IsTrue (has c.args.other.not k)) = not_apart c.args.self.must c.args.other.not w.if-self-other-ne0.true in
        (k.0, inl k.1)
    | then-self-other-ne0-via-else-self-other-ne0+then-self-other-ne0-2 w ↦
        let k : (k : ℕ) × (IsTrue (has c.args.self.not k) × IsTrue (has c.args.other.must k)) = not_apart c.args.self.not c.args.other.must w.if-self-other-ne0-2.true in
        (k.0, inr k.1)
  ],
  λ _. refl,
)

pub invariant_of-result : goal.invariant_of-result
invariant_of-result c = record {
  apart = apart-unions c.args.self.must c.args.other.must c.args.self.not c.args.other.not
      c.args.self.apart
      (apart c.args.self.must c.args.other.not c.if-self-other-ne0.false)
      (λ k h g. apart c.args.self.not c.args.other.must c.if-self-other-ne0-2.false k g h)
      c.args.other.apart;
}

pub returns-clause-clash : goal.returns-clause-clash
returns-clause-clash c = (
  λ never. absurd (true≢false never),
  λ (k, clash). absurd (elim clash [
    | inl (wanted, forbidden) ↦ apart c.args.self.must c.args.other.not c.if-self-other-ne0.false k wanted forbidden
    | inr (forbidden, wanted) ↦ apart c.args.self.not c.args.other.must c.if-self-other-ne0-2.false k forbidden wanted
  ]),
)

pub returns-clause-both : goal.returns-clause-both
returns-clause-both c = record {
  must = λ k. (has-bit_or c.args.self.must c.args.other.must k, has-either c.args.self.must c.args.other.must k);
  none_of = λ k. (has-bit_or c.args.self.not c.args.other.not k, has-either c.args.self.not c.args.other.not k);
}

pub returns-clause-letters : goal.returns-clause-letters
returns-clause-letters c = FitsBoth-meet c.args.self c.args.other _ (returns-clause-both c)

pub returns-then-self-other-ne0-clause-no_letter : goal.returns-then-self-other-ne0-clause-no_letter
returns-then-self-other-ne0-clause-no_letter c =
    NoneFitsBoth-clash c.args.self c.args.other ((returns-then-self-other-ne0-clause-clash c).0 refl)
