use Rattle.std.proofs.Common.{eqb-true, eq-eqb}
use Rattle.letters_and_lassos.proofs.Sets.{apart, apart_empty, covers, covered}
use Rattle.letters_and_lassos.proofs.cubes.Cube.fits.Goals as goal

pub returns-then-letter-self : goal.returns-then-letter-self
returns-then-letter-self c = (
  λ h. record {
    must = covers c.args.letter.0 c.args.self.must c.if-letter-self.true;
    none_of = λ k forbidden there. apart c.args.letter.0 c.args.self.not (eqb-true _ _ h) k there forbidden;
  },
  λ fits. eq-eqb _ _ (apart_empty c.args.letter.0 c.args.self.not (λ k there forbidden. fits.none_of k forbidden there)),
)

pub returns-else-letter-self : goal.returns-else-letter-self
returns-else-letter-self c = (
  λ h. absurd (c.if-letter-self.false (eqb-true _ _ h)),
  λ fits. absurd (c.if-letter-self.false (covered c.args.letter.0 c.args.self.must fits.must)),
)
