use Rattle.std.proofs.Common.{inl, inr}
use Rattle.letters_and_lassos.specs.declared.cubes.Cube.{Cube}
use Rattle.letters_and_lassos.specs.Cube.{Clash, IsMeet, FitsBoth, NoneFitsBoth}

-- what a meet is for
pub FitsBoth-meet : (a b meet : Cube) → IsMeet a b meet → FitsBoth a b meet
FitsBoth-meet a b meet is letter = (
  λ fits. (
    record {
      must = λ k h. fits.must k ((is.must k).1 (inl h));
      none_of = λ k h. fits.none_of k ((is.none_of k).1 (inl h));
    },
    record {
      must = λ k h. fits.must k ((is.must k).1 (inr h));
      none_of = λ k h. fits.none_of k ((is.none_of k).1 (inr h));
    },
  ),
  λ both. record {
    must = λ k h. elim ((is.must k).0 h) [ inl in_a ↦ both.0.must k in_a | inr in_b ↦ both.1.must k in_b ];
    none_of = λ k h. elim ((is.none_of k).0 h) [ inl in_a ↦ both.0.none_of k in_a | inr in_b ↦ both.1.none_of k in_b ];
  },
)

pub NoneFitsBoth-clash : (a b : Cube) → Clash a b → NoneFitsBoth a b
NoneFitsBoth-clash a b (k, inl (wanted, forbidden)) letter fits_a fits_b = fits_b.none_of k forbidden (fits_a.must k wanted)
NoneFitsBoth-clash a b (k, inr (forbidden, wanted)) letter fits_a fits_b = fits_a.none_of k forbidden (fits_b.must k wanted)
