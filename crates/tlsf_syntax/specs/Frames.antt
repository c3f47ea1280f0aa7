-- What the plain program of written nesting keeps: the open brackets, the innermost first.
use Rattle.std.specs.Prelude.{ℕ, ◌+◌, List, [], ◌∷◌}
use Rattle.tlsf_syntax.specs.declared.nesting.Frame.{Frame}
use Rattle.tlsf_syntax.specs.declared.nesting.Role.{Role}
use Rattle.tlsf_syntax.specs.declared.nesting.Role.TheVariants.{Open, Close, Separator, Right, Prefix, Operator, Other}

abbrev pub frame_number : Frame → ℕ
frame_number f = f.right + f.prefix + f.outside

-- the frames after a symbol of this role; the outermost frame stays
abbrev pub frames_after : Role → List Frame → List Frame
frames_after role [] = []
frames_after Open (f ∷ fs) = record { right = 0; prefix = 0; outside = frame_number f + 1 } ∷ f ∷ fs
frames_after Close (f ∷ []) = record { right = 0; prefix = 0; outside = 0 } ∷ []
frames_after Close (f ∷ g ∷ fs) = g ∷ fs
frames_after Separator (f ∷ fs) = record { right = 0; prefix = 0; outside = f.outside } ∷ fs
frames_after Right (f ∷ fs) = record { right = f.right + 1; prefix = 0; outside = f.outside } ∷ fs
frames_after Prefix (f ∷ fs) = record { right = f.right; prefix = f.prefix + 1; outside = f.outside } ∷ fs
frames_after Operator (f ∷ fs) = record { right = f.right; prefix = 0; outside = f.outside } ∷ fs
frames_after Other (f ∷ fs) = f ∷ fs
