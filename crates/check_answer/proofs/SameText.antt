-- Texts as `solve` takes them that say the same, wherever their names are kept, have the same first bad lines.
use Rattle.std.proofs.Common.{◌≡◌, ℕ, Option, Some, None, List, length, refl, ap, subst, ◌∙◌, if◌then◌else◌}
use Rattle.std.specs.Prelude.{is_some, option_and_then}
use Rattle.letters_and_lassos.specs.declared.kinds.Kind.{Kind}
use Rattle.letters_and_lassos.specs.declared.kinds.Side.{Side}
use Rattle.letters_and_lassos.specs.declared.kinds.Side.TheVariants.{System, Environment}
use Rattle.document_text.specs.declared.reading.CircuitPart.{CircuitPart}
use Rattle.document_text.specs.declared.reading.CircuitPart.TheVariants.{Absent, Faulty, Stated}
use Rattle.circuit_names.specs.Lines.{earliest, faulty_line, stated_line}
use Rattle.circuit_names.specs.Names.{Names}
use Rattle.named_annotation.specs.Laws.{IsNamedCause}
use Rattle.size_refutations.specs.Ground.{LogGround}
use Rattle.solve_ground.specs.declared.texts.SolveText.{SolveText}
use Rattle.solve_ground.specs.Laws.{IsSameText}
use Rattle.solved_text.specs.Reading.{SolvedLines}
use Rattle.solve_check.specs.FirstBad.{Annotated, IsFirstBadSolved, LinesFail, annotated_in, annotation_line, circuit_line, of_line, of_pairs, reading_in, refused_line, side_in, taken_line}
use Rattle.solve_check.specs.Given.{form_for, kind_for, names_in}
use Rattle.solve_check.specs.SizeLogs.{LogsFail, ground_for}

module _ (t t' : SolveText) (same : IsSameText t t') where
  -- the first text with the names where the other keeps them
  abbrev moved : SolveText
  moved = record t { inputs = t'.inputs; outputs = t'.outputs }

  names_same : names_in t ≡ names_in moved
  names_same = λ i. record { inputs = same.inputs i; outputs = same.outputs i }

  kind_same : (side : Side) → kind_for t side ≡ kind_for moved side
  kind_same System = refl
  kind_same Environment = refl

  ground_same : (side : Side) → ground_for t side ≡ ground_for moved side
  ground_same side = λ i. record {
    nodes = t.formulas;
    form = form_for t side;
    side = side;
    kind = kind_same side i;
    inputs = length (same.inputs i);
    outputs = length (same.outputs i);
  }

  module _ (bytes : List ℕ) (lines : SolvedLines) where
    circuit_same : circuit_line t bytes lines.header lines.circuit ≡ circuit_line moved bytes lines.header lines.circuit
    circuit_same = by lines.circuit
      where
        by : (part : CircuitPart) → circuit_line t bytes lines.header part ≡ circuit_line moved bytes lines.header part
        by Absent = refl
        by Faulty = ap (λ (names : Names). faulty_line names bytes) names_same
        by (Stated file) = ap (λ (names : Names). stated_line names (side_in lines.header) file) names_same

    annotation_same : annotation_line t bytes lines ≡ annotation_line moved bytes lines
    annotation_same = λ i.
        if is_some (circuit_same i) then None else option_and_then (λ (a : Annotated). refused_line a (reading_in t bytes a)) (annotated_in lines)

    lines_same : (first : Option ℕ) → LinesFail t bytes lines first → LinesFail moved bytes lines first
    lines_same first fails = record {
      number = fails.number;
      number_fails = fails.number_fails;
      logs = fails.logs;
      logs_fail = subst (λ (g : LogGround). LogsFail g lines.logs fails.logs) (ground_same (side_in lines.header)) fails.logs_fail;
      first_is = fails.first_is ∙ (λ i.
          earliest (circuit_same i) (earliest lines.bad (earliest fails.number (earliest (taken_line t lines) (earliest (annotation_same i) fails.logs)))));
    }

  of_moved : (bytes : List ℕ) (n : ℕ) → IsFirstBadSolved t bytes n → IsFirstBadSolved moved bytes n
  of_moved bytes _ (of_line lines n reads fails) = of_line lines n reads (lines_same bytes lines (Some n) fails)
  of_moved bytes _ (of_pairs lines a named fault reads fails has some cause) =
      of_pairs lines a named fault reads (lines_same bytes lines None fails) (record { annotated = has.annotated; stated = has.stated }) some
      (subst (λ (k : Kind). IsNamedCause a.side a.file.circuit k named fault) (kind_same a.side) cause)

  moved_is : moved ≡ t'
  moved_is = λ i. record {
    inputs = t'.inputs;
    outputs = t'.outputs;
    kind = same.kind i;
    semantics = same.semantics i;
    formulas = (same.forms i).nodes;
    negated = (same.forms i).negated;
    normal = (same.forms i).normal;
  }

  pub first_bad_same : (bytes : List ℕ) (n : ℕ) → IsFirstBadSolved t bytes n → IsFirstBadSolved t' bytes n
  first_bad_same bytes n first = subst (λ (x : SolveText). IsFirstBadSolved x bytes n) moved_is (of_moved bytes n first)
