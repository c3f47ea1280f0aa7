use Rattle.std.proofs.Common.{◌≡◌, Some, None, rules, subst}
use Rattle.std.specs.Prelude.{IfOk, Option, MatchOption}
use Rattle.std.proofs.lemmas.Result.{IfOk-weaker}
use Rattle.letters_and_lassos.specs.declared.kinds.Kind.{Kind}
use Rattle.solve_ground.specs.declared.texts.SolveText.{SolveText}
use Rattle.solve_ground.specs.SolveText.{IsSolveText}
use Rattle.solve_check.specs.Asked.{CannotBeConverted, IsAskedText, as_given, converted, in_vain, kind_said}
use Rattle.solve_check.specs.Parts.{IsConvertedFor}
use Rattle.solve_check.proofs.asked.asked_text.Goals as goal
use Rattle.solve_check.proofs.asked.asked_text.Goals.{then-header+in_ok-converted+in_default, else-header}

pub returns-in-Some-clause-asked : goal.returns-in-Some-clause-asked
returns-in-Some-clause-asked c =
    let kind : c.unwrap_or-kind.result ≡ kind_said c.args.header = search rules in
    let is : IsConvertedFor c.args.text.now (kind_said c.args.header) c.in-Some.converted =
    subst (λ (k : Kind). IsConvertedFor c.args.text.now k c.in-Some.converted) kind
    (subst (λ (o : Option SolveText). MatchOption o (CannotBeConverted c.args.text.now c.unwrap_or-kind.result) (IsConvertedFor c.args.text.now c.unwrap_or-kind.result)) c.in-Some.is c.in_ok-converted.ensures.found) in
    record { given = None; asked = converted c.in-Some.converted c.if-header.true is.is_text is.so }

pub returns-clause-asked : goal.returns-clause-asked
returns-clause-asked c =
    let kind : c.unwrap_or-kind.result ≡ kind_said c.args.header = search rules in
    let text = subst (λ (k : Kind). IfOk c.solve_text.result (IsSolveText c.args.text.now (Some k))) kind c.solve_text.ensures.text in
    elim c.if-header.branch [
      | then-header+in_ok-converted+in_default w ↦
          IfOk-weaker c.solve_text.result (IsSolveText c.args.text.now (Some (kind_said c.args.header))) (IsAskedText c.args.text.now c.args.header)
          (λ t is. record {
            given = Some (kind_said c.args.header);
            asked = in_vain t w.if-header.true
                (subst (CannotBeConverted c.args.text.now) kind
                (subst (λ (o : Option SolveText). MatchOption o (CannotBeConverted c.args.text.now c.unwrap_or-kind.result) (IsConvertedFor c.args.text.now c.unwrap_or-kind.result)) w.in_default.is w.in_ok-converted.ensures.found)) is;
          }) text
      | else-header w ↦
          IfOk-weaker c.solve_text.result (IsSolveText c.args.text.now (Some (kind_said c.args.header))) (IsAskedText c.args.text.now c.args.header)
          (λ t is. record { given = Some (kind_said c.args.header); asked = as_given t w.if-header.false is }) text
    ]
