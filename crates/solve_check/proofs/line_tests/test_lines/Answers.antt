use Rattle.std.proofs.Common.{◌≡◌, ℕ, Option, List, sym, ap, subst, ◌∙◌}
use Rattle.letters_and_lassos.specs.declared.kinds.Side.{Side}
use Rattle.circuit_names.specs.Lines.{earliest}
use Rattle.solved_text.specs.Parts.{SizeLog}
use Rattle.solved_text.specs.Reading.{SolvedLines}
use Rattle.solve_check.specs.FirstBad.{circuit_line, side_in}
use Rattle.solve_check.specs.SizeLogs.{LogsFail, ground_for}
use Rattle.circuit_names.proofs.Fitting.{earliest_none}
use Rattle.solve_check.proofs.line_tests.test_lines.Goals as goal

-- the least of the tests' lines, each of which is known as another
least : (circuit text number taken refused logs is_circuit is_text is_taken is_refused e1 e2 e3 e4 e5 : Option ℕ) → circuit ≡ is_circuit → text ≡ is_text
    → taken ≡ is_taken → refused ≡ is_refused → e1 ≡ earliest refused logs → e2 ≡ earliest taken e1 → e3 ≡ earliest number e2 → e4 ≡ earliest text e3
    → e5 ≡ earliest circuit e4 → e5 ≡ earliest is_circuit (earliest is_text (earliest number (earliest is_taken (earliest is_refused logs))))
least circuit text number taken refused logs is_circuit is_text is_taken is_refused e1 e2 e3 e4 e5 a b c d f g h i j =
    let inner : e1 ≡ earliest is_refused logs = f ∙ ap (λ (o : Option ℕ). earliest o logs) d in
    let second : e2 ≡ earliest is_taken (earliest is_refused logs) = g ∙ (λ k. earliest (c k) (inner k)) in
    let third : e3 ≡ earliest number (earliest is_taken (earliest is_refused logs)) = h ∙ ap (earliest number) second in
    let fourth : e4 ≡ earliest is_text (earliest number (earliest is_taken (earliest is_refused logs))) = i ∙ (λ k. earliest (b k) (third k)) in
    j ∙ (λ k. earliest (a k) (fourth k))

pub returns : goal.returns
returns c = record {
  fails = record {
    number = c.in_ok-number.number;
    number_fails = c.in_ok-number.ensures;
    logs = c.in_ok-logs.logs;
    logs_fail = subst (λ (l : SolvedLines). LogsFail (ground_for c.args.text.now (side_in l.header)) l.logs c.in_ok-logs.logs) c.lines.view_is
        (subst (λ (s : Side). LogsFail (ground_for c.args.text.now s) c.lines.inside.logs.items c.in_ok-logs.logs) c.side_in.ensures
        (subst (λ (ls : List SizeLog). LogsFail (ground_for c.args.text.now c.side_in.result) ls c.in_ok-logs.logs) c.deref.ensures.value c.in_ok-logs.ensures));
    first_is = least c.circuit_line-circuit.result c.lines.inside.bad c.in_ok-number.number c.taken_line-taken.result c.refused.result c.in_ok-logs.logs _ c.args.lines.now.bad _ _
        c.earliest.result c.earliest-2.result c.earliest-behind.result c.earliest-3.result c.earliest-4.result
        (c.circuit_line-circuit.ensures ∙ ap (λ (l : SolvedLines). circuit_line c.args.text.now c.args.bytes.now l.header l.circuit) c.lines.view_is)
        (ap (λ (l : SolvedLines). l.bad) c.lines.view_is) c.taken_line-taken.ensures (c.refused.ensures ∙ c.in_ok-reading.ensures.refused)
        c.earliest.ensures c.earliest-2.ensures c.earliest-behind.ensures c.earliest-3.ensures c.earliest-4.ensures;
  };
  reading = λ none. c.in_ok-reading.ensures.reading
      (earliest_none c.circuit_line-circuit.result c.earliest-3.result (sym c.earliest-4.ensures ∙ none)).0;
}
