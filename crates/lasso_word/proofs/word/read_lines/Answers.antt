use Rattle.std.proofs.Common.{rules, ◌≡◌, ap, None, Some, ◌∙◌}
use Rattle.lasso_word.specs.WordText.{continued, bad_line, read_lines}
use Rattle.lasso_word.proofs.Readings.{refused_line, longer_line}
use Rattle.lasso_word.proofs.word.read_lines.Goals as goal

pub returns-then-not-branch-clause-bad : goal.returns-then-not-branch-clause-bad
returns-then-not-branch-clause-bad c n same =
    let stop : continued c.args.names.now c.loop-text.so_far c.in-Some.text.now ≡ None = search rules in
    let there : c.loop-text.line ≡ n = cc in
    refused_line c.args.names.now c.loop-text.rest.now c.in-Some.text.now c.in-Some.behind.now c.loop-text.so_far c.loop-text.line
    (read_lines c.args.names.now c.args.bytes.now) c.in-Some.ensures.cut c.loop-text.invariant.reading stop ∙ ap bad_line there

pub loop-text-preserved : goal.loop-text-preserved
loop-text-preserved c = record {
  reading =
      let more : continued c.args.names.now c.loop-text.so_far c.in-Some.text.now ≡ Some c.add_line.new.self = search rules in
      longer_line c.args.names.now c.loop-text.rest.now c.in-Some.text.now c.in-Some.behind.now c.loop-text.so_far c.loop-text.line
      (read_lines c.args.names.now c.args.bytes.now) c.in-Some.ensures.cut c.loop-text.invariant.reading c.add_line.new.self more;
  counted = search rules;
}
