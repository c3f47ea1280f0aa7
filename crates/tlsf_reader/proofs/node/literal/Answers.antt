use Rattle.std.proofs.Common.{◌≡◌, ◌+◌, ◌*◌, drop, rules, arith, ◌∙◌}
use Rattle.tlsf_syntax.specs.Lexemes.{decimal_from}
use Rattle.tlsf_reader.proofs.Nodes.{no_literal, next_digit}
use Rattle.tlsf_reader.proofs.node.literal.Goals as goal

pub returns-then-value-ge-LITERALS : goal.returns-then-value-ge-LITERALS
returns-then-value-ge-LITERALS c =
    let next : decimal_from c.loop-digit.value (drop c.loop-digit.digit-index c.args.text.now) ≡ decimal_from (c.loop-digit.value * 10 + c.from.result) (drop (c.loop-digit.digit-index + 1) c.args.text.now) = next_digit c.args.text.now c.loop-digit.digit-index c.loop-digit.value (c.loop-digit.value * 10 + c.from.result) (omega arith) (search rules) in
    no_literal c.args.text.now (c.loop-digit.value * 10 + c.from.result) (drop (c.loop-digit.digit-index + 1) c.args.text.now) (c.loop-digit.invariant.sum ∙ next) c.if-value-ge-LITERALS.true
