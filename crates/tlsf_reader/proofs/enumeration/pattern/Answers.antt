use Rattle.std.proofs.Common.{◌++◌, List, Option, Bool, length, refl, ap, ◌∙◌, arith}
use Rattle.tlsf_syntax.specs.TextReading.{Value}
use Rattle.tlsf_reader.specs.Seen.{seen}
use Rattle.tlsf_reader.specs.TextDescent.{bits_at}
use Rattle.tlsf_reader.proofs.Climbing.{read_exit}
use Rattle.tlsf_reader.proofs.EnumerationDescending.{appended, value_starts, value_more, value_ends, pattern_done, pattern_refused}
use Rattle.tlsf_reader.proofs.enumeration.pattern.Goals as goal

pub returns-in_err-first-clause-read : goal.returns-in_err-first-clause-read
returns-in_err-first-clause-read c = read_exit _ c.from_residual.ensures.1 (pattern_refused c.args.ahead.now c.in_err-first.ensures.next)

pub loop-next-init : goal.loop-next-init
loop-next-init c =
    let k = appended (bits_at (seen c.in_ok-first.first)) c.new-bits.result.items c.append_bits.new.bits.items c.in_ok-append_bits.ensures in
    record {
      reads = λ a on. value_starts c.args.ahead.now _ (seen c.in_ok-first.first) k.bits _ c.in_ok-first.ensures.next.front k.is (k.behind ∙ ap (λ (x : List (Option Bool)). x ++ k.bits) c.new-bits.ensures.items) a on;
      shorter = omega (arith, c.in_ok-first.ensures.shorter);
    }

pub loop-next-preserved : goal.loop-next-preserved
loop-next-preserved c =
    let k = appended (bits_at (seen c.in-Some.next)) c.loop-next.bits.items c.append_bits-in-Some.new.bits.items c.in_ok-append_bits-2.ensures in
    record {
      reads = λ a on. c.loop-next.invariant.reads a (value_more c.loop-next.ahead _ (seen c.in-Some.next) c.loop-next.bits.items k.bits _ c.loop-next.end c.in-Some.ensures.next k.is k.behind a on);
      shorter = omega (arith, c.in-Some.ensures.shorter, c.loop-next.invariant.shorter);
    }

pub returns-clause-read : goal.returns-clause-read
returns-clause-read c =
    let v : Value = record { bits = c.loop-next.bits.items; end = c.loop-next.end } in
    pattern_done c.args.ahead.now _ c.loop-next.ahead _ (seen c.in_ok-first.first) v c.in_ok-first.ensures.next.front
    (c.loop-next.invariant.reads _ (value_ends c.loop-next.ahead c.loop-next.bits.items c.loop-next.end c.in_default.ensures.next.stops)) c.in_default.ensures.next.same refl

pub returns-clause-shorter : goal.returns-clause-shorter
returns-clause-shorter c = omega (arith, ap length c.in_default.ensures.next.same, c.loop-next.invariant.shorter)
