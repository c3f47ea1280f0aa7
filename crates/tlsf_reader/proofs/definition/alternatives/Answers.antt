use Rattle.std.specs.Option.{option_map}
use Rattle.std.proofs.Common.{◌≡◌, ◌++◌, ◌∷◌, [], true, false, refl, arith, rules}
use Rattle.tlsf_syntax.specs.declared.spec.Alternative.{Alternative}
use Rattle.tlsf_tokens.specs.declared.symbol.Symbol.TheVariants as symbol
use Rattle.tlsf_syntax.specs.Reading.{begins}
use Rattle.tlsf_syntax.specs.Seen.{alternative_seen, expr_seen}
use Rattle.tlsf_reader.proofs.Descending.{read_stop, read_expected, read_unexpected, builds_more}
use Rattle.tlsf_reader.proofs.Climbing.{read_exit}
use Rattle.tlsf_reader.proofs.TextDescending.{list_ended, list_stopped}
use Rattle.tlsf_reader.proofs.DefinitionDescending.{read_alternatives, alternative_read, alternatives_more, alternatives_last, alternatives_refused}
use Rattle.tlsf_reader.specs.TextView.{each}
use Rattle.tlsf_reader.proofs.definition.alternatives.Goals as goal

pub returns-in_err-expect-clause-read : goal.returns-in_err-expect-clause-read
returns-in_err-expect-clause-read c =
    read_exit _ c.from_residual.ensures.1 (list_stopped {rest = []} c.loop-next.invariant.builds (read_alternatives {view = each alternative_seen} (option_map expr_seen c.loop-next.next) c.loop-next.ahead (read_unexpected _ c.in_err-expect.ensures.next)))

pub returns-in_err-value-clause-read : goal.returns-in_err-value-clause-read
returns-in_err-value-clause-read c =
    read_exit _ c.from_residual-in_err-value.ensures.1
    (list_stopped {rest = []} c.loop-next.invariant.builds (read_alternatives {view = each alternative_seen} (option_map expr_seen c.loop-next.next) c.loop-next.ahead
    (read_expected _ c.in_ok-expect.ensures.next (read_stop _ c.in_err-value.ensures.read))))

pub returns-then-begins-clause-read : goal.returns-then-begins-clause-read
returns-then-begins-clause-read c =
    let a : Alternative = record { guard = c.loop-next.next; value = c.in_ok-value.value } in
    let pushed : c.push.new.self.items ≡ c.loop-next.alternatives.items ++ a ∷ [] = search rules in
    let ends : begins symbol.Semicolon c.expression.new.ahead ≡ true = search rules in
    list_ended pushed c.loop-next.invariant.builds
    (alternatives_last alternative_seen a (option_map expr_seen c.loop-next.next) (alternative_read (option_map expr_seen c.loop-next.next) (alternative_seen a) c.in_ok-expect.ensures.next c.in_ok-value.ensures.read refl) ends)

pub returns-in_err-next-clause-read : goal.returns-in_err-next-clause-read
returns-in_err-next-clause-read c =
    let a : Alternative = record { guard = c.loop-next.next; value = c.in_ok-value.value } in
    let goes : begins symbol.Semicolon c.expression.new.ahead ≡ false = search rules in
    read_exit _ c.from_residual-in_err-next.ensures.1 (list_stopped {rest = []} c.loop-next.invariant.builds
    (alternatives_refused {seen_as = each alternative_seen} (option_map expr_seen c.loop-next.next) (alternative_seen a)
    (alternative_read (option_map expr_seen c.loop-next.next) (alternative_seen a) c.in_ok-expect.ensures.next c.in_ok-value.ensures.read refl) goes c.in_err-next.ensures.read))

pub loop-next-preserved : goal.loop-next-preserved
loop-next-preserved c =
    let a : Alternative = record { guard = c.loop-next.next; value = c.in_ok-value.value } in
    let pushed : c.push.new.self.items ≡ c.loop-next.alternatives.items ++ a ∷ [] = search rules in
    let goes : begins symbol.Semicolon c.expression.new.ahead ≡ false = search rules in
    record {
      builds = builds_more c.push.new.self.items pushed c.loop-next.invariant.builds
          (alternatives_more (option_map expr_seen c.loop-next.next) (alternative_read (option_map expr_seen c.loop-next.next) (alternative_seen a) c.in_ok-expect.ensures.next c.in_ok-value.ensures.read refl) goes c.in_ok-next.ensures.read);
      shorter = omega (arith, c.in_ok-expect.ensures.shorter, c.in_ok-value.ensures.shorter, c.in_ok-next.ensures.shorter, c.loop-next.invariant.shorter);
    }
