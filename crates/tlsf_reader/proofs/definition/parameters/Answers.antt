use Rattle.std.proofs.Common.{◌≡◌, ◌++◌, ◌∷◌, [], true, false, arith, rules}
use Rattle.tlsf_tokens.specs.declared.symbol.Symbol.TheVariants as symbol
use Rattle.tlsf_syntax.specs.Reading.{begins}
use Rattle.tlsf_reader.proofs.Descending.{builds_more}
use Rattle.tlsf_reader.proofs.Climbing.{read_exit}
use Rattle.tlsf_reader.proofs.TextDescending.{list_read, until_end, until_more, until_stopped}
use Rattle.tlsf_reader.proofs.DefinitionDescending.{parameters_until}
use Rattle.tlsf_reader.proofs.definition.parameters.Goals as goal

pub returns-in_err-parameter-clause-read : goal.returns-in_err-parameter-clause-read
returns-in_err-parameter-clause-read c =
    let other : begins symbol.CloseBrace c.loop-alloc.ahead ≡ false = search rules in
    read_exit _ c.from_residual.ensures.1 (until_stopped parameters_until other c.loop-alloc.invariant.builds c.in_err-parameter.ensures.read)

pub loop-alloc-preserved : goal.loop-alloc-preserved
loop-alloc-preserved c =
    let other : begins symbol.CloseBrace c.loop-alloc.ahead ≡ false = search rules in
    let pushed : c.push.new.self.items ≡ c.loop-alloc.parameters.items ++ c.in_ok-parameter.parameter ∷ [] = search rules in
    record {
      builds = builds_more c.push.new.self.items pushed c.loop-alloc.invariant.builds (until_more parameters_until other c.in_ok-parameter.ensures.read);
      shorter = omega (arith, c.in_ok-parameter.ensures.shorter, c.loop-alloc.invariant.shorter);
    }

pub returns-clause-read : goal.returns-clause-read
returns-clause-read c =
    let closed : begins symbol.CloseBrace c.loop-alloc.ahead ≡ true = search rules in
    list_read c.loop-alloc.invariant.builds (until_end parameters_until closed)
