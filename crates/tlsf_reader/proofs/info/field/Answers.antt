use Rattle.tlsf_tokens.specs.declared.symbol.Symbol.TheVariants as symbol
use Rattle.tlsf_reader.specs.Seen.{seen}
use Rattle.tlsf_reader.proofs.Descending.{read_expected}
use Rattle.tlsf_reader.proofs.InfoDescending.{read_field}
use Rattle.tlsf_reader.proofs.info.field.Goals as goal

pub returns-in_ok-expect-in-Semantics-clause-read : goal.returns-in_ok-expect-in-Semantics-clause-read
returns-in_ok-expect-in-Semantics-clause-read c =
    read_field c.args.ahead.now _ (seen c.in-Some.first) symbol.Semantics c.in-Some.ensures.taken c.in-Semantics.is (read_expected _ c.in_ok-expect-in-Semantics.ensures.next c.semantics.ensures.read)

pub returns-in_ok-expect-in-Target-clause-read : goal.returns-in_ok-expect-in-Target-clause-read
returns-in_ok-expect-in-Target-clause-read c =
    read_field c.args.ahead.now _ (seen c.in-Some.first) symbol.Target c.in-Some.ensures.taken c.in-Target.is (read_expected _ c.in_ok-expect-in-Target.ensures.next c.target.ensures.read)

pub returns-in_ok-expect-in-Tags-clause-read : goal.returns-in_ok-expect-in-Tags-clause-read
returns-in_ok-expect-in-Tags-clause-read c =
    read_field c.args.ahead.now _ (seen c.in-Some.first) symbol.Tags c.in-Some.ensures.taken c.in-Tags.is (read_expected _ c.in_ok-expect-in-Tags.ensures.next c.tags.ensures.read)
