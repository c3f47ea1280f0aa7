use Rattle.std.proofs.Common.{[], refl}
use Rattle.tlsf_syntax.specs.Tree as plain
use Rattle.tlsf_syntax.specs.Reading.{taken}
use Rattle.tlsf_reader.specs.TextView.{block_view, each}
use Rattle.tlsf_reader.proofs.Descending.{read_stop, read_go, read_expected, read_unexpected, read_next, read_other}
use Rattle.tlsf_reader.proofs.DefinitionDescending.{read_blocks, parameters_block, definitions_block, other_block, in_parameters, after_parameters, in_definitions, after_definitions, block_refused, block_is, no_block, parameters_are_block, definitions_are_block}
use Rattle.tlsf_syntax.specs.Seen.{definition_seen}
use Rattle.tlsf_reader.proofs.definition.block.Goals as goal

pub returns-in_err-expect-clause-read : goal.returns-in_err-expect-clause-read
returns-in_err-expect-clause-read c = block_refused {rest = []} _ c.from_residual.ensures.1 (read_blocks {view = each block_view} c.args.ahead.now (read_next parameters_block (λ d. other_block d c.args.ahead.now) c.in-Some.ensures.next (read_unexpected in_parameters c.in_err-expect.ensures.next)))

pub returns-in_err-parameters-clause-read : goal.returns-in_err-parameters-clause-read
returns-in_err-parameters-clause-read c =
    block_refused {rest = []} _ c.from_residual-in_err-parameters.ensures.1 (read_blocks {view = each block_view} c.args.ahead.now (read_next parameters_block (λ d. other_block d c.args.ahead.now) c.in-Some.ensures.next (read_expected in_parameters c.in_ok-expect.ensures.next (read_stop after_parameters c.in_err-parameters.ensures.read))))

pub returns-in_err-expect-2-clause-read : goal.returns-in_err-expect-2-clause-read
returns-in_err-expect-2-clause-read c =
    block_refused {rest = []} _ c.from_residual-in_err-expect-2.ensures.1
    (read_blocks {view = each block_view} c.args.ahead.now (read_next parameters_block (λ d. other_block d c.args.ahead.now) c.in-Some.ensures.next (read_expected in_parameters c.in_ok-expect.ensures.next (read_go after_parameters c.in_ok-parameters.ensures.read (read_unexpected _ c.in_err-expect-2.ensures.next)))))

pub returns-in-Some-clause-read : goal.returns-in-Some-clause-read
returns-in-Some-clause-read c =
    block_is (parameters_are_block {view = each definition_seen} (plain.parameters (each definition_seen c.in_ok-parameters.parameters)) c.in-Some.ensures.next c.in_ok-expect.ensures.next c.in_ok-parameters.ensures.read c.in_ok-expect-2.ensures.next refl)

pub returns-in_err-expect-3-clause-read : goal.returns-in_err-expect-3-clause-read
returns-in_err-expect-3-clause-read c = block_refused {rest = []} _ c.from_residual-in_err-expect-3.ensures.1 (read_blocks {view = each block_view} c.args.ahead.now (read_other parameters_block other_block c.in_default.ensures.next (read_next definitions_block (λ d. taken [] c.next_if.new.self) c.in-Some-next_if.ensures.next (read_unexpected in_definitions c.in_err-expect-3.ensures.next))))

pub returns-in_err-definitions-clause-read : goal.returns-in_err-definitions-clause-read
returns-in_err-definitions-clause-read c =
    block_refused {rest = []} _ c.from_residual-in_err-definitions.ensures.1 (read_blocks {view = each block_view} c.args.ahead.now (read_other parameters_block other_block c.in_default.ensures.next (read_next definitions_block (λ d. taken [] c.next_if.new.self) c.in-Some-next_if.ensures.next (read_expected in_definitions c.in_ok-expect-3.ensures.next (read_stop after_definitions c.in_err-definitions.ensures.read)))))

pub returns-in_err-expect-4-clause-read : goal.returns-in_err-expect-4-clause-read
returns-in_err-expect-4-clause-read c =
    block_refused {rest = []} _ c.from_residual-in_err-expect-4.ensures.1
    (read_blocks {view = each block_view} c.args.ahead.now (read_other parameters_block other_block c.in_default.ensures.next (read_next definitions_block (λ d. taken [] c.next_if.new.self) c.in-Some-next_if.ensures.next (read_expected in_definitions c.in_ok-expect-3.ensures.next (read_go after_definitions c.in_ok-definitions.ensures.read (read_unexpected _ c.in_err-expect-4.ensures.next))))))

pub returns-in-Some-next_if-clause-read : goal.returns-in-Some-next_if-clause-read
returns-in-Some-next_if-clause-read c =
    block_is (definitions_are_block {view = each definition_seen} (plain.definitions (each definition_seen c.in_ok-definitions.definitions)) c.in_default.ensures.next c.in-Some-next_if.ensures.next c.in_ok-expect-3.ensures.next
    c.in_ok-definitions.ensures.read c.in_ok-expect-4.ensures.next refl)

pub returns-clause-read : goal.returns-clause-read
returns-clause-read c = no_block c.in_default.ensures.next c.in_default-next_if.ensures.next
