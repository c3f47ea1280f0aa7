use Rattle.std.proofs.Common.{◌<◌, length, arith, ◌∙◌}
use Rattle.std.proofs.lemmas.Grind.{common_steps}
use Rattle.tlsf_syntax.specs.Seen.{expr_seen}
use Rattle.tlsf_syntax.proofs.Seen.{chain_seen}
use Rattle.tlsf_reader.proofs.Nodes.{chain_of_some}
use Rattle.tlsf_reader.proofs.node.chain.Goals as goal

pub returns : goal.returns
returns c =
    let some : 0 < length c.args.rest.items = grind (arith, common_steps) in
    chain_seen (record { start = c.span.result.start; end = c.args.end }) c.in_ok-first.first c.args.rest ∙ (rw (c.span.ensures, c.in_ok-first.ensures) (chain_of_some (expr_seen c.args.first) c.args.rest.items c.args.end some c.requires))
