use Rattle.std.proofs.Common.{◌≡◌, ◌++◌, ◌∷◌, [], Ok, ap, arith, rules}
use Rattle.tlsf_reader.proofs.Descending.{builds_more}
use Rattle.tlsf_reader.proofs.Climbing.{read_exit}
use Rattle.tlsf_reader.proofs.TextDescending.{list_read, list_stopped}
use Rattle.tlsf_reader.proofs.DefinitionDescending.{block_stopped}
use Rattle.tlsf_reader.specs.TextView.{each, block_view}
use Rattle.tlsf_reader.proofs.definition.blocks.Goals as goal

pub returns-in_err-block-clause-read : goal.returns-in_err-block-clause-read
returns-in_err-block-clause-read c = read_exit _ c.from_residual.ensures.1 (list_stopped {rest = []} c.loop-blocks.invariant.builds (block_stopped {view = each block_view} c.in_err-block.ensures.read))

pub loop-blocks-preserved : goal.loop-blocks-preserved
loop-blocks-preserved c =
    let pushed : c.push.new.self.items ≡ c.loop-blocks.blocks.items ++ c.in-Some.block ∷ [] = search rules in
    record {
      builds = builds_more c.push.new.self.items pushed c.loop-blocks.invariant.builds (c.in_ok-block.ensures.read.some c.in-Some.block (ap Ok c.in-Some.is));
      shorter = omega (arith, c.in_ok-block.ensures.shorter, c.loop-blocks.invariant.shorter);
    }

pub returns-clause-read : goal.returns-clause-read
returns-clause-read c = list_read c.loop-blocks.invariant.builds (c.in_ok-block.ensures.read.none (ap Ok c.in_default.is))
