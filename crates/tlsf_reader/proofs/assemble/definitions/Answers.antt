use Rattle.std.proofs.Common.{rules, ◌≡◌, ◌++◌, map, ap, ◌∙◌}
use Rattle.tlsf_reader.specs.Assembly.{block_definitions}
use Rattle.tlsf_syntax.specs.Seen.{definition_seen}
use Rattle.tlsf_reader.specs.TextView.{block_view}
use Rattle.tlsf_reader.proofs.Assembling.{more_definitions}
use Rattle.tlsf_reader.proofs.assemble.definitions.Goals.{in-Parameters, in-Parameters-2}
use Rattle.tlsf_reader.proofs.assemble.definitions.Goals as goal

pub loop-block-preserved : goal.loop-block-preserved
loop-block-preserved c =
    let appended : c.append.new.self.items ≡ c.loop-block.all.items ++ c.match-block.list.items = search rules in
    let listed : block_definitions (block_view c.in-Some.block) ≡ map definition_seen c.match-block.list.items = elim c.match-block.branch [ in-Parameters w ↦ search rules | in-Parameters-2 w ↦ search rules ] in
    ap (map definition_seen) appended ∙ more_definitions definition_seen block_view c.loop-block.all.items c.match-block.list.items c.loop-block.yielded c.in-Some.block c.loop-block.invariant listed
