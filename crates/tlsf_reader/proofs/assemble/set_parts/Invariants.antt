use Rattle.std.proofs.Common.{◌≡◌}
use Rattle.tlsf_reader.specs.Assembly.{put_parts}
use Rattle.tlsf_syntax.specs.Seen.{text_seen}
use Rattle.tlsf_reader.specs.TextView.{each, part_view}
use Rattle.tlsf_reader.proofs.assemble.set_parts.Given as goal

-- the parts that are left, in front of those that are set
abbrev pub invariant-loop-part : goal.invariant-loop-part
invariant-loop-part l = put_parts (text_seen l.tree) (each part_view l.left) ≡ put_parts (text_seen l.fn.tree) (each part_view l.fn.parts)

abbrev pub decreases-loop-part : goal.decreases-loop-part
decreases-loop-part l = goal.left-loop-part l
