use Rattle.std.proofs.Common.{◌≡◌}
use Rattle.tlsf_reader.specs.Assembly.{put_fields}
use Rattle.tlsf_reader.specs.Parts.{info_of}
use Rattle.tlsf_syntax.specs.Seen.{info_seen}
use Rattle.tlsf_reader.specs.TextView.{each, field_view}
use Rattle.tlsf_reader.proofs.assemble.info.Given as goal

-- the fields that are left, in front of those that are set
abbrev pub invariant-loop-field : goal.invariant-loop-field
invariant-loop-field l = put_fields (info_seen l.info) (each field_view l.left) ≡ info_of (each field_view l.fn.fields)

abbrev pub decreases-loop-field : goal.decreases-loop-field
decreases-loop-field l = goal.left-loop-field l
