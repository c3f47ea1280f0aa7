use Rattle.std.proofs.Common.{Some}
use Rattle.text_limits.specs.declared.TheConstants.{LARGE_LIMITS}
use Rattle.tlsf_expand.specs.FlatText.{spec_seen}
use Rattle.spec_texts.proofs.beside.flat_of_kind.Goals as goal

pub returns-in-Ok-clause-writable : goal.returns-in-Ok-clause-writable
returns-in-Ok-clause-writable c =
    let flat = c.in-Ok.ensures.flat in
    c.expanded_can_be_written.ensures LARGE_LIMITS flat.tree (Some c.args.kind) (spec_seen c.in-Ok.spec) flat.expanded
