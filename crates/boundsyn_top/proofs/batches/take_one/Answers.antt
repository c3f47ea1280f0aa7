use Rattle.std.proofs.Common.{refl}
use Rattle.boundsyn_top.proofs.FileLemmas.{too_long_text}
use Rattle.boundsyn_top.proofs.batches.take_one.Goals as goal

pub returns-in-Err-TooLong-clause-taken : goal.returns-in-Err-TooLong-clause-taken
returns-in-Err-TooLong-clause-taken g c =
    let long = too_long_text _ c.args.name.now 1048576 (rw c.in-Err-TooLong.field-0-is at c.in-Err-TooLong.ensures.too_long refl) in
    record { bytes = long.0; are_told = long.1; holds = long.2 }
