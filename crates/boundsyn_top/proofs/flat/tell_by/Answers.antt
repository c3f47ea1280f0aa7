use Rattle.std.proofs.Common.{refl}
use Rattle.tlsf_expand.specs.FlatText.{spec_seen}
use Rattle.boundsyn_top.proofs.ReplyLemmas.{flat_without_fault, whatever}
use Rattle.boundsyn_top.proofs.flat.tell_by.Goals as goal

pub returns-in-Flat-clause-reply : goal.returns-in-Flat-clause-reply
returns-in-Flat-clause-reply g c =
    let is_flat = rw c.in-Flat.is at c.in_ok-flat.ensures.flat in
    c.told.ensures.reply c.args.text.now is_flat (flat_without_fault c.args.text.now (spec_seen c.in-Flat.flat) c.flat_texts_have_no_fault.ensures is_flat)

pub returns-in-Flat-clause-other_files : goal.returns-in-Flat-clause-other_files
returns-in-Flat-clause-other_files g c = λ name differs.
    let is_flat = rw c.in-Flat.is at c.in_ok-flat.ensures.flat in
    c.told.ensures.other_files name (differs (flat_without_fault c.args.text.now (spec_seen c.in-Flat.flat) c.flat_texts_have_no_fault.ensures is_flat))

pub returns-in-Refused-clause-reply : goal.returns-in-Refused-clause-reply
returns-in-Refused-clause-reply g c =
    let all = rw c.in-Refused.is at c.in_ok-flat.ensures.refused_to_words in
    whatever _ c.args.word.now _ _ _ _ _ refl all
