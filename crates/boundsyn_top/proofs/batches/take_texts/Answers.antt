use Rattle.std.proofs.Common.{◌≡◌, ◌∙◌, take}
use Rattle.std.proofs.lemmas.List.{take_all}
use Rattle.boundsyn_top.proofs.BatchLemmas.{listed_at, listed_more, one_rose, others_more, taken_more, taken_none}
use Rattle.boundsyn_top.proofs.batches.take_texts.Goals as goal

pub loop-name-init : goal.loop-name-init
loop-name-init g c = rw c.new-texts.ensures.items (taken_none _ _ c.args.names.now)

pub returns-in_err-text-clause-files : goal.returns-in_err-text-clause-files
returns-in_err-text-clause-files g c = c.take_one.ensures.files ∙ c.loop-name.invariant.files

pub returns-in_err-text-clause-other_files : goal.returns-in_err-text-clause-other_files
returns-in_err-text-clause-other_files g c =
    others_more _ _ _ _ _ _ c.args.names.now _ _ c.as_str.result.now c.loop-name.invariant
    (listed_at c.args.names.now c.loop-name.name-index c.name-item.result c.as_str.result.now c.loop-name-test.true c.name-item.is c.as_str.ensures.bytes)
    (record { files = c.take_one.ensures.files; others = c.take_one.ensures.others; rises = c.take_one.ensures.never_falls })

pub returns-in_err-push-in-Some-clause-files : goal.returns-in_err-push-in-Some-clause-files
returns-in_err-push-in-Some-clause-files g c = c.take_one.ensures.files ∙ c.loop-name.invariant.files

pub returns-in_err-push-in-Some-clause-other_files : goal.returns-in_err-push-in-Some-clause-other_files
returns-in_err-push-in-Some-clause-other_files g c =
    others_more _ _ _ _ _ _ c.args.names.now _ _ c.as_str.result.now c.loop-name.invariant
    (listed_at c.args.names.now c.loop-name.name-index c.name-item.result c.as_str.result.now c.loop-name-test.true c.name-item.is c.as_str.ensures.bytes)
    (record { files = c.take_one.ensures.files; others = c.take_one.ensures.others; rises = c.take_one.ensures.never_falls })

pub returns-in-None-clause-files : goal.returns-in-None-clause-files
returns-in-None-clause-files g c = c.take_one.ensures.files ∙ c.loop-name.invariant.files

pub returns-in-None-clause-other_files : goal.returns-in-None-clause-other_files
returns-in-None-clause-other_files g c =
    others_more _ _ _ _ _ _ c.args.names.now _ _ c.as_str.result.now c.loop-name.invariant
    (listed_at c.args.names.now c.loop-name.name-index c.name-item.result c.as_str.result.now c.loop-name-test.true c.name-item.is c.as_str.ensures.bytes)
    (record { files = c.take_one.ensures.files; others = c.take_one.ensures.others; rises = c.take_one.ensures.never_falls })

pub returns-in-None-clause-taken : goal.returns-in-None-clause-taken
returns-in-None-clause-taken g c =
    let rose = rw c.in-None.is at c.in_ok-text.ensures.taken in
    one_rose _ _ _ _ _ c.args.names.now _ _ c.as_str.result.now c.loop-name.invariant
    (listed_at c.args.names.now c.loop-name.name-index c.name-item.result c.as_str.result.now c.loop-name-test.true c.name-item.is c.as_str.ensures.bytes)
    rose

pub loop-name-preserved : goal.loop-name-preserved
loop-name-preserved g c =
    let taken = rw c.in-Some.is at c.in_ok-text.ensures.taken in
    taken_more _ _ _ _ _ _ c.args.names.now _ _ _ _ c.as_str.result.now c.in-Some.text c.loop-name.invariant
    (listed_at c.args.names.now c.loop-name.name-index c.name-item.result c.as_str.result.now c.loop-name-test.true c.name-item.is c.as_str.ensures.bytes)
    (record { files = c.take_one.ensures.files; others = c.take_one.ensures.others; rises = c.take_one.ensures.never_falls })
    taken
    (listed_more c.args.names.now c.loop-name.name-index c.name-item.result c.as_str.result.now c.loop-name-test.true c.name-item.is c.as_str.ensures.bytes)
    c.in_ok-push-in-Some.ensures.items

pub returns-clause-taken : goal.returns-clause-taken
returns-clause-taken g c =
    let all : take c.loop-name.name-index c.args.names.now ≡ c.args.names.now = take_all c.loop-name.name-index c.args.names.now c.loop-name-test.false in
    rw all at c.loop-name.invariant.taken

pub returns-clause-files : goal.returns-clause-files
returns-clause-files g c = c.loop-name.invariant.files

pub returns-clause-other_files : goal.returns-clause-other_files
returns-clause-other_files g c = c.loop-name.invariant.others
