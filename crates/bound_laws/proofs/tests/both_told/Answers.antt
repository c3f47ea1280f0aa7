use Rattle.std.proofs.Common.{inl, refl}
use Rattle.bound_laws.proofs.tests.both_told.Goals as goal

pub returns-clause-numbers : goal.returns-clause-numbers
returns-clause-numbers g c = λ d e alike ten too states others.
    let one = c.in_ok-first.ensures.told.answers in
    let other = c.in_ok-second.ensures.told.answers in
    c.verdicts_are_determined.ensures.numbers c.args.text.now c.args.one.kind c.args.other.kind c.args.one.settings c.args.other.settings
    c.in_ok-first.first.reply.bytes.items c.in_ok-second.second.reply.bytes.items 10 d e alike (inl refl) (rw ten at one) (rw too at other) states others

pub returns-clause-never_both : goal.returns-clause-never_both
returns-clause-never_both g c = λ alike ten twenty.
    let one = c.in_ok-first.ensures.told.answers in
    let other = c.in_ok-second.ensures.told.answers in
    c.verdicts_are_determined.ensures.never_both c.args.text.now c.args.one.kind c.args.other.kind c.args.one.settings c.args.other.settings
    c.in_ok-first.first.reply.bytes.items c.in_ok-second.second.reply.bytes.items alike (rw ten at one) (rw twenty at other)
