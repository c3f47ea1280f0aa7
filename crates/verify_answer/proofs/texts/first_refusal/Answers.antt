use Rattle.verify_answer.proofs.Tested.{never_given}
use Rattle.verify_answer.proofs.texts.first_refusal.Goals as goal

pub unreachable-requires : goal.unreachable-requires
unreachable-requires c =
    let taken = rw c.in-Of.is at c.in_ok-reply.ensures in
    never_given c.small_texts_are_taken.ensures c.problems_of_texts_are_determined.ensures c.args.text.now c.args.given c.args.fault c.in-Of.field-0 c.in_default.not-NoMemory c.requires taken
