use Rattle.std.proofs.Common.{rules}
use Rattle.batch_answer.proofs.ReplyLemmas.{too_long_answers, whole_answers}
use Rattle.batch_answer.proofs.texts.AnsweringJob.answer.Goals as goal

pub returns-in-Whole : goal.returns-in-Whole
returns-in-Whole g c = whole_answers c.args.self.now c.args.text.now c.in-Whole.bytes c.answer.result c.in-Whole.is (search rules)

pub returns-in-TooLong : goal.returns-in-TooLong
returns-in-TooLong g c = too_long_answers c.args.self.now c.args.text.now c.too_long.result c.in-TooLong.is c.too_long.ensures
