use Rattle.names_and_numbers.proofs.ReadingLemmas.{moved-reading_at}
use Rattle.names_and_numbers.proofs.cursor.Cursor.skip.Goals as goal

pub returns : goal.returns
returns c = record { after = rw (← c.self.view_is) (moved-reading_at c.self.inside.bytes.now c.self.inside.at c.args.count) }
