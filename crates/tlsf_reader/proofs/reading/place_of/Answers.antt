use Rattle.tlsf_reader.proofs.ReadingTexts.{place_there, place_gone}
use Rattle.tlsf_reader.proofs.reading.place_of.Goals as goal

pub returns-in-Some : goal.returns-in-Some
returns-in-Some c =
    place_there c.args.lexed.now.lexemes.items c.args.lexed.now.stop_at c.args.number c.in-Some.lexeme.now (rw c.deref.ensures.value at c.in-Some.ensures.lookup.3.0) (rw c.deref.ensures.value at c.in-Some.ensures.lookup.1)

pub returns-in-None : goal.returns-in-None
returns-in-None c = place_gone c.args.lexed.now.lexemes.items c.args.lexed.now.stop_at c.args.number (rw c.deref.ensures.value at c.in-None.ensures.lookup.3)
