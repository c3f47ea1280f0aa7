use Rattle.std.proofs.Common.{◌++◌, ◌∷◌, map, sym, ◌∙◌, ap}
use Rattle.tlsf_reader.specs.Parts.{definition_words}
use Rattle.tlsf_syntax.specs.Seen.{word_seen, definition_seen}
use Rattle.tlsf_reader.proofs.Repeats.{enumerated, member_words}
use Rattle.tlsf_reader.proofs.repeat.push_definition.Goals as goal

pub returns-in_ok-push_members-in-Enumeration : goal.returns-in_ok-push_members-in-Enumeration
returns-in_ok-push_members-in-Enumeration c =
    enumerated (λ w. word_seen w.now) (λ m. word_seen m.word) c.args.words.now.items c.push.new.self.items c.push_members.new.words.items _ c.deref.result.now c.in_ok-push-in-Enumeration.ensures.items c.in_ok-push_members-in-Enumeration.ensures
    ∙ ap (λ xs. map (λ w. word_seen w.now) c.args.words.now.items ++ (word_seen c.in-Enumeration.word ∷ xs)) (ap (map (λ m. word_seen m.word)) c.deref.ensures.value ∙ member_words c.in-Enumeration.members.items)
    ∙ ap (λ d. map (λ w. word_seen w.now) c.args.words.now.items ++ definition_words (definition_seen d)) (sym c.in-Enumeration.is)
