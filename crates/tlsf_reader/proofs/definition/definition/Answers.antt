use Rattle.std.proofs.Common.{◌≡◌, List, [], map, ap, subst}
use Rattle.tlsf_syntax.specs.Tree as plain
use Rattle.tlsf_syntax.specs.Lexemes.{word_of}
use Rattle.tlsf_syntax.specs.TextReading.{function_read}
use Rattle.tlsf_reader.specs.Seen.{seen}
use Rattle.tlsf_syntax.specs.Seen.{word_seen, definition_seen}
use Rattle.tlsf_reader.specs.Descent.{IsRead}
use Rattle.tlsf_reader.proofs.Descending.{read_stop, read_go, read_expected, read_unexpected, read_next, read_other}
use Rattle.tlsf_reader.proofs.Climbing.{read_exit}
use Rattle.tlsf_reader.proofs.DefinitionDescending.{after_enum, constant_definition, named_definition}
use Rattle.tlsf_reader.proofs.definition.definition.Goals as goal

pub returns-in-Some-clause-read : goal.returns-in-Some-clause-read
returns-in-Some-clause-read c = read_next after_enum (λ d. named_definition d c.args.ahead.now) c.in-Some.ensures.next c.enumeration.ensures.read

pub returns-in_err-arguments-clause-read : goal.returns-in_err-arguments-clause-read
returns-in_err-arguments-clause-read c =
    read_exit _ c.from_residual-in_err-arguments.ensures.1
    (read_other after_enum named_definition c.in_default.ensures.next (read_expected _ c.in_ok-name.ensures.next (read_next _ _ c.in-Some-next_if.ensures.next (read_stop _ c.in_err-arguments.ensures.read))))

pub returns-in_err-expect-clause-read : goal.returns-in_err-expect-clause-read
returns-in_err-expect-clause-read c =
    read_exit _ c.from_residual-in_err-expect.ensures.1
    (read_other after_enum named_definition c.in_default.ensures.next (read_expected _ c.in_ok-name.ensures.next (read_next _ _ c.in-Some-next_if.ensures.next
    (read_go _ c.in_ok-arguments.ensures.read (read_unexpected _ c.in_err-expect.ensures.next)))))

pub returns-in-Some-next_if-clause-read : goal.returns-in-Some-next_if-clause-read
returns-in-Some-next_if-clause-read c =
    read_other after_enum named_definition c.in_default.ensures.next (read_expected _ c.in_ok-name.ensures.next (read_next _ _ c.in-Some-next_if.ensures.next
    (read_go _ c.in_ok-arguments.ensures.read (read_expected _ c.in_ok-expect.ensures.next c.function.ensures.read))))

pub returns-clause-read : goal.returns-clause-read
returns-clause-read c =
    let none : map word_seen c.new.result.items ≡ [] = ap (map word_seen) c.new.ensures.items in
    read_other after_enum named_definition c.in_default.ensures.next (read_expected _ c.in_ok-name.ensures.next (read_other _ (constant_definition (seen c.in_ok-name.name)) c.in_default-next_if.ensures.next
    (subst (λ (ws : List plain.Named). IsRead definition_seen (λ d. function_read d (word_of (seen c.in_ok-name.name)) ws c.next_if-2.new.self) c.function-2.new.ahead c.function-2.result) none c.function-2.ensures.read)))
