use Rattle.std.proofs.Common.{◌≡◌, Some, IfOk, map, sym, subst, ◌∙◌}
use Rattle.std.specs.Prelude.{string_bytes}
use Rattle.program_words.specs.Settings.{asked_by}
use Rattle.program_words.specs.declared.words.WordsFault.TheVariants.{Refused}
use Rattle.program_words.proofs.Matching.{matched, refused}
use Rattle.program_words.proofs.words.read_words.Goals as goal

pub returns-in-Ok-clause-settings : goal.returns-in-Ok-clause-settings
returns-in-Ok-clause-settings c =
    subst (λ asked. IfOk c.found_settings.result (λ s. asked ≡ Some (asked_by s)))
    (sym (matched _ (map string_bytes c.args.words.now) _ c.in_ok-program.ensures c.in-Ok.ensures.matches c.in-Ok.ensures.kinds))
    c.found_settings.ensures.settings

pub returns-in-Ok-clause-refused : goal.returns-in-Ok-clause-refused
returns-in-Ok-clause-refused c = λ bad.
    matched _ (map string_bytes c.args.words.now) _ c.in_ok-program.ensures c.in-Ok.ensures.matches c.in-Ok.ensures.kinds
    ∙ c.found_settings.ensures.refused bad

pub returns-in-Err-clause-refused : goal.returns-in-Err-clause-refused
returns-in-Err-clause-refused c = λ gives.
    let kind : c.fault_by.result ≡ Refused = cc in
    refused _ (map string_bytes c.args.words.now) c.in-Err.error c.in_ok-program.ensures c.in-Err.ensures.kinds
    (λ memory. c.fault_by.ensures kind (c.kind.ensures ∙ memory))
