use Rattle.std.proofs.Common.{map, sym, ◌∙◌, subst}
use Rattle.tlsf_reader.specs.Seen.{seen}
use Rattle.tlsf_reader.proofs.Repeats.{fields_there, field_lacking}
use Rattle.tlsf_tokens.specs.declared.symbol.Symbol.TheVariants as symbol
use Rattle.tlsf_reader.specs.Faults.{title_is, description_is, semantics_is, target_is}
use Rattle.tlsf_reader.specs.Least.{IsLeast}
use Rattle.tlsf_reader.specs.Places.{FieldMissingAt, first_brace}
use Rattle.tlsf_reader.proofs.repeat.field_missing.Goals.{else-has-via-then-has+then-has-2+then-has-3+else-has-4, else-has-via-then-has+then-has-2+else-has-3, else-has-via-then-has+else-has-2, else-has-via-else-has}
use Rattle.tlsf_reader.proofs.repeat.field_missing.Goals as goal

pub returns-then-has-4 : goal.returns-then-has-4
returns-then-has-4 c =
    fields_there (map seen c.args.lexemes.now) (sym c.has.ensures ∙ c.if-has.true) (sym c.has-then-has.ensures ∙ c.if-has-2.true) (sym c.has-then-has-2.ensures ∙ c.if-has-3.true) (sym c.has-then-has-3.ensures ∙ c.if-has-4.true)

pub returns : goal.returns
returns c =
    let found : IsLeast (FieldMissingAt (map seen c.args.lexemes.now)) (first_brace (map seen c.args.lexemes.now)) = elim c.else-has.branch [
      | else-has-via-then-has+then-has-2+then-has-3+else-has-4 w ↦ field_lacking (map seen c.args.lexemes.now) symbol.Target target_is (sym w.has-then-has-3.ensures ∙ w.if-has-4.false)
      | else-has-via-then-has+then-has-2+else-has-3 w ↦ field_lacking (map seen c.args.lexemes.now) symbol.Semantics semantics_is (sym w.has-then-has-2.ensures ∙ w.if-has-3.false)
      | else-has-via-then-has+else-has-2 w ↦ field_lacking (map seen c.args.lexemes.now) symbol.Description description_is (sym w.has-then-has.ensures ∙ w.if-has-2.false)
      | else-has-via-else-has w ↦ field_lacking (map seen c.args.lexemes.now) symbol.Title title_is (sym c.has.ensures ∙ w.if-has.false)
    ] in
    subst (IsLeast (FieldMissingAt (map seen c.args.lexemes.now))) (sym c.first_brace.ensures) found
