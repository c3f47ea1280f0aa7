-- A command line as it is built, argument by argument.
use Rattle.std.proofs.Common.{◌≡◌, [], ◌∷◌, ◌++◌, ◌||◌, Bool, true, false, ap, ap₂, ◌∙◌, refl}
use Rattle.clap.specs.Built.{AddsArg, AddsSubcommand}
use Rattle.clap.specs.Walk.{Rule, Text, rule_of}
use Rattle.clap.specs.Simple.{App, Shape, app_of, app_of_fields, new_app, on_top, with_subcommand}
use Rattle.clap.specs.declared.builder.arg.Arg.{Arg}
use Rattle.clap.specs.declared.builder.command.Command.{Command}
use Rattle.clap.specs.declared.builder.command.Command.TheViews.{out-Command as fields_of}
use Rattle.program_words.specs.CommandLine.{IsSetUpAs, command}

abbrev with_one_rule : Shape → Rule → Shape
with_one_rule s r = record s { rules = s.rules ++ r ∷ [] }

pub started : (c : Command) (name : Text) → app_of c ≡ new_app name → (fields_of c).has_globals ≡ false → IsSetUpAs (command name []) c
started c name app local = record { shape_is = ap (λ (a : App). a.top) app; no_globals = local }

pub with_more : (old new : Command) (arg : Arg) (shape : Shape) (rule : Rule) → IsSetUpAs shape old → AddsArg old arg new →
    rule_of arg ≡ rule → arg.global ≡ false → IsSetUpAs (with_one_rule shape rule) new
with_more old new arg shape rule before adds rule_is own = record {
  shape_is = ap (λ (a : App). a.top) (adds.shape own) ∙ ap₂ with_one_rule before.shape_is rule_is;
  no_globals = adds.globals ∙ globals before.no_globals own;
}
  where
    globals : {a b : Bool} → a ≡ false → b ≡ false → (a || b) ≡ false
    globals x y = rw (x, y) refl

-- the program's own settings, before it has commands
pub program_started : (c without_flag without_help start : Command) (name : Text) → app_of c ≡ new_app name →
    fields_of without_flag ≡ record (fields_of c) { disable_help_flag = true } →
    fields_of without_help ≡ record (fields_of without_flag) { disable_help_subcommand = true } →
    fields_of start ≡ record (fields_of without_help) { subcommand_required = true } →
    app_of start ≡ on_top (λ s. record s { disable_help_flag = true; disable_help_subcommand = true; subcommand_required = true }) (new_app name)
program_started c without_flag without_help start name new flag help needed =
    let first : app_of without_flag ≡ on_top (λ s. record s { disable_help_flag = true }) (app_of c) = ap app_of_fields flag in
    let second : app_of without_help ≡ on_top (λ s. record s { disable_help_subcommand = true }) (app_of without_flag) = ap app_of_fields help in
    let third : app_of start ≡ on_top (λ s. record s { subcommand_required = true }) (app_of without_help) = ap app_of_fields needed in
    third ∙ ap (on_top (λ s. record s { subcommand_required = true })) (second ∙ ap (on_top (λ s. record s { disable_help_subcommand = true }))
    (first ∙ ap (on_top (λ s. record s { disable_help_flag = true })) new))

pub with_command : (old new sub : Command) (a : App) (s : Shape) → app_of old ≡ a → AddsSubcommand old sub new → IsSetUpAs s sub →
    app_of new ≡ with_subcommand a s
with_command old new sub a s before adds set_up = adds.shape set_up.no_globals ∙ ap₂ with_subcommand before set_up.shape_is
