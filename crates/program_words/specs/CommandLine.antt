-- The command line that `clap` is set up with (this project's own): a subcommand for each command, with its required
-- names or its number, and options that take one value each; `expand`, `lasso` and `verify` have flags. Nothing else is set, and there is no help.
use Rattle.std.specs.Prelude.{◌≡◌, List, [], ◌∷◌, Some, true, false, codes}
use Rattle.clap.specs.Walk.{Rule, Text}
use Rattle.clap.specs.declared.builder.action.ArgAction.TheVariants.{SetTrue}
use Rattle.clap.specs.Simple.{App, Shape, new_rule, new_shape, shape_of}
use Rattle.clap.specs.declared.builder.command.Command.{Command}
use Rattle.clap.specs.declared.builder.command.Command.TheViews.{out-Command as fields_of}

-- what must be given, by its place
abbrev pub required : Text → Rule
required id = record (new_rule id) { required = true }

-- what may be given, by its place
abbrev pub optional : Text → Rule
optional id = new_rule id

-- an option `--name value`
abbrev pub option : Text → Rule
option name = record (new_rule name) { long = Some name }

-- a flag `--name`
abbrev pub flag : Text → Rule
flag name = record (new_rule name) { long = Some name; action = Some SetTrue }

abbrev pub command : Text → List Rule → Shape
command name rules = record (new_shape name) { rules = rules }

abbrev pub spec : Rule
spec = required (codes "spec")

abbrev pub clients : Rule
clients = required (codes "clients")

abbrev pub workers : Rule
workers = option (codes "workers")

abbrev pub most : Rule
most = option (codes "max")

abbrev pub entries : Rule
entries = option (codes "entries")

abbrev pub counts : Rule
counts = option (codes "counts")

abbrev pub kind : Rule
kind = option (codes "kind")

abbrev pub seconds : Rule
seconds = option (codes "seconds")

-- the flag for a text as `solve` takes it
abbrev pub as_solved : Rule
as_solved = flag (codes "solve")

-- a command that searches for a machine of one text
abbrev pub searching : Text → Shape
searching name = command name (spec ∷ most ∷ entries ∷ workers ∷ counts ∷ kind ∷ [])

abbrev pub synth : Shape
synth = searching (codes "synth")

abbrev pub check : Shape
check = command (codes "check") (spec ∷ required (codes "certificate") ∷ [])

abbrev pub expand : Shape
expand = command (codes "expand") (spec ∷ as_solved ∷ kind ∷ flag (codes "nodes") ∷ [])

abbrev pub lasso : Shape
lasso = command (codes "lasso") (spec ∷ required (codes "word") ∷ as_solved ∷ kind ∷ [])

abbrev pub gen : Shape
gen = command (codes "gen") (clients ∷ [])

abbrev pub bench : Shape
bench = command (codes "bench") (clients ∷ workers ∷ [])

abbrev pub verify : Shape
verify = command (codes "verify") (spec ∷ required (codes "circuit") ∷ kind ∷ flag (codes "unrealizable") ∷ [])

abbrev pub core : Shape
core = searching (codes "core")

abbrev pub batch : Shape
batch = command (codes "batch") (optional (codes "list") ∷ option (codes "solve") ∷ most ∷ entries ∷ workers ∷ counts ∷ kind ∷ seconds ∷ [])

abbrev pub solve : Shape
solve = command (codes "solve") (spec ∷ most ∷ entries ∷ workers ∷ kind ∷ seconds ∷ [])

abbrev pub program : App
program = record {
  top = record (new_shape (codes "boundsyn")) {
    is_leaf = false;
    disable_help_flag = true;
    disable_help_subcommand = true;
    subcommand_required = true;
  };
  subs = synth ∷ check ∷ expand ∷ lasso ∷ gen ∷ bench ∷ verify ∷ core ∷ batch ∷ solve ∷ [];
}

-- a command without subcommands and global arguments is set up so
pub record IsSetUpAs (shape : Shape) (c : Command) : Type 0 where
  pub shape_is : shape_of c ≡ shape
  pub no_globals : (fields_of c).has_globals ≡ false
