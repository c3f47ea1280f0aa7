-- What the matches of the command line say of the words.
use Rattle.std.proofs.Common.{◌≡◌, ◌==◌, ◌≢◌, true, false, arith, List, [], ◌∷◌, None, refl, sym, subst, ap, ◌∙◌, inl, inr, length}
use Rattle.std.specs.Prelude.{if◌then◌else◌}
use Rattle.std.proofs.lemmas.Grind.{common_steps}
use Rattle.clap.specs.Faults.{fault_of, is_simple_and_free}
use Rattle.clap.specs.Kinds.{HasKind, Kinds}
use Rattle.clap.specs.Simple.{App, HasMatchesOf, is_simple, subcommand_of, subcommand_rows_of}
use Rattle.clap.specs.Values.{kind_of}
use Rattle.clap.specs.Walk.{Text}
use Rattle.clap.specs.declared.error.Error.{Error}
use Rattle.clap.specs.declared.error.kind.ErrorKind.TheVariants.{OutOfMemory}
use Rattle.clap.specs.declared.parser.matches.ArgMatches.{ArgMatches}
use Rattle.program_words.specs.CommandLine.{program}
use Rattle.program_words.specs.Settings.{asked_of, settings_of}

program_is_simple : is_simple program ≡ true
program_is_simple = refl

program_is_free : is_simple_and_free program ≡ true
program_is_free = refl

-- the matches hold what the words ask for
pub matched : (a : App) (words : List Text) (m : ArgMatches) → a ≡ program → HasMatchesOf a words m →
    (is_simple_and_free a ≡ true → fault_of a words ≡ []) → settings_of words ≡ asked_of (subcommand_rows_of m)
matched a words m is has free =
    let none = subst (λ (x : App). fault_of x words ≡ []) is (free (ap is_simple_and_free is ∙ program_is_free)) in
    let rows = subst (λ (x : App). subcommand_rows_of m ≡ subcommand_of x words) is (has (ap is_simple is ∙ program_is_simple)).1 in
    ap (λ (k : Kinds). if length k == 0 then asked_of (subcommand_of program words) else None) none ∙ ap asked_of (sym rows)

-- words that are refused, but for want of memory, ask for nothing
pub refused : (a : App) (words : List Text) (e : Error) → a ≡ program → (is_simple_and_free a ≡ true → HasKind (fault_of a words) e) →
    kind_of e ≢ OutOfMemory → settings_of words ≡ None
refused a words e is fails other =
    by (fault_of program words) (subst (λ (x : App). HasKind (fault_of x words) e) is (fails (ap is_simple_and_free is ∙ program_is_free)))
  where
    by : (k : Kinds) → HasKind k e → (if length k == 0 then asked_of (subcommand_of program words) else None) ≡ None
    by [] (inl memory) = absurd (other memory)
    by [] (inr bad) = absurd bad
    by (k ∷ ks) h = let test : (length (k ∷ ks) == 0) ≡ false = grind (arith, common_steps) in rw test refl
