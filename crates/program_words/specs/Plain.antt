-- Words of the plain form (this project's own): the program's name, a command, its names or its number, and then options,
-- each as its name behind `--` and its value, in any order and each at most once. With `--solve` the list is an option's value, and `expand`, `lasso`
-- and `verify` have their flags before their names.
use Rattle.std.specs.Prelude.{◌≡◌, ◌==◌, ◌⊎◌, Bool, true, false, not, List, [], ◌∷◌, ◌++◌, Some, None, IsTrue, codes, find, option_map}
use Rattle.std.specs.List.{list_any}
use Rattle.std.specs.Str.{bytes_eq}
use Rattle.letters_and_lassos.specs.declared.kinds.Side.TheVariants.{System, Environment}
use Rattle.clap.specs.Walk.{Text}
use Rattle.program_words.specs.Numbers.{number_in}
use Rattle.program_words.specs.Settings.{Given, synth_asked, bench_asked, core_asked, batch_asked, solve_asked, check, expand, expand_solve, gen, kind_in, lasso, lasso_solve, verify, settings_of}

-- a text that is given for an argument
pub record Item : Type 0 where
  pub id : Text
  pub text : Text

-- neither empty nor with a hyphen in front
abbrev pub is_plain : Text → Bool
is_plain [] = false
is_plain (b ∷ bs) = not (b == 45)

abbrev pub has_item : Text → List Item → Bool
has_item id items = list_any (λ (x : Item). bytes_eq x.id id) items

abbrev pub given_by : List Item → Given
given_by items id = option_map (λ (x : Item). x.text) (find (λ (x : Item). bytes_eq x.id id) items)

abbrev pub option_words : List Item → List Text
option_words [] = []
option_words (o ∷ more) = (codes "--" ++ o.id) ∷ o.text ∷ option_words more

abbrev pub IsAmong : Text → List Text → Type 0
IsAmong id [] = ⊥
IsAmong id (known ∷ more) = (id ≡ known) ⊎ IsAmong id more

-- each of the options has one of these names, a plain value, and a name that none has before it
abbrev pub AreOptions : List Text → List Item → List Item → Type 0
AreOptions known before [] = Unit {0}
AreOptions known before (o ∷ more) =
    IsAmong o.id known × IsTrue (is_plain o.text) × (has_item o.id before ≡ false) × AreOptions known (before ++ o ∷ []) more

abbrev pub synth_options : List Text
synth_options = codes "max" ∷ codes "entries" ∷ codes "workers" ∷ codes "counts" ∷ codes "kind" ∷ []

abbrev pub bench_options : List Text
bench_options = codes "workers" ∷ []

abbrev pub batch_options : List Text
batch_options = codes "max" ∷ codes "entries" ∷ codes "workers" ∷ codes "counts" ∷ codes "kind" ∷ codes "seconds" ∷ codes "solve" ∷ []

abbrev pub solve_options : List Text
solve_options = codes "max" ∷ codes "entries" ∷ codes "workers" ∷ codes "kind" ∷ codes "seconds" ∷ []

abbrev pub item : Text → Text → Item
item id text = record { id = id; text = text }

-- words of the plain form ask for what they say
pub record PlainWordsAreRead : Type 0 where
  pub synth_words : (program spec : Text) (options : List Item) → IsTrue (is_plain spec) → AreOptions synth_options [] options →
      settings_of (program ∷ codes "synth" ∷ spec ∷ option_words options) ≡ synth_asked (given_by (item (codes "spec") spec ∷ options))
  pub check_words : (program spec certificate : Text) → IsTrue (is_plain spec) → IsTrue (is_plain certificate) →
      settings_of (program ∷ codes "check" ∷ spec ∷ certificate ∷ []) ≡ Some (check spec certificate)
  pub expand_words : (program spec : Text) → IsTrue (is_plain spec) →
      settings_of (program ∷ codes "expand" ∷ spec ∷ []) ≡ Some (expand spec)
  pub expand_solve_words : (program spec : Text) → IsTrue (is_plain spec) →
      settings_of (program ∷ codes "expand" ∷ codes "--solve" ∷ spec ∷ []) ≡ Some (expand_solve spec None false)
  pub expand_kind_words : (program spec kind : Text) → IsTrue (is_plain spec) → IsTrue (is_plain kind) →
      settings_of (program ∷ codes "expand" ∷ codes "--solve" ∷ spec ∷ codes "--kind" ∷ kind ∷ []) ≡ option_map (λ k. expand_solve spec k false) (kind_in kind)
  pub expand_nodes_words : (program spec : Text) → IsTrue (is_plain spec) →
      settings_of (program ∷ codes "expand" ∷ codes "--solve" ∷ codes "--nodes" ∷ spec ∷ []) ≡ Some (expand_solve spec None true)
  pub expand_kind_nodes_words : (program spec kind : Text) → IsTrue (is_plain spec) → IsTrue (is_plain kind) →
      settings_of (program ∷ codes "expand" ∷ codes "--solve" ∷ codes "--nodes" ∷ spec ∷ codes "--kind" ∷ kind ∷ []) ≡ option_map (λ k. expand_solve spec k true) (kind_in kind)
  pub lasso_words : (program spec word : Text) → IsTrue (is_plain spec) → IsTrue (is_plain word) →
      settings_of (program ∷ codes "lasso" ∷ spec ∷ word ∷ []) ≡ Some (lasso spec word)
  pub lasso_solve_words : (program spec word : Text) → IsTrue (is_plain spec) → IsTrue (is_plain word) →
      settings_of (program ∷ codes "lasso" ∷ codes "--solve" ∷ spec ∷ word ∷ []) ≡ Some (lasso_solve spec word None)
  pub lasso_kind_words : (program spec word kind : Text) → IsTrue (is_plain spec) → IsTrue (is_plain word) → IsTrue (is_plain kind) →
      settings_of (program ∷ codes "lasso" ∷ codes "--solve" ∷ spec ∷ word ∷ codes "--kind" ∷ kind ∷ []) ≡ option_map (lasso_solve spec word) (kind_in kind)
  pub gen_words : (program clients : Text) → IsTrue (is_plain clients) →
      settings_of (program ∷ codes "gen" ∷ clients ∷ []) ≡ option_map gen (number_in 1 8 clients)
  pub bench_words : (program clients : Text) (options : List Item) → IsTrue (is_plain clients) → AreOptions bench_options [] options →
      settings_of (program ∷ codes "bench" ∷ clients ∷ option_words options) ≡ bench_asked (given_by (item (codes "clients") clients ∷ options))
  pub verify_words : (program spec circuit : Text) → IsTrue (is_plain spec) → IsTrue (is_plain circuit) →
      settings_of (program ∷ codes "verify" ∷ spec ∷ circuit ∷ []) ≡ Some (verify System None spec circuit)
  pub verify_kind_words : (program spec circuit kind : Text) → IsTrue (is_plain spec) → IsTrue (is_plain circuit) → IsTrue (is_plain kind) →
      settings_of (program ∷ codes "verify" ∷ spec ∷ circuit ∷ codes "--kind" ∷ kind ∷ []) ≡ option_map (λ k. verify System k spec circuit) (kind_in kind)
  pub environment_words : (program spec circuit : Text) → IsTrue (is_plain spec) → IsTrue (is_plain circuit) →
      settings_of (program ∷ codes "verify" ∷ codes "--unrealizable" ∷ spec ∷ circuit ∷ []) ≡ Some (verify Environment None spec circuit)
  pub environment_kind_words : (program spec circuit kind : Text) → IsTrue (is_plain spec) → IsTrue (is_plain circuit) → IsTrue (is_plain kind) →
      settings_of (program ∷ codes "verify" ∷ codes "--unrealizable" ∷ spec ∷ circuit ∷ codes "--kind" ∷ kind ∷ []) ≡ option_map (λ k. verify Environment k spec circuit) (kind_in kind)
  pub core_words : (program spec : Text) (options : List Item) → IsTrue (is_plain spec) → AreOptions synth_options [] options →
      settings_of (program ∷ codes "core" ∷ spec ∷ option_words options) ≡ core_asked (given_by (item (codes "spec") spec ∷ options))
  pub batch_words : (program list : Text) (options : List Item) → IsTrue (is_plain list) → AreOptions batch_options [] options →
      settings_of (program ∷ codes "batch" ∷ list ∷ option_words options) ≡ batch_asked (given_by (item (codes "list") list ∷ options))
  pub solve_list_words : (program list : Text) (options : List Item) → IsTrue (is_plain list) → AreOptions batch_options (item (codes "solve") list ∷ []) options →
      settings_of (program ∷ codes "batch" ∷ codes "--solve" ∷ list ∷ option_words options) ≡ batch_asked (given_by (item (codes "solve") list ∷ options))
  pub solve_words : (program spec : Text) (options : List Item) → IsTrue (is_plain spec) → AreOptions solve_options [] options →
      settings_of (program ∷ codes "solve" ∷ spec ∷ option_words options) ≡ solve_asked (given_by (item (codes "spec") spec ∷ options))
