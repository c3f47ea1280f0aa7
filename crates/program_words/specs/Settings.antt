-- What the words of a command line ask for (this project's own).
use Rattle.std.specs.Prelude.{◌==◌, ◌≤◌, ℕ, Bool, false, IfSome, is_some, List, Option, Some, None, codes, length, option_map, option_and_then, if◌then◌else◌}
use Rattle.std.specs.Option.{option_map_or}
use Rattle.std.specs.Str.{bytes_eq}
use Rattle.letters_and_lassos.specs.declared.kinds.Kind.{Kind}
use Rattle.letters_and_lassos.specs.declared.kinds.Kind.TheVariants.{Mealy, Moore}
use Rattle.letters_and_lassos.specs.declared.kinds.Side.{Side}
use Rattle.letters_and_lassos.specs.declared.kinds.Side.TheVariants.{System, Environment}
use Rattle.machine_model.specs.declared.counting.Counts.{Counts}
use Rattle.machine_model.specs.declared.counting.Counts.TheVariants.{Whole, Local}
use Rattle.clap.specs.Walk.{Row, Text, first_of}
use Rattle.clap.specs.Simple.{subcommand_of}
use Rattle.clap.specs.Faults.{fault_of}
use Rattle.synth_engine.specs.declared.settings.Settings.{Settings as Search}
use Rattle.program_words.specs.declared.settings.Settings.{Settings}
use Rattle.program_words.specs.declared.settings.Settings.TheVariants as settings
use Rattle.program_words.specs.CommandLine.{program}
use Rattle.program_words.specs.Numbers.{number_in}

-- how far smaller machines are refuted: at most so many sizes, where that is given, with at most so many entries each; and for how many seconds
-- `solve` works at a text, where that is given
pub record Refutations : Type 0 where
  pub max : Option ℕ
  pub entries : Option ℕ
  pub workers : ℕ
  pub seconds : Option ℕ

-- what is done with each text of a list: what `synth` does, or what `solve` does
pub data EachText : Type 0 where
  searched : Search → EachText
  solved : Option Kind → Refutations → EachText

-- a command with its names, its number and its options; `expand` and `lasso` have two forms, the second for a text as `solve` takes it
pub data Asked : Type 0 where
  synth : Text → Search → Option Kind → Asked
  check : Text → Text → Asked
  expand : Text → Asked
  expand_solve : Text → Option Kind → Bool → Asked
  lasso : Text → Text → Asked
  lasso_solve : Text → Text → Option Kind → Asked
  gen : ℕ → Asked
  bench : ℕ → ℕ → Asked
  verify : Side → Option Kind → Text → Text → Asked
  core : Text → Search → Option Kind → Asked
  batch : Text → EachText → Asked
  solve : Text → Option Kind → Refutations → Asked

-- what settings of the code ask for
abbrev pub asked_by : Settings → Asked
asked_by (settings.Synth spec wanted kind) = synth spec.now wanted kind
asked_by (settings.Check spec certificate) = check spec.now certificate.now
asked_by (settings.Expand spec) = expand spec.now
asked_by (settings.ExpandSolve spec kind nodes) = expand_solve spec.now kind nodes
asked_by (settings.Lasso spec word) = lasso spec.now word.now
asked_by (settings.LassoSolve spec word kind) = lasso_solve spec.now word.now kind
asked_by (settings.Gen clients) = gen clients
asked_by (settings.Bench clients workers) = bench clients workers
asked_by (settings.Verify side kind spec circuit) = verify side kind spec.now circuit.now
asked_by (settings.Core spec wanted kind) = core spec.now wanted kind
asked_by (settings.Batch list wanted) = batch list.now (searched wanted)
asked_by (settings.SolveList list kind max entries workers seconds) =
    batch list.now (solved kind (record { max = max; entries = entries; workers = workers; seconds = seconds }))
asked_by (settings.Solve spec kind max entries workers seconds) =
    solve spec.now kind (record { max = max; entries = entries; workers = workers; seconds = seconds })

-- the most states and workers of a search for a machine of one text
abbrev pub most_alone : ℕ
most_alone = 8

-- the same where many texts are searched at once, so that all of them fit the memory of one
abbrev pub most_in_batch : ℕ
most_in_batch = 4

-- numbers lie in their ranges; states and workers are at most `most`
pub record IsSearchInRange (most : ℕ) (s : Search) : Type 0 where
  pub some_size : 1 ≤ s.max
  pub most_size : s.max ≤ most
  pub entries : IfSome s.entries (λ limit. limit ≤ 250000)
  pub some_worker : 1 ≤ s.workers
  pub most_workers : s.workers ≤ most

-- the same where sizes are refuted, by at most so many workers
pub record AreRefutationsInRange (most : ℕ) (r : Refutations) : Type 0 where
  pub sizes : IfSome r.max (λ max. max ≤ 16)
  pub entries : IfSome r.entries (λ limit. limit ≤ 250000)
  pub some_worker : 1 ≤ r.workers
  pub most_workers : r.workers ≤ most
  pub seconds : IfSome r.seconds (λ n. (1 ≤ n) × (n ≤ 86400))

abbrev pub IsInRange : Asked → Type 0
IsInRange (synth spec wanted kind) = IsSearchInRange most_alone wanted
IsInRange (check spec certificate) = Unit {0}
IsInRange (expand spec) = Unit {0}
IsInRange (expand_solve spec kind nodes) = Unit {0}
IsInRange (lasso spec word) = Unit {0}
IsInRange (lasso_solve spec word kind) = Unit {0}
IsInRange (gen clients) = (1 ≤ clients) × (clients ≤ 8)
IsInRange (bench clients workers) = ((1 ≤ clients) × (clients ≤ 4)) × ((1 ≤ workers) × (workers ≤ most_alone))
IsInRange (verify side kind spec circuit) = Unit {0}
IsInRange (core spec wanted kind) = IsSearchInRange most_alone wanted
IsInRange (batch list (searched wanted)) = IsSearchInRange most_in_batch wanted
IsInRange (batch list (solved kind refutations)) = AreRefutationsInRange most_in_batch refutations
IsInRange (solve spec kind refutations) = AreRefutationsInRange most_alone refutations

-- ---- the values of options, each with its default

-- the text that was given for each argument
abbrev pub Given : Type 0
Given = Text → Option Text

abbrev pub number_or : Text → ℕ → ℕ → ℕ → Given → Option ℕ
number_or id default least most given = option_map_or (number_in least most) (given id) (Some default)

abbrev pub most_size : ℕ → Given → Option ℕ
most_size most = number_or (codes "max") 4 1 most

abbrev pub worker_count : ℕ → Given → Option ℕ
worker_count most = number_or (codes "workers") 4 1 most

-- a number of entries, or `none` for no limit
abbrev pub limit_in : Text → Option (Option ℕ)
limit_in text = if bytes_eq text (codes "none") then Some None else option_map Some (number_in 0 250000 text)

abbrev pub limit_or : ℕ → Given → Option (Option ℕ)
limit_or default given = option_map_or limit_in (given (codes "entries")) (Some (Some default))

abbrev pub entry_limit : Given → Option (Option ℕ)
entry_limit = limit_or 50000

-- how many sizes are refuted below that of a machine that is found, where that is given
abbrev pub refuted_count : Given → Option (Option ℕ)
refuted_count given = option_map_or (λ text. option_map Some (number_in 0 16 text)) (given (codes "max")) (Some None)

-- without a number of sizes they are those that are soon refuted, so that fewer entries serve
abbrev pub refuted_limit : Given → Option (Option ℕ)
refuted_limit given = option_map_or (λ text. limit_or 50000 given) (given (codes "max")) (limit_or 2000 given)

abbrev pub kind_in : Text → Option (Option Kind)
kind_in text = if bytes_eq text (codes "mealy") then Some (Some Mealy)
    else if bytes_eq text (codes "moore") then Some (Some Moore) else None

-- without the option the kind is the text's own
abbrev pub kind_asked : Given → Option (Option Kind)
kind_asked given = option_map_or kind_in (given (codes "kind")) (Some None)

-- for how many seconds `solve` works at a text, where that is given
abbrev pub seconds_asked : Given → Option (Option ℕ)
seconds_asked given = option_map_or (λ text. option_map Some (number_in 1 86400 text)) (given (codes "seconds")) (Some None)

-- whether a flag is there: `clap` gives the text `true` for it then, and else `false`
abbrev pub flag_asked : Text → Given → Bool
flag_asked id given = option_map_or (λ text. bytes_eq text (codes "true")) (given id) false

-- which side a circuit plays
abbrev pub side_asked : Given → Side
side_asked given = if flag_asked (codes "unrealizable") given then Environment else System

abbrev pub counts_in : Text → Option Counts
counts_in text = if bytes_eq text (codes "whole") then Some Whole
    else if bytes_eq text (codes "local") then Some Local else None

abbrev pub counts_asked : Given → Option Counts
counts_asked given = option_map_or counts_in (given (codes "counts")) (Some Whole)

abbrev pub search_asked : ℕ → Given → Option Search
search_asked most given =
    option_and_then (λ max. option_and_then (λ entries. option_and_then (λ workers. option_map (λ counts.
    record { max = max; entries = entries; workers = workers; counts = counts })
    (counts_asked given)) (worker_count most given)) (entry_limit given)) (most_size most given)

abbrev pub refutations_asked : ℕ → Given → Option Refutations
refutations_asked most given =
    option_and_then (λ max. option_and_then (λ entries. option_and_then (λ workers. option_map (λ seconds.
    record { max = max; entries = entries; workers = workers; seconds = seconds })
    (seconds_asked given)) (worker_count most given)) (refuted_limit given)) (refuted_count given)

-- ---- each command

abbrev pub synth_asked : Given → Option Asked
synth_asked given =
    option_and_then (λ spec. option_and_then (λ wanted. option_map (synth spec wanted) (kind_asked given))
    (search_asked most_alone given)) (given (codes "spec"))

abbrev pub check_asked : Given → Option Asked
check_asked given =
    option_and_then (λ spec. option_map (check spec) (given (codes "certificate"))) (given (codes "spec"))

-- without `--solve` neither a kind nor the list of formulas is asked for
abbrev pub plain_expand_asked : Given → Option Asked
plain_expand_asked given =
    if is_some (given (codes "kind")) then None
    else if flag_asked (codes "nodes") given then None
    else option_map expand (given (codes "spec"))

abbrev pub expand_solve_asked : Given → Option Asked
expand_solve_asked given =
    option_and_then (λ spec. option_map (λ kind. expand_solve spec kind (flag_asked (codes "nodes") given)) (kind_asked given)) (given (codes "spec"))

abbrev pub expand_asked : Given → Option Asked
expand_asked given = if flag_asked (codes "solve") given then expand_solve_asked given else plain_expand_asked given

-- nor is a kind here
abbrev pub plain_lasso_asked : Given → Option Asked
plain_lasso_asked given =
    if is_some (given (codes "kind")) then None
    else option_and_then (λ spec. option_map (lasso spec) (given (codes "word"))) (given (codes "spec"))

abbrev pub lasso_solve_asked : Given → Option Asked
lasso_solve_asked given =
    option_and_then (λ spec. option_and_then (λ word. option_map (lasso_solve spec word) (kind_asked given)) (given (codes "word"))) (given (codes "spec"))

abbrev pub lasso_asked : Given → Option Asked
lasso_asked given = if flag_asked (codes "solve") given then lasso_solve_asked given else plain_lasso_asked given

abbrev pub gen_asked : Given → Option Asked
gen_asked given = option_map gen (option_and_then (number_in 1 8) (given (codes "clients")))

abbrev pub bench_asked : Given → Option Asked
bench_asked given =
    option_and_then (λ clients. option_map (bench clients) (worker_count most_alone given))
    (option_and_then (number_in 1 4) (given (codes "clients")))

abbrev pub verify_asked : Given → Option Asked
verify_asked given =
    option_and_then (λ spec. option_and_then (λ circuit. option_map (λ kind. verify (side_asked given) kind spec circuit) (kind_asked given))
    (given (codes "circuit"))) (given (codes "spec"))

abbrev pub core_asked : Given → Option Asked
core_asked given =
    option_and_then (λ spec. option_and_then (λ wanted. option_map (core spec wanted) (kind_asked given))
    (search_asked most_alone given)) (given (codes "spec"))

-- the texts of a list are searched as `synth` does, without another kind, and for as long as that takes
abbrev pub search_list_asked : Given → Option Asked
search_list_asked given =
    if is_some (given (codes "kind")) then None
    else if is_some (given (codes "seconds")) then None
    else option_and_then (λ list. option_map (λ wanted. batch list (searched wanted)) (search_asked most_in_batch given)) (given (codes "list"))

-- or solved, without another list, and without counts, since they are bounded in one way
abbrev pub solve_list_asked : Text → Given → Option Asked
solve_list_asked list given =
    if is_some (given (codes "list")) then None
    else if is_some (given (codes "counts")) then None
    else option_and_then (λ refutations. option_map (λ kind. batch list (solved kind refutations)) (kind_asked given))
    (refutations_asked most_in_batch given)

abbrev pub batch_asked : Given → Option Asked
batch_asked given = option_map_or (λ list. solve_list_asked list given) (given (codes "solve")) (search_list_asked given)

abbrev pub solve_asked : Given → Option Asked
solve_asked given =
    option_and_then (λ spec. option_and_then (λ refutations. option_map (λ kind. solve spec kind refutations)
    (kind_asked given)) (refutations_asked most_alone given)) (given (codes "spec"))

abbrev pub command_asked : Text → Given → Option Asked
command_asked name given =
    if bytes_eq name (codes "synth") then synth_asked given
    else if bytes_eq name (codes "check") then check_asked given
    else if bytes_eq name (codes "expand") then expand_asked given
    else if bytes_eq name (codes "lasso") then lasso_asked given
    else if bytes_eq name (codes "gen") then gen_asked given
    else if bytes_eq name (codes "bench") then bench_asked given
    else if bytes_eq name (codes "verify") then verify_asked given
    else if bytes_eq name (codes "core") then core_asked given
    else if bytes_eq name (codes "batch") then batch_asked given
    else if bytes_eq name (codes "solve") then solve_asked given
    else None

abbrev pub given_in : List Row → Given
given_in rows id = first_of id rows

-- by the matches of a subcommand
abbrev pub asked_of : Option (Text × List Row) → Option Asked
asked_of matched = option_and_then (λ (m : Text × List Row). command_asked m.0 (given_in m.1)) matched

-- What the words ask for, where `clap` takes them for its command line, and each value is in its range; the first word is
-- the program's name.
abbrev pub settings_of : List Text → Option Asked
settings_of words = if length (fault_of program words) == 0 then asked_of (subcommand_of program words) else None
