-- Words of the plain form where a command has flags, which have defaults, and at most a kind behind its names.
use Rattle.std.proofs.Common.{◌≡◌, inl, inr, true, false, List, [], ◌∷◌, ◌++◌, Some, None, refl, sym, subst, codes, IsTrue}
use Rattle.std.specs.Prelude.{option_map}
use Rattle.clap.proofs.OnLiterals.{clap_on_literals}
use Rattle.clap.specs.Walk.{Row, Text, idle, nothing_held, option, walk_from}
use Rattle.clap.specs.declared.parser.matches.ValueSource.TheVariants.{DefaultValue}
use Rattle.clap.specs.declared.builder.value_parser.Reading.TheVariants.{AsWritten}
use Rattle.letters_and_lassos.specs.declared.kinds.Side.TheVariants.{System, Environment}
use Rattle.program_words.specs.CommandLine as line
use Rattle.program_words.specs.Plain.{Item, IsAmong, is_plain, item}
use Rattle.program_words.specs.Settings.{expand, expand_solve, kind_in, lasso, lasso_solve, settings_of, verify}
use Rattle.program_words.proofs.PlainCommands.{IsMet, after_name, leaf, read_rows, rows_read}
use Rattle.program_words.proofs.PlainSteps.{at, open_idle, open_option, plain_turn_fault, plain_walked, rows_of_items}
use Rattle.program_words.proofs.PlainWalks.{OptionSteps, Settles, after, options_end}

-- a flag as `clap` has it where it isn't there
abbrev unset : Text → Row
unset id = record {
  id = id;
  values = codes "false" ∷ [];
  count = None;
  source = Some DefaultValue;
  reading = AsWritten;
}

-- and where it is
abbrev set : Text → Item
set id = item id (codes "true")

abbrev kinds : List Text
kinds = codes "kind" ∷ []

expand_kind : OptionSteps (leaf line.expand) (codes "kind")
unfolding clap_on_literals
expand_kind = record {
  settles = record { rows = λ text rows. refl; fault = λ text rows waiting position. refl };
  word = λ rows pending position. refl;
  word_fault_is = λ rows pending position. refl;
  value_is = λ rows position text plain. plain_walked (leaf line.expand).rules rows (Some (codes "kind", [])) (option (codes "kind")) (open_option (codes "kind")) position text plain;
  value_fault = λ rows position text plain. plain_turn_fault (leaf line.expand) rows (Some (codes "kind", [])) (option (codes "kind")) (open_option (codes "kind")) position text plain;
}

expand_steps : (id : Text) → IsAmong id kinds → OptionSteps (leaf line.expand) id
expand_steps id (inl e) = subst (OptionSteps (leaf line.expand)) (sym e) expand_kind
expand_steps id (inr bad) = absurd bad

lasso_kind : OptionSteps (leaf line.lasso) (codes "kind")
unfolding clap_on_literals
lasso_kind = record {
  settles = record { rows = λ text rows. refl; fault = λ text rows waiting position. refl };
  word = λ rows pending position. refl;
  word_fault_is = λ rows pending position. refl;
  value_is = λ rows position text plain. plain_walked (leaf line.lasso).rules rows (Some (codes "kind", [])) (option (codes "kind")) (open_option (codes "kind")) position text plain;
  value_fault = λ rows position text plain. plain_turn_fault (leaf line.lasso) rows (Some (codes "kind", [])) (option (codes "kind")) (open_option (codes "kind")) position text plain;
}

lasso_steps : (id : Text) → IsAmong id kinds → OptionSteps (leaf line.lasso) id
lasso_steps id (inl e) = subst (OptionSteps (leaf line.lasso)) (sym e) lasso_kind
lasso_steps id (inr bad) = absurd bad

verify_kind : OptionSteps (leaf line.verify) (codes "kind")
unfolding clap_on_literals
verify_kind = record {
  settles = record { rows = λ text rows. refl; fault = λ text rows waiting position. refl };
  word = λ rows pending position. refl;
  word_fault_is = λ rows pending position. refl;
  value_is = λ rows position text plain. plain_walked (leaf line.verify).rules rows (Some (codes "kind", [])) (option (codes "kind")) (open_option (codes "kind")) position text plain;
  value_fault = λ rows position text plain. plain_turn_fault (leaf line.verify) rows (Some (codes "kind", [])) (option (codes "kind")) (open_option (codes "kind")) position text plain;
}

verify_steps : (id : Text) → IsAmong id kinds → OptionSteps (leaf line.verify) id
verify_steps id (inl e) = subst (OptionSteps (leaf line.verify)) (sym e) verify_kind
verify_steps id (inr bad) = absurd bad

expand_spec_settles : Settles (leaf line.expand) (codes "spec")
unfolding clap_on_literals
expand_spec_settles = record { rows = λ text rows. refl; fault = λ text rows waiting position. refl }

lasso_word_settles : Settles (leaf line.lasso) (codes "word")
unfolding clap_on_literals
lasso_word_settles = record { rows = λ text rows. refl; fault = λ text rows waiting position. refl }

verify_circuit_settles : Settles (leaf line.verify) (codes "circuit")
unfolding clap_on_literals
verify_circuit_settles = record { rows = λ text rows. refl; fault = λ text rows waiting position. refl }

expand_met : IsMet (codes "expand")
unfolding clap_on_literals
expand_met = record { walk_is = refl; no_fault = refl }

lasso_met : IsMet (codes "lasso")
unfolding clap_on_literals
lasso_met = record { walk_is = refl; no_fault = refl }

verify_met : IsMet (codes "verify")
unfolding clap_on_literals
verify_met = record { walk_is = refl; no_fault = refl }

pub expand_read : (program spec : Text) → IsTrue (is_plain spec) →
    settings_of (program ∷ codes "expand" ∷ spec ∷ []) ≡ Some (expand spec)
unfolding clap_on_literals
expand_read program spec spec_plain =
    let s = leaf line.expand in
    let items = item (codes "spec") spec ∷ [] in
    let rows = rows_of_items (item (codes "spec") spec ∷ []) ++ unset (codes "solve") ∷ unset (codes "nodes") ∷ [] in
    let end = options_end s kinds expand_steps ([]) (item (codes "spec") spec) 2 ([]) refl expand_spec_settles tt in
    let at_spec = after_name s (walk_from nothing_held) (after ([]) (item (codes "spec") spec) 2) spec ([]) items 2
    (plain_walked s.rules [] None idle open_idle 1 spec spec_plain) (plain_turn_fault s [] None idle open_idle 1 spec spec_plain) end in
    read_rows program (codes "expand") s (spec ∷ []) rows expand_met refl refl (rows_read s (spec ∷ []) items 2 rows at_spec refl refl refl)

pub expand_solve_read : (program spec : Text) → IsTrue (is_plain spec) →
    settings_of (program ∷ codes "expand" ∷ codes "--solve" ∷ spec ∷ []) ≡ Some (expand_solve spec None false)
unfolding clap_on_literals
expand_solve_read program spec spec_plain =
    let s = leaf line.expand in
    let items = set (codes "solve") ∷ item (codes "spec") spec ∷ [] in
    let rows = rows_of_items (set (codes "solve") ∷ item (codes "spec") spec ∷ []) ++ unset (codes "nodes") ∷ [] in
    let end = options_end s kinds expand_steps (set (codes "solve") ∷ []) (item (codes "spec") spec) 2 ([]) refl expand_spec_settles tt in
    let at_spec = after_name s (at (rows_of_items (set (codes "solve") ∷ [])) None idle 1) (after (set (codes "solve") ∷ []) (item (codes "spec") spec) 2) spec ([]) items 2
    (plain_walked s.rules (rows_of_items (set (codes "solve") ∷ [])) None idle open_idle 1 spec spec_plain) (plain_turn_fault s (rows_of_items (set (codes "solve") ∷ [])) None idle open_idle 1 spec spec_plain) end in
    let at_solve = after_name s (walk_from nothing_held) (at (rows_of_items (set (codes "solve") ∷ [])) None idle 1) (codes "--solve") (spec ∷ []) items 2 refl refl at_spec in
    read_rows program (codes "expand") s (codes "--solve" ∷ spec ∷ []) rows expand_met refl refl (rows_read s (codes "--solve" ∷ spec ∷ []) items 2 rows at_solve refl refl refl)

pub expand_kind_read : (program spec kind : Text) → IsTrue (is_plain spec) → IsTrue (is_plain kind) →
    settings_of (program ∷ codes "expand" ∷ codes "--solve" ∷ spec ∷ codes "--kind" ∷ kind ∷ []) ≡ option_map (λ k. expand_solve spec k false) (kind_in kind)
unfolding clap_on_literals
expand_kind_read program spec kind spec_plain kind_plain =
    let s = leaf line.expand in
    let items = set (codes "solve") ∷ item (codes "spec") spec ∷ item (codes "kind") kind ∷ [] in
    let rows = rows_of_items (set (codes "solve") ∷ item (codes "spec") spec ∷ item (codes "kind") kind ∷ []) ++ unset (codes "nodes") ∷ [] in
    let end = options_end s kinds expand_steps (set (codes "solve") ∷ []) (item (codes "spec") spec) 2 (item (codes "kind") kind ∷ []) refl expand_spec_settles (inl refl, kind_plain, refl, tt) in
    let at_spec = after_name s (at (rows_of_items (set (codes "solve") ∷ [])) None idle 1) (after (set (codes "solve") ∷ []) (item (codes "spec") spec) 2) spec (codes "--kind" ∷ kind ∷ []) items 2
    (plain_walked s.rules (rows_of_items (set (codes "solve") ∷ [])) None idle open_idle 1 spec spec_plain) (plain_turn_fault s (rows_of_items (set (codes "solve") ∷ [])) None idle open_idle 1 spec spec_plain) end in
    let at_solve = after_name s (walk_from nothing_held) (at (rows_of_items (set (codes "solve") ∷ [])) None idle 1) (codes "--solve") (spec ∷ codes "--kind" ∷ kind ∷ []) items 2 refl refl at_spec in
    read_rows program (codes "expand") s (codes "--solve" ∷ spec ∷ codes "--kind" ∷ kind ∷ []) rows expand_met refl refl (rows_read s (codes "--solve" ∷ spec ∷ codes "--kind" ∷ kind ∷ []) items 2 rows at_solve refl refl refl)

pub expand_nodes_read : (program spec : Text) → IsTrue (is_plain spec) →
    settings_of (program ∷ codes "expand" ∷ codes "--solve" ∷ codes "--nodes" ∷ spec ∷ []) ≡ Some (expand_solve spec None true)
unfolding clap_on_literals
expand_nodes_read program spec spec_plain =
    let s = leaf line.expand in
    let items = set (codes "solve") ∷ set (codes "nodes") ∷ item (codes "spec") spec ∷ [] in
    let rows = rows_of_items (set (codes "solve") ∷ set (codes "nodes") ∷ item (codes "spec") spec ∷ []) in
    let end = options_end s kinds expand_steps (set (codes "solve") ∷ set (codes "nodes") ∷ []) (item (codes "spec") spec) 2 ([]) refl expand_spec_settles tt in
    let at_spec = after_name s (at (rows_of_items (set (codes "solve") ∷ set (codes "nodes") ∷ [])) None idle 1) (after (set (codes "solve") ∷ set (codes "nodes") ∷ []) (item (codes "spec") spec) 2) spec ([]) items 2
    (plain_walked s.rules (rows_of_items (set (codes "solve") ∷ set (codes "nodes") ∷ [])) None idle open_idle 1 spec spec_plain) (plain_turn_fault s (rows_of_items (set (codes "solve") ∷ set (codes "nodes") ∷ [])) None idle open_idle 1 spec spec_plain) end in
    let at_nodes = after_name s (at (rows_of_items (set (codes "solve") ∷ [])) None idle 1) (at (rows_of_items (set (codes "solve") ∷ set (codes "nodes") ∷ [])) None idle 1) (codes "--nodes") (spec ∷ []) items 2 refl refl at_spec in
    let at_solve = after_name s (walk_from nothing_held) (at (rows_of_items (set (codes "solve") ∷ [])) None idle 1) (codes "--solve") (codes "--nodes" ∷ spec ∷ []) items 2 refl refl at_nodes in
    read_rows program (codes "expand") s (codes "--solve" ∷ codes "--nodes" ∷ spec ∷ []) rows expand_met refl refl (rows_read s (codes "--solve" ∷ codes "--nodes" ∷ spec ∷ []) items 2 rows at_solve refl refl refl)

pub expand_kind_nodes_read : (program spec kind : Text) → IsTrue (is_plain spec) → IsTrue (is_plain kind) →
    settings_of (program ∷ codes "expand" ∷ codes "--solve" ∷ codes "--nodes" ∷ spec ∷ codes "--kind" ∷ kind ∷ []) ≡ option_map (λ k. expand_solve spec k true) (kind_in kind)
unfolding clap_on_literals
expand_kind_nodes_read program spec kind spec_plain kind_plain =
    let s = leaf line.expand in
    let items = set (codes "solve") ∷ set (codes "nodes") ∷ item (codes "spec") spec ∷ item (codes "kind") kind ∷ [] in
    let rows = rows_of_items (set (codes "solve") ∷ set (codes "nodes") ∷ item (codes "spec") spec ∷ item (codes "kind") kind ∷ []) in
    let end = options_end s kinds expand_steps (set (codes "solve") ∷ set (codes "nodes") ∷ []) (item (codes "spec") spec) 2 (item (codes "kind") kind ∷ []) refl expand_spec_settles (inl refl, kind_plain, refl, tt) in
    let at_spec = after_name s (at (rows_of_items (set (codes "solve") ∷ set (codes "nodes") ∷ [])) None idle 1) (after (set (codes "solve") ∷ set (codes "nodes") ∷ []) (item (codes "spec") spec) 2) spec (codes "--kind" ∷ kind ∷ []) items 2
    (plain_walked s.rules (rows_of_items (set (codes "solve") ∷ set (codes "nodes") ∷ [])) None idle open_idle 1 spec spec_plain) (plain_turn_fault s (rows_of_items (set (codes "solve") ∷ set (codes "nodes") ∷ [])) None idle open_idle 1 spec spec_plain) end in
    let at_nodes = after_name s (at (rows_of_items (set (codes "solve") ∷ [])) None idle 1) (at (rows_of_items (set (codes "solve") ∷ set (codes "nodes") ∷ [])) None idle 1) (codes "--nodes") (spec ∷ codes "--kind" ∷ kind ∷ []) items 2 refl refl at_spec in
    let at_solve = after_name s (walk_from nothing_held) (at (rows_of_items (set (codes "solve") ∷ [])) None idle 1) (codes "--solve") (codes "--nodes" ∷ spec ∷ codes "--kind" ∷ kind ∷ []) items 2 refl refl at_nodes in
    read_rows program (codes "expand") s (codes "--solve" ∷ codes "--nodes" ∷ spec ∷ codes "--kind" ∷ kind ∷ []) rows expand_met refl refl (rows_read s (codes "--solve" ∷ codes "--nodes" ∷ spec ∷ codes "--kind" ∷ kind ∷ []) items 2 rows at_solve refl refl refl)

pub lasso_read : (program spec word : Text) → IsTrue (is_plain spec) → IsTrue (is_plain word) →
    settings_of (program ∷ codes "lasso" ∷ spec ∷ word ∷ []) ≡ Some (lasso spec word)
unfolding clap_on_literals
lasso_read program spec word spec_plain word_plain =
    let s = leaf line.lasso in
    let items = item (codes "spec") spec ∷ item (codes "word") word ∷ [] in
    let rows = rows_of_items (item (codes "spec") spec ∷ item (codes "word") word ∷ []) ++ unset (codes "solve") ∷ [] in
    let end = options_end s kinds lasso_steps (item (codes "spec") spec ∷ []) (item (codes "word") word) 3 ([]) refl lasso_word_settles tt in
    let at_word = after_name s (after ([]) (item (codes "spec") spec) 2) (after (item (codes "spec") spec ∷ []) (item (codes "word") word) 3) word ([]) items 3
    (plain_walked s.rules [] (Some (codes "spec", spec ∷ [])) idle open_idle 2 word word_plain) (plain_turn_fault s [] (Some (codes "spec", spec ∷ [])) idle open_idle 2 word word_plain) end in
    let at_spec = after_name s (walk_from nothing_held) (after ([]) (item (codes "spec") spec) 2) spec (word ∷ []) items 3
    (plain_walked s.rules [] None idle open_idle 1 spec spec_plain) (plain_turn_fault s [] None idle open_idle 1 spec spec_plain) at_word in
    read_rows program (codes "lasso") s (spec ∷ word ∷ []) rows lasso_met refl refl (rows_read s (spec ∷ word ∷ []) items 3 rows at_spec refl refl refl)

pub lasso_solve_read : (program spec word : Text) → IsTrue (is_plain spec) → IsTrue (is_plain word) →
    settings_of (program ∷ codes "lasso" ∷ codes "--solve" ∷ spec ∷ word ∷ []) ≡ Some (lasso_solve spec word None)
unfolding clap_on_literals
lasso_solve_read program spec word spec_plain word_plain =
    let s = leaf line.lasso in
    let items = set (codes "solve") ∷ item (codes "spec") spec ∷ item (codes "word") word ∷ [] in
    let rows = rows_of_items (set (codes "solve") ∷ item (codes "spec") spec ∷ item (codes "word") word ∷ []) in
    let end = options_end s kinds lasso_steps (set (codes "solve") ∷ item (codes "spec") spec ∷ []) (item (codes "word") word) 3 ([]) refl lasso_word_settles tt in
    let at_word = after_name s (after (set (codes "solve") ∷ []) (item (codes "spec") spec) 2) (after (set (codes "solve") ∷ item (codes "spec") spec ∷ []) (item (codes "word") word) 3) word ([]) items 3
    (plain_walked s.rules (rows_of_items (set (codes "solve") ∷ [])) (Some (codes "spec", spec ∷ [])) idle open_idle 2 word word_plain) (plain_turn_fault s (rows_of_items (set (codes "solve") ∷ [])) (Some (codes "spec", spec ∷ [])) idle open_idle 2 word word_plain) end in
    let at_spec = after_name s (at (rows_of_items (set (codes "solve") ∷ [])) None idle 1) (after (set (codes "solve") ∷ []) (item (codes "spec") spec) 2) spec (word ∷ []) items 3
    (plain_walked s.rules (rows_of_items (set (codes "solve") ∷ [])) None idle open_idle 1 spec spec_plain) (plain_turn_fault s (rows_of_items (set (codes "solve") ∷ [])) None idle open_idle 1 spec spec_plain) at_word in
    let at_solve = after_name s (walk_from nothing_held) (at (rows_of_items (set (codes "solve") ∷ [])) None idle 1) (codes "--solve") (spec ∷ word ∷ []) items 3 refl refl at_spec in
    read_rows program (codes "lasso") s (codes "--solve" ∷ spec ∷ word ∷ []) rows lasso_met refl refl (rows_read s (codes "--solve" ∷ spec ∷ word ∷ []) items 3 rows at_solve refl refl refl)

pub lasso_kind_read : (program spec word kind : Text) → IsTrue (is_plain spec) → IsTrue (is_plain word) → IsTrue (is_plain kind) →
    settings_of (program ∷ codes "lasso" ∷ codes "--solve" ∷ spec ∷ word ∷ codes "--kind" ∷ kind ∷ []) ≡ option_map (lasso_solve spec word) (kind_in kind)
unfolding clap_on_literals
lasso_kind_read program spec word kind spec_plain word_plain kind_plain =
    let s = leaf line.lasso in
    let items = set (codes "solve") ∷ item (codes "spec") spec ∷ item (codes "word") word ∷ item (codes "kind") kind ∷ [] in
    let rows = rows_of_items (set (codes "solve") ∷ item (codes "spec") spec ∷ item (codes "word") word ∷ item (codes "kind") kind ∷ []) in
    let end = options_end s kinds lasso_steps (set (codes "solve") ∷ item (codes "spec") spec ∷ []) (item (codes "word") word) 3 (item (codes "kind") kind ∷ []) refl lasso_word_settles (inl refl, kind_plain, refl, tt) in
    let at_word = after_name s (after (set (codes "solve") ∷ []) (item (codes "spec") spec) 2) (after (set (codes "solve") ∷ item (codes "spec") spec ∷ []) (item (codes "word") word) 3) word (codes "--kind" ∷ kind ∷ []) items 3
    (plain_walked s.rules (rows_of_items (set (codes "solve") ∷ [])) (Some (codes "spec", spec ∷ [])) idle open_idle 2 word word_plain) (plain_turn_fault s (rows_of_items (set (codes "solve") ∷ [])) (Some (codes "spec", spec ∷ [])) idle open_idle 2 word word_plain) end in
    let at_spec = after_name s (at (rows_of_items (set (codes "solve") ∷ [])) None idle 1) (after (set (codes "solve") ∷ []) (item (codes "spec") spec) 2) spec (word ∷ codes "--kind" ∷ kind ∷ []) items 3
    (plain_walked s.rules (rows_of_items (set (codes "solve") ∷ [])) None idle open_idle 1 spec spec_plain) (plain_turn_fault s (rows_of_items (set (codes "solve") ∷ [])) None idle open_idle 1 spec spec_plain) at_word in
    let at_solve = after_name s (walk_from nothing_held) (at (rows_of_items (set (codes "solve") ∷ [])) None idle 1) (codes "--solve") (spec ∷ word ∷ codes "--kind" ∷ kind ∷ []) items 3 refl refl at_spec in
    read_rows program (codes "lasso") s (codes "--solve" ∷ spec ∷ word ∷ codes "--kind" ∷ kind ∷ []) rows lasso_met refl refl (rows_read s (codes "--solve" ∷ spec ∷ word ∷ codes "--kind" ∷ kind ∷ []) items 3 rows at_solve refl refl refl)

pub verify_read : (program spec circuit : Text) → IsTrue (is_plain spec) → IsTrue (is_plain circuit) →
    settings_of (program ∷ codes "verify" ∷ spec ∷ circuit ∷ []) ≡ Some (verify System None spec circuit)
unfolding clap_on_literals
verify_read program spec circuit spec_plain circuit_plain =
    let s = leaf line.verify in
    let items = item (codes "spec") spec ∷ item (codes "circuit") circuit ∷ [] in
    let rows = rows_of_items (item (codes "spec") spec ∷ item (codes "circuit") circuit ∷ []) ++ unset (codes "unrealizable") ∷ [] in
    let end = options_end s kinds verify_steps (item (codes "spec") spec ∷ []) (item (codes "circuit") circuit) 3 ([]) refl verify_circuit_settles tt in
    let at_circuit = after_name s (after ([]) (item (codes "spec") spec) 2) (after (item (codes "spec") spec ∷ []) (item (codes "circuit") circuit) 3) circuit ([]) items 3
    (plain_walked s.rules [] (Some (codes "spec", spec ∷ [])) idle open_idle 2 circuit circuit_plain) (plain_turn_fault s [] (Some (codes "spec", spec ∷ [])) idle open_idle 2 circuit circuit_plain) end in
    let at_spec = after_name s (walk_from nothing_held) (after ([]) (item (codes "spec") spec) 2) spec (circuit ∷ []) items 3
    (plain_walked s.rules [] None idle open_idle 1 spec spec_plain) (plain_turn_fault s [] None idle open_idle 1 spec spec_plain) at_circuit in
    read_rows program (codes "verify") s (spec ∷ circuit ∷ []) rows verify_met refl refl (rows_read s (spec ∷ circuit ∷ []) items 3 rows at_spec refl refl refl)

pub verify_kind_read : (program spec circuit kind : Text) → IsTrue (is_plain spec) → IsTrue (is_plain circuit) → IsTrue (is_plain kind) →
    settings_of (program ∷ codes "verify" ∷ spec ∷ circuit ∷ codes "--kind" ∷ kind ∷ []) ≡ option_map (λ k. verify System k spec circuit) (kind_in kind)
unfolding clap_on_literals
verify_kind_read program spec circuit kind spec_plain circuit_plain kind_plain =
    let s = leaf line.verify in
    let items = item (codes "spec") spec ∷ item (codes "circuit") circuit ∷ item (codes "kind") kind ∷ [] in
    let rows = rows_of_items (item (codes "spec") spec ∷ item (codes "circuit") circuit ∷ item (codes "kind") kind ∷ []) ++ unset (codes "unrealizable") ∷ [] in
    let end = options_end s kinds verify_steps (item (codes "spec") spec ∷ []) (item (codes "circuit") circuit) 3 (item (codes "kind") kind ∷ []) refl verify_circuit_settles (inl refl, kind_plain, refl, tt) in
    let at_circuit = after_name s (after ([]) (item (codes "spec") spec) 2) (after (item (codes "spec") spec ∷ []) (item (codes "circuit") circuit) 3) circuit (codes "--kind" ∷ kind ∷ []) items 3
    (plain_walked s.rules [] (Some (codes "spec", spec ∷ [])) idle open_idle 2 circuit circuit_plain) (plain_turn_fault s [] (Some (codes "spec", spec ∷ [])) idle open_idle 2 circuit circuit_plain) end in
    let at_spec = after_name s (walk_from nothing_held) (after ([]) (item (codes "spec") spec) 2) spec (circuit ∷ codes "--kind" ∷ kind ∷ []) items 3
    (plain_walked s.rules [] None idle open_idle 1 spec spec_plain) (plain_turn_fault s [] None idle open_idle 1 spec spec_plain) at_circuit in
    read_rows program (codes "verify") s (spec ∷ circuit ∷ codes "--kind" ∷ kind ∷ []) rows verify_met refl refl (rows_read s (spec ∷ circuit ∷ codes "--kind" ∷ kind ∷ []) items 3 rows at_spec refl refl refl)

pub environment_read : (program spec circuit : Text) → IsTrue (is_plain spec) → IsTrue (is_plain circuit) →
    settings_of (program ∷ codes "verify" ∷ codes "--unrealizable" ∷ spec ∷ circuit ∷ []) ≡ Some (verify Environment None spec circuit)
unfolding clap_on_literals
environment_read program spec circuit spec_plain circuit_plain =
    let s = leaf line.verify in
    let items = set (codes "unrealizable") ∷ item (codes "spec") spec ∷ item (codes "circuit") circuit ∷ [] in
    let rows = rows_of_items (set (codes "unrealizable") ∷ item (codes "spec") spec ∷ item (codes "circuit") circuit ∷ []) in
    let end = options_end s kinds verify_steps (set (codes "unrealizable") ∷ item (codes "spec") spec ∷ []) (item (codes "circuit") circuit) 3 ([]) refl verify_circuit_settles tt in
    let at_circuit = after_name s (after (set (codes "unrealizable") ∷ []) (item (codes "spec") spec) 2) (after (set (codes "unrealizable") ∷ item (codes "spec") spec ∷ []) (item (codes "circuit") circuit) 3) circuit ([]) items 3
    (plain_walked s.rules (rows_of_items (set (codes "unrealizable") ∷ [])) (Some (codes "spec", spec ∷ [])) idle open_idle 2 circuit circuit_plain) (plain_turn_fault s (rows_of_items (set (codes "unrealizable") ∷ [])) (Some (codes "spec", spec ∷ [])) idle open_idle 2 circuit circuit_plain) end in
    let at_spec = after_name s (at (rows_of_items (set (codes "unrealizable") ∷ [])) None idle 1) (after (set (codes "unrealizable") ∷ []) (item (codes "spec") spec) 2) spec (circuit ∷ []) items 3
    (plain_walked s.rules (rows_of_items (set (codes "unrealizable") ∷ [])) None idle open_idle 1 spec spec_plain) (plain_turn_fault s (rows_of_items (set (codes "unrealizable") ∷ [])) None idle open_idle 1 spec spec_plain) at_circuit in
    let at_unrealizable = after_name s (walk_from nothing_held) (at (rows_of_items (set (codes "unrealizable") ∷ [])) None idle 1) (codes "--unrealizable") (spec ∷ circuit ∷ []) items 3 refl refl at_spec in
    read_rows program (codes "verify") s (codes "--unrealizable" ∷ spec ∷ circuit ∷ []) rows verify_met refl refl (rows_read s (codes "--unrealizable" ∷ spec ∷ circuit ∷ []) items 3 rows at_unrealizable refl refl refl)

pub environment_kind_read : (program spec circuit kind : Text) → IsTrue (is_plain spec) → IsTrue (is_plain circuit) → IsTrue (is_plain kind) →
    settings_of (program ∷ codes "verify" ∷ codes "--unrealizable" ∷ spec ∷ circuit ∷ codes "--kind" ∷ kind ∷ []) ≡ option_map (λ k. verify Environment k spec circuit) (kind_in kind)
unfolding clap_on_literals
environment_kind_read program spec circuit kind spec_plain circuit_plain kind_plain =
    let s = leaf line.verify in
    let items = set (codes "unrealizable") ∷ item (codes "spec") spec ∷ item (codes "circuit") circuit ∷ item (codes "kind") kind ∷ [] in
    let rows = rows_of_items (set (codes "unrealizable") ∷ item (codes "spec") spec ∷ item (codes "circuit") circuit ∷ item (codes "kind") kind ∷ []) in
    let end = options_end s kinds verify_steps (set (codes "unrealizable") ∷ item (codes "spec") spec ∷ []) (item (codes "circuit") circuit) 3 (item (codes "kind") kind ∷ []) refl verify_circuit_settles (inl refl, kind_plain, refl, tt) in
    let at_circuit = after_name s (after (set (codes "unrealizable") ∷ []) (item (codes "spec") spec) 2) (after (set (codes "unrealizable") ∷ item (codes "spec") spec ∷ []) (item (codes "circuit") circuit) 3) circuit (codes "--kind" ∷ kind ∷ []) items 3
    (plain_walked s.rules (rows_of_items (set (codes "unrealizable") ∷ [])) (Some (codes "spec", spec ∷ [])) idle open_idle 2 circuit circuit_plain) (plain_turn_fault s (rows_of_items (set (codes "unrealizable") ∷ [])) (Some (codes "spec", spec ∷ [])) idle open_idle 2 circuit circuit_plain) end in
    let at_spec = after_name s (at (rows_of_items (set (codes "unrealizable") ∷ [])) None idle 1) (after (set (codes "unrealizable") ∷ []) (item (codes "spec") spec) 2) spec (circuit ∷ codes "--kind" ∷ kind ∷ []) items 3
    (plain_walked s.rules (rows_of_items (set (codes "unrealizable") ∷ [])) None idle open_idle 1 spec spec_plain) (plain_turn_fault s (rows_of_items (set (codes "unrealizable") ∷ [])) None idle open_idle 1 spec spec_plain) at_circuit in
    let at_unrealizable = after_name s (walk_from nothing_held) (at (rows_of_items (set (codes "unrealizable") ∷ [])) None idle 1) (codes "--unrealizable") (spec ∷ circuit ∷ codes "--kind" ∷ kind ∷ []) items 3 refl refl at_spec in
    read_rows program (codes "verify") s (codes "--unrealizable" ∷ spec ∷ circuit ∷ codes "--kind" ∷ kind ∷ []) rows verify_met refl refl (rows_read s (codes "--unrealizable" ∷ spec ∷ circuit ∷ codes "--kind" ∷ kind ∷ []) items 3 rows at_unrealizable refl refl refl)
