-- Words of the plain form ask for what they say.
use Rattle.std.proofs.Common.{◌≡◌, inl, inr, false, List, [], ◌∷◌, Some, None, refl, sym, subst, ap, codes, IsTrue}
use Rattle.std.specs.Str.{bytes_eq}
use Rattle.clap.proofs.OnLiterals.{clap_on_literals}
use Rattle.clap.specs.Walk.{Text, idle, nothing_held, option, walk_from}
use Rattle.program_words.specs.CommandLine as line
use Rattle.program_words.specs.Plain.{Item, AreOptions, IsAmong, PlainWordsAreRead, batch_options, bench_options, given_by, is_plain, item, option_words, solve_options, synth_options}
use Rattle.program_words.specs.Settings.{command_asked, settings_of}
use Rattle.program_words.proofs.PlainCommands.{IsMet, after_name, behind_name, leaf, leaf_reads, read_command}
use Rattle.program_words.proofs.PlainFlags as flags
use Rattle.program_words.proofs.PlainSteps.{at, open_idle, open_option, plain_turn_fault, plain_walked}
use Rattle.program_words.proofs.PlainWalks.{OptionSteps, Settles, after, options_end}

synth_max : (name : Text) → OptionSteps (leaf (line.searching name)) (codes "max")
unfolding clap_on_literals
synth_max name = record {
  settles = record { rows = λ text rows. refl; fault = λ text rows waiting position. refl };
  word = λ rows pending position. refl;
  word_fault_is = λ rows pending position. refl;
  value_is = λ rows position text plain. plain_walked (leaf (line.searching name)).rules rows (Some (codes "max", [])) (option (codes "max")) (open_option (codes "max")) position text plain;
  value_fault = λ rows position text plain. plain_turn_fault (leaf (line.searching name)) rows (Some (codes "max", [])) (option (codes "max")) (open_option (codes "max")) position text plain;
}

synth_entries : (name : Text) → OptionSteps (leaf (line.searching name)) (codes "entries")
unfolding clap_on_literals
synth_entries name = record {
  settles = record { rows = λ text rows. refl; fault = λ text rows waiting position. refl };
  word = λ rows pending position. refl;
  word_fault_is = λ rows pending position. refl;
  value_is = λ rows position text plain. plain_walked (leaf (line.searching name)).rules rows (Some (codes "entries", [])) (option (codes "entries")) (open_option (codes "entries")) position text plain;
  value_fault = λ rows position text plain. plain_turn_fault (leaf (line.searching name)) rows (Some (codes "entries", [])) (option (codes "entries")) (open_option (codes "entries")) position text plain;
}

synth_workers : (name : Text) → OptionSteps (leaf (line.searching name)) (codes "workers")
unfolding clap_on_literals
synth_workers name = record {
  settles = record { rows = λ text rows. refl; fault = λ text rows waiting position. refl };
  word = λ rows pending position. refl;
  word_fault_is = λ rows pending position. refl;
  value_is = λ rows position text plain. plain_walked (leaf (line.searching name)).rules rows (Some (codes "workers", [])) (option (codes "workers")) (open_option (codes "workers")) position text plain;
  value_fault = λ rows position text plain. plain_turn_fault (leaf (line.searching name)) rows (Some (codes "workers", [])) (option (codes "workers")) (open_option (codes "workers")) position text plain;
}

synth_counts : (name : Text) → OptionSteps (leaf (line.searching name)) (codes "counts")
unfolding clap_on_literals
synth_counts name = record {
  settles = record { rows = λ text rows. refl; fault = λ text rows waiting position. refl };
  word = λ rows pending position. refl;
  word_fault_is = λ rows pending position. refl;
  value_is = λ rows position text plain. plain_walked (leaf (line.searching name)).rules rows (Some (codes "counts", [])) (option (codes "counts")) (open_option (codes "counts")) position text plain;
  value_fault = λ rows position text plain. plain_turn_fault (leaf (line.searching name)) rows (Some (codes "counts", [])) (option (codes "counts")) (open_option (codes "counts")) position text plain;
}

synth_kind : (name : Text) → OptionSteps (leaf (line.searching name)) (codes "kind")
unfolding clap_on_literals
synth_kind name = record {
  settles = record { rows = λ text rows. refl; fault = λ text rows waiting position. refl };
  word = λ rows pending position. refl;
  word_fault_is = λ rows pending position. refl;
  value_is = λ rows position text plain. plain_walked (leaf (line.searching name)).rules rows (Some (codes "kind", [])) (option (codes "kind")) (open_option (codes "kind")) position text plain;
  value_fault = λ rows position text plain. plain_turn_fault (leaf (line.searching name)) rows (Some (codes "kind", [])) (option (codes "kind")) (open_option (codes "kind")) position text plain;
}

bench_workers : OptionSteps (leaf line.bench) (codes "workers")
unfolding clap_on_literals
bench_workers = record {
  settles = record { rows = λ text rows. refl; fault = λ text rows waiting position. refl };
  word = λ rows pending position. refl;
  word_fault_is = λ rows pending position. refl;
  value_is = λ rows position text plain. plain_walked (leaf line.bench).rules rows (Some (codes "workers", [])) (option (codes "workers")) (open_option (codes "workers")) position text plain;
  value_fault = λ rows position text plain. plain_turn_fault (leaf line.bench) rows (Some (codes "workers", [])) (option (codes "workers")) (open_option (codes "workers")) position text plain;
}

batch_max : OptionSteps (leaf line.batch) (codes "max")
unfolding clap_on_literals
batch_max = record {
  settles = record { rows = λ text rows. refl; fault = λ text rows waiting position. refl };
  word = λ rows pending position. refl;
  word_fault_is = λ rows pending position. refl;
  value_is = λ rows position text plain. plain_walked (leaf line.batch).rules rows (Some (codes "max", [])) (option (codes "max")) (open_option (codes "max")) position text plain;
  value_fault = λ rows position text plain. plain_turn_fault (leaf line.batch) rows (Some (codes "max", [])) (option (codes "max")) (open_option (codes "max")) position text plain;
}

batch_entries : OptionSteps (leaf line.batch) (codes "entries")
unfolding clap_on_literals
batch_entries = record {
  settles = record { rows = λ text rows. refl; fault = λ text rows waiting position. refl };
  word = λ rows pending position. refl;
  word_fault_is = λ rows pending position. refl;
  value_is = λ rows position text plain. plain_walked (leaf line.batch).rules rows (Some (codes "entries", [])) (option (codes "entries")) (open_option (codes "entries")) position text plain;
  value_fault = λ rows position text plain. plain_turn_fault (leaf line.batch) rows (Some (codes "entries", [])) (option (codes "entries")) (open_option (codes "entries")) position text plain;
}

batch_workers : OptionSteps (leaf line.batch) (codes "workers")
unfolding clap_on_literals
batch_workers = record {
  settles = record { rows = λ text rows. refl; fault = λ text rows waiting position. refl };
  word = λ rows pending position. refl;
  word_fault_is = λ rows pending position. refl;
  value_is = λ rows position text plain. plain_walked (leaf line.batch).rules rows (Some (codes "workers", [])) (option (codes "workers")) (open_option (codes "workers")) position text plain;
  value_fault = λ rows position text plain. plain_turn_fault (leaf line.batch) rows (Some (codes "workers", [])) (option (codes "workers")) (open_option (codes "workers")) position text plain;
}

batch_counts : OptionSteps (leaf line.batch) (codes "counts")
unfolding clap_on_literals
batch_counts = record {
  settles = record { rows = λ text rows. refl; fault = λ text rows waiting position. refl };
  word = λ rows pending position. refl;
  word_fault_is = λ rows pending position. refl;
  value_is = λ rows position text plain. plain_walked (leaf line.batch).rules rows (Some (codes "counts", [])) (option (codes "counts")) (open_option (codes "counts")) position text plain;
  value_fault = λ rows position text plain. plain_turn_fault (leaf line.batch) rows (Some (codes "counts", [])) (option (codes "counts")) (open_option (codes "counts")) position text plain;
}

batch_kind : OptionSteps (leaf line.batch) (codes "kind")
unfolding clap_on_literals
batch_kind = record {
  settles = record { rows = λ text rows. refl; fault = λ text rows waiting position. refl };
  word = λ rows pending position. refl;
  word_fault_is = λ rows pending position. refl;
  value_is = λ rows position text plain. plain_walked (leaf line.batch).rules rows (Some (codes "kind", [])) (option (codes "kind")) (open_option (codes "kind")) position text plain;
  value_fault = λ rows position text plain. plain_turn_fault (leaf line.batch) rows (Some (codes "kind", [])) (option (codes "kind")) (open_option (codes "kind")) position text plain;
}

batch_solve : OptionSteps (leaf line.batch) (codes "solve")
unfolding clap_on_literals
batch_solve = record {
  settles = record { rows = λ text rows. refl; fault = λ text rows waiting position. refl };
  word = λ rows pending position. refl;
  word_fault_is = λ rows pending position. refl;
  value_is = λ rows position text plain. plain_walked (leaf line.batch).rules rows (Some (codes "solve", [])) (option (codes "solve")) (open_option (codes "solve")) position text plain;
  value_fault = λ rows position text plain. plain_turn_fault (leaf line.batch) rows (Some (codes "solve", [])) (option (codes "solve")) (open_option (codes "solve")) position text plain;
}

solve_max : OptionSteps (leaf line.solve) (codes "max")
unfolding clap_on_literals
solve_max = record {
  settles = record { rows = λ text rows. refl; fault = λ text rows waiting position. refl };
  word = λ rows pending position. refl;
  word_fault_is = λ rows pending position. refl;
  value_is = λ rows position text plain. plain_walked (leaf line.solve).rules rows (Some (codes "max", [])) (option (codes "max")) (open_option (codes "max")) position text plain;
  value_fault = λ rows position text plain. plain_turn_fault (leaf line.solve) rows (Some (codes "max", [])) (option (codes "max")) (open_option (codes "max")) position text plain;
}

solve_entries : OptionSteps (leaf line.solve) (codes "entries")
unfolding clap_on_literals
solve_entries = record {
  settles = record { rows = λ text rows. refl; fault = λ text rows waiting position. refl };
  word = λ rows pending position. refl;
  word_fault_is = λ rows pending position. refl;
  value_is = λ rows position text plain. plain_walked (leaf line.solve).rules rows (Some (codes "entries", [])) (option (codes "entries")) (open_option (codes "entries")) position text plain;
  value_fault = λ rows position text plain. plain_turn_fault (leaf line.solve) rows (Some (codes "entries", [])) (option (codes "entries")) (open_option (codes "entries")) position text plain;
}

solve_workers : OptionSteps (leaf line.solve) (codes "workers")
unfolding clap_on_literals
solve_workers = record {
  settles = record { rows = λ text rows. refl; fault = λ text rows waiting position. refl };
  word = λ rows pending position. refl;
  word_fault_is = λ rows pending position. refl;
  value_is = λ rows position text plain. plain_walked (leaf line.solve).rules rows (Some (codes "workers", [])) (option (codes "workers")) (open_option (codes "workers")) position text plain;
  value_fault = λ rows position text plain. plain_turn_fault (leaf line.solve) rows (Some (codes "workers", [])) (option (codes "workers")) (open_option (codes "workers")) position text plain;
}

solve_kind : OptionSteps (leaf line.solve) (codes "kind")
unfolding clap_on_literals
solve_kind = record {
  settles = record { rows = λ text rows. refl; fault = λ text rows waiting position. refl };
  word = λ rows pending position. refl;
  word_fault_is = λ rows pending position. refl;
  value_is = λ rows position text plain. plain_walked (leaf line.solve).rules rows (Some (codes "kind", [])) (option (codes "kind")) (open_option (codes "kind")) position text plain;
  value_fault = λ rows position text plain. plain_turn_fault (leaf line.solve) rows (Some (codes "kind", [])) (option (codes "kind")) (open_option (codes "kind")) position text plain;
}

batch_seconds : OptionSteps (leaf line.batch) (codes "seconds")
unfolding clap_on_literals
batch_seconds = record {
  settles = record { rows = λ text rows. refl; fault = λ text rows waiting position. refl };
  word = λ rows pending position. refl;
  word_fault_is = λ rows pending position. refl;
  value_is = λ rows position text plain. plain_walked (leaf line.batch).rules rows (Some (codes "seconds", [])) (option (codes "seconds")) (open_option (codes "seconds")) position text plain;
  value_fault = λ rows position text plain. plain_turn_fault (leaf line.batch) rows (Some (codes "seconds", [])) (option (codes "seconds")) (open_option (codes "seconds")) position text plain;
}

solve_seconds : OptionSteps (leaf line.solve) (codes "seconds")
unfolding clap_on_literals
solve_seconds = record {
  settles = record { rows = λ text rows. refl; fault = λ text rows waiting position. refl };
  word = λ rows pending position. refl;
  word_fault_is = λ rows pending position. refl;
  value_is = λ rows position text plain. plain_walked (leaf line.solve).rules rows (Some (codes "seconds", [])) (option (codes "seconds")) (open_option (codes "seconds")) position text plain;
  value_fault = λ rows position text plain. plain_turn_fault (leaf line.solve) rows (Some (codes "seconds", [])) (option (codes "seconds")) (open_option (codes "seconds")) position text plain;
}

synth_spec_settles : (name : Text) → Settles (leaf (line.searching name)) (codes "spec")
unfolding clap_on_literals
synth_spec_settles name = record { rows = λ text rows. refl; fault = λ text rows waiting position. refl }

check_certificate_settles : Settles (leaf line.check) (codes "certificate")
unfolding clap_on_literals
check_certificate_settles = record { rows = λ text rows. refl; fault = λ text rows waiting position. refl }

gen_clients_settles : Settles (leaf line.gen) (codes "clients")
unfolding clap_on_literals
gen_clients_settles = record { rows = λ text rows. refl; fault = λ text rows waiting position. refl }

bench_clients_settles : Settles (leaf line.bench) (codes "clients")
unfolding clap_on_literals
bench_clients_settles = record { rows = λ text rows. refl; fault = λ text rows waiting position. refl }

batch_list_settles : Settles (leaf line.batch) (codes "list")
unfolding clap_on_literals
batch_list_settles = record { rows = λ text rows. refl; fault = λ text rows waiting position. refl }

solve_spec_settles : Settles (leaf line.solve) (codes "spec")
unfolding clap_on_literals
solve_spec_settles = record { rows = λ text rows. refl; fault = λ text rows waiting position. refl }

synth_met : IsMet (codes "synth")
unfolding clap_on_literals
synth_met = record { walk_is = refl; no_fault = refl }

check_met : IsMet (codes "check")
unfolding clap_on_literals
check_met = record { walk_is = refl; no_fault = refl }

gen_met : IsMet (codes "gen")
unfolding clap_on_literals
gen_met = record { walk_is = refl; no_fault = refl }

bench_met : IsMet (codes "bench")
unfolding clap_on_literals
bench_met = record { walk_is = refl; no_fault = refl }

core_met : IsMet (codes "core")
unfolding clap_on_literals
core_met = record { walk_is = refl; no_fault = refl }

batch_met : IsMet (codes "batch")
unfolding clap_on_literals
batch_met = record { walk_is = refl; no_fault = refl }

solve_met : IsMet (codes "solve")
unfolding clap_on_literals
solve_met = record { walk_is = refl; no_fault = refl }

synth_steps : (name id : Text) → IsAmong id synth_options → OptionSteps (leaf (line.searching name)) id
synth_steps name id (inl e) = subst (OptionSteps (leaf (line.searching name))) (sym e) (synth_max name)
synth_steps name id (inr (inl e)) = subst (OptionSteps (leaf (line.searching name))) (sym e) (synth_entries name)
synth_steps name id (inr (inr (inl e))) = subst (OptionSteps (leaf (line.searching name))) (sym e) (synth_workers name)
synth_steps name id (inr (inr (inr (inl e)))) = subst (OptionSteps (leaf (line.searching name))) (sym e) (synth_counts name)
synth_steps name id (inr (inr (inr (inr (inl e))))) = subst (OptionSteps (leaf (line.searching name))) (sym e) (synth_kind name)
synth_steps name id (inr (inr (inr (inr (inr bad))))) = absurd bad

bench_steps : (id : Text) → IsAmong id bench_options → OptionSteps (leaf line.bench) id
bench_steps id (inl e) = subst (OptionSteps (leaf line.bench)) (sym e) bench_workers
bench_steps id (inr bad) = absurd bad

batch_steps : (id : Text) → IsAmong id batch_options → OptionSteps (leaf line.batch) id
batch_steps id (inl e) = subst (OptionSteps (leaf line.batch)) (sym e) batch_max
batch_steps id (inr (inl e)) = subst (OptionSteps (leaf line.batch)) (sym e) batch_entries
batch_steps id (inr (inr (inl e))) = subst (OptionSteps (leaf line.batch)) (sym e) batch_workers
batch_steps id (inr (inr (inr (inl e)))) = subst (OptionSteps (leaf line.batch)) (sym e) batch_counts
batch_steps id (inr (inr (inr (inr (inl e))))) = subst (OptionSteps (leaf line.batch)) (sym e) batch_kind
batch_steps id (inr (inr (inr (inr (inr (inl e)))))) = subst (OptionSteps (leaf line.batch)) (sym e) batch_seconds
batch_steps id (inr (inr (inr (inr (inr (inr (inl e))))))) = subst (OptionSteps (leaf line.batch)) (sym e) batch_solve
batch_steps id (inr (inr (inr (inr (inr (inr (inr bad))))))) = absurd bad

solve_steps : (id : Text) → IsAmong id solve_options → OptionSteps (leaf line.solve) id
solve_steps id (inl e) = subst (OptionSteps (leaf line.solve)) (sym e) solve_max
solve_steps id (inr (inl e)) = subst (OptionSteps (leaf line.solve)) (sym e) solve_entries
solve_steps id (inr (inr (inl e))) = subst (OptionSteps (leaf line.solve)) (sym e) solve_workers
solve_steps id (inr (inr (inr (inl e)))) = subst (OptionSteps (leaf line.solve)) (sym e) solve_kind
solve_steps id (inr (inr (inr (inr (inl e))))) = subst (OptionSteps (leaf line.solve)) (sym e) solve_seconds
solve_steps id (inr (inr (inr (inr (inr bad))))) = absurd bad

synth_different : (id : Text) → IsAmong id synth_options → bytes_eq (codes "spec") id ≡ false
synth_different id (inl e) = ap (bytes_eq (codes "spec")) e
synth_different id (inr (inl e)) = ap (bytes_eq (codes "spec")) e
synth_different id (inr (inr (inl e))) = ap (bytes_eq (codes "spec")) e
synth_different id (inr (inr (inr (inl e)))) = ap (bytes_eq (codes "spec")) e
synth_different id (inr (inr (inr (inr (inl e))))) = ap (bytes_eq (codes "spec")) e
synth_different id (inr (inr (inr (inr (inr bad))))) = absurd bad

bench_different : (id : Text) → IsAmong id bench_options → bytes_eq (codes "clients") id ≡ false
bench_different id (inl e) = ap (bytes_eq (codes "clients")) e
bench_different id (inr bad) = absurd bad

batch_different : (id : Text) → IsAmong id batch_options → bytes_eq (codes "list") id ≡ false
batch_different id (inl e) = ap (bytes_eq (codes "list")) e
batch_different id (inr (inl e)) = ap (bytes_eq (codes "list")) e
batch_different id (inr (inr (inl e))) = ap (bytes_eq (codes "list")) e
batch_different id (inr (inr (inr (inl e)))) = ap (bytes_eq (codes "list")) e
batch_different id (inr (inr (inr (inr (inl e))))) = ap (bytes_eq (codes "list")) e
batch_different id (inr (inr (inr (inr (inr (inl e)))))) = ap (bytes_eq (codes "list")) e
batch_different id (inr (inr (inr (inr (inr (inr (inl e))))))) = ap (bytes_eq (codes "list")) e
batch_different id (inr (inr (inr (inr (inr (inr (inr bad))))))) = absurd bad

solve_different : (id : Text) → IsAmong id solve_options → bytes_eq (codes "spec") id ≡ false
solve_different id (inl e) = ap (bytes_eq (codes "spec")) e
solve_different id (inr (inl e)) = ap (bytes_eq (codes "spec")) e
solve_different id (inr (inr (inl e))) = ap (bytes_eq (codes "spec")) e
solve_different id (inr (inr (inr (inl e)))) = ap (bytes_eq (codes "spec")) e
solve_different id (inr (inr (inr (inr (inl e))))) = ap (bytes_eq (codes "spec")) e
solve_different id (inr (inr (inr (inr (inr bad))))) = absurd bad

synth_read : (program spec : Text) (options : List Item) → IsTrue (is_plain spec) → AreOptions synth_options [] options →
    settings_of (program ∷ codes "synth" ∷ spec ∷ option_words options) ≡ command_asked (codes "synth") (given_by (item (codes "spec") spec ∷ options))
unfolding clap_on_literals
synth_read program spec options plain are =
    let s = leaf line.synth in
    let end = options_end s synth_options (synth_steps (codes "synth")) [] (item (codes "spec") spec) 2 (options) refl (synth_spec_settles (codes "synth")) (behind_name (item (codes "spec") spec) synth_options synth_different [] options are) in
    let all = after_name s (walk_from nothing_held) (after [] (item (codes "spec") spec) 2) spec (option_words options) (item (codes "spec") spec ∷ options) 2
    (plain_walked s.rules [] None idle open_idle 1 spec plain) (plain_turn_fault s [] None idle open_idle 1 spec plain) end in
    read_command program (codes "synth") s (spec ∷ option_words options) (item (codes "spec") spec ∷ options) synth_met refl refl (leaf_reads s (spec ∷ option_words options) (item (codes "spec") spec ∷ options) 2 all (refl, (refl, (refl, (refl, (refl, (refl, tt)))))) refl)

check_read : (program spec certificate : Text) → IsTrue (is_plain spec) → IsTrue (is_plain certificate) →
    settings_of (program ∷ codes "check" ∷ spec ∷ certificate ∷ []) ≡ command_asked (codes "check") (given_by (item (codes "spec") spec ∷ item (codes "certificate") certificate ∷ []))
unfolding clap_on_literals
check_read program spec certificate first_plain second_plain =
    let s = leaf line.check in
    let end = options_end s [] (λ id bad. absurd bad) (item (codes "spec") spec ∷ []) (item (codes "certificate") certificate) 3 [] refl check_certificate_settles tt in
    let second = after_name s (after [] (item (codes "spec") spec) 2) (after (item (codes "spec") spec ∷ []) (item (codes "certificate") certificate) 3) certificate [] (item (codes "spec") spec ∷ item (codes "certificate") certificate ∷ []) 3
    (plain_walked s.rules [] (Some (codes "spec", spec ∷ [])) idle open_idle 2 certificate second_plain) (plain_turn_fault s [] (Some (codes "spec", spec ∷ [])) idle open_idle 2 certificate second_plain) end in
    let all = after_name s (walk_from nothing_held) (after [] (item (codes "spec") spec) 2) spec (certificate ∷ []) (item (codes "spec") spec ∷ item (codes "certificate") certificate ∷ []) 3
    (plain_walked s.rules [] None idle open_idle 1 spec first_plain) (plain_turn_fault s [] None idle open_idle 1 spec first_plain) second in
    read_command program (codes "check") s (spec ∷ certificate ∷ []) (item (codes "spec") spec ∷ item (codes "certificate") certificate ∷ []) check_met refl refl (leaf_reads s (spec ∷ certificate ∷ []) (item (codes "spec") spec ∷ item (codes "certificate") certificate ∷ []) 3 all (refl, (refl, tt)) refl)

gen_read : (program clients : Text) → IsTrue (is_plain clients) →
    settings_of (program ∷ codes "gen" ∷ clients ∷ []) ≡ command_asked (codes "gen") (given_by (item (codes "clients") clients ∷ []))
unfolding clap_on_literals
gen_read program clients plain =
    let s = leaf line.gen in
    let end = options_end s [] (λ id bad. absurd bad) [] (item (codes "clients") clients) 2 ([]) refl gen_clients_settles tt in
    let all = after_name s (walk_from nothing_held) (after [] (item (codes "clients") clients) 2) clients ([]) (item (codes "clients") clients ∷ []) 2
    (plain_walked s.rules [] None idle open_idle 1 clients plain) (plain_turn_fault s [] None idle open_idle 1 clients plain) end in
    read_command program (codes "gen") s (clients ∷ []) (item (codes "clients") clients ∷ []) gen_met refl refl (leaf_reads s (clients ∷ []) (item (codes "clients") clients ∷ []) 2 all (refl, tt) refl)

bench_read : (program clients : Text) (options : List Item) → IsTrue (is_plain clients) → AreOptions bench_options [] options →
    settings_of (program ∷ codes "bench" ∷ clients ∷ option_words options) ≡ command_asked (codes "bench") (given_by (item (codes "clients") clients ∷ options))
unfolding clap_on_literals
bench_read program clients options plain are =
    let s = leaf line.bench in
    let end = options_end s bench_options bench_steps [] (item (codes "clients") clients) 2 (options) refl bench_clients_settles (behind_name (item (codes "clients") clients) bench_options bench_different [] options are) in
    let all = after_name s (walk_from nothing_held) (after [] (item (codes "clients") clients) 2) clients (option_words options) (item (codes "clients") clients ∷ options) 2
    (plain_walked s.rules [] None idle open_idle 1 clients plain) (plain_turn_fault s [] None idle open_idle 1 clients plain) end in
    read_command program (codes "bench") s (clients ∷ option_words options) (item (codes "clients") clients ∷ options) bench_met refl refl (leaf_reads s (clients ∷ option_words options) (item (codes "clients") clients ∷ options) 2 all (refl, (refl, tt)) refl)

core_read : (program spec : Text) (options : List Item) → IsTrue (is_plain spec) → AreOptions synth_options [] options →
    settings_of (program ∷ codes "core" ∷ spec ∷ option_words options) ≡ command_asked (codes "core") (given_by (item (codes "spec") spec ∷ options))
unfolding clap_on_literals
core_read program spec options plain are =
    let s = leaf line.core in
    let end = options_end s synth_options (synth_steps (codes "core")) [] (item (codes "spec") spec) 2 (options) refl (synth_spec_settles (codes "core")) (behind_name (item (codes "spec") spec) synth_options synth_different [] options are) in
    let all = after_name s (walk_from nothing_held) (after [] (item (codes "spec") spec) 2) spec (option_words options) (item (codes "spec") spec ∷ options) 2
    (plain_walked s.rules [] None idle open_idle 1 spec plain) (plain_turn_fault s [] None idle open_idle 1 spec plain) end in
    read_command program (codes "core") s (spec ∷ option_words options) (item (codes "spec") spec ∷ options) core_met refl refl (leaf_reads s (spec ∷ option_words options) (item (codes "spec") spec ∷ options) 2 all (refl, (refl, (refl, (refl, (refl, (refl, tt)))))) refl)

batch_read : (program list : Text) (options : List Item) → IsTrue (is_plain list) → AreOptions batch_options [] options →
    settings_of (program ∷ codes "batch" ∷ list ∷ option_words options) ≡ command_asked (codes "batch") (given_by (item (codes "list") list ∷ options))
unfolding clap_on_literals
batch_read program list options plain are =
    let s = leaf line.batch in
    let end = options_end s batch_options batch_steps [] (item (codes "list") list) 2 (options) refl batch_list_settles (behind_name (item (codes "list") list) batch_options batch_different [] options are) in
    let all = after_name s (walk_from nothing_held) (after [] (item (codes "list") list) 2) list (option_words options) (item (codes "list") list ∷ options) 2
    (plain_walked s.rules [] None idle open_idle 1 list plain) (plain_turn_fault s [] None idle open_idle 1 list plain) end in
    read_command program (codes "batch") s (list ∷ option_words options) (item (codes "list") list ∷ options) batch_met refl refl (leaf_reads s (list ∷ option_words options) (item (codes "list") list ∷ options) 2 all (refl, (refl, (refl, (refl, (refl, (refl, (refl, (refl, tt)))))))) refl)

solve_list_read : (program list : Text) (options : List Item) → IsTrue (is_plain list) → AreOptions batch_options (item (codes "solve") list ∷ []) options →
    settings_of (program ∷ codes "batch" ∷ codes "--solve" ∷ list ∷ option_words options) ≡ command_asked (codes "batch") (given_by (item (codes "solve") list ∷ options))
unfolding clap_on_literals
solve_list_read program list options plain are =
    let s = leaf line.batch in
    let named = option (codes "solve") in
    let opened = at [] (Some (codes "solve", [])) named 1 in
    let given = after [] (item (codes "solve") list) 1 in
    let all = item (codes "solve") list ∷ options in
    let end = options_end s batch_options batch_steps [] (item (codes "solve") list) 1 options refl batch_solve.settles are in
    let valued = after_name s opened given list (option_words options) all 1 (batch_solve.value_is [] 1 list plain) (batch_solve.value_fault [] 1 list plain) end in
    let whole_end = after_name s (walk_from nothing_held) opened (codes "--solve") (list ∷ option_words options) all 1
    (batch_solve.word [] None 1) (batch_solve.word_fault_is [] None 1) valued in
    read_command program (codes "batch") s (codes "--solve" ∷ list ∷ option_words options) all batch_met refl refl
    (leaf_reads s (codes "--solve" ∷ list ∷ option_words options) all 1 whole_end (refl, (refl, (refl, (refl, (refl, (refl, (refl, (refl, tt)))))))) refl)

solve_read : (program spec : Text) (options : List Item) → IsTrue (is_plain spec) → AreOptions solve_options [] options →
    settings_of (program ∷ codes "solve" ∷ spec ∷ option_words options) ≡ command_asked (codes "solve") (given_by (item (codes "spec") spec ∷ options))
unfolding clap_on_literals
solve_read program spec options plain are =
    let s = leaf line.solve in
    let end = options_end s solve_options solve_steps [] (item (codes "spec") spec) 2 (options) refl solve_spec_settles (behind_name (item (codes "spec") spec) solve_options solve_different [] options are) in
    let all = after_name s (walk_from nothing_held) (after [] (item (codes "spec") spec) 2) spec (option_words options) (item (codes "spec") spec ∷ options) 2
    (plain_walked s.rules [] None idle open_idle 1 spec plain) (plain_turn_fault s [] None idle open_idle 1 spec plain) end in
    read_command program (codes "solve") s (spec ∷ option_words options) (item (codes "spec") spec ∷ options) solve_met refl refl (leaf_reads s (spec ∷ option_words options) (item (codes "spec") spec ∷ options) 2 all (refl, (refl, (refl, (refl, (refl, (refl, tt)))))) refl)

pub plain_words_are_read : PlainWordsAreRead
plain_words_are_read = record {
  synth_words = synth_read;
  check_words = check_read;
  expand_words = flags.expand_read;
  expand_solve_words = flags.expand_solve_read;
  expand_kind_words = flags.expand_kind_read;
  expand_nodes_words = flags.expand_nodes_read;
  expand_kind_nodes_words = flags.expand_kind_nodes_read;
  lasso_words = flags.lasso_read;
  lasso_solve_words = flags.lasso_solve_read;
  lasso_kind_words = flags.lasso_kind_read;
  gen_words = gen_read;
  bench_words = bench_read;
  verify_words = flags.verify_read;
  verify_kind_words = flags.verify_kind_read;
  environment_words = flags.environment_read;
  environment_kind_words = flags.environment_kind_read;
  core_words = core_read;
  batch_words = batch_read;
  solve_list_words = solve_list_read;
  solve_words = solve_read;
}
