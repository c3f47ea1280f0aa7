-- The words before a command's own, and what a command reads.
use Rattle.std.proofs.Common.{◌≡◌, ◌==◌, ◌||◌, ℕ, Bool, true, false, List, [], ◌∷◌, ◌++◌, Option, Some, None, refl, sym, ap, ap₂, ◌∙◌, append-nil, append_assoc, codes, IsTrue, length}
use Rattle.std.specs.Prelude.{fold, find, option_map, option_and_then, slice_get, is_some, if◌then◌else◌}
use Rattle.std.specs.Str.{bytes_eq}
use Rattle.clap.specs.Faults.{check_fault, defaults_fault, entered_fault, fault_of, level_fault, settle_fault, turn_fault, walk_fault}
use Rattle.clap.specs.Kinds.{Kinds, or_else}
use Rattle.clap.specs.Simple.{App, Shape, built, built_leaf, entered, inherited, names_of, subcommand_of}
use Rattle.clap.specs.Walk.{Held, Row, Text, Walk, finished, idle, nothing_held, rows_after, settled, settled_rows, walk, walk_from, walked, with_default}
use Rattle.program_words.specs.CommandLine as line
use Rattle.program_words.specs.Plain.{Item, AreOptions, IsAmong, given_by, has_item}
use Rattle.program_words.specs.Settings.{Asked, asked_of, command_asked, given_in, settings_of}
use Rattle.program_words.proofs.PlainSteps.{HaveNoDefaults, defaults_fault_none, finished_none, row_of_item, rows_of_items}
use Rattle.program_words.proofs.PlainWalks.{EndsAt, after, settled_fault, settled_one}

-- ---- what is given

pub given_at : (items : List Item) (id : Text) → given_in (rows_of_items items) id ≡ given_by items id
given_at [] id = refl
given_at (x ∷ items) id = by (bytes_eq x.id id) (given_at items id)
  where
    by : (b : Bool) → given_in (rows_of_items items) id ≡ given_by items id → option_and_then (λ (r : Row). slice_get r.values 0) (if b then Some (row_of_item x) else find (λ (r : Row). bytes_eq r.id id) (rows_of_items items))
        ≡ option_map (λ (y : Item). y.text) (if b then Some x else find (λ (y : Item). bytes_eq y.id id) items)
    by true later = refl
    by false later = later

pub given_same : (items : List Item) → given_in (rows_of_items items) ≡ given_by items
given_same items = λ i id. given_at items id i

-- ---- a command's own words

abbrev pub leaf : Shape → Shape
leaf s = built_leaf (inherited line.program.top s)

pub record LeafReads (s : Shape) (words : List Text) (items : List Item) : Type 0 where
  pub rows : rows_after s.rules [] words ≡ rows_of_items items
  pub no_fault : level_fault s [] nothing_held words false [] ≡ []

abbrev pub leaf_level : Shape → Kinds → Held → Kinds
leaf_level s k end =
    or_else k (or_else [] (or_else (settle_fault s.rules s.args_override_self end)
    (or_else (defaults_fault (settled s.rules end).rows s.rules) (check_fault s (finished s.rules end) false))))

pub leaf_reads : (s : Shape) (words : List Text) (items : List Item) (position : ℕ) → EndsAt s (walk_from nothing_held) words items position →
    HaveNoDefaults s.rules → check_fault s (rows_of_items items) false ≡ [] → LeafReads s words items
leaf_reads s words items position end none checks =
    let settles : settled_rows s.rules (Some (end.last.id, end.last.text ∷ [])) (rows_of_items end.done) ≡ rows_of_items items =
    settled_one s end.done end.last end.settles end.new ∙ ap rows_of_items end.all_are in
    let finishes : finished s.rules (after end.done end.last position).held ≡ rows_of_items items = finished_none s.rules _ none ∙ settles in
    record {
      rows = ap (λ (w : Walk). finished s.rules w.held) end.walk_is ∙ finishes;
      no_fault =
          ap₂ (λ k (w : Walk). leaf_level s k w.held) end.no_fault end.walk_is
          ∙ ap (λ k. or_else k (or_else (defaults_fault (settled s.rules (after end.done end.last position).held).rows s.rules) (check_fault s (finished s.rules (after end.done end.last position).held) false)))
          (settled_fault s end.done end.last position end.settles end.new)
          ∙ ap₂ or_else (defaults_fault_none s.rules _ none) (ap (λ rows. check_fault s rows false) finishes ∙ checks);
    }

-- one word, and then the others
pub after_name : (s : Shape) (start mid : Walk) (word : Text) (words : List Text) (all : List Item) (position : ℕ) → walked s.rules [] start word ≡ mid → turn_fault s [] start word ≡ [] →
    EndsAt s mid words all position → EndsAt s start (word ∷ words) all position
unfolding walk_fault
after_name s start mid word words all position step fault end = record {
  done = end.done;
  last = end.last;
  all_are = end.all_are;
  new = end.new;
  settles = end.settles;
  walk_is = ap (λ w. fold (walked s.rules []) w words) step ∙ end.walk_is;
  no_fault = ap₂ or_else fault (ap (λ w. walk_fault s [] w words) step ∙ end.no_fault);
}

pub behind_name : (name : Item) (known : List Text) → ((id : Text) → IsAmong id known → bytes_eq name.id id ≡ false) → (seen options : List Item) →
    AreOptions known seen options → AreOptions known (name ∷ seen) options
behind_name name known different seen [] are = tt
behind_name name known different seen (o ∷ more) are =
    (are.0, are.1, ap (λ b. b || has_item o.id seen) (different o.id are.0) ∙ are.2, behind_name name known different (seen ++ o ∷ []) more are.3)

-- ---- the words before them

abbrev pub whole : App
whole = built line.program

abbrev pub met : Text → List Text → Walk
met command words = record {
  held = nothing_held;
  waiting = idle;
  position = 1;
  is_trailing = false;
  stopped = Some (command, words);
}

pub met_walk : (command : Text) (words rest : List Text) → fold (walked whole.top.rules (names_of whole)) (met command words) rest ≡ met command (words ++ rest)
unfolding walked
met_walk command words [] = ap (met command) (sym (append-nil words))
met_walk command words (word ∷ rest) = met_walk command (words ++ word ∷ []) rest ∙ ap (met command) (append_assoc words (word ∷ []) rest)

pub met_fault : (command : Text) (words rest : List Text) → walk_fault whole.top (names_of whole) (met command words) rest ≡ []
unfolding walked walk_fault
met_fault command words [] = refl
met_fault command words (word ∷ rest) = met_fault command (words ++ word ∷ []) rest

abbrev pub whole_level : Kinds → Walk → Kinds
whole_level k w =
    or_else k (or_else (entered_fault whole w.stopped) (or_else (settle_fault whole.top.rules whole.top.args_override_self w.held)
    (or_else (defaults_fault (settled whole.top.rules w.held).rows whole.top.rules)
    (check_fault whole.top (finished whole.top.rules w.held) (is_some (entered whole w.stopped))))))

-- the command's first word is met
pub record IsMet (command : Text) : Type 0 where
  pub walk_is : walked whole.top.rules (names_of whole) (walk_from nothing_held) command ≡ met command []
  pub no_fault : turn_fault whole.top (names_of whole) (walk_from nothing_held) command ≡ []

pub record ProgramReads (program command : Text) (rest : List Text) : Type 0 where
  pub fault : fault_of line.program (program ∷ command ∷ rest) ≡ whole_level [] (met command rest)
  pub matches : subcommand_of line.program (program ∷ command ∷ rest) ≡ entered whole (Some (command, rest))

pub program_reads : (program command : Text) (rest : List Text) → IsMet command → ProgramReads program command rest
unfolding walk_fault
program_reads program command rest is_met =
    let whole_walk : walk whole.top.rules (names_of whole) nothing_held (command ∷ rest) ≡ met command rest =
    ap (λ w. fold (walked whole.top.rules (names_of whole)) w rest) is_met.walk_is ∙ met_walk command [] rest in
    let no_fault : walk_fault whole.top (names_of whole) (walk_from nothing_held) (command ∷ rest) ≡ [] =
    ap₂ or_else is_met.no_fault (ap (λ w. walk_fault whole.top (names_of whole) w rest) is_met.walk_is ∙ met_fault command [] rest) in
    record {
      fault = ap₂ whole_level no_fault whole_walk;
      matches = ap (λ (w : Walk). entered whole w.stopped) whole_walk;
    }

abbrev pub asked : Kinds → Option (Text × List Row) → Option Asked
asked k m = if length k == 0 then asked_of m else None

pub read_command : (program command : Text) (s : Shape) (rest : List Text) (items : List Item) → IsMet command →
    whole_level [] (met command rest) ≡ or_else (level_fault s [] nothing_held rest false []) [] →
    entered whole (Some (command, rest)) ≡ Some (command, rows_after s.rules [] rest) →
    LeafReads s rest items → settings_of (program ∷ command ∷ rest) ≡ command_asked command (given_by items)
read_command program command s rest items is_met fault matches reads =
    let outer = program_reads program command rest is_met in
    ap₂ asked (outer.fault ∙ fault ∙ ap (λ k. or_else k []) reads.no_fault) (outer.matches ∙ matches ∙ ap (λ rows. Some (command, rows)) reads.rows)
    ∙ ap (command_asked command) (given_same items)

-- what a command with a flag, which has a default, reads
pub record RowsRead (s : Shape) (words : List Text) (rows : List Row) : Type 0 where
  pub rows_are : rows_after s.rules [] words ≡ rows
  pub no_fault : level_fault s [] nothing_held words false [] ≡ []

pub rows_read : (s : Shape) (words : List Text) (items : List Item) (position : ℕ) (rows : List Row) → EndsAt s (walk_from nothing_held) words items position →
    fold with_default (rows_of_items items) s.rules ≡ rows → defaults_fault (rows_of_items items) s.rules ≡ [] → check_fault s rows false ≡ [] → RowsRead s words rows
rows_read s words items position rows end filled defaults checks =
    let settles : settled_rows s.rules (Some (end.last.id, end.last.text ∷ [])) (rows_of_items end.done) ≡ rows_of_items items =
    settled_one s end.done end.last end.settles end.new ∙ ap rows_of_items end.all_are in
    let finishes : finished s.rules (after end.done end.last position).held ≡ rows = ap (λ (xs : List Row). fold with_default xs s.rules) settles ∙ filled in
    record {
      rows_are = ap (λ (w : Walk). finished s.rules w.held) end.walk_is ∙ finishes;
      no_fault =
          ap₂ (λ k (w : Walk). leaf_level s k w.held) end.no_fault end.walk_is
          ∙ ap (λ k. or_else k (or_else (defaults_fault (settled s.rules (after end.done end.last position).held).rows s.rules) (check_fault s (finished s.rules (after end.done end.last position).held) false)))
          (settled_fault s end.done end.last position end.settles end.new)
          ∙ ap₂ or_else (ap (λ (xs : List Row). defaults_fault xs s.rules) settles ∙ defaults) (ap (λ rows. check_fault s rows false) finishes ∙ checks);
    }

pub read_rows : (program command : Text) (s : Shape) (rest : List Text) (rows : List Row) → IsMet command →
    whole_level [] (met command rest) ≡ or_else (level_fault s [] nothing_held rest false []) [] →
    entered whole (Some (command, rest)) ≡ Some (command, rows_after s.rules [] rest) →
    RowsRead s rest rows → settings_of (program ∷ command ∷ rest) ≡ command_asked command (given_in rows)
read_rows program command s rest rows is_met fault matches reads =
    let outer = program_reads program command rest is_met in
    ap₂ asked (outer.fault ∙ fault ∙ ap (λ k. or_else k []) reads.no_fault) (outer.matches ∙ matches ∙ ap (λ rows. Some (command, rows)) reads.rows_are)

-- the flag as `clap` has it where it isn't given
