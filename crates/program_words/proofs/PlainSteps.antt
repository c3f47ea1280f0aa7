-- How `clap` walks over one plain word.
use Rattle.std.proofs.Common.{◌≡◌, ◌==◌, ◌&&◌, ◌||◌, ℕ, Bool, true, false, not, List, [], ◌∷◌, ◌++◌, map, Option, Some, None, refl, ap, ap₂, ◌∙◌, append-nil, IsTrue, length}
use Rattle.std.specs.Prelude.{fold, if◌then◌else◌}
use Rattle.std.specs.Option.{option_map_or}
use Rattle.std.specs.Str.{bytes_eq}
use Rattle.clap.specs.Lexer.{long_of, short_of}
use Rattle.clap.specs.Kinds.{Kinds, or_else}
use Rattle.clap.specs.Walk.{Held, Row, Rule, Step, Text, Waiting, Walk, after_step, at_row, default_rows, has_row, idle, long_or_other, more_values, option, plain_word, reading_by, short_or_plain, trailing, walked, with_default, with_values, without, word_met}
use Rattle.clap.specs.Simple.{Shape}
use Rattle.clap.specs.Faults.{bundle_fault, default_fault, defaults_fault, flag_word_fault, given_default_fault, repeat_fault, step_fault, turn_fault, word_fault}
use Rattle.clap.specs.declared.parser.matches.ValueSource.TheVariants.{CommandLine}
use Rattle.clap.specs.declared.builder.value_parser.Reading.TheVariants.{AsWritten}
use Rattle.clap.specs.declared.error.kind.ErrorKind.TheVariants.{ArgumentConflict}
use Rattle.program_words.specs.Plain.{Item, has_item, is_plain}

-- ---- a word that is no flag

no_hyphen : (b : ℕ) (bs : Text) → IsTrue (is_plain (b ∷ bs)) → (b == 45) ≡ false
no_hyphen b bs plain = by (b == 45) refl plain
  where
    by : (t : Bool) → (b == 45) ≡ t → IsTrue (not t) → (b == 45) ≡ false
    by false e h = e
    by true e h = cc

module _ (b : ℕ) (bs : Text) (plain : IsTrue (is_plain (b ∷ bs))) where
  no_dashes : bytes_eq (b ∷ bs) (45 ∷ 45 ∷ []) ≡ false
  no_dashes = rw (no_hyphen b bs plain) refl

  no_long : long_of (b ∷ bs) ≡ None
  no_long = rw (no_hyphen b bs plain) refl

  no_short : short_of (b ∷ bs) ≡ None
  no_short = rw (no_hyphen b bs plain) refl

-- what waits for a word here
pub data IsOpen : Waiting → Type 0 where
  open_idle : IsOpen idle
  open_option : (id : Text) → IsOpen (option id)

pub plain_met : (rules : List Rule) (waiting : Waiting) → IsOpen waiting → (position : ℕ) (word : Text) → IsTrue (is_plain word) → (h : Held) →
    word_met rules [] false waiting position word h ≡ plain_word rules waiting word h
plain_met rules _ unasked position [] plain h = cc
plain_met rules _ open_idle position (b ∷ bs) plain h =
    ap₂ (λ t l. if t then (h, trailing position) else long_or_other rules idle (b ∷ bs) l h) (no_dashes b bs plain) (no_long b bs plain)
    ∙ ap (λ s. short_or_plain rules idle (b ∷ bs) s h) (no_short b bs plain)
plain_met rules _ (open_option id) position (b ∷ bs) plain h =
    ap₂ (λ t l. if t then (h, trailing position) else long_or_other rules (option id) (b ∷ bs) l h) (no_dashes b bs plain) (no_long b bs plain)
    ∙ ap (λ s. short_or_plain rules (option id) (b ∷ bs) s h) (no_short b bs plain)

pub plain_word_fault : (s : Shape) (waiting : Waiting) → IsOpen waiting → (word : Text) → IsTrue (is_plain word) → (h : Held) →
    word_fault s [] false waiting word h ≡ []
plain_word_fault s _ unasked [] plain h = cc
plain_word_fault s _ open_idle (b ∷ bs) plain h =
    ap₂ (λ t l. if t then [] else flag_word_fault s.rules s.args_override_self l (b ∷ bs) h) (no_dashes b bs plain) (no_long b bs plain)
    ∙ ap (λ o. option_map_or (λ flags. bundle_fault s.rules s.args_override_self flags h) o []) (no_short b bs plain)
plain_word_fault s _ (open_option id) (b ∷ bs) plain h =
    ap₂ (λ t l. if t then [] else flag_word_fault s.rules s.args_override_self l (b ∷ bs) h) (no_dashes b bs plain) (no_long b bs plain)
    ∙ ap (λ o. option_map_or (λ flags. bundle_fault s.rules s.args_override_self flags h) o []) (no_short b bs plain)

-- ---- a walk between two words

abbrev pub at : List Row → Option (Text × List Text) → Waiting → ℕ → Walk
at rows pending waiting position = record {
  held = record { rows = rows; pending = pending; skip = 0 };
  waiting = waiting;
  position = position;
  is_trailing = false;
  stopped = None;
}

-- the walk over a plain word is the step of what takes it
pub plain_walked : (rules : List Rule) (rows : List Row) (pending : Option (Text × List Text)) (waiting : Waiting) → IsOpen waiting → (position : ℕ) (word : Text) → IsTrue (is_plain word) →
    let h = (at rows pending waiting position).held in
    walked rules [] (at rows pending waiting position) word
    ≡ after_step rules word (at rows pending waiting position) (plain_word rules waiting word h).0 (plain_word rules waiting word h).1
unfolding walked
plain_walked rules rows pending waiting unasked position word plain =
    let w = at rows pending waiting position in
    ap (λ (met : Held × Step). after_step rules word w met.0 met.1) (plain_met rules waiting unasked position word plain w.held)

pub plain_turn_fault : (s : Shape) (rows : List Row) (pending : Option (Text × List Text)) (waiting : Waiting) → IsOpen waiting → (position : ℕ) (word : Text) → IsTrue (is_plain word) →
    let h = (at rows pending waiting position).held in
    turn_fault s [] (at rows pending waiting position) word
    ≡ step_fault s position (plain_word s.rules waiting word h).0 (plain_word s.rules waiting word h).1
plain_turn_fault s rows pending waiting unasked position word plain =
    let w = at rows pending waiting position in
    ap₂ (λ (k : Kinds) (met : Held × Step). or_else k (step_fault s position met.0 met.1))
    (plain_word_fault s waiting unasked word plain w.held) (plain_met s.rules waiting unasked position word plain w.held)

-- ---- rows

abbrev pub row_of_item : Item → Row
row_of_item x = record {
  id = x.id;
  values = x.text ∷ [];
  count = None;
  source = Some CommandLine;
  reading = AsWritten;
}

abbrev pub rows_of_items : List Item → List Row
rows_of_items items = map row_of_item items

pub has_row_item : (id : Text) (items : List Item) → has_row id (rows_of_items items) ≡ has_item id items
has_row_item id [] = refl
has_row_item id (x ∷ items) = ap (λ b. bytes_eq x.id id || b) (has_row_item id items)

-- a row that isn't there is added last
pub at_row_absent : (id : Text) (change : Row → List Row) (missing rows : List Row) → has_row id rows ≡ false → at_row id change missing rows ≡ rows ++ missing
at_row_absent id change missing [] absent = refl
at_row_absent id change missing (r ∷ rows) absent = by (bytes_eq r.id id) absent (at_row_absent id change missing rows)
  where
    by : (b : Bool) → (b || has_row id rows) ≡ false → (has_row id rows ≡ false → at_row id change missing rows ≡ rows ++ missing) → (if b then change r ++ rows else r ∷ at_row id change missing rows) ≡ r ∷ (rows ++ missing)
    by true bad later = cc
    by false rest later = ap (λ xs. r ∷ xs) (later rest)

pub used_once : (id text : Text) (rows : List Row) → has_row id rows ≡ false →
    with_values id AsWritten CommandLine (text ∷ []) (without id rows) ≡ rows ++ row_of_item (record { id = id; text = text }) ∷ []
used_once id text rows absent =
    let same : without id rows ≡ rows = at_row_absent id (λ _. []) [] rows absent ∙ append-nil rows in
    ap (with_values id AsWritten CommandLine (text ∷ [])) same ∙ at_row_absent id (more_values CommandLine (text ∷ [])) (row_of_item (record { id = id; text = text }) ∷ []) rows absent

pub no_repeat : (id : Text) (rows : List Row) → has_row id rows ≡ false → or_else (repeat_fault false id rows) [] ≡ []
no_repeat id rows absent = ap (λ b. or_else (if b && not false then ArgumentConflict ∷ [] else []) []) absent

-- ---- arguments without defaults

abbrev pub HaveNoDefaults : List Rule → Type 0
HaveNoDefaults [] = Unit {0}
HaveNoDefaults (a ∷ rules) = (a.defaults ≡ []) × HaveNoDefaults rules

no_default : (rows : List Row) (a : Rule) → a.defaults ≡ [] → with_default rows a ≡ rows
no_default rows a none = by (has_row a.id rows)
  where
    by : (b : Bool) → (if b then rows else default_rows a.id (reading_by a) a.defaults rows) ≡ rows
    by true = refl
    by false = ap (λ d. default_rows a.id (reading_by a) d rows) none

pub finished_none : (rules : List Rule) (rows : List Row) → HaveNoDefaults rules → fold with_default rows rules ≡ rows
finished_none [] rows none = refl
finished_none (a ∷ rules) rows none = ap (λ xs. fold with_default xs rules) (no_default rows a none.0) ∙ finished_none rules rows none.1

no_default_fault : (rows : List Row) (a : Rule) → a.defaults ≡ [] → default_fault rows a ≡ []
no_default_fault rows a none = by (has_row a.id rows)
  where
    by : (b : Bool) → (if b || (length a.defaults == 0) then [] else given_default_fault a a.defaults) ≡ []
    by true = refl
    by false = ap (λ d. if (length d == 0) then [] else given_default_fault a d) none

pub defaults_fault_none : (rules : List Rule) (rows : List Row) → HaveNoDefaults rules → defaults_fault rows rules ≡ []
unfolding defaults_fault
defaults_fault_none [] rows none = refl
defaults_fault_none (a ∷ rules) rows none =
    ap (λ k. or_else k (defaults_fault (with_default rows a) rules)) (no_default_fault rows a none.0)
    ∙ defaults_fault_none rules (with_default rows a) none.1
