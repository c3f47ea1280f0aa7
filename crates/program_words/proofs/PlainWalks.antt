-- The walk over a name, and then over options with their values.
use Rattle.std.proofs.Common.{◌≡◌, ℕ, false, List, [], ◌∷◌, ◌++◌, Option, Some, refl, sym, ap, ap₂, ◌∙◌, append_assoc, codes, IsTrue}
use Rattle.std.specs.Prelude.{fold}
use Rattle.std.proofs.lemmas.List.{map-append}
use Rattle.clap.specs.Kinds.{or_else}
use Rattle.clap.specs.Walk.{Row, Text, Waiting, Walk, idle, option, settled_rows, walked, with_values, without}
use Rattle.clap.specs.Simple.{Shape}
use Rattle.clap.specs.Faults.{repeat_fault, settle_fault, turn_fault, walk_fault}
use Rattle.clap.specs.declared.parser.matches.ValueSource.TheVariants.{CommandLine}
use Rattle.clap.specs.declared.builder.value_parser.Reading.TheVariants.{AsWritten}
use Rattle.program_words.specs.Plain.{Item, AreOptions, IsAmong, has_item, is_plain, option_words}
use Rattle.program_words.proofs.PlainSteps.{at, has_row_item, no_repeat, row_of_item, rows_of_items, used_once}

-- what a command makes of an argument that has its one value
pub record Settles (s : Shape) (id : Text) : Type 0 where
  pub rows : (text : Text) (rows : List Row) → settled_rows s.rules (Some (id, text ∷ [])) rows ≡ with_values id AsWritten CommandLine (text ∷ []) (without id rows)
  pub fault : (text : Text) (rows : List Row) (waiting : Waiting) (position : ℕ) →
      settle_fault s.rules s.args_override_self (at rows (Some (id, text ∷ [])) waiting position).held ≡ or_else (repeat_fault false id rows) []

-- what it makes of an option and its value
pub record OptionSteps (s : Shape) (id : Text) : Type 0 where
  pub settles : Settles s id
  pub word : (rows : List Row) (pending : Option (Text × List Text)) (position : ℕ) →
      walked s.rules [] (at rows pending idle position) (codes "--" ++ id) ≡ at (settled_rows s.rules pending rows) (Some (id, [])) (option id) position
  pub word_fault_is : (rows : List Row) (pending : Option (Text × List Text)) (position : ℕ) →
      turn_fault s [] (at rows pending idle position) (codes "--" ++ id) ≡ or_else (settle_fault s.rules s.args_override_self (at rows pending idle position).held) []
  pub value_is : (rows : List Row) (position : ℕ) (text : Text) → IsTrue (is_plain text) →
      walked s.rules [] (at rows (Some (id, [])) (option id) position) text ≡ at rows (Some (id, text ∷ [])) idle position
  pub value_fault : (rows : List Row) (position : ℕ) (text : Text) → IsTrue (is_plain text) →
      turn_fault s [] (at rows (Some (id, [])) (option id) position) text ≡ []

-- the items but the last one are rows, and the last one waits
abbrev pub after : List Item → Item → ℕ → Walk
after done last position = at (rows_of_items done) (Some (last.id, last.text ∷ [])) idle position

pub settled_one : (s : Shape) (done : List Item) (last : Item) → Settles s last.id → has_item last.id done ≡ false →
    settled_rows s.rules (Some (last.id, last.text ∷ [])) (rows_of_items done) ≡ rows_of_items (done ++ last ∷ [])
settled_one s done last settles new =
    settles.rows last.text (rows_of_items done)
    ∙ used_once last.id last.text (rows_of_items done) (has_row_item last.id done ∙ new)
    ∙ sym (map-append row_of_item done (last ∷ []))

pub settled_fault : (s : Shape) (done : List Item) (last : Item) (position : ℕ) → Settles s last.id → has_item last.id done ≡ false →
    settle_fault s.rules s.args_override_self (after done last position).held ≡ []
settled_fault s done last position settles new =
    settles.fault last.text (rows_of_items done) idle position ∙ no_repeat last.id (rows_of_items done) (has_row_item last.id done ∙ new)

-- where a walk over options ends
pub record EndsAt (s : Shape) (start : Walk) (words : List Text) (all : List Item) (position : ℕ) : Type 0 where
  pub done : List Item
  pub last : Item
  pub all_are : done ++ last ∷ [] ≡ all
  pub new : has_item last.id done ≡ false
  pub settles : Settles s last.id
  pub walk_is : fold (walked s.rules []) start words ≡ after done last position
  pub no_fault : walk_fault s [] start words ≡ []

module _ (s : Shape) (known : List Text) (steps : (id : Text) → IsAmong id known → OptionSteps s id) where
  pub options_end : (done : List Item) (last : Item) (position : ℕ) (options : List Item) → has_item last.id done ≡ false → Settles s last.id →
      AreOptions known (done ++ last ∷ []) options →
      EndsAt s (after done last position) (option_words options) (done ++ last ∷ options) position
  unfolding walk_fault
  options_end done last position [] new settles are = record {
    done = done;
    last = last;
    all_are = refl;
    new = new;
    settles = settles;
    walk_is = refl;
    no_fault = refl;
  }
  options_end done last position (o ∷ more) new settles are =
      let step = steps o.id are.0 in
      let settled = settled_one s done last settles new in
      let rest = options_end (done ++ last ∷ []) o position more are.2 step.settles are.3 in
      let named : walked s.rules [] (after done last position) (codes "--" ++ o.id) ≡ at (rows_of_items (done ++ last ∷ [])) (Some (o.id, [])) (option o.id) position =
      step.word (rows_of_items done) (Some (last.id, last.text ∷ [])) position ∙ ap (λ rows. at rows (Some (o.id, [])) (option o.id) position) settled in
      let valued : walked s.rules [] (walked s.rules [] (after done last position) (codes "--" ++ o.id)) o.text ≡ after (done ++ last ∷ []) o position =
      ap (λ w. walked s.rules [] w o.text) named ∙ step.value_is (rows_of_items (done ++ last ∷ [])) position o.text are.1 in
      let first_fault : turn_fault s [] (after done last position) (codes "--" ++ o.id) ≡ [] =
      step.word_fault_is (rows_of_items done) (Some (last.id, last.text ∷ [])) position ∙ ap (λ k. or_else k []) (settled_fault s done last position settles new) in
      let second_fault : turn_fault s [] (walked s.rules [] (after done last position) (codes "--" ++ o.id)) o.text ≡ [] =
      ap (λ w. turn_fault s [] w o.text) named ∙ step.value_fault (rows_of_items (done ++ last ∷ [])) position o.text are.1 in
      record {
        done = rest.done;
        last = rest.last;
        all_are = rest.all_are ∙ append_assoc done (last ∷ []) (o ∷ more);
        new = rest.new;
        settles = rest.settles;
        walk_is = ap (λ w. fold (walked s.rules []) w (option_words more)) valued ∙ rest.walk_is;
        no_fault = ap₂ or_else first_fault
            (ap₂ or_else second_fault (ap (λ w. walk_fault s [] w (option_words more)) valued ∙ rest.no_fault));
      }
