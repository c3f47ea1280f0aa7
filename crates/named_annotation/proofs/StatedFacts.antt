-- What is known of an annotation that a text states.
use Rattle.std.proofs.Common.{◌≡◌, ℕ, ◌+◌, ◌<◌, ◌≤◌, Bool, true, false, ◌&&◌, ◌||◌, List, [], ◌∷◌, ◌++◌, length, get_or, Option, Some, None, refl, subst, ◌∙◌, arith, nat_lt}
use Rattle.std.specs.Prelude.{All, Result, Ok, Err, if◌then◌else◌}
use Rattle.std.specs.Option.{option_and_then, option_map_or}
use Rattle.std.proofs.lemmas.Bool.{and_parts, ltb-false, ltb-true}
use Rattle.std.proofs.lemmas.List.{get_or_append_left}
use Rattle.std.proofs.lemmas.Option.{option_and_then_some, same_Some}
use Rattle.ltl_formula.specs.declared.nodes.FormulaId.{FormulaId}
use Rattle.ltl_formula.specs.declared.nodes.Node.{Node}
use Rattle.cobuchi_build.specs.declared.exploring.State.{State}
use Rattle.cobuchi_build.specs.Explored.{same_state, start_state}
use Rattle.annot_check.specs.declared.pairs.Pair.{Pair}
use Rattle.annot_check.specs.AnnotationText.{Headed, head_from, pairs_in, pieces_of}
use Rattle.annot_check.proofs.PairsRead.{pairs_below}
use Rattle.aiger_text.specs.Words.{cut_at, number_within}
use Rattle.named_annotation.specs.declared.words.Counts.{Counts}
use Rattle.named_annotation.specs.NamedStates.{Named, automaton_over}
use Rattle.named_annotation.specs.NamedText.{StatesNamed, counts_from, counts_in, has_few_leaves, follows, is_numbered, is_of_formula, may_be, most_pairs, most_states, named_behind, named_in, numbers_behind, state_from, state_in, state_of, with_pairs}
use Rattle.named_annotation.proofs.Counting.{IsNamedList}
use Rattle.cobuchi_build.proofs.Sound.{same_state-decides}

-- what is known of an annotation: its automaton is that of its states, which begin with the start, and its pairs are of their numbers
pub record IsNamedFor (ns : List Node) (f : FormulaId) (named : Named) : Type 0 where
  pub automaton : named.automaton ≡ automaton_over ns f named.states
  pub list : IsNamedList f named.states named.list.pairs

-- ---- counts

counts_by : (inputs pairs states : ℕ) (b : Bool) (counts : Counts) → may_be inputs pairs states ≡ b
    → (if b then Some (record { pairs = pairs; states = states }) else None) ≡ Some counts → 0 < counts.states
counts_by inputs pairs states true counts e is =
    let positive : nat_lt 0 states ≡ true = (and_parts _ _ e).0 in
    let same : record { pairs = pairs; states = states } ≡ counts = same_Some (record { pairs = pairs; states = states }) counts is in
    subst (λ (x : Counts). 0 < x.states) same (ltb-true 0 states positive)
counts_by inputs pairs states false counts e is = absurd (cc)

pub some_states : (inputs : ℕ) (word : List ℕ) (counts : Counts) → counts_in inputs word ≡ Some counts → 0 < counts.states
some_states inputs word counts is =
    option_and_then_some (λ (cut : List ℕ × List ℕ). counts_from inputs cut.0 cut.1) (cut_at 32 word) counts is (λ cut _ within.
    option_and_then_some (λ (pairs : ℕ). option_and_then (λ (states : ℕ). if may_be inputs pairs states then Some (record { pairs = pairs; states = states }) else None)
    (number_within most_states cut.1)) (number_within most_pairs cut.0) counts within (λ pairs _ inner.
    option_and_then_some (λ (states : ℕ). if may_be inputs pairs states then Some (record { pairs = pairs; states = states }) else None) (number_within most_states cut.1)
    counts inner (λ states _ last. counts_by inputs pairs states (may_be inputs pairs states) counts refl last)))

-- ---- one state more

module _ (ns : List Node) (f : FormulaId) where
  -- what is done begins with the start
  abbrev Begins : List State → Type 0
  Begins done = 0 < length done → (d : State) → get_or done 0 d ≡ start_state f

  next_by : (done : List State) (state : State) (b : Bool) → nat_lt 0 (length done) ≡ b → (b || same_state state (start_state f)) ≡ true → Begins done → Begins (done ++ state ∷ [])
  next_by done state true e is begins = λ some d.
      let within : 0 < length done = ltb-true 0 (length done) e in
      get_or_append_left done (state ∷ []) d 0 within ∙ begins within d
  next_by [] state false e is begins = λ some d. same_state-decides state (start_state f) is
  next_by (first ∷ more) state false e is begins = absurd (let le : length (first ∷ more) ≤ 0 = ltb-false 0 (length (first ∷ more)) e in omega (arith, le))

  state_by : (done : List State) (numbers : List ℕ) (b : Bool) (state : State)
      → (is_numbered (length done) numbers && is_of_formula ns f (state_of numbers) && follows done (start_state f) (state_of numbers) && has_few_leaves ns (state_of numbers)) ≡ b
      → (if b then Some (state_of numbers) else None) ≡ Some state → Begins done → Begins (done ++ state ∷ [])
  state_by done numbers true state e is begins =
      let front : ((is_numbered (length done) numbers && is_of_formula ns f (state_of numbers)) && follows done (start_state f) (state_of numbers)) ≡ true = (and_parts _ _ e).0 in
      let fits : follows done (start_state f) (state_of numbers) ≡ true = (and_parts _ _ front).1 in
      let first : (nat_lt 0 (length done) || same_state (state_of numbers) (start_state f)) ≡ true = (and_parts _ _ fits).0 in
      let same : state_of numbers ≡ state = same_Some (state_of numbers) state is in
      subst (λ (s : State). Begins (done ++ s ∷ [])) same (next_by done (state_of numbers) (nat_lt 0 (length done)) refl first begins)
  state_by done numbers false state e is begins = absurd (cc)

  state_begins : (done : List State) (line : List ℕ) (state : State) → state_in ns f done line ≡ Some state → Begins done → Begins (done ++ state ∷ [])
  state_begins done line state is begins =
      option_and_then_some (state_from ns f done) (numbers_behind line) state is (λ numbers _ last.
      state_by done numbers
      (is_numbered (length done) numbers && is_of_formula ns f (state_of numbers) && follows done (start_state f) (state_of numbers) && has_few_leaves ns (state_of numbers))
      state refl last begins)

  -- ---- all states and pairs

  module _ (latches h : ℕ) (counts : Counts) (some : 0 < counts.states) (named : Named) where
    -- the pairs behind the states that are done
    ended_by : (done : List State) (parts : List (List ℕ)) (n : ℕ) → Begins done → counts.states ≤ length done → (r : Result (List Pair) ℕ)
        → pairs_in latches counts.states counts.pairs [] parts n ≡ r → with_pairs ns f h done r ≡ Ok named → IsNamedFor ns f named
    ended_by done parts n begins all (Ok pairs) e is =
        let below : All (λ (pair : Pair). pair.state < counts.states) pairs =
        pairs_below latches counts.states counts.pairs pairs parts [] n (λ k d less. absurd (omega (arith, less))) e in
        let made : Named = record { states = done; automaton = automaton_over ns f done; list = record { pairs = pairs; head_line = h } } in
        let same : made ≡ named = cc in
        subst (IsNamedFor ns f) same (record {
          automaton = refl;
          list = record {
            some = omega (arith, some, all);
            starts = begins (omega (arith, some, all));
            numbers = λ k d less. (let own : (get_or pairs k d).state < counts.states = below k d less in omega (arith, own, all));
          };
        })
    ended_by done parts n begins all (Err line) e is = absurd (cc)

    -- one line of those that name states; `more` is what comes of the others
    line_by : (done : List State) (line : List ℕ) (parts : List (List ℕ)) (n : ℕ) (b : Bool) (o : Option State) → nat_lt (length done) counts.states ≡ b
        → state_in ns f done line ≡ o → Begins done → (more : List State → Result Named ℕ)
        → ((after : List State) → Begins after → more after ≡ Ok named → IsNamedFor ns f named)
        → (if b then option_map_or (λ state. more (done ++ state ∷ [])) o (Err n) else with_pairs ns f h done (pairs_in latches counts.states counts.pairs [] parts n))
        ≡ Ok named → IsNamedFor ns f named
    line_by done line parts n true None e at begins more rest is = absurd (cc)
    line_by done line parts n true (Some state) e at begins more rest is = rest (done ++ state ∷ []) (state_begins done line state at begins) is
    line_by done line parts n false o e at begins more rest is =
        ended_by done parts n begins (ltb-false (length done) counts.states e) (pairs_in latches counts.states counts.pairs [] parts n) refl is

    pub named_for : (parts : List (List ℕ)) (done : List State) (n : ℕ) → Begins done → named_in latches ns f h counts done parts n ≡ Ok named → IsNamedFor ns f named
    named_for [] done n begins is = absurd (cc)
    named_for (last ∷ []) done n begins is = absurd (cc)
    named_for (line ∷ next ∷ more) done n begins is =
        line_by done line (line ∷ next ∷ more) n (nat_lt (length done) counts.states) (state_in ns f done line) refl refl begins
        (λ after. named_in latches ns f h counts after (next ∷ more) (n + 1)) (λ after after_begins inner. named_for (next ∷ more) after (n + 1) after_begins inner) is

  module _ (latches inputs : ℕ) (named : Named) where
    counted_by : (head : Headed) (o : Option Counts) → counts_in inputs head.word ≡ o
        → option_map_or (λ counts. named_in latches ns f head.line counts [] head.parts (head.line + 1)) o (Err head.line) ≡ Ok named → IsNamedFor ns f named
    counted_by head None e is = absurd (cc)
    counted_by head (Some counts) e is =
        named_for latches head.line counts (some_states inputs head.word counts e) named head.parts [] (head.line + 1) (λ some. absurd (omega (arith, some))) is

    behind_by : (r : Result Headed ℕ) → named_behind latches inputs ns f r ≡ Ok named → IsNamedFor ns f named
    behind_by (Ok head) is = counted_by head (counts_in inputs head.word) refl is
    behind_by (Err n) is = absurd (cc)

    pub stated_for : (bytes : List ℕ) → StatesNamed bytes latches inputs ns f named → IsNamedFor ns f named
    stated_for bytes is = behind_by (head_from (pieces_of bytes) 1) is
