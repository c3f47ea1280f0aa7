-- The lines that name states.
use Rattle.std.proofs.Common.{◌≡◌, ℕ, ◌+◌, ◌<◌, ◌≤◌, Bool, false, List, [], ◌∷◌, ◌++◌, length, Option, Some, None, refl, sym, ap, subst, ◌∙◌, arith, nat_lt}
use Rattle.std.specs.Prelude.{Result, Err, if◌then◌else◌, option_map, unwrap_or}
use Rattle.std.specs.Option.{option_map_or}
use Rattle.std.proofs.lemmas.Bool.{le-ltb, lt-ltb}
use Rattle.std.proofs.lemmas.List.{length-append}
use Rattle.ltl_formula.specs.declared.nodes.FormulaId.{FormulaId}
use Rattle.ltl_formula.specs.declared.nodes.Node.{Node}
use Rattle.cobuchi_build.specs.declared.exploring.State.{State}
use Rattle.aiger_text.specs.Words.{cut_at}
use Rattle.annot_check.specs.AnnotationText.{pairs_in, pieces_of}
use Rattle.annot_check.proofs.ReadLemmas.{cut_is, some_part, whole_is}
use Rattle.annot_check.specs.declared.reading.Head.{Head}
use Rattle.named_annotation.specs.declared.words.Counts.{Counts}
use Rattle.named_annotation.specs.NamedStates.{Named}
use Rattle.named_annotation.specs.NamedText.{named_in, state_in, with_pairs}
use Rattle.named_annotation.specs.Parts.{StatesEndAt, next_of}

module _ (latches : ℕ) (ns : List Node) (f : FormulaId) (h : ℕ) (counts : Counts) where
  -- what comes of one line
  abbrev at_state : List State → List (List ℕ) → ℕ → List ℕ → Result Named ℕ
  at_state done parts n line =
      if nat_lt (length done) counts.states
      then option_map_or (λ state. named_in latches ns f h counts (done ++ state ∷ []) parts (n + 1)) (state_in ns f done line) (Err n)
      else with_pairs ns f h done (pairs_in latches counts.states counts.pairs [] (line ∷ parts) n)

  state_line : (done : List State) (parts : List (List ℕ)) (line : List ℕ) (n : ℕ) → 0 < length parts → named_in latches ns f h counts done (line ∷ parts) n ≡ at_state done parts n line
  state_line done [] line n some = absurd (omega arith)
  state_line done (next ∷ more) line n some = refl

  module _ (done : List State) (rest line behind : List ℕ) (n : ℕ) (r : Result Named ℕ) (cut : cut_at 10 rest ≡ Some (line, behind))
      (so_far : named_in latches ns f h counts done (pieces_of rest) n ≡ r) (room : length done < counts.states) where
    by_next : Option (List State) → Result Named ℕ
    by_next o = option_map_or (λ (after : List State). named_in latches ns f h counts after (pieces_of behind) (n + 1)) o (Err n)

    as_next : (o : Option State) → option_map_or (λ state. named_in latches ns f h counts (done ++ state ∷ []) (pieces_of behind) (n + 1)) o (Err n)
        ≡ by_next (option_map (λ state. done ++ state ∷ []) o)
    unfolding by_next
    as_next None = refl
    as_next (Some state) = refl

    at_this : r ≡ by_next (next_of ns f done line)
    unfolding by_next
    at_this =
        sym so_far ∙ ap (λ ps. named_in latches ns f h counts done ps n) (cut_is rest line behind cut).0
        ∙ state_line done (pieces_of behind) line n (some_part behind)
        ∙ ap (λ (b : Bool). if b then option_map_or (λ state. named_in latches ns f h counts (done ++ state ∷ []) (pieces_of behind) (n + 1)) (state_in ns f done line) (Err n)
        else with_pairs ns f h done (pairs_in latches counts.states counts.pairs [] (line ∷ pieces_of behind) n)) (lt-ltb (length done) counts.states room)
        ∙ as_next (state_in ns f done line)

    pub state_more : (after : List State) → next_of ns f done line ≡ Some after → named_in latches ns f h counts after (pieces_of behind) (n + 1) ≡ r
    unfolding by_next
    state_more after is = sym (at_this ∙ ap by_next is)

    pub state_bad : next_of ns f done line ≡ None → r ≡ Err n
    unfolding by_next
    state_bad is = at_this ∙ ap by_next is

  -- where the lines end too soon
  pub states_short : (done : List State) (rest : List ℕ) (n : ℕ) (r : Result Named ℕ) → cut_at 10 rest ≡ None → named_in latches ns f h counts done (pieces_of rest) n ≡ r → r ≡ Err n
  states_short done rest n r cut so_far = sym so_far ∙ ap (λ ps. named_in latches ns f h counts done ps n) (whole_is rest cut)

  -- where all states are named
  full : (done : List State) (parts : List (List ℕ)) (n : ℕ) → nat_lt (length done) counts.states ≡ false
      → named_in latches ns f h counts done parts n ≡ with_pairs ns f h done (pairs_in latches counts.states counts.pairs [] parts n)
  full done [] n over = refl
  full done (last ∷ []) n over = refl
  full done (line ∷ next ∷ more) n over =
      ap (λ (b : Bool). if b then option_map_or (λ state. named_in latches ns f h counts (done ++ state ∷ []) (next ∷ more) (n + 1)) (state_in ns f done line) (Err n)
      else with_pairs ns f h done (pairs_in latches counts.states counts.pairs [] (line ∷ next ∷ more) n)) over

  pub states_done : (done : List State) (rest : List ℕ) (n : ℕ) (r : Result Named ℕ) → counts.states ≤ length done
      → named_in latches ns f h counts done (pieces_of rest) n ≡ r → with_pairs ns f h done (pairs_in latches counts.states counts.pairs [] (pieces_of rest) n) ≡ r
  states_done done rest n r all so_far = sym (full done (pieces_of rest) n (le-ltb (length done) counts.states all)) ∙ so_far

-- ---- one state more

longer_by : (ns : List Node) (f : FormulaId) (done after : List State) (o : Option State) → option_map (λ state. done ++ state ∷ []) o ≡ Some after → length after ≡ length done + 1
longer_by ns f done after None is = absurd (cc)
longer_by ns f done after (Some state) is =
    ap (λ (o : Option (List State)). length (unwrap_or o [])) (sym is) ∙ length-append done (state ∷ [])

pub next_longer : (ns : List Node) (f : FormulaId) (line : List ℕ) (done after : List State) → next_of ns f done line ≡ Some after → length after ≡ length done + 1
next_longer ns f line done after is = longer_by ns f done after (state_in ns f done line) is

-- ---- what the loop keeps: what is left to read gives what the whole gives

pub record KeepsStates (ns : List Node) (f : FormulaId) (states : ℕ) (head : Head) (done : List State) (rest : List ℕ) (line : ℕ) : Type 0 where
  pub whole : (latches h : ℕ) (counts : Counts) → counts.states ≡ states
      → named_in latches ns f h counts done (pieces_of rest) (line + 1) ≡ named_in latches ns f h counts [] (pieces_of head.rest.now) (head.line + 1)
  pub lines : line ≡ head.line + length done
  pub within : line + length rest ≤ head.line + length head.rest.now
  pub count : length done ≤ states

module _ (ns : List Node) (f : FormulaId) (states : ℕ) (head : Head) where
  module _ (done : List State) (rest : List ℕ) (line : ℕ) (k : KeepsStates ns f states head done rest line) where
    module _ (text behind : List ℕ) (cut : cut_at 10 rest ≡ Some (text, behind)) (room : length done < states) where
      pub keeps_more : (after : List State) → next_of ns f done text ≡ Some after → KeepsStates ns f states head after behind (line + 1)
      keeps_more after is =
          let longer : length after ≡ length done + 1 = next_longer ns f text done after is in
          let shorter : length behind < length rest = (cut_is rest text behind cut).1 in
          let lines : line ≡ head.line + length done = k.lines in
          let within : line + length rest ≤ head.line + length head.rest.now = k.within in
          record {
            whole = λ latches h counts e.
                state_more latches ns f h counts done rest text behind (line + 1) (named_in latches ns f h counts [] (pieces_of head.rest.now) (head.line + 1)) cut
                (k.whole latches h counts e) (rw e room) after is;
            lines = omega (arith, lines, longer);
            within = omega (arith, within, shorter);
            count = omega (arith, room, longer);
          }

      pub ends_bad : next_of ns f done text ≡ None → StatesEndAt ns f states head (line + 1)
      ends_bad is =
          let within : line + length rest ≤ head.line + length head.rest.now = k.within in
          record {
            refused = λ latches h counts e.
                state_bad latches ns f h counts done rest text behind (line + 1) (named_in latches ns f h counts [] (pieces_of head.rest.now) (head.line + 1)) cut
                (k.whole latches h counts e) (rw e room) is;
            within = omega (arith, within);
          }

    pub ends_short : cut_at 10 rest ≡ None → StatesEndAt ns f states head (line + 1)
    ends_short cut =
        let within : line + length rest ≤ head.line + length head.rest.now = k.within in
        record {
          refused = λ latches h counts e.
              states_short latches ns f h counts done rest (line + 1) (named_in latches ns f h counts [] (pieces_of head.rest.now) (head.line + 1)) cut
              (k.whole latches h counts e);
          within = omega (arith, within);
        }

    -- where all are named
    pub ends_read : (h : states ≤ length done) (latches head_line : ℕ) (counts : Counts) → counts.states ≡ states
        → with_pairs ns f head_line done (pairs_in latches states counts.pairs [] (pieces_of rest) (line + 1))
        ≡ named_in latches ns f head_line counts [] (pieces_of head.rest.now) (head.line + 1)
    ends_read h latches head_line counts e =
        subst (λ n. with_pairs ns f head_line done (pairs_in latches n counts.pairs [] (pieces_of rest) (line + 1))
        ≡ named_in latches ns f head_line counts [] (pieces_of head.rest.now) (head.line + 1)) e
        (states_done latches ns f head_line counts done rest (line + 1) (named_in latches ns f head_line counts [] (pieces_of head.rest.now) (head.line + 1)) (rw e h)
        (k.whole latches head_line counts e))
