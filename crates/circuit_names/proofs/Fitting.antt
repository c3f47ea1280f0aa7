-- A circuit has no line that fails for its counts and names exactly where these are the text's, as far as it has names.
use Rattle.std.proofs.Common.{◌≡◌, ℕ, ◌+◌, Bool, true, false, ◌&&◌, cond, Option, Some, None, List, [], ◌∷◌, length, refl, sym, ap, subst, ◌∙◌, arith}
use Rattle.std.specs.Prelude.{is_some, map, slice_index}
use Rattle.std.specs.List.{AllZip, list_all}
use Rattle.std.specs.Str.{bytes_eq}
use Rattle.std.specs.Cmp.Lexicographic.{bytes_decides}
use Rattle.std.proofs.lemmas.Bool.{and_from, and_parts, eq-eqb, eqb-true}
use Rattle.std.proofs.lemmas.Slice.Zip.{AllZip-long}
use Rattle.letters_and_lassos.specs.declared.kinds.Side.{Side}
use Rattle.aiger_text.specs.Circuit.{Circuit}
use Rattle.aiger_text.specs.CircuitFile.{File}
use Rattle.circuit_names.specs.Laws.{NamesAreTold}
use Rattle.circuit_names.specs.Lines.{earliest, foreign_from, foreign_name, same_length, stated_line}
use Rattle.circuit_names.specs.Names.{FitsNames, HasNames, IsNameIfAny, Names, read_names, written_names}

-- == the earlier of two lines ==

-- neither of two lines is there where the earlier one isn't
pub earliest_none : (a b : Option ℕ) → earliest a b ≡ None → (a ≡ None) × (b ≡ None)
earliest_none None b none = (refl, none)
earliest_none (Some n) None none = absurd (cc)
earliest_none (Some n) (Some m) none = absurd (cc)

pub none_earliest : (a b : Option ℕ) → a ≡ None → b ≡ None → earliest a b ≡ None
none_earliest a b first second = ap (λ (o : Option ℕ). earliest o b) first ∙ second

pub some_earliest : (line : ℕ) (o : Option ℕ) → earliest (Some line) o ≡ None → ⊥
some_earliest line None none = absurd (cc)
some_earliest line (Some m) none = absurd (cc)

-- == names, place by place ==

same_by : (name wanted : List ℕ) (line : ℕ) (b : Bool) → bytes_eq name wanted ≡ b → cond b None (Some line) ≡ None → name ≡ wanted
same_by name wanted line true same none = (bytes_decides name wanted).0 same
same_by name wanted line false same none = absurd (cc)

name_fits : (name : Option (List ℕ)) (wanted : List ℕ) (line : ℕ) → foreign_name name wanted line ≡ None → IsNameIfAny name wanted
name_fits None wanted line none = tt
name_fits (Some name) wanted line none = same_by name wanted line (bytes_eq name wanted) refl none

name_passes : (name : Option (List ℕ)) (wanted : List ℕ) (line : ℕ) → IsNameIfAny name wanted → foreign_name name wanted line ≡ None
name_passes None wanted line is = refl
name_passes (Some name) wanted line is = ap (λ b. cond b None (Some line)) ((bytes_decides name wanted).1 is)

names_fit : (place : ℕ) (names : List (Option (List ℕ))) (wanted : List (List ℕ)) (lines : List ℕ) → length names ≡ length wanted
    → foreign_from place names wanted lines ≡ None → AllZip IsNameIfAny names wanted
names_fit place [] [] lines same none = tt
names_fit place [] (w ∷ ws) lines same none = absurd (omega arith)
names_fit place (n ∷ ns) [] lines same none = absurd (omega arith)
names_fit place (n ∷ ns) (w ∷ ws) lines same none =
    let parts = earliest_none (foreign_name n w (slice_index lines place)) (foreign_from (place + 1) ns ws lines) none in
    (name_fits n w (slice_index lines place) parts.0, names_fit (place + 1) ns ws lines (omega arith) parts.1)

names_pass_from : (place : ℕ) (names : List (Option (List ℕ))) (wanted : List (List ℕ)) (lines : List ℕ) → AllZip IsNameIfAny names wanted
    → foreign_from place names wanted lines ≡ None
names_pass_from place [] wanted lines fit = refl
names_pass_from place (n ∷ ns) [] lines fit = refl
names_pass_from place (n ∷ ns) (w ∷ ws) lines fit =
    none_earliest (foreign_name n w (slice_index lines place)) (foreign_from (place + 1) ns ws lines) (name_passes n w (slice_index lines place) fit.0)
    (names_pass_from (place + 1) ns ws lines fit.1)

-- where none is missing
are_whole : (names : List (Option (List ℕ))) (wanted : List (List ℕ)) → list_all is_some names ≡ true → AllZip IsNameIfAny names wanted
    → names ≡ map (λ name. Some name) wanted
are_whole [] [] all fit = refl
are_whole [] (w ∷ ws) all fit = absurd fit
are_whole (n ∷ ns) [] all fit = absurd fit
are_whole (None ∷ ns) (w ∷ ws) all fit = absurd (cc)
are_whole (Some n ∷ ns) (w ∷ ws) all fit =
    let first : n ≡ w = fit.0 in let rest : ns ≡ map (λ name. Some name) ws = are_whole ns ws all fit.1 in λ i. Some (first i) ∷ rest i

own_fit : (wanted : List (List ℕ)) → AllZip IsNameIfAny (map (λ name. Some name) wanted) wanted
own_fit [] = tt
own_fit (w ∷ ws) = (refl, own_fit ws)

all_fit : (names : List (Option (List ℕ))) (wanted : List (List ℕ)) → names ≡ map (λ name. Some name) wanted → AllZip IsNameIfAny names wanted
all_fit names wanted is = subst (λ (ns : List (Option (List ℕ))). AllZip IsNameIfAny ns wanted) (sym is) (own_fit wanted)

-- == the circuit ==

module _ (names : Names) (side : Side) (c : Circuit) where
  pub are_named : list_all is_some c.input_names ≡ true → list_all is_some c.output_names ≡ true → FitsNames names side c → HasNames names side c
  are_named inputs outputs fit = record {
    inputs = are_whole c.input_names (read_names names side) inputs fit.inputs;
    outputs = are_whole c.output_names (written_names names side) outputs fit.outputs;
  }

  pub named_fit : HasNames names side c → FitsNames names side c
  named_fit has = record {
    inputs = all_fit c.input_names (read_names names side) has.inputs;
    outputs = all_fit c.output_names (written_names names side) has.outputs;
  }

module _ (names : Names) (side : Side) (file : File) where
  abbrev reads_line : Option ℕ
  reads_line = foreign_from 0 file.circuit.input_names (read_names names side) file.name_lines

  abbrev writes_line : Option ℕ
  writes_line = foreign_from (length file.circuit.input_names) file.circuit.output_names (written_names names side) file.name_lines

  abbrev same_reads : Bool
  same_reads = same_length file.circuit.input_names (read_names names side)

  abbrev same_writes : Bool
  same_writes = same_length file.circuit.output_names (written_names names side)

  fits_by : (b : Bool) → (same_reads && same_writes) ≡ b → cond b (earliest reads_line writes_line) (Some 1) ≡ None → FitsNames names side file.circuit
  fits_by false is none = absurd (cc)
  fits_by true is none =
      let lengths = and_parts same_reads same_writes is in
      let lines = earliest_none reads_line writes_line none in
      record {
        inputs = names_fit 0 file.circuit.input_names (read_names names side) file.name_lines (eqb-true (length file.circuit.input_names) (length (read_names names side)) lengths.0) lines.0;
        outputs = names_fit (length file.circuit.input_names) file.circuit.output_names (written_names names side) file.name_lines
            (eqb-true (length file.circuit.output_names) (length (written_names names side)) lengths.1) lines.1;
      }

  pub fits : stated_line names side file ≡ None → FitsNames names side file.circuit
  fits none = fits_by (same_reads && same_writes) refl none

  pub passes : FitsNames names side file.circuit → stated_line names side file ≡ None
  passes fit =
      let lengths : (same_reads && same_writes) ≡ true =
      and_from same_reads same_writes
      (eq-eqb (length file.circuit.input_names) (length (read_names names side)) (sym (AllZip-long IsNameIfAny file.circuit.input_names (read_names names side) fit.inputs)))
      (eq-eqb (length file.circuit.output_names) (length (written_names names side)) (sym (AllZip-long IsNameIfAny file.circuit.output_names (written_names names side) fit.outputs))) in
      ap (λ b. cond b (earliest reads_line writes_line) (Some 1)) lengths
      ∙ none_earliest reads_line writes_line (names_pass_from 0 file.circuit.input_names (read_names names side) file.name_lines fit.inputs)
      (names_pass_from (length file.circuit.input_names) file.circuit.output_names (written_names names side) file.name_lines fit.outputs)

  -- a circuit each of whose signals has a name
  pub stated_names : stated_line names side file ≡ None → (list_all is_some file.circuit.input_names && list_all is_some file.circuit.output_names) ≡ true
      → HasNames names side file.circuit
  stated_names none all =
      let both = and_parts (list_all is_some file.circuit.input_names) (list_all is_some file.circuit.output_names) all in
      are_named names side file.circuit both.0 both.1 (fits none)

  pub names_pass : HasNames names side file.circuit → stated_line names side file ≡ None
  names_pass has = passes (named_fit names side file.circuit has)

pub told : NamesAreTold
told = record {
  line = λ names side file. (λ none. fits names side file none, λ fit. passes names side file fit);
  whole = λ names side c inputs outputs fit. are_named names side c inputs outputs fit;
  named = λ names side c has. named_fit names side c has;
}
