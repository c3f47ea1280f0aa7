-- Of one text, kind and semantics one thing is wanted.
use Rattle.std.proofs.Common.{◌≡◌, ℕ, true, length, refl, sym, ap, subst, ◌∙◌}
use Rattle.std.proofs.lemmas.Bool.{and_parts}
use Rattle.std.specs.Prelude.{List, Option, Some, None, is_some, option_map, unwrap_or}
use Rattle.std.specs.Bool.{beq}
use Rattle.std_lemmas.proofs.Options.{none_by}
use Rattle.std_lemmas.proofs.Booleans.{beq-true}
use Rattle.letters_and_lassos.specs.declared.kinds.Kind.{Kind}
use Rattle.letters_and_lassos.specs.contracts.kinds.KindPartialEq.TheImpl.{ghosts as kind_ghosts}
use Rattle.letters_and_lassos.specs.Word.{HasRing, Word}
use Rattle.text_limits.specs.declared.TheConstants.{LARGE_LIMITS}
use Rattle.kind_conversion.specs.declared.shifts.Shift.{Shift}
use Rattle.tlsf_syntax.specs.Text.{Text}
use Rattle.tlsf_reader.specs.Reads.{TreesAreDetermined}
use Rattle.tlsf_expand.specs.Expansion.{expanded}
use Rattle.tlsf_expand.specs.FlatText.{FlatText, flat_in}
use Rattle.tlsf_expand.specs.Meaning.{means}
use Rattle.circuit_machines.specs.Laws.{CircuitsAreMachines}
use Rattle.solve_ground.specs.Taken.{spoken_word, taken_kind, taken_shift}
use Rattle.solved_text.specs.declared.documents.Verdict.{Verdict}
use Rattle.solved_text.specs.Parts.{Document}
use Rattle.solve_check.specs.Accepted.{IsAcceptedSolved, IsController, IsCounterStrategy, IsTrueOf}
use Rattle.solve_check.specs.Laws.{NeverBoth, SpeakAlike}
use Rattle.solve_check.proofs.Never as never
use Rattle.solve_check.proofs.Never.{AreTheSame}

is_some_map : {A B : Type 0} (f : A → B) (o : Option A) → is_some (option_map f o) ≡ is_some o
is_some_map f None = refl
is_some_map f (Some a) = refl

-- two ways to take a text that both convert it, or both don't, take it the same
same_shift : (given other : Option Kind) (tree : Text) → is_some (taken_shift given tree) ≡ is_some (taken_shift other tree) → taken_shift given tree ≡ taken_shift other tree
same_shift None None tree e = refl
same_shift None (Some k) tree e = none_by (taken_shift None tree) e
same_shift (Some k) None tree e = sym (none_by (taken_shift None tree) (sym e))
same_shift (Some k) (Some l) tree e = refl

module _ (trees : TreesAreDetermined) (text : List ℕ) where
  -- a document says of a text that is accepted whether it is converted
  shift_is_said : (given : Option Kind) (bytes : List ℕ) (d : Document) (is : IsAcceptedSolved text given bytes d)
      → is_some (taken_shift given is.taken.tree) ≡ d.converted
  shift_is_said given bytes d is =
      let said : beq (is_some is.known.semantics) d.converted ≡ true =
      (and_parts (kind_ghosts.eq is.known.kind d.kind) (beq (is_some is.known.semantics) d.converted) is.holds.taken).1 in
      let tree : is.is_known.taken.tree ≡ is.taken.tree = trees text is.is_known.taken.tree is.taken.tree is.is_known.taken.read is.taken.read in
      let there : is_some is.known.semantics ≡ is_some (taken_shift given is.is_known.taken.tree) =
      ap is_some is.is_known.semantics ∙ is_some_map (λ shift. is.is_known.taken.tree.info.semantics) (taken_shift given is.is_known.taken.tree) in
      ap (λ (t : Text). is_some (taken_shift given t)) (sym tree) ∙ sym there ∙ beq-true (is_some is.known.semantics) d.converted said

  module _ (given other : Option Kind) (a b : List ℕ) (d e : Document) (left : IsAcceptedSolved text given a d)
      (right : IsAcceptedSolved text other b e) (alike : SpeakAlike d e) where
    same_tree : left.taken.tree ≡ right.taken.tree
    same_tree = trees text left.taken.tree right.taken.tree left.taken.read right.taken.read

    same_kind : left.wanted.kind ≡ right.wanted.kind
    same_kind = sym left.kind_is ∙ alike.kind ∙ right.kind_is

    same_taken : taken_kind given left.taken.tree ≡ taken_kind other right.taken.tree
    same_taken = sym left.taken.kind_is ∙ same_kind ∙ right.taken.kind_is

    same_shifts : taken_shift given right.taken.tree ≡ taken_shift other right.taken.tree
    same_shifts = same_shift given other right.taken.tree
        (ap (λ (t : Text). is_some (taken_shift given t)) (sym same_tree) ∙ shift_is_said given a d left ∙ alike.converted ∙ sym (shift_is_said other b e right))

    same_flat : left.flat ≡ right.flat
    same_flat =
        let tree : left.taken.is_flat.tree ≡ right.taken.is_flat.tree =
        trees text left.taken.is_flat.tree right.taken.is_flat.tree left.taken.is_flat.read right.taken.is_flat.read in
        let both : Some left.flat ≡ Some right.flat =
        sym left.taken.is_flat.expanded
        ∙ ap (λ (t : Text). flat_in (expanded LARGE_LIMITS t (Some (taken_kind given left.taken.tree)))) tree
        ∙ ap (λ (k : Kind). flat_in (expanded LARGE_LIMITS right.taken.is_flat.tree (Some k))) same_taken
        ∙ right.taken.is_flat.expanded in
        ap (λ (o : Option FlatText). unwrap_or o left.flat) both

    same_inputs : left.wanted.inputs ≡ right.wanted.inputs
    same_inputs = left.taken.inputs ∙ ap (λ (f : FlatText). f.expanded.inputs) same_flat ∙ sym right.taken.inputs

    same_outputs : left.wanted.outputs ≡ right.wanted.outputs
    same_outputs = left.taken.outputs ∙ ap (λ (f : FlatText). f.expanded.outputs) same_flat ∙ sym right.taken.outputs

    same_means : (w : Word) → HasRing w → left.wanted.means w ≡ right.wanted.means w
    same_means w ring =
        left.taken.meaning w ring
        ∙ ap (λ (t : Text). means LARGE_LIMITS (spoken_word (taken_shift given t) (length left.wanted.inputs) w) t) same_tree
        ∙ ap (λ (s : Option Shift). means LARGE_LIMITS (spoken_word s (length left.wanted.inputs) w) right.taken.tree) same_shifts
        ∙ ap (λ (n : ℕ). means LARGE_LIMITS (spoken_word (taken_shift other right.taken.tree) n w) right.taken.tree) (ap length same_inputs)
        ∙ sym (right.taken.meaning w ring)

    pub same_wanted : AreTheSame left.wanted right.wanted
    same_wanted = record { inputs = same_inputs; outputs = same_outputs; kind = same_kind; means = same_means }

pub never_both : CircuitsAreMachines → TreesAreDetermined → NeverBoth
never_both machines trees text given other a b d e n m left right alike is isnt =
    let controller : IsController left.wanted n (length d.logs) d = subst (λ (v : Verdict). IsTrueOf left.wanted d v) is left.verdict in
    let counter : IsCounterStrategy right.wanted m (length e.logs) e = subst (λ (v : Verdict). IsTrueOf right.wanted e v) isnt right.verdict in
    never.never_both machines left.wanted right.wanted (same_wanted trees text given other a b d e left right alike) n controller.circuit controller.is_circuit controller.states
    counter.circuit controller.satisfies counter.defeats
