-- What a text is as `solve` takes it, however it is found.
use Rattle.std.proofs.Common.{◌≡◌, ℕ, Bool, List, Option, Some, None, refl, sym, ap, ◌∙◌, subst}
use Rattle.std.specs.Prelude.{option_map}
use Rattle.text_limits.specs.declared.TheConstants.{LARGE_LIMITS}
use Rattle.letters_and_lassos.specs.declared.kinds.Kind.{Kind}
use Rattle.letters_and_lassos.specs.declared.kinds.Kind.TheVariants.{Mealy, Moore}
use Rattle.kind_conversion.specs.Shifts.{shift_of}
use Rattle.tlsf_syntax.specs.Text.{Text}
use Rattle.tlsf_reader.specs.Reads.{TreesAreDetermined}
use Rattle.flat_text.specs.FlatOf.{IsFlatOf}
use Rattle.flat_text.specs.Laws.{FlatTextsAreDetermined}
use Rattle.solve_ground.specs.declared.texts.SolveText.{SolveText}
use Rattle.solve_ground.specs.Forms.{BothForms}
use Rattle.solve_ground.specs.Laws.{SolveTextsAreDetermined}
use Rattle.solve_ground.specs.SolveText.{IsSolveText}
use Rattle.solve_ground.specs.Taken.{converted_from, taken_kind, taken_shift}
use Rattle.solved_flat.specs.Expand.{expansion_bytes}
use Rattle.solved_flat.specs.Taken.{shift_from}

-- what is shifted is known from the kind that a text was converted from
pub shift_known : (given : Option Kind) (tree : Text) → shift_from (converted_from given tree) (taken_kind given tree) ≡ taken_shift given tree
shift_known (Some kind) tree = refl
shift_known None tree = by tree.info.semantics tree.info.target
  where
    by : (semantics target : Kind) → shift_from (option_map (λ shift. semantics) (shift_of semantics target)) target ≡ shift_of semantics target
    by Mealy Mealy = refl
    by Mealy Moore = refl
    by Moore Mealy = refl
    by Moore Moore = refl

module _ (one_flat : FlatTextsAreDetermined) (one_tree : TreesAreDetermined) (text : List ℕ) (given : Option Kind) where
  module _ (t t' : SolveText) (a : IsSolveText text given t) (b : IsSolveText text given t') where
    pub same_tree : a.taken.tree ≡ b.taken.tree
    same_tree = one_tree text a.taken.tree b.taken.tree a.taken.read b.taken.read

    pub same_shift : taken_shift given a.taken.tree ≡ taken_shift given b.taken.tree
    same_shift = ap (taken_shift given) same_tree

    pub same_flat : a.flat ≡ b.flat
    same_flat =
        one_flat LARGE_LIMITS text (Some (taken_kind given a.taken.tree)) a.flat b.flat a.taken.is_flat
        (subst (λ tree. IsFlatOf LARGE_LIMITS text (Some (taken_kind given tree)) b.flat) (sym same_tree) b.taken.is_flat)

    pub same_bytes : SolveTextsAreDetermined → (with_nodes : Bool)
        → expansion_bytes with_nodes (taken_shift given a.taken.tree) a.flat t.formulas ≡ expansion_bytes with_nodes (taken_shift given b.taken.tree) b.flat t'.formulas
    same_bytes one_text with_nodes =
        ap (λ shift. expansion_bytes with_nodes shift a.flat t.formulas) same_shift
        ∙ ap (λ flat. expansion_bytes with_nodes (taken_shift given b.taken.tree) flat t.formulas) same_flat
        ∙ ap (λ (forms : BothForms). expansion_bytes with_nodes (taken_shift given b.taken.tree) b.flat forms.nodes) (one_text.one_text text given t t' a b).forms
