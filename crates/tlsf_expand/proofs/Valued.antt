-- A comparison of a bus with values says that one of the values stands at the bus.
use Rattle.std.proofs.Common.{◌≡◌, ℕ, suc, ◌+◌, ◌<◌, ◌≤◌, Bool, true, false, List, [], ◌∷◌, length, Option, None, Some, refl, sym, ap, ◌∙◌, arith}
use Rattle.std.proofs.lemmas.Bool.{and_parts, eqb-true}
use Rattle.std.specs.Prelude.{not, ◌&&◌, ◌||◌, ◌==◌}
use Rattle.std.specs.Bool.{beq}
use mathlib.Core.Bool.{or_assoc, and-true, or-false}
use Rattle.letters_and_lassos.specs.Word.{Word, letter_at}
use Rattle.letters_and_lassos.specs.Signals.{has}
use Rattle.ltl_formula.specs.declared.nodes.FormulaId.{FormulaId}
use Rattle.ltl_formula.specs.declared.nodes.Node.{Node}
use Rattle.ltl_formula.specs.Nodes.{Grows}
use Rattle.tlsf_syntax.specs.Tree.{Pattern}
use Rattle.tlsf_values.specs.declared.work.Work.{Work}
use Rattle.tlsf_values.specs.declared.formula.Pairing.TheVariants as pairing
use Rattle.tlsf_values.specs.Outcomes.{Outcome}
use Rattle.tlsf_values.specs.Patterns.{are_wide, joined_to, or_truth, bit_made, bits_made, values_made}
use Rattle.tlsf_expand.specs.Senses.{has_bits, has_value}
use Rattle.tlsf_expand.proofs.Kept.{IsGood, Keeps, keeps_go_on, keeps_given, keeps_map}
use Rattle.tlsf_expand.proofs.Alike.{HasTruths, grown_truths}
use Rattle.tlsf_expand.proofs.Made.{keeps_truth_node, keeps_signal, keeps_not, keeps_and, keeps_or}
use Rattle.tlsf_expand.proofs.Bools.{and_regroup, beq_true, beq_false, same_function}

-- each value fits between this signal and the last of all
abbrev pub FitFrom : ℕ → ℕ → List Pattern → Type 0
FitFrom top first [] = Unit {0}
FitFrom top first (p ∷ ps) = (first + length p.bits ≤ top) × FitFrom top first ps

pub wide_fit : (top first width : ℕ) (ps : List Pattern) → first + width ≤ top → are_wide width ps ≡ true → FitFrom top first ps
wide_fit top first width [] small e = tt
wide_fit top first width (p ∷ ps) small e =
    let both = and_parts (length p.bits == width) (are_wide width ps) e in
    let same : length p.bits ≡ width = eqb-true (length p.bits) width both.0 in
    (omega arith, wide_fit top first width ps small both.1)

pub with_truths : (w : Word) {f g : ℕ → Bool} {id : FormulaId} {nodes : List Node} → f ≡ g → HasTruths w f id nodes → HasTruths w g id nodes
with_truths w e h = record { stands = h.stands; same = h.same ∙ e }

-- what was joined so far; nothing has the truth of nothing joined
data SoFar (w : Word) (empty : Bool) (f : ℕ → Bool) (nodes : List Node) : Option FormulaId → Type 0 where
  none_yet : f ≡ (λ (i : ℕ). empty) → SoFar w empty f nodes None
  some_yet : (id : FormulaId) → HasTruths w f id nodes → SoFar w empty f nodes (Some id)

grown_so_far : {w : Word} {empty : Bool} {f : ℕ → Bool} {old new : List Node} {o : Option FormulaId} → Grows old new → SoFar w empty f old o → SoFar w empty f new o
grown_so_far grows (none_yet e) = none_yet e
grown_so_far grows (some_yet id h) = some_yet id (grown_truths grows h)

module _ {top : ℕ} (w : Word) where
  pub keeps_truths : {old : List Node} {o : Outcome FormulaId} (f g : ℕ → Bool) → f ≡ g → Keeps top old (HasTruths w f) o → Keeps top old (HasTruths w g) o
  keeps_truths f g e h = keeps_map (HasTruths w g) (λ id nodes grows t. with_truths w e t) h

  keeps_or_truth : (place : ℕ) (empty : Bool) (f : ℕ → Bool) (o : Option FormulaId) (work : Work) → IsGood top work.formulas → SoFar w empty f work.formulas o
      → Keeps top work.formulas (HasTruths w f) (or_truth place empty o work)
  keeps_or_truth place empty f _ work list (none_yet e) = keeps_truths (λ i. empty) f (sym e) (keeps_truth_node w place empty work list)
  keeps_or_truth place empty f _ work list (some_yet id h) = keeps_given _ id work list h

  keeps_joined_and : (place : ℕ) (f g : ℕ → Bool) (o : Option FormulaId) (id : FormulaId) (work : Work) → IsGood top work.formulas → SoFar w true f work.formulas o → HasTruths w g id work.formulas
      → Keeps top work.formulas (HasTruths w (λ i. f i && g i)) (joined_to place pairing.And o id work)
  keeps_joined_and place f g _ id work list (none_yet e) h = keeps_given _ id work list (with_truths w (ap {B = ℕ → Bool} (λ (u : ℕ → Bool) (i : ℕ). u i && g i) (sym e)) h)
  keeps_joined_and place f g _ id work list (some_yet before b) h = keeps_and w place work before id f g list b h

  keeps_joined_or : (place : ℕ) (f g : ℕ → Bool) (o : Option FormulaId) (id : FormulaId) (work : Work) → IsGood top work.formulas → SoFar w false f work.formulas o → HasTruths w g id work.formulas
      → Keeps top work.formulas (HasTruths w (λ i. f i || g i)) (joined_to place pairing.Or o id work)
  keeps_joined_or place f g _ id work list (none_yet e) h = keeps_given _ id work list (with_truths w (ap {B = ℕ → Bool} (λ (u : ℕ → Bool) (i : ℕ). u i || g i) (sym e)) h)
  keeps_joined_or place f g _ id work list (some_yet before b) h = keeps_or w place work before id f g list b h

  keeps_bit : (place signal : ℕ) (b : Bool) (work : Work) → IsGood top work.formulas → signal < top
      → Keeps top work.formulas (HasTruths w (λ i. beq (has (letter_at w i).0 signal) b)) (bit_made place signal b work)
  keeps_bit place signal true work list small =
      keeps_truths (λ i. has (letter_at w i).0 signal) (λ i. beq (has (letter_at w i).0 signal) true) (same_function _ _ (λ i. sym (beq_true (has (letter_at w i).0 signal)))) (keeps_signal w place signal small work list)
  keeps_bit place signal false work list small =
      keeps_truths (λ i. not (has (letter_at w i).0 signal)) (λ i. beq (has (letter_at w i).0 signal) false) (same_function _ _ (λ i. sym (beq_false (has (letter_at w i).0 signal))))
      (keeps_go_on _ _ (keeps_signal w place signal small work list) (λ id work1 list1 grows h. keeps_not w place work1 id (λ i. has (letter_at w i).0 signal) list1 h))

  keeps_bits : (place signal : ℕ) (bits : List (Option Bool)) (f : ℕ → Bool) (o : Option FormulaId) (work : Work) → IsGood top work.formulas → signal + length bits ≤ top → SoFar w true f work.formulas o
      → Keeps top work.formulas (HasTruths w (λ i. f i && has_bits (letter_at w i).0 signal bits)) (bits_made place signal bits o work)
  keeps_bits place signal [] f o work list small h =
      keeps_truths f (λ i. f i && true) (same_function _ _ (λ i. sym (and-true (f i)))) (keeps_or_truth place true f o work list h)
  keeps_bits place signal (None ∷ bits) f o work list small h =
      let fit : signal + suc (length bits) ≤ top = small in keeps_bits place (signal + 1) bits f o work list (omega arith) h
  keeps_bits place signal (Some b ∷ bits) f o work list small h =
      let fit : signal + suc (length bits) ≤ top = small in
      keeps_go_on _ _ (keeps_bit place signal b work list (omega arith)) (λ id work1 list1 grows1 t.
      keeps_go_on _ _ (keeps_joined_and place f (λ i. beq (has (letter_at w i).0 signal) b) o id work1 list1 (grown_so_far grows1 h) t) (λ both work2 list2 grows2 t2.
      keeps_truths (λ i. (f i && beq (has (letter_at w i).0 signal) b) && has_bits (letter_at w i).0 (signal + 1) bits) _
      (same_function _ _ (λ i. and_regroup (f i) (beq (has (letter_at w i).0 signal) b) (has_bits (letter_at w i).0 (signal + 1) bits)))
      (keeps_bits place (signal + 1) bits (λ i. f i && beq (has (letter_at w i).0 signal) b) (Some both) work2 list2 (omega arith) (some_yet both t2))))

  keeps_values : (place first : ℕ) (ps : List Pattern) (f : ℕ → Bool) (o : Option FormulaId) (work : Work) → IsGood top work.formulas → FitFrom top first ps → SoFar w false f work.formulas o
      → Keeps top work.formulas (HasTruths w (λ i. f i || has_value w first ps i)) (values_made place first ps o work)
  keeps_values place first [] f o work list fit h =
      keeps_truths f (λ i. f i || false) (same_function _ _ (λ i. sym (or-false (f i)))) (keeps_or_truth place false f o work list h)
  keeps_values place first (p ∷ ps) f o work list fit h =
      keeps_go_on _ _ (keeps_bits place first p.bits (λ i. true) None work list fit.0 (none_yet refl)) (λ id work1 list1 grows1 t.
      keeps_go_on _ _ (keeps_joined_or place f (λ i. has_bits (letter_at w i).0 first p.bits) o id work1 list1 (grown_so_far grows1 h) t) (λ either work2 list2 grows2 t2.
      keeps_truths (λ i. (f i || has_bits (letter_at w i).0 first p.bits) || has_value w first ps i) _
      (same_function _ _ (λ i. or_assoc (f i) (has_bits (letter_at w i).0 first p.bits) (has_value w first ps i)))
      (keeps_values place first ps (λ i. f i || has_bits (letter_at w i).0 first p.bits) (Some either) work2 list2 fit.1 (some_yet either t2))))

  -- one of these values stands there
  pub keeps_one_value : (place first : ℕ) (ps : List Pattern) (work : Work) → IsGood top work.formulas → FitFrom top first ps → Keeps top work.formulas (HasTruths w (has_value w first ps)) (values_made place first ps None work)
  keeps_one_value place first ps work list fit = keeps_values place first ps (λ i. false) None work list fit (none_yet refl)
