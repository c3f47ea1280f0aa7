-- What a form does once its parts are evaluated, on values and on senses that are alike.
use Rattle.std.proofs.Common.{◌≡◌, ℕ, ◌+◌, ◌<◌, ◌≤◌, Bool, true, List, [], ◌∷◌, ◌++◌, map, ℤ, None, refl, sym, subst, ◌∙◌, append_assoc, arith}
use Rattle.std.proofs.lemmas.Bool.{and_parts}
use Rattle.std.proofs.lemmas.Int.{ints}
use Rattle.std.proofs.lemmas.List.{append-nil}
use Rattle.std.specs.Prelude.{◌&&◌, pos, negsuc, int_le, int_lt, unsigned_abs}
use Rattle.std.specs.Ordering.{int_eq}
use Rattle.letters_and_lassos.specs.Word.{Word, letter_at}
use Rattle.letters_and_lassos.specs.Signals.{has}
use Rattle.ltl_formula.specs.declared.nodes.Node.{Node}
use Rattle.spec_faults.specs.declared.code.SpecCode.{SpecCode}
use Rattle.spec_faults.specs.declared.code.SpecCode.TheVariants.{WrongSort}
use Rattle.tlsf_syntax.specs.declared.expr.Op.{Op}
use Rattle.tlsf_syntax.specs.declared.expr.Op.TheVariants as op
use Rattle.tlsf_syntax.specs.Tree.{Tree, Trees}
use Rattle.tlsf_values.specs.declared.work.Work.{Work}
use Rattle.tlsf_values.specs.declared.value.Value.{Value}
use Rattle.tlsf_values.specs.declared.value.Value.TheVariants.{Number, Set, Flat}
use Rattle.tlsf_values.specs.declared.formula.Formula.{Formula}
use Rattle.tlsf_values.specs.declared.formula.Connective.{Connective}
use Rattle.tlsf_values.specs.declared.formula.Connective.TheVariants as connective
use Rattle.tlsf_values.specs.Outcomes.{Outcome, gives, Checked, fine, faulty, checked}
use Rattle.tlsf_values.specs.Names.{Names, BusRange, bus_at}
use Rattle.tlsf_values.specs.Sets.{set_of}
use Rattle.tlsf_values.specs.Steps.{step_count}
use Rattle.tlsf_values.specs.Sorts.{number_in, truth_in, set_in, bus_in, formula_in}
use Rattle.tlsf_values.specs.Counts.{count_in, count_value, joined_over}
use Rattle.tlsf_values.specs.Values.{span_start, bit_value, numbers_in, steps_value, window_parts, low_of, high_of, run_of}
use Rattle.tlsf_expand.specs.Senses as senses
use Rattle.tlsf_expand.specs.Senses.{Sense, a_number, a_set, a_bus, a_member, a_truth, a_formula, nothing, true_in, for_members}
use Rattle.tlsf_expand.specs.WrittenTruth.{in_set, in_between}
use Rattle.tlsf_expand.proofs.Kept.{IsGood, Keeps, refuses, keeps_go_on, keeps_given, keeps_choose}
use Rattle.tlsf_expand.proofs.Alike.{Alike, alike_number, alike_set, alike_bus, alike_member, alike_truth, alike_formula, AlikeFormula}
use Rattle.tlsf_expand.proofs.Made.{keeps_signal}
use Rattle.tlsf_expand.proofs.Connected.{keeps_formula_in}
use Rattle.tlsf_expand.proofs.Counted.{keeps_counted, keeps_count, keeps_all_window, keeps_some_window}
use Rattle.tlsf_expand.proofs.Joined.{MakesEach, keeps_for_each, keeps_for_some}
use Rattle.tlsf_expand.proofs.Named.{HasPlainNames, AlikeEach, each_none, each_more}

-- a bus that was found is the sense's
pub data AlikeBus : Checked ℕ → Sense → Type 0 where
  alike_found : (k : ℕ) → AlikeBus (fine k) (a_bus k)
  alike_other : (code : SpecCode) (place : ℕ) (s : Sense) → AlikeBus (faulty code place) s

within : (z : ℤ) (width : ℕ) → (int_le (pos 0) z && int_lt z (pos width)) ≡ true → unsigned_abs z < width
within z width e = let both = and_parts (int_le (pos 0) z) (int_lt z (pos width)) e in grind (arith, ints, both.0, both.1)

pub bus_alike : {w : Word} (place : ℕ) {nodes : List Node} {v : Value} {s : Sense} → Alike w nodes v s → AlikeBus (bus_in place v) s
bus_alike place (alike_bus k) = alike_found k
bus_alike place (alike_number z) = alike_other WrongSort place _
bus_alike place (alike_set zs) = alike_other WrongSort place _
bus_alike place (alike_member k) = alike_other WrongSort place _
bus_alike place (alike_truth b) = alike_other WrongSort place _
bus_alike place (alike_formula id truths h) = alike_other WrongSort place _

numbers-are : {w : Word} (nodes : List Node) (so_far : List ℤ) (ts : Trees) (vs : List Value) (ss : List Sense) (zs : List ℤ) → AlikeEach w nodes ts vs ss → numbers_in so_far ts vs ≡ fine zs → so_far ++ senses.numbers_in ss ≡ zs
numbers-are nodes so_far _ _ _ zs each_none e = append-nil so_far ∙ (let x : ◌≡◌ {A = List ℤ} so_far zs = cc in x)
numbers-are nodes so_far _ _ _ zs (each_more t ts _ _ vs ss (alike_number z) more) e =
    sym (append_assoc so_far (z ∷ []) (senses.numbers_in ss)) ∙ numbers-are nodes (so_far ++ z ∷ []) ts vs ss zs more e
numbers-are nodes so_far _ _ _ zs (each_more t ts _ _ vs ss (alike_set _) more) e = cc
numbers-are nodes so_far _ _ _ zs (each_more t ts _ _ vs ss (alike_bus _) more) e = cc
numbers-are nodes so_far _ _ _ zs (each_more t ts _ _ vs ss (alike_member _) more) e = cc
numbers-are nodes so_far _ _ _ zs (each_more t ts _ _ vs ss (alike_truth _) more) e = cc
numbers-are nodes so_far _ _ _ zs (each_more t ts _ _ vs ss (alike_formula _ _ _) more) e = cc

-- the joined formulas of members are for each, or for some, of them
pub record JoinsAs (top : ℕ) (w : Word) (c : Connective) (o : Op) : Type 0 where
  pub joins : (place : ℕ) (f : ℤ → Work → Outcome Formula) (g : ℤ → Sense) (zs : List ℤ) (work : Work) → IsGood top work.formulas → MakesEach top w work.formulas f g
      → Keeps top work.formulas (λ y nodes. AlikeFormula w nodes y (for_members o (map g zs))) (joined_over place c f zs None work)

module _ {top : ℕ} (w : Word) where
  keeps_bit_value : (place at : ℕ) (bus : BusRange) (z : ℤ) (work : Work) → IsGood top work.formulas → bus.first + bus.width ≤ top
      → Keeps top work.formulas (λ v nodes. Alike w nodes v (a_formula (λ i. has (letter_at w i).0 (bus.first + unsigned_abs z)))) (bit_value place at bus z work)
  keeps_bit_value place at bus z work list small =
      keeps_choose (int_le (pos 0) z && int_lt z (pos bus.width)) _ _ work _
      (λ inside.
      let low : unsigned_abs z < bus.width = within z bus.width inside in
      keeps_go_on _ _ (keeps_signal w place (bus.first + unsigned_abs z) (omega arith) work list) (λ id work1 list1 grows1 t. keeps_given _ (Flat id) work1 list1 (alike_formula id _ t)))
      (λ _. refuses _ _)

  pub keeps_index : (names : Names) → HasPlainNames top names → (place at : ℕ) (b : Checked ℕ) (v : Value) (s t : Sense) (work : Work) → IsGood top work.formulas → AlikeBus b s → Alike w work.formulas v t
      → Keeps top work.formulas (λ v nodes. Alike w nodes v (senses.bit w names s t))
      (checked b (λ k w. checked (number_in at v) (λ z w. bit_value place at (bus_at names k) z w) w) work)
  keeps_index names has place at _ _ _ _ work list (alike_found k) (alike_number z) = keeps_bit_value place at (bus_at names k) z work list (has.buses_below k)
  keeps_index names has place at _ _ _ _ work list _ _ = refuses _ _

  pub keeps_width : (names : Names) (at : ℕ) (v : Value) (s : Sense) (work : Work) → IsGood top work.formulas → Alike w work.formulas v s
      → Keeps top work.formulas (λ v nodes. Alike w nodes v (senses.width names s)) (checked (bus_in at v) (λ k w. gives (Number (pos (bus_at names k).width)) w) work)
  keeps_width names at _ _ work list (alike_bus k) = keeps_given _ _ work list (alike_number _)
  keeps_width names at _ _ work list _ = refuses _ _

  pub keeps_set : (ts : Trees) (vs : List Value) (ss : List Sense) (work : Work) → IsGood top work.formulas → AlikeEach w work.formulas ts vs ss
      → Keeps top work.formulas (λ v nodes. Alike w nodes v (a_set (set_of (senses.numbers_in ss)))) (checked (numbers_in [] ts vs) (λ zs w. gives (Set (set_of zs)) w) work)
  keeps_set ts vs ss work list each = by (numbers_in [] ts vs) refl
    where
      by : (c : Checked (List ℤ)) → numbers_in [] ts vs ≡ c → Keeps top work.formulas (λ v nodes. Alike w nodes v (a_set (set_of (senses.numbers_in ss)))) (checked c (λ zs w. gives (Set (set_of zs)) w) work)
      by (fine zs) is = keeps_given _ (Set (set_of zs)) work list (subst (λ xs. Alike w work.formulas (Set (set_of zs)) (a_set (set_of xs))) (sym (numbers-are work.formulas [] ts vs ss zs each is)) (alike_set (set_of zs)))
      by (faulty code place) is = refuses _ _

  pub keeps_steps : (place at1 at2 at3 : ℕ) (a b c : Value) (s t u : Sense) (work : Work) → IsGood top work.formulas → Alike w work.formulas a s → Alike w work.formulas b t → Alike w work.formulas c u
      → Keeps top work.formulas (λ v nodes. Alike w nodes v (senses.steps_set s t u))
      (checked (number_in at1 a) (λ x w. checked (number_in at2 b) (λ y w. checked (number_in at3 c) (λ z w. steps_value place x y z w) w) w) work)
  keeps_steps place at1 at2 at3 _ _ _ _ _ _ work list (alike_number x) (alike_number y) (alike_number z) =
      keeps_choose (int_eq x y) _ _ work _ (λ _. refuses _ _)
      (λ _. keeps_go_on _ _ (keeps_counted w place (step_count x y z) work list) (λ _ work1 list1 grows1 _. keeps_given _ _ work1 list1 (alike_set _)))
  keeps_steps place at1 at2 at3 _ _ _ _ _ _ work list _ _ _ = refuses _ _

  pub keeps_steps_on : (place at1 at2 : ℕ) (m v : Value) (s t : Sense) (work : Work) → IsGood top work.formulas → Alike w work.formulas m s → Alike w work.formulas v t
      → Keeps top work.formulas (λ v nodes. Alike w nodes v (senses.steps_on w s t))
      (checked (number_in at1 m) (λ z w. checked (formula_in at2 v) (λ x w. checked (count_in at1 z) (λ k w. count_value place k x w) w) w) work)
  keeps_steps_on place at1 at2 _ v _ t work list (alike_number (pos n)) h =
      keeps_formula_in w at2 v t _ work _ h (λ x hx. keeps_count w place n x t work list hx)
  keeps_steps_on place at1 at2 _ v _ t work list (alike_number (negsuc n)) h =
      keeps_formula_in w at2 v t _ work _ h (λ x hx. refuses _ _)
  keeps_steps_on place at1 at2 _ v _ t work list _ h = refuses _ _

  pub keeps_all_window_parts : (place : ℕ) (t u p : Tree) (m n v : Value) (a b c : Sense) (work : Work) → IsGood top work.formulas
      → Alike w work.formulas m a → Alike w work.formulas n b → Alike w work.formulas v c
      → Keeps top work.formulas (λ v nodes. Alike w nodes v (senses.windowed w op.Globally a b c)) (window_parts place connective.And t u p m n v work)
  keeps_all_window_parts place t u p _ _ v _ _ c work list (alike_number (pos m)) (alike_number (pos n)) h =
      keeps_formula_in w (span_start p) v c _ work _ h (λ x hx. keeps_all_window w place m n x c work list hx)
  keeps_all_window_parts place t u p _ _ v _ _ c work list (alike_number (pos m)) (alike_number (negsuc n)) h =
      keeps_formula_in w (span_start p) v c _ work _ h (λ x hx. refuses _ _)
  keeps_all_window_parts place t u p _ _ v _ _ c work list (alike_number (negsuc m)) (alike_number n) h =
      keeps_formula_in w (span_start p) v c _ work _ h (λ x hx. refuses _ _)
  keeps_all_window_parts place t u p _ _ v _ _ c work list _ _ h = refuses _ _

  pub keeps_some_window_parts : (place : ℕ) (t u p : Tree) (m n v : Value) (a b c : Sense) (work : Work) → IsGood top work.formulas
      → Alike w work.formulas m a → Alike w work.formulas n b → Alike w work.formulas v c
      → Keeps top work.formulas (λ v nodes. Alike w nodes v (senses.windowed w op.Finally a b c)) (window_parts place connective.Or t u p m n v work)
  keeps_some_window_parts place t u p _ _ v _ _ c work list (alike_number (pos m)) (alike_number (pos n)) h =
      keeps_formula_in w (span_start p) v c _ work _ h (λ x hx. keeps_some_window w place m n x c work list hx)
  keeps_some_window_parts place t u p _ _ v _ _ c work list (alike_number (pos m)) (alike_number (negsuc n)) h =
      keeps_formula_in w (span_start p) v c _ work _ h (λ x hx. refuses _ _)
  keeps_some_window_parts place t u p _ _ v _ _ c work list (alike_number (negsuc m)) (alike_number n) h =
      keeps_formula_in w (span_start p) v c _ work _ h (λ x hx. refuses _ _)
  keeps_some_window_parts place t u p _ _ v _ _ c work list _ _ h = refuses _ _

  pub keeps_truth_in : (at : ℕ) (v : Value) (s : Sense) (work : Work) → IsGood top work.formulas → Alike w work.formulas v s
      → Keeps top work.formulas (λ b nodes. s ≡ a_truth b) (checked (truth_in at v) (λ b w. gives b w) work)
  keeps_truth_in at _ _ work list (alike_truth b) = keeps_given _ b work list refl
  keeps_truth_in at _ _ work list _ = refuses _ _

  -- ---- the members of a range

  pub joins_all : JoinsAs top w connective.And op.And
  joins_all = record { joins = keeps_for_each w }

  pub joins_some : JoinsAs top w connective.Or op.Or
  joins_some = record { joins = keeps_for_some w }

  pub keeps_members : (c : Connective) (o : Op) → JoinsAs top w c o → (place at : ℕ) (v : Value) (s : Sense) (f : ℤ → Work → Outcome Formula) (g : ℤ → Sense) (work : Work) → IsGood top work.formulas
      → Alike w work.formulas v s → MakesEach top w work.formulas f g
      → Keeps top work.formulas (λ y nodes. AlikeFormula w nodes y (for_members o (map g (in_set s)))) (checked (set_in at v) (λ zs w. joined_over place c f zs None w) work)
  keeps_members c o j place at _ _ f g work list (alike_set zs) makes = j.joins place f g zs work list makes
  keeps_members c o j place at _ _ f g work list _ makes = refuses _ _

  pub keeps_between : (c : Connective) (o : Op) → JoinsAs top w c o → (place at1 at2 : ℕ) (low_strict high_strict : Bool) (a b : Value) (s t : Sense) (f : ℤ → Work → Outcome Formula) (g : ℤ → Sense) (work : Work)
      → IsGood top work.formulas → Alike w work.formulas a s → Alike w work.formulas b t → MakesEach top w work.formulas f g
      → Keeps top work.formulas (λ y nodes. AlikeFormula w nodes y (for_members o (map g (in_between low_strict s high_strict t))))
      (checked (number_in at1 a) (λ x w. checked (number_in at2 b) (λ y w. joined_over place c f (run_of (low_of low_strict x) (high_of high_strict y)) None w) w) work)
  keeps_between c o j place at1 at2 low_strict high_strict _ _ _ _ f g work list (alike_number x) (alike_number y) makes = j.joins place f g _ work list makes
  keeps_between c o j place at1 at2 low_strict high_strict _ _ _ _ f g work list _ _ makes = refuses _ _
