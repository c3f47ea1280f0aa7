-- Evaluation and reading agree: where an expression has a value, it has the same sense, and a flat formula has the truths of the
-- written one. By induction on the depth that is left.
use Rattle.std.proofs.Common.{◌≡◌, ℕ, zero, suc, ◌-◌, true, List, [], ◌∷◌, ◌++◌, length, Option, None, Some, refl, sym, ap, subst, ◌∙◌, append_assoc}
use Rattle.std.proofs.lemmas.List.{append-nil}
use Rattle.std.specs.Prelude.{◌==◌}
use Rattle.letters_and_lassos.specs.Word.{Word}
use Rattle.ltl_formula.specs.declared.nodes.Node.{Node}
use Rattle.spec_faults.specs.declared.code.SpecCode.TheVariants.{WrongSort}
use Rattle.tlsf_syntax.specs.declared.expr.Op.{Op}
use Rattle.tlsf_syntax.specs.declared.expr.Op.TheVariants as op
use Rattle.tlsf_syntax.specs.Tree.{Tree, Trees, Links, Ranges, Named, number, truth, named, call, index, size_of, paren, set, steps, chain, pair, prefix, count, window, big, no_trees, tree, no_links, link, no_ranges, members, between, Body, plain, guarded, Alternative}
use Rattle.tlsf_values.specs.declared.work.Work.{Work}
use Rattle.tlsf_values.specs.declared.value.Value.{Value}
use Rattle.tlsf_values.specs.declared.value.Value.TheVariants.{Number, Truth, Flat}
use Rattle.tlsf_values.specs.declared.formula.Connective.{Connective}
use Rattle.tlsf_values.specs.declared.formula.Connective.TheVariants as connective
use Rattle.tlsf_values.specs.declared.work.TheConstants.{MOST_DEPTH}
use Rattle.tlsf_values.specs.Outcomes.{gives, go_on, faulty}
use Rattle.tlsf_values.specs.Names.{Names, Binding, Meaning, look_up}
use Rattle.tlsf_values.specs.Sorts.{bus_in}
use Rattle.tlsf_values.specs.Counts.{joining_of, window_of}
use Rattle.tlsf_values.specs.Values.{Evaluator, evaluator, span_start, tree_count, values_at, arguments_at, meaning_value, call_value, guard_value, chosen_value, body_value, is_never_a_bus, word_value, chain_value, window_at, bind, big_value, big_at, form_value, value_at}
use Rattle.tlsf_expand.specs.Senses as senses
use Rattle.tlsf_expand.specs.WrittenTruth as written
use Rattle.tlsf_expand.specs.Senses.{Sense, a_number, a_truth, a_formula, nothing}
use Rattle.tlsf_expand.specs.WrittenTruth.{BoundSense, Reader, Referent, is_bound, is_declared, referent, name_sense, bind_senses, call_sense, guard_sense, if_guard, chosen_sense, body_sense, chain_sense, bind_number, big_sense, form_sense, reader, sense_at}
use Rattle.tlsf_expand.proofs.Kept.{IsGood, Keeps, refuses, keeps_go_on, keeps_given, keeps_choose, keeps_map}
use Rattle.tlsf_expand.proofs.Alike.{Alike, alike_number, alike_bus, alike_member, alike_truth, alike_formula, AlikeFormula, AlikeBindings, alike_none, alike_more, grown, grown_bindings}
use Rattle.tlsf_expand.proofs.Made.{keeps_signal}
use Rattle.tlsf_expand.proofs.Connected.{keeps_formula_in, keeps_as_value}
use Rattle.tlsf_expand.proofs.Counted.{keeps_counted}
use Rattle.tlsf_expand.proofs.Operated.{keeps_operated, keeps_prefixed}
use Rattle.tlsf_expand.proofs.Named.{HasPlainNames, plain_bus, plain_member, plain_signal, plain_definition, plain_enumeration, plain_undeclared, AlikeMeaning, alike_bound, alike_declared, AlikeEach, each_none, each_more, look_alike}
use Rattle.tlsf_expand.proofs.Parts.{AlikeBus, alike_other, bus_alike, keeps_index, keeps_width, keeps_set, keeps_steps, keeps_steps_on, keeps_all_window_parts, keeps_some_window_parts, keeps_truth_in, JoinsAs, joins_all, joins_some, keeps_members, keeps_between}

-- an evaluator and a reader of one depth agree
pub record Agrees (top : ℕ) (w : Word) (r : Evaluator) (m : Reader) : Type 0 where
  pub value : (bound : List Binding) (ss : List BoundSense) (t : Tree) (work : Work) → IsGood top work.formulas → AlikeBindings w work.formulas bound ss
      → Keeps top work.formulas (λ v nodes. Alike w nodes v (m.sense ss t)) (r.value bound t work)
  pub body : (bound : List Binding) (ss : List BoundSense) (place : ℕ) (b : Body) (work : Work) → IsGood top work.formulas → AlikeBindings w work.formulas bound ss
      → Keeps top work.formulas (λ v nodes. Alike w nodes v (m.body ss b)) (r.body bound place b work)

-- the values of some expressions, after those so far
record Followed (w : Word) (so_far : List Value) (ts : Trees) (ss : List Sense) (vs : List Value) (nodes : List Node) : Type 0 where
  more : List Value
  is : vs ≡ so_far ++ more
  each : AlikeEach w nodes ts more ss

module _ {top : ℕ} (w : Word) (names : Names) (has : HasPlainNames top names) (r : Evaluator) (m : Reader) (agrees : Agrees top w r m) where
  -- ---- names and calls

  keeps_meaning : (place : ℕ) (meaning : Meaning) (ref : Referent) (work : Work) → IsGood top work.formulas → AlikeMeaning top w work.formulas meaning ref
      → Keeps top work.formulas (λ v nodes. Alike w nodes v (name_sense w m ref)) (meaning_value r place meaning work)
  keeps_meaning place _ _ work list (alike_bound v s h) = keeps_given _ v work list h
  keeps_meaning place _ _ work list (alike_declared _ (plain_bus k)) = keeps_given _ _ work list (alike_bus k)
  keeps_meaning place _ _ work list (alike_declared _ (plain_member k)) = keeps_given _ _ work list (alike_member k)
  keeps_meaning place _ _ work list (alike_declared _ (plain_signal k small)) =
      keeps_go_on _ _ (keeps_signal w place k small work list) (λ id work1 list1 grows1 t. keeps_given _ (Flat id) work1 list1 (alike_formula id _ t))
  keeps_meaning place _ _ work list (alike_declared _ (plain_definition [] body)) = agrees.body [] [] place body work list alike_none
  keeps_meaning place _ _ work list (alike_declared _ (plain_definition (word ∷ words) body)) = refuses _ _
  keeps_meaning place _ _ work list (alike_declared _ plain_enumeration) = refuses _ _
  keeps_meaning place _ _ work list (alike_declared _ plain_undeclared) = refuses _ _

  keeps_found : (place : ℕ) (meaning : Meaning) (ref : Referent) (work : Work) → IsGood top work.formulas → AlikeMeaning top w work.formulas meaning ref
      → Keeps top work.formulas (λ b nodes. AlikeBus b (name_sense w m ref)) (go_on (meaning_value r place meaning work) (λ v w. gives (bus_in place v) w))
  keeps_found place meaning ref work list h = keeps_go_on _ _ (keeps_meaning place meaning ref work list h) (λ v work1 list1 grows1 hv. keeps_given _ (bus_in place v) work1 list1 (bus_alike place hv))

  keeps_word : (place : ℕ) (meaning : Meaning) (ref : Referent) (work : Work) → IsGood top work.formulas → AlikeMeaning top w work.formulas meaning ref
      → Keeps top work.formulas (λ b nodes. AlikeBus b (name_sense w m ref)) (word_value r place meaning work)
  keeps_word place meaning ref work list h =
      keeps_choose (is_never_a_bus meaning) _ _ work _
      (λ _. keeps_given _ (faulty WrongSort place) work list (alike_other WrongSort place _))
      (λ _. keeps_found place meaning ref work list h)

  keeps_values_at : (bound : List Binding) (ss : List BoundSense) (so_far : List Value) (ts : Trees) (work : Work) → IsGood top work.formulas → AlikeBindings w work.formulas bound ss
      → Keeps top work.formulas (Followed w so_far ts (written.senses m ss ts)) (values_at r bound so_far ts work)
  keeps_values_at bound ss so_far no_trees work list h = keeps_given _ so_far work list (record { more = []; is = sym (append-nil so_far); each = each_none })
  keeps_values_at bound ss so_far (tree t ts) work list h =
      keeps_go_on _ _ (agrees.value bound ss t work list h) (λ v work1 list1 grows1 hv.
      keeps_map _ (λ vs nodes grows f. record {
        more = v ∷ f.more;
        is = f.is ∙ append_assoc so_far (v ∷ []) f.more;
        each = each_more t ts v (m.sense ss t) f.more (written.senses m ss ts) (grown grows hv) f.each;
      })
      (keeps_values_at bound ss (so_far ++ v ∷ []) ts work1 list1 (grown_bindings grows1 h)))

  keeps_arguments : (bound : List Binding) (ss : List BoundSense) (so_far : List Binding) (before : List BoundSense) (words : List Named) (ts : Trees) (work : Work) → IsGood top work.formulas
      → AlikeBindings w work.formulas bound ss → AlikeBindings w work.formulas so_far before
      → Keeps top work.formulas (λ inner nodes. AlikeBindings w nodes inner (bind_senses words (written.senses m ss ts) before)) (arguments_at r bound so_far words ts work)
  keeps_arguments bound ss so_far before [] ts work list h hb = keeps_given _ so_far work list hb
  keeps_arguments bound ss so_far before (word ∷ words) no_trees work list h hb = keeps_given _ so_far work list hb
  keeps_arguments bound ss so_far before (word ∷ words) (tree t ts) work list h hb =
      keeps_go_on _ _ (agrees.value bound ss t work list h) (λ v work1 list1 grows1 hv.
      keeps_arguments bound ss (bind word v so_far) _ words ts work1 list1 (grown_bindings grows1 h)
      (alike_more word.name v (m.sense ss t) so_far before hv (grown_bindings grows1 hb)))

  keeps_call : (bound : List Binding) (ss : List BoundSense) (place at : ℕ) (meaning : Meaning) (ref : Referent) (ts : Trees) (work : Work) → IsGood top work.formulas
      → AlikeBindings w work.formulas bound ss → AlikeMeaning top w work.formulas meaning ref
      → Keeps top work.formulas (λ v nodes. Alike w nodes v (call_sense m ss ref ts)) (call_value r bound place at meaning ts work)
  keeps_call bound ss place at _ _ ts work list h (alike_bound v s hv) = refuses _ _
  keeps_call bound ss place at _ _ ts work list h (alike_declared _ (plain_bus k)) = refuses _ _
  keeps_call bound ss place at _ _ ts work list h (alike_declared _ (plain_member k)) = refuses _ _
  keeps_call bound ss place at _ _ ts work list h (alike_declared _ (plain_signal k small)) = refuses _ _
  keeps_call bound ss place at _ _ ts work list h (alike_declared _ plain_enumeration) = refuses _ _
  keeps_call bound ss place at _ _ ts work list h (alike_declared _ plain_undeclared) = refuses _ _
  keeps_call bound ss place at _ _ ts work list h (alike_declared _ (plain_definition words body)) =
      keeps_choose (tree_count ts == length words) _ _ work _
      (λ _. keeps_go_on _ _ (keeps_arguments bound ss [] [] words ts work list h alike_none) (λ inner work1 list1 grows1 hi.
      agrees.body inner (bind_senses words (written.senses m ss ts) []) place body work1 list1 hi))
      (λ _. refuses _ _)

  keeps_guard : (bound : List Binding) (ss : List BoundSense) (guard : Option Tree) (work : Work) → IsGood top work.formulas → AlikeBindings w work.formulas bound ss
      → Keeps top work.formulas (λ b nodes. guard_sense m ss guard ≡ a_truth b) (guard_value r bound guard work)
  keeps_guard bound ss None work list h = keeps_given _ true work list refl
  keeps_guard bound ss (Some t) work list h =
      keeps_go_on _ _ (agrees.value bound ss t work list h) (λ v work1 list1 grows1 hv. keeps_truth_in w (span_start t) v (m.sense ss t) work1 list1 hv)

  keeps_chosen : (bound : List Binding) (ss : List BoundSense) (place : ℕ) (alternatives : List Alternative) (work : Work) → IsGood top work.formulas → AlikeBindings w work.formulas bound ss
      → Keeps top work.formulas (λ v nodes. Alike w nodes v (chosen_sense m ss alternatives)) (chosen_value r bound place alternatives work)
  keeps_chosen bound ss place [] work list h = refuses _ _
  keeps_chosen bound ss place (a ∷ rest) work list h =
      keeps_go_on _ _ (keeps_guard bound ss a.guard work list h) (λ b work1 list1 grows1 is.
      keeps_choose b _ _ work1 _
      (λ yes_. keeps_map _ (λ v nodes grows hv. subst (Alike w nodes v) (sym (ap (λ g. if_guard g (m.sense ss a.value) (chosen_sense m ss rest)) (is ∙ ap a_truth yes_))) hv)
      (agrees.value bound ss a.value work1 list1 (grown_bindings grows1 h)))
      (λ no_. keeps_map _ (λ v nodes grows hv. subst (Alike w nodes v) (sym (ap (λ g. if_guard g (m.sense ss a.value) (chosen_sense m ss rest)) (is ∙ ap a_truth no_))) hv)
      (keeps_chosen bound ss place rest work1 list1 (grown_bindings grows1 h))))

  keeps_body : (bound : List Binding) (ss : List BoundSense) (place : ℕ) (b : Body) (work : Work) → IsGood top work.formulas → AlikeBindings w work.formulas bound ss
      → Keeps top work.formulas (λ v nodes. Alike w nodes v (body_sense m ss b)) (body_value r bound place b work)
  keeps_body bound ss place (plain t) work list h = agrees.value bound ss t work list h
  keeps_body bound ss place (guarded alternatives) work list h = keeps_chosen bound ss place alternatives work list h

  -- ---- chains and big operators

  keeps_chain : (bound : List Binding) (ss : List BoundSense) (own left : ℕ) (v : Value) (s : Sense) (links : Links) (work : Work) → IsGood top work.formulas → AlikeBindings w work.formulas bound ss
      → Alike w work.formulas v s → Keeps top work.formulas (λ v nodes. Alike w nodes v (chain_sense w names m ss s links)) (chain_value names r bound own left v links work)
  keeps_chain bound ss own left v s no_links work list h hv = keeps_given _ v work list hv
  keeps_chain bound ss own left v s (link o t more) work list h hv =
      keeps_go_on _ _ (agrees.value bound ss t work list h) (λ u work1 list1 grows1 hu.
      keeps_go_on _ _ (keeps_operated w names has o _ v u s (m.sense ss t) work1 list1 (grown grows1 hv) hu) (λ joined work2 list2 grows2 hj.
      keeps_chain bound ss own left joined (senses.operated w names o s (m.sense ss t)) more work2 list2 (grown_bindings grows2 (grown_bindings grows1 h)) hj))

  keeps_big : (c : Connective) (o : Op) → JoinsAs top w c o → (place : ℕ) (bound : List Binding) (ss : List BoundSense) (over : Ranges) (t : Tree) (work : Work) → IsGood top work.formulas
      → AlikeBindings w work.formulas bound ss → Keeps top work.formulas (λ x nodes. AlikeFormula w nodes x (big_sense m o ss over t)) (big_value r place c bound over t work)
  keeps_big c o j place bound ss no_ranges t work list h =
      keeps_go_on _ _ (agrees.value bound ss t work list h) (λ v work1 list1 grows1 hv.
      keeps_formula_in w (span_start t) v (m.sense ss t) _ work1 _ hv (λ x hx. keeps_given _ x work1 list1 hx))
  keeps_big c o j place bound ss (members word s more) t work list h =
      keeps_go_on _ _ (agrees.value bound ss s work list h) (λ v work1 list1 grows1 hv.
      keeps_members w c o j place (span_start s) v (m.sense ss s) (λ z w'. big_value r place c (bind word (Number z) bound) more t w') (λ z. big_sense m o (bind_number word z ss) more t) work1 list1 hv
      (record {
        each = λ z work2 list2 grows2. keeps_big c o j place (bind word (Number z) bound) (bind_number word z ss) more t work2 list2
            (alike_more word.name (Number z) (a_number z) bound ss (alike_number z) (grown_bindings grows2 (grown_bindings grows1 h)));
      }))
  keeps_big c o j place bound ss (between low low_strict word high_strict high more) t work list h =
      keeps_go_on _ _ (agrees.value bound ss low work list h) (λ a work1 list1 grows1 ha.
      keeps_go_on _ _ (agrees.value bound ss high work1 list1 (grown_bindings grows1 h)) (λ b work2 list2 grows2 hb.
      keeps_between w c o j place (span_start low) (span_start high) low_strict high_strict a b (m.sense ss low) (m.sense ss high)
      (λ z w'. big_value r place c (bind word (Number z) bound) more t w') (λ z. big_sense m o (bind_number word z ss) more t) work2 list2 (grown grows2 ha) hb
      (record {
        each = λ z work3 list3 grows3. keeps_big c o j place (bind word (Number z) bound) (bind_number word z ss) more t work3 list3
            (alike_more word.name (Number z) (a_number z) bound ss (alike_number z) (grown_bindings grows3 (grown_bindings grows2 (grown_bindings grows1 h))));
      })))

  keeps_big_at : (place : ℕ) (bound : List Binding) (ss : List BoundSense) (o : Op) (over : Ranges) (t : Tree) (work : Work) → IsGood top work.formulas → AlikeBindings w work.formulas bound ss
      → Keeps top work.formulas (λ v nodes. Alike w nodes v (big_sense m o ss over t)) (big_at r bound place (joining_of o) over t work)
  keeps_big_at place bound ss op.And over t work list h = keeps_as_value w (big_sense m op.And ss over t) (keeps_big connective.And op.And (joins_all w) place bound ss over t work list h)
  keeps_big_at place bound ss op.Or over t work list h = keeps_as_value w (big_sense m op.Or ss over t) (keeps_big connective.Or op.Or (joins_some w) place bound ss over t work list h)
  keeps_big_at place bound ss _ over t work list h = refuses _ _

  keeps_window_at : (place : ℕ) (bound : List Binding) (ss : List BoundSense) (o : Op) (t u p : Tree) (work : Work) → IsGood top work.formulas → AlikeBindings w work.formulas bound ss
      → Keeps top work.formulas (λ v nodes. Alike w nodes v (senses.windowed w o (m.sense ss t) (m.sense ss u) (m.sense ss p))) (window_at r bound place (window_of o) t u p work)
  keeps_window_at place bound ss op.Finally t u p work list h =
      keeps_go_on _ _ (agrees.value bound ss t work list h) (λ a work1 list1 grows1 ha.
      keeps_go_on _ _ (agrees.value bound ss u work1 list1 (grown_bindings grows1 h)) (λ b work2 list2 grows2 hb.
      keeps_go_on _ _ (agrees.value bound ss p work2 list2 (grown_bindings grows2 (grown_bindings grows1 h))) (λ v work3 list3 grows3 hv.
      keeps_some_window_parts w place t u p a b v (m.sense ss t) (m.sense ss u) (m.sense ss p) work3 list3 (grown grows3 (grown grows2 ha)) (grown grows3 hb) hv)))
  keeps_window_at place bound ss op.Globally t u p work list h =
      keeps_go_on _ _ (agrees.value bound ss t work list h) (λ a work1 list1 grows1 ha.
      keeps_go_on _ _ (agrees.value bound ss u work1 list1 (grown_bindings grows1 h)) (λ b work2 list2 grows2 hb.
      keeps_go_on _ _ (agrees.value bound ss p work2 list2 (grown_bindings grows2 (grown_bindings grows1 h))) (λ v work3 list3 grows3 hv.
      keeps_all_window_parts w place t u p a b v (m.sense ss t) (m.sense ss u) (m.sense ss p) work3 list3 (grown grows3 (grown grows2 ha)) (grown grows3 hb) hv)))
  keeps_window_at place bound ss _ t u p work list h = refuses _ _

  -- ---- all forms

  keeps_form : (bound : List Binding) (ss : List BoundSense) (t : Tree) (work : Work) → IsGood top work.formulas → AlikeBindings w work.formulas bound ss
      → Keeps top work.formulas (λ v nodes. Alike w nodes v (form_sense w names m ss t)) (form_value names r bound t work)
  keeps_form bound ss (number s (Some z)) work list h = keeps_given _ (Number z) work list (alike_number z)
  keeps_form bound ss (number s None) work list h = refuses _ _
  keeps_form bound ss (truth s b) work list h = keeps_given _ (Truth b) work list (alike_truth b)
  keeps_form bound ss (named s name) work list h =
      keeps_meaning s.start (look_up names bound name) (referent names ss name) work list (look_alike w work.formulas names has bound ss h name)
  keeps_form bound ss (call s word ts) work list h =
      keeps_call bound ss s.start word.span.start (look_up names bound word.name) (referent names ss word.name) ts work list h (look_alike w work.formulas names has bound ss h word.name)
  keeps_form bound ss (index s word i) work list h =
      keeps_go_on _ _ (keeps_word word.span.start (look_up names bound word.name) (referent names ss word.name) work list (look_alike w work.formulas names has bound ss h word.name)) (λ b work1 list1 grows1 hb.
      keeps_go_on _ _ (agrees.value bound ss i work1 list1 (grown_bindings grows1 h)) (λ v work2 list2 grows2 hv.
      keeps_index w names has s.start (span_start i) b v (name_sense w m (referent names ss word.name)) (m.sense ss i) work2 list2 hb hv))
  keeps_form bound ss (size_of s t) work list h =
      keeps_go_on _ _ (agrees.value bound ss t work list h) (λ v work1 list1 grows1 hv. keeps_width w names (span_start t) v (m.sense ss t) work1 list1 hv)
  keeps_form bound ss (paren s t) work list h = agrees.value bound ss t work list h
  keeps_form bound ss (set s ts) work list h =
      keeps_go_on _ _ (keeps_values_at bound ss [] ts work list h) (λ vs work1 list1 grows1 f.
      keeps_set w ts vs (written.senses m ss ts) work1 list1 (subst (λ us. AlikeEach w work1.formulas ts us (written.senses m ss ts)) (sym f.is) f.each))
  keeps_form bound ss (steps s t u v) work list h =
      keeps_go_on _ _ (agrees.value bound ss t work list h) (λ a work1 list1 grows1 ha.
      keeps_go_on _ _ (agrees.value bound ss u work1 list1 (grown_bindings grows1 h)) (λ b work2 list2 grows2 hb.
      keeps_go_on _ _ (agrees.value bound ss v work2 list2 (grown_bindings grows2 (grown_bindings grows1 h))) (λ c work3 list3 grows3 hc.
      keeps_steps w s.start (span_start t) (span_start u) (span_start v) a b c (m.sense ss t) (m.sense ss u) (m.sense ss v) work3 list3 (grown grows3 (grown grows2 ha)) (grown grows3 hb) hc)))
  keeps_form bound ss (chain s t links) work list h =
      keeps_go_on _ _ (agrees.value bound ss t work list h) (λ v work1 list1 grows1 hv. keeps_chain bound ss s.start (span_start t) v (m.sense ss t) links work1 list1 (grown_bindings grows1 h) hv)
  keeps_form bound ss (pair s o t u) work list h =
      keeps_go_on _ _ (agrees.value bound ss t work list h) (λ a work1 list1 grows1 ha.
      keeps_go_on _ _ (agrees.value bound ss u work1 list1 (grown_bindings grows1 h)) (λ b work2 list2 grows2 hb.
      keeps_operated w names has o _ a b (m.sense ss t) (m.sense ss u) work2 list2 (grown grows2 ha) hb))
  keeps_form bound ss (prefix s o t) work list h =
      keeps_go_on _ _ (agrees.value bound ss t work list h) (λ a work1 list1 grows1 ha. keeps_prefixed w o s.start (span_start t) a (m.sense ss t) work1 list1 ha)
  keeps_form bound ss (count s n t) work list h =
      keeps_go_on _ _ (agrees.value bound ss n work list h) (λ a work1 list1 grows1 ha.
      keeps_go_on _ _ (agrees.value bound ss t work1 list1 (grown_bindings grows1 h)) (λ v work2 list2 grows2 hv.
      keeps_steps_on w s.start (span_start n) (span_start t) a v (m.sense ss n) (m.sense ss t) work2 list2 (grown grows2 ha) hv))
  keeps_form bound ss (window s o t u p) work list h = keeps_window_at s.start bound ss o t u p work list h
  keeps_form bound ss (big s o over t) work list h = keeps_big_at s.start bound ss o over t work list h

-- evaluation and reading agree at each depth
pub agree : {top : ℕ} (w : Word) (names : Names) → HasPlainNames top names → (left : ℕ) → Agrees top w (evaluator names left) (reader w names left)
unfolding evaluator reader
agree w names has zero = record { value = λ bound ss t work list h. refuses _ _; body = λ bound ss place b work list h. refuses _ _ }
agree {top = top} w names has (suc left) =
    let below : Agrees top w (evaluator names left) (reader w names left) = agree w names has left in
    record {
      value = λ bound ss t work list h. keeps_go_on _ _ (keeps_counted w (span_start t) 1 work list)
          (λ _ work1 list1 grows1 _. keeps_form w names has (evaluator names left) (reader w names left) below bound ss t work1 list1 (grown_bindings grows1 h));
      body = λ bound ss place b work list h. keeps_body w names has (evaluator names left) (reader w names left) below bound ss place b work list h;
    }

-- a value has the sense of the written expression, where no names are bound
pub keeps_value_at : {top : ℕ} (w : Word) (names : Names) → HasPlainNames top names → (t : Tree) (depth : ℕ) (work : Work) → IsGood top work.formulas
    → Keeps top work.formulas (λ v nodes. Alike w nodes v (sense_at w names [] t depth)) (value_at names [] t depth work)
keeps_value_at w names has t depth work list = (agree w names has (MOST_DEPTH - depth)).value [] [] t work list alike_none
