use Rattle.std.proofs.Common.{◌≡◌, ℕ, zero, suc, ◌+◌, ◌<◌, Bool, true, false, cond, List, [], ◌∷◌, ◌++◌, get_or, set, map, replicate, length, take, refl, sym, ◌∙◌, ap, subst}
use Rattle.std.proofs.lemmas.List.{get_or-map, length-map, map-set}
use Rattle.std.proofs.Math.Seq.{map-set_same}
use Rattle.ltl_formula.specs.declared.nodes.FormulaId.{FormulaId}
use Rattle.obligation_sets.specs.declared.branches.Mark.{Mark}
use Rattle.obligation_sets.specs.Ids.{ids_of}
use Rattle.obligation_sets.proofs.IdLists.{id, ids_of_more}

-- a table of marks that are alike
pub alike : (flag : Mark → Bool) (n : ℕ) (mark : Mark) → flag mark ≡ false → map flag (replicate n mark) ≡ replicate n false
alike flag zero mark e = refl
alike flag (suc n) mark e = (λ i. e i ∷ alike flag n mark e i)

module _ (flag : Mark → Bool) (marks : List Mark) (i : ℕ) where
  -- a flag that is read in its mark
  pub flag_is : (mark : Mark) → i < length marks → mark ≡ get_or marks i mark → flag mark ≡ get_or (map flag marks) i false
  flag_is mark h is = ap flag is ∙ sym (get_or-map flag marks i mark false h)

  -- a mark is written that has the flag
  pub set_flag : (new : Mark) → flag new ≡ true → map flag (set marks i new) ≡ set (map flag marks) i true
  set_flag new e = map-set flag marks i new ∙ ap (set (map flag marks) i) e

  -- a mark is written whose flag is as before
  pub same_flags : (mark new : Mark) → mark ≡ get_or marks i mark → flag new ≡ flag mark → map flag (set marks i new) ≡ map flag marks
  same_flags mark new is e = map-set_same flag marks i new mark (e ∙ ap flag is)

  -- one more formula is put behind those chosen, or not
  pub chosen_step : (d : Mark) (old new : List FormulaId) → i < length marks → old ≡ ids_of (take i (map flag marks)) → new ≡ old ++ cond (flag (get_or marks i d)) (id i ∷ []) [] → new ≡ ids_of (take (i + 1) (map flag marks))
  chosen_step d old new h before pushed =
      pushed ∙ ap (λ ids. ids ++ cond (flag (get_or marks i d)) (id i ∷ []) []) before
      ∙ ap (λ b. ids_of (take i (map flag marks)) ++ cond b (id i ∷ []) []) (sym (get_or-map flag marks i d false h))
      ∙ sym (ids_of_more (map flag marks) i (subst (λ n. i < n) (sym (length-map marks flag)) h))
