-- One more guarantee is asked about.
use Rattle.std.proofs.Common.{◌≡◌, ℕ, ◌+◌, ◌-◌, ◌<◌, ◌≤◌, Bool, true, false, List, [], ◌∷◌, ◌++◌, Option, Some, Vec, Global, length, get_or, map, set, replicate, sym, ap, subst, ◌∙◌, arith}
use Rattle.std.proofs.lemmas.List.{length-map, length-replicate}
use Rattle.letters_and_lassos.specs.declared.kinds.Kind.{Kind}
use Rattle.tlsf_expand.specs.FlatText.{FlatText}
use Rattle.synth_engine.specs.declared.settings.Settings.{Settings}
use Rattle.unrealizable_core.specs.declared.shrink.Standing.{Standing}
use Rattle.unrealizable_core.specs.declared.shrink.Standing.TheVariants.{Open, Needed, Dropped}
use Rattle.unrealizable_core.specs.Laws.{is_kept, kept_in}
use Rattle.unrealizable_core.specs.Shrink.{IsFirstOpenGuarantee, IsKeptGuarantee, IsNeeded, answered, asked, told, told_about}
use Rattle.core_answer.specs.Core.{AreSpared, EachHas, IsToldOver, Tells, numbers, without}
use Rattle.core_answer.specs.Known.{IsShrunk, IsTextIn, needed_from}
use Rattle.core_answer.specs.Over.{are_all}
use Rattle.core_answer.specs.Taken.{document_taken, others_taken}
use Rattle.unrealizable_core.proofs.Standings.{answered_long}
use Rattle.core_answer.proofs.Standings.{all_kept_needed, dropped_kept, each_more, fresh_kept, fresh_needed, needed_kept, not_all, one_more_needed, reopened_none}

module _ (text : List ℕ) (kind : Option Kind) (settings : Settings) where
  abbrev Spared : List Bool → ℕ → List ℕ → Type 0
  Spared keep n bytes = Tells text (without n keep) kind settings false bytes

  pub at_first : (count : ℕ) (whole : List ℕ) → Tells text (replicate count true) kind settings true whole → IsShrunk text kind settings (replicate count Open) whole []
  at_first count whole tells = record {
    defeated = subst (λ keep. Tells text keep kind settings true whole) (sym (fresh_kept count)) tells;
    spared = subst (λ ns. EachHas (Spared (kept_in (replicate count Open))) ns []) (sym (fresh_needed 1 count)) tt;
  }

  module _ (s : List Standing) (document : List ℕ) (others : List (List ℕ)) (so_far : IsShrunk text kind settings s document others) (n : ℕ) (first : IsFirstOpenGuarantee s n) (bytes : List ℕ) where
    dropped : Tells text (without n (kept_in s)) kind settings true bytes → IsShrunk text kind settings (answered true n s) bytes []
    dropped tells = record {
      defeated = subst (λ keep. Tells text keep kind settings true bytes) (sym (dropped_kept s (n - 1))) tells;
      spared = subst (λ ns. EachHas (Spared (kept_in (answered true n s))) ns []) (sym (reopened_none 1 (set s (n - 1) Dropped))) tt;
    }

    needed_now : needed_from 1 (set s (n - 1) Needed) ≡ needed_from 1 s ++ n ∷ []
    needed_now =
        let some : 1 ≤ n = first.is_open.first in
        let last : n ≤ length s = first.is_open.last in
        let same : 1 + (n - 1) ≡ n = omega arith in
        one_more_needed 1 s (n - 1) (omega arith)
        (λ j from within is.
        let one : j + 1 - 1 ≡ j = omega arith in
        let above : j + 1 < n = first.above (j + 1) (record { first = omega arith; last = omega arith; needed = ap (λ i. get_or s i Dropped) one ∙ is }) in
        let never : ⊥ = omega arith in never)
        ∙ ap (λ m. needed_from 1 s ++ m ∷ []) same

    found_needed : Tells text (without n (kept_in s)) kind settings false bytes → IsShrunk text kind settings (answered false n s) document (others ++ bytes ∷ [])
    found_needed tells =
        let same : kept_in (answered false n s) ≡ kept_in s = needed_kept s (n - 1) first.is_open.opened in
        record {
          defeated = subst (λ keep. Tells text keep kind settings true document) (sym same) so_far.defeated;
          spared = subst (λ keep. EachHas (Spared keep) (needed_from 1 (answered false n s)) (others ++ bytes ∷ [])) (sym same)
              (subst (λ ns. EachHas (Spared (kept_in s)) ns (others ++ bytes ∷ [])) (sym needed_now)
              (each_more (Spared (kept_in s)) (needed_from 1 s) others n bytes so_far.spared tells));
        }

    pub one_more : (defeat : Bool) → Tells text (without n (kept_in s)) kind settings defeat bytes
        → IsShrunk text kind settings (answered defeat n s) (document_taken defeat bytes document) (others_taken defeat bytes others)
    one_more true tells = dropped tells
    one_more false tells = found_needed tells

  pub told_more : (s : List Standing) (document : List ℕ) (others : List (List ℕ)) → IsShrunk text kind settings s document others → (n : ℕ) → asked s ≡ Some n → IsFirstOpenGuarantee s n
      → (bytes : List ℕ) (defeat : Bool) → Tells text (without n (kept_in s)) kind settings defeat bytes
      → IsShrunk text kind settings (told defeat s) (document_taken defeat bytes document) (others_taken defeat bytes others)
  told_more s document others so_far n is first bytes defeat tells =
      subst (λ o. IsShrunk text kind settings (told_about o defeat s) (document_taken defeat bytes document) (others_taken defeat bytes others)) (sym is)
      (one_more s document others so_far n first bytes defeat tells)

  -- in the end each guarantee that is kept is needed
  pub at_last : (s : List Standing) (document : List ℕ) (others : List (List ℕ)) → IsShrunk text kind settings s document others → ((n : ℕ) → IsKeptGuarantee s n → IsNeeded s n)
      → AreSpared text (kept_in s) kind settings (numbers (kept_in s)) others
  at_last s document others shrunk all =
      subst (λ ns. EachHas (Spared (kept_in s)) ns others)
      (all_kept_needed 1 s (λ j from within is.
      let one : j + 1 - 1 ≡ j = omega arith in
      let here : get_or s (j + 1 - 1) Dropped ≡ Open = ap (λ i. get_or s i Dropped) one ∙ is in
      let needed = all (j + 1) (record { first = omega arith; last = omega arith; kept = λ gone. let e : ◌≡◌ {A = Standing} Open Dropped = sym here ∙ gone in cc }) in
      let e : ◌≡◌ {A = Standing} Open Needed = sym here ∙ needed.needed in
      let never : ⊥ = cc in never)) shrunk.spared

-- so many guarantees, and for each text with this flat form what is shown so far
pub record IsSoFar (spec : FlatText) (settings : Settings) (count : ℕ) (whole : List ℕ) (s : List Standing) (document : List ℕ) (others : List (Vec ℕ Global)) : Type 0 where
  pub long : length s ≡ count
  pub shown : (text : List ℕ) (kind : Option Kind) → IsTextIn text kind spec → Tells text (replicate count true) kind settings true whole
      → IsShrunk text kind settings s document (map (λ o. o.items) others)

pub at_start : (spec : FlatText) (settings : Settings) (count : ℕ) (whole : List ℕ) → IsSoFar spec settings count whole (replicate count Open) whole []
at_start spec settings count whole = record {
  long = length-replicate count Open;
  shown = λ text kind t tells. at_first text kind settings count whole tells;
}

module _ (spec : FlatText) (settings : Settings) (count : ℕ) (whole : List ℕ) (s : List Standing) (document : List ℕ) (others : List (Vec ℕ Global))
    (so_far : IsSoFar spec settings count whole s document others) (n : ℕ) (is : asked s ≡ Some n) (first : IsFirstOpenGuarantee s n) where
  pub fewer : are_all (without n (kept_in s)) ≡ false
  fewer =
      let some : 1 ≤ n = first.is_open.first in
      let last : n ≤ length s = first.is_open.last in
      let long : length (kept_in s) ≡ length s = length-map s is_kept in
      not_all (kept_in s) (n - 1) (omega arith)

  pub next_step : (defeat : Bool) (bytes : List ℕ) (status : ℕ)
      → ((text : List ℕ) (kind : Option Kind) → IsTextIn text kind spec → are_all (without n (kept_in s)) ≡ false → IsToldOver text (without n (kept_in s)) kind settings bytes status defeat)
      → (t : List Standing) (document' : List ℕ) (others' : List (Vec ℕ Global)) → t ≡ told defeat s → document' ≡ document_taken defeat bytes document
      → map (λ o. o.items) others' ≡ others_taken defeat bytes (map (λ o. o.items) others) → IsSoFar spec settings count whole t document' others'
  next_step defeat bytes status over t document' others' t_is document_is others_are = record {
    long = ap length (t_is ∙ ap (λ o. told_about o defeat s) is) ∙ answered_long defeat n s ∙ so_far.long;
    shown = λ text kind here tells.
        let more = told_more text kind settings s document (map (λ o. o.items) others) (so_far.shown text kind here tells) n is first bytes defeat
        (record { status = status; is_told = over text kind here fewer }) in
        subst (λ os. IsShrunk text kind settings t document' os) (sym others_are)
        (subst (λ d. IsShrunk text kind settings t d (others_taken defeat bytes (map (λ o. o.items) others))) (sym document_is)
        (subst (λ u. IsShrunk text kind settings u (document_taken defeat bytes document) (others_taken defeat bytes (map (λ o. o.items) others))) (sym t_is) more));
  }
