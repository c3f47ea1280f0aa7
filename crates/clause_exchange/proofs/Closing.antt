-- The passes as they are given out, and the log as it comes back.
use Rattle.std.proofs.Common.{◌≡◌, ℕ, zero, suc, ◌+◌, ◌<◌, ◌≤◌, List, [], ◌∷◌, ◌++◌, Some, length, length-append, slice_get, get_or, map, sym, refl, ap, ◌∙◌, subst, arith, All}
use Rattle.std.specs.Prelude.{Contains}
use Rattle.std.proofs.lemmas.List.{get_or-map, length-map}
use mathlib.Core.Logic.{dite}
use mathlib.Core.Option.{some}
use native.Mathlib.Decide.{ℕ_discrete}
use lib.ListN.{get_elem?}
use Rattle.std_lemmas.proofs.Lists.{slice_get-append}
use Rattle.atomic_table.specs.Seated.{TableId}
use Rattle.atomic_table.specs.Table.{Final}
use Rattle.atomic_table.specs.Table as table
use Rattle.refutation_log.specs.State.{Log}
use Rattle.clause_exchange.specs.declared.views.Terms.{Terms}
use Rattle.clause_exchange.specs.declared.views.Setup.{Setup}
use Rattle.clause_exchange.specs.declared.views.View.{View}
use Rattle.clause_exchange.specs.SharedLog.{PassView, IsLogOn, HoldsAllOf, new_pass}
use Rattle.clause_exchange.specs.Rule.{view_parts, in_turn, count_of, IsPartOf, Keeps}
use Rattle.clause_exchange.specs.Opening.{IsDealt, exchange_of, part_seen}
use Rattle.clause_exchange.proofs.Totals.{at_one, count_self}
use Rattle.clause_exchange.proofs.Seats.{closes}

slice_get-end : {X : Type 0} (xs : List X) (y : X) (n : ℕ) → length xs ≡ n → slice_get (xs ++ y ∷ []) n ≡ Some y
slice_get-end [] y zero e = refl
slice_get-end [] y (suc n) e = absurd (omega arith)
slice_get-end (x ∷ xs) y zero e = absurd (omega arith)
slice_get-end (x ∷ xs) y (suc n) e = slice_get-end xs y n (omega arith)

-- one more pass is given out
pub dealt_one_more : (id : TableId) (key : Setup) (n : ℕ) (passes more : List PassView) (p : PassView) → IsDealt id key n passes → p ≡ new_pass (exchange_of id key) n
    → more ≡ passes ++ p ∷ [] → IsDealt id key (n + 1) more
dealt_one_more id key n passes more p d new added = subst (IsDealt id key (n + 1)) (sym added) record {
  count = omega (arith, length-append passes (p ∷ []), d.count);
  each = λ i lt. dite (ℕ_discrete i n)
      (λ e. subst (λ j. slice_get (passes ++ p ∷ []) j ≡ Some (new_pass (exchange_of id key) j)) (sym e) (slice_get-end passes p n d.count ∙ ap Some new))
      (λ ne. slice_get-append passes (p ∷ []) i (new_pass (exchange_of id key) i) (d.each i (omega arith)));
}

contained_counted : (n : ℕ) (passes : List PassView) (k d : ℕ) → k < length (map (λ p. p.number) passes) → get_or (map (λ p. p.number) passes) k d ≡ n → 1 ≤ count_of n (map part_seen passes)
contained_counted n [] k d lt e = absurd (omega arith)
contained_counted n (p ∷ ps) zero d lt e = omega (arith, count_self p.number n e)
contained_counted n (p ∷ ps) (suc k) d lt e = omega (arith, contained_counted n ps k d (omega arith) e)

-- there is a pass
pub some_pass : (seats : ℕ) (passes : List PassView) → 0 < seats → ((n : ℕ) → n < seats → Contains (map (λ p. p.number) passes) n) → 0 < length passes
some_pass seats passes some' each = let first = each 0 some' in omega (arith, first.1, length-map passes (λ (p : PassView). p.number))

-- What `close` gives: the log of these terms, with all of these passes.
pub record IsClosedLog (terms : Terms) (passes : List PassView) (log : Log) : Type 0 where
  pub is_log : IsLogOn terms log.entries
  pub limit : log.limit ≡ terms.limit
  pub holds : All (HoldsAllOf log.entries) passes

pub closed : (terms : Terms) (id : ℕ) (v : View) (ws : List ℕ) (values : List Log) (passes : List PassView) (log : Log) → in_turn v ≡ 0 → view_parts v ≡ map part_seen passes
    → ((n : ℕ) → n < terms.seats → Contains (map (λ p. p.number) passes) n) → Final (table.Seen (Keeps terms) id v) ws values → get_elem? values 0 ≡ some log
    → IsClosedLog terms passes log
closed terms id v ws values passes log rests parts each final at =
    let last = closes terms id v ws values rests
    (λ n lt. let c = each n lt in subst (λ ps. 1 ≤ count_of n ps) (sym parts) (contained_counted n passes c.0 n c.1 c.2)) final in
    let same : last.value ≡ log = at_one values 0 last.value log last.at_home at in
    let fits : All (IsPartOf terms last.value.entries) (map part_seen passes) = subst (λ ps. All (IsPartOf terms last.value.entries) ps) parts last.fits in
    subst (IsClosedLog terms passes) same record {
      is_log = last.is_log;
      limit = last.room.limit_is;
      holds = λ k d lt.
          let h = subst (IsPartOf terms last.value.entries) (get_or-map part_seen passes k d (part_seen d) lt)
          (fits k (part_seen d) (subst (λ n. k < n) (sym (length-map passes part_seen)) lt)) in
          record { seen = h.seen; own = sym h.own };
    }
