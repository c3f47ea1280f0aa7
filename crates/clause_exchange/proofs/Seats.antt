-- Passes are given out and taken in, and the log at the end.
use Rattle.std.proofs.Common.{◌≡◌, ℕ, zero, suc, ◌+◌, ◌<◌, ◌≤◌, ◌≢◌, inl, ⊎_elim, List, [], ◌∷◌, set, sym, refl, ap, ◌∙◌, subst, arith, All}
use Rattle.std.proofs.lemmas.List.Elements.{All-nil, All-append, All-cons}
use mathlib.Core.Logic.{dite}
use native.Mathlib.Decide.{ℕ_discrete}
use mathlib.Core.Option.{some, some-injective, some-ne-none}
use lib.ListN.{get_elem?}
use Rattle.atomic_table.specs.Table.{State, Splits, Joins, opening, Final}
use Rattle.atomic_table.specs.Table as table
use Rattle.atomic_table.proofs.Lists.{at_snoc, set_else}
use Rattle.refutation_log.specs.declared.entries.Entry.{Entry}
use Rattle.refutation_log.specs.State.{Log}
use Rattle.refutation_log.proofs.LegalLemmas.{legal_empty}
use Rattle.clause_exchange.specs.declared.views.Terms.{Terms}
use Rattle.clause_exchange.specs.declared.views.Part.{Part}
use Rattle.clause_exchange.specs.declared.views.View.{View}
use Rattle.clause_exchange.specs.declared.views.View.TheVariants.{Resting, Begun}
use Rattle.clause_exchange.specs.SharedLog.{IsLogOn}
use Rattle.clause_exchange.specs.Rule.{view_parts, in_turn, count_of, total, fresh_parts, dealer, HasRoom, IsPartOf, IsKnown, IsHome, IsOut, IsSlot, Keeps}
use Rattle.clause_exchange.specs.Steps.{gathered, spent}
use Rattle.clause_exchange.proofs.Knowing.{all_one}
use Rattle.clause_exchange.proofs.Totals.{at_one, each_set, total-append, total-set, terms_le, total_zero, count-append, counted, count-fresh_parts}

abbrev St : Type 0
St = State Log View

abbrev counting : ℕ → View → ℕ
counting n v = count_of n (view_parts v)

-- a seat beside one that has each number is in no turn
rests_beside : (terms : Terms) (log : List Entry) (parts : List Part) (u : View) → ((n : ℕ) → n < terms.seats → 1 ≤ count_of n parts)
    → ((n : ℕ) → count_of n parts + counting n u ≤ 1) → IsKnown terms log u → in_turn u ≡ 0
rests_beside terms log parts (Resting others) all once k = refl
rests_beside terms log parts (Begun begun part) all once k =
    let mine : IsPartOf terms log part = k.0 0 part (omega arith) in
    absurd (omega (arith, all part.number mine.number_below, once part.number, counted part.number (part ∷ []) 0 part (omega arith) refl))

module _ (terms : Terms) where
  abbrev Rule : St → Type 0
  Rule = Keeps terms

  -- ---- a pass is given out

  pub splits : (id : ℕ) (p : Part) (ps : List Part) → Splits Rule id (Resting (p ∷ ps)) (Resting ps) (Resting (p ∷ []))
  splits id p ps s k at =
      let v : View = Resting (p ∷ ps) in
      let w : View = Resting ps in
      let n : View = Resting (p ∷ []) in
      let all : All (IsPartOf terms k.log) (p ∷ ps) = (k.known id v at).0 in
      record {
        log = k.log;
        once = λ m. omega (arith, total-append (counting m) (set s.views id w) (n ∷ []), total-set (counting m) s.views id v w at, k.once m);
        known = λ j u there. ⊎_elim
            (each_set (IsKnown terms k.log) (IsKnown terms k.log) s.views id w
            ((λ i d lt. all (suc i) d (omega arith)), tt) (λ i x other here known. known) k.known j u)
            (λ (e : n ≡ u). subst (IsKnown terms k.log) e (all_one (IsPartOf terms k.log) p (all 0 p (omega arith)), tt))
            (at_snoc (set s.views id w) n u j there);
        slot = subst (λ turns. IsSlot s.words s.homes turns terms k.log) (omega (arith, total-append in_turn (set s.views id w) (n ∷ []), total-set in_turn s.views id v w at)) k.slot;
        is_log = k.is_log;
      }

  -- ---- a pass is taken in

  pub joins : (id : ℕ) (v : View) (other : ℕ) (w : View) → in_turn v ≡ 0 → in_turn w ≡ 0 → Joins Rule id v other w (gathered v w) spent
  joins id v other w rests rests' s k at apart there =
      let b : View = gathered v w in
      let vs : List View = set s.views id b in
      let before : get_elem? s.views other ≡ some w = sym (set_else s.views id other b apart) ∙ there in
      let known-once = each_set (IsKnown terms k.log) (IsKnown terms k.log) s.views id b
      (All-append (IsPartOf terms k.log) (view_parts w) (view_parts v) (k.known other w before).0 (k.known id v at).0, tt) (λ i x else here known. known) k.known in
      record {
        log = k.log;
        once = λ m. omega (arith, total-set (counting m) vs other w spent there, total-set (counting m) s.views id v b at, k.once m, count-append m (view_parts w) (view_parts v));
        known = each_set (IsKnown terms k.log) (IsKnown terms k.log) vs other spent
            (All-nil (IsPartOf terms k.log), tt) (λ i x else here known. known) known-once;
        slot = subst (λ turns. IsSlot s.words s.homes turns terms k.log)
            (omega (arith, total-set in_turn vs other w spent there, total-set in_turn s.views id v b at, rests, rests')) k.slot;
        is_log = k.is_log;
      }

  -- ---- the beginning

  fresh_fit : (from count : ℕ) → from + count ≤ terms.seats → All (IsPartOf terms []) (fresh_parts terms from count)
  fresh_fit from zero few = All-nil (IsPartOf terms [])
  fresh_fit from (suc count) few = All-cons (IsPartOf terms []) _ _ (record { terms_are = refl; number_below = omega arith; seen = ([], refl); own = refl }) (fresh_fit (suc from) count (omega arith))

  pub opens : (log : Log) → log.entries ≡ [] → HasRoom terms.limit log → Rule (opening (0 ∷ []) (log ∷ []) (dealer terms))
  opens log none room = record {
    log = [];
    once = λ m. omega (arith, (count-fresh_parts terms m 0 terms.seats).0);
    known = dealt;
    slot = inl record { free = refl; nobody = refl; value = log; at_home = refl; entries_are = none; fits = room };
    is_log = record { legal = legal_empty terms.vars terms.base terms.limit; taught = λ i e at. absurd (cc); of_passes = All-nil (λ e. e.by < terms.seats) };
  }
    where
      dealt : (j : ℕ) (v : View) → get_elem? (dealer terms ∷ []) j ≡ some v → IsKnown terms [] v
      dealt zero v e = subst (IsKnown terms []) (some-injective (dealer terms) v e) (fresh_fit 0 terms.seats (omega arith), tt)
      dealt (suc j) v e = absurd (some-ne-none v (sym e))

  -- ---- the end

  -- What the table holds when one seat has taken in every pass.
  pub record IsLast (parts : List Part) (values : List Log) : Type 0 where
    pub value : Log
    pub at_home : get_elem? values 0 ≡ some value
    pub room : HasRoom terms.limit value
    pub is_log : IsLogOn terms value.entries
    pub fits : All (IsPartOf terms value.entries) parts

  pub closes : (id : ℕ) (v : View) (ws : List ℕ) (values : List Log) → in_turn v ≡ 0 → ((n : ℕ) → n < terms.seats → 1 ≤ count_of n (view_parts v))
      → Final (table.Seen Rule id v) ws values → IsLast (view_parts v) values
  closes id v ws values rests all (s, (k, at), words, same, homes) = ⊎_elim
      (λ (h : IsHome s.words s.homes (total in_turn s.views) terms k.log).
      let back : k.log ≡ h.value.entries = sym h.entries_are in
      record {
        value = h.value;
        at_home = homes 0 h.value (ap (λ hs. get_elem? hs 0) h.at_home);
        room = h.fits;
        is_log = subst (IsLogOn terms) back k.is_log;
        fits = subst (λ l. All (IsPartOf terms l) (view_parts v)) back (k.known id v at).0;
      })
      (λ (o : IsOut s.words s.homes (total in_turn s.views)). absurd (omega (arith, total_zero in_turn s.views each_rests, o.one)))
      k.slot
    where
      each_rests : (j : ℕ) (u : View) → get_elem? s.views j ≡ some u → in_turn u ≡ 0
      each_rests j u there = dite (ℕ_discrete j id)
          (λ (e : j ≡ id). ap in_turn (at_one s.views id u v (subst (λ i. get_elem? s.views i ≡ some u) e there) at) ∙ rests)
          (λ (ne : j ≢ id). rests_beside terms k.log (view_parts v) u all
          (λ n. omega (arith, terms_le (counting n) s.views id j v u ne at there, k.once n)) (k.known j u there))
