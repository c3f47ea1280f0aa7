-- Each step of a turn keeps the rule: the log is taken where it is at home, and given back.
use Rattle.std.proofs.Common.{◌≡◌, ℕ, ◌≢◌, inl, inr, ⊎_elim, List, [], ◌∷◌, get_or, set, sym, refl, ap, ◌∙◌, subst, arith}
use mathlib.Core.Option as maybe
use mathlib.Core.Option.{some}
use lib.ListN.{get_elem?}
use Rattle.atomic_table.specs.Table.{State, step, keeps, takes, gives, stepped, Allows}
use Rattle.atomic_table.proofs.Lists.{set_again}
use Rattle.refutation_log.specs.declared.entries.Entry.{Entry}
use Rattle.refutation_log.specs.State.{Log}
use Rattle.refutation_log.specs.Teaches.{entries_by}
use Rattle.clause_exchange.specs.declared.views.Terms.{Terms}
use Rattle.clause_exchange.specs.declared.views.Part.{Part}
use Rattle.clause_exchange.specs.declared.views.View.{View}
use Rattle.clause_exchange.specs.declared.views.View.TheVariants.{Resting, Begun}
use Rattle.names_and_numbers.specs.Prefix.{IsPrefix}
use Rattle.names_and_numbers.proofs.PrefixLemmas.{IsPrefix-refl}
use Rattle.clause_exchange.specs.SharedLog.{IsLogOn}
use Rattle.clause_exchange.specs.Rule.{view_parts, in_turn, count_of, total, HasRoom, IsPartOf, IsKnown, IsHome, IsOut, Keeps}
use Rattle.clause_exchange.specs.Steps.{Place, idle, begun, IsOpenTo, Begins, IsMoved, moved, taken, given}
use Rattle.clause_exchange.specs.Passes.{part_of}
use Rattle.clause_exchange.proofs.Totals.{each_set, total-set, term_le, terms_le, counted}
use Rattle.clause_exchange.proofs.Knowing.{all_one, known_moved}

abbrev St : Type 0
St = State Log View

abbrev value_in : List (ℕ × Log) → Log → Log
value_in [] d = d
value_in (x ∷ xs) d = x.1

module _ (terms : Terms) where
  abbrev Rule : St → Type 0
  Rule = Keeps terms

  abbrev Home : (s : St) → Rule s → Type 0
  Home s k = IsHome s.words s.homes (total in_turn s.views) terms k.log

  abbrev Out : St → Type 0
  Out s = IsOut s.words s.homes (total in_turn s.views)

  -- ---- the log is taken

  takes_rule : (s : St) (id : ℕ) (part : Part) (k : Rule s) (h : Home s k) → get_elem? s.views id ≡ some (Resting (part ∷ []))
      → Rule (stepped s 0 1 id [] (Begun h.value.entries part) (takes 0 h.value))
  takes_rule s id part k h at =
      let v : View = Resting (part ∷ []) in
      let w : View = Begun h.value.entries part in
      record {
        log = k.log;
        once = λ m. omega (arith, total-set (λ u. count_of m (view_parts u)) s.views id v w at, k.once m);
        known = each_set (IsKnown terms k.log) (IsKnown terms k.log) s.views id w ((k.known id v at).0, h.entries_are) (λ j u other there known. known) k.known;
        slot = inr record {
          taken = ap (λ ws. set ws 0 1) h.free;
          one = omega (arith, total-set in_turn s.views id v w at, h.nobody);
          away = ap (λ hs. set hs 0 maybe.none) h.at_home;
        };
        is_log = k.is_log;
      }

  opens_to : (s : St) (id : ℕ) (part : Part) (k : Rule s) (h : Home s k) → get_elem? s.views id ≡ some (Resting (part ∷ [])) → IsOpenTo part h.value
  opens_to s id part k h at =
      let mine : IsPartOf terms k.log part = (k.known id (Resting (part ∷ [])) at).0 0 part (omega arith) in
      let back : terms ≡ part.terms = sym mine.terms_are in
      let list : k.log ≡ h.value.entries = sym h.entries_are in
      record {
        is_log = subst (λ (x : Terms × List Entry). IsLogOn x.0 x.1) (λ i. (back i, list i)) k.is_log;
        room = subst (λ (t : Terms). HasRoom t.limit h.value) back h.fits;
        part_of = subst (λ (x : Terms × List Entry). IsPartOf x.0 x.1 part) (λ i. (back i, list i)) mine;
      }

  -- another seat has it, and nothing changes
  unmoved : (s : St) (id : ℕ) (v : View) → get_elem? s.views id ≡ some v → Rule s → Out s → Rule (stepped s 0 1 id [] v keeps)
  unmoved s id v at k o = subst Rule
      (λ j. record { words = (o.taken ∙ sym (ap (λ ws. set ws 0 1) o.taken)) j; homes = s.homes; views = sym (set_again s.views id v at) j }) k

  abbrev Tells : ℕ → Place → Part → Type 0
  Tells found n part = (found ≡ 0 → Begins part n) × (found ≢ 0 → n ≡ idle part)

  pub takes_turn : (slots id : ℕ) (part : Part) → Allows Rule slots id (idle part) 0 (λ _. 1) (taken (step slots 0 1 0 maybe.none) (idle part))
  takes_turn slots id part s k _ at _ = ⊎_elim
      (λ (h : Home s k). (
        Begun h.value.entries part,
        takes 0 h.value,
        ap (λ hs. get_elem? hs 0) h.at_home,
        takes_rule s id part k h at,
        tells (begun h.value.entries h.value part)
            ((λ _. (h.value, refl, opens_to s id part k h at)), (λ ne. absurd (ne (ap (λ ws. get_or ws 0 0) h.free)))),
      ))
      (λ (o : Out s). (
        Resting (part ∷ []),
        keeps,
        tt,
        unmoved s id (Resting (part ∷ [])) at k o,
        tells (idle part) ((λ e. absurd (omega (arith, e, ap (λ ws. get_or ws 0 0) o.taken))), (λ _. refl)),
      ))
      k.slot
    where
      tells : (n : Place) → Tells (get_or s.words 0 0) n part → taken (step slots 0 1 0 maybe.none) (idle part) (get_or s.words 0 0) n
      tells n told p same = subst (Tells (get_or s.words 0 0) n) (ap (λ (m : Place). part_of m.0) same) told

  -- ---- the log is given back

  gives_rule : (s : St) (id : ℕ) (log : List Entry) (value : Log) (part : Part) (k : Rule s) → IsMoved part log value → get_elem? s.views id ≡ some (Begun log part)
      → Rule (stepped s 0 0 id ((0, value) ∷ []) (Resting (moved part value.entries ∷ [])) gives)
  gives_rule s id log value part k m at =
      let v : View = Begun log part in
      let w : View = Resting (moved part value.entries ∷ []) in
      let mine : IsPartOf terms k.log part = (k.known id v at).0 0 part (omega arith) in
      let list : log ≡ k.log = (k.known id v at).1 in
      let to_terms : part.terms ≡ terms = mine.terms_are in
      let out : Out s = ⊎_elim (λ (h : Home s k). absurd (omega (arith, term_le in_turn s.views id v at, h.nobody))) (λ (o : Out s). o) k.slot in
      let grows : IsPrefix k.log value.entries = subst (λ l. IsPrefix l value.entries) list m.grows in
      let others : (n : ℕ) → n ≢ part.number → entries_by n value.entries ≡ entries_by n k.log =
      subst (λ l. (n : ℕ) → n ≢ part.number → entries_by n value.entries ≡ entries_by n l) list m.others in
      record {
        log = value.entries;
        once = λ n. omega (arith, total-set (λ u. count_of n (view_parts u)) s.views id v w at, k.once n);
        known = each_set (IsKnown terms k.log) (IsKnown terms value.entries) s.views id w
            (all_one (IsPartOf terms value.entries) (moved part value.entries) record { terms_are = to_terms; number_below = mine.number_below; seen = IsPrefix-refl value.entries; own = refl }, tt)
            (λ j u other there known.
            let one = counted part.number (part ∷ []) 0 part (omega arith) refl in
            known_moved terms k.log value.entries part.number grows others u
            (omega (arith, terms_le in_turn s.views id j v u other at there, out.one))
            (omega (arith, terms_le (λ x. count_of part.number (view_parts x)) s.views id j v u other at there, k.once part.number, one))
            known)
            k.known;
        slot = inl record {
          free = ap (λ ws. set ws 0 0) out.taken;
          nobody = omega (arith, total-set in_turn s.views id v w at, out.one);
          value = value;
          at_home = ap (λ hs. set hs 0 (some value)) out.away;
          entries_are = refl;
          fits = subst (λ (t : Terms). HasRoom t.limit value) to_terms m.room;
        };
        is_log = subst (λ (t : Terms). IsLogOn t value.entries) to_terms m.is_log;
      }

  pub gives_back : (slots id : ℕ) (log : List Entry) (value : Log) (part : Part) → IsMoved part log value
      → Allows Rule slots id (begun log value part) 0 (λ _. 0) (λ _. given (step slots 0 0 0 maybe.none) (begun log value part) 0)
  gives_back slots id log value part m s k _ at _ = (
    Resting (moved part value.entries ∷ []),
    gives,
    tt,
    gives_rule s id log value part k m at,
    (λ l x p same. ap (λ (y : Part × Log). idle (moved y.0 y.1.entries)) (λ i. (part_of (same i).0, value_in (same i).1 value))),
  )
