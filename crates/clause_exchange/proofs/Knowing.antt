-- What a view says of the log, as the log grows.
use Rattle.std.proofs.Common.{◌≡◌, ℕ, ◌≢◌, List, [], ◌∷◌, get_or, sym, ◌∙◌, arith, All}
use Rattle.std.proofs.lemmas.List.Elements.{All-nil, All-push}
use Rattle.refutation_log.specs.declared.entries.Entry.{Entry}
use Rattle.refutation_log.specs.Teaches.{entries_by}
use Rattle.clause_exchange.specs.declared.views.Terms.{Terms}
use Rattle.clause_exchange.specs.declared.views.Part.{Part}
use Rattle.clause_exchange.specs.declared.views.View.{View}
use Rattle.clause_exchange.specs.declared.views.View.TheVariants.{Resting, Begun}
use Rattle.names_and_numbers.specs.Prefix.{IsPrefix}
use Rattle.names_and_numbers.proofs.PrefixLemmas.{IsPrefix-trans}
use Rattle.clause_exchange.specs.Rule.{view_parts, in_turn, count_of, IsPartOf, IsKnown}
use Rattle.clause_exchange.proofs.Totals.{counted}

pub all_one : {X : Type 0} (P : X → Type 0) (x : X) → P x → All P (x ∷ [])
all_one P x = All-push P [] x (All-nil P)

module _ (terms : Terms) (log log' : List Entry) (number : ℕ) (grows : IsPrefix log log') (others : (n : ℕ) → n ≢ number → entries_by n log' ≡ entries_by n log) where
  -- a part of another number stays right when a pass adds to the log
  part_moved : (part : Part) → part.number ≢ number → IsPartOf terms log part → IsPartOf terms log' part
  part_moved part other k = record {
    terms_are = k.terms_are;
    number_below = k.number_below;
    seen = IsPrefix-trans part.seen log log' k.seen grows;
    own = k.own ∙ sym (others part.number other);
  }

  pub known_moved : (v : View) → in_turn v ≡ 0 → count_of number (view_parts v) ≡ 0 → IsKnown terms log v → IsKnown terms log' v
  known_moved (Resting parts) rests none k =
      (λ i d lt. part_moved (get_or parts i d) (λ e. let one = counted number parts i d lt e in absurd (omega arith)) (k.0 i d lt), tt)
  known_moved (Begun begun part) rests none k = absurd (omega arith)
