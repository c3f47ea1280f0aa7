-- What a turn leaves: what was offered or copied, seen from the pass.
use Rattle.std.proofs.Common.{◌≡◌, ℕ, ◌+◌, ◌<◌, ◌≢◌, nat_eq, cond, List, [], ◌∷◌, ◌++◌, Option, Some, None, Result, Ok, Err, IfOk, IfErr, OnOk, OnErr, length, take, slice_get, sym, refl, ap, ◌∙◌, subst, All, eq-eqb, ne_eqb}
use Rattle.std.proofs.lemmas.List.Elements.{All-push, filter-append}
use Rattle.std.proofs.lemmas.List.{append-nil, take_more}
use Rattle.std.proofs.lemmas.Option.{slice_get_within, get_or_from_slice_get}
use Rattle.std.specs.declared.alloc.AllocError.{AllocError}
use Rattle.atomic_table.specs.Seated.{TableId}
use Rattle.propositional_logic.specs.Clause.{IsWithinVariables}
use Rattle.refutation_log.specs.declared.entries.Entry.{Entry}
use Rattle.refutation_log.specs.declared.turns.Turn.TheVariants.{Append}
use Rattle.refutation_log.specs.declared.turns.Reply.{Reply}
use Rattle.refutation_log.specs.declared.turns.Reply.TheVariants.{Known, Closed, Full, At, Seen}
use Rattle.refutation_log.specs.Entry.{clauses_of}
use Rattle.refutation_log.specs.Follows.{Follows}
use Rattle.refutation_log.specs.Log.{IsLegal}
use Rattle.refutation_log.specs.State.{Log}
use Rattle.refutation_log.specs.Teaches.{Teaches, entries_by, IsTaught}
use Rattle.refutation_log.specs.Turn.{reply_to, log_after, log_replied}
use Rattle.refutation_log.proofs.LegalLemmas.{legal_turn}
use Rattle.refutation_log.proofs.TeachLemmas.{taught-push}
use Rattle.refutation_log.proofs.Lists.{take-append_all, take_drop}
use Rattle.clause_exchange.specs.declared.exchange.Refused.{Refused}
use Rattle.clause_exchange.specs.declared.views.Part.{Part}
use Rattle.names_and_numbers.specs.Prefix.{IsPrefix}
use Rattle.names_and_numbers.proofs.PrefixLemmas.{IsPrefix-refl, IsPrefix-trans}
use Rattle.clause_exchange.specs.SharedLog.{PassView, IsLogOn, IsAfterTurn, IsOffered}
use Rattle.clause_exchange.specs.Rule.{HasRoom}
use Rattle.clause_exchange.specs.Steps.{Place, idle, begun, Begins, IsOpenTo, IsMoved, moved}
use Rattle.clause_exchange.specs.Offers.{IsOfferedTo, IsCopiedOf}
use Rattle.clause_exchange.specs.Opening.{part_seen}
use Rattle.clause_exchange.specs.Passes.{part_of, pass_view, IsPass}

-- ---- entries of one number

pub entries_by-own : (n : ℕ) (log : List Entry) (e : Entry) → e.by ≡ n → entries_by n (log ++ e ∷ []) ≡ entries_by n log ++ e ∷ []
entries_by-own n log e is = filter-append (λ (x : Entry). nat_eq x.by n) log (e ∷ []) ∙ ap (λ b. entries_by n log ++ cond b (e ∷ []) []) (eq-eqb e.by n is)

pub entries_by-other : (n : ℕ) (log : List Entry) (e : Entry) → e.by ≢ n → entries_by n (log ++ e ∷ []) ≡ entries_by n log
entries_by-other n log e not = filter-append (λ (x : Entry). nat_eq x.by n) log (e ∷ []) ∙ ap (λ b. entries_by n log ++ cond b (e ∷ []) []) (ne_eqb e.by n not) ∙ append-nil (entries_by n log)

-- ---- what a turn may leave

pub moved_same : (part : Part) (value left : Log) → IsOpenTo part value → left.entries ≡ value.entries → HasRoom part.terms.limit left → IsMoved part value.entries left
moved_same part value left opens same room = record {
  is_log = subst (λ l. IsLogOn part.terms l) (sym same) opens.is_log;
  room = room;
  grows = subst (λ l. IsPrefix value.entries l) (sym same) (IsPrefix-refl value.entries);
  others = λ n other. ap (entries_by n) same;
}

-- The entry that a pass offers, in its conditions.
pub record IsSound (part : Part) (e : Entry) : Type 0 where
  pub by_is : e.by ≡ part.number
  pub within : IsWithinVariables part.terms.vars e.clause
  pub follows : Follows (part.terms.base ++ clauses_of part.seen) e.clause e.hints
  pub teaches : Teaches (part.terms.base ++ clauses_of part.own) e.clause

legal_after : (part : Part) (value : Log) (e : Entry) → IsOpenTo part value → IsSound part e
    → IsLegal part.terms.vars part.terms.base part.terms.limit (log_after value.entries part.terms.limit (Append e))
legal_after part value e opens sound =
    let seen : take (length part.seen) value.entries ≡ part.seen = ap (take (length part.seen)) opens.part_of.seen.1 ∙ take-append_all part.seen opens.part_of.seen.0 in
    legal_turn part.terms.vars part.terms.base part.terms.limit value.entries (Append e) opens.is_log.legal
    (sound.within, (length part.seen, subst (λ es. Follows (part.terms.base ++ clauses_of es) e.clause e.hints) (sym seen) sound.follows))

moved_added : (part : Part) (value left : Log) (e : Entry) → IsOpenTo part value → IsSound part e → left.entries ≡ value.entries ++ e ∷ []
    → IsLegal part.terms.vars part.terms.base part.terms.limit left.entries → HasRoom part.terms.limit left → IsMoved part value.entries left
moved_added part value left e opens sound added legal room = record {
  is_log = record {
    legal = legal;
    taught = subst (IsTaught part.terms.base) (sym added)
        (taught-push part.terms.base value.entries e opens.is_log.taught
        (subst (λ es. Teaches (part.terms.base ++ clauses_of es) e.clause) (opens.part_of.own ∙ ap (λ n. entries_by n value.entries) (sym sound.by_is)) sound.teaches));
    of_passes = subst (All (λ d. d.by < part.terms.seats)) (sym added)
        (All-push (λ d. d.by < part.terms.seats) value.entries e opens.is_log.of_passes (subst (λ n. n < part.terms.seats) (sym sound.by_is) opens.part_of.number_below));
  };
  room = room;
  grows = (e ∷ [], added);
  others = λ n other. ap (entries_by n) added ∙ entries_by-other n value.entries e (λ is. other (sym is ∙ sound.by_is));
}

replied : (part : Part) (value left : Log) (e : Entry) (reply : Reply) → IsOpenTo part value → IsSound part e → left.entries ≡ log_replied value.entries e reply
    → IsLegal part.terms.vars part.terms.base part.terms.limit left.entries → HasRoom part.terms.limit left → IsMoved part value.entries left
replied part value left e (At place) opens sound same legal room = moved_added part value left e opens sound same legal room
replied part value left e (Known place) opens sound same legal room = moved_same part value left opens same room
replied part value left e Closed opens sound same legal room = moved_same part value left opens same room
replied part value left e Full opens sound same legal room = moved_same part value left opens same room
replied part value left e (Seen count) opens sound same legal room = moved_same part value left opens same room

pub offered_moves : (part : Part) (value left : Log) (e : Entry) (r : Result Reply Refused) → IsOpenTo part value → IsSound part e
    → IsOfferedTo part.terms.limit value e r left → IsMoved part value.entries left
offered_moves part value left e (Ok reply) opens sound o =
    replied part value left e (reply_to value.entries part.terms.limit e.clause) opens sound o.1
    (subst (IsLegal part.terms.vars part.terms.base part.terms.limit) (sym o.1) (legal_after part value e opens sound)) o.2
offered_moves part value left e (Err refused) opens sound o = moved_same part value left opens o.1 o.2

-- ---- seen from the pass

-- The seat of a pass, as its view tells it.
pub seat_of : (id : TableId) (me : Place) (p : PassView) → IsPass me → pass_view id me ≡ p → me ≡ idle (part_seen p)
seat_of id me p is view = is.1 ∙ ap idle (sym (ap (λ (m : Place). part_of m.0) is.1) ∙ ap part_seen view)

-- What a pass is seen as after its turn.
abbrev after : PassView → TableId → List Entry → PassView
after p id log = record { exchange = record { id = id; terms = p.exchange.terms }; number = p.number; seen = log; own = entries_by p.number log }

view_after : (p : PassView) (id : TableId) (me : Place) (log : List Entry) → me ≡ idle (moved (part_seen p) log) → pass_view id me ≡ after p id log
view_after p id me log is = ap (pass_view id) is

pub turn_after : (p : PassView) (id : TableId) (me : Place) (value left : Log) → me ≡ idle (moved (part_seen p) left.entries) → id ≡ p.exchange.id
    → IsOpenTo (part_seen p) value → IsMoved (part_seen p) value.entries left → IsAfterTurn p (pass_view id me)
turn_after p id me value left is same opens m = subst (IsAfterTurn p) (sym (view_after p id me left.entries is)) record {
  exchange = λ i. record { id = same i; terms = p.exchange.terms };
  number = refl;
  seen = IsPrefix-trans p.seen value.entries left.entries opens.part_of.seen m.grows;
  log = m.is_log;
  own_stand = refl;
}

own_replied : (n : ℕ) (log own : List Entry) (e : Entry) (reply : Reply) → e.by ≡ n → own ≡ entries_by n log → entries_by n (log_replied log e reply) ≡ log_replied own e reply
own_replied n log own e (At place) is same = entries_by-own n log e is ∙ ap (λ es. es ++ e ∷ []) (sym same)
own_replied n log own e (Known place) is same = sym same
own_replied n log own e Closed is same = sym same
own_replied n log own e Full is same = sym same
own_replied n log own e (Seen count) is same = sym same

pub offered_ok : (p : PassView) (id : TableId) (me : Place) (value left : Log) (e : Entry) (r : Result Reply Refused) → me ≡ idle (moved (part_seen p) left.entries)
    → IsOpenTo (part_seen p) value → e.by ≡ p.number → IsOfferedTo p.exchange.terms.limit value e r left → IfOk r (λ reply. IsOffered e reply p (pass_view id me))
offered_ok p id me value left e (Ok reply) is opens by_is o = subst (IsOffered e reply p) (sym (view_after p id me left.entries is)) record {
  log = value.entries;
  begins = opens.part_of.seen;
  reply_is = o.0;
  seen_after = o.1;
  own_after = ap (entries_by p.number) o.1 ∙ own_replied p.number value.entries p.own e (reply_to value.entries p.exchange.terms.limit e.clause) by_is opens.part_of.own
      ∙ ap (log_replied p.own e) (sym o.0);
}
offered_ok p id me value left e (Err refused) is opens by_is o = tt

pub own_kept : (p : PassView) (id : TableId) (me : Place) (value left : Log) → me ≡ idle (moved (part_seen p) left.entries) → IsOpenTo (part_seen p) value
    → left.entries ≡ value.entries → (pass_view id me).own ≡ p.own
own_kept p id me value left is opens same = ap (λ (q : PassView). q.own) (view_after p id me left.entries is) ∙ ap (entries_by p.number) same ∙ sym opens.part_of.own

pub offered_err : (p : PassView) (id : TableId) (me : Place) (value left : Log) (e : Entry) (r : Result Reply Refused) → me ≡ idle (moved (part_seen p) left.entries)
    → IsOpenTo (part_seen p) value → IsOfferedTo p.exchange.terms.limit value e r left
    → IfErr r (λ refused. (refused.entry ≡ e) × ((pass_view id me).own ≡ p.own) × (p.exchange.terms.limit ≡ None))
offered_err p id me value left e (Ok reply) is opens o = tt
offered_err p id me value left e (Err refused) is opens o = (o.0, own_kept p id me value left is opens o.1, o.3)

-- ---- what was copied

pub prefix_of_take : (log items : List Entry) (i : ℕ) → items ≡ take i log → IsPrefix items log
prefix_of_take log items i e = subst (λ l. IsPrefix l log) (sym e) (take_drop i log)

-- memory was wanted when the list was a first part of the log
pub copied_err : (log items : List Entry) (i : ℕ) (r : Result (Unit {0}) AllocError) (e : AllocError) → r ≡ Err e → items ≡ take i log → IsCopiedOf log r items
copied_err log items i r e was first = subst (λ (x : Result (Unit {0}) AllocError). IsCopiedOf log x items) (sym was) (prefix_of_take log items i first)

pub one_more_copied : (log items more : List Entry) (i : ℕ) (e : Entry) → items ≡ take i log → slice_get log i ≡ Some e → more ≡ items ++ e ∷ [] → more ≡ take (i + 1) log
one_more_copied log items more i e first at added =
    let lt = slice_get_within log i e at in
    added ∙ ap (λ l. l ++ e ∷ []) first ∙ sym (take_more log i e lt ∙ ap (λ d. take i log ++ d ∷ []) (get_or_from_slice_get log i e e at))

pub copied_ok : (log into : List Entry) (r : Result (Unit {0}) AllocError) → IsCopiedOf log r into → OnOk r (into ≡ log)
copied_ok log into (Ok _) c = c
copied_ok log into (Err e) c = tt

pub copied_part : (log into : List Entry) (r : Result (Unit {0}) AllocError) → IsCopiedOf log r into → OnErr r (IsPrefix into log)
copied_part log into (Ok _) c = tt
copied_part log into (Err e) c = c

pub seen_after : (p : PassView) (id : TableId) (me : Place) (left : List Entry) → me ≡ idle (moved (part_seen p) left) → (pass_view id me).seen ≡ left
seen_after p id me left is = ap (λ (q : PassView). q.seen) (view_after p id me left is)

-- An entry was offered in a pass's turn: the log that the turn found, and the one that it left.
pub record IsOfferedIn (p : PassView) (e : Entry) (r : Result Reply Refused) (me : Place) : Type 0 where
  pub value : Log
  pub left : Log
  pub opens : IsOpenTo (part_seen p) value
  pub has : me ≡ begun value.entries left (part_seen p)
  pub moves : IsMoved (part_seen p) value.entries left
  pub offered : IsOfferedTo p.exchange.terms.limit value e r left

pub offered_in : (p : PassView) (e : Entry) (r : Result Reply Refused) (before me : Place) (limit : Option ℕ) → limit ≡ p.exchange.terms.limit → IsSound (part_seen p) e
    → Begins (part_seen p) before
    → ((log : List Entry) (value : Log) (part : Part) → before ≡ begun log value part → (left : Log) × (me ≡ begun log left part) × IsOfferedTo limit value e r left)
    → IsOfferedIn p e r me
offered_in p e r before me limit same sound b offers =
    let o = offers b.0.entries b.0 (part_seen p) b.1 in
    let offered : IsOfferedTo p.exchange.terms.limit b.0 e r o.0 = subst (λ l. IsOfferedTo l b.0 e r o.0) same o.2 in
    record { value = b.0; left = o.0; opens = b.2; has = o.1; moves = offered_moves (part_seen p) b.0 o.0 e r b.2 sound offered; offered = offered }
