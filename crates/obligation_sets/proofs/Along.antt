use Rattle.std.proofs.Common.{◌≡◌, inl, inr, ℕ, zero, suc, ◌+◌, ◌*◌, ◌-◌, ◌^◌, ◌<◌, ◌≤◌, List, [], ◌∷◌, ◌++◌, Option, None, Some, All, length, min, reverse, refl, sym, ◌∙◌, ap, subst, arith}
use Rattle.std.proofs.lemmas.Bool.{cond-true}
use Rattle.std.proofs.lemmas.List.{append_assoc, length-append, reverse-append}
use Rattle.std.proofs.lemmas.List.Elements.{Contains-append_left, Contains-append_right}
use Rattle.std.proofs.lemmas.List.Sums.{fold-append}
use Rattle.std.specs.List.{list_any}
use Rattle.std.specs.Prelude.{Contains, filter, fold, not}
use Rattle.std_lemmas.proofs.Lists.{Contains-head, Contains-later, any_holds}
use Rattle.ltl_formula.specs.declared.nodes.FormulaId.{FormulaId}
use Rattle.ltl_formula.specs.declared.nodes.Node.{Node}
use Rattle.ltl_formula.specs.Nodes.{IsNodeList, IsNodeIn}
use Rattle.obligation_sets.specs.declared.branches.Fork.{Fork}
use Rattle.obligation_sets.specs.declared.branches.Step.{Step}
use Rattle.obligation_sets.specs.declared.branches.Step.TheVariants.{Leaf, Dead, On, Split}
use Rattle.obligation_sets.specs.declared.cover_search.Frame.{Frame}
use Rattle.obligation_sets.specs.declared.cover_search.Frame.TheVariants.{Open, Close}
use Rattle.obligation_sets.specs.declared.cover_search.Search.{Search}
use Rattle.obligation_sets.specs.declared.cover_search.TheConstants.{MAX_LEAVES}
use Rattle.obligation_sets.specs.declared.forks.KnownForks.{KnownForks}
use Rattle.obligation_sets.specs.declared.sets.Cover.{Cover}
use Rattle.obligation_sets.specs.declared.sets.Covering.{Covering}
use Rattle.obligation_sets.specs.Branch.{Branch}
use Rattle.obligation_sets.specs.Covers.{alive, leaves_below, leaves_of, same_cover, set_leaves, start_branch}
use Rattle.obligation_sets.specs.Forks.{Learns, branch_of, leaves_in}
use Rattle.obligation_sets.specs.Gathered.{gather}
use Rattle.obligation_sets.specs.Reduced.{asks_no_more, cover_by, covers_by}
use Rattle.obligation_sets.specs.Search.{Advances, AfterStep, EndsWith, FramePlaces, HasLeafPlaces, IsAlong, IsFollowed, LeadsTo, SearchAlong, weight}
use Rattle.obligation_sets.specs.Steps.{HasPlaces, settled, step, undone}
use Rattle.obligation_sets.proofs.Distinct.{all_in, same_cover-decides, same_cover-itself}
use Rattle.obligation_sets.proofs.LessAsked.{asks_refl, asks_trans, covers_gathered, minimal_kept}
use Rattle.obligation_sets.proofs.Minimal.{IsBelow, IsKept}
use Rattle.obligation_sets.proofs.NextStep.{alive_from, alive_has}
use Rattle.obligation_sets.proofs.Walks.{Stepped, leaves_of-settled, leaves_of-step, settled_places, start_places, step_stepped}

alive-append : (cover : Branch → Cover) (leaves more : List (Option Branch)) → alive cover (leaves ++ more) ≡ alive cover leaves ++ alive cover more
alive-append cover [] more = refl
alive-append cover (None ∷ leaves) more = alive-append cover leaves more
alive-append cover (Some b ∷ leaves) more = ap (λ covers. cover b ∷ covers) (alive-append cover leaves more)

-- a cover that came before changes nothing when it comes again
gather_again : (covering : Covering) (come : List Cover) (c : Cover) → Contains come c → gather covering (fold (gather covering) [] come) c ≡ fold (gather covering) [] come
gather_again Covering.Plain come c there =
    let kept : List Cover = fold (gather Covering.Plain) [] come in
    cond-true (list_any (same_cover c) kept) kept (kept ++ c ∷ []) (any_holds (same_cover c) kept c (all_in same_cover same_cover-decides [] come c there) (same_cover-itself c))
gather_again Covering.Reduced come c there =
    let kept : List Cover = fold (gather Covering.Reduced) [] come in
    let known : IsKept asks_no_more asks_refl asks_trans come kept = minimal_kept come in
    let b : IsBelow asks_no_more asks_refl asks_trans kept c = known.below c there in
    cond-true (list_any (λ k. asks_no_more k c) kept) kept (filter (λ k. not (asks_no_more c k)) kept ++ c ∷ []) (any_holds (λ k. asks_no_more k c) kept b.element b.there b.below)

gather_all_again : (covering : Covering) (come again : List Cover) → ((c : Cover) → Contains again c → Contains come c) → fold (gather covering) (fold (gather covering) [] come) again ≡ fold (gather covering) [] come
gather_all_again covering come [] each = refl
gather_all_again covering come (c ∷ again) each =
    ap (λ kept. fold (gather covering) kept again) (gather_again covering come c (each c (Contains-head c again)))
    ∙ gather_all_again covering come again (λ d there. each d (Contains-later c again d there))

-- leaves that were met before bring no cover
leaves_again : (covering : Covering) (ns : List Node) (seen again : List (Option Branch)) → ((leaf : Option Branch) → Contains again leaf → Contains seen leaf)
    → fold (gather covering) (fold (gather covering) [] (alive (cover_by covering ns) seen)) (alive (cover_by covering ns) again) ≡ fold (gather covering) [] (alive (cover_by covering ns) seen)
leaves_again covering ns seen again each =
    gather_all_again covering (alive (cover_by covering ns) seen) (alive (cover_by covering ns) again)
    (λ c there.
    let r : (leaf : Branch) × Contains again (Some leaf) × (cover_by covering ns leaf ≡ c) = alive_from (cover_by covering ns) again c there in
    subst (λ (d : Cover). Contains (alive (cover_by covering ns) seen) d) r.2 (alive_has (cover_by covering ns) seen r.0 (each (Some r.0) r.1)))

-- a leaf that comes of a step is one over n formulas, and its flags fit ids of 32 bits
leaf_places : (n : ℕ) → n ≤ 16384 → (b : Branch) (s : Step) → Stepped n b s → HasLeafPlaces n s
leaf_places n few b (Leaf leaf) h = (h, let next : length leaf.next ≡ n = h.next in omega arith)
leaf_places n few b Dead h = tt
leaf_places n few b (On c) h = tt
leaf_places n few b (Split c d) h = tt

pub step_leaf : (ns : List Node) → IsNodeList ns → (b : Branch) → HasPlaces (length ns) b → (s : Step) → s ≡ step ns b → HasLeafPlaces (length ns) s
step_leaf ns list b places s is = subst (HasLeafPlaces (length ns)) (sym is) (leaf_places (length ns) list.most b (step ns b) (step_stepped ns list b places))

three_more : (n : ℕ) → 3 ^ suc n ≡ 3 * 3 ^ n
three_more n = grind arith

three_pos : (n : ℕ) → 0 < 3 ^ n
three_pos zero = omega arith
three_pos (suc n) = let p : 0 < 3 ^ n = three_pos n in let e : 3 ^ suc n ≡ 3 * 3 ^ n = three_more n in omega arith

-- a step makes the work less by two at least
weight_after : (n : ℕ) (covering : Covering) (ns : List Node) (stack new : List Frame) (b : Branch) (found after : List Cover) (met : ℕ) (s : Step) → Stepped n b s → AfterStep covering ns s stack new found after met → weight new + 2 ≤ weight (Open b ∷ stack)
weight_after n covering ns stack new b found after met (Leaf leaf) goes h =
    let e : weight new ≡ weight stack = ap weight h.0 in
    let p : 0 < 3 ^ undone b.done = three_pos (undone b.done) in
    omega arith
weight_after n covering ns stack new b found after met Dead goes h =
    let e : weight new ≡ weight stack = ap weight h.0 in
    let p : 0 < 3 ^ undone b.done = three_pos (undone b.done) in
    omega arith
weight_after n covering ns stack new b found after met (On c) goes h =
    let e : weight new ≡ weight (Open c ∷ stack) = ap weight h.0 in
    let p : 0 < 3 ^ undone c.done = three_pos (undone c.done) in
    let t : 3 ^ undone b.done ≡ 3 * 3 ^ undone c.done = ap (λ n. 3 ^ n) goes.1 ∙ three_more (undone c.done) in
    omega arith
weight_after n covering ns stack new b found after met (Split c d) goes h =
    let e : weight new ≡ weight (Open c ∷ Open d ∷ stack) = ap weight h.0 in
    let p : 0 < 3 ^ undone c.done = three_pos (undone c.done) in
    let t : 3 ^ undone b.done ≡ 3 * 3 ^ undone c.done = ap (λ n. 3 ^ n) goes.1 ∙ three_more (undone c.done) in
    let u : 3 ^ undone b.done ≡ 3 * 3 ^ undone d.done = ap (λ n. 3 ^ n) goes.3 ∙ three_more (undone d.done) in
    omega arith

pub step_falls : (covering : Covering) (ns : List Node) → IsNodeList ns → (stack new : List Frame) (b : Branch) (found after : List Cover) (met : ℕ) → HasPlaces (length ns) b → AfterStep covering ns (step ns b) stack new found after met → weight new + 2 ≤ weight (Open b ∷ stack)
step_falls covering ns list stack new b found after met places h = weight_after (length ns) covering ns stack new b found after met (step ns b) (step_stepped ns list b places) h

pub open_falls : (stack : List Frame) (b : Branch) → weight stack + 1 ≤ weight (Open b ∷ stack)
open_falls stack b = let p : 0 < 3 ^ undone b.done = three_pos (undone b.done) in omega arith

module _ (covering : Covering) (ns : List Node) (set : List FormulaId) (known : Fork → Option ℕ) where
  -- all leaves of the top branch are met
  pub met_all : (stack : List Frame) (b : Branch) (found after : List Cover) (leaves now : ℕ) → IsAlong covering ns set (Open b ∷ stack) found leaves known
      → after ≡ fold (gather covering) found (alive (cover_by covering ns) (leaves_of ns b)) → now ≡ leaves + length (leaves_of ns b) → IsAlong covering ns set stack after now known
  met_all stack b found after leaves now along gathered counted = record {
    seen = along.seen ++ leaves_of ns b;
    leads = along.leads.1;
    covers = gathered ∙ ap (λ (cs : List Cover). fold (gather covering) cs (alive (cover_by covering ns) (leaves_of ns b))) along.covers
        ∙ sym (fold-append (gather covering) [] (alive (cover_by covering ns) along.seen) (alive (cover_by covering ns) (leaves_of ns b)))
        ∙ ap (fold (gather covering) []) (sym (alive-append (cover_by covering ns) along.seen (leaves_of ns b)));
    count = (let e : leaves ≡ length along.seen = along.count in omega (arith, counted, length-append along.seen (leaves_of ns b)));
    known_met = λ fork n is.
        let m : IsFollowed ns along.seen (branch_of fork) n = along.known_met fork n is in
        record { count = m.count; few = m.few; all = λ leaf there. Contains-append_left along.seen (leaves_of ns b) leaf (m.all leaf there) };
  }

  -- other branches with the same leaves
  top_same : (stack : List Frame) (b c : Branch) (found : List Cover) (leaves : ℕ) → leaves_of ns b ≡ leaves_of ns c → HasPlaces (length ns) c → IsAlong covering ns set (Open b ∷ stack) found leaves known → IsAlong covering ns set (Open c ∷ stack) found leaves known
  top_same stack b c found leaves same places along = record {
    seen = along.seen;
    leads = (places, subst (λ (ls : List (Option Branch)). LeadsTo ns (set_leaves ns set) (along.seen ++ ls) stack) same along.leads.1);
    covers = along.covers;
    count = along.count;
    known_met = along.known_met;
  }

  top_split : (stack : List Frame) (b c d : Branch) (found : List Cover) (leaves : ℕ) → leaves_of ns b ≡ leaves_of ns c ++ leaves_of ns d → HasPlaces (length ns) c → HasPlaces (length ns) d
      → IsAlong covering ns set (Open b ∷ stack) found leaves known → IsAlong covering ns set (Open c ∷ Open d ∷ stack) found leaves known
  top_split stack b c d found leaves both first second along = record {
    seen = along.seen;
    leads = (first, (second, subst (λ (ls : List (Option Branch)). LeadsTo ns (set_leaves ns set) ls stack) (ap (λ (ls : List (Option Branch)). along.seen ++ ls) both ∙ sym (append_assoc along.seen (leaves_of ns c) (leaves_of ns d))) along.leads.1));
    covers = along.covers;
    count = along.count;
    known_met = along.known_met;
  }

  none_more : (leaves met : ℕ) → met ≡ 0 → leaves ≡ leaves + met
  none_more leaves met none = omega arith

  along_after : (stack new : List Frame) (b : Branch) (found after : List Cover) (leaves met : ℕ) (s : Step) → Stepped (length ns) b s → leaves_of ns b ≡ leaves_below (leaves_of ns) s → IsAlong covering ns set (Open b ∷ stack) found leaves known
      → AfterStep covering ns s stack new found after met → IsAlong covering ns set new after (leaves + met) known
  along_after stack new b found after leaves met (Leaf leaf) goes below along h =
      subst (λ (fs : List Frame). IsAlong covering ns set fs after (leaves + met) known) (sym h.0)
      (met_all stack b found after leaves (leaves + met) along (h.1 ∙ ap (λ (ls : List (Option Branch)). fold (gather covering) found (alive (cover_by covering ns) ls)) (sym below))
      (ap (λ n. leaves + n) (h.2 ∙ sym (ap length below))))
  along_after stack new b found after leaves met Dead goes below along h =
      subst (λ (fs : List Frame). IsAlong covering ns set fs after (leaves + met) known) (sym h.0)
      (met_all stack b found after leaves (leaves + met) along (h.1 ∙ ap (λ (ls : List (Option Branch)). fold (gather covering) found (alive (cover_by covering ns) ls)) (sym below))
      (ap (λ n. leaves + n) (h.2 ∙ sym (ap length below))))
  along_after stack new b found after leaves met (On c) goes below along h =
      subst (λ (fs : List Frame). IsAlong covering ns set fs after (leaves + met) known) (sym h.0)
      (subst (λ (cs : List Cover). IsAlong covering ns set (Open c ∷ stack) cs (leaves + met) known) (sym h.1)
      (subst (λ (n : ℕ). IsAlong covering ns set (Open c ∷ stack) found n known) (none_more leaves met h.2) (top_same stack b c found leaves below goes.0 along)))
  along_after stack new b found after leaves met (Split c d) goes below along h =
      subst (λ (fs : List Frame). IsAlong covering ns set fs after (leaves + met) known) (sym h.0)
      (subst (λ (cs : List Cover). IsAlong covering ns set (Open c ∷ Open d ∷ stack) cs (leaves + met) known) (sym h.1)
      (subst (λ (n : ℕ). IsAlong covering ns set (Open c ∷ Open d ∷ stack) found n known) (none_more leaves met h.2) (top_split stack b c d found leaves below goes.0 goes.2 along)))

  -- the whole step of a branch
  pub along_step : IsNodeList ns → (stack new : List Frame) (b : Branch) (found after : List Cover) (leaves met : ℕ) → IsAlong covering ns set (Open b ∷ stack) found leaves known → AfterStep covering ns (step ns b) stack new found after met
      → IsAlong covering ns set new after (leaves + met) known
  along_step list stack new b found after leaves met along h =
      along_after stack new b found after leaves met (step ns b) (step_stepped ns list b along.leads.0) (leaves_of-step ns list b along.leads.0) along h

  pub along_settled : (stack : List Frame) (b : Branch) (found : List Cover) (leaves : ℕ) → IsAlong covering ns set (Open b ∷ stack) found leaves known → IsAlong covering ns set (Open (settled b) ∷ stack) found leaves known
  along_settled stack b found leaves along = top_same stack b (settled b) found leaves (sym (leaves_of-settled ns b)) (settled_places (length ns) b along.leads.0) along

  -- the end of a fork is put below it
  pub along_marked : (stack : List Frame) (found : List Cover) (leaves : ℕ) (fork : Fork) → IsAlong covering ns set (Open (branch_of fork) ∷ stack) found leaves known → IsAlong covering ns set (Open (branch_of fork) ∷ Close fork leaves ∷ stack) found leaves known
  along_marked stack found leaves fork along = record {
    seen = along.seen;
    leads = (along.leads.0, (record { first = along.seen; is = refl; count = along.count }, along.leads.1));
    covers = along.covers;
    count = along.count;
    known_met = along.known_met;
  }

  -- a fork that is known
  pub along_known : (stack : List Frame) (found : List Cover) (leaves now : ℕ) (fork : Fork) (n : ℕ) → known fork ≡ Some n → (n ≤ MAX_LEAVES → now ≡ leaves + n) → IsAlong covering ns set (Open (branch_of fork) ∷ stack) found leaves known
      → IsAlong covering ns set stack found now known
  along_known stack found leaves now fork n there counted along =
      let m : IsFollowed ns along.seen (branch_of fork) n = along.known_met fork n there in
      met_all stack (branch_of fork) found found leaves now along
      (along.covers ∙ sym (leaves_again covering ns along.seen (leaves_of ns (branch_of fork)) m.all) ∙ ap (λ (cs : List Cover). fold (gather covering) cs (alive (cover_by covering ns) (leaves_of ns (branch_of fork)))) (sym along.covers))
      (counted m.few ∙ ap (λ k. leaves + k) m.count)

  -- the end of a fork was reached
  pub along_closed : (stack : List Frame) (found : List Cover) (leaves before : ℕ) (fork : Fork) (new : Fork → Option ℕ) → leaves ≤ MAX_LEAVES → Learns known new (branch_of fork) (leaves - before)
      → IsAlong covering ns set (Close fork before ∷ stack) found leaves known → IsAlong covering ns set stack found leaves new
  along_closed stack found leaves before fork new few learns along =
      let ends : EndsWith ns (branch_of fork) before along.seen = along.leads.0 in
      let met : IsFollowed ns along.seen (branch_of fork) (leaves - before) = record {
        count = (let e : leaves ≡ length along.seen = along.count in let f : before ≡ length ends.first = ends.count in
            let g : length along.seen ≡ length (ends.first ++ leaves_of ns (branch_of fork)) = ap length ends.is in
            omega (arith, length-append ends.first (leaves_of ns (branch_of fork))));
        few = omega arith;
        all = λ leaf there. subst (λ (ls : List (Option Branch)). Contains ls leaf) (sym ends.is) (Contains-append_right ends.first (leaves_of ns (branch_of fork)) leaf there);
      } in
      record {
        seen = along.seen;
        leads = along.leads.1;
        covers = along.covers;
        count = along.count;
        known_met = λ q n is. elim (learns q n is) [
          | inl old ↦ along.known_met q n old
          | inr own ↦ subst (λ (k : ℕ). IsFollowed ns along.seen (branch_of q) k) (sym own.1) (subst (λ (c : Branch). IsFollowed ns along.seen c (leaves - before)) own.0 met)
        ];
      }

  -- where the stack is empty the covers found are those of the set
  pub along_end : (found : List Cover) (leaves : ℕ) → IsAlong covering ns set [] found leaves known → found ≡ covers_by covering ns set
  along_end found leaves along =
      along.covers ∙ ap (λ (ls : List (Option Branch)). fold (gather covering) [] (alive (cover_by covering ns) ls)) (sym along.leads) ∙ covers_gathered covering ns set

  -- the leaves met are some of all
  some_met : (all seen : List (Option Branch)) (stack : List Frame) → LeadsTo ns all seen stack → length seen ≤ length all
  some_met all seen [] leads = let e : length all ≡ length seen = ap length leads in omega arith
  some_met all seen (Open b ∷ stack) leads = let more : length (seen ++ leaves_of ns b) ≤ length all = some_met all (seen ++ leaves_of ns b) stack leads.1 in omega (arith, length-append seen (leaves_of ns b))
  some_met all seen (Close fork before ∷ stack) leads = some_met all seen stack leads.1

  pub leaves_met : (stack : List Frame) (found : List Cover) (leaves : ℕ) → IsAlong covering ns set stack found leaves known → leaves ≤ length (set_leaves ns set)
  leaves_met stack found leaves along = let e : leaves ≡ length along.seen = along.count in let m : length along.seen ≤ length (set_leaves ns set) = some_met (set_leaves ns set) along.seen stack along.leads in omega arith

  top_places : (all seen : List (Option Branch)) (frame : Frame) (stack : List Frame) → LeadsTo ns all seen (frame ∷ stack) → FramePlaces (length ns) frame
  top_places all seen (Open b) stack leads = leads.0
  top_places all seen (Close fork before) stack leads = tt

  pub frame_places : (frame : Frame) (stack : List Frame) (found : List Cover) (leaves : ℕ) → IsAlong covering ns set (frame ∷ stack) found leaves known → FramePlaces (length ns) frame
  frame_places frame stack found leaves along = top_places (set_leaves ns set) along.seen frame stack along.leads

-- the search begins
pub along_start : (covering : Covering) (ns : List Node) (set : List FormulaId) (stack : List Frame) (found : List Cover) (known : Fork → Option ℕ) → All (IsNodeIn ns) set → stack ≡ Open (start_branch ns set) ∷ [] → found ≡ [] → ((fork : Fork) → known fork ≡ None) → IsAlong covering ns set stack found 0 known
along_start covering ns set stack found known stand begins empty none =
    subst (λ (fs : List Frame). IsAlong covering ns set fs found 0 known) (sym begins)
    (record {
      seen = [];
      leads = (start_places ns set stand, refl);
      covers = empty;
      count = refl;
      known_met = λ fork n is. let wrong : None ≡ Some n = sym (none fork) ∙ is in cc;
    })

-- what is on top of a stack
pub popped : (frames rest : List Frame) (frame : Frame) → frames ≡ rest ++ frame ∷ [] → reverse frames ≡ frame ∷ reverse rest
popped frames rest frame is = ap reverse is ∙ reverse-append rest (frame ∷ [])

-- a search whose top frame was taken off
pub along_top : (covering : Covering) (ns : List Node) (set : List FormulaId) (search : Search) (rest : List Frame) (frame : Frame) → search.frames.items ≡ rest ++ frame ∷ [] → SearchAlong covering ns set (reverse search.frames.items) search
    → SearchAlong covering ns set (frame ∷ reverse rest) search
along_top covering ns set search rest frame is along = subst (λ (stack : List Frame). SearchAlong covering ns set stack search) (popped search.frames.items rest frame is) along

-- the search as a whole
module _ (covering : Covering) (ns : List Node) (old new : Search) where
  -- it goes on from a branch as from the settled one
  pub advances_settled : (stack : List Frame) (b t : Branch) (less : ℕ) → t ≡ settled b → Advances covering ns (Open t ∷ stack) old new less → Advances covering ns (Open b ∷ stack) old new less
  advances_settled stack b t less is advances =
      let on : Advances covering ns (Open (settled b) ∷ stack) old new less = subst (λ (c : Branch). Advances covering ns (Open c ∷ stack) old new less) is advances in
      record { along = λ set a. on.along set (along_settled covering ns set (leaves_in old.known) stack b old.found.keys old.leaves a); falls = on.falls }

  pub advances_less : (stack : List Frame) → Advances covering ns stack old new 2 → Advances covering ns stack old new 1
  advances_less stack advances = record { along = advances.along; falls = (let f : weight (reverse new.frames.items) + 2 ≤ weight stack = advances.falls in omega arith) }

  -- a step of the top branch
  pub advances_step : IsNodeList ns → (stack : List Frame) (b : Branch) (met : ℕ) (s : Step) → HasPlaces (length ns) b → s ≡ step ns b → AfterStep covering ns s stack (reverse new.frames.items) old.found.keys new.found.keys met → new.leaves ≡ old.leaves + met
      → leaves_in new.known ≡ leaves_in old.known → Advances covering ns (Open b ∷ stack) old new 2
  advances_step list stack b met s places is after counted same =
      let stepped : AfterStep covering ns (step ns b) stack (reverse new.frames.items) old.found.keys new.found.keys met = subst (λ (t : Step). AfterStep covering ns t stack (reverse new.frames.items) old.found.keys new.found.keys met) is after in
      record {
        along = λ set a.
            subst (λ (n : ℕ). IsAlong covering ns set (reverse new.frames.items) new.found.keys n (leaves_in new.known)) (sym counted)
            (subst (λ (known : Fork → Option ℕ). IsAlong covering ns set (reverse new.frames.items) new.found.keys (old.leaves + met) known) (sym same)
            (along_step covering ns set (leaves_in old.known) list stack (reverse new.frames.items) b old.found.keys new.found.keys old.leaves met a stepped));
        falls = step_falls covering ns list stack (reverse new.frames.items) b old.found.keys new.found.keys met places stepped;
      }

  -- a step of a branch below which the end of its fork was put
  pub advances_marked : (mid : Search) (t : Branch) (fork : Fork) → branch_of fork ≡ t → mid.frames.items ≡ old.frames.items ++ Close fork old.leaves ∷ [] → mid.found.keys ≡ old.found.keys → mid.leaves ≡ old.leaves → leaves_in mid.known ≡ leaves_in old.known
      → Advances covering ns (Open t ∷ reverse mid.frames.items) mid new 2 → Advances covering ns (Open t ∷ reverse old.frames.items) old new 1
  advances_marked mid t fork is marked found leaves known advances =
      let stack : reverse mid.frames.items ≡ Close fork old.leaves ∷ reverse old.frames.items = popped mid.frames.items old.frames.items (Close fork old.leaves) marked in
      record {
        along = λ set a.
            advances.along set
            (subst (λ (stack : List Frame). IsAlong covering ns set (Open t ∷ stack) mid.found.keys mid.leaves (leaves_in mid.known)) (sym stack)
            (subst (λ (cs : List Cover). IsAlong covering ns set (Open t ∷ Close fork old.leaves ∷ reverse old.frames.items) cs mid.leaves (leaves_in mid.known)) (sym found)
            (subst (λ (n : ℕ). IsAlong covering ns set (Open t ∷ Close fork old.leaves ∷ reverse old.frames.items) old.found.keys n (leaves_in mid.known)) (sym leaves)
            (subst (λ (k : Fork → Option ℕ). IsAlong covering ns set (Open t ∷ Close fork old.leaves ∷ reverse old.frames.items) old.found.keys old.leaves k) (sym known)
            (subst (λ (b : Branch). IsAlong covering ns set (Open b ∷ Close fork old.leaves ∷ reverse old.frames.items) old.found.keys old.leaves (leaves_in old.known)) is
            (along_marked covering ns set (leaves_in old.known) (reverse old.frames.items) old.found.keys old.leaves fork
            (subst (λ (b : Branch). SearchAlong covering ns set (Open b ∷ reverse old.frames.items) old) (sym is) a)))))));
        falls = (let f : weight (reverse new.frames.items) + 2 ≤ weight (Open t ∷ reverse mid.frames.items) = advances.falls in
            let w : weight (reverse mid.frames.items) ≡ 1 + weight (reverse old.frames.items) = ap weight stack in omega arith);
      }

-- a known fork is counted
pub advances_known : (covering : Covering) (ns : List Node) (old : Search) (t : Branch) (fork : Fork) (n now most : ℕ) → branch_of fork ≡ t → leaves_in old.known fork ≡ Some n → old.leaves ≤ MAX_LEAVES → 2 * MAX_LEAVES ≤ most → now ≡ min (old.leaves + n) most
    → Advances covering ns (Open t ∷ reverse old.frames.items) old (record { frames = old.frames; found = old.found; leaves = now; known = old.known }) 1
advances_known covering ns old t fork n now most is there few room counted = record {
  along = λ set a.
      along_known covering ns set (leaves_in old.known) (reverse old.frames.items) old.found.keys old.leaves now fork n there (λ also. omega (arith, counted))
      (subst (λ (b : Branch). SearchAlong covering ns set (Open b ∷ reverse old.frames.items) old) (sym is) a);
  falls = open_falls (reverse old.frames.items) t;
}

-- the end of a fork was reached, and its leaves are known
pub advances_closed : (covering : Covering) (ns : List Node) (old : Search) (fork : Fork) (before : ℕ) (known : KnownForks) → old.leaves ≤ MAX_LEAVES → Learns (leaves_in old.known) (leaves_in known) (branch_of fork) (old.leaves - before)
    → Advances covering ns (Close fork before ∷ reverse old.frames.items) old (record { frames = old.frames; found = old.found; leaves = old.leaves; known = known }) 1
advances_closed covering ns old fork before known few learns = record {
  along = λ set a. along_closed covering ns set (leaves_in old.known) (reverse old.frames.items) old.found.keys old.leaves before fork (leaves_in known) few learns a;
  falls = omega arith;
}

-- or are too few to be known
pub advances_few : (covering : Covering) (ns : List Node) (old : Search) (fork : Fork) (before : ℕ) → old.leaves ≤ MAX_LEAVES → Advances covering ns (Close fork before ∷ reverse old.frames.items) old old 1
advances_few covering ns old fork before few = advances_closed covering ns old fork before old.known few (λ q n is. inl is)
