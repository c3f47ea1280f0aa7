-- What makes a document hold for a text, and that it does.
use Rattle.std.proofs.Common.{◌≡◌, ℕ, ◌-◌, ◌<◌, ◌≤◌, inl, inr, Bool, true, false, List, [], ◌∷◌, Option, Some, None, All, IsTrue, IfSome, length, map, min, refl, sym, ap, ◌∙◌, subst, arith, is_some}
use Rattle.std.specs.Prelude.{nat_le}
use Rattle.std.specs.Option.{ForSome, option_map_or}
use Rattle.std.proofs.lemmas.Bool.{le-leb}
use Rattle.std.proofs.lemmas.List.Elements.{All-head, All-tail}
use Rattle.letters_and_lassos.specs.declared.kinds.Kind.{Kind}
use Rattle.letters_and_lassos.specs.declared.kinds.Side.{Side}
use Rattle.letters_and_lassos.specs.declared.kinds.Side.TheVariants.{System, Environment}
use Rattle.letters_and_lassos.specs.Kinds.{other_kind}
use Rattle.machine_model.specs.Counting.{IsCountedAs}
use Rattle.machine_model.specs.Problem.{automaton_of, sized}
use Rattle.machine_model.specs.declared.problems.Problem.{Problem}
use Rattle.annotation_encode.specs.Count.{SizesRise, allowed_sizes}
use Rattle.machine_model.specs.declared.counting.Counts.{Counts}
use Rattle.annotation_encode.specs.Variables.{variables_of}
use Rattle.aiger_text.specs.Circuit.{Circuit}
use Rattle.document_text.specs.declared.documents.Verdict.{Verdict}
use Rattle.document_text.specs.declared.documents.Verdict.TheVariants.{Machine, Unknown}
use Rattle.document_text.specs.contracts.documents.VerdictPartialEq.TheImpl.{ghosts as verdict_ghosts}
use Rattle.document_text.specs.declared.order.Order.TheVariants.{UpTo}
use Rattle.document_text.specs.declared.order.Place.{Place}
use Rattle.document_text.specs.Order.{has_its_place, machine_of, named_of, order_of, log_place, verdict_of}
use Rattle.document_text.specs.Parts.{Document, LogPart}
use Rattle.document_check.specs.Facts.{Facts, allowed_at, circuit_side, counting_for, for_side, problem_at, sizes_to, wanted_sizes}
use Rattle.document_check.specs.Holds as check
use Rattle.synth_engine.specs.Searched.{allowed_of}
use Rattle.synth_engine.specs.Logs.{base_at}
use Rattle.synth_engine.specs.Outcomes.{OfSide}
use Rattle.synth_answer.proofs.AsThree.{same_counting}
use Rattle.synth_answer.proofs.OpenLogs.{all_closed, may_be_full_is, same_verdict}
use Rattle.synth_answer.specs.Holds.{ForLog, IsClosedFor, IsClosedLog, IsEndedLog, IsFullFor, document_version}
use Rattle.synth_answer.proofs.Sides.{IsOf, on_both_of}
use Rattle.text_ground.proofs.Lists.{all_three}

-- the number of a side's sizes that a search allows
abbrev pub searched_sizes : Facts → ℕ → Side → ℕ
searched_sizes x max side = for_side side (allowed_sizes x.system max) (allowed_of max x.environment)

-- the log has the problem's numbers of variables and of base clauses
pub record HasHeadOf (p : Problem) (l : LogPart) : Type 0 where
  pub vars : l.vars ≡ variables_of (sized p l.size)
  pub base : l.base ≡ length (base_at p l.size)

-- the problems are those of a document of this kind over base clauses that count so
pub record AreOfKind (x : Facts) (kind : Kind) (counts : Counts) : Type 0 where
  pub kind_is : x.system.kind ≡ kind
  pub size : x.system.size ≡ 1
  pub counted : IsCountedAs counts (automaton_of x.system) x.system.counting
  pub other_kind_is : ForSome x.environment (λ p. p.kind ≡ other_kind kind)
  pub other_size : ForSome x.environment (λ p. p.size ≡ 1)
  pub other_counted : ForSome x.environment (λ p. IsCountedAs counts (automaton_of p) p.counting)

-- == names ==

names_hold : (x : Facts) (v : Verdict) (c : Option Circuit) → IsTrue (has_its_place (is_some c) v) → IfSome (machine_of v) (λ m. IfSome c (check.HasNames x m.side))
    → IfSome c (check.HasNames x (circuit_side v))
names_hold x (Machine side n least) c has h = h
names_hold x (Unknown first) None has h = tt
names_hold x (Unknown first) (Some c) has h = absurd (cc)

-- == numbers ==

number_holds : (x : Facts) (max : ℕ) (o : Option Place) → IfSome o (λ q. q.size ≤ searched_sizes x max q.side)
    → option_map_or (λ (p : Place). nat_le p.size (for_side p.side (searched_sizes x max System) (searched_sizes x max Environment))) o true ≡ true
number_holds x max None h = refl
number_holds x max (Some q) h =
    le-leb q.size (for_side q.side (searched_sizes x max System) (searched_sizes x max Environment)) h

-- of a machine of n states the sizes below n are wanted
pub sizes_below : (x : Facts) (max : ℕ) (side : Side) (n : ℕ) → n ≤ searched_sizes x max side
    → sizes_to side (n - 1) ≡ wanted_sizes (UpTo side (n - 1)) (searched_sizes x max System) (searched_sizes x max Environment)
sizes_below x max side n h =
    let most : n ≤ for_side side (searched_sizes x max System) (searched_sizes x max Environment) = h in
    let least : n - 1 ≡ min (n - 1) (for_side side (searched_sizes x max System) (searched_sizes x max Environment)) = omega (arith, most) in
    ap (sizes_to side) least

-- == the problems of sizes ==

same_at : (counts : Counts) (p : Problem) (kind : Kind) (n : ℕ) → p.kind ≡ kind → IsCountedAs counts (automaton_of p) p.counting
    → record p { kind = kind; size = n; counting = counting_for (document_version counts) (automaton_of p) } ≡ sized p n
same_at counts p kind n k v =
    ap (λ y. record p { kind = y; size = n; counting = counting_for (document_version counts) (automaton_of p) }) (sym k)
    ∙ ap (λ y. record p { size = n; counting = y }) (same_counting counts (automaton_of p) p.counting v)

same_one : (counts : Counts) (p : Problem) (kind : Kind) → p.kind ≡ kind → IsCountedAs counts (automaton_of p) p.counting → p.size ≡ 1
    → record p { kind = kind; size = 1; counting = counting_for (document_version counts) (automaton_of p) } ≡ p
same_one counts p kind k v one = same_at counts p kind 1 k v ∙ ap (λ y. record p { size = y }) (sym one)

-- so many sizes does the document allow
pub allowed_holds : (counts : Counts) (x : Facts) (kind : Kind) (max : ℕ) (side : Side) → AreOfKind x kind counts → searched_sizes x max side ≡ allowed_at x kind (document_version counts) max side
allowed_holds counts x kind max System of = ap (λ p. allowed_sizes p max) (sym (same_one counts x.system kind of.kind_is of.counted of.size))
allowed_holds counts x kind max Environment of = by_problem x.environment of.other_kind_is of.other_counted of.other_size
  where
    by_problem : (e : Option Problem) → ForSome e (λ p. p.kind ≡ other_kind kind) → ForSome e (λ p. IsCountedAs counts (automaton_of p) p.counting) → ForSome e (λ p. p.size ≡ 1)
        → searched_sizes (record x { environment = e }) max Environment ≡ allowed_at (record x { environment = e }) kind (document_version counts) max Environment
    by_problem None k v one = refl
    by_problem (Some p) k v one = ap (λ q. allowed_sizes q max) (sym (same_one counts p (other_kind kind) (k p refl) (v p refl) (one p refl)))

some_log : (counts : Counts) (x : Facts) (kind : Kind) (full : Bool) (limit : Option ℕ) (l : LogPart) (side : Side) (n : ℕ) → AreOfKind x kind counts
    → OfSide x.system x.environment (λ p. check.IsLogOf full limit l (sized p n)) side → check.IsLogOfSome full limit l (problem_at x kind (document_version counts) side n)
some_log counts x kind full limit l System n of h = subst (check.IsLogOf full limit l) (sym (same_at counts x.system kind n of.kind_is of.counted)) h
some_log counts x kind full limit l Environment n of h = by_problem x.environment of.other_kind_is of.other_counted h
  where
    by_problem : (e : Option Problem) → ForSome e (λ p. p.kind ≡ other_kind kind) → ForSome e (λ p. IsCountedAs counts (automaton_of p) p.counting)
        → OfSide x.system e (λ p. check.IsLogOf full limit l (sized p n)) Environment → check.IsLogOfSome full limit l (problem_at (record x { environment = e }) kind (document_version counts) Environment n)
    by_problem None k v h = absurd h
    by_problem (Some p) k v h = subst (check.IsLogOf full limit l) (sym (same_at counts p (other_kind kind) n (k p refl) (v p refl))) h

all_hold : (counts : Counts) (x : Facts) (kind : Kind) (full : Bool) (limit : Option ℕ) (logs : List LogPart) → All (check.HoldsAt x kind (document_version counts) full limit) logs → check.AllHold x kind (document_version counts) full limit logs
all_hold counts x kind full limit [] all = tt
all_hold counts x kind full limit (l ∷ logs) all = (All-head (check.HoldsAt x kind (document_version counts) full limit) l logs all, all_hold counts x kind full limit logs (All-tail (check.HoldsAt x kind (document_version counts) full limit) l logs all))

-- == the logs ==

sizes_same : (x : Facts) (max : ℕ) (side : Side) (p : Problem) → IsOf x.system x.environment side p → searched_sizes x max side ≡ allowed_sizes p max
sizes_same x max System p of = ap (λ q. allowed_sizes q max) of
sizes_same x max Environment p of = ap (λ o. allowed_of max o) of

-- the size of a log is an allowed one
abbrev pub IsAllowedLog : Facts → ℕ → LogPart → Type 0
IsAllowedLog x max l = (0 < l.size) × (l.size ≤ searched_sizes x max l.side)

module _ (counts : Counts) (sizes : SizesRise) (x : Facts) (kind : Kind) (max : ℕ) (limit : Option ℕ) (of : AreOfKind x kind counts) where
  one_log : (full : Bool) (l : LogPart) → ForLog x HasHeadOf l → IsAllowedLog x max l → (P : Problem → Type 0)
      → ((p : Problem) → P p → check.IsAsWanted full (variables_of (sized p l.size)) (base_at p l.size) limit l.entries)
      → OfSide x.system x.environment P l.side → check.HoldsAt x kind (document_version counts) full limit l
  one_log full l head allowed P to h =
      some_log counts x kind full limit l l.side l.size of
      (on_both_of x.system x.environment l.side (λ p. HasHeadOf p l) P (λ p. check.IsLogOf full limit l (sized p l.size))
      (λ p is q w. record {
        vars = q.vars;
        base = (sizes.allowed p max).counted l.size allowed.0 (subst (λ most. l.size ≤ most) (sizes_same x max l.side p is) allowed.1) ∙ ap (λ n. Some n) (sym q.base);
        wanted = to p w;
      }) head h)

  closed_log : (l : LogPart) → ForLog x HasHeadOf l → IsAllowedLog x max l → IsClosedLog x limit l → check.HoldsAt x kind (document_version counts) false limit l
  closed_log l head allowed closed = one_log false l head allowed (λ p. IsClosedFor limit p l) (λ p h. h) closed

  ended_log : (l : LogPart) → ForLog x HasHeadOf l → IsAllowedLog x max l → IsEndedLog x limit l → check.HoldsAt x kind (document_version counts) true limit l
  ended_log l head allowed (inl closed) = one_log true l head allowed (λ p. IsClosedFor limit p l) (λ p h. inl h) closed
  ended_log l head allowed (inr full) = one_log true l head allowed (λ p. IsFullFor limit p l) (λ p h. inr h) full

  each_holds : (logs : List LogPart) → All (ForLog x HasHeadOf) logs → All (IsAllowedLog x max) logs → All (IsEndedLog x limit) logs → (first : Option Place) → check.first_open logs ≡ first
      → All (check.HoldsAt x kind (document_version counts) (is_some first) limit) logs
  each_holds logs heads allowed ended None none =
      all_three (ForLog x HasHeadOf) (IsAllowedLog x max) (IsClosedLog x limit) (check.HoldsAt x kind (document_version counts) false limit) closed_log logs heads allowed (all_closed x limit logs none ended)
  each_holds logs heads allowed ended (Some q) is =
      all_three (ForLog x HasHeadOf) (IsAllowedLog x max) (IsEndedLog x limit) (check.HoldsAt x kind (document_version counts) true limit) ended_log logs heads allowed ended

  with_allowed : (P : ℕ → ℕ → Type 0) → P (searched_sizes x max System) (searched_sizes x max Environment) → P (allowed_at x kind (document_version counts) max System) (allowed_at x kind (document_version counts) max Environment)
  with_allowed P h =
      subst (λ n. P n (allowed_at x kind (document_version counts) max Environment)) (allowed_holds counts x kind max System of)
      (subst (λ m. P (searched_sizes x max System) m) (allowed_holds counts x kind max Environment of) h)

  -- a document with these parts
  abbrev pub is_made_of : Verdict → Option Circuit → List LogPart → Document → Document
  is_made_of v c logs d = record d { version = document_version counts; verdict = v; kind = kind; max = max; entries = limit; found = 0; circuit = c; logs = logs }

  pub held : (v : Verdict) (c : Option Circuit) (logs : List LogPart) (d : Document) → IsTrue (has_its_place (is_some c) v) → IfSome (machine_of v) (λ m. IfSome c (check.HasNames x m.side))
      → IfSome (named_of v) (λ q. q.size ≤ searched_sizes x max q.side)
      → map log_place logs ≡ wanted_sizes (order_of (document_version counts) v max 0) (searched_sizes x max System) (searched_sizes x max Environment)
      → All (ForLog x HasHeadOf) logs → All (IsAllowedLog x max) logs → All (IsEndedLog x limit) logs → v ≡ verdict_of (machine_of v) (check.first_open logs)
      → check.HoldsFor x (is_made_of v c logs d)
  held v c logs d has names number places heads allowed ended told =
      let full : check.may_be_full v ≡ is_some (check.first_open logs) = ap check.may_be_full told ∙ may_be_full_is (machine_of v) (check.first_open logs) in
      record {
        names = names_hold x v c has names;
        number = with_allowed (λ n m. IsTrue (check.is_allowed v n m)) (number_holds x max (named_of v) number);
        found = omega arith;
        sizes = with_allowed (λ n m. map log_place logs ≡ wanted_sizes (order_of (document_version counts) v max 0) n m) places;
        logs = all_hold counts x kind (check.may_be_full v) limit logs
            (subst (λ b. All (check.HoldsAt x kind (document_version counts) b limit) logs) (sym full) (each_holds logs heads allowed ended (check.first_open logs) refl));
        named = subst (λ w. IsTrue (verdict_ghosts.eq v w)) told (same_verdict v);
      }
