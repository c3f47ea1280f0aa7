-- What the verdict of a document that holds says of sizes without a machine.
use Rattle.std.proofs.Common.{◌≡◌, ℕ, zero, suc, ◌-◌, ◌<◌, ◌≤◌, ◌⊎◌, inl, inr, Bool, true, false, List, [], ◌∷◌, ◌++◌, Option, Some, None, All, Contains, IsTrue, map, sym, subst, arith, if◌then◌else◌}
use Rattle.std.specs.Prelude.{min}
use Rattle.std.proofs.Math.Nat.{le-min}
use Rattle.std.proofs.lemmas.Bool.{leb-true}
use Rattle.std.proofs.lemmas.List.Elements.{All-contains, All-map, All-same, Contains-append_left, Contains-append_right, Contains-push}
use Rattle.letters_and_lassos.specs.declared.kinds.Kind.{Kind}
use Rattle.letters_and_lassos.specs.declared.kinds.Side.{Side}
use Rattle.letters_and_lassos.specs.declared.kinds.Side.TheVariants.{System, Environment}
use Rattle.machine_model.specs.declared.problems.Problem.{Problem}
use Rattle.refutation_log.specs.Log.{is_ended}
use Rattle.satisfaction.specs.Wanted.{Wanted}
use Rattle.document_text.specs.declared.documents.Verdict.{Verdict}
use Rattle.document_text.specs.declared.documents.Verdict.TheVariants.{Machine, Unknown}
use Rattle.document_text.specs.Parts.{LogPart}
use Rattle.document_text.specs.declared.order.Place.{Place}
use Rattle.document_text.specs.Order.{may_tell_found, order_found, order_of, place, log_place}
use Rattle.document_text.specs.WellFormed.{IsFoundNumber}
use Rattle.document_check.specs.Facts.{Facts, for_side, problem_at, sizes_to, wanted_sizes}
use Rattle.document_check.specs.Holds.{HoldsAt, IsLogOfSome, is_allowed, may_be_full}
use Rattle.text_ground.proofs.Lists.{le_cases}
use Rattle.text_ground.proofs.Lists.{all_both}
use Rattle.check_answer.specs.Answer.{HasNoMachine, SaysOfSizes}

one_more : (side : Side) (n k : ℕ) → (k ≤ n) ⊎ (k ≡ suc n) → (k ≤ n → Contains (sizes_to side n) (place side k)) → Contains (sizes_to side n ++ place side (suc n) ∷ []) (place side k)
one_more side n k (inl less) before = Contains-append_left (sizes_to side n) (place side (suc n) ∷ []) (place side k) (before less)
one_more side n k (inr same) before =
    subst (λ (j : ℕ). Contains (sizes_to side n ++ place side (suc n) ∷ []) (place side j)) (sym same) (Contains-push (sizes_to side n) (place side (suc n)))

has_size : (side : Side) (n k : ℕ) → 0 < k → k ≤ n → Contains (sizes_to side n) (place side k)
has_size side zero k some most = absurd (omega (arith, some, most))
has_size side (suc n) k some most = one_more side n k (le_cases k n most) (has_size side n k some)

-- a log that must be closed is ended
ended : (limit : Option ℕ) (l : LogPart) (o : Option Problem) → IsLogOfSome false limit l o → is_ended l.entries ≡ true
ended limit l None is = absurd is
ended limit l (Some p) is = is.wanted.refutes

module _ (x : Wanted) (given : Facts) (kind : Kind) (version : ℕ) (limit : Option ℕ) (max found system environment : ℕ) (logs : List LogPart)
    (refuted : All (λ l. is_ended l.entries ≡ true → HasNoMachine x l.side l.size) logs) where
  abbrev HasNone : Place → Type 0
  HasNone size = HasNoMachine x size.side size.size

  -- where each log must be closed, the sizes of all are without a machine
  each_none : (sizes : List Place) → map log_place logs ≡ sizes → All (HoldsAt given kind version false limit) logs → All HasNone sizes
  each_none sizes are holds =
      All-same HasNone sizes (map log_place logs) (sym are)
      (All-map HasNone log_place logs
      (all_both (HoldsAt given kind version false limit) (λ l. is_ended l.entries ≡ true → HasNoMachine x l.side l.size) (λ l. HasNone (log_place l))
      (λ l log none. none (ended limit l (problem_at given kind version l.side l.size) log)) logs holds refuted))

  below : (side : Side) (n most k : ℕ) → n ≤ most → 0 < k → k < n → Contains (sizes_to side (min (n - 1) most)) (place side k)
  below side n most k allowed some less =
      let low : k ≤ n - 1 = omega (arith, less) in
      let high : k ≤ most = omega (arith, less, allowed) in
      has_size side (min (n - 1) most) k some (le-min low high)

  pub says_of_sizes : (v : Verdict) → IsFoundNumber (may_tell_found version v) max found → map log_place logs ≡ wanted_sizes (order_of version v max found) system environment
      → All (HoldsAt given kind version (may_be_full v) limit) logs → IsTrue (is_allowed v system environment) → SaysOfSizes x version system environment v
  says_of_sizes (Machine side n true) none are holds allowed = λ yes_is k some less.
      let most : ℕ = for_side side system environment in
      let sizes : List Place = sizes_to side (min (n - 1) most) in
      All-contains HasNone sizes (place side k)
      (each_none sizes (subst (λ (b : Bool). map log_place logs ≡ sizes_to side (min (if b then n - 1 else 0) most)) yes_is are) holds)
      (below side n most k (leb-true n most allowed) some less)
  says_of_sizes (Machine side n false) none are holds allowed = tt
  says_of_sizes (Unknown None) none are holds allowed =
      let systems : List Place = sizes_to System system in
      let environments : List Place = sizes_to Environment environment in
      let all : All HasNone (systems ++ environments)
      = each_none (systems ++ environments) (subst (λ n. map log_place logs ≡ wanted_sizes (order_found max n) system environment) none are) holds in (
        (λ k some most. All-contains HasNone (systems ++ environments) (place System k) all (Contains-append_left systems environments (place System k) (has_size System system k some most))),
        (λ k some most. All-contains HasNone (systems ++ environments) (place Environment k) all (Contains-append_right systems environments (place Environment k) (has_size Environment environment k some most))),
      )
  says_of_sizes (Unknown (Some first)) none are holds allowed = tt
