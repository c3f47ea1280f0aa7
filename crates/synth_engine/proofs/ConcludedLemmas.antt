-- The outcomes of settled sizes.
use Rattle.std.proofs.Common.{◌≡◌, ℕ, zero, suc, ◌-◌, ◌^◌, ◌<◌, ◌≤◌, Bool, true, false, List, [], ◌∷◌, ◌++◌, All, map, length, get_or, refl, sym, ◌∙◌, ap, subst, arith, inl, inr, Global}
use Rattle.std.specs.Prelude.{Vec, Option, Some, None, unwrap_or}
use Rattle.std.proofs.lemmas.List.{length-map, map-append}
use Rattle.std.proofs.lemmas.List.Elements.{All-append, All-cons, All-nil}
use Rattle.std.proofs.Math.ListN.{get_or-map}
use Rattle.std.proofs.lemmas.Option.{same_Some, none-some}
use Rattle.std.proofs.lemmas.Bool.{true_from_ne_false}
use Rattle.letters_and_lassos.specs.declared.kinds.Side.{Side}
use Rattle.letters_and_lassos.specs.declared.kinds.Side.TheVariants.{System, Environment}
use Rattle.machine_model.specs.Machine.{MachineModel, size_of}
use Rattle.machine_model.specs.Problem.{sized}
use Rattle.machine_model.specs.declared.problems.Problem.{Problem}
use Rattle.annotation_encode.specs.Count.{allowed_sizes}
use Rattle.annotation_encode.specs.Variables.{variables_of}
use Rattle.refutation_log.specs.Log.{IsFull, is_ended}
use Rattle.refutation_log.proofs.CodeLemmas.{never_full}
use Rattle.size_board.specs.declared.events.Claim.{Claim}
use Rattle.size_search.specs.declared.size_log.SizeLog.{SizeLog}
use Rattle.synth_engine.specs.declared.settings.Settings.{Settings}
use Rattle.synth_engine.specs.declared.outcomes.Found.{Found}
use Rattle.synth_engine.specs.Searched.{allowed_of}
use Rattle.synth_engine.specs.Logs.{IsClosedLog, IsFullLog, IsLogOf, base_at, log_claim, sizes_to}
use Rattle.synth_engine.specs.Outcomes.{AreAllSettled, AreSettled, CannotFill, IsFound, IsFoundWith, IsOutOfReach, IsOutcomeOf, IsSettled, OfSide}
use Rattle.synth_engine.specs.Settled.{FoundOrNot, IsFoundBelow}

-- A SIDE'S PROBLEM

pub problem_by : Problem → Option Problem → Side → Option Problem
problem_by s e System = Some s
problem_by s e Environment = e

pub pick : (s : Problem) (e : Option Problem) (P : Problem → Type 0) (side : Side) → OfSide s e P side → (p : Problem) × (problem_by s e side ≡ Some p) × P p
unfolding problem_by
pick s e P System h = (s, refl, h)
pick s None P Environment h = absurd h
pick s (Some p) P Environment h = (p, refl, h)

pub put : (s : Problem) (e : Option Problem) (P : Problem → Type 0) (side : Side) (p : Problem) → problem_by s e side ≡ Some p → P p → OfSide s e P side
unfolding problem_by
put s e P System p by h = subst P (sym (same_Some s p by)) h
put s None P Environment p by h = none-some p by
put s (Some q) P Environment p by h = subst P (sym (same_Some q p by)) h

pub at_side : (s : Problem) (e : Option Problem) (P : Problem → Type 0) (side : Side) (p : Problem) → problem_by s e side ≡ Some p → OfSide s e P side → P p
unfolding problem_by
at_side s e P System p by h = subst P (same_Some s p by) h
at_side s None P Environment p by h = absurd h
at_side s (Some q) P Environment p by h = subst P (same_Some q p by) h

-- SETTLED LOGS

true_false : (b : Bool) → b ≡ true → b ≡ false → ⊥
true_false b t f = cc

pub closed_here : (p : Problem) (settings : Settings) (l : SizeLog) → IsSettled p settings l → is_ended l.log.entries ≡ true → IsClosedLog p settings l
closed_here p settings l settled ended = record { legal = settled.log.legal; refutes = ended }

pub full_here : (p : Problem) (settings : Settings) (l : SizeLog) → IsSettled p settings l → is_ended l.log.entries ≡ false → IsFullLog p settings l
full_here p settings l settled open_log =
    elim settled.ended [ inl closed ↦ absurd (true_false (is_ended l.log.entries) closed.refutes open_log) | inr full ↦ full ]

-- THE SIZES OF LOGS

record IsInRange (side : Side) (n : ℕ) (c : Claim) : Type 0 where
  of_side : c.side ≡ side
  some : 0 < c.size
  most : c.size ≤ n

sizes_in_range : (side : Side) (n : ℕ) → All (IsInRange side n) (sizes_to side n)
sizes_in_range side zero = All-nil (IsInRange side 0)
sizes_in_range side (suc n) =
    All-append (IsInRange side (suc n)) (sizes_to side n) (record { side = side; size = suc n } ∷ [])
    (λ k d h. let r = sizes_in_range side n k d h in record { of_side = r.of_side; some = r.some; most = let m = r.most in omega arith })
    (All-cons (IsInRange side (suc n)) (record { side = side; size = suc n }) [] (record { of_side = refl; some = omega arith; most = omega arith }) (All-nil (IsInRange side (suc n))))

-- what holds of all places holds of each log's place
at_places : (P : Claim → Type 0) (logs : List SizeLog) (places : List Claim) → map log_claim logs ≡ places → All P places → All P (map log_claim logs)
at_places P logs places e all = subst (All P) (sym e) all

of_place : (P : Claim → Type 0) (logs : List SizeLog) → All P (map log_claim logs) → All (λ l. P (log_claim l)) logs
of_place P logs all k d h =
    let n : length (map log_claim logs) ≡ length logs = length-map logs log_claim in
    subst P (get_or-map log_claim logs k d) (all k (log_claim d) (omega arith))

in_range : (side : Side) (n : ℕ) (logs : List SizeLog) → map log_claim logs ≡ sizes_to side n → All (λ l. IsInRange side n (log_claim l)) logs
in_range side n logs e = of_place (IsInRange side n) logs (at_places (IsInRange side n) logs (sizes_to side n) e (sizes_in_range side n))

-- a limit that can't be reached isn't reached
never_filled : (limit : ℕ) (max : ℕ) (p : Problem) (settings : Settings) (l : SizeLog) → settings.entries ≡ Some limit → IsOutOfReach max limit p → IsLogOf p settings l → IsFullLog p settings l → 0 < l.size
    → l.size ≤ allowed_sizes p max → ⊥
never_filled limit max p settings l is reach log full some most =
    let small : limit < 3 ^ l.vars = never_full l.vars (base_at p l.size) limit l.log.entries (subst (λ o. IsFull l.vars (base_at p l.size) o l.log.entries) is full) log.sorted in
    let large : 3 ^ variables_of (sized p l.size) ≤ limit = reach l.size some most in
    let same : 3 ^ l.vars ≡ 3 ^ variables_of (sized p l.size) = ap (λ v. 3 ^ v) log.vars in
    absurd (omega arith)

cannot_be_full : (s : Problem) (e : Option Problem) (settings : Settings) (side : Side) (p : Problem) (l : SizeLog) → CannotFill s e settings → problem_by s e side ≡ Some p → IsLogOf p settings l
    → IsFullLog p settings l → 0 < l.size → l.size ≤ allowed_sizes p settings.max → ⊥
unfolding problem_by
cannot_be_full s e settings side p l (inl none) by log full some most = none-some (length l.log.entries) (sym none ∙ full.at_limit)
cannot_be_full s e settings System p l (inr r) by log full some most =
    never_filled r.0 settings.max p settings l r.1 (subst (IsOutOfReach settings.max r.0) (same_Some s p by) r.2) log full some most
cannot_be_full s e settings Environment p l (inr r) by log full some most = never_filled r.0 settings.max p settings l r.1 (r.3 p by) log full some most

-- OUTCOMES WITH A MACHINE

pub with_machine : (s : Problem) (e : Option Problem) (settings : Settings) (found : Found) (logs : Vec SizeLog Global)
    → OfSide s e (λ p. IsFoundWith p settings found.machine logs.items) found.side → IsOutcomeOf s e settings (record { found = Some found; logs = logs })
with_machine s e settings found logs h = record {
  goes = h;
  decisive = λ cannot k d small.
      let one = pick s e (λ (p : Problem). IsFoundWith p settings found.machine logs.items) found.side h in
      let p = one.0 in
      let l : SizeLog = get_or logs.items k d in
      let settled : IsSettled p settings l = one.2.smaller.each k d small in
      let range : IsInRange p.side (size_of found.machine - 1) (log_claim l) = in_range p.side (size_of found.machine - 1) logs.items one.2.smaller.places k d small in
      let most : size_of found.machine ≤ allowed_sizes p settings.max = one.2.found.allowed in
      let low : l.size ≤ size_of found.machine - 1 = range.most in
      true_from_ne_false (is_ended l.log.entries)
      (λ open_log. cannot_be_full s e settings found.side p l cannot one.1 settled.log (full_here p settings l settled open_log) range.some (omega arith));
}

-- OUTCOMES WITHOUT A MACHINE

-- a size is one that a side's problem is allowed
abbrev pub IsAllowedSize : Settings → ℕ → Problem → Type 0
IsAllowedSize settings size p = (0 < size) × (size ≤ allowed_sizes p settings.max)

environment_allowed : (s : Problem) (e : Option Problem) (settings : Settings) → All (λ c. OfSide s e (IsAllowedSize settings c.size) c.side) (sizes_to Environment (allowed_of settings.max e))
environment_allowed s None settings k d h = absurd (omega arith)
environment_allowed s (Some p) settings k d h =
    let r = sizes_in_range Environment (allowed_sizes p settings.max) k d h in
    let c : Claim = get_or (sizes_to Environment (allowed_sizes p settings.max)) k d in
    subst (OfSide s (Some p) (IsAllowedSize settings c.size)) (sym r.of_side) (r.some, r.most)

module _ (s : Problem) (e : Option Problem) (settings : Settings) where
  AtSide : Claim → Type 0
  AtSide c = OfSide s e (IsAllowedSize settings c.size) c.side

  system_allowed : All AtSide (sizes_to System (allowed_sizes s settings.max))
  unfolding AtSide
  system_allowed k d h =
      let r = sizes_in_range System (allowed_sizes s settings.max) k d h in
      let c : Claim = get_or (sizes_to System (allowed_sizes s settings.max)) k d in
      subst (OfSide s e (IsAllowedSize settings c.size)) (sym r.of_side) (r.some, r.most)

  all_allowed : All AtSide (sizes_to System (allowed_sizes s settings.max) ++ sizes_to Environment (allowed_of settings.max e))
  unfolding AtSide
  all_allowed = All-append AtSide (sizes_to System (allowed_sizes s settings.max)) (sizes_to Environment (allowed_of settings.max e)) system_allowed (environment_allowed s e settings)

  pub without_machine : (logs : Vec SizeLog Global) → AreAllSettled s e settings logs.items → IsOutcomeOf s e settings (record { found = None; logs = logs })
  unfolding AtSide
  without_machine logs all = record {
    goes = all;
    decisive = λ cannot k d small.
        let l : SizeLog = get_or logs.items k d in
        let one = pick s e (λ (p : Problem). IsSettled p settings l) l.side (all.each k d small) in
        let at : AtSide (log_claim l) = of_place AtSide logs.items (at_places AtSide logs.items _ all.places all_allowed) k d small in
        let range = at_side s e (IsAllowedSize settings l.size) l.side one.0 one.1 at in
        true_from_ne_false (is_ended l.log.entries)
        (λ open_log. cannot_be_full s e settings l.side one.0 l cannot one.1 one.2.log (full_here one.0 settings l one.2 open_log) range.0 range.1);
  }

-- FROM SETTLED SIZES TO THESE

pub found_below : (settings : Settings) (count : ℕ) (logs : List SizeLog) (o : Option MachineModel) (m : MachineModel) (p : Problem) → FoundOrNot p settings count logs o → o ≡ Some m
    → count ≤ allowed_sizes p settings.max → IsFoundWith p settings m logs
found_below settings count logs o m p h is most =
    let here : IsFoundBelow p settings count logs m = subst (FoundOrNot p settings count logs) is h in
    let low : size_of m ≤ count = here.most in
    record { found = record { accepted = here.accepted; some = here.some; allowed = omega arith }; smaller = here.smaller }

pub none_below : (settings : Settings) (count : ℕ) (logs : List SizeLog) (o : Option MachineModel) (p : Problem) → FoundOrNot p settings count logs o → ((m : MachineModel) → o ≡ Some m → ⊥)
    → AreSettled p settings count logs
none_below settings count logs None p h none = h
none_below settings count logs (Some m) p h none = absurd (none m refl)

pub found_with : (settings : Settings) (logs : List SizeLog) (o : Option MachineModel) (m : MachineModel) (p : Problem) → FoundOrNot p settings (size_of m - 1) logs o → IsFound p settings m
    → IsFoundWith p settings (unwrap_or o m) logs
found_with settings logs None m p h found = record { found = found; smaller = h }
found_with settings logs (Some n) m p h found =
    let low : size_of n ≤ size_of m - 1 = h.most in
    let most : size_of m ≤ allowed_sizes p settings.max = found.allowed in
    record { found = record { accepted = h.accepted; some = h.some; allowed = omega arith }; smaller = h.smaller }

-- what is settled of the environment's sizes
abbrev pub EnvironmentSettled : Option Problem → Settings → List SizeLog → Type 0
EnvironmentSettled None settings logs = length logs ≡ 0
EnvironmentSettled (Some p) settings logs = (p.side ≡ Environment) × AreSettled p settings (allowed_sizes p settings.max) logs

environment_places : (e : Option Problem) (settings : Settings) (logs : List SizeLog) → EnvironmentSettled e settings logs → map log_claim logs ≡ sizes_to Environment (allowed_of settings.max e)
environment_places None settings [] h = refl
environment_places None settings (l ∷ ls) h = absurd (omega arith)
environment_places (Some p) settings logs h = h.1.places ∙ ap (λ x. sizes_to x (allowed_sizes p settings.max)) h.0

environment_each : (s : Problem) (e : Option Problem) (settings : Settings) (logs : List SizeLog) → EnvironmentSettled e settings logs → All (λ l. OfSide s e (λ p. IsSettled p settings l) l.side) logs
environment_each s None settings logs h k d small = absurd (omega arith)
environment_each s (Some p) settings logs h k d small =
    let x = h.1.each k d small in subst (OfSide s (Some p) (λ q. IsSettled q settings (get_or logs k d))) (sym (x.log.side ∙ h.0)) x

pub all_settled : (s : Problem) (e : Option Problem) (settings : Settings) (of_system of_environment logs : List SizeLog) → s.side ≡ System → AreSettled s settings (allowed_sizes s settings.max) of_system
    → EnvironmentSettled e settings of_environment → logs ≡ of_system ++ of_environment → AreAllSettled s e settings logs
all_settled s e settings of_system of_environment logs side system environment is =
    rw is (record {
      places = map-append log_claim of_system of_environment ∙ (λ i. (system.places ∙ ap (λ x. sizes_to x (allowed_sizes s settings.max)) side) i ++ environment_places e settings of_environment environment i);
      each = All-append (λ l. OfSide s e (λ p. IsSettled p settings l) l.side) of_system of_environment
          (λ k d h. let x = system.each k d h in subst (OfSide s e (λ p. IsSettled p settings (get_or of_system k d))) (sym (x.log.side ∙ side)) x)
          (environment_each s e settings of_environment environment);
    })

-- of the environment a machine was found, or its sizes are settled; there is nothing to be found where it has no problem
pub environment_found : (s : Problem) (e : Option Problem) (settings : Settings) (logs : List SizeLog) (o : Option MachineModel) (m : MachineModel) → o ≡ Some m
    → ((p : Problem) → e ≡ Some p → (p.side ≡ Environment) × FoundOrNot p settings (allowed_sizes p settings.max) logs o) → (e ≡ None → FoundOrNot s settings 0 logs o)
    → OfSide s e (λ p. IsFoundWith p settings m logs) Environment
environment_found s None settings logs o m is some none =
    let here : IsFoundBelow s settings 0 logs m = subst (FoundOrNot s settings 0 logs) is (none refl) in
    let low : size_of m ≤ 0 = here.most in
    let high : 0 < size_of m = here.some in
    absurd (omega arith)
environment_found s (Some p) settings logs o m is some none = let x = some p refl in found_below settings (allowed_sizes p settings.max) logs o m p x.1 is (omega arith)

pub environment_settled : (s : Problem) (e : Option Problem) (settings : Settings) (logs : List SizeLog) (o : Option MachineModel) → ((m : MachineModel) → o ≡ Some m → ⊥)
    → ((p : Problem) → e ≡ Some p → (p.side ≡ Environment) × FoundOrNot p settings (allowed_sizes p settings.max) logs o) → (e ≡ None → FoundOrNot s settings 0 logs o)
    → EnvironmentSettled e settings logs
environment_settled s None settings logs o not_found some none =
    let here = none_below settings 0 logs o s (none refl) not_found in
    sym (length-map logs log_claim) ∙ ap length here.places
environment_settled s (Some p) settings logs o not_found some none =
    let x = some p refl in (x.0, none_below settings (allowed_sizes p settings.max) logs o p x.1 not_found)
