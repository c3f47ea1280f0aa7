-- From the plan of a search to its outcome.
use Rattle.std.proofs.Common.{◌≡◌, ℕ, ◌+◌, ◌-◌, ◌<◌, ◌≤◌, List, [], ◌∷◌, ◌++◌, All, map, length, get_or, refl, sym, ◌∙◌, ap, subst, arith, length-append}
use Rattle.std.specs.Prelude.{Option, Some, None, IfSome, slice_get}
use Rattle.std.specs.Option.{ForSome, option_map}
use Rattle.std.proofs.lemmas.List.{get_or_append_left, length-map}
use Rattle.std.proofs.lemmas.Option.{slice_get-get_or, same_Some, none-some}
use Rattle.text_limits.specs.declared.TheConstants.{SMALL_LIMITS}
use Rattle.letters_and_lassos.specs.declared.kinds.Side.{Side}
use Rattle.letters_and_lassos.specs.declared.kinds.Side.TheVariants.{System, Environment}
use Rattle.machine_model.specs.Machine.{MachineModel, size_of}
use Rattle.machine_model.specs.Problem.{Parts, parts_of, sized}
use Rattle.machine_model.specs.declared.counting.Counts.{Counts}
use Rattle.machine_model.specs.declared.problems.Problem.{Problem}
use Rattle.machine_model.proofs.Tables.{size_pos}
use Rattle.annotation_encode.specs.Count.{allowed_sizes}
use Rattle.size_board.proofs.LawProofs.{searchable}
use Rattle.size_board.specs.Names.{AreNamed, IsSoughtMachine, IsSearchable, Named, SideHas, Sought, sizes_of, sought_by, sought_of}
use Rattle.size_search.specs.Task.{SizeTaskModel}
use Rattle.synth_engine.specs.declared.settings.Settings.{Settings}
use Rattle.synth_engine.specs.declared.plans.Plan.{Plan}
use Rattle.synth_engine.specs.declared.crews.Crew.{Crew}
use Rattle.synth_engine.specs.declared.sizes.Sizes.{Sizes}
use Rattle.synth_engine.specs.declared.settling.Unsettled.{Unsettled}
use Rattle.synth_engine.specs.declared.outcomes.Found.{Found}
use Rattle.synth_engine.specs.Searched.{IsSearched, allowed_of}
use Rattle.synth_engine.specs.Outcomes.{IsFound, OfSide}
use Rattle.synth_engine.specs.Tasks.{AreTasks, FitNames, IsCrewOf, IsTaskOf, SizesFit}
use Rattle.synth_engine.specs.Hands.{AreCrewsFrom}
use Rattle.synth_engine.specs.Settled.{HasItsSeats}
use Rattle.synth_engine.specs.Plans.{AreSizesOf, AreTasksOfAny, AreTasksUpTo, AreWorkersOf, IsPlanOf, IsWinner, named_of}
use Rattle.synth_engine.specs.Concluded.{AreLeft, IsLeft, IsWinnerOf}
use Rattle.synth_engine.proofs.HandLemmas.{front_of, last_of}
use Rattle.synth_engine.proofs.PlanLemmas.{workers_push}

-- THE PLAN

plan_at : Problem → Option Problem → ℕ → Plan
plan_at s e max = record { system = s; environment = e; system_sizes = allowed_sizes s max; environment_sizes = allowed_of max e }

plan_is : (s : Problem) (e : Option Problem) (max : ℕ) (plan : Plan) → IsPlanOf s e max plan → plan ≡ plan_at s e max
unfolding plan_at
plan_is s e max plan is = λ i. record { system = is.system_is i; environment = is.environment_is i; system_sizes = is.system_sizes i; environment_sizes = is.environment_sizes i }

environment_searchable : {v : Counts} (e : Option Problem) → ForSome e (IsSearched v Environment) → (x : Sought) → option_map sought_of e ≡ Some x → IsSearchable x × (x.side ≡ Environment)
environment_searchable None is x at = absurd (none-some x at)
environment_searchable (Some p) is x at =
    let P : Sought → Type 0 = λ (y : Sought). IsSearchable y × (y.side ≡ Environment) in
    let here = is p refl in
    subst P (same_Some (sought_of p) x at) (searchable p here.within, here.of_side)

-- a board of the plan may be made
pub plan_named : {v : Counts} (s : Problem) (e : Option Problem) (max : ℕ) (plan : Plan) → IsPlanOf s e max plan → IsSearched v System s → ForSome e (IsSearched v Environment)
    → AreNamed (named_of plan) plan.system plan.environment plan.system_sizes plan.environment_sizes
unfolding plan_at
plan_named s e max plan is system environment =
    let P : Plan → Type 0 = λ (x : Plan). AreNamed (named_of x) x.system x.environment x.system_sizes x.environment_sizes in
    let few : allowed_sizes s max ≤ SMALL_LIMITS.machine = let f = is.few in let n = is.system_sizes in omega arith in
    let few_of_environment : allowed_of max e ≤ SMALL_LIMITS.machine = let f = is.few_of_environment in let n = is.environment_sizes in omega arith in
    subst P (sym (plan_is s e max plan is)) (record {
      of_system = refl;
      of_environment = refl;
      system_number = refl;
      environment_number = refl;
      few = few;
      few_of_environment = few_of_environment;
      none_without_problem = λ none. ap (allowed_of max) none;
      searchable = record {
        system = searchable s system.within;
        of_system = system.of_side;
        environment = λ x at. (environment_searchable e environment x at).0;
        of_environment = λ x at. (environment_searchable e environment x at).1;
      };
    })

-- TASKS

sought_from : Parts → Sought
sought_from x = record { automaton = x.automaton; inputs = x.inputs; outputs = x.outputs; side = x.side; kind = x.kind; counting = x.counting }

same_sought : (p q : Problem) → parts_of p ≡ parts_of q → sought_of p ≡ sought_of q
unfolding sought_from
same_sought p q e = ap sought_from e

fit_side : (names : Named) (side : Side) (p : Problem) (settings : Settings) (count : ℕ) (tasks : List SizeTaskModel) → sought_by names side ≡ Some (sought_of p) → sizes_of names side ≡ count
    → AreTasksUpTo p settings count tasks → FitNames names side tasks
fit_side names side p settings count tasks sought sizes are = record {
  count = are.all ∙ sym sizes;
  each = λ k t at.
      let task : IsTaskOf p settings (count - k) t = are.each.each k t at in
      (sought ∙ sym (ap (λ x. Some x) (same_sought t.problem (sized p (count - k)) task.parts)), ap (λ x. x.size) task.parts ∙ sym (ap (λ n. n - k) sizes));
}

nothing_at : (tasks : List SizeTaskModel) (k : ℕ) (t : SizeTaskModel) → length tasks ≡ 0 → slice_get tasks k ≡ Some t → ⊥
nothing_at [] k t none at = none-some t at
nothing_at (u ∷ us) k t none at = absurd (omega arith)

fit_environment : (s : Problem) (e : Option Problem) (max : ℕ) (settings : Settings) (tasks : List SizeTaskModel) → AreTasksOfAny e settings (allowed_of max e) tasks
    → FitNames (named_of (plan_at s e max)) Environment tasks
unfolding plan_at
fit_environment s None max settings tasks none = record { count = none; each = λ k t at. absurd (nothing_at tasks k t none at) }
fit_environment s (Some p) max settings tasks are = fit_side (named_of (plan_at s (Some p) max)) Environment p settings (allowed_sizes p max) tasks refl refl are

-- the workers may mark on a board of the plan what they decide of its tasks
pub sizes_fit : (s : Problem) (e : Option Problem) (max : ℕ) (settings : Settings) (plan : Plan) (sizes : Sizes) → IsPlanOf s e max plan → AreSizesOf plan settings sizes → SizesFit (named_of plan) sizes
unfolding plan_at
sizes_fit s e max settings plan sizes is are =
    let here : AreSizesOf (plan_at s e max) settings sizes = subst (λ x. AreSizesOf x settings sizes) (plan_is s e max plan is) are in
    subst (λ x. SizesFit (named_of x) sizes) (sym (plan_is s e max plan is))
    (fit_side (named_of (plan_at s e max)) System s settings (allowed_sizes s max) sizes.system.items refl refl here.system, fit_environment s e max settings sizes.environment.items here.environment)

-- WORKERS

pub workers_pop : (sizes : Sizes) (top : ℕ) (crews front : List Crew) (c : Crew) → AreWorkersOf sizes top crews → crews ≡ front ++ c ∷ []
    → AreWorkersOf sizes top front × IsCrewOf sizes c × (c.number ≡ top - length front)
workers_pop sizes top crews front c are is =
    let n : length crews ≡ length front + 1 = ap length is ∙ length-append front (c ∷ []) in
    let at : (i : ℕ) (d : Crew) → i < length front → get_or crews i d ≡ get_or front i d = λ i d h. ap (λ xs. get_or xs i d) is ∙ get_or_append_left front (c ∷ []) d i h in
    let all : All (IsCrewOf sizes) (front ++ c ∷ []) = subst (All (IsCrewOf sizes)) is are.seats in (
      record { seats = front_of (IsCrewOf sizes) front c all; numbers = λ i d h. ap (λ (x : Crew). x.number) (sym (at i d h)) ∙ are.numbers i d (omega arith) },
      last_of (IsCrewOf sizes) crews front c is are.seats,
      ap (λ (x : Crew). x.number) (sym (ap (λ xs. get_or xs (length front) c) is ∙ seam front c)) ∙ are.numbers (length front) c (omega arith),
    )
  where
    seam : (xs : List Crew) (x : Crew) → get_or (xs ++ x ∷ []) (length xs) x ≡ x
    seam [] x = refl
    seam (y ∷ ys) x = seam ys x

-- the workers came back, and the caller with them
pub workers_back : (sizes : Sizes) (top : ℕ) (crews front back later : List Crew) (own after : Crew) → AreWorkersOf sizes top crews → crews ≡ front ++ own ∷ [] → All (IsCrewOf sizes) back
    → length back ≡ length front → ((i : ℕ) (d : Crew) → i < length front → (get_or back i d).number ≡ (get_or front i d).number) → IsCrewOf sizes after → after.number ≡ own.number → later ≡ back ++ after ∷ []
    → AreWorkersOf sizes top later
workers_back sizes top crews front back later own after are is seats many numbers after_is same later_is =
    let parts = workers_pop sizes top crews front own are is in
    let back_are : AreWorkersOf sizes top back = record { seats = seats; numbers = λ i d h. let small : i < length front = omega arith in numbers i d small ∙ parts.0.numbers i d small } in
    workers_push sizes top back later after back_are later_is after_is (same ∙ parts.2 ∙ ap (λ n. top - n) (sym many))

-- TASKS AND SEATS TOGETHER

terms_all : (p : Problem) (settings : Settings) (top n : ℕ) (tasks : List SizeTaskModel) → AreTasks p settings top tasks → settings.workers + 1 ≡ n → All (λ t. t.exchange.terms.seats ≡ n) tasks
terms_all p settings top n tasks are e k d h =
    let task = are.each k (get_or tasks k d) (slice_get-get_or tasks k d h) in ap (λ x. x.seats) task.terms ∙ e

none_all : (n : ℕ) (tasks : List SizeTaskModel) → length tasks ≡ 0 → All (λ t. t.exchange.terms.seats ≡ n) tasks
none_all n tasks none k d h = absurd (omega arith)

any_all : (e : Option Problem) (settings : Settings) (count n : ℕ) (tasks : List SizeTaskModel) → AreTasksOfAny e settings count tasks → settings.workers + 1 ≡ n → All (λ t. t.exchange.terms.seats ≡ n) tasks
any_all None settings count n tasks none e = none_all n tasks none
any_all (Some p) settings count n tasks are e = terms_all p settings count n tasks are.each e

pub system_seats : (plan : Plan) (settings : Settings) (sizes : Sizes) (crews : List Crew) (u : Unsettled) → AreSizesOf plan settings sizes → length crews ≡ settings.workers + 1
    → AreCrewsFrom settings.workers sizes.system.items (map (λ c. c.system) crews) → u.tasks ≡ sizes.system → u.crews.items ≡ map (λ c. c.system) crews → HasItsSeats u
system_seats plan settings sizes crews u are many from tasks_are crews_are =
    let n : length u.crews.items ≡ settings.workers + 1 = ap length crews_are ∙ length-map crews (λ (c : Crew). c.system) ∙ many in
    let same : length u.crews.items - 1 ≡ settings.workers = omega arith in
    record {
      some = omega arith;
      crews = rw (same, tasks_are, crews_are) from;
      all = rw tasks_are (terms_all plan.system settings plan.system_sizes (length u.crews.items) sizes.system.items are.system.each (sym n));
    }

pub environment_seats : (plan : Plan) (settings : Settings) (sizes : Sizes) (crews : List Crew) (u : Unsettled) → AreSizesOf plan settings sizes → length crews ≡ settings.workers + 1
    → AreCrewsFrom settings.workers sizes.environment.items (map (λ c. c.environment) crews) → u.tasks ≡ sizes.environment → u.crews.items ≡ map (λ c. c.environment) crews → HasItsSeats u
environment_seats plan settings sizes crews u are many from tasks_are crews_are =
    let n : length u.crews.items ≡ settings.workers + 1 = ap length crews_are ∙ length-map crews (λ (c : Crew). c.environment) ∙ many in
    let same : length u.crews.items - 1 ≡ settings.workers = omega arith in
    record {
      some = omega arith;
      crews = rw (same, tasks_are, crews_are) from;
      all = rw tasks_are (any_all plan.environment settings plan.environment_sizes (length u.crews.items) sizes.environment.items are.environment (sym n));
    }

-- THE MACHINE THAT WAS FOUND

winner_size : (o : Option Sought) (n : ℕ) (m : MachineModel) → SideHas o n m → 0 < size_of m
winner_size None n m is = absurd is
winner_size (Some x) n m is = size_pos m is.machine.shape

pub winner_some : (names : Named) (w : Found) → IsWinner names w → 0 < size_of w.machine
winner_some names w is = winner_size (sought_by names w.side) (size_of w.machine) w.machine is.accepted

environment_length : (e : Option Problem) (settings : Settings) (count : ℕ) (tasks : List SizeTaskModel) → (e ≡ None → count ≡ 0) → AreTasksOfAny e settings count tasks → count ≡ length tasks
environment_length None settings count tasks none are = none refl ∙ sym are
environment_length (Some p) settings count tasks none are = sym are.all

-- there are tasks of its size and of each smaller one
pub winner_within : (s : Problem) (e : Option Problem) (max : ℕ) (settings : Settings) (plan : Plan) (sizes : Sizes) (w : Found) → IsPlanOf s e max plan → AreSizesOf plan settings sizes → IsWinner (named_of plan) w
    → (w.side ≡ System → size_of w.machine ≤ length sizes.system.items) × (w.side ≡ Environment → size_of w.machine ≤ length sizes.environment.items)
winner_within s e max settings plan sizes w is are winner = (
  λ side.
      let most : size_of w.machine ≤ sizes_of (named_of plan) System = subst (λ x. size_of w.machine ≤ sizes_of (named_of plan) x) side winner.allowed in
      let all : length sizes.system.items ≡ plan.system_sizes = are.system.all in
      omega arith,
  λ side.
      let most : size_of w.machine ≤ sizes_of (named_of plan) Environment = subst (λ x. size_of w.machine ≤ sizes_of (named_of plan) x) side winner.allowed in
      let all : plan.environment_sizes ≡ length sizes.environment.items = environment_length plan.environment settings plan.environment_sizes sizes.environment.items
      (λ none. is.environment_sizes ∙ ap (allowed_of max) (sym is.environment_is ∙ none)) are.environment in
      omega arith,
)

found_of : (p : Problem) (settings : Settings) (m : MachineModel) → IsSoughtMachine (sought_of p) (size_of m) m → size_of m ≤ allowed_sizes p settings.max → IsFound p settings m
found_of p settings m is most = record {
  accepted = record { machine = is.machine; looked_for = record { kind = is.kind; size = refl; reads = is.reads; writes = is.writes }; accepted = is.accepted };
  some = size_pos m is.machine.shape;
  allowed = most;
}

winner_at : (s : Problem) (e : Option Problem) (settings : Settings) (side : Side) (m : MachineModel) → SideHas (sought_by (named_of (plan_at s e settings.max)) side) (size_of m) m
    → size_of m ≤ sizes_of (named_of (plan_at s e settings.max)) side → OfSide s e (λ p. IsFound p settings m) side
unfolding plan_at
winner_at s e settings System m is most = found_of s settings m is most
winner_at s None settings Environment m is most = absurd is
winner_at s (Some p) settings Environment m is most = found_of p settings m is most

pub winner_is : (s : Problem) (e : Option Problem) (settings : Settings) (plan : Plan) (o : Option Found) → IsPlanOf s e settings.max plan → IfSome o (IsWinner (named_of plan)) → IsWinnerOf s e settings o
winner_is s e settings plan None is h = tt
winner_is s e settings plan (Some w) is h =
    let here : IsWinner (named_of (plan_at s e settings.max)) w = subst (λ x. IsWinner (named_of x) w) (plan_is s e settings.max plan is) h in
    winner_at s e settings w.side w.machine here.accepted here.allowed

-- WHAT IS LEFT TO BE SETTLED

environment_left : {v : Counts} (s : Problem) (e : Option Problem) (settings : Settings) (u : Unsettled) → ForSome e (IsSearched v Environment) → AreTasksOfAny e settings (allowed_of settings.max e) u.tasks.items
    → ((p : Problem) → e ≡ Some p → IsLeft Environment settings u p) × (e ≡ None → length u.tasks.items ≡ 0)
environment_left s None settings u is are = (λ p at. absurd (none-some p at), λ none. are)
environment_left s (Some q) settings u is are =
    let here : IsLeft Environment settings u q = record { of_side = (is q refl).of_side; tasks = are } in
    (λ p at. subst (IsLeft Environment settings u) (same_Some q p at) here, λ none. absurd (none-some q (sym none)))

pub all_left : {v : Counts} (s : Problem) (e : Option Problem) (settings : Settings) (plan : Plan) (sizes : Sizes) (us ue : Unsettled) → IsPlanOf s e settings.max plan → AreSizesOf plan settings sizes → IsSearched v System s
    → ForSome e (IsSearched v Environment) → us.tasks ≡ sizes.system → ue.tasks ≡ sizes.environment → AreLeft s e settings us ue
unfolding plan_at
all_left s e settings plan sizes us ue is are system environment system_is environment_is =
    let here : AreSizesOf (plan_at s e settings.max) settings sizes = subst (λ x. AreSizesOf x settings sizes) (plan_is s e settings.max plan is) are in
    let left = environment_left s e settings ue environment (rw environment_is here.environment) in
    record { of_system = record { of_side = system.of_side; tasks = rw system_is here.system }; of_environment = left.0; none = left.1 }
