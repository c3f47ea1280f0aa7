-- Sizes that are opened, and seats that are handed out.
use Rattle.std.proofs.Common.{◌≡◌, ℕ, zero, suc, ◌+◌, ◌-◌, ◌<◌, ◌≤◌, List, [], ◌∷◌, ◌++◌, All, map, length, get_or, refl, sym, ◌∙◌, ap, subst, arith, drop, length-append, inl, inr, Global}
use Rattle.std.specs.Prelude.{Vec, Some, Result, Ok, Err, IfOk, slice_get, vec_len}
use Rattle.std.specs.List.{AllZip}
use Rattle.std.proofs.lemmas.Bool.{cases_lt}
use Rattle.std.proofs.lemmas.List.{ext_get_or, get_or_append_left, get_or_push, length-map, same_from_push}
use Rattle.std.proofs.lemmas.List.Elements.{All-append, All-cons, All-nil}
use Rattle.std.proofs.lemmas.Option.{get_or_from_slice_get, slice_get-get_or}
use Rattle.std.proofs.lemmas.Slice.Zip.{all_zipped_more}
use Rattle.text_limits.specs.declared.TheConstants.{SMALL_LIMITS}
use Rattle.machine_model.specs.Problem.{IsProblem, parts_of, sized}
use Rattle.machine_model.proofs.PartsLemmas.{alike}
use Rattle.machine_model.specs.declared.problems.Problem.{Problem}
use Rattle.annotation_encode.specs.BaseClauses.{base_clauses}
use Rattle.annotation_encode.specs.Variables.{variables_of}
use Rattle.annotation_encode.proofs.Further.{equal_clauses}
use Rattle.clause_exchange.specs.SharedLog.{PassView, SharedLog, new_pass}
use Rattle.size_search.specs.Task.{SizeTaskModel, terms_of}
use Rattle.size_search.specs.declared.tasks.Opened.{Opened}
use Rattle.synth_engine.specs.declared.settings.Settings.{Settings}
use Rattle.synth_engine.specs.declared.crews.Crew.{Crew}
use Rattle.synth_engine.specs.declared.sizes.Sizes.{Sizes}
use Rattle.synth_engine.specs.Tasks.{AreSeats, AreTasks, IsCrewOf, IsTaskOf}
use Rattle.synth_engine.specs.Hands.{AreCrewsFrom, AreDrawn, AreRacks, joined_passes, new_seats}
use Rattle.synth_engine.specs.Plans.{AreProblemsDown, AreTasksUpTo, AreWorkersOf, IsOpenedFor}
use Rattle.synth_engine.proofs.HandLemmas.{items}

-- OPENED SIZES

pub task_opened : (p q : Problem) (settings : Settings) (n : ℕ) (t : SizeTaskModel) → parts_of q ≡ parts_of (sized p n) → t.problem ≡ q
    → t.exchange.terms ≡ terms_of q settings.entries (settings.workers + 1) → IsTaskOf p settings n t
task_opened p q settings n t parts is terms =
    let e = equal_clauses q (sized p n) parts in
    record {
      parts = ap parts_of is ∙ parts;
      vars = ap (λ (x : Problem). variables_of x) is ∙ e.variables;
      base = ap (λ (x : Problem). base_clauses x) is ∙ e.clauses;
      terms = terms ∙ ap (λ (x : Problem). terms_of x settings.entries (settings.workers + 1)) (sym is);
    }

pub no_tasks : (p : Problem) (settings : Settings) (top : ℕ) → AreTasks p settings top []
no_tasks p settings top = record { few = omega arith; each = λ k u at. absurd (never k u at) }
  where
    never : (k : ℕ) (u : SizeTaskModel) → slice_get [] k ≡ Some u → ⊥
    never k u at = cc

pub tasks_of_none : (p : Problem) (settings : Settings) (tasks : List SizeTaskModel) → length tasks ≡ 0 → AreTasks p settings (length tasks) tasks
tasks_of_none p settings [] none = no_tasks p settings 0
tasks_of_none p settings (t ∷ ts) none = absurd (omega arith)

-- there are as many new seats as numbers
pub new_seats-length : (log : SharedLog) (n : ℕ) → length (new_seats log n) ≡ n
new_seats-length log zero = refl
new_seats-length log (suc n) = let e = new_seats-length log n in let l = length-append (new_seats log n) (new_pass log n ∷ []) in omega arith

new_seats-get : (log : SharedLog) (n i : ℕ) (d : PassView) → i < n → get_or (new_seats log n) i d ≡ new_pass log i
new_seats-get log zero i d h = absurd (omega arith)
new_seats-get log (suc n) i d h =
    let len = new_seats-length log n in
    elim (cases_lt i n) [
      | inl below ↦ get_or_append_left (new_seats log n) (new_pass log n ∷ []) d i (omega arith) ∙ new_seats-get log n i d below
      | inr above ↦ let e : i ≡ n = omega arith in get_or_push (new_seats log n) (new_pass log n) d i (omega arith) ∙ ap (new_pass log) (sym e)
    ]

pub new_seats_are : (log : SharedLog) (n : ℕ) (xs : List PassView) → length xs ≡ n → ((i : ℕ) → i < n → slice_get xs i ≡ Some (new_pass log i)) → xs ≡ new_seats log n
new_seats_are log n xs len each =
    let d : PassView = new_pass log 0 in
    ext_get_or d xs (new_seats log n) (len ∙ sym (new_seats-length log n)) (λ i h. let small : i < n = omega arith in get_or_from_slice_get xs i (new_pass log i) d (each i small) ∙ sym (new_seats-get log n i d small))

-- SEATS THAT ARE HANDED OUT

pub racks_some : {Z : Type 0} (n : ℕ) (tasks : List SizeTaskModel) (racks : List (Vec PassView Z)) → 0 < n → AreRacks n tasks racks → All (λ v. 0 < vec_len v) racks
racks_some {Z} n [] [] some are = All-nil (λ (v : Vec PassView Z). 0 < vec_len v)
racks_some {Z} n [] (w ∷ ws) some are = absurd are
racks_some {Z} n (t ∷ ts) [] some are = absurd are
racks_some {Z} n (t ∷ ts) (w ∷ ws) some are =
    let len : length w.items ≡ n = ap length are.0 ∙ new_seats-length t.exchange n in
    let l : w.len ≡ length w.items = w.ok.0 in
    All-cons (λ (v : Vec PassView Z). 0 < vec_len v) w ws (omega arith) (racks_some n ts ws some are.1)

hand : {Z : Type 0} (n : ℕ) (tasks : List SizeTaskModel) (racks left : List (Vec PassView Z)) (drawn : List PassView) → length left ≡ length racks → length drawn ≡ length racks
    → map items racks ≡ joined_passes left drawn → AreRacks (suc n) tasks racks → AreRacks n tasks left × (map (λ s. s.exchange) drawn ≡ map (λ t. t.exchange) tasks) × All (λ s. s.number ≡ n) drawn
hand n [] [] [] [] a b e are = (tt, refl, All-nil (λ (s : PassView). s.number ≡ n))
hand n [] [] [] (s ∷ ss) a b e are = absurd (omega arith)
hand n [] [] (w ∷ ws) drawn a b e are = absurd (omega arith)
hand n [] (v ∷ vs) left drawn a b e are = absurd are
hand n (t ∷ ts) [] left drawn a b e are = absurd are
hand n (t ∷ ts) (v ∷ vs) [] drawn a b e are = absurd (omega arith)
hand n (t ∷ ts) (v ∷ vs) (w ∷ ws) [] a b e are = absurd (omega arith)
hand n (t ∷ ts) (v ∷ vs) (w ∷ ws) (s ∷ ss) a b e are =
    let here : v.items ≡ w.items ++ s ∷ [] = ap (λ l. get_or l 0 []) e in
    let there : map items vs ≡ joined_passes ws ss = ap (λ l. drop 1 l) e in
    let one = same_from_push w.items (new_seats t.exchange n) s (new_pass t.exchange n) (sym here ∙ are.0) in
    let more = hand n ts vs ws ss (omega arith) (omega arith) there are.1 in (
      (one.0, more.0),
      (λ i. (one.1 i).exchange ∷ more.1 i),
      All-cons (λ (s : PassView). s.number ≡ n) s ss (ap (λ (x : PassView). x.number) one.1) more.2,
    )

-- each task's last seat is taken: these are the seats of one worker
pub handed : {Z : Type 0} (number after : ℕ) (tasks : List SizeTaskModel) (racks left : List (Vec PassView Z)) (drawn : List PassView) → number ≡ after + 1 → AreRacks number tasks racks
    → AreDrawn racks left drawn → AreRacks after tasks left × AreSeats after tasks drawn
handed {Z} number after tasks racks left drawn e are drawn_are =
    let s : number ≡ suc after = omega arith in
    let h = hand after tasks racks left drawn drawn_are.as_many_left drawn_are.as_many drawn_are.joined_are (subst (λ k. AreRacks {Z = Z} k tasks racks) s are) in
    (h.0, record { exchanges = h.1; numbers = h.2 })

pub workers_push : (sizes : Sizes) (top : ℕ) (crews later : List Crew) (c : Crew) → AreWorkersOf sizes top crews → later ≡ crews ++ c ∷ [] → IsCrewOf sizes c → c.number ≡ top - length crews
    → AreWorkersOf sizes top later
workers_push sizes top crews later c are is at n =
    let len = length-append crews (c ∷ []) in
    rw is (record {
      seats = All-append (IsCrewOf sizes) crews (c ∷ []) are.seats (All-cons (IsCrewOf sizes) c [] at (All-nil (IsCrewOf sizes)));
      numbers = λ i d h. elim (cases_lt i (length crews)) [
        | inl below ↦ ap (λ (x : Crew). x.number) (get_or_append_left crews (c ∷ []) d i below) ∙ are.numbers i d below
        | inr above ↦ let e : length crews ≡ i = omega arith in ap (λ (x : Crew). x.number) (get_or_push crews c d i e) ∙ n ∙ ap (λ k. top - k) e
      ];
    })

-- the seats of workers at the sizes of one side
crews_at : {Z : Type 0} (top : ℕ) (tasks : List SizeTaskModel) (crews : List Crew) (side : Crew → Vec PassView Z) → ((i : ℕ) (d : Crew) → i < length crews → AreSeats (top - i) tasks (side (get_or crews i d)).items)
    → AreCrewsFrom top tasks (map side crews)
crews_at top tasks [] side each = tt
crews_at top tasks (c ∷ cs) side each = (
  rw (sym (let e : top - 0 ≡ top = omega arith in e)) (each 0 c (omega arith)),
  crews_at (top - 1) tasks cs side (λ i d h. rw (let e : top - 1 - i ≡ top - suc i = omega arith in e) (each (suc i) d (omega arith))),
)

pub system_crews : (sizes : Sizes) (top : ℕ) (crews : List Crew) → AreWorkersOf sizes top crews → AreCrewsFrom top sizes.system.items (map (λ c. c.system) crews)
system_crews sizes top crews are =
    crews_at top sizes.system.items crews (λ (c : Crew). c.system) (λ i d h. subst (λ k. AreSeats k sizes.system.items (get_or crews i d).system.items) (are.numbers i d h) (are.seats i d h).system)

pub environment_crews : (sizes : Sizes) (top : ℕ) (crews : List Crew) → AreWorkersOf sizes top crews → AreCrewsFrom top sizes.environment.items (map (λ c. c.environment) crews)
environment_crews sizes top crews are =
    crews_at top sizes.environment.items crews (λ (c : Crew). c.environment) (λ i d h. subst (λ k. AreSeats k sizes.environment.items (get_or crews i d).environment.items) (are.numbers i d h) (are.seats i d h).environment)

-- PROBLEMS OF ALL SIZES, OPENED

pub opened_push : (settings : Settings) (ps : List Problem) (os later : List Opened) (p : Problem) (o : Opened) → AllZip (IsOpenedFor settings) ps os → later ≡ os ++ o ∷ [] → IsOpenedFor settings p o
    → AllZip (IsOpenedFor settings) (ps ++ p ∷ []) later
opened_push settings ps os later p o all is one = rw is (all_zipped_more (IsOpenedFor settings) ps os p o all one)

zip_length : {A B : Type 0} (R : A → B → Type 0) (xs : List A) (ys : List B) → AllZip R xs ys → length ys ≡ length xs
zip_length R [] [] all = refl
zip_length R [] (b ∷ bs) all = absurd all
zip_length R (a ∷ as') [] all = absurd all
zip_length R (a ∷ as') (b ∷ bs) all = let e = zip_length R as' bs all.1 in omega arith

-- what threads opened, one for each problem
zip_results : {E : Type 0} (settings : Settings) (ps : List Problem) (os : List Opened) (rs : List (Result Opened E)) → rs ≡ map (λ o. Ok o) os → length rs ≡ length ps
    → ((i : ℕ) (d : Result Opened E) (p : Problem) → i < length ps → IfOk (get_or rs i d) (IsOpenedFor settings (get_or ps i p))) → AllZip (IsOpenedFor settings) ps os
zip_results settings [] [] rs is n each = tt
zip_results settings [] (o ∷ os) rs is n each = let m = ap length is in absurd (omega arith)
zip_results settings (p ∷ ps) [] rs is n each = let m = ap length is in absurd (omega arith)
zip_results {E} settings (p ∷ ps) (o ∷ os) [] is n each = absurd (omega arith)
zip_results {E} settings (p ∷ ps) (o ∷ os) (r ∷ rs) is n each =
    let head : r ≡ Ok o = ap (λ l. get_or l 0 r) is in
    let P : Result Opened E → Type 0 = λ (x : Result Opened E). IfOk x (IsOpenedFor settings p) in (
      subst P head (each 0 r p (omega arith)),
      zip_results settings ps os rs (ap (λ l. drop 1 l) is) (omega arith) (λ i d q h. each (suc i) d q (omega arith)),
    )

pub opened_at_once : {E F Z : Type 0} (settings : Settings) (ps : List Problem) (rs : List (Result Opened E)) (r : Result (Vec Opened Z) F) → length rs ≡ length ps
    → ((i : ℕ) (d : Result Opened E) (p : Problem) → i < length ps → IfOk (get_or rs i d) (IsOpenedFor settings (get_or ps i p))) → IfOk r (λ all. rs ≡ map (λ o. Ok o) all.items)
    → IfOk r (λ all. AllZip (IsOpenedFor settings) ps all.items)
opened_at_once settings ps rs (Ok all) n each is = zip_results settings ps all.items rs is n each
opened_at_once settings ps rs (Err e) n each is = tt

-- each size's problem is within the limits
pub problems_are : (p : Problem) (count : ℕ) (ps : List Problem) → IsProblem p → count ≤ SMALL_LIMITS.machine → AreProblemsDown p count ps → All IsProblem ps
problems_are p count ps problem few down k d h =
    let q : Problem = get_or ps k d in
    let all : length ps ≡ count = down.all in
    let same : parts_of q ≡ parts_of (sized p (count - k)) = down.each k q (slice_get-get_or ps k d h) in
    let here : IsProblem (sized p (count - k)) = record {
      inputs = problem.inputs;
      outputs = problem.outputs;
      some = omega arith;
      size = omega arith;
      states = problem.states;
      signals = problem.signals;
      counting = problem.counting;
    } in
    (alike (sized p (count - k)) q (sym same)).problem here

abbrev pub task_of : Opened → SizeTaskModel
task_of o = o.task

zip_at : (settings : Settings) (ps : List Problem) (os : List Opened) (k : ℕ) (t : SizeTaskModel) → AllZip (IsOpenedFor settings) ps os → slice_get (map task_of os) k ≡ Some t
    → (q : Problem) × (o : Opened) × (slice_get ps k ≡ Some q) × (o.task ≡ t) × IsOpenedFor settings q o
zip_at settings [] [] k t all at = absurd (nothing k t at)
  where
    nothing : (k : ℕ) (u : SizeTaskModel) → slice_get [] k ≡ Some u → ⊥
    nothing k u at = cc
zip_at settings [] (o ∷ os) k t all at = absurd all
zip_at settings (p ∷ ps) [] k t all at = absurd all
zip_at settings (p ∷ ps) (o ∷ os) zero t all at = (p, o, refl, same o.task t at, all.0)
  where
    same : (a b : SizeTaskModel) → Some a ≡ Some b → a ≡ b
    same a b e = cc
zip_at settings (p ∷ ps) (o ∷ os) (suc k) t all at = zip_at settings ps os k t all.1 at

pub tasks_up_to : (p : Problem) (settings : Settings) (count : ℕ) (ps : List Problem) (os : List Opened) (tasks : List SizeTaskModel) → AreProblemsDown p count ps → AllZip (IsOpenedFor settings) ps os
    → tasks ≡ map task_of os → AreTasksUpTo p settings count tasks
tasks_up_to p settings count ps os tasks down all is =
    let n : length (map task_of os) ≡ length os = length-map os task_of in
    let m : length os ≡ length ps = zip_length (IsOpenedFor settings) ps os all in
    let c : length ps ≡ count = down.all in
    rw is (record {
      all = omega arith;
      each = record {
        few = omega arith;
        each = λ k t at.
            let x = zip_at settings ps os k t all at in
            let task : IsTaskOf p settings (count - k) x.1.task = task_opened p x.0 settings (count - k) x.1.task (down.each k x.0 x.2) x.4.problem x.4.terms in
            subst (IsTaskOf p settings (count - k)) x.3 task;
      };
    })

zip_racks : (settings : Settings) (ps : List Problem) (os : List Opened) → AllZip (IsOpenedFor settings) ps os → AreRacks (settings.workers + 1) (map task_of os) (map (λ o. o.seats) os)
zip_racks settings [] [] all = tt
zip_racks settings [] (o ∷ os) all = absurd all
zip_racks settings (p ∷ ps) [] all = absurd all
zip_racks settings (p ∷ ps) (o ∷ os) all = (all.0.seats, zip_racks settings ps os all.1)

pub racks_of : (settings : Settings) (ps : List Problem) (os : List Opened) (tasks : List SizeTaskModel) (racks : List (Vec PassView Global)) → AllZip (IsOpenedFor settings) ps os → tasks ≡ map task_of os
    → racks ≡ map (λ o. o.seats) os → AreRacks (settings.workers + 1) tasks racks
racks_of settings ps os tasks racks all tasks_are racks_are = rw (tasks_are, racks_are) (zip_racks settings ps os all)
