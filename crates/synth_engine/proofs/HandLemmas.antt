-- Seats that are dealt out and come back.
use Rattle.std.proofs.Common.{◌≡◌, ℕ, suc, ◌+◌, ◌-◌, ◌<◌, ◌≤◌, List, [], ◌∷◌, ◌++◌, All, Contains, map, length, get_or, refl, sym, ◌∙◌, ap, arith, drop, length-append, inl, inr}
use Rattle.std.specs.Prelude.{Vec, vec_len}
use Rattle.std.proofs.lemmas.List.{get_or_push, map-append, same_from_push}
use Rattle.std.proofs.lemmas.List.Elements.{All-cons, All-nil}
use Rattle.std.proofs.lemmas.Bool.{cases_lt}
use Rattle.clause_exchange.specs.SharedLog.{PassView, SharedLog}
use Rattle.size_search.specs.Seat.{GoesOn}
use Rattle.size_search.specs.Task.{SizeTaskModel}
use Rattle.synth_engine.specs.Tasks.{AreSeats}
use Rattle.synth_engine.proofs.WorkerLemmas.{as_many}
use Rattle.synth_engine.specs.Hands.{AreAtFrom, AreCrewsFrom, AreDrawn, joined_passes}

-- a list with one element more
pub push_count : {X : Type 0} (ys xs : List X) (x : X) → ys ≡ xs ++ x ∷ [] → length ys ≡ length xs + 1
push_count ys xs x e = ap length e ∙ length-append xs (x ∷ [])

-- what holds of each element of a list holds of its last one
pub last_of : {X : Type 0} (P : X → Type 0) (ys xs : List X) (x : X) → ys ≡ xs ++ x ∷ [] → All P ys → P x
last_of P ys xs x e all =
    let n : length ys ≡ length xs + 1 = push_count ys xs x e in
    let at : get_or ys (length xs) x ≡ x = ap (λ l. get_or l (length xs) x) e ∙ get_or_push xs x x (length xs) refl in
    rw (sym at) (all (length xs) x (omega arith))

-- and of those before
pub front_of : {X : Type 0} (P : X → Type 0) (xs : List X) (x : X) → All P (xs ++ x ∷ []) → All P xs
front_of P [] x all = All-nil P
front_of P (y ∷ ys) x all = All-cons P y ys (all 0 y (let e = length-append ys (x ∷ []) in omega arith)) (front_of P ys x (λ k d h. all (suc k) d (omega arith)))

-- SEATS AT ONE LOG, BY FALLING NUMBERS

pub at_pop : (top : ℕ) (log : SharedLog) (xs : List PassView) (x : PassView) → AreAtFrom top log (xs ++ x ∷ []) → AreAtFrom top log xs × (x.exchange ≡ log) × (x.number ≡ top - length xs)
at_pop top log [] x at = (tt, at.0, (let e : x.number ≡ top = at.1 in omega arith))
at_pop top log (y ∷ ys) x at =
    let rest = at_pop (top - 1) log ys x at.2 in
    let n : x.number ≡ top - 1 - length ys = rest.2 in
    ((at.0, at.1, rest.0), rest.1, omega arith)

pub at_push : (top : ℕ) (log : SharedLog) (xs : List PassView) (x : PassView) → AreAtFrom top log xs → x.exchange ≡ log → x.number ≡ top - length xs → AreAtFrom top log (xs ++ x ∷ [])
at_push top log [] x at e n = (e, omega arith, tt)
at_push top log (y ∷ ys) x at e n = (at.0, at.1, at_push (top - 1) log ys x at.2 e (omega arith))

-- the last seat took turns
pub at_goes_on : (top : ℕ) (log : SharedLog) (old front new : List PassView) (own later : PassView) → AreAtFrom top log old → old ≡ front ++ own ∷ [] → GoesOn own later
    → new ≡ front ++ later ∷ [] → AreAtFrom top log new
at_goes_on top log old front new own later at was goes is =
    let parts = at_pop top log front own (rw (sym was) at) in
    rw is (at_push top log front later parts.0 (goes.exchange ∙ parts.1) (goes.number ∙ parts.2))

pub at_all : (top : ℕ) (log : SharedLog) (xs : List PassView) → AreAtFrom top log xs → All (λ s. s.exchange ≡ log) xs
at_all top log [] at = All-nil (λ (s : PassView). s.exchange ≡ log)
at_all top log (y ∷ ys) at = All-cons (λ (s : PassView). s.exchange ≡ log) y ys at.0 (at_all (top - 1) log ys at.2)

-- each number from `top` down is that of a seat
pub at_numbers : (top : ℕ) (log : SharedLog) (xs : List PassView) (k : ℕ) → AreAtFrom top log xs → k ≤ top → top < k + length xs → Contains (map (λ s. s.number) xs) k
at_numbers top log [] k at low high = absurd (omega arith)
at_numbers top log (y ∷ ys) k at low high =
    elim (cases_lt k top) [
      | inl below ↦ let there = at_numbers (top - 1) log ys k at.2 (omega arith) (omega arith) in (suc there.0, omega (arith, there.1), there.2)
      | inr above ↦ (0, omega arith, at.1 ∙ (let e : top ≡ k = omega arith in e))
    ]

-- SEATS THAT ARE DRAWN

abbrev pub items : {Z : Type 0} → Vec PassView Z → List PassView
items v = v.items

joined-push : {Z : Type 0} (ws : List (Vec PassView Z)) (ss : List PassView) (w : Vec PassView Z) (s : PassView) → length ws ≡ length ss
    → joined_passes (ws ++ w ∷ []) (ss ++ s ∷ []) ≡ joined_passes ws ss ++ (w.items ++ s ∷ []) ∷ []
joined-push [] [] w s e = refl
joined-push [] (x ∷ xs) w s e = absurd (omega arith)
joined-push (v ∷ vs) [] w s e = absurd (omega arith)
joined-push (v ∷ vs) (x ∷ xs) w s e = ap (λ l. (v.items ++ x ∷ []) ∷ l) (joined-push vs xs w s (omega arith))

-- one list more
pub drawn_more : {Z : Type 0} (lists left later_left : List (Vec PassView Z)) (drawn later_drawn : List PassView) (v w : Vec PassView Z) (s : PassView) → AreDrawn lists left drawn
    → v.items ≡ w.items ++ s ∷ [] → later_left ≡ left ++ w ∷ [] → later_drawn ≡ drawn ++ s ∷ [] → AreDrawn (lists ++ v ∷ []) later_left later_drawn
drawn_more {Z} lists left later_left drawn later_drawn v w s are parts left_is drawn_is =
    let n : length (lists ++ v ∷ []) ≡ length lists + 1 = length-append lists (v ∷ []) in
    let a : length (left ++ w ∷ []) ≡ length left + 1 = length-append left (w ∷ []) in
    let b : length (drawn ++ s ∷ []) ≡ length drawn + 1 = length-append drawn (s ∷ []) in
    let c : length left ≡ length lists = are.as_many_left in
    let d : length drawn ≡ length lists = are.as_many in
    let same : length left ≡ length drawn = omega arith in
    rw (left_is, drawn_is) (record {
      as_many_left = omega arith;
      as_many = omega arith;
      joined_are = map-append items lists (v ∷ []) ∙ ap (λ l. l ++ v.items ∷ []) are.joined_are ∙ ap (λ i. joined_passes left drawn ++ i ∷ []) parts ∙ sym (joined-push left drawn w s same);
    })

-- a worker's seats without the last one
seats_pop : (number : ℕ) (front : List SizeTaskModel) (t : SizeTaskModel) (xs : List PassView) (s : PassView) → AreSeats number (front ++ t ∷ []) (xs ++ s ∷ [])
    → AreSeats number front xs × (s.exchange ≡ t.exchange) × (s.number ≡ number)
seats_pop number front t xs s are =
    let f : PassView → SharedLog = λ (p : PassView). p.exchange in
    let g : SizeTaskModel → SharedLog = λ (u : SizeTaskModel). u.exchange in
    let same = same_from_push (map f xs) (map g front) s.exchange t.exchange (sym (map-append f xs (s ∷ [])) ∙ are.exchanges ∙ map-append g front (t ∷ [])) in
    let P : PassView → Type 0 = λ (p : PassView). p.number ≡ number in
    (record { exchanges = same.0; numbers = front_of P xs s are.numbers }, same.1, last_of P (xs ++ s ∷ []) xs s refl are.numbers)

-- of each worker the seat at the last task is taken
collect : {Z : Type 0} (top : ℕ) (front : List SizeTaskModel) (t : SizeTaskModel) (lists left : List (Vec PassView Z)) (drawn : List PassView) → length left ≡ length lists
    → length drawn ≡ length lists → map items lists ≡ joined_passes left drawn → AreCrewsFrom top (front ++ t ∷ []) lists → AreCrewsFrom top front left × AreAtFrom top t.exchange drawn
collect top front t [] [] [] a b e are = (tt, tt)
collect top front t [] [] (s ∷ ss) a b e are = absurd (omega arith)
collect top front t [] (w ∷ ws) drawn a b e are = absurd (omega arith)
collect top front t (v ∷ vs) [] drawn a b e are = absurd (omega arith)
collect top front t (v ∷ vs) (w ∷ ws) [] a b e are = absurd (omega arith)
collect top front t (v ∷ vs) (w ∷ ws) (s ∷ ss) a b e are =
    let here : v.items ≡ w.items ++ s ∷ [] = ap (λ l. get_or l 0 []) e in
    let there : map items vs ≡ joined_passes ws ss = ap (λ l. drop 1 l) e in
    let one = seats_pop top front t w.items s (rw (sym here) are.0) in
    let more = collect (top - 1) front t vs ws ss (omega arith) (omega arith) there are.1 in
    ((one.0, more.0), (one.1, one.2, more.1))

pub collected : {Z : Type 0} (top : ℕ) (front : List SizeTaskModel) (t : SizeTaskModel) (lists left : List (Vec PassView Z)) (drawn : List PassView) → AreDrawn lists left drawn
    → AreCrewsFrom top (front ++ t ∷ []) lists → AreCrewsFrom top front left × AreAtFrom top t.exchange drawn
collected top front t lists left drawn are crews = collect top front t lists left drawn are.as_many_left are.as_many are.joined_are crews

-- where some task is left each worker has a seat
pub crews_some : {Z : Type 0} (top : ℕ) (tasks : List SizeTaskModel) (crews : List (Vec PassView Z)) → 0 < length tasks → AreCrewsFrom top tasks crews → All (λ v. 0 < vec_len v) crews
crews_some {Z} top tasks [] some are = All-nil (λ (v : Vec PassView Z). 0 < vec_len v)
crews_some {Z} top tasks (v ∷ vs) some are =
    let n : length v.items ≡ length tasks = as_many v.items tasks are.0.exchanges in
    let len : v.len ≡ length v.items = v.ok.0 in
    All-cons (λ (v : Vec PassView Z). 0 < vec_len v) v vs (omega arith) (crews_some (top - 1) tasks vs some are.1)
