use Rattle.std.proofs.Common.{◌≡◌, ℕ, ◌+◌, ◌*◌, ◌<◌, ◌≤◌, ◌&&◌, true, false, Option, Some, None, refl, sym, ap, subst, arith, inl, inr, ◌⊎◌}
use Rattle.std.proofs.lemmas.Bool.{cond_both, cases_lt, cases_eq, and_parts, and_cases, ltb-true, ltb-false, leb-true}
use Rattle.std.specs.Bool.{IsTrue}
use Rattle.std.specs.Prelude.{nat_lt, IfNone, IfSome}
use Rattle.letters_and_lassos.specs.declared.kinds.Side.{Side}
use Rattle.letters_and_lassos.specs.declared.kinds.Side.TheVariants.{System, Environment}
use Rattle.size_board.specs.declared.events.Claim.{Claim}
use Rattle.size_board.specs.Names.{Named, sizes_of}
use Rattle.size_board.specs.Board.{BoardModel, IsFirstOpenSize, is_open, state_of}
use Rattle.size_board.specs.Kept.{earlier}

abbrev pub side_number : Side → ℕ
side_number System = 0
side_number Environment = 1

-- a claim's place in the order in which sizes are looked at
abbrev pub rank : Claim → ℕ
rank c = 2 * c.size + side_number c.side

abbrev claims_of : BoardModel → Claim → ℕ
claims_of b c = (state_of b c.side c.size).claims

abbrev IsOpen : Named → BoardModel → Claim → Type 0
IsOpen names b c = IsTrue (is_open names b c.side c.size)

-- the claim is open, and first among the open ones of a rank below r
pub record IsFirstBelow (names : Named) (b : BoardModel) (r : ℕ) (c : Claim) : Type 0 where
  pub open_size : IsTrue (is_open names b c.side c.size)
  pub first : (d : Claim) → rank d < r → IsTrue (is_open names b d.side d.size)
      → ((state_of b c.side c.size).claims < (state_of b d.side d.size).claims) ⊎ (((state_of b c.side c.size).claims ≡ (state_of b d.side d.size).claims) × (rank c ≤ rank d))
  pub below : rank c < r

-- what was found when the ranks below r were looked at
pub record IsSearched (names : Named) (b : BoardModel) (r : ℕ) (first : Option Claim) : Type 0 where
  pub none : first ≡ None → (d : Claim) → rank d < r → IsTrue (is_open names b d.side d.size) → ⊥
  pub some : (c : Claim) → first ≡ Some c → IsFirstBelow names b r c

-- a rank is that of one claim
rank_parts : (s t : Side) (m n : ℕ) → 2 * m + side_number s ≡ 2 * n + side_number t → (s ≡ t) × (m ≡ n)
rank_parts System System m n e = (refl, omega arith)
rank_parts System Environment m n e = absurd (omega arith)
rank_parts Environment System m n e = absurd (omega arith)
rank_parts Environment Environment m n e = (refl, omega arith)

one_rank : (c d : Claim) → rank c ≡ rank d → c ≡ d
one_rank c d e =
    let parts = rank_parts c.side d.side c.size d.size e in
    λ i. record { side = parts.0 i; size = parts.1 i }

rank_order : (s t : Side) (m n : ℕ) → 2 * m + side_number s ≤ 2 * n + side_number t → (m < n) ⊎ ((m ≡ n) × ((s ≡ System) ⊎ (t ≡ Environment)))
rank_order System t m n h = elim (cases_lt m n) [ inl less ↦ inl less | inr not_less ↦ let above : n ≤ m = not_less in inr (side_step t h above, inl refl) ] where
  side_step : (t : Side) → 2 * m + 0 ≤ 2 * n + side_number t → n ≤ m → m ≡ n
  side_step System h above = omega arith
  side_step Environment h above = omega arith
rank_order Environment System m n h = inl (omega arith)
rank_order Environment Environment m n h = elim (cases_lt m n) [ inl less ↦ inl less | inr not_less ↦ let above : n ≤ m = not_less in inr (omega arith, inr refl) ]

-- an open size is from 1 on and allowed
pub open_parts : (names : Named) (b : BoardModel) (side : Side) (n : ℕ) → IsTrue (is_open names b side n) → (0 < n) × (n ≤ sizes_of names side)
open_parts names b side n is =
    let two = and_parts _ _ (and_parts _ _ (and_parts _ _ (and_parts _ _ (and_parts _ _ is).0).0).0).0 in
    (ltb-true 0 n two.0, leb-true n (sizes_of names side) two.1)

module _ (names : Named) (b : BoardModel) where
  module _ (r : ℕ) (next : Claim) (here : rank next ≡ r) where
    -- a claim of a rank up to r has a lower rank, or is the next one
    split : (d : Claim) → rank d < r + 1 → (rank d < r) ⊎ (d ≡ next)
    split d h = elim (cases_lt (rank d) r) [ inl less ↦ inl less | inr not_less ↦ let above : r ≤ rank d = not_less in inr (one_rank d next (omega (arith, h, above, here))) ]

    -- the next size is the first one that is open
    first_new : IsOpen names b next → ((d : Claim) → rank d < r → IsOpen names b d → ⊥) → IsFirstBelow names b (r + 1) next
    first_new open_next none = record {
      open_size = open_next;
      first = λ d h is. elim (split d h) [
        | inl less ↦ absurd (none d less is)
        | inr same ↦ let e : claims_of b next ≡ claims_of b d = ap (claims_of b) (sym same) in let f : rank next ≡ rank d = ap rank (sym same) in inr (e, omega (arith, f))
      ];
      below = omega (arith, here);
    }

    -- it has fewer claims than the first one so far
    first_fewer : (c : Claim) → IsFirstBelow names b r c → IsOpen names b next → claims_of b next < claims_of b c → IsFirstBelow names b (r + 1) next
    first_fewer c old open_next fewer = record {
      open_size = open_next;
      first = λ d h is. elim (split d h) [
        | inl less ↦ inl (elim (old.first d less is) [ inl more ↦ let m : claims_of b c < claims_of b d = more in omega (arith, fewer, m) | inr same ↦ let m : claims_of b c ≡ claims_of b d = same.0 in omega (arith, fewer, m) ])
        | inr same ↦ let e : claims_of b next ≡ claims_of b d = ap (claims_of b) (sym same) in let f : rank next ≡ rank d = ap rank (sym same) in inr (e, omega (arith, f))
      ];
      below = omega (arith, here);
    }

    -- the first one so far stays, where the next one isn't open or has as many claims
    first_stays : (c : Claim) → IsFirstBelow names b r c → (IsOpen names b next → claims_of b c ≤ claims_of b next) → IsFirstBelow names b (r + 1) c
    first_stays c old more = record {
      open_size = old.open_size;
      first = λ d h is. elim (split d h) [
        | inl less ↦ old.first d less is
        | inr same ↦
            let n : claims_of b c ≤ claims_of b next = more (subst (λ (x : Claim). IsOpen names b x) same is) in
            let e : claims_of b d ≡ claims_of b next = ap (claims_of b) same in
            let f : rank d ≡ rank next = ap rank same in
            let below : rank c < r = old.below in
            elim (cases_eq (claims_of b c) (claims_of b d)) [
              | inl equal ↦ inr (equal, omega (arith, f, here, below))
              | inr unequal ↦ let ne : claims_of b c ≡ claims_of b d → ⊥ = unequal in inl (omega (arith, n, e, ne))
            ]
      ];
      below = let before : rank c < r = old.below in omega (arith, before);
    }

    step_none : IsSearched names b r None → IsSearched names b (r + 1) (earlier names b None next)
    step_none old =
        cond_both (is_open names b next.side next.size) (Some next) None (λ o. IsSearched names b (r + 1) o)
        (λ yes_open. record { none = λ e. absurd (cc); some = λ c e. let same : next ≡ c = cc in subst (λ (x : Claim). IsFirstBelow names b (r + 1) x) same (first_new yes_open (old.none refl)) })
        (λ no_open. record {
          none = λ e d h is. elim (split d h) [
            | inl less ↦ old.none refl d less is
            | inr same ↦ let yes_open : is_open names b next.side next.size ≡ true = subst (λ (x : Claim). IsOpen names b x) same is in absurd (cc)
          ];
          some = λ c e. absurd (cc);
        })

    step_some : (c : Claim) → IsFirstBelow names b r c → IsSearched names b (r + 1) (earlier names b (Some c) next)
    step_some c old =
        cond_both (is_open names b next.side next.size && nat_lt (claims_of b next) (claims_of b c)) (Some next) (Some c) (λ o. IsSearched names b (r + 1) o)
        (λ both. let parts = and_parts _ _ both in record {
          none = λ e. absurd (cc);
          some = λ d e. let same : next ≡ d = cc in
              subst (λ (x : Claim). IsFirstBelow names b (r + 1) x) same (first_fewer c old parts.0 (ltb-true (claims_of b next) (claims_of b c) parts.1));
        })
        (λ neither. record {
          none = λ e. absurd (cc);
          some = λ d e. let same : c ≡ d = cc in
              subst (λ (x : Claim). IsFirstBelow names b (r + 1) x) same
              (first_stays c old (λ yes_open. elim (and_cases _ _ neither) [
                | inl shut ↦ let s : is_open names b next.side next.size ≡ false = shut in absurd (cc)
                | inr not_fewer ↦ ltb-false (claims_of b next) (claims_of b c) not_fewer
              ]));
        })

    -- one more size is looked at
    pub IsSearched-more : (first : Option Claim) → IsSearched names b r first → IsSearched names b (r + 1) (earlier names b first next)
    IsSearched-more None old = step_none old
    IsSearched-more (Some c) old = step_some c (old.some c refl)

  module _ (r : ℕ) (all : (side : Side) → 2 * sizes_of names side + 2 ≤ r) where
    open_below : (d : Claim) → IsOpen names b d → rank d < r
    open_below d is =
        let most : 2 * sizes_of names d.side + 2 ≤ r = all d.side in
        let within : d.size ≤ sizes_of names d.side = (open_parts names b d.side d.size is).1 in
        let small : side_number d.side ≤ 1 = elim d.side as (λ s. side_number s ≤ 1) [ System ↦ omega arith | Environment ↦ omega arith ] in
        omega (arith, most, within, small)

    -- every allowed size was looked at
    pub searched_none : IsSearched names b r None → (side : Side) (n : ℕ) → IsTrue (is_open names b side n) → ⊥
    searched_none old side n is =
        let d : Claim = record { side = side; size = n } in
        old.none refl (record { side = side; size = n }) (open_below (record { side = side; size = n }) is) is

    pub searched_some : (c : Claim) → IsFirstBelow names b r c → IsFirstOpenSize names b c
    searched_some c old = record {
      open_size = old.open_size;
      first = λ d is. elim (old.first d (open_below d is) is) [
        | inl fewer ↦ inl fewer
        | inr same ↦ inr (same.0, rank_order c.side d.side c.size d.size same.1)
      ];
    }

-- both sides' sizes of one number are looked at
pub searched_both : (names : Named) (b : BoardModel) (size : ℕ) (first one two : Option Claim) → IsSearched names b (2 * size) first
    → one ≡ earlier names b first (record { side = System; size = size }) → two ≡ earlier names b one (record { side = Environment; size = size })
    → IsSearched names b (2 * size + 1) one × IsSearched names b (2 * (size + 1)) two
searched_both names b size first one two old is_one is_two =
    let next : Claim = record { side = System; size = size } in
    let then : Claim = record { side = Environment; size = size } in
    let a : IsSearched names b (2 * size + 1) one = subst (λ (o : Option Claim). IsSearched names b (2 * size + 1) o) (sym is_one) (IsSearched-more names b (2 * size) next (omega arith) first old) in
    let c : IsSearched names b (2 * size + 1 + 1) two = subst (λ (o : Option Claim). IsSearched names b (2 * size + 1 + 1) o) (sym is_two) (IsSearched-more names b (2 * size + 1) then (omega arith) one a) in
    let e : 2 * size + 1 + 1 ≡ 2 * (size + 1) = omega arith in
    (a, subst (λ (r : ℕ). IsSearched names b r two) e c)

-- every allowed size lies below
past_all : (names : Named) (size system_sizes environment_sizes : ℕ) → names.system_sizes ≡ system_sizes → names.environment_sizes ≡ environment_sizes
    → system_sizes + 1 ≤ size → environment_sizes + 1 ≤ size → (side : Side) → 2 * sizes_of names side + 2 ≤ 2 * size
past_all names size system_sizes environment_sizes s e past_s past_e System = omega (arith, s, past_s)
past_all names size system_sizes environment_sizes s e past_s past_e Environment = omega (arith, e, past_e)

-- what was found when every allowed size was looked at
pub searched_all_none : (names : Named) (b : BoardModel) (size system_sizes environment_sizes : ℕ) (first : Option Claim) → IsSearched names b (2 * size) first
    → names.system_sizes ≡ system_sizes → names.environment_sizes ≡ environment_sizes → system_sizes + 1 ≤ size → environment_sizes + 1 ≤ size
    → IfNone first ((side : Side) (n : ℕ) → IsTrue (is_open names b side n) → ⊥)
searched_all_none names b size system_sizes environment_sizes None old s e past_s past_e =
    λ side n is. searched_none names b (2 * size) (past_all names size system_sizes environment_sizes s e past_s past_e) old side n is
searched_all_none names b size system_sizes environment_sizes (Some c) old s e past_s past_e = tt

pub searched_all_some : (names : Named) (b : BoardModel) (size system_sizes environment_sizes : ℕ) (first : Option Claim) → IsSearched names b (2 * size) first
    → names.system_sizes ≡ system_sizes → names.environment_sizes ≡ environment_sizes → system_sizes + 1 ≤ size → environment_sizes + 1 ≤ size
    → IfSome first (IsFirstOpenSize names b)
searched_all_some names b size system_sizes environment_sizes None old s e past_s past_e = tt
searched_all_some names b size system_sizes environment_sizes (Some c) old s e past_s past_e =
    searched_some names b (2 * size) (past_all names size system_sizes environment_sizes s e past_s past_e) c (old.some c refl)
