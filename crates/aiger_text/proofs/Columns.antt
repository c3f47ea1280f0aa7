use Rattle.std.proofs.Common.{◌≡◌, ◌≢◌, ℕ, zero, suc, ◌+◌, ◌-◌, ◌*◌, ◌/◌, ◌%◌, ◌^◌, ◌<◌, ◌≤◌, Bool, false, ◌&&◌, ◌||◌, eqb, ltb, List, [], ◌∷◌, length, get_or, refl, sym, ap, subst, ◌∙◌, arith, inl, inr}
use Rattle.std.proofs.Math.Nat.{pow-suc, mul-le-mul_right}
use Rattle.std.proofs.lemmas.Bool.{cond-true, cond-false, lt-ltb, le-ltb, cases_lt, cases_eq, eq-eqb, ne_eqb}
use Rattle.names_and_numbers.specs.Numerals.{decimal_value}
use Rattle.aiger_text.specs.Columns.{digit_at, low}

-- the digits of three numbers add up so far: the sum of their last digits is `rest` and a carry of 10 ^ place
pub record AddsUp (first second third most : List ℕ) (place carry : ℕ) (above : Bool) : Type 0 where
  pub rest : ℕ
  pub sum : carry * 10 ^ place + rest ≡ low place first + (low place second + low place third)
  pub small : rest < 10 ^ place
  pub carry_small : carry ≤ 2
  pub most_small : low place most < 10 ^ place
  pub above_is : above ≡ ltb (low place most) rest

-- digits before the first one are 0
digit-above : (word : List ℕ) (place : ℕ) → length word ≤ place → digit_at word place ≡ 0
digit-above word place h = cond-false (ltb place (length word)) (get_or word (length word - 1 - place) 48 - 48) 0 (le-ltb place (length word) h)

digit-first : (c : ℕ) (cs : List ℕ) → digit_at (c ∷ cs) (length cs) ≡ c - 48
digit-first c cs =
    let zeroth : suc (length cs) - 1 - length cs ≡ 0 = omega arith in
    cond-true (ltb (length cs) (suc (length cs))) (get_or (c ∷ cs) (suc (length cs) - 1 - length cs) 48 - 48) 0 (lt-ltb (length cs) (suc (length cs)) (omega arith))
    ∙ ap (λ k. get_or (c ∷ cs) k 48 - 48) zeroth

digit-rest : (c : ℕ) (cs : List ℕ) (place : ℕ) → place < length cs → digit_at (c ∷ cs) place ≡ digit_at cs place
digit-rest c cs place h =
    let next : suc (length cs) - 1 - place ≡ suc (length cs - 1 - place) = omega arith in
    cond-true (ltb place (suc (length cs))) (get_or (c ∷ cs) (suc (length cs) - 1 - place) 48 - 48) 0 (lt-ltb place (suc (length cs)) (omega arith))
    ∙ ap (λ k. get_or (c ∷ cs) k 48 - 48) next
    ∙ sym (cond-true (ltb place (length cs)) (get_or cs (length cs - 1 - place) 48 - 48) 0 (lt-ltb place (length cs) h))

low-rest : (c : ℕ) (cs : List ℕ) (place : ℕ) → place ≤ length cs → low place (c ∷ cs) ≡ low place cs
low-rest c cs zero h = refl
low-rest c cs (suc place) h =
    let before : low place (c ∷ cs) ≡ low place cs = low-rest c cs place (omega arith) in
    let digit : digit_at (c ∷ cs) place ≡ digit_at cs place = digit-rest c cs place (omega arith) in
    ap (λ n. n + digit_at (c ∷ cs) place * 10 ^ place) before ∙ ap (λ d. low place cs + d * 10 ^ place) digit

-- all digits write the number
pub low-all : (word : List ℕ) → low (length word) word ≡ decimal_value word
low-all [] = refl
low-all (c ∷ cs) =
    let first : digit_at (c ∷ cs) (length cs) ≡ c - 48 = digit-first c cs in
    let rest : low (length cs) (c ∷ cs) ≡ decimal_value cs = low-rest c cs (length cs) (omega arith) ∙ low-all cs in
    ap (λ d. low (length cs) (c ∷ cs) + d * 10 ^ length cs) first ∙ ap (λ n. n + (c - 48) * 10 ^ length cs) rest
    ∙ swap (decimal_value cs) ((c - 48) * 10 ^ length cs)
  where
    swap : (a b : ℕ) → a + b ≡ b + a
    swap a b = omega arith

low-above : (word : List ℕ) (more : ℕ) → low (length word + more) word ≡ decimal_value word
low-above word zero = let e : length word + 0 ≡ length word = omega arith in ap (λ n. low n word) e ∙ low-all word
low-above word (suc more) =
    let e : length word + suc more ≡ suc (length word + more) = omega arith in
    let none : digit_at word (length word + more) ≡ 0 = digit-above word (length word + more) (omega arith) in
    let add : low (length word + more) word + 0 * 10 ^ (length word + more) ≡ low (length word + more) word = omega arith in
    ap (λ n. low n word) e ∙ ap (λ d. low (length word + more) word + d * 10 ^ (length word + more)) none ∙ add ∙ low-above word more

pub low-long : (word : List ℕ) (places : ℕ) → length word ≤ places → low places word ≡ decimal_value word
low-long word places h =
    let e : places ≡ length word + (places - length word) = omega arith in
    ap (λ n. low n word) e ∙ low-above word (places - length word)

raised : (x y p : ℕ) → x < y → x * p + p ≤ y * p
raised x y p h =
    let h' : x + 1 ≤ y = omega arith in
    let m : (x + 1) * p ≤ y * p = mul-le-mul_right p h' in
    omega (arith, m)

-- the comparison of two numbers by a digit and what follows
same_digits : (p own other a b : ℕ) → own ≡ other → ltb (b + other * p) (a + own * p) ≡ ltb b a
same_digits p own other a b e =
    let products : own * p ≡ other * p = ap (λ n. n * p) e in
    elim (cases_lt b a) [
      | inl less ↦ lt-ltb (b + other * p) (a + own * p) (omega (arith, products)) ∙ sym (lt-ltb b a less)
      | inr more ↦ le-ltb (b + other * p) (a + own * p) (omega (arith, products)) ∙ sym (le-ltb b a more)
    ]

compare : (p own other a b : ℕ) → a < p → b < p → ltb (b + other * p) (a + own * p) ≡ (ltb other own || (eqb own other && ltb b a))
compare p own other a b ha hb = elim (cases_eq own other) [
  | inl e ↦
      same_digits p own other a b e
      ∙ sym (ap (λ t. t || (eqb own other && ltb b a)) (le-ltb other own (omega (arith, e))) ∙ ap (λ t. false || (t && ltb b a)) (eq-eqb own other e))
  | inr ne ↦ elim (cases_lt other own) [
    | inl less ↦
        lt-ltb (b + other * p) (a + own * p) (omega (arith, raised other own p less, hb))
        ∙ sym (ap (λ t. t || (eqb own other && ltb b a)) (lt-ltb other own less))
    | inr more ↦
        let apart : own ≢ other = ne in
        let less : own < other = omega arith in
        le-ltb (b + other * p) (a + own * p) (omega (arith, raised own other p less, ha))
        ∙ sym (ap (λ t. t || (eqb own other && ltb b a)) (le-ltb other own more) ∙ ap (λ t. false || (t && ltb b a)) (ne_eqb own other ne))
  ]
]

module _ (first second third most : List ℕ) where
  pub adds_more : (place carry : ℕ) (above : Bool) (a b c own : ℕ) → a < 10 → b < 10 → c < 10 → own < 10
      → a ≡ digit_at first place → b ≡ digit_at second place → c ≡ digit_at third place → own ≡ digit_at most place
      → AddsUp first second third most place carry above
      → AddsUp first second third most (place + 1) ((a + b + c + carry) / 10) (ltb own ((a + b + c + carry) % 10) || (eqb ((a + b + c + carry) % 10) own && above))
  adds_more place carry above a b c own ha hb hc hown ea eb ec eown s =
      let q : ℕ = (a + b + c + carry) / 10 in
      let r : ℕ = (a + b + c + carry) % 10 in
      let power : 10 ^ suc place ≡ 10 ^ place * 10 = pow-suc 10 place in
      let one : suc place ≡ place + 1 = omega arith in
      let total : a + b + c + carry ≡ q * 10 + r = omega arith in
      let small_r : r < 10 = omega arith in
      let small_q : q ≤ 2 = let carry_small : carry ≤ 2 = s.carry_small in omega arith in
      let products : (a + b + c + carry) * 10 ^ place ≡ (q * 10 + r) * 10 ^ place = ap (λ n. n * 10 ^ place) total in
      let d1 : a * 10 ^ place ≡ digit_at first place * 10 ^ place = ap (λ n. n * 10 ^ place) ea in
      let d2 : b * 10 ^ place ≡ digit_at second place * 10 ^ place = ap (λ n. n * 10 ^ place) eb in
      let d3 : c * 10 ^ place ≡ digit_at third place * 10 ^ place = ap (λ n. n * 10 ^ place) ec in
      let d4 : own * 10 ^ place ≡ digit_at most place * 10 ^ place = ap (λ n. n * 10 ^ place) eown in
      let before : carry * 10 ^ place + s.rest ≡ low place first + (low place second + low place third) = s.sum in
      let powers : q * 10 ^ suc place ≡ q * (10 ^ place * 10) = ap (λ n. q * n) power in
      let rest_small : s.rest < 10 ^ place = s.small in
      let most_small : low place most < 10 ^ place = s.most_small in
      let bound : r * 10 ^ place + 10 ^ place ≤ 10 * 10 ^ place = raised r 10 (10 ^ place) small_r in
      let bound' : own * 10 ^ place + 10 ^ place ≤ 10 * 10 ^ place = raised own 10 (10 ^ place) hown in
      subst (λ (n : ℕ). AddsUp first second third most n q (ltb own r || (eqb r own && above))) one (record {
        rest = s.rest + r * 10 ^ place;
        sum = let goal : q * 10 ^ suc place + (s.rest + r * 10 ^ place)
            ≡ low place first + digit_at first place * 10 ^ place + (low place second + digit_at second place * 10 ^ place + (low place third + digit_at third place * 10 ^ place)) =
            omega (arith, products, d1, d2, d3, before, powers) in goal;
        small = let goal : s.rest + r * 10 ^ place < 10 ^ suc place = omega (arith, bound, rest_small, power) in goal;
        carry_small = small_q;
        most_small = let goal : low place most + digit_at most place * 10 ^ place < 10 ^ suc place = omega (arith, bound', most_small, power, d4) in goal;
        above_is =
            ap (λ t. ltb own r || (eqb r own && t)) s.above_is
            ∙ sym (compare (10 ^ place) r own s.rest (low place most) rest_small most_small)
            ∙ ap (λ n. ltb n (s.rest + r * 10 ^ place)) (ap (λ n. low place most + n) d4);
      })

  pub adds_up : (places carry : ℕ) (above : Bool) → length first ≤ places → length second ≤ places → length third ≤ places → length most ≤ places
      → AddsUp first second third most places carry above
      → (ltb 0 carry || above) ≡ ltb (decimal_value most) (decimal_value first + (decimal_value second + decimal_value third))
  adds_up places carry above h1 h2 h3 h4 s =
      let e1 : low places first ≡ decimal_value first = low-long first places h1 in
      let e2 : low places second ≡ decimal_value second = low-long second places h2 in
      let e3 : low places third ≡ decimal_value third = low-long third places h3 in
      let e4 : low places most ≡ decimal_value most = low-long most places h4 in
      let sum : carry * 10 ^ places + s.rest ≡ low places first + (low places second + low places third) = s.sum in
      let most_small : low places most < 10 ^ places = s.most_small in
      elim (cases_lt 0 carry) [
        | inl some ↦
            let more : 0 * 10 ^ places + 10 ^ places ≤ carry * 10 ^ places = raised 0 carry (10 ^ places) some in
            ap (λ t. t || above) (lt-ltb 0 carry some)
            ∙ sym (lt-ltb (decimal_value most) (decimal_value first + (decimal_value second + decimal_value third)) (omega (arith, more, sum, most_small, e1, e2, e3, e4)))
        | inr none ↦
            let zero_carry : carry ≡ 0 = omega arith in
            let nothing : carry * 10 ^ places ≡ 0 * 10 ^ places = ap (λ n. n * 10 ^ places) zero_carry in
            let all : s.rest ≡ decimal_value first + (decimal_value second + decimal_value third) = omega (arith, nothing, sum, e1, e2, e3) in
            ap (λ t. t || above) (le-ltb 0 carry none) ∙ s.above_is
            ∙ ap (λ n. ltb n s.rest) e4 ∙ ap (ltb (decimal_value most)) all
      ]
