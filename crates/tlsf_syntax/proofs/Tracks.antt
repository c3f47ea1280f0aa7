-- The frames give each number of written nesting.
use Rattle.std.proofs.Common.{◌≡◌, ◌<◌, ◌≤◌, ℕ, zero, suc, ◌+◌, Bool, true, false, cond, nat_lt, List, [], ◌∷◌, length, take, drop, get_or, inl, inr, IsTrue, ◌-◌, Option, Some, sym, ◌∙◌, ap, subst, arith}
use Rattle.std.proofs.Math.Seq.{drop-cons}
use Rattle.std.proofs.lemmas.List.{take_all, length-drop}
use Rattle.std.proofs.lemmas.Bool.{cases_lt, le-ltb}
use Rattle.tlsf_syntax.specs.Nesting.{role_of, first_of, nesting_of, first_deep}
use Rattle.tlsf_syntax.specs.Frames.{frame_number, frames_after}
use Rattle.tlsf_syntax.specs.declared.nesting.Frame.{Frame}
use Rattle.tlsf_tokens.specs.declared.symbol.Symbol.{Symbol}
use Rattle.tlsf_syntax.specs.declared.nesting.Role.{Role}
use Rattle.tlsf_syntax.specs.declared.nesting.Role.TheVariants.{Open, Close, Separator, Right, Prefix, Operator, Other}

-- what the frames count, with so many brackets passed over
abbrev value : List Frame → ℕ → Bool → Bool → ℕ
value [] closed right prefix = 0
value (f ∷ fs) zero right prefix = cond right f.right 0 + cond prefix f.prefix 0 + f.outside
value (f ∷ fs) (suc closed) right prefix = value fs closed right prefix

step_same : (role : Role) (before : List Role) (f : Frame) (fs : List Frame) → ((closed : ℕ) (right prefix : Bool) → nesting_of before closed right prefix ≡ value (f ∷ fs) closed right prefix)
    → (closed : ℕ) (right prefix : Bool) → nesting_of (role ∷ before) closed right prefix ≡ value (frames_after role (f ∷ fs)) closed right prefix
step_same Open before f fs h zero true true = omega (arith, h zero true true)
step_same Open before f fs h zero true false = omega (arith, h zero true true)
step_same Open before f fs h zero false true = omega (arith, h zero true true)
step_same Open before f fs h zero false false = omega (arith, h zero true true)
step_same Open before f fs h (suc c) r p = h c r p
step_same Close before f [] h zero true true = h 1 true true
step_same Close before f [] h zero true false = h 1 true false
step_same Close before f [] h zero false true = h 1 false true
step_same Close before f [] h zero false false = h 1 false false
step_same Close before f [] h (suc c) r p = h (suc (suc c)) r p
step_same Close before f (g ∷ fs) h c r p = h (suc c) r p
step_same Separator before f fs h zero true true = omega (arith, h zero false false)
step_same Separator before f fs h zero true false = omega (arith, h zero false false)
step_same Separator before f fs h zero false true = omega (arith, h zero false false)
step_same Separator before f fs h zero false false = omega (arith, h zero false false)
step_same Separator before f fs h (suc c) r p = h (suc c) r p
step_same Right before f fs h zero true true = omega (arith, h zero true false)
step_same Right before f fs h zero true false = omega (arith, h zero true false)
step_same Right before f fs h zero false true = omega (arith, h zero false false)
step_same Right before f fs h zero false false = omega (arith, h zero false false)
step_same Right before f fs h (suc c) r p = h (suc c) r p
step_same Prefix before f fs h zero true true = omega (arith, h zero true true)
step_same Prefix before f fs h zero true false = omega (arith, h zero true false)
step_same Prefix before f fs h zero false true = omega (arith, h zero false true)
step_same Prefix before f fs h zero false false = omega (arith, h zero false false)
step_same Prefix before f fs h (suc c) r p = h (suc c) r p
step_same Operator before f fs h zero true true = omega (arith, h zero true false)
step_same Operator before f fs h zero true false = omega (arith, h zero true false)
step_same Operator before f fs h zero false true = omega (arith, h zero false false)
step_same Operator before f fs h zero false false = omega (arith, h zero false false)
step_same Operator before f fs h (suc c) r p = h (suc c) r p
step_same Other before f fs h zero r p = h zero r p
step_same Other before f fs h (suc c) r p = h (suc c) r p

-- The symbols up to a place left these frames, and what is left of the search is the search from the place on.
pub record Follows (symbols : List Symbol) (i : ℕ) (stack : List Frame) : Type 0 where
  pub before : List Role
  pub count : length before ≡ i
  pub same : (closed : ℕ) (right prefix : Bool) → nesting_of before closed right prefix ≡ value stack closed right prefix
  pub rest : first_deep 128 [] symbols ≡ first_deep 128 before (drop i symbols)

rest_is : (symbols : List Symbol) (i : ℕ) → take (length symbols - i) (drop i symbols) ≡ drop i symbols
rest_is symbols i = let l : length (drop i symbols) ≤ length symbols - i = simp length-drop (omega arith) in take_all (length symbols - i) (drop i symbols) l

pub not_deep : (r : Bool) (n : ℕ) → ((IsTrue r → 128 < n) × (128 < n → IsTrue r)) → r ≡ false → n ≤ 128
not_deep r n h e = elim (cases_lt 128 n) [ inl l ↦ let t : IsTrue false = subst IsTrue e (h.1 l) in absurd (cc) | inr l ↦ l ]

-- one symbol further
module _ (symbols : List Symbol) (i : ℕ) (d : Symbol) (next : Option Symbol) (f : Frame) (fs : List Frame)
    (follows : Follows symbols i (f ∷ fs)) (low : i < length symbols) (then : next ≡ first_of (take (length symbols - (i + 1)) (drop (i + 1) symbols))) where
  number_is : nesting_of (role_of (get_or symbols i d) next ∷ follows.before) zero true true ≡ value (frames_after (role_of (get_or symbols i d) next) (f ∷ fs)) zero true true
  number_is = step_same (role_of (get_or symbols i d) next) follows.before f fs follows.same zero true true

  unfolds : first_deep 128 [] symbols
      ≡ cond (nat_lt 128 (nesting_of (role_of (get_or symbols i d) next ∷ follows.before) zero true true)) (Some (length follows.before)) (first_deep 128 (role_of (get_or symbols i d) next ∷ follows.before) (drop (i + 1) symbols))
  unfolds =
      let e : drop i symbols ≡ get_or symbols i d ∷ drop (i + 1) symbols = let n : i + 1 ≡ suc i = omega arith in rw n (drop-cons symbols i d low) in
      let g : first_of (drop (i + 1) symbols) ≡ next = sym (then ∙ ap first_of (rest_is symbols (i + 1))) in
      follows.rest ∙ ap (first_deep 128 follows.before) e ∙ ap (λ (n : Option Symbol). cond (nat_lt 128 (nesting_of (role_of (get_or symbols i d) n ∷ follows.before) zero true true)) (Some (length follows.before))
      (first_deep 128 (role_of (get_or symbols i d) n ∷ follows.before) (drop (i + 1) symbols))) g

  pub goes_on : (g : Frame) (gs : List Frame) → g ∷ gs ≡ frames_after (role_of (get_or symbols i d) next) (f ∷ fs) → frame_number g ≤ 128 → Follows symbols (i + 1) (g ∷ gs)
  goes_on g gs e l =
      let n : nesting_of (role_of (get_or symbols i d) next ∷ follows.before) zero true true ≡ frame_number g = number_is ∙ ap (λ (x : List Frame). value x zero true true) (sym e) in
      let b : nat_lt 128 (nesting_of (role_of (get_or symbols i d) next ∷ follows.before) zero true true) ≡ false = rw n (le-ltb 128 (frame_number g) l) in
      record {
        before = role_of (get_or symbols i d) next ∷ follows.before;
        count = let k : length follows.before ≡ i = follows.count in omega arith;
        same = λ closed right prefix. rw e (step_same (role_of (get_or symbols i d) next) follows.before f fs follows.same closed right prefix);
        rest = unfolds ∙ ap (λ (v : Bool). cond v (Some (length follows.before)) (first_deep 128 (role_of (get_or symbols i d) next ∷ follows.before) (drop (i + 1) symbols))) b;
      }
