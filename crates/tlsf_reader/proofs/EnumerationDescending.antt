-- What the descent for enumerations reads, step by step.
use Rattle.std.proofs.Common.{◌≡◌, ◌==◌, ◌||◌, ◌<◌, ◌≤◌, ℕ, suc, ◌+◌, Bool, true, false, cond, List, [], ◌∷◌, ◌++◌, length, get_or, drop, drop-cons, add-one, Option, Some, None, Result, Ok, Err, refl, sym, ap, ◌∙◌, subst, arith, append_assoc}
use Rattle.std.specs.Prelude.{if◌then◌else◌}
use Rattle.std.specs.Option.{is_some}
use Rattle.std.proofs.lemmas.Bool.{eqb-true}
use Rattle.std.proofs.lemmas.List.{append-nil, drop_all}
use Rattle.tlsf_tokens.specs.declared.symbol.Symbol.TheVariants as symbol
use Rattle.tlsf_syntax.specs.Tree as plain
use Rattle.tlsf_syntax.specs.Lexemes.{Lexeme, word_of}
use Rattle.tlsf_syntax.specs.Texts.{digits_bits}
use Rattle.tlsf_syntax.specs.Reading.{Answer, taken, refused, lost, go_on, expect, if_next, from_to}
use Rattle.tlsf_syntax.specs.TextReading.{Value, value_read, valued, goes_on_value, pattern_read, patterns_read, begins_member, members_read}
use Rattle.tlsf_reader.specs.declared.rest.Refusal.{Refusal}
use Rattle.tlsf_reader.specs.Descent.{Eventually, IsRead, Passes, Lacks, Builds}
use Rattle.tlsf_reader.specs.TextDescent.{bits_at, bits_here, AreAppended, LacksBits, GoesOn, value_from, in_front}
use Rattle.tlsf_reader.proofs.Descending.{at_once, same_answers, goes, stops, next_passes, next_other, expect_passes}
use Rattle.tlsf_reader.proofs.Climbing.{read_taken}
use Rattle.tlsf_reader.proofs.TextDescending.{deeper, read_deeper}

-- values

abbrev put_value : List (Option Bool) → Value → List Lexeme → Answer Value
put_value bits v rest = taken (record { bits = bits ++ v.bits; end = v.end }) rest

abbrev whole_value : List (Option Bool) → ℕ → Value
whole_value bits end = record { bits = bits; end = end }

value_begins : (d : ℕ) (before rest : List Lexeme) (l : Lexeme) (bits items : List (Option Bool)) → before ≡ l ∷ rest → bits_at l ≡ Some bits → items ≡ bits → value_read (suc d) before ≡ value_from items l.end d rest
value_begins d before rest l bits items e is same =
    ap (value_read (suc d)) e ∙ ap (λ o. valued o l rest (value_read d)) is ∙ ap (λ (x : List (Option Bool)). value_from x l.end d rest) (sym same)

pub value_starts : (before rest : List Lexeme) (l : Lexeme) (bits items : List (Option Bool)) → before ≡ l ∷ rest → bits_at l ≡ Some bits → items ≡ bits → (a : Answer Value) → Eventually (λ d. value_from items l.end d rest) a
    → Eventually (λ d. value_read d before) a
value_starts before rest l bits items e is same a h = deeper (λ d. value_read d before) (λ d. value_from items l.end d rest) a (λ d. value_begins d before rest l bits items e is same) h

put_twice : (x : Answer Value) (bits more : List (Option Bool)) → go_on (go_on x (put_value more)) (put_value bits) ≡ go_on x (put_value (bits ++ more))
put_twice (taken v rest) bits more = ap (λ (y : List (Option Bool)). taken (whole_value y v.end) rest) (sym (append_assoc bits more v.bits))
put_twice (refused k) bits more = refl
put_twice lost bits more = refl

value_joined : (d : ℕ) (bits more : List (Option Bool)) (end : ℕ) (ls : List Lexeme) → go_on (value_from more end d ls) (put_value bits) ≡ value_from (bits ++ more) end d ls
value_joined d bits more end ls = by (goes_on_value end ls)
  where
    by : (b : Bool) → go_on (cond b (go_on (value_read d ls) (put_value more)) (taken (whole_value more end) ls)) (put_value bits) ≡ cond b (go_on (value_read d ls) (put_value (bits ++ more))) (taken (whole_value (bits ++ more) end) ls)
    by true = put_twice (value_read d ls) bits more
    by false = refl

value_continues : (d : ℕ) (bits : List (Option Bool)) (end : ℕ) (ls : List Lexeme) → goes_on_value end ls ≡ true → value_from bits end d ls ≡ go_on (value_read d ls) (put_value bits)
value_continues d bits end ls e = ap (λ b. cond b (go_on (value_read d ls) (put_value bits)) (taken (whole_value bits end) ls)) e

pub value_more : (before rest : List Lexeme) (l : Lexeme) (bits more items : List (Option Bool)) (end : ℕ) → GoesOn end before l rest → bits_at l ≡ Some more → items ≡ bits ++ more → (a : Answer Value)
    → Eventually (λ d. value_from items l.end d rest) a → Eventually (λ d. value_from bits end d before) a
value_more before rest l bits more items end g is same a h = deeper (λ d. value_from bits end d before) (λ d. value_from items l.end d rest) a by h
  where
    by : (d : ℕ) → value_from bits end (suc d) before ≡ value_from items l.end d rest
    by d = value_continues (suc d) bits end before g.joins ∙ ap (λ x. go_on x (put_value bits)) (value_begins d before rest l more more g.front is refl) ∙ value_joined d bits more l.end rest
        ∙ ap (λ (x : List (Option Bool)). value_from x l.end d rest) (sym same)

pub value_ends : (before : List Lexeme) (bits : List (Option Bool)) (end : ℕ) → goes_on_value end before ≡ false → Eventually (λ d. value_from bits end d before) (taken (whole_value bits end) before)
value_ends before bits end e = at_once _ _ (λ d. ap (λ b. cond b (go_on (value_read d before) (put_value bits)) (taken (whole_value bits end) before)) e)

abbrev value_pattern : ℕ → Value → List Lexeme → Answer plain.Pattern
value_pattern start v rest = taken (record { bits = v.bits; span = from_to start v.end }) rest

pub pattern_done : {Y : Type 0} {view : Y → plain.Pattern} {y : Y} (whole rest before after : List Lexeme) (l : Lexeme) (v : Value) → whole ≡ l ∷ rest → Eventually (λ d. value_read d whole) (taken v before) → after ≡ before
    → view y ≡ record { bits = v.bits; span = from_to l.start v.end } → IsRead view (λ d. pattern_read d whole) after (Ok y)
pattern_done {view = view} {y = y} whole rest before after l v e h same is =
    read_taken (subst (λ ls. Eventually (λ d. pattern_read d whole) (taken (view y) ls)) (sym same) (same_answers (λ d. pattern_read d whole) split (goes (λ d. value_pattern l.start) h (at_once _ _ (λ d. ap (λ p. taken p before) (sym is))))))
  where
    split : (d : ℕ) → pattern_read d whole ≡ go_on (value_read d whole) (value_pattern l.start)
    split d = ap (pattern_read d) e ∙ ap (λ ls. go_on (value_read d ls) (value_pattern l.start)) (sym e)

no_value_here : (ls : List Lexeme) → bits_here ls ≡ None → Eventually (λ d. pattern_read d ls) (refused (length ls))
no_value_here [] e = at_once _ _ (λ d. refl)
no_value_here (l ∷ ls) e = deeper (λ d. pattern_read d (l ∷ ls)) (λ d. go_on (valued (bits_at l) l ls (value_read d)) (value_pattern l.start)) _ (λ d. refl)
    (at_once _ _ (λ d. ap (λ o. go_on (valued o l ls (value_read d)) (value_pattern l.start)) e ∙ ap refused (omega arith)))

pub pattern_refused : {Y : Type 0} {view : Y → plain.Pattern} {after : List Lexeme} {e : Refusal} (before : List Lexeme) → LacksBits before e → IsRead view (λ d. pattern_read d before) after (Err e)
pattern_refused {e = e} before h = record {
  ok = λ y is. absurd (cc);
  err = λ k is. let here : length before ≡ k = cc (h.is) in subst (λ n. Eventually (λ d. pattern_read d before) (refused n)) here (no_value_here before h.none);
}

-- bits that were appended
pub record Appended (o : Option (List (Option Bool))) (before after : List (Option Bool)) : Type 0 where
  pub bits : List (Option Bool)
  pub is : o ≡ Some bits
  pub behind : after ≡ before ++ bits

pub appended : (o : Option (List (Option Bool))) (before after : List (Option Bool)) → AreAppended o before after → Appended o before after
appended None before after h = absurd h
appended (Some bits) before after h = record { bits = bits; is = refl; behind = h }

-- values with commas between

abbrev more_patterns : ℕ → plain.Pattern → List Lexeme → Answer (List plain.Pattern)
more_patterns d p inner = go_on (patterns_read d inner) (λ ps after. taken (p ∷ ps) after)

abbrev after_pattern : ℕ → plain.Pattern → List Lexeme → Answer (List plain.Pattern)
after_pattern d p rest = if_next symbol.Comma rest (λ _ inner. more_patterns d p inner) (taken (p ∷ []) rest)

pub patterns_more : {E : Type 0} {view : E → plain.Pattern} {before rest inner : List Lexeme} {comma : Lexeme} {e : E} → IsRead view (λ d. pattern_read d before) rest (Ok e) → Passes symbol.Comma rest comma inner
    → Builds (in_front view) (λ d. patterns_read d before) (e ∷ []) (λ d. patterns_read d inner)
patterns_more {view = view} {before = before} {rest = rest} {inner = inner} {e = e} h p = record {
  ok = λ ps after on. deeper (λ d. patterns_read d before) (λ d. go_on (pattern_read d before) (after_pattern d)) _ (λ d. refl)
      (goes after_pattern (h.ok e refl) (same_answers _ (λ d. passed d) (goes put on (at_once _ _ (λ d. refl)))));
  err = λ k on. deeper (λ d. patterns_read d before) (λ d. go_on (pattern_read d before) (after_pattern d)) _ (λ d. refl) (goes after_pattern (h.ok e refl) (same_answers _ (λ d. passed d) (stops put on)));
}
  where
    put : ℕ → List plain.Pattern → List Lexeme → Answer (List plain.Pattern)
    put d ps after = taken (view e ∷ ps) after

    passed : (d : ℕ) → after_pattern d (view e) rest ≡ go_on (patterns_read d inner) (put d)
    passed d = next_passes (λ _ i. more_patterns d (view e) i) (taken (view e ∷ []) rest) p

pub patterns_last : {E : Type 0} {view : E → plain.Pattern} {before rest after : List Lexeme} {e : E} → IsRead view (λ d. pattern_read d before) rest (Ok e) → Lacks symbol.Comma rest after
    → Eventually (λ d. patterns_read d before) (taken (view e ∷ []) after)
patterns_last {view = view} {before = before} {rest = rest} {e = e} h p =
    deeper (λ d. patterns_read d before) (λ d. go_on (pattern_read d before) (after_pattern d)) _ (λ d. refl)
    (goes after_pattern (h.ok e refl) (at_once _ _ (λ d. next_other (λ _ i. more_patterns d (view e) i) (λ r. taken (view e ∷ []) r) p)))

pub patterns_refused : {E Y : Type 0} {view : E → plain.Pattern} {seen_as : Y → List plain.Pattern} {before rest after : List Lexeme} {e : Refusal} → IsRead view (λ d. pattern_read d before) rest (Err e)
    → IsRead seen_as (λ d. patterns_read d before) after (Err e)
patterns_refused {before = before} h = record {
  ok = λ y is. absurd (cc);
  err = λ k is. deeper (λ d. patterns_read d before) (λ d. go_on (pattern_read d before) (after_pattern d)) _ (λ d. refl) (stops after_pattern (h.err k (cc)));
}

-- members

abbrev member_of : Lexeme → List plain.Pattern → plain.Member
member_of l ps = record { word = word_of l; values = ps }

abbrev more_members : ℕ → plain.Member → List Lexeme → Answer (List plain.Member)
more_members d m rest = go_on (members_read d rest) (λ ms after. taken (m ∷ ms) after)

abbrev after_member : ℕ → Lexeme → List plain.Pattern → List Lexeme → Answer (List plain.Member)
after_member d l ps rest = if begins_member rest then more_members d (member_of l ps) rest else taken (member_of l ps ∷ []) rest

abbrev member_values : ℕ → Lexeme → Lexeme → List Lexeme → Answer (List plain.Member)
member_values d l _ values_at = go_on (patterns_read d values_at) (after_member d l)

abbrev member_colon : ℕ → Lexeme → List Lexeme → Answer (List plain.Member)
member_colon d l colon_at = expect symbol.Colon colon_at (member_values d l)

pub read_members : {Y : Type 0} {view : Y → List plain.Member} {after : List Lexeme} {r : Result Y Refusal} (before : List Lexeme) → IsRead view (λ d. expect symbol.Ident before (member_colon d)) after r
    → IsRead view (λ d. members_read d before) after r
read_members before h = read_deeper (λ d. members_read d before) (λ d. refl) h

-- a member that was read, and what stands after it
pub record MemberRead (before rest : List Lexeme) (m : plain.Member) : Type 0 where
  pub goes : (a : Answer (List plain.Member)) → Eventually (λ d. if begins_member rest then more_members d m rest else taken (m ∷ []) rest) a → Eventually (λ d. members_read d before) a

pub member_read : {Y : Type 0} {view : Y → List plain.Pattern} {before colon_at values_at rest : List Lexeme} {l colon : Lexeme} {ps : Y} (m : plain.Member) → Passes symbol.Ident before l colon_at → Passes symbol.Colon colon_at colon values_at
    → IsRead view (λ d. patterns_read d values_at) rest (Ok ps) → m ≡ member_of l (view ps) → MemberRead before rest m
member_read {view = view} {before = before} {colon_at = colon_at} {values_at = values_at} {rest = rest} {l = l} {ps = ps} m p q h is = record {
  goes = λ a on. deeper (λ d. members_read d before) (λ d. go_on (patterns_read d values_at) (after_member d l)) a
      (λ d. expect_passes (member_colon d) p ∙ expect_passes (member_values d l) q)
      (goes (λ d. after_member d l) (h.ok ps refl) (subst (λ (x : plain.Member). Eventually (λ d. if begins_member rest then more_members d x rest else taken (x ∷ []) rest) a) is on));
}

pub members_more : {E : Type 0} {view : E → plain.Member} {before rest : List Lexeme} {e : E} → MemberRead before rest (view e) → begins_member rest ≡ true
    → Builds (in_front view) (λ d. members_read d before) (e ∷ []) (λ d. members_read d rest)
members_more {view = view} {rest = rest} {e = e} m b = record {
  ok = λ ms after on. m.goes _ (same_answers _ (λ d. here d) (goes put on (at_once _ _ (λ d. refl))));
  err = λ k on. m.goes _ (same_answers _ (λ d. here d) (stops put on));
}
  where
    put : ℕ → List plain.Member → List Lexeme → Answer (List plain.Member)
    put d ms after = taken (view e ∷ ms) after

    here : (d : ℕ) → (if begins_member rest then more_members d (view e) rest else taken (view e ∷ []) rest) ≡ go_on (members_read d rest) (put d)
    here d = ap (λ b. cond b (more_members d (view e) rest) (taken (view e ∷ []) rest)) b

pub members_last : {E : Type 0} {before rest : List Lexeme} (view : E → plain.Member) (e : E) → MemberRead before rest (view e) → begins_member rest ≡ false → Eventually (λ d. members_read d before) (taken (view e ∷ []) rest)
members_last {rest = rest} view e m b = m.goes _ (at_once _ _ (λ d. ap (λ b. cond b (more_members d (view e) rest) (taken (view e ∷ []) rest)) b))

-- digits 0 and 1

at_digit : (ds : List ℕ) (i : ℕ) → i < length ds → drop i ds ≡ get_or ds i 0 ∷ drop (i + 1) ds
at_digit ds i h = drop-cons ds i 0 h ∙ (rw add-one refl)

-- a digit in front of others
record Digit (d : ℕ) (ds : List ℕ) : Type 0 where
  others : is_some (digits_bits (d ∷ ds)) ≡ is_some (digits_bits ds)
  bits : (more : List (Option Bool)) → digits_bits ds ≡ Some more → digits_bits (d ∷ ds) ≡ Some (Some (d == 49) ∷ more)

zero_bit : (d : ℕ) → (d == 48) ≡ true → (d == 49) ≡ false
zero_bit d e = ap (λ x. x == 49) (eqb-true d 48 e)

digit : (d : ℕ) (ds : List ℕ) → (d == 48 || d == 49) ≡ true → Digit d ds
digit d ds h = by (d == 48) refl (d == 49) refl (digits_bits ds) refl h
  where
    by : (a : Bool) → (d == 48) ≡ a → (b : Bool) → (d == 49) ≡ b → (o : Option (List (Option Bool))) → digits_bits ds ≡ o → (a || b) ≡ true → Digit d ds
    by true e b f None g k = record { others = rw (e, g) refl; bits = λ more i. let e2 : (d == 49) ≡ false = zero_bit d e in rw (e, i, e2) refl }
    by true e b f (Some bs) g k = record { others = rw (e, g) refl; bits = λ more i. let e2 : (d == 49) ≡ false = zero_bit d e in rw (e, i, e2) refl }
    by false e true f None g k = record { others = rw (e, f, g) refl; bits = λ more i. rw (e, f, i) refl }
    by false e true f (Some bs) g k = record { others = rw (e, f, g) refl; bits = λ more i. rw (e, f, i) refl }
    by false e false f o g k = absurd (cc)

no_digit : (d : ℕ) (ds : List ℕ) → (d == 48 || d == 49) ≡ false → is_some (digits_bits (d ∷ ds)) ≡ false
no_digit d ds h = by (d == 48) refl (d == 49) refl h
  where
    by : (a : Bool) → (d == 48) ≡ a → (b : Bool) → (d == 49) ≡ b → (a || b) ≡ false → is_some (digits_bits (d ∷ ds)) ≡ false
    by true e b f k = absurd (cc)
    by false e true f k = absurd (cc)
    by false e false f k = rw (e, f) refl

pub digit_stays : (ds : List ℕ) (i : ℕ) → i < length ds → (get_or ds i 0 == 48 || get_or ds i 0 == 49) ≡ true → is_some (digits_bits (drop i ds)) ≡ is_some (digits_bits (drop (i + 1) ds))
digit_stays ds i h e = let k : Digit (get_or ds i 0) (drop (i + 1) ds) = digit (get_or ds i 0) (drop (i + 1) ds) e in ap (λ x. is_some (digits_bits x)) (at_digit ds i h) ∙ k.others

pub digit_ends : (ds : List ℕ) (i : ℕ) → i < length ds → (get_or ds i 0 == 48 || get_or ds i 0 == 49) ≡ false → is_some (digits_bits (drop i ds)) ≡ false
digit_ends ds i h e = ap (λ x. is_some (digits_bits x)) (at_digit ds i h) ∙ no_digit (get_or ds i 0) (drop (i + 1) ds) e

none_left : (ds : List ℕ) (i : ℕ) → length ds ≤ i → drop i ds ≡ []
none_left ds i h = drop_all i ds h

pub digits_end : (ds : List ℕ) (i : ℕ) → length ds ≤ i → is_some (digits_bits (drop i ds)) ≡ true
digits_end ds i h = ap (λ x. is_some (digits_bits x)) (none_left ds i h)

is_digit : (d : ℕ) (ds : List ℕ) → is_some (digits_bits (d ∷ ds)) ≡ true → (d == 48 || d == 49) ≡ true
is_digit d ds h = by (d == 48 || d == 49) refl
  where
    by : (b : Bool) → (d == 48 || d == 49) ≡ b → b ≡ true
    by true e = refl
    by false e = let never : is_some (digits_bits (d ∷ ds)) ≡ false = no_digit d ds e in absurd (cc)

-- the bits of the digits so far were appended, and those that are left are bits
pub record Appending (ds : List ℕ) (i : ℕ) (before bits : List (Option Bool)) : Type 0 where
  pub digits : is_some (digits_bits (drop i ds)) ≡ true
  pub appended : (more : List (Option Bool)) → digits_bits (drop i ds) ≡ Some more → AreAppended (digits_bits ds) before (bits ++ more)

pub digits_begin : (ds : List ℕ) (before : List (Option Bool)) → is_some (digits_bits ds) ≡ true → Appending ds 0 before before
digits_begin ds before h = record { digits = h; appended = λ more e. subst (λ o. AreAppended o before (before ++ more)) (sym e) refl }

pub digits_push : (ds : List ℕ) (i : ℕ) (before bits all : List (Option Bool)) → i < length ds → all ≡ bits ++ Some (get_or ds i 0 == 49) ∷ [] → Appending ds i before bits → Appending ds (i + 1) before all
digits_push ds i before bits all h e a =
    let d = get_or ds i 0 in
    let front : is_some (digits_bits (get_or ds i 0 ∷ drop (i + 1) ds)) ≡ true = ap (λ x. is_some (digits_bits x)) (sym (at_digit ds i h)) ∙ a.digits in
    let k : Digit (get_or ds i 0) (drop (i + 1) ds) = digit (get_or ds i 0) (drop (i + 1) ds) (is_digit (get_or ds i 0) (drop (i + 1) ds) front) in
    record {
      digits = sym k.others ∙ front;
      appended = λ more is. subst (AreAppended (digits_bits ds) before) (sym (ap (λ x. x ++ more) e ∙ append_assoc bits (Some (get_or ds i 0 == 49) ∷ []) more))
          (a.appended (Some (get_or ds i 0 == 49) ∷ more) (ap digits_bits (at_digit ds i h) ∙ k.bits more is));
    }

pub digits_appended : (ds : List ℕ) (i : ℕ) (before bits : List (Option Bool)) → length ds ≤ i → Appending ds i before bits → AreAppended (digits_bits ds) before bits
digits_appended ds i before bits h a = subst (AreAppended (digits_bits ds) before) (append-nil bits) (a.appended [] (ap digits_bits (none_left ds i h)))
