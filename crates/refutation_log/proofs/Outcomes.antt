-- What the entry lines at the front of bytes are is determined.
use Rattle.std.proofs.Common.{◌≡◌, ◌≢◌, ℕ, ◌+◌, ◌<◌, ◌≤◌, Bool, true, false, nat_lt, List, [], ◌∷◌, ◌++◌, ◌⊎◌, inl, inr, length, decimal, append_assoc, length-append, refl, sym, ap, ◌∙◌, arith}
use borrow.Author.Tests.{ltb-true, ltb-false}
use Rattle.std.specs.List.{flat_map}
use Rattle.std.proofs.lemmas.List.{append-nil}
use Rattle.std.proofs.lemmas.List.Elements.{All-head, All-tail}
use Rattle.refutation_log.specs.declared.entries.Entry.{Entry}
use Rattle.refutation_log.specs.Text.{literal_word, hint_word, entry_line, log_text, IsWritable}
use Rattle.refutation_log.specs.Read.{StatesEntry, StatesEntries, IsReadAs, IsBadLine, IsTooShort}
use Rattle.refutation_log.proofs.Words.{entry_same}

-- the entries that come after a shorter list of them
record Longer (vars : ℕ) (ds es : List Entry) (r s : List ℕ) : Type 0 where
  more : List Entry
  longer : es ≡ ds ++ more
  stated : StatesEntries vars r more s

longer : (vars : ℕ) (bytes : List ℕ) (ds es : List Entry) (r s : List ℕ) → StatesEntries vars bytes ds r → StatesEntries vars bytes es s → length ds ≤ length es → Longer vars ds es r s
longer vars bytes [] es r s p q le = record { more = es; longer = refl; stated = record { writable = q.writable; text = sym p.text ∙ q.text } }
longer vars bytes (d ∷ ds) [] r s p q le = absurd (omega arith)
longer vars bytes (d ∷ ds) (e ∷ es) r s p q le =
    let one = entry_same vars bytes d e (log_text ds ++ r) (log_text es ++ s)
    (record { writable = All-head (IsWritable vars) d ds p.writable; text = p.text ∙ append_assoc (entry_line d) (log_text ds) r })
    (record { writable = All-head (IsWritable vars) e es q.writable; text = q.text ∙ append_assoc (entry_line e) (log_text es) s }) in
    let rest = longer vars (log_text ds ++ r) ds es r s (record { writable = All-tail (IsWritable vars) d ds p.writable; text = refl })
    (record { writable = All-tail (IsWritable vars) e es q.writable; text = one.1 }) (omega arith) in
    record { more = rest.more; longer = (λ i. sym one.0 i ∷ rest.longer i); stated = rest.stated }

-- where entries come next, an entry does
next_of : (vars : ℕ) (r s : List ℕ) (more : List Entry) → StatesEntries vars r more s → 0 < length more → (e : Entry) × (rest : List ℕ) × StatesEntry vars r e rest
next_of vars r s [] h lt = absurd (omega arith)
next_of vars r s (e ∷ es) h lt =
    (e, log_text es ++ s, record { writable = All-head (IsWritable vars) e es h.writable; text = h.text ∙ append_assoc (entry_line e) (log_text es) s })

line_is_some : (e : Entry) (rest : List ℕ) → [] ≡ entry_line e ++ rest → ⊥
line_is_some e rest h =
    let a = length-append (entry_line e) rest in
    let b = length-append (((((decimal e.by ++ 32 ∷ []) ++ flat_map literal_word e.clause) ++ 48 ∷ 32 ∷ []) ++ flat_map hint_word e.hints)) (48 ∷ 10 ∷ []) in
    omega (arith, a, b, ap length h)

le_cases : (a b : ℕ) → (a ≤ b) ⊎ (b < a)
le_cases a b = by (nat_lt b a) refl
  where
    by : (c : Bool) → nat_lt b a ≡ c → (a ≤ b) ⊎ (b < a)
    by true e = inr (ltb-true b a e)
    by false e = inl (ltb-false b a e)

none_of : (xs : List Entry) → length xs ≡ 0 → xs ≡ []
none_of [] h = refl
none_of (x ∷ xs) h = absurd (omega arith)

pub one_reading : (vars count : ℕ) (bytes : List ℕ) (log other : List Entry) (used used' : ℕ) → IsReadAs vars count bytes log used → IsReadAs vars count bytes other used'
    → (log ≡ other) × (used ≡ used')
one_reading vars count bytes log other used used' p q =
    let a = p.so_many in
    let b = q.so_many in
    let k = longer vars bytes log other p.stated.0 q.stated.0 p.stated.1 q.stated.1 (omega arith) in
    let n : length other ≡ length log + length k.more = ap length k.longer ∙ length-append log k.more in
    let same : log ≡ other = sym (k.longer ∙ ap (λ es. log ++ es) (none_of k.more (omega arith)) ∙ append-nil log) in
    (same, p.bytes_of_lines ∙ ap (λ es. length (log_text es)) same ∙ sym q.bytes_of_lines)

pub read_not_bad : (vars count : ℕ) (bytes : List ℕ) (log : List Entry) (used n : ℕ) → IsReadAs vars count bytes log used → IsBadLine vars count bytes n → ⊥
read_not_bad vars count bytes log used n p q =
    let a = p.so_many in
    let b = q.number in
    let c = q.wanted in
    let k = longer vars bytes q.before log q.left p.stated.0 q.stated p.stated.1 (omega arith) in
    let m : length log ≡ length q.before + length k.more = ap length k.longer ∙ length-append q.before k.more in
    let next = next_of vars q.left p.stated.0 k.more k.stated (omega arith) in
    q.no_entry next.0 next.1 next.2

pub read_not_short : (vars count : ℕ) (bytes : List ℕ) (log : List Entry) (used : ℕ) → IsReadAs vars count bytes log used → IsTooShort vars count bytes → ⊥
read_not_short vars count bytes log used p q =
    let a = p.so_many in
    let b = q.fewer in
    let k = longer vars bytes q.entries log [] p.stated.0 q.stated p.stated.1 (omega arith) in
    let m : length log ≡ length q.entries + length k.more = ap length k.longer ∙ length-append q.entries k.more in
    let next = next_of vars [] p.stated.0 k.more k.stated (omega arith) in
    line_is_some next.0 next.1 next.2.text

no_later_bad : (vars count : ℕ) (bytes : List ℕ) (n m : ℕ) → IsBadLine vars count bytes n → IsBadLine vars count bytes m → n < m → ⊥
no_later_bad vars count bytes n m p q lt =
    let a = p.number in
    let b = q.number in
    let k = longer vars bytes p.before q.before p.left q.left p.stated q.stated (omega arith) in
    let c : length q.before ≡ length p.before + length k.more = ap length k.longer ∙ length-append p.before k.more in
    let next = next_of vars p.left q.left k.more k.stated (omega arith) in
    p.no_entry next.0 next.1 next.2

pub one_bad_line : (vars count : ℕ) (bytes : List ℕ) (n m : ℕ) → IsBadLine vars count bytes n → IsBadLine vars count bytes m → n ≡ m
one_bad_line vars count bytes n m p q =
    let a = no_later_bad vars count bytes n m p q in
    let b = no_later_bad vars count bytes m n q p in
    omega (arith, a, b)

pub bad_not_short : (vars count : ℕ) (bytes : List ℕ) (n : ℕ) → IsBadLine vars count bytes n → IsTooShort vars count bytes → ⊥
bad_not_short vars count bytes n p q = elim (le_cases (length p.before) (length q.entries)) [ inl le ↦ within le | inr lt ↦ beyond lt ]
  where
    after : (left : List ℕ) (more : List Entry) → StatesEntries vars left more [] → left ≢ [] → ((e : Entry) (rest : List ℕ) → StatesEntry vars left e rest → ⊥) → ⊥
    after left [] h some none = some h.text
    after left (e ∷ es) h some none = let next = next_of vars left [] (e ∷ es) h (omega arith) in none next.0 next.1 next.2

    within : length p.before ≤ length q.entries → ⊥
    within le = let k = longer vars bytes p.before q.entries p.left [] p.stated q.stated le in after p.left k.more k.stated p.some_left p.no_entry

    beyond : length q.entries < length p.before → ⊥
    beyond lt =
        let k = longer vars bytes q.entries p.before [] p.left q.stated p.stated (omega arith) in
        let m : length p.before ≡ length q.entries + length k.more = ap length k.longer ∙ length-append q.entries k.more in
        let next = next_of vars [] p.left k.more k.stated (omega arith) in
        line_is_some next.0 next.1 next.2.text
