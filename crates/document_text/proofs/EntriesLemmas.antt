-- The first entries of a text.
use Rattle.std.proofs.Common.{◌≡◌, ℕ, suc, ◌+◌, ◌-◌, ◌<◌, ◌≤◌, List, [], ◌∷◌, ◌++◌, length, take, drop, refl, sym, ap, subst, ◌∙◌, arith, append_assoc}
use Rattle.std.proofs.lemmas.List.{append-nil, length-append, length-drop, take_all}
use Rattle.std.proofs.Math.Seq.{drop-append_seam}
use Rattle.refutation_log.specs.declared.entries.Entry.{Entry}
use Rattle.refutation_log.specs.Text.{entry_line, log_text}
use Rattle.refutation_log.specs.Read.{StatesEntry, StatesEntries, IsReadAs, IsBadLine}
use Rattle.refutation_log.proofs.Words.{entry_same}
use Rattle.document_text.specs.Logs.{NoEntry, AreFirstEntries}

-- ---- one entry

-- a line isn't empty
pub line_length : (e : Entry) → 0 < length (entry_line e)
line_length e = rw length-append (omega arith)

one_by : (vars : ℕ) (bytes : List ℕ) (xs : List Entry) (e : Entry) (rest : List ℕ) → StatesEntries vars bytes (xs ++ e ∷ []) rest → length (xs ++ e ∷ []) ≡ 1
    → StatesEntry vars bytes e rest
one_by vars bytes [] e rest h one =
    record { writable = h.writable 0 e (omega arith); text = h.text ∙ ap (λ (t : List ℕ). t ++ rest) (append-nil (entry_line e)) }
one_by vars bytes (x ∷ xs) e rest h one = let n : length (xs ++ e ∷ []) ≡ length xs + 1 = length-append xs (e ∷ []) in absurd (omega (arith, n, one))

-- the one entry that was read, and what is behind its bytes
pub one_entry : (vars used : ℕ) (bytes : List ℕ) (es xs : List Entry) (e : Entry) → IsReadAs vars 1 bytes es used → es ≡ xs ++ e ∷ []
    → StatesEntry vars bytes e (take (length bytes - used) (drop used bytes))
one_entry vars used bytes es xs e read are =
    let rest : List ℕ = read.stated.0 in
    let stated : StatesEntries vars bytes es read.stated.0 = read.stated.1 in
    let one : length (xs ++ e ∷ []) ≡ 1 = ap length (sym are) ∙ read.so_many in
    let behind : drop used bytes ≡ read.stated.0 =
    (λ k. drop (read.bytes_of_lines k) (stated.text k)) ∙ drop-append_seam (log_text es) read.stated.0 in
    let whole : take (length bytes - used) (drop used bytes) ≡ drop used bytes = take_all (length bytes - used) (drop used bytes) (omega (arith, length-drop used bytes)) in
    subst (λ (r : List ℕ). StatesEntry vars bytes e r) (sym (whole ∙ behind))
    (one_by vars bytes xs e read.stated.0 (subst (λ (es : List Entry). StatesEntries vars bytes es read.stated.0) are stated) one)

-- no entry's line comes first where the first line is bad, or there is none
pub none_at_bad : (vars n : ℕ) (bytes : List ℕ) → IsBadLine vars 1 bytes n → NoEntry vars bytes
none_at_bad vars n bytes bad = by bad.before bad.stated (omega (arith, bad.number, bad.wanted)) bad.no_entry
  where
    by : (before : List Entry) → StatesEntries vars bytes before bad.left → length before ≡ 0 → NoEntry vars bad.left → NoEntry vars bytes
    by [] stated none never = subst (λ (b : List ℕ). NoEntry vars b) (sym stated.text) never
    by (x ∷ xs) stated none never = absurd (omega arith)

-- ---- the first entries are one list

-- the entries behind the first
behind_first : (vars : ℕ) (bytes : List ℕ) (x : Entry) (xs : List Entry) (rest : List ℕ) → StatesEntries vars bytes (x ∷ xs) rest
    → StatesEntry vars bytes x (log_text xs ++ rest)
behind_first vars bytes x xs rest h = record { writable = h.writable 0 x (omega arith); text = h.text ∙ append_assoc (entry_line x) (log_text xs) rest }

others : (vars : ℕ) (bytes : List ℕ) (x : Entry) (xs : List Entry) (rest : List ℕ) → StatesEntries vars bytes (x ∷ xs) rest
    → StatesEntries vars (log_text xs ++ rest) xs rest
others vars bytes x xs rest h = record { writable = λ k d less. h.writable (suc k) d (omega arith); text = refl }

-- where no entry's line comes behind some entries, no more are stated
pub no_more : (vars : ℕ) (bytes : List ℕ) (xs ys : List Entry) (r s : List ℕ) → StatesEntries vars bytes xs r → NoEntry vars r → StatesEntries vars bytes ys s
    → length ys ≤ length xs
no_more vars bytes xs [] r s h none g = omega arith
no_more vars bytes [] (y ∷ ys) r s h none g =
    absurd (none y (log_text ys ++ s) (subst (λ (b : List ℕ). StatesEntry vars b y (log_text ys ++ s)) h.text (behind_first vars bytes y ys s g)))
no_more vars bytes (x ∷ xs) (y ∷ ys) r s h none g =
    let same = entry_same vars bytes x y (log_text xs ++ r) (log_text ys ++ s) (behind_first vars bytes x xs r h) (behind_first vars bytes y ys s g) in
    let le = no_more vars (log_text xs ++ r) xs ys r s (others vars bytes x xs r h) none
    (subst (λ (b : List ℕ). StatesEntries vars b ys s) (sym same.1) (others vars bytes y ys s g)) in
    omega (arith, le)

-- as many entries are the same ones, with the same bytes behind them
pub as_many : (vars : ℕ) (bytes : List ℕ) (xs ys : List Entry) (r s : List ℕ) → StatesEntries vars bytes xs r → StatesEntries vars bytes ys s → length xs ≡ length ys
    → (xs ≡ ys) × (r ≡ s)
as_many vars bytes [] [] r s h g n = (refl, sym h.text ∙ g.text)
as_many vars bytes [] (y ∷ ys) r s h g n = absurd (omega arith)
as_many vars bytes (x ∷ xs) [] r s h g n = absurd (omega arith)
as_many vars bytes (x ∷ xs) (y ∷ ys) r s h g n =
    let same = entry_same vars bytes x y (log_text xs ++ r) (log_text ys ++ s) (behind_first vars bytes x xs r h) (behind_first vars bytes y ys s g) in
    let k = as_many vars (log_text xs ++ r) xs ys r s (others vars bytes x xs r h)
    (subst (λ (b : List ℕ). StatesEntries vars b ys s) (sym same.1) (others vars bytes y ys s g)) (omega (arith, n)) in
    (λ i. same.0 i ∷ k.0 i, k.1)

pub first_same : (vars count : ℕ) (bytes : List ℕ) (xs ys : List Entry) (r s : List ℕ) → AreFirstEntries vars count bytes xs r → AreFirstEntries vars count bytes ys s
    → (xs ≡ ys) × (r ≡ s)
first_same vars count bytes xs ys r s h g = as_many vars bytes xs ys r s h.stated g.stated n
  where
    fewer : (zs ws : List Entry) (t u : List ℕ) → AreFirstEntries vars count bytes zs t → AreFirstEntries vars count bytes ws u → length zs < length ws → ⊥
    fewer zs ws t u a b less =
        let most = b.at_most in
        let le = no_more vars bytes zs ws t u a.stated (a.stop (omega arith)) b.stated in
        omega (arith, le)

    n : length xs ≡ length ys
    n = grind (arith, fewer xs ys r s h g, fewer ys xs s r g h)

-- ---- lines are bytes

pub log_length : (es : List Entry) → length es ≤ length (log_text es)
log_length [] = omega arith
log_length (e ∷ es) =
    let n : length (log_text (e ∷ es)) ≡ length (entry_line e) + length (log_text es) = length-append (entry_line e) (log_text es) in
    let a = line_length e in
    let b = log_length es in
    omega (arith, n, a, b)

pub stated_length : (vars : ℕ) (bytes : List ℕ) (es : List Entry) (rest : List ℕ) → StatesEntries vars bytes es rest → length es + length rest ≤ length bytes
stated_length vars bytes es rest h =
    let n : length bytes ≡ length (log_text es) + length rest = ap length h.text ∙ length-append (log_text es) rest in
    let a = log_length es in
    omega (arith, n, a)
