-- Texts that are written part by part.
use Rattle.std.proofs.Common.{◌≡◌, ℕ, ◌+◌, ◌<◌, ◌≤◌, List, [], ◌∷◌, ◌++◌, length, get_or, take, sym, ap, ◌∙◌, arith, append_assoc, decimal}
use Rattle.std.specs.Prelude.{map}
use Rattle.std.proofs.lemmas.List.{append-nil, length-take-le, take_more}
use Rattle.std_lemmas.proofs.Lists.{three_parts, two_parts}
use Rattle.aiger_text.specs.CircuitText.{numbers_line, text_of_lines}
use Rattle.aiger_text.proofs.Lines.{numbers_line-cons, text_more}
use Rattle.truth_witness.specs.Logs.{ObligationLog}
use Rattle.witness_text.specs.Lines.{proof_part, proofs_text}
use Rattle.witness_text.specs.Shown.{with_spaces}

map-append : {X Y : Type 0} (f : X → Y) (xs ys : List X) → map f (xs ++ ys) ≡ map f xs ++ map f ys
map-append f [] ys = λ i. map f ys
map-append f (x ∷ xs) ys = let more : map f (xs ++ ys) ≡ map f xs ++ map f ys = map-append f xs ys in λ i. f x ∷ more i

-- one more line of a list's
pub line_more : {X : Type 0} (f : X → List ℕ) (xs : List X) (i : ℕ) (d : X) (old text new : List ℕ) → i < length xs
    → text ≡ old ++ text_of_lines (map f (take i xs)) → new ≡ text ++ text_of_lines (f (get_or xs i d) ∷ [])
    → new ≡ old ++ text_of_lines (map f (take (i + 1) xs))
line_more f xs i d old text new less before here =
    text_more old text new (map f (take i xs)) (f (get_or xs i d) ∷ []) before here
    ∙ ap (λ (lines : List (List ℕ)). old ++ text_of_lines lines)
    (sym (ap (map f) (take_more xs i d less) ∙ map-append f (take i xs) (get_or xs i d ∷ [])))

-- one more proof
proofs-append : (k : ℕ) (logs : List ObligationLog) (log : ObligationLog) → proofs_text k (logs ++ log ∷ []) ≡ proofs_text k logs ++ proof_part (k + length logs) log
proofs-append k [] log =
    let place : k ≡ k + 0 = omega arith in
    append-nil (proof_part k log) ∙ ap (λ n. proof_part n log) place
proofs-append k (l ∷ logs) log =
    let place : k + 1 + length logs ≡ k + length (l ∷ logs) = omega arith in
    ap (λ (t : List ℕ). proof_part k l ++ t) (proofs-append (k + 1) logs log)
    ∙ sym (append_assoc (proof_part k l) (proofs_text (k + 1) logs) (proof_part (k + 1 + length logs) log))
    ∙ ap (λ n. (proof_part k l ++ proofs_text (k + 1) logs) ++ proof_part n log) place

pub proof_more : (logs : List ObligationLog) (i : ℕ) (d : ObligationLog) (old text new : List ℕ) → i < length logs
    → text ≡ old ++ proofs_text 0 (take i logs) → new ≡ text ++ proof_part i (get_or logs i d) → new ≡ old ++ proofs_text 0 (take (i + 1) logs)
proof_more logs i d old text new less before here =
    let size : length (take i logs) ≡ i = length-take-le i logs (omega (arith, less)) in
    let place : 0 + length (take i logs) ≡ i = omega (arith, size) in
    here ∙ ap (λ (t : List ℕ). t ++ proof_part i (get_or logs i d)) before
    ∙ append_assoc old (proofs_text 0 (take i logs)) (proof_part i (get_or logs i d))
    ∙ ap (λ n. old ++ (proofs_text 0 (take i logs) ++ proof_part n (get_or logs i d))) (sym place)
    ∙ ap (λ (t : List ℕ). old ++ t) (sym (ap (proofs_text 0) (take_more logs i d less) ∙ proofs-append 0 (take i logs) (get_or logs i d)))

-- ---- a row of numbers

spaces_append : (xs ys : List ℕ) → with_spaces (xs ++ ys) ≡ with_spaces xs ++ with_spaces ys
spaces_append [] ys = λ i. with_spaces ys
spaces_append (x ∷ xs) ys =
    ap (λ (t : List ℕ). (32 ∷ decimal x) ++ t) (spaces_append xs ys) ∙ sym (append_assoc (32 ∷ decimal x) (with_spaces xs) (with_spaces ys))

row_more : (first : ℕ) (others xs : List ℕ) → numbers_line (first ∷ (others ++ xs)) ≡ numbers_line (first ∷ others) ++ with_spaces xs
row_more first others xs =
    numbers_line-cons first (others ++ xs) ∙ ap (λ (t : List ℕ). decimal first ++ t) (spaces_append others xs)
    ∙ sym (append_assoc (decimal first) (with_spaces others) (with_spaces xs)) ∙ ap (λ (t : List ℕ). t ++ with_spaces xs) (sym (numbers_line-cons first others))

-- a line of words and numbers
pub line_done : (old words row t1 t2 t3 : List ℕ) → t1 ≡ old ++ words → t2 ≡ t1 ++ row → t3 ≡ t2 ++ 10 ∷ [] → t3 ≡ old ++ text_of_lines ((words ++ row) ∷ [])
line_done old words row t1 t2 t3 e1 e2 e3 =
    e3 ∙ ap (λ (t : List ℕ). t ++ 10 ∷ []) (two_parts old words row t1 t2 e1 e2)
    ∙ append_assoc old (words ++ row) (10 ∷ [])
    ∙ ap (λ (t : List ℕ). old ++ t) (sym (append-nil ((words ++ row) ++ 10 ∷ [])))

-- a part's line, with the bits of its rank and of its index
pub part_done : (old words : List ℕ) (a b c d : ℕ) (xs ys t1 t2 t3 t4 t5 : List ℕ) → t1 ≡ old ++ words → t2 ≡ t1 ++ numbers_line (a ∷ b ∷ c ∷ d ∷ []) → t3 ≡ t2 ++ with_spaces xs
    → t4 ≡ t3 ++ with_spaces ys → t5 ≡ t4 ++ 10 ∷ [] → t5 ≡ old ++ text_of_lines ((words ++ numbers_line (a ∷ b ∷ c ∷ d ∷ (xs ++ ys))) ∷ [])
part_done old words a b c d xs ys t1 t2 t3 t4 t5 e1 e2 e3 e4 e5 =
    let row : numbers_line (a ∷ b ∷ c ∷ d ∷ []) ++ (with_spaces xs ++ with_spaces ys) ≡ numbers_line (a ∷ b ∷ c ∷ d ∷ (xs ++ ys)) =
    ap (λ (t : List ℕ). numbers_line (a ∷ b ∷ c ∷ d ∷ []) ++ t) (sym (spaces_append xs ys)) ∙ sym (row_more a (b ∷ c ∷ d ∷ []) (xs ++ ys)) in
    let here : t4 ≡ t1 ++ numbers_line (a ∷ b ∷ c ∷ d ∷ (xs ++ ys)) =
    three_parts t1 (numbers_line (a ∷ b ∷ c ∷ d ∷ [])) (with_spaces xs) (with_spaces ys) t2 t3 t4 e2 e3 e4 ∙ ap (λ (t : List ℕ). t1 ++ t) row in
    line_done old words (numbers_line (a ∷ b ∷ c ∷ d ∷ (xs ++ ys))) t1 t4 t5 e1 here e5

-- five texts behind another
pub five_parts : (old a b c d e t1 t2 t3 t4 t5 : List ℕ) → t1 ≡ old ++ a → t2 ≡ t1 ++ b → t3 ≡ t2 ++ c → t4 ≡ t3 ++ d → t5 ≡ t4 ++ e → t5 ≡ old ++ (a ++ (b ++ (c ++ (d ++ e))))
five_parts old a b c d e t1 t2 t3 t4 t5 e1 e2 e3 e4 e5 =
    two_parts old a (b ++ (c ++ (d ++ e))) t1 t5 e1 (two_parts t1 b (c ++ (d ++ e)) t2 t5 e2 (three_parts t2 c d e t3 t4 t5 e3 e4 e5))
