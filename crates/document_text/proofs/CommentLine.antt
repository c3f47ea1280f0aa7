-- Where a circuit's comment stands: its line and its bytes are no more than the file's bytes.
use Rattle.std.proofs.Common.{◌≡◌, ℕ, ◌+◌, ◌-◌, ◌≤◌, Bool, true, false, cond, Option, Some, None, List, [], ◌∷◌, ◌++◌, length, drop, refl, sym, ap, subst, ◌∙◌, arith}
use Rattle.std.specs.Prelude.{Result, Ok, Err, option_map, codes, unwrap_or, IfSome}
use Rattle.std.specs.List.{join_with_byte, onto_first}
use Rattle.std.specs.Str.{bytes_eq}
use Rattle.std.proofs.lemmas.List.{length-append, length-drop}
use Rattle.std.proofs.lemmas.List.Splits.{join_with_byte-slice_split}
use Rattle.aiger_text.specs.declared.faults.CircuitFault.{CircuitFault}
use Rattle.aiger_text.specs.declared.faults.CircuitFault.TheVariants.{BadHeader, BadLine}
use Rattle.aiger_text.specs.CircuitFile.{File, States, Draft, Body, Names, Ending, Parts, lines_of, and_then, on_line, is_whole, is_nil, with_line, body_from, ending_from, with_symbol, symbol_in, no_names, no_lines, parts_behind, parts_of_lines, circuit_parts, counts_in, header_of}
use Rattle.aiger_text.proofs.Scanning.{HasPiece, has_piece}
use Rattle.document_text.specs.Reading.{begins_without_circuit}
use Rattle.document_text.proofs.LineRead.{behind_is}

-- ---- readings that went well

abbrev fine : {X : Type 0} → X → Result X CircuitFault
fine x = Ok x

went_on : {X Y : Type 0} (next : X → Result Y CircuitFault) (o : Result X CircuitFault) (y : Y) → and_then next o ≡ Ok y → (x : X) × (o ≡ Ok x) × (next x ≡ Ok y)
went_on next (Ok x) y is = (x, refl, is)
went_on next (Err fault) y is = absurd (cc)

value_or : {X : Type 0} → X → Result X CircuitFault → X
value_or d (Ok x) = x
value_or d (Err fault) = d

ok_is : {X : Type 0} (x y : X) (o : Result X CircuitFault) → o ≡ Ok x → o ≡ Ok y → x ≡ y
unfolding value_or
ok_is x y o a b = ap (value_or x) (sym a ∙ b)

-- the number of bytes of pieces
abbrev size : List (List ℕ) → ℕ
size pieces = length (join_with_byte 10 pieces)

size_more : (line next : List ℕ) (rest : List (List ℕ)) → size (line ∷ next ∷ rest) ≡ length line + 1 + size (next ∷ rest)
size_more line next rest =
    let n : size (line ∷ next ∷ rest) ≡ length line + length (10 ∷ join_with_byte 10 (next ∷ rest)) = length-append line (10 ∷ join_with_byte 10 (next ∷ rest)) in
    omega (arith, n)

-- ---- the names

-- the comment's line and its bytes are at most so many
abbrev Fits : ℕ → ℕ → Option (List ℕ) → Type 0
Fits most line comment = IfSome comment (λ comment. line + length comment ≤ most)

fits_more : (few many line : ℕ) (comment : Option (List ℕ)) → few ≤ many → Fits few line comment → Fits many line comment
fits_more few many line None le fits = tt
fits_more few many line (Some comment) le fits = omega arith

last_by : (names : Names) (n most : ℕ) (e : Ending) (b : Bool) → cond b (fine (record { names = names; line = n; comment = None })) (Err (BadLine n)) ≡ Ok e → Fits most e.line e.comment
last_by names n most e true is =
    subst (λ (e : Ending). Fits most e.line e.comment) (ok_is (record { names = names; line = n; comment = None }) e (Ok (record { names = names; line = n; comment = None })) refl is) tt
last_by names n most e false is = absurd (cc)

more_by : (names : Names) (n : ℕ) (line next : List ℕ) (rest : List (List ℕ)) (e : Ending) (b : Bool)
    → ((more : Names) → ending_from more (n + 1) (next ∷ rest) ≡ Ok e → Fits (n + 1 + size (next ∷ rest)) e.line e.comment)
    → cond b (fine (record { names = names; line = n; comment = Some (join_with_byte 10 (next ∷ rest)) }))
    (and_then (λ more. ending_from more (n + 1) (next ∷ rest)) (with_symbol names n (symbol_in names line))) ≡ Ok e
    → Fits (n + size (line ∷ next ∷ rest)) e.line e.comment
more_by names n line next rest e true later is =
    let s = size_more line next rest in
    let here : n + length (join_with_byte 10 (next ∷ rest)) ≤ n + size (line ∷ next ∷ rest) = omega (arith, s) in
    subst (λ (e : Ending). Fits (n + size (line ∷ next ∷ rest)) e.line e.comment)
    (ok_is (record { names = names; line = n; comment = Some (join_with_byte 10 (next ∷ rest)) }) e
    (Ok (record { names = names; line = n; comment = Some (join_with_byte 10 (next ∷ rest)) })) refl is) here
more_by names n line next rest e false later is =
    let s = size_more line next rest in
    let k = went_on (λ (more : Names). ending_from more (n + 1) (next ∷ rest)) (with_symbol names n (symbol_in names line)) e is in
    fits_more (n + 1 + size (next ∷ rest)) (n + size (line ∷ next ∷ rest)) e.line e.comment (omega (arith, s)) (later k.0 k.2)

ending_fits : (names : Names) (n : ℕ) (pieces : List (List ℕ)) (e : Ending) → ending_from names n pieces ≡ Ok e → Fits (n + size pieces) e.line e.comment
ending_fits names n [] e is = absurd (cc)
ending_fits names n (line ∷ []) e is = last_by names n (n + size (line ∷ [])) e (is_nil line) is
ending_fits names n (line ∷ next ∷ rest) e is =
    more_by names n line next rest e (bytes_eq line (codes "c")) (λ more is. ending_fits more (n + 1) (next ∷ rest) e is) is

-- ---- the lines of numbers

next_by : (d : Draft) (n : ℕ) (line : List ℕ) (rest : List (List ℕ)) (b : Body)
    → ((more : Draft) → body_from more (n + 1) rest ≡ Ok b → b.line + size b.rest ≤ n + 1 + size rest)
    → on_line rest n (and_then (λ more. body_from more (n + 1) rest) (with_line d n line)) ≡ Ok b → b.line + size b.rest ≤ n + size (line ∷ rest)
next_by d n line [] b later is = absurd (cc)
next_by d n line (next ∷ rest) b later is =
    let s = size_more line next rest in
    let k = went_on (λ (more : Draft). body_from more (n + 1) (next ∷ rest)) (with_line d n line) b is in
    let le = later k.0 k.2 in
    omega (arith, s, le)

body_by : (d : Draft) (n : ℕ) (line : List ℕ) (rest : List (List ℕ)) (b : Body) (w : Bool)
    → ((more : Draft) → body_from more (n + 1) rest ≡ Ok b → b.line + size b.rest ≤ n + 1 + size rest)
    → cond w (Ok (record { draft = d; line = n; rest = line ∷ rest })) (on_line rest n (and_then (λ more. body_from more (n + 1) rest) (with_line d n line))) ≡ Ok b
    → b.line + size b.rest ≤ n + size (line ∷ rest)
body_by d n line rest b true later is =
    let here : n + size (line ∷ rest) ≤ n + size (line ∷ rest) = omega arith in
    subst (λ (b : Body). b.line + size b.rest ≤ n + size (line ∷ rest))
    (ok_is (record { draft = d; line = n; rest = line ∷ rest }) b (Ok (record { draft = d; line = n; rest = line ∷ rest })) refl is) here
body_by d n line rest b false later is = next_by d n line rest b later is

body_fits : (d : Draft) (n : ℕ) (pieces : List (List ℕ)) (b : Body) → body_from d n pieces ≡ Ok b → b.line + size b.rest ≤ n + size pieces
body_fits d n [] b is = absurd (cc)
body_fits d n (line ∷ rest) b is = body_by d n line rest b (is_whole d) (λ more is. body_fits more (n + 1) rest b is) is

-- ---- the whole file

-- what the lines behind the header state
abbrev after_header : Draft → List (List ℕ) → Result Parts CircuitFault
after_header d rest =
    and_then (λ (body : Body). and_then (λ (ending : Ending). Ok (record { draft = body.draft; ending = ending }))
    (ending_from (no_names body.draft) body.line body.rest)) (body_from d 2 rest)

behind_fits : (first : List ℕ) (rest : List (List ℕ)) (d : Draft) (p : Parts) → on_line rest 1 (after_header d rest) ≡ Ok p → Fits (1 + size (first ∷ rest)) p.ending.line p.ending.comment
behind_fits first [] d p is = absurd (cc)
behind_fits first (next ∷ rest) d p is =
    let s = size_more first next rest in
    let b = went_on (λ (body : Body). and_then (λ (ending : Ending). fine (record { draft = body.draft; ending = ending })) (ending_from (no_names body.draft) body.line body.rest))
    (body_from d 2 (next ∷ rest)) p is in
    let e = went_on (λ (ending : Ending). fine (record { draft = b.0.draft; ending = ending })) (ending_from (no_names b.0.draft) b.0.line b.0.rest) p b.2 in
    let le = body_fits d 2 (next ∷ rest) b.0 b.1 in
    let here : Fits (1 + size (first ∷ next ∷ rest)) e.0.line e.0.comment =
    fits_more (b.0.line + size b.0.rest) (1 + size (first ∷ next ∷ rest)) e.0.line e.0.comment (omega (arith, s, le)) (ending_fits (no_names b.0.draft) b.0.line b.0.rest e.0 e.1) in
    subst (λ (p : Parts). Fits (1 + size (first ∷ next ∷ rest)) p.ending.line p.ending.comment)
    (ok_is (record { draft = b.0.draft; ending = e.0 }) p (Ok (record { draft = b.0.draft; ending = e.0 })) refl e.2) here

parts_fit : (room : ℕ) (pieces : List (List ℕ)) (p : Parts) → parts_of_lines room pieces ≡ Ok p → Fits (1 + size pieces) p.ending.line p.ending.comment
parts_fit room [] p is = absurd (cc)
parts_fit room (first ∷ rest) p is =
    let k = went_on (λ counts. on_line rest 1 (parts_behind counts rest)) (counts_in room (header_of first)) p is in
    behind_fits first rest (no_lines k.0) p k.2

comment_by : (bytes : List ℕ) (line at : ℕ) (comment : Option (List ℕ)) → option_map (λ (c : List ℕ). length bytes - length c) comment ≡ Some at → Fits (1 + length bytes) line comment
    → line + length (drop at bytes) ≤ length bytes + 1
comment_by bytes line at None is fits = absurd (cc)
comment_by bytes line at (Some comment) is fits =
    let n : length bytes - length comment ≡ at = ap (λ (o : Option ℕ). unwrap_or o 0) is in
    let d : length (drop at bytes) ≡ length bytes - at = length-drop at bytes in
    omega (arith, n, d, fits)

-- the comment's line and its bytes are at most one more than the file's bytes, and it begins within them
pub comment_fits : (bytes : List ℕ) (file : File) (at : ℕ) → States bytes file → file.comment_at ≡ Some at → file.comment_line + length (drop at bytes) ≤ length bytes + 1
comment_fits bytes file at states is =
    let whole : size (lines_of bytes) ≡ length bytes = ap length (join_with_byte-slice_split 10 bytes) in
    let fits : Fits (1 + length bytes) states.parts.ending.line states.parts.ending.comment =
    fits_more (1 + size (lines_of bytes)) (1 + length bytes) states.parts.ending.line states.parts.ending.comment (omega (arith, whole)) (parts_fit (length bytes + 1) (lines_of bytes) states.parts states.lines) in
    let le : states.parts.ending.line + length (drop at bytes) ≤ length bytes + 1 =
    comment_by bytes states.parts.ending.line at states.parts.ending.comment (ap (λ (f : File). f.comment_at) (sym states.file_is) ∙ is) fits in
    subst (λ (n : ℕ). n + length (drop at bytes) ≤ length bytes + 1) (ap (λ (f : File). f.comment_line) (sym states.file_is)) le

-- ---- a circuit doesn't begin as a document without one

no_circuit : (tail : List ℕ) → HasPiece (lines_of tail) → circuit_parts (codes "boundsyn " ++ tail) ≡ Err (BadHeader 1)
no_circuit tail has =
    ap (λ (ps : List (List ℕ)). parts_of_lines (length (codes "boundsyn " ++ tail) + 1)
    (onto_first 98 (onto_first 111 (onto_first 117 (onto_first 110 (onto_first 100 (onto_first 115 (onto_first 121 (onto_first 110 (onto_first 32 ps)))))))))) has.are

begins_by : (bytes : List ℕ) (parts : Parts) (b : Bool) → begins_without_circuit bytes ≡ b → circuit_parts bytes ≡ Ok parts → b ≡ false
begins_by bytes parts true e is =
    let words : bytes ≡ codes "boundsyn " ++ drop 9 bytes = behind_is (codes "boundsyn ") bytes (drop 9 bytes) (ap (λ b. cond b (Some (drop 9 bytes)) None) e) in
    let never : Err (BadHeader 1) ≡ Ok parts = sym (no_circuit (drop 9 bytes) (has_piece (drop 9 bytes))) ∙ ap circuit_parts (sym words) ∙ is in
    absurd (cc)
begins_by bytes parts false e is = refl

pub begins_with_circuit : (bytes : List ℕ) (file : File) → States bytes file → begins_without_circuit bytes ≡ false
begins_with_circuit bytes file states = begins_by bytes states.parts (begins_without_circuit bytes) refl states.lines
